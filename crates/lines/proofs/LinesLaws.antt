-- Lines answered one after the other: their texts stand at the start of the buffer, and the lines to come are those of the rest.
use Prim.Native.Nat.{ℕ, suc, ◌+◌, ◌*◌, ◌≤◌}
use native.Mathlib.Omega.{arith}
use mathlib.Core.Path.{◌≡◌, refl, sym, ◌∙◌, ap, subst}
use mathlib.Core.Bool.{Bool, true, false, cond}
use mathlib.Core.List.{List, [], ◌∷◌, ◌++◌, append_assoc, append-nil}
use lib.Dec.{eqb}
use lib.ListN.{length, take}
use Rattle.split.specs.Lines.{newline, in_front, lines_of}
use Rattle.lines_text.proofs.Appending.{appends-within}
use Rattle.lines.specs.Answer.{LineText, Texts, none, more, Answers}
use Rattle.lines.proofs.TextLength.{text-length}

texts-one-more : {card : List ℕ} {lines : List (List ℕ)} {texts : List ℕ} (line text : List ℕ) → Texts card lines texts
    → LineText card line text → Texts card (lines ++ (line ∷ [])) (texts ++ text)
texts-one-more {card} line text none t = subst (Texts card _) (append-nil text) (more text t none)
texts-one-more {card} line text (more first {rest} s ts) t =
    subst (Texts card _) (sym (append_assoc first rest text)) (more first s (texts-one-more line text ts t))

-- The bytes of lines, with a line end for each.
abbrev bytes_of : List (List ℕ) → ℕ
bytes_of [] = 0
bytes_of (line ∷ lines) = length line + 1 + bytes_of lines

front-bytes : (b n : ℕ) (lines : List (List ℕ)) → bytes_of lines ≤ n + 1 → bytes_of (in_front b lines) ≤ n + 2
front-bytes b n [] h = omega arith
front-bytes b n (line ∷ lines) h = omega arith

lines-bytes : (input : List ℕ) → bytes_of (lines_of input) ≤ length input + 1
lines-bytes [] = omega arith
lines-bytes (b ∷ bytes) = go (eqb b newline) (lines-bytes bytes)
  where
    go : (t : Bool) → bytes_of (lines_of bytes) ≤ length bytes + 1
        → bytes_of (cond t ([] ∷ lines_of bytes) (in_front b (lines_of bytes))) ≤ suc (length bytes) + 1
    go true h = omega arith
    go false h = omega (arith, front-bytes b (length bytes) (lines_of bytes) h)

-- All lines but those that are left are answered, in at most 32 bytes of text for each byte of them and for each line end.
pub record SoFar (card input old out : List ℕ) (size : ℕ) (left : List (List ℕ)) : Type 0 where
  pub lines : List (List ℕ)
  pub split : lines_of input ≡ lines ++ left
  pub texts : Texts card lines (take size out)
  pub within : size ≤ length out
  pub short : size + 32 * bytes_of left ≤ 32 * (length input + 1)
  pub same_length : length out ≡ length old

pub none_yet : (card input old : List ℕ) {left : List (List ℕ)} → left ≡ lines_of input → SoFar card input old old 0 left
none_yet card input old e =
    record {
      lines = [];
      split = sym e;
      texts = none;
      within = omega arith;
      short = omega (arith, ap bytes_of e, lines-bytes input);
      same_length = refl;
    }

module _ {card input old out : List ℕ} {size : ℕ} {left : List (List ℕ)} (s : SoFar card input old out size left) where
  pub one_more : {line new : List ℕ} {after : ℕ} {rest : List (List ℕ)} → left ≡ line ∷ rest → Answers card line out size new after
      → SoFar card input old new after rest
  one_more {line} {new} {after} {rest} e a =
      record {
        lines = s.lines ++ (line ∷ []);
        split = s.split ∙ ap (λ (l : List (List ℕ)). s.lines ++ l) e ∙ sym (append_assoc s.lines (line ∷ []) rest);
        texts = subst (Texts card _) (sym a.appends.bytes) (texts-one-more line a.text s.texts a.shows);
        within = appends-within a.appends s.within;
        short = omega (arith, s.short, a.appends.size, text-length card line a.text a.shows, ap bytes_of e);
        same_length = a.appends.same_length ∙ s.same_length;
      }
