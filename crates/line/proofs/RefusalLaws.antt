-- The refusals in their order: each number is the input's where its condition holds and those before it do not.
use Prim.Native.Nat.{ℕ}
use native.Mathlib.Omega.{arith}
use mathlib.Core.Path.{◌≡◌, refl, sym, ◌∙◌}
use mathlib.Core.Bool.{true, false}
use mathlib.Core.List.{List, [], ◌∷◌}
use Rattle.std.proofs.Common.{Err}
use Rattle.layout.specs.Bytes.{all_bytes}
use Rattle.layout.specs.Refusals.{unless}
use Rattle.layout.specs.Card.{card_number}
use Rattle.layout.specs.Line.{is_line_byte, words_of, all_known, words_refusals, line_refusals}
use Rattle.layout.specs.Answers.{input_number, words_in}
use Rattle.layout.proofs.RefusalLaws.{accepts, holding, failing, decides-first, before-accepts}
use Rattle.layout.proofs.Accepting.{input-of-card, input-of-line}
use Rattle.refusals.specs.declared.Refusal.{Refusal}
use Rattle.refusals.specs.declared.Refusal.TheVariants.{StrayByte}
use Rattle.refusals.specs.Number.{number_of}
use Rattle.refusals.proofs.NumberLaws.{numbered}
use Rattle.line.specs.Accepted.{words_number, Accepts}

-- The card comes first.
pub refuses-card : {card line : List ℕ} {refusal : Refusal} → number_of refusal ≡ card_number card → Accepts card line (Err refusal)
refuses-card {card} {line} {refusal} e =
    record {
      number = e ∙ sym (input-of-card card line λ z. omega (arith, e, z, (numbered refusal).0));
      words = tt;
    }

-- An accepted card leaves it to the line: its bytes, and then its words.
pub refuses-byte : (card line : List ℕ) → card_number card ≡ 0 → all_bytes is_line_byte line ≡ false → Accepts card line (Err StrayByte)
refuses-byte card line ok e =
    record {
      number = decides-first (line_refusals card line) (failing e) ∙ sym (input-of-line card line ok);
      words = tt;
    }

-- Where the bytes fit, the words decide.
pub words-decide : (card line : List ℕ) → card_number card ≡ 0 → all_bytes is_line_byte line ≡ true
    → input_number card line ≡ words_number (words_in line) (all_known card (words_of line))
words-decide card line ok e =
    input-of-line card line ok
    ∙ before-accepts (unless (all_bytes is_line_byte line) 22 ∷ []) (words_refusals (words_in line) (all_known card (words_of line))) refl
    (sym (decides-first (unless (all_bytes is_line_byte line) 22 ∷ []) (holding e accepts)))
