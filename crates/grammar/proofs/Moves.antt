-- What a derivation does, move for move, told by rules and not by their numbers: so derivations under two grammars can be compared.
use Prim.Native.Nat.{ℕ, suc}
use native.Mathlib.Omega.{arith}
use mathlib.Core.Path.{◌≡◌, refl, sym, ◌∙◌, ap, ap₂}
use mathlib.Core.List.{List, [], ◌∷◌, ◌++◌, Memᴰ, head-eq_of_cons-eq, tail-eq_of_cons-eq, cons≢nil}
use mathlib.Core.Option.{Option, none, some}
use Rattle.grammar.specs.Lists.{Stands}
use Rattle.grammar.specs.Rewriting.{Rule, Lexical, Spine, Symbol, word, nonterminal, Replaces, lexical, spine, Step, Steps, done, next, Derivation}
use Rattle.grammar.specs.Rewriting
use Rattle.grammar.specs.Plan.{right_of}
use Rattle.grammar.proofs.StandsLaws.{some_same}
use Rattle.grammar.proofs.RightSide.{no_word, rule-right}

-- What one step does: the rule by which it replaces, and how many symbols stand before the one that it replaces.
pub record Move : Type 0 where
  pub place : ℕ
  pub rule : Rule

module _ {g : List Rule} where
  abbrev pub rule_by : {p : ℕ} {X : Symbol} {r : List Symbol} → Replaces g p X r → Rule
  rule_by (lexical {A = A} {w = w} s) = Lexical A w
  rule_by (spine {A = A} {D = D} {a = a} {before = before} {after = after} s t) = Spine A a before D after

  abbrev pub move_of : {f f' : List Symbol} → Step g f f' → Move
  move_of (Rewriting.Step.here x) = record { place = 0; rule = rule_by x }
  move_of (Rewriting.Step.later s) = record { place = suc (move_of s).place; rule = (move_of s).rule }

  abbrev pub moves : {f f' : List Symbol} → Steps g f f' → List Move
  moves done = []
  moves (next s ss) = move_of s ∷ moves ss

  pub stands-rule : {p : ℕ} {X : Symbol} {r : List Symbol} (x : Replaces g p X r) → Stands g p (rule_by x)
  stands-rule (lexical s) = s
  stands-rule (spine s t) = s

-- From one form on the moves fix every form, whatever the grammars.
abbrev right_at : Rule → Symbol → Option (List Symbol)
right_at R (word w) = none
right_at R (nonterminal A s) = right_of R A s

right-at : {g : List Rule} {p : ℕ} (X : Symbol) {r : List Symbol} (x : Replaces g p X r) → right_at (rule_by x) X ≡ some r
right-at {g} (word w) x = absurd (no_word g x)
right-at {g} (nonterminal A s) x = rule-right g (rule_by x) x (stands-rule x)

same_step : {g g' : List Rule} {f f' h h' : List Symbol} (s : Step g f h) (t : Step g' f' h') → f ≡ f' → (move_of s).place ≡ (move_of t).place
    → (move_of s).rule ≡ (move_of t).rule → h ≡ h'
same_step (Rewriting.Step.here {X = X} x) (Rewriting.Step.here {X = X'} y) e place rule =
    let right = some_same (sym (right-at X x) ∙ (ap₂ right_at rule (head-eq_of_cons-eq e) ∙ right-at X' y)) in
    ap₂ (λ (r f : List Symbol). r ++ f) right (tail-eq_of_cons-eq e)
same_step (Rewriting.Step.here x) (Rewriting.Step.later t) e place rule = absurd (omega arith)
same_step (Rewriting.Step.later s) (Rewriting.Step.here y) e place rule = absurd (omega arith)
same_step (Rewriting.Step.later s) (Rewriting.Step.later t) e place rule =
    ap₂ (λ (X : Symbol) (f : List Symbol). X ∷ f) (head-eq_of_cons-eq e) (same_step s t (tail-eq_of_cons-eq e) (omega arith) rule)

pub same-moves : {g g' : List Rule} {f f' h h' : List Symbol} (d : Steps g f h) (d' : Steps g' f' h') → f ≡ f' → moves d ≡ moves d' → h ≡ h'
same-moves done done e l = e
same-moves done (next t ts) e l = absurd (cons≢nil (sym l))
same-moves (next s ss) done e l = absurd (cons≢nil l)
same-moves (next s ss) (next t ts) e l =
    let move = head-eq_of_cons-eq l in
    same-moves ss ts (same_step s t e (ap (λ (m : Move). m.place) move) (ap (λ (m : Move). m.rule) move)) (tail-eq_of_cons-eq l)

-- The words have a derivation under the grammar that consists of these moves.
abbrev pub DerivesBy : List Rule → List ℕ → List Move → Type 0
DerivesBy g words l = (d : Derivation g words) × (moves d ≡ l)

-- A derivation under one grammar is one under another that has the rules of its moves, move for move.
module _ {g g' : List Rule} (Kept : Rule → Type 0) (kept : (p : ℕ) (r : Rule) → Stands g p r → Kept r → (q : ℕ) × Stands g' q r) where
  carry-replaces : {p : ℕ} {X : Symbol} {r : List Symbol} (x : Replaces g p X r) → Kept (rule_by x)
      → (q : ℕ) × (y : Replaces g' q X r) × (rule_by y ≡ rule_by x)
  carry-replaces (lexical {p} {A} {w} s) k = let (q, s') = kept p (Lexical A w) s k in (q, lexical s', refl)
  carry-replaces (spine {p} {A} {D} {a} {before} {after} s t) k =
      let (q, s') = kept p (Spine A a before D after) s k in (q, spine s' t, refl)

  carry-step : {f f' : List Symbol} (s : Step g f f') → Kept (move_of s).rule → (t : Step g' f f') × (move_of t ≡ move_of s)
  carry-step (Rewriting.Step.here x) k =
      let (q, y, e) = carry-replaces x k in (Rewriting.Step.here y, ap (λ (r : Rule). record { place = 0; rule = r }) e)
  carry-step (Rewriting.Step.later s) k =
      let (t, e) = carry-step s k in
      (Rewriting.Step.later t, ap (λ (m : Move). record { place = suc m.place; rule = m.rule }) e)

  pub carry : {f f' : List Symbol} (d : Steps g f f') → ((m : Move) → Memᴰ m (moves d) → Kept m.rule)
      → (d' : Steps g' f f') × (moves d' ≡ moves d)
  carry done k = (done, refl)
  carry (next s ss) k =
      let (t, e) = carry-step s (k (move_of s) (Memᴰ.head refl)) in
      let (ts, es) = carry ss (λ m i. k m (Memᴰ.tail i)) in
      (next t ts, ap₂ (λ (m : Move) (l : List Move). m ∷ l) e es)
