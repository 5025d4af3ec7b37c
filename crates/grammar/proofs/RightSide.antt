-- The test's right side of a production is the right side that `Replaces` gives, both ways; so a production's number and the
-- nonterminal fix the right side. Each test on numbers is passed or not, and a test that is not passed leaves `none`.
use Prim.Native.Nat.{ℕ, ◌<◌}
use mathlib.Core.Path.{◌≡◌, refl, sym, ◌∙◌}
use mathlib.Core.Logic.{◌↔◌}
use mathlib.Core.Bool.{Bool, true, false}
use mathlib.Core.List.{List, [], ◌∷◌, ◌++◌}
use mathlib.Core.Option.{Option, none, some}
use lib.Dec.{eqb}
use lib.ListN.{length, get_elem?}
use borrow.Author.Tests.{eqb-true}
use Rattle.grammar.specs.Lists.{Stands}
use Rattle.grammar.specs.Rewriting.{Rule, Lexical, Spine, Action, Take, Keep, Give, Acts, takes, keeps, gives, Symbol, word, nonterminal, sides, Replaces, lexical, spine}
use Rattle.grammar.specs.Plan.{acted, spine_right, word_right, right_of, right_side}
use Rattle.grammar.proofs.ListLaws.{eqb-self}
use Rattle.grammar.proofs.StandsLaws.{stands-get_elem, get_elem-stands, stands-length, none-some, some_same}

-- What stands behind a test, as the test of a plan writes it.
abbrev guarded : {A : Type 0} → Bool → Option A → Option A
guarded b o = elim b [ true ↦ o | false ↦ none ]

guarded-some : {A : Type 0} (b : Bool) (o : Option A) {x : A} → guarded b o ≡ some x → (b ≡ true) × (o ≡ some x)
guarded-some true o h = (refl, h)
guarded-some false o h = absurd (none-some h)

acts-acted : {a : Action} {s t : List ℕ} → Acts a s t → acted a s ≡ some t
acts-acted (takes {g = γ}) = rw (eqb-self γ, acted)
acts-acted keeps = refl
acts-acted gives = refl

acted-acts : (a : Action) (s : List ℕ) {t : List ℕ} → acted a s ≡ some t → Acts a s t
acted-acts (Take γ) [] h = absurd (none-some h)
acted-acts (Take γ) (x ∷ s) h = let (e, d) = guarded-some (eqb γ x) (some s) h in rw (eqb-true γ x e, some_same d) takes
acted-acts Keep s h = rw (some_same h) keeps
acted-acts (Give γ) s h = rw (← some_same h) gives

spine-right : (before : List ℕ) (D : ℕ) (after : List ℕ) (o : Option (List ℕ)) {r : List Symbol} → spine_right before D after o ≡ some r
    → (t : List ℕ) × (o ≡ some t) × (sides before ++ (nonterminal D t ∷ sides after) ≡ r)
spine-right before D after none h = absurd (none-some h)
spine-right before D after (some t) h = (t, refl, some_same h)

module _ (g : List Rule) where
  pub no_word : {p w : ℕ} {r : List Symbol} → Replaces g p (word w) r → ⊥
  no_word x = elim x [ ]

  pub replaces-below : {p : ℕ} {X : Symbol} {r : List Symbol} → Replaces g p X r → p < length g
  replaces-below (lexical x) = stands-length x
  replaces-below (spine x a) = stands-length x

  replaces-right : {p A : ℕ} {s : List ℕ} {r : List Symbol} → Replaces g p (nonterminal A s) r
      → right_side (get_elem? g p) A s ≡ some r
  replaces-right (lexical {A = A} x) = rw (stands-get_elem x, eqb-self A, right_of)
  replaces-right (spine {A = A} x a) = rw (stands-get_elem x, eqb-self A, right_of, acts-acted a)

  -- The rule alone fixes the right side, wherever it stands.
  pub rule-right : {p A : ℕ} {s : List ℕ} {r : List Symbol} (R : Rule) → Replaces g p (nonterminal A s) r → Stands g p R
      → right_of R A s ≡ some r
  rule-right R x at = let e = replaces-right x in rw (stands-get_elem at) at e

  word-replaces : {p A w : ℕ} (s : List ℕ) {r : List Symbol} → Stands g p (Lexical A w) → word_right w s ≡ some r
      → Replaces g p (nonterminal A s) r
  word-replaces [] x h = rw (← some_same h) (lexical x)
  word-replaces (y ∷ s) x h = absurd (none-some h)

  rule-replaces : (R : Rule) {p A : ℕ} {s : List ℕ} {r : List Symbol} → Stands g p R → right_of R A s ≡ some r
      → Replaces g p (nonterminal A s) r
  rule-replaces (Lexical A' w) {A = A} {s = s} x h =
      let (e, d) = guarded-some (eqb A' A) (word_right w s) h in word-replaces s (rw (eqb-true A' A e) at x) d
  rule-replaces (Spine A' a before D after) {A = A} {s = s} x h =
      let (e, d) = guarded-some (eqb A' A) (spine_right before D after (acted a s)) h in
      let (t, b, c) = spine-right before D after (acted a s) d in
      rw (← c) (spine (rw (eqb-true A' A e) at x) (acted-acts a s b))

  right-replaces : {p A : ℕ} {s : List ℕ} {r : List Symbol} (o : Option Rule) → get_elem? g p ≡ o → right_side o A s ≡ some r
      → Replaces g p (nonterminal A s) r
  right-replaces none e h = absurd (none-some h)
  right-replaces {p} (some R) e h = rule-replaces R (get_elem-stands g p e) h

  pub right_side_lem : {p A : ℕ} {s : List ℕ} {r : List Symbol}
      → (right_side (get_elem? g p) A s ≡ some r) ↔ Replaces g p (nonterminal A s) r
  right_side_lem {p} = (right-replaces (get_elem? g p) refl, replaces-right)

  pub replaces-unique : {p : ℕ} (X : Symbol) {r r' : List Symbol} → Replaces g p X r → Replaces g p X r' → r ≡ r'
  replaces-unique (word w) x y = absurd (no_word x)
  replaces-unique (nonterminal A s) x y = some_same (sym (replaces-right x) ∙ replaces-right y)
