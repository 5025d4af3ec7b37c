-- The two sets of names decide 42: each name on the right is on the left exactly when the one set is part of the other. What a set has is what
-- some production gave it, and what each production gives it has. Gathered is what the loop over the productions keeps.
use Prim.Native.Nat.{ℕ, zero, suc, ◌+◌, ◌<◌}
use native.Mathlib.Omega.{arith}
use native.Mathlib.Decide.{ℕ_discrete}
use mathlib.Core.Path.{◌≡◌, refl, sym, ◌∙◌, ap, ap₂, subst}
use mathlib.Core.Bool.{Bool, true, false, false≢true}
use mathlib.Core.Logic.{inl, inr}
use mathlib.Core.List.Memᴰ
use mathlib.Core.List.{List, [], ◌∷◌, Memᴰ}
use borrow.Author.Count.{below_more}
use borrow.Author.Tests.{eqb-true, eq-eqb}
use Rattle.bits.specs.Bits.{bit_of, with_number, with_numbers, is_part}
use Rattle.bits.proofs.BitLaws.{bit_of-zero}
use Rattle.bits.proofs.BitSets.{numbers-kept, numbers-there, numbers-from, part-each, part-lacks, bit-zero-unless}
use Rattle.grammar.specs.Rewriting.{Rule}
use Rattle.grammar.specs.Names.{left_name, right_names, is_left, on_left, live_rule}
use Rattle.grammar.proofs.ListLaws.{in-stands, stands-in, of-all, not-all-of, some_of_lem, of_some}
use Rattle.layout.specs.Card.{production, production_at, production_count, grammar_of, production_fits, productions_fit, names_live}
use Rattle.layout.proofs.TestLaws.{all-below, some_below_lem}
use Rattle.layout.proofs.CountedLaws.{table-stands, stands-below, rule-there}
use Rattle.std.specs.Prelude.{Ok, Err}
use Rattle.refusals.specs.declared.Refusal.TheVariants.{Production}
use Rattle.card.specs.declared.names.Names.{Names}
use Rattle.card.specs.declared.productions.Fields.{Fields}
use Rattle.card.specs.Productions.{FieldsAt, fields_fit}
use Rattle.card.specs.Names.{lefts_below, rights_below, NamesWith, is_live, NamesChecked}
use Rattle.card.proofs.FieldLaws.{fields-same, left-same, right-same}

module _ (card : List ℕ) where
  -- The sets.
  lefts-there : (m k : ℕ) → k < m → bit_of (left_name (production card k)) (lefts_below card m) ≡ 1
  lefts-there zero k h = absurd (omega arith)
  lefts-there (suc m) k h = elim (ℕ_discrete k m) [
    | yes e ↦
        numbers-there (left_name (production card m) ∷ []) (lefts_below card m) (left_name (production card k))
        (Memᴰ.head (ap (λ (j : ℕ). left_name (production card j)) e))
    | no d ↦
        numbers-kept (left_name (production card m) ∷ []) (lefts_below card m) (left_name (production card k)) (lefts-there m k (omega arith))
  ]

  lefts-from : (m q : ℕ) → bit_of q (lefts_below card m) ≡ 1 → (k : ℕ) × (k < m) × (q ≡ left_name (production card k))
  lefts-from zero q o = absurd (omega (arith, bit_of-zero q))
  lefts-from (suc m) q o = elim (numbers-from (left_name (production card m) ∷ []) (lefts_below card m) q o) [
    | inl i ↦ (m, omega arith, Memᴰ.eq_of_singleton i)
    | inr p ↦ let (k, h, e) = lefts-from m q p in (k, omega arith, e)
  ]

  rights-there : (m k q : ℕ) → k < m → Memᴰ q (right_names (production card k)) → bit_of q (rights_below card m) ≡ 1
  rights-there zero k q h i = absurd (omega arith)
  rights-there (suc m) k q h i = elim (ℕ_discrete k m) [
    | yes e ↦
        numbers-there (right_names (production card m)) (rights_below card m) q
        (subst (λ (j : ℕ). Memᴰ q (right_names (production card j))) e i)
    | no d ↦ numbers-kept (right_names (production card m)) (rights_below card m) q (rights-there m k q (omega arith) i)
  ]

  rights-from : (m q : ℕ) → bit_of q (rights_below card m) ≡ 1 → (k : ℕ) × (k < m) × Memᴰ q (right_names (production card k))
  rights-from zero q o = absurd (omega (arith, bit_of-zero q))
  rights-from (suc m) q o = elim (numbers-from (right_names (production card m)) (rights_below card m) q o) [
    | inl i ↦ (m, omega arith, i)
    | inr p ↦ let (k, h, i) = rights-from m q p in (k, omega arith, i)
  ]

  -- The rules of the grammar are the productions.
  abbrev g : List Rule
  g = grammar_of card

  abbrev count : ℕ
  count = production_count card

  there-in : (k : ℕ) → k < count → Memᴰ (production card k) g
  there-in k h = stands-in (table-stands (production card) h)

  in-there : {r : Rule} → Memᴰ r g → (k : ℕ) × (k < count) × (r ≡ production card k)
  in-there i = let (k, s) = in-stands i in (k, stands-below (production card) count k s, rule-there card s)

  left_there : (q : ℕ) → on_left g q ≡ true → bit_of q (lefts_below card count) ≡ 1
  left_there q e =
      let (r, i, t) = of_some (is_left q) g e in
      let (k, h, s) = in-there i in
      subst (λ (x : ℕ). bit_of x (lefts_below card count) ≡ 1) (sym (ap left_name s) ∙ eqb-true (left_name r) q t) (lefts-there count k h)

  left-from : (q : ℕ) → bit_of q (lefts_below card count) ≡ 1 → on_left g q ≡ true
  left-from q o =
      let (k, h, e) = lefts-from count q o in
      some_of_lem (is_left q) g (there-in k h) (eq-eqb (left_name (production card k)) q (sym e))

  pub part-decides : is_part (rights_below card count) (lefts_below card count) ≡ names_live card
  part-decides = go (names_live card) refl
    where
      go : (t : Bool) → names_live card ≡ t → is_part (rights_below card count) (lefts_below card count) ≡ t
      go true e =
          part-each (rights_below card count) (lefts_below card count) λ q o.
          let (k, h, i) = rights-from count q o in
          left_there q (of-all (on_left g) (right_names (production card k)) (of-all (live_rule g) g e (there-in k h)) i)
      go false e =
          let (r, i, dead) = not-all-of (live_rule g) g e in
          let (X, j, none) = not-all-of (on_left g) (right_names r) dead in
          let (k, h, s) = in-there i in
          part-lacks (rights_below card count) (lefts_below card count) X
          (rights-there count k X h (subst (λ (x : Rule). Memᴰ X (right_names x)) s j))
          (bit-zero-unless X (lefts_below card count) λ o. false≢true (sym none ∙ left-from X o))

-- The first m productions fit, and the sets have their names.
pub record Gathered (card : List ℕ) (m : ℕ) (names : Names) : Type 0 where
  pub fits : (k : ℕ) → k < m → production_fits card k ≡ true
  pub lefts : names.left ≡ lefts_below card m
  pub rights : names.right ≡ rights_below card m

pub gathered_none : (card : List ℕ) → Gathered card 0 (record { left = 0; right = 0 })
gathered_none card = record { fits = λ k h. absurd (omega arith); lefts = refl; rights = refl }

pub gathered-more : {card : List ℕ} (m : ℕ) {at : ℕ} {names names' : Names} {f : Fields} → Gathered card m names → at ≡ production_at card m
    → FieldsAt card at f → fields_fit card f ≡ true → NamesWith names f.kind f.a f.b f.c names' → Gathered card (m + 1) names'
gathered-more m was there read fit w =
    let next : m + 1 ≡ suc m = omega arith in
    record {
      fits = below_more _ m was.fits (sym (fields-same m there read) ∙ fit);
      lefts = rw next (w.left ∙ ap₂ with_number was.lefts (left-same m there read));
      rights = rw next (w.right ∙ ap₂ with_numbers was.rights (right-same m there read));
    }

-- At the end; and where one does not fit.
pub gathered-fit : {card : List ℕ} {m : ℕ} {names : Names} → Gathered card m names → m ≡ production_count card
    → productions_fit card ≡ true
gathered-fit {card} all end = sym (all-below (production_count card) (production_fits card) λ k h. all.fits k (omega arith))

pub gathered-live : {card : List ℕ} {m : ℕ} {names : Names} → Gathered card m names → m ≡ production_count card
    → is_live names ≡ names_live card
gathered-live {card} all end = rw (all.lefts, all.rights, end) (part-decides card)

pub gathered-all : {card : List ℕ} {m : ℕ} {names : Names} → Gathered card m names → m ≡ production_count card
    → NamesChecked card (Ok names)
gathered-all all end = record { number = rw (gathered-fit all end) refl; live = gathered-live all end }

pub one-unfit : {card : List ℕ} (m : ℕ) {at : ℕ} {f : Fields} → m < production_count card → at ≡ production_at card m → FieldsAt card at f
    → fields_fit card f ≡ false → NamesChecked card (Err Production)
one-unfit {card} m h there read unfit =
    let none : productions_fit card ≡ false =
    sym (some_below_lem (production_count card) (production_fits card) m h (sym (fields-same m there read) ∙ unfit)) in
    record { number = rw none refl; live = tt }
