-- A list of `most_items` items that holds every derived item: all choices of numbers below the extent of the grammar and of
-- places up to n. A nonterminal or an index of a derived item comes from a rule, and the extent is a sum over the rules.
use Prim.Native.Nat.{ℕ, suc, ◌*◌, ◌≤◌, ◌<◌}
use native.Mathlib.Omega.{arith}
use mathlib.Core.Path.{◌≡◌, refl, ◌∙◌, ap}
use mathlib.Core.List.{List, ◌∷◌, map, Memᴰ}
use lib.ListN.{length, length-map}
use Rattle.grammar.specs.Lists.{Stands, here, there, concat_map, up_to}
use Rattle.grammar.specs.Rewriting.{Rule}
use Rattle.grammar.specs.Input.{Below}
use Rattle.grammar.specs.Items.{Foot, bare, foot, Derived, word_step, take_step, keep_step, give_step}
use Rattle.grammar.specs.ItemList.{Item, item, rule_extent, extent, most_items}
use Rattle.grammar.proofs.ListLaws.{concat_map-in, length-concat_map, up_to-in, length-up_to, map-in}
use Rattle.grammar.proofs.Bounds.{Within, derived-bounds}

-- The numbers of a derived item are below the extent.
stands-extent : {g : List Rule} {p : ℕ} {r : Rule} → Stands g p r → rule_extent r ≤ extent g
stands-extent (here {x = r} {l = g}) = omega arith
stands-extent (there {y = r} {l = g} s) = omega (arith, stands-extent s)

abbrev FootBelow : ℕ → Foot → Type 0
FootBelow N bare = Unit {0}
FootBelow N (foot γ B p q) = (γ < N) × (B < N)

derived-extent : {g : List Rule} {at : ℕ → ℕ → Type 0} {A i j : ℕ} {φ : Foot} → Derived g at A i j φ
    → (A < extent g) × FootBelow (extent g) φ
derived-extent (word_step s h) = (omega (arith, stands-extent s), tt)
derived-extent (take_step s before d after) = omega (arith, stands-extent s)
derived-extent (keep_step s before d after) = (omega (arith, stands-extent s), (derived-extent d).1)
derived-extent (give_step s before d after c) = (omega (arith, stands-extent s), (derived-extent c).1)

-- A part for each number below a bound.
each : {A : Type 0} → ℕ → (ℕ → List A) → List A
each N f = concat_map f (up_to N)

length-each : {A : Type 0} (N : ℕ) (f : ℕ → List A) (c : ℕ) → ((k : ℕ) → length (f k) ≡ c) → length (each N f) ≡ N * c
unfolding each
length-each N f c h = length-concat_map f c h (up_to N) ∙ ap (λ k. k * c) (length-up_to N)

each_in : {A : Type 0} {x : A} (N : ℕ) (f : ℕ → List A) (k : ℕ) → k < N → Memᴰ x (f k) → Memᴰ x (each N f)
unfolding each
each_in N f k h m = concat_map-in f (up_to-in N h) m

-- All feet, and all items.
feet : ℕ → ℕ → List Foot
feet N n = bare ∷ each N λ γ. each N λ B. each (suc n) λ p. map (foot γ B p) (up_to (suc n))

length-feet : (N n : ℕ) → length (feet N n) ≡ suc (N * (N * (suc n * suc n)))
unfolding feet
length-feet N n = ap suc
    (length-each N _ _ λ γ. length-each N _ _ λ B. length-each (suc n) _ _ λ p.
    length-map (up_to (suc n)) (foot γ B p) ∙ length-up_to (suc n))

feet-in : (N n i j : ℕ) (φ : Foot) → j ≤ n → Within i j φ → FootBelow N φ → Memᴰ φ (feet N n)
unfolding feet
feet-in N n i j bare h w b = Memᴰ.head refl
feet-in N n i j (foot γ B p q) h w b =
    let m = map-in (foot γ B p) (up_to-in {k = q} (suc n) (omega arith)) in
    Memᴰ.tail (each_in N _ γ b.0 (each_in N _ B b.1 (each_in (suc n) _ p (omega arith) m)))

pub universe : ℕ → ℕ → List Item
universe N n = each N λ A. each (suc n) λ i. each (suc n) λ j. map (item A i j) (feet N n)

pub length-universe : (N n : ℕ) → length (universe N n) ≡ most_items N n
unfolding universe
length-universe N n =
    length-each N _ _ λ A. length-each (suc n) _ _ λ i. length-each (suc n) _ _ λ j.
    length-map (feet N n) (item A i j) ∙ length-feet N n

pub universe-in : {g : List Rule} {at : ℕ → ℕ → Type 0} {A i j : ℕ} {φ : Foot} (n : ℕ) → Below at n
    → Derived g at A i j φ → Memᴰ (item A i j φ) (universe (extent g) n)
unfolding universe
universe-in {g} {A = A} {i = i} {j = j} {φ = φ} n below d =
    let (h, e, w) = derived-bounds n below d in
    let (a, b) = derived-extent d in
    let m = map-in (item A i j) (feet-in (extent g) n i j φ e w b) in
    each_in (extent g) _ A a (each_in (suc n) _ i (omega arith) (each_in (suc n) _ j (omega arith) m))
