-- Productions that are alike. The items that a production makes at a split name its left side and what its action makes of the dependent, and
-- not the side: so where one has its side there, a like one after it makes no other items.
use Prim.Native.Nat.{ℕ, zero, suc, ◌+◌, ◌^◌, ◌≤◌, ◌<◌}
use native.Mathlib.Omega.{arith}
use native.Mathlib.Decide.{ℕ_discrete}
use mathlib.Core.Path.{◌≡◌, refl, sym, ap, subst}
use mathlib.Core.Logic.{◌⊎◌, inl, inr}
use mathlib.Core.Bool.{Bool, true, false}
use mathlib.Core.List.Memᴰ
use mathlib.Core.List.{List, [], ◌∷◌, Memᴰ}
use lib.Bits.{bit_and, bit_or}
use lib.Dec.{eqb}
use lib.ListN.{get_or}
use Rattle.grammar.specs.Lists.{concat_map}
use Rattle.grammar.specs.Rewriting.{Rule, Action, Take, Keep, Give}
use Rattle.grammar.specs.Items.{Foot, bare, foot}
use Rattle.grammar.specs.ItemList.{Item}
use Rattle.grammar.specs.Chart.{Record, recorded, item_of, nowhere}
use Rattle.grammar.proofs.ListLaws.{in-concat_map, concat_map-in}
use Rattle.grammar.proofs.ItemTests.{in-choice, choice-in}
use Rattle.layout.specs.Bytes.{byte_at}
use Rattle.layout.specs.Card.{production_count, production_at, production, rule_of, grammar_of}
use Rattle.chart_model.specs.Build.{places, bare_places, foot_at, taken_from, kept_from, continued, given_foot, given_from, by_action, by_rule}
use Rattle.bits.specs.Bits.{bit_of}
use Rattle.bits.proofs.BitLaws.{bit_of-zero, bit_of-or, bit_of-other}
use Rattle.bits.proofs.BitSets.{bit-one}
use Rattle.sets.specs.Places.{meeting_at, splits_at}
use Rattle.sets.specs.Spans.{FirstAbsent, SecondAbsent, Splits, SplitsOf}
use Rattle.sets.specs.Like.{Alike, alike_first, alike_last, LikeBefore}
use Rattle.sets.proofs.CardRules.{rule-there}
use Rattle.sets.proofs.SortedLaws.{absent-first, absent-second}

-- By the bytes. Kinds 1, 3 and 5 have the side first, and C is the dependent; 2, 4 and 6 have it last, and B is.
bytes-first : (kind A B B' C g : ℕ) → kind ≤ 6 → bit_and kind 1 ≡ 1 → Alike (rule_of kind A B C g) (rule_of kind A B' C g)
bytes-first zero A B B' C g h o = absurd (omega arith)
bytes-first (suc zero) A B B' C g h o = alike_first
bytes-first (suc (suc zero)) A B B' C g h o = absurd (omega arith)
bytes-first (suc (suc (suc zero))) A B B' C g h o = alike_first
bytes-first (suc (suc (suc (suc zero)))) A B B' C g h o = absurd (omega arith)
bytes-first (suc (suc (suc (suc (suc zero))))) A B B' C g h o = alike_first
bytes-first (suc (suc (suc (suc (suc (suc zero)))))) A B B' C g h o = absurd (omega arith)
bytes-first (suc (suc (suc (suc (suc (suc (suc k))))))) A B B' C g h o = absurd (omega arith)

bytes-last : (kind A B C C' g : ℕ) → kind ≤ 6 → (bit_and kind 1 ≡ 1 → ⊥) → (kind ≡ 0 → ⊥) → Alike (rule_of kind A B C g) (rule_of kind A B C' g)
bytes-last zero A B C C' g h o z = absurd (z refl)
bytes-last (suc zero) A B C C' g h o z = absurd (o refl)
bytes-last (suc (suc zero)) A B C C' g h o z = alike_last
bytes-last (suc (suc (suc zero))) A B C C' g h o z = absurd (o refl)
bytes-last (suc (suc (suc (suc zero)))) A B C C' g h o z = alike_last
bytes-last (suc (suc (suc (suc (suc zero))))) A B C C' g h o z = absurd (o refl)
bytes-last (suc (suc (suc (suc (suc (suc zero)))))) A B C C' g h o z = alike_last
bytes-last (suc (suc (suc (suc (suc (suc (suc k))))))) A B C C' g h o z = absurd (omega arith)

-- The same of two productions of a card, which stand at a and b: no word productions, and of one kind, left side and index.
abbrev pub SameBut : List ℕ → ℕ → ℕ → Type 0
SameBut card a b =
    (byte_at card a ≡ 0 → ⊥) × (byte_at card a ≡ byte_at card b) × (byte_at card (a + 1) ≡ byte_at card (b + 1))
    × (byte_at card (a + 4) ≡ byte_at card (b + 4))

module _ (card : List ℕ) (q p a b : ℕ) (at-q : a ≡ production_at card q) (at_p : b ≡ production_at card p)
    (most : byte_at card (production_at card q) ≤ 6) (same : SameBut card a b) where
  few : byte_at card a ≤ 6
  few = subst (λ (x : ℕ). byte_at card x ≤ 6) (sym at-q) most

  pub alike-first : bit_and (byte_at card a) 1 ≡ 1 → byte_at card (a + 3) ≡ byte_at card (b + 3) → Alike (production card q) (production card p)
  alike-first odd dependent =
      rw (← at-q, ← at_p, ← same.1, ← same.2, ← same.3, ← dependent)
      (bytes-first (byte_at card a) (byte_at card (a + 1)) (byte_at card (a + 2)) (byte_at card (b + 2)) (byte_at card (a + 3)) (byte_at card (a + 4))
      few odd)

  pub alike-last : (bit_and (byte_at card a) 1 ≡ 1 → ⊥) → byte_at card (a + 2) ≡ byte_at card (b + 2)
      → Alike (production card q) (production card p)
  alike-last even dependent =
      rw (← at-q, ← at_p, ← same.1, ← same.2, ← same.3, ← dependent)
      (bytes-last (byte_at card a) (byte_at card (a + 1)) (byte_at card (a + 2)) (byte_at card (a + 3)) (byte_at card (b + 3)) (byte_at card (a + 4))
      few even same.0)

-- The set of those before p.
pub like-none : (card : List ℕ) (p : ℕ) → LikeBefore card p 0
like-none card p q o = absurd (omega (arith, bit_of-zero q))

pub like-more : (card : List ℕ) (p like q : ℕ) {like' : ℕ} → LikeBefore card p like → q < p → Alike (production card q) (production card p)
    → like' ≡ bit_or like (2 ^ q) → LikeBefore card p like'
like-more card p like q before h alike e x o = elim (ℕ_discrete x q) [
  | yes s ↦ (omega arith, subst (λ (m : ℕ). Alike (production card m) (production card p)) (sym s) alike)
  | no d ↦ before x (omega (arith, ap (bit_of x) e, bit_of-or x like (2 ^ q), bit_of-other x q d, o))
]

-- A record with the item of another is in a list.
abbrev pub ItemIn : Record → List Record → Type 0
ItemIn e l = (e' : Record) × Memᴰ e' l × (item_of e' ≡ item_of e)

item-one : {e : Record} {it : Item} (p x y z p' x' y' z' : ℕ) → Memᴰ e (recorded it p x y z ∷ [])
    → ItemIn e (recorded it p' x' y' z' ∷ [])
item-one {it = it} p x y z p' x' y' z' h =
    (recorded it p' x' y' z', Memᴰ.head refl, sym (ap item_of (Memᴰ.eq_of_singleton h)))

item-map : {A : Type 0} (e : Record) (f : A → List Record) {x : A} {l : List A} → Memᴰ x l → ItemIn e (f x) → ItemIn e (concat_map f l)
item-map e f m (e', n, s) = (e', concat_map-in f m n, s)

item-choice : (e : Record) (t : Bool) {l : List Record} → t ≡ true → ItemIn e l → ItemIn e (elim t [ true ↦ l | false ↦ [] ])
item-choice e t {l} o (e', n, s) = (e', choice-in t l o n, s)

-- One action, from two sides: the same items.
module _ (c : List Record) (D k m A i j p x q x' : ℕ) where
  taken-covers : (e : Record) (φ : Foot) (ys : List ℕ) → Memᴰ e (taken_from A i j p x φ ys) → ItemIn e (taken_from A i j q x' φ ys)
  taken-covers e φ [] h = absurd (Memᴰ.not-nil h)
  taken-covers e φ (y ∷ ys) h = item-one p x y nowhere q x' y nowhere h

  given-covers : (e : Record) (y γ : ℕ) (ψ : Foot) → Memᴰ e (given_foot c A i j p x y γ ψ) → ItemIn e (given_foot c A i j q x' y γ ψ)
  given-covers e y γ bare h = absurd (Memᴰ.not-nil h)
  given-covers e y γ (foot γ' B s t) h =
      let (o, u) = in-choice (eqb γ' γ) _ h in
      let (z, v, w) = in-concat_map (continued c A i j p x y) (places c B s t) u in
      item-choice e (eqb γ' γ) o (item-map e (continued c A i j q x' y) v (item-one p x y z q x' y z w))

  action-covers : (e : Record) (a : Action) → Memᴰ e (by_action c a D k m A i j p x) → ItemIn e (by_action c a D k m A i j q x')
  action-covers e (Take γ) h = taken-covers e (foot γ D k m) (places c D k m) h
  action-covers e Keep h =
      let (y, n, f) = in-concat_map (kept_from c A i j p x) (places c D k m) h in
      item-map e (kept_from c A i j q x') n (item-one p x y nowhere q x' y nowhere f)
  action-covers e (Give γ) h =
      let (y, n, f) = in-concat_map (given_from c A i j p x γ) (places c D k m) h in
      item-map e (given_from c A i j q x' γ) n (given-covers e y γ (foot_at c y) f)

-- The sides of two like productions at a split: where the first has one, it makes each item of the second.
sides-cover : (e : Record) (c : List Record) (a : Action) (D k m A i j p q : ℕ) (sides sides' : List ℕ) → (sides ≡ [] → ⊥)
    → Memᴰ e (concat_map (by_action c a D k m A i j p) sides') → ItemIn e (concat_map (by_action c a D k m A i j q) sides)
sides-cover e c a D k m A i j p q [] sides' there h = absurd (there refl)
sides-cover e c a D k m A i j p q (x' ∷ sides) sides' there h =
    let (x, n, f) = in-concat_map (by_action c a D k m A i j p) sides' h in
    item-map e (by_action c a D k m A i j q) (Memᴰ.head {xs = sides} refl) (action-covers c D k m A i j p x q x' e a f)

pub like-covers : (b : List Record) (A i k j q p : ℕ) {rq rp : Rule} → Alike rq rp → (FirstAbsent b i k rq → ⊥) → (SecondAbsent b k j rq → ⊥)
    → (e : Record) → Memᴰ e (by_rule b A i k j p rp) → ItemIn e (by_rule b A i k j q rq)
like-covers b A i k j q p (alike_first {A = A'} {B} {B'} {D} {a}) first second e h =
    let (o, u) = in-choice (eqb A' A) _ h in
    item-choice e (eqb A' A) o (sides-cover e b a D k j A i j p q (bare_places b B i k) (bare_places b B' i k) first u)
like-covers b A i k j q p (alike_last {A = A'} {B} {B'} {D} {a}) first second e h =
    let (o, u) = in-choice (eqb A' A) _ h in
    item-choice e (eqb A' A) o (sides-cover e b a D i k A i j p q (bare_places b B k j) (bare_places b B' k j) second u)

-- At a split that was left out the production adds nothing, or a like production before it makes each of its items.
pub served-idle : (card : List ℕ) {b : List Record} {sets : List ℕ} {i j like served : ℕ} (A p : ℕ) → p < production_count card
    → Splits (grammar_of card) b i j sets → SplitsOf sets p like served → LikeBefore card p like → (k : ℕ) → i < k → k < j
    → bit_of k served ≡ 0
    → (by_rule b A i k j p (production card p) ≡ []) ⊎ ((q : ℕ) × (q < p)
    × ((e : Record) → Memᴰ e (by_rule b A i k j p (production card p)) → ItemIn e (by_rule b A i k j q (production card q))))
served-idle card {b} {sets} {i} {j} A p h s t before k ik kj z = elim (ℕ_discrete (bit_of k (get_or sets splits_at 0)) 0) [
  | yes o ↦ inl (missing (inl o))
  | no d ↦ elim (t.left k (bit-one k (get_or sets splits_at 0) d) z) [
    | inl y ↦ inl (missing (inr y))
    | inr (q, l, m) ↦
        let (less, alike) = before q l in
        let (first, second) =
        s.there q (production card q) k (rule-there card (production_count card) q (omega arith)) (bit-one k (get_or sets splits_at 0) d) m in
        inr (q, less, like-covers b A i k j q p alike first second)
  ]
]
  where
    missing : (bit_of k (get_or sets splits_at 0) ≡ 0) ⊎ (bit_of p (get_or sets (meeting_at k) 0) ≡ 0) → by_rule b A i k j p (production card p) ≡ []
    missing w = elim (s.absent p (production card p) k (rule-there card (production_count card) p h) ik kj w) [
      | inl x ↦ absent-first b A i k j p (production card p) x
      | inr x ↦ absent-second b A i k j p (production card p) x
    ]
