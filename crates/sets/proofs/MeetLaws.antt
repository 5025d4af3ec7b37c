-- What meets at the splits of a span. A row or a column has every span whose set is not empty, so a split that the two do not share has nothing
-- in common; the splits that they share are walked, and what meets at each is noted.
use Prim.Native.Nat.{ℕ, zero, suc, ◌+◌, ◌*◌, ◌/◌, ◌%◌, ◌^◌, ◌≤◌, ◌<◌}
use native.Mathlib.Nat.{le_refl}
use native.Mathlib.Omega.{arith}
use native.Mathlib.Decide.{ℕ_discrete}
use mathlib.Core.Path.{◌≡◌, sym, ap, ap₂, subst, ◌∙◌}
use mathlib.Core.Logic.{◌⊎◌, inl, inr}
use mathlib.Core.List.{List}
use lib.Bits.{bit_and, bit_or, and_zero_l, and_zero_r}
use lib.ListN.{length, get_or, set, length-set}
use lib.Seq.{get_or-set_same, get_or-set_other}
use Rattle.bits.specs.Bits.{bit_of, Without}
use Rattle.bits.proofs.BitLaws.{bit_of-zero, bit_of-or, bit_of-power, bit_of-other}
use Rattle.bits.proofs.BitSets.{or-bits, without-has, without-lacks, and_zero, and_one, bit-one}
use Rattle.records.specs.Cells.{spans}
use Rattle.sets.specs.Places.{bounds, meeting_at, splits_at, spans_at, first_at, second_at, row_at, column_at, OnlyMeeting}
use Rattle.sets.specs.Spans.{Rows, both_at, Met, Meets, SplitsOf}
use Rattle.sets.proofs.RowLaws.{rows-kept}

-- The splits of a span that its row and its column share.
abbrev splits_in : ℕ → List ℕ → ℕ → ℕ → ℕ
splits_in n sets i j = bit_and (get_or sets (row_at n i) 0) (get_or sets (column_at n j) 0)

pub splits-are : {rows : ℕ} (n i j : ℕ) (sets : List ℕ) → rows ≡ spans_at + 2 * spans n
    → bit_and (get_or sets (rows + 2 * i) 0) (get_or sets (rows + 2 * j + 1) 0) ≡ splits_in n sets i j
splits-are {rows} n i j sets e =
    let row : rows + 2 * i ≡ row_at n i = omega arith in
    let column : rows + 2 * j + 1 ≡ column_at n j = omega arith in
    ap₂ (λ (x y : ℕ). bit_and (get_or sets x 0) (get_or sets y 0)) row column

module _ {n i j splits : ℕ} {sets : List ℕ} (r : Rows n sets) (e : splits ≡ splits_in n sets i j) where
  pub split-inside : (k : ℕ) → bit_of k splits ≡ 1 → (i < k) × (k < j)
  split-inside k o =
      let (x, y) = and_one k (get_or sets (row_at n i) 0) (get_or sets (column_at n j) 0) (sym (ap (bit_of k) e) ∙ o) in
      ((r.ends_after i k x).0, (r.starts_before k j y).0)

  split-none : (k : ℕ) → j ≤ n → i < k → k < j → bit_of k splits ≡ 0 → both_at sets i k j ≡ 0
  split-none k jn ik kj z = elim (and_zero k (get_or sets (row_at n i) 0) (get_or sets (column_at n j) 0) (sym (ap (bit_of k) e) ∙ z)) [
    | inl x ↦ ap (λ (s : ℕ). bit_and s (get_or sets (second_at k j) 0)) (r.ends i k ik (omega arith) x)
        ∙ and_zero_l (get_or sets (second_at k j) 0)
    | inr y ↦ ap (bit_and (get_or sets (first_at i k) 0)) (r.starts k j kj jn y)
        ∙ and_zero_r (get_or sets (first_at i k) 0)
  ]

-- Stores among the sets of the span in hand.
meeting-then : (old mid new : List ℕ) → OnlyMeeting old mid → OnlyMeeting mid new → OnlyMeeting old new
meeting-then old mid new a b = (b.0 ∙ a.0, λ s h. b.1 s h ∙ a.1 s h)

pub meeting-set : (sets : List ℕ) (at x : ℕ) → meeting_at 0 ≤ at → at < spans_at → OnlyMeeting sets (set sets at x)
meeting-set sets at x low high = (simp length-set, λ s h. get_or-set_other sets at s x 0 (apart s h))
  where
    apart : (s : ℕ) → (s + 1 ≤ meeting_at 0) ⊎ (spans_at ≤ s) → s ≡ at → ⊥
    apart s (inl h) e = omega arith
    apart s (inr h) e = omega arith

pub both-same : (old new : List ℕ) → OnlyMeeting old new → (i k j : ℕ) → both_at new i k j ≡ both_at old i k j
both-same old new only i k j = ap₂ bit_and (only.1 (first_at i k) (inr (omega arith))) (only.1 (second_at k j) (inr (omega arith)))

-- A span of one word has no splits.
pub met-word : {i j : ℕ} {sets : List ℕ} → j ≡ i + 1 → get_or sets splits_at 0 ≡ 0 → Met sets i j
met-word one e =
    record {
      inside = λ k o. absurd (omega (arith, ap (bit_of k) e, bit_of-zero k, o));
      there = λ k o. absurd (omega (arith, ap (bit_of k) e, bit_of-zero k, o));
      none = λ k a b z. absurd (omega arith);
    }

-- The set of splits is stored, and then each split is looked at.
pub record Begun (n i j splits : ℕ) (entry old : List ℕ) : Type 0 where
  pub only : OnlyMeeting entry old
  pub rows : Rows n old
  pub noted : get_or old splits_at 0 ≡ splits
  pub shared : splits ≡ splits_in n old i j

pub begun : {n i j splits : ℕ} {entry : List ℕ} → Rows n entry → splits ≡ splits_in n entry i j
    → Begun n i j splits entry (set entry splits_at splits)
begun {n} {i} {j} {splits} {entry} r e =
    let only = meeting-set entry splits_at splits (omega arith) (omega arith) in
    record {
      only = only;
      rows = rows-kept r only.0 (λ s h. only.1 s (inr h));
      noted = get_or-set_same entry splits_at splits 0 (omega (arith, r.long));
      shared = e ∙ sym (ap₂ bit_and (only.1 (row_at n i) (inr (omega arith))) (only.1 (column_at n j) (inr (omega arith))));
    }

-- The splits that were looked at, those of the set that are not in the rest: what meets there is noted, and is in the set of productions.
pub record MetSoFar (old : List ℕ) (i j splits rest : ℕ) (sets : List ℕ) (productions : ℕ) : Type 0 where
  pub only : OnlyMeeting old sets
  pub noted : get_or sets splits_at 0 ≡ splits
  pub left : (k : ℕ) → bit_of k rest ≡ 1 → bit_of k splits ≡ 1
  pub there : (k : ℕ) → bit_of k splits ≡ 1 → bit_of k rest ≡ 0 → get_or sets (meeting_at k) 0 ≡ both_at old i k j
  pub all : (p k : ℕ) → bit_of k splits ≡ 1 → bit_of k rest ≡ 0 → bit_of p productions ≡ 0 → bit_of p (both_at old i k j) ≡ 0

pub met-more : {old sets : List ℕ} {i j splits rest productions k rest' here : ℕ}
    → MetSoFar old i j splits rest sets productions → Without rest k rest' → k < bounds → spans_at ≤ length sets → here ≡ both_at sets i k j
    → MetSoFar old i j splits rest' (set sets (meeting_at k) here) (bit_or productions here)
met-more {old} {sets} {i} {j} {splits} {rest} {productions} {k} {rest'} {here} m w h long e =
    let is : here ≡ both_at old i k j = e ∙ both-same old sets m.only i k j in
    record {
      only = meeting-then old sets (set sets (meeting_at k) here) m.only (meeting-set sets (meeting_at k) here (omega arith) (omega arith));
      noted = get_or-set_other sets (meeting_at k) splits_at here 0 (λ s. absurd (omega arith)) ∙ m.noted;
      left = λ q o. m.left q (without-has w q o);
      there = λ q o z. elim (ℕ_discrete q k) [
        | yes s ↦ ap (λ (x : ℕ). get_or (set sets (meeting_at k) here) (meeting_at x) 0) s
            ∙ (get_or-set_same sets (meeting_at k) here 0 (omega arith)
            ∙ (is ∙ ap (λ (x : ℕ). both_at old i x j) (sym s)))
        | no d ↦ get_or-set_other sets (meeting_at k) (meeting_at q) here 0 (λ s. d (omega arith)) ∙ m.there q o (sym (w.kept q d) ∙ z)
      ];
      all = λ p q o z y. elim (without-lacks w q z) [
        | inl s ↦ sym (ap (bit_of p) (is ∙ ap (λ (x : ℕ). both_at old i x j) (sym s))) ∙ (or-bits p productions here y).1
        | inr s ↦ m.all p q o s (or-bits p productions here y).0
      ];
    }

pub met-end : {n i j splits rest productions : ℕ} {entry old sets : List ℕ} → Begun n i j splits entry old → j ≤ n → rest ≡ 0
    → MetSoFar old i j splits rest sets productions → Met sets i j × Meets sets i j productions × OnlyMeeting entry sets
met-end {n} {i} {j} {splits} {rest} {entry = entry} {old} {sets} start jn z m = (
  record {
    inside = λ k o. split-inside start.rows start.shared k (was k o);
    there = λ k o. m.there k (was k o) (out k) ∙ sym (both-same old sets m.only i k j);
    none = λ k a b y. both-same old sets m.only i k j ∙ split-none start.rows start.shared k jn a b (sym (ap (bit_of k) m.noted) ∙ y);
  },
  λ p k a b y. ap (bit_of p) (both-same old sets m.only i k j) ∙ elim (ℕ_discrete (bit_of k splits) 0) [
    | yes s ↦ ap (bit_of p) (split-none start.rows start.shared k jn a b s) ∙ bit_of-zero p
    | no d ↦ m.all p k (bit-one k splits d) (out k) y
  ],
  meeting-then entry old sets start.only m.only,
)
  where
    was : (k : ℕ) → bit_of k (get_or sets splits_at 0) ≡ 1 → bit_of k splits ≡ 1
    was k o = sym (ap (bit_of k) m.noted) ∙ o

    out : (k : ℕ) → bit_of k rest ≡ 0
    out k = ap (bit_of k) z ∙ bit_of-zero k

-- Of the splits that were looked at, those that have the production and none that is like it.
abbrev Left : List ℕ → ℕ → ℕ → ℕ → Type 0
Left sets p like k =
    (bit_of p (get_or sets (meeting_at k) 0) ≡ 0) ⊎ ((q : ℕ) × (bit_of q like ≡ 1) × (bit_of q (get_or sets (meeting_at k) 0) ≡ 1))

pub record ServedSoFar (sets : List ℕ) (p like rest served : ℕ) : Type 0 where
  pub within : (k : ℕ) → bit_of k rest ≡ 1 → bit_of k (get_or sets splits_at 0) ≡ 1
  pub left : (k : ℕ) → bit_of k (get_or sets splits_at 0) ≡ 1 → bit_of k rest ≡ 0 → bit_of k served ≡ 0 → Left sets p like k
  pub only : (k : ℕ) → bit_of k served ≡ 1 → bit_of k (get_or sets splits_at 0) ≡ 1

pub served-none : {sets : List ℕ} {p like rest : ℕ} → rest ≡ get_or sets splits_at 0 → ServedSoFar sets p like rest 0
served-none e =
    record {
      within = λ k o. sym (ap (bit_of k) e) ∙ o;
      left = λ k o z y. absurd (omega (arith, ap (bit_of k) e));
      only = λ k o. absurd (omega (arith, bit_of-zero k));
    }

module _ {sets : List ℕ} {p like rest served k rest' : ℕ} (t : ServedSoFar sets p like rest served) (w : Without rest k rest') where
  pub served-more : {served' : ℕ} → bit_of k (get_or sets splits_at 0) ≡ 1 → served' ≡ bit_or served (2 ^ k) → ServedSoFar sets p like rest' served'
  served-more there e =
      record {
        within = λ q o. t.within q (without-has w q o);
        left = λ q o z y.
            let (u, v) = or-bits q served (2 ^ k) (sym (ap (bit_of q) e) ∙ y) in
            elim (without-lacks w q z) [
              | inl s ↦ absurd (omega (arith, bit_of-power k, v, ap (λ (x : ℕ). bit_of x (2 ^ k)) s))
              | inr s ↦ t.left q o s u
            ];
        only = λ q o. elim (ℕ_discrete q k) [
          | yes s ↦ ap (λ (x : ℕ). bit_of x (get_or sets splits_at 0)) s ∙ there
          | no d ↦ t.only q (omega (arith, ap (bit_of q) e, bit_of-or q served (2 ^ k), bit_of-other q k d))
        ];
      }

  pub served-same : Left sets p like k → ServedSoFar sets p like rest' served
  served-same gone =
      record {
        within = λ q o. t.within q (without-has w q o);
        left = λ q o z y. elim (without-lacks w q z) [
          | inl s ↦ subst (Left sets p like) (sym s) gone
          | inr s ↦ t.left q o s y
        ];
        only = t.only;
      }

-- A set that is not empty has a number; so sets that share one leave the split out. And the end.
some-bit : (w x : ℕ) → x ≤ w → (x ≡ 0 → ⊥) → (q : ℕ) × (bit_of q x ≡ 1)
some-bit zero x h d = absurd (d (omega arith))
some-bit (suc w) x h d = elim (ℕ_discrete (x % 2) 1) [
  | yes o ↦ (0, o)
  | no e ↦ let (q, o) = some-bit w (x / 2) (omega arith) (λ z. d (omega arith)) in (suc q, o)
]

pub like-there : (sets : List ℕ) (p like k : ℕ) → (bit_and (get_or sets (meeting_at k) 0) like ≡ 0 → ⊥) → Left sets p like k
like-there sets p like k d =
    let both = bit_and (get_or sets (meeting_at k) 0) like in
    let (q, o) = some-bit both both (le_refl both) d in
    let (x, y) = and_one q (get_or sets (meeting_at k) 0) like o in
    inr (q, y, x)

pub served-end : {sets : List ℕ} {p like rest served : ℕ} → ServedSoFar sets p like rest served → rest ≡ 0 → SplitsOf sets p like served
served-end t z = record { only = t.only; left = λ k o. t.left k o (ap (bit_of k) z ∙ bit_of-zero k) }
