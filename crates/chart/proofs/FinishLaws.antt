-- The loop that takes a cell's marks back. A mark that was cleared stays so, since nothing but clearing happens, and the last bare
-- item that was met is the cell's.
use Prim.Native.Nat.{ℕ, suc, ◌+◌, ◌-◌, ◌/◌, ◌≤◌, ◌<◌}
use native.Mathlib.Omega.{arith}
use native.Mathlib.Decide.{dec_lt, ℕ_discrete}
use mathlib.Core.Path.{◌≡◌, refl, sym, ◌∙◌, ap, subst}
use mathlib.Core.Bool.{cond}
use mathlib.Core.List.{List}
use Rattle.std.specs.Prelude.{Option, Some, None}
use lib.ListN.{length, get_or, set, length-set}
use lib.Seq.{set_out, get_or-set_same, get_or-set_other}
use borrow.Author.Tests.{eq-eqb, ne_eqb}
use Rattle.grammar.specs.Items.{Foot}
use Rattle.grammar.specs.ItemList.{is_bare}
use Rattle.records.specs.declared.record.Foot as declared
use Rattle.records.specs.Room.{foot_there, foot_from, number_there}
use Rattle.chart.specs.Cell.{bare_from, Finished}

-- A mark that is cleared stays so.
still-clear : (l : List ℕ) (at s : ℕ) → get_or l s 0 ≡ 0 → get_or (set l at 0) s 0 ≡ 0
still-clear l at s e = elim (ℕ_discrete s at) [
  | yes same ↦ elim (dec_lt at (length l)) [
    | yes h ↦ ap (λ t. get_or (set l at 0) t 0) same ∙ get_or-set_same l at 0 0 h
    | no h ↦ ap (λ m. get_or m s 0) (set_out l at 0 (omega arith)) ∙ e
  ]
  | no d ↦ get_or-set_other l at s 0 0 d ∙ e
]

-- A foot with index 0 is bare, and no other is.
pub found-bare : (f : declared.Foot) (φ : Foot) (m : ℕ) (found : Option ℕ) → foot_from f ≡ φ → f.index ≡ 0
    → Some m ≡ cond (is_bare φ) (Some m) found
found-bare f φ m found e z = rw (← e, eq-eqb f.index 0 z)

pub found-foot : (f : declared.Foot) (φ : Foot) (m : ℕ) (found : Option ℕ) → foot_from f ≡ φ → (f.index ≡ 0 → ⊥)
    → found ≡ cond (is_bare φ) (Some m) found
found-foot f φ m found e d = rw (← e, ne_eqb f.index 0 d)

-- The bare item among one record more.
bare-more : (chart : List ℕ) (base m : ℕ) (found next : Option ℕ) → base ≤ m → found ≡ bare_from chart base (m - base)
    → next ≡ cond (is_bare (foot_there chart m)) (Some m) found → next ≡ bare_from chart base (m + 1 - base)
bare-more chart base m found next l e f =
    let more : suc (m - base) ≡ m + 1 - base = omega arith in
    let here : m ≡ base + (m - base) = omega arith in
    f ∙ ap (cond (is_bare (foot_there chart m)) (Some m)) e
    ∙ ap (λ (k : ℕ). cond (is_bare (foot_there chart k)) (Some k) (bare_from chart base (m - base))) here
    ∙ ap (bare_from chart base) more

-- What holds of the records from the base to m: of none, of all, of one more.
module _ (chart : List ℕ) (base : ℕ) where
  pub finish-start : (marks : List ℕ) → Finished chart base base marks marks (record { from = base; to = base; bare = None })
  finish-start marks = record {
    same_length = refl;
    range = ap (λ m. record { from = base; to = base; bare = bare_from chart base m }) none;
    cleared = λ m a b. absurd (omega arith);
    shrunk = λ s e. e;
    others = λ s h. refl;
  }
    where
      none : 0 ≡ base - base
      none = omega arith

  pub finish-end : {m count : ℕ} {found : Option ℕ} {old new : List ℕ} → m ≤ count → count ≤ m
      → Finished chart base m old new (record { from = base; to = m; bare = found })
      → Finished chart base count old new (record { from = base; to = count; bare = found })
  finish-end {m} {count} {found} {old} {new} a b f =
      subst (λ k. Finished chart base k old new (record { from = base; to = k; bare = found })) same f
    where
      same : m ≡ count
      same = omega arith

  module _ {m : ℕ} {found next : Option ℕ} {old mid new : List ℕ} (l : base ≤ m)
      (f : Finished chart base m old mid (record { from = base; to = m; bare = found }))
      (inside : number_there chart m / 8 < length mid) (e : new ≡ set mid (number_there chart m / 8) 0)
      (b : next ≡ cond (is_bare (foot_there chart m)) (Some m) found) where
    clear : (s : ℕ) → get_or mid s 0 ≡ 0 → get_or new s 0 ≡ 0
    clear s z = ap (λ t. get_or t s 0) e ∙ still-clear mid (number_there chart m / 8) s z

    cleared_more : (k : ℕ) → base ≤ k → k < m + 1 → get_or new (number_there chart k / 8) 0 ≡ 0
    cleared_more k a h = elim (ℕ_discrete k m) [
      | yes same ↦ rw (same, e) (get_or-set_same mid (number_there chart m / 8) 0 0 inside)
      | no d ↦ clear (number_there chart k / 8) (f.cleared k a (omega arith))
    ]

    others-more : (s : ℕ) → ((k : ℕ) → base ≤ k → k < m + 1 → number_there chart k / 8 ≡ s → ⊥) → get_or new s 0 ≡ get_or old s 0
    others-more s h =
        ap (λ t. get_or t s 0) e
        ∙ get_or-set_other mid (number_there chart m / 8) s 0 0 (λ same. h m l (omega arith) (sym same))
        ∙ f.others s (λ k a t. h k a (omega arith))

    pub finish-turn : Finished chart base (m + 1) old new (record { from = base; to = m + 1; bare = next })
    finish-turn = record {
      same_length = ap length e ∙ length-set mid (number_there chart m / 8) 0 ∙ f.same_length;
      range = ap (λ x. record { from = base; to = m + 1; bare = x })
          (bare-more chart base m found next l (ap (λ r. r.bare) f.range) b);
      cleared = cleared_more;
      shrunk = λ s z. clear s (f.shrunk s z);
      others = others-more;
    }
