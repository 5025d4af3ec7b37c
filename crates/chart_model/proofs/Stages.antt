-- Each cell of the built chart has a stage at which it was filled: before it no record is of the cell, and after it none is of the cell or
-- of a span within the cell's. The three loops are gone through at the turn of the cell's end, start and nonterminal.
use Prim.Native.Nat.{ℕ, zero, suc, ◌+◌, ◌-◌, ◌<◌}
use native.Mathlib.Nat.{le_refl}
use native.Mathlib.Decide.{ℕ_discrete}
use native.Mathlib.Omega.{arith}
use mathlib.Core.Path.{◌≡◌, refl, sym, subst}
use mathlib.Core.Bool.{Bool}
use mathlib.Core.List.{List, []}
use mathlib.Core.Option.{Option, none, some}
use Rattle.grammar.specs.Rewriting.{Rule}
use Rattle.grammar.specs.Chart.{Record}
use Rattle.chart_model.specs.Build.{fold_up, fill_cell, close_span, close_back, close_end, build}
use Rattle.chart_model.proofs.Candidates.{Inside}
use Rattle.chart_model.proofs.FillModel.{IsCell, Grown, same, grown-then, grown-wider, cell-grown, fold-last, span_none, end_none, span-grown, end-grown, all_grown}

-- A fold goes through its turn k: there is a chart before it and one after it, and what later turns add is theirs.
fold-through : {X : Type 0} {P : ℕ → ℕ → ℕ → ℕ → Type 0} {c : List Record} (f : ℕ → Option (List Record) → Option (List Record))
    → ((l : ℕ) → f l none ≡ none) → ((l : ℕ) (c b : List Record) → f l (some c) ≡ some b → Grown (P l) c b) → (k n : ℕ) → k < n
    → (a : List Record) → fold_up f n (some a) ≡ some c
    → ((b d : List Record) → fold_up f k (some a) ≡ some b → f k (some b) ≡ some d
    → Grown (λ A i j. (l : ℕ) × (k < l) × (l < n) × P l A i j) d c → X) → X
fold-through f stays step k zero h a q go = absurd (omega arith)
fold-through {c = c} f stays step k (suc n) h a q go =
    let (e, s, t) = fold-last f stays n a q in
    elim (ℕ_discrete k n) [
      | yes w ↦ go e c (subst (λ (k : ℕ). fold_up f k (some a) ≡ some e) (sym w) s) (subst (λ (k : ℕ). f k (some e) ≡ some c) (sym w) t) same
      | no w ↦
          let less : k < n = omega arith in
          fold-through {c = e} f stays step k n less a s (λ b d u v g. go b d u v
          (grown-then (grown-wider (λ A i j (l, x, y, p). (l, x, omega arith, p)) g)
          (grown-wider (λ A i j p. (n, less, le_refl (suc n), p)) (step n e c t))))
    ]

-- Another cell than that of A over i to j; and one that is not within its span either.
abbrev pub Other : ℕ → ℕ → ℕ → ℕ → ℕ → ℕ → Type 0
Other A i j A' i' j' = IsCell A i j A' i' j' → ⊥

abbrev pub Beyond : ℕ → ℕ → ℕ → ℕ → ℕ → ℕ → Type 0
Beyond A i j A' i' j' = Other A i j A' i' j' × (Inside i j i' j' → ⊥)

-- The stage of the cell of A over i to i + len, on the way from the chart a to the chart c; and on a longer way.
pub record Stage (room : ℕ) (g : List Rule) (at : ℕ → ℕ → Bool) (len i A : ℕ) (a c : List Record) : Type 0 where
  pub begun : List Record
  pub filled : List Record
  pub before : Grown (Other A i (i + len)) a begun
  pub fills : fill_cell room g at len i A (some begun) ≡ some filled
  pub after : Grown (Beyond A i (i + len)) filled c

stage-within : {room len i A : ℕ} {g : List Rule} {at : ℕ → ℕ → Bool} {a b c d : List Record} → Grown (Other A i (i + len)) a b
    → Grown (Beyond A i (i + len)) c d → Stage room g at len i A b c → Stage room g at len i A a d
stage-within g h s = record {
  begun = s.begun;
  filled = s.filled;
  before = grown-then g s.before;
  fills = s.fills;
  after = grown-then s.after h;
}

-- In the closing of its span, of the spans that end with it, and in all.
module _ (room N n : ℕ) (g : List Rule) (at : ℕ → ℕ → Bool) (m i A : ℕ) (h : A < N) where
  span-stage : (a c : List Record) → close_span room g at N (suc m) i (some a) ≡ some c → Stage room g at (suc m) i A a c
  span-stage a c q =
      fold-through (fill_cell room g at (suc m) i) (λ l. refl) (λ l b d. cell-grown room g at (suc m) i l) A N h a q λ b d u v after.
      record {
        begun = b;
        filled = d;
        before = grown-wider (λ A' i' j' x w. absurd (omega arith)) (span-grown room g at (suc m) i A u);
        fills = v;
        after = grown-wider (λ A' i' j' (l, x, y, p). (λ w. absurd (omega arith), λ w. absurd (omega arith))) after;
      }

  end-stage : (a c : List Record) → close_end room g at N (i + m) (some a) ≡ some c → Stage room g at (suc m) i A a c
  end-stage a c q =
      let start : i + m - m ≡ i = omega arith in
      fold-through (close_back room g at N (i + m)) (λ l. span_none room g at N (suc l) (i + m - l))
      (λ l b d. span-grown room g at (suc l) (i + m - l) N) m (suc (i + m)) (omega arith) a q λ b d u v after.
      stage-within (grown-wider (λ A' i' j' x w. absurd (omega arith)) (end-grown room g at N (i + m) m (omega arith) u))
      (grown-wider (λ A' i' j' (l, x, y, p). (λ w. absurd (omega arith), λ w. absurd (omega arith))) after)
      (span-stage b d (subst (λ (k : ℕ). close_span room g at N (suc m) k (some b) ≡ some d) start v))

  pub build-stage : (c : List Record) → i + m < n → build room g at N n ≡ some c → Stage room g at (suc m) i A [] c
  build-stage c h' q =
      fold-through (close_end room g at N) (end_none room g at N) (λ l b d. end-grown room g at N l (suc l) (le_refl (suc l)))
      (i + m) n h' [] q λ b d u v after.
      stage-within (grown-wider (λ A' i' j' x w. absurd (omega arith)) (all_grown room g at N (i + m) u))
      (grown-wider (λ A' i' j' (l, x, y, p). (λ w. absurd (omega arith), λ w. absurd (omega arith))) after) (end-stage b d v)
