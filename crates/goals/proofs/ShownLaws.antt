-- Stores at the used end of an array change what it shows at that end alone, by induction on how much of it is used. So the struct
-- shows the goals of the model after a step if it showed them before.
use Prim.Native.Nat.{ℕ, zero, suc, ◌-◌, ◌≤◌, ◌<◌}
use native.Mathlib.Numerals.{add-one}
use native.Mathlib.Omega.{arith}
use mathlib.Core.Path.{◌≡◌, refl, sym, ◌∙◌, ap, ap₂, subst}
use mathlib.Core.Bool.{Bool, true}
use mathlib.Core.List.{List, [], ◌∷◌, ◌++◌, append_assoc, append-nil, tail, head-eq_of_cons-eq, tail-eq_of_cons-eq}
use lib.ListN.{length, set, length-set}
use lib.Seq.{get_or-set_same, get_or-set_other}
use lib.Dec.{ltb}
use borrow.Author.Tests.{ltb-true}
use Rattle.layout.proofs.TestLaws.{both}
use Rattle.card.specs.declared.Production.{Production}
use Rattle.card.specs.declared.Production.TheVariants.{Word, SideFirst, SideLast}
use Rattle.card.specs.Productions.{action_from, rule_from}
use Rattle.grammar.specs.Rewriting.{Action, Take, Keep, Give}
use Rattle.goals.specs.Goals.{Goal, goal, top_index, action_fits, depth_after, stack_after, fits, replaced}
use Rattle.goals.specs.Shown.{tops, entry, no_goal, indices_of, entries_of, Shows, ShowsAt, stack_in, acted, last_entry, opened, replaced_in}
use Rattle.goals.specs.declared.replay.Goal as code
use Rattle.goals.specs.declared.replay.Goals.{Goals}
use Rattle.goals.proofs.GoalsTest.{no-depth, word_fits, pair_fits}

pub tops-length : {A : Type 0} (x : A) (xs : List A) (n : ℕ) → length (tops x xs n) ≡ n
tops-length x xs zero = refl
tops-length x xs (suc n) = ap suc (tops-length x xs n)

pub tops_above : {A : Type 0} (x : A) (xs : List A) (n m : ℕ) (v : A) → n ≤ m → tops x (set xs m v) n ≡ tops x xs n
tops_above x xs zero m v h = refl
tops_above {A} x xs (suc n) m v h =
    ap₂ (λ (y : A) (l : List A). y ∷ l) (get_or-set_other xs m n v x (λ e. omega arith)) (tops_above x xs n m v (omega arith))

pub tops-put : {A : Type 0} (x : A) (xs : List A) (n : ℕ) (v : A) → n < length xs → tops x (set xs n v) (suc n) ≡ v ∷ tops x xs n
tops-put {A} x xs n v h =
    ap₂ (λ (y : A) (l : List A). y ∷ l) (get_or-set_same xs n v x h) (tops_above x xs n n v (omega arith))

-- One store replaces the last entry, one adds an entry.
pub tops-two : {A : Type 0} (x : A) (xs : List A) (m n : ℕ) (v w : A) → n ≡ suc m → n < length xs
    → tops x (set (set xs m v) n w) (suc n) ≡ w ∷ v ∷ tops x xs m
tops-two {A} x xs m n v w e h =
    tops-put x (set xs m v) n w (rw length-set h)
    ∙ ap (λ (l : List A). w ∷ l) (rw e (tops-put x xs m v (omega arith)))

tops-taken : (stack : List ℕ) (top : ℕ) (s below : List ℕ) → tops 0 stack top ≡ s ++ below → 0 < length s
    → tops 0 stack (top - 1) ≡ tail s ++ below
tops-taken stack top [] below e h = absurd (omega arith)
tops-taken stack zero (i ∷ s) below e h = cc
tops-taken stack (suc top) (i ∷ s) below e h = let p : suc top - 1 ≡ top = omega arith in rw p (ap tail e)

module _ (g : Goals) (A j : ℕ) (s : List ℕ) (rest : List Goal) (x : Shows g (goal A s j ∷ rest)) where
  count_is : g.count ≡ suc (g.count - 1)
  count_is = omega (arith, tops-length no_goal g.goals g.count, ap length x.shown_goals)

  shown-entries : last_entry g ∷ tops no_goal g.goals (g.count - 1) ≡ entries_of (goal A s j ∷ rest)
  shown-entries = subst (λ (n : ℕ). tops no_goal g.goals n ≡ entries_of (goal A s j ∷ rest)) count_is x.shown_goals

  pub first-entry : last_entry g ≡ entry A j (length (indices_of rest))
  first-entry = head-eq_of_cons-eq shown-entries

  other-entries : tops no_goal g.goals (g.count - 1) ≡ entries_of rest
  other-entries = tail-eq_of_cons-eq shown-entries

  pub shows-word : s ≡ [] → Shows (record g { count = g.count - 1; place = (last_entry g).end }) rest
  shows-word e = record {
    all_goals = x.all_goals;
    all_stack = x.all_stack;
    shown_goals = other-entries;
    shown_stack = rw e at x.shown_stack;
  }

  module _ (a : Action) (f : action_fits a (length s) (top_index s) ≡ true) (few : g.count ≤ 24) (low : g.top ≤ 24) where
    acted-indices : tops 0 (stack_in a g) (depth_after a g.top) ≡ stack_after a s ++ indices_of rest
    acted-indices = elim a as (λ (b : Action). action_fits b (length s) (top_index s) ≡ true
        → tops 0 (stack_in b g) (depth_after b g.top) ≡ stack_after b s ++ indices_of rest) [
          | Take γ ↦ λ f. tops-taken g.stack g.top s (indices_of rest) x.shown_stack (omega (arith, both (ltb 0 (length s)) _ f, ltb-true))
          | Keep ↦ λ f. x.shown_stack
          | Give γ ↦ λ f. tops-put 0 g.stack g.top γ (omega (arith, x.all_stack)) ∙ ap (λ (l : List ℕ). γ ∷ l) x.shown_stack
        ] f

    acted-length : length (stack_in a g) ≡ length g.stack
    acted-length = elim a as (λ (b : Action). length (stack_in b g) ≡ length g.stack) [
      | Take γ ↦ refl
      | Keep ↦ refl
      | Give γ ↦ length-set g.stack g.top γ
    ]

    -- Two goals where one stood: the second keeps the first's end and base, and the first ends at k.
    opened-shows : (B C k base : ℕ) (s₁ s₂ : List ℕ) → stack_after a s ≡ s₁ ++ s₂ → base ≡ length (s₂ ++ indices_of rest)
        → Shows (opened B C k base (acted a g)) (goal B s₁ k ∷ goal C s₂ j ∷ rest)
    opened-shows B C k base s₁ s₂ e b = record {
      all_goals = simp length-set x.all_goals;
      all_stack = acted-length ∙ x.all_stack;
      shown_goals = rw add-one
          (tops-two no_goal g.goals (g.count - 1) g.count (record (last_entry g) { name = C }) (entry B k base) count_is
          (omega (arith, x.all_goals))
          ∙ rw (b, first-entry, other-entries));
      shown_stack = acted-indices ∙ (ap (λ (l : List ℕ). l ++ indices_of rest) e ∙ append_assoc s₁ s₂ (indices_of rest));
    }

  -- The first goal after a rule that fits.
  pub replaced-shows : (p : Production) (here : ℕ → Bool) (k : ℕ)
      → fits (rule_from p) here A (length s) (top_index s) g.place k j ≡ true → g.count ≤ 24 → g.top ≤ 24
      → ShowsAt (replaced_in (rule_from p) k g) (replaced (rule_from p) s g.place k j rest)
  replaced-shows (Word left word) here k f few low =
      let e = word_fits here left word A (length s) (top_index s) g.place k j f in
      (ap (λ (y : code.Goal). y.end) first-entry, shows-word (no-depth s e.1))
  replaced-shows (SideFirst left action side dependent) here k f few low =
      let a = action_from action in
      let e = pair_fits here left a (side ∷ []) dependent [] A (length s) (top_index s) g.place k j f in
      let d = acted-indices a e.3 few low in (
        refl,
        opened-shows a e.3 few low side dependent k (depth_after a g.top) [] (stack_after a s) refl
            (sym (tops-length 0 (stack_in a g) (depth_after a g.top)) ∙ ap length d),
      )
  replaced-shows (SideLast left action dependent side) here k f few low =
      let a = action_from action in
      let e = pair_fits here left a [] dependent (side ∷ []) A (length s) (top_index s) g.place k j f in (
        refl,
        opened-shows a e.3 few low dependent side k (last_entry g).base (stack_after a s) [] (sym (append-nil (stack_after a s)))
            (ap (λ (y : code.Goal). y.base) first-entry),
      )
