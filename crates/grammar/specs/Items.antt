-- Document 01, "The chart": items and the deduction steps.
-- The line is read through a relation: `at i w` says that the word at place i is word number w.
use Rattle.std.specs.Prelude.{ℕ, suc, List, [], ◌∷◌}
use Rattle.grammar.specs.Lists.{Stands}
use Rattle.grammar.specs.Rewriting.{Rule, Lexical, Spine, Take, Keep, Give}

-- What an item has after its span: γ = 0 and no B, or an index γ and (B, p, q). One value, so that the two cannot disagree.
pub data Foot : Type 0 where
  bare : Foot
  foot : (γ B p q : ℕ) → Foot

-- `Derived g at A i j φ`: the item [A, γ, i, j | B, p, q], with γ and (B, p, q) in φ, is derived.
-- `Sides g at Bs i j`: items [B, 0, .. | none] of the sides Bs stand side by side from i to j.
mutual
  pub data Derived (g : List Rule) (at : ℕ → ℕ → Type 0) : ℕ → ℕ → ℕ → Foot → Type 0 where
    word_step : {p A w i : ℕ} → Stands g p (Lexical A w) → at i w → Derived g at A i (suc i) bare
    -- the dependent is any item: the result says where it stands, not what it is
    take_step : {p A γ D i k m j : ℕ} {before after : List ℕ} {ψ : Foot} → Stands g p (Spine A (Take γ) before D after)
        → Sides g at before i k → Derived g at D k m ψ → Sides g at after m j → Derived g at A i j (foot γ D k m)
    keep_step : {p A D i k m j : ℕ} {before after : List ℕ} {φ : Foot} → Stands g p (Spine A Keep before D after)
        → Sides g at before i k → Derived g at D k m φ → Sides g at after m j → Derived g at A i j φ
    -- the last item is the continuation: it agrees with the dependent's foot in B, p and q
    give_step : {r A γ D B i k m j p q : ℕ} {before after : List ℕ} {φ : Foot} → Stands g r (Spine A (Give γ) before D after)
        → Sides g at before i k → Derived g at D k m (foot γ B p q) → Sides g at after m j → Derived g at B p q φ
        → Derived g at A i j φ

  pub data Sides (g : List Rule) (at : ℕ → ℕ → Type 0) : List ℕ → ℕ → ℕ → Type 0 where
    no_side : {i : ℕ} → Sides g at [] i i
    next_side : {B i k j : ℕ} {Bs : List ℕ} → Derived g at B i k bare → Sides g at Bs k j → Sides g at (B ∷ Bs) i j
