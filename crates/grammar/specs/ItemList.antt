-- The items that the deduction steps of Items.antt derive, computed: what document 01 calls the derivable items.
-- From a list of items every step is tried, until a round adds nothing. proofs/ shows that the list is exact and free of
-- duplicates, and that every such list has its length.
use Rattle.std.specs.Prelude.{ℕ, zero, suc, ◌+◌, ◌*◌, Bool, true, false, ◌&&◌, List, [], ◌∷◌, map, eqb, length}
use Rattle.grammar.specs.Lists.{concat_map, only, up_to}
use Rattle.grammar.specs.Rewriting.{Rule, Lexical, Spine, Action, Take, Keep, Give}
use Rattle.grammar.specs.Items.{Foot, bare, foot}

-- The item of A over i to j with foot φ.
pub data Item : Type 0 where
  item : (A i j : ℕ) (φ : Foot) → Item

abbrev pub is_bare : Foot → Bool
is_bare bare = true
is_bare (foot γ B p q) = false

abbrev pub same_foot : Foot → Foot → Bool
same_foot bare bare = true
same_foot bare (foot γ B p q) = false
same_foot (foot γ B p q) bare = false
same_foot (foot γ B p q) (foot γ' B' p' q') = eqb γ γ' && (eqb B B' && (eqb p p' && eqb q q'))

abbrev pub same_item : Item → Item → Bool
same_item (item A i j φ) (item A' i' j' φ') = eqb A A' && (eqb i i' && (eqb j j' && same_foot φ φ'))

abbrev pub among : Item → List Item → Bool
among x [] = false
among x (y ∷ l) = elim (same_item x y) [ true ↦ true | false ↦ among x l ]

-- Where an item of B with no foot that starts at i ends; what feet the items of B over p to q have.
abbrev pub end_of : ℕ → ℕ → Item → List ℕ
end_of B i (item A i' j φ) = only (eqb A B && (eqb i' i && is_bare φ)) j

abbrev pub foot_of : ℕ → ℕ → ℕ → Item → List Foot
foot_of B p q (item A i j φ) = only (eqb A B && (eqb i p && eqb j q)) φ

-- Where sides that start at i can end.
abbrev pub ends : List Item → List ℕ → ℕ → List ℕ
ends l [] i = i ∷ []
ends l (B ∷ Bs) i = concat_map (λ k. ends l Bs k) (concat_map (end_of B i) l)

-- The feet that a rule's result over i to j can have, by its action and by the foot ψ of its dependent D over k to m.
abbrev pub give_feet : List Item → ℕ → Foot → List Foot
give_feet l γ bare = []
give_feet l γ (foot γ' B p q) = elim (eqb γ γ') [ true ↦ concat_map (foot_of B p q) l | false ↦ [] ]

abbrev pub result_feet : List Item → Action → ℕ → ℕ → ℕ → Foot → List Foot
result_feet l (Take γ) D k m ψ = foot γ D k m ∷ []
result_feet l Keep D k m ψ = ψ ∷ []
result_feet l (Give γ) D k m ψ = give_feet l γ ψ

-- What follows from a dependent that was found, with the sides before it from i.
abbrev pub with_dependent : List Item → ℕ → Action → ℕ → List ℕ → ℕ → ℕ → Item → List Item
with_dependent l A a D after i k (item D' k' m ψ) =
    elim (eqb D' D && eqb k' k) [
      | true ↦ concat_map (λ j. map (item A i j) (result_feet l a D k m ψ)) (ends l after m)
      | false ↦ []
    ]

-- What one rule adds at the start i; and every rule at every start below n.
abbrev pub by_rule : (ℕ → ℕ → Bool) → List Item → ℕ → Rule → List Item
by_rule at l i (Lexical A w) = only (at i w) (item A i (suc i) bare)
by_rule at l i (Spine A a before D after) =
    concat_map (λ k. concat_map (with_dependent l A a D after i k) l) (ends l before i)

abbrev pub consequences : List Rule → (ℕ → ℕ → Bool) → ℕ → List Item → List Item
consequences g at n l = concat_map (λ i. concat_map (by_rule at l i) g) (up_to n)

-- The items of xs that l lacks, put before it.
abbrev pub add_all : List Item → List Item → List Item
add_all [] l = l
add_all (x ∷ xs) l = let more = add_all xs l in elim (among x more) [ true ↦ more | false ↦ x ∷ more ]

abbrev pub rounds : List Rule → (ℕ → ℕ → Bool) → ℕ → ℕ → List Item → List Item
rounds g at n zero l = l
rounds g at n (suc fuel) l =
    let more = add_all (consequences g at n l) l in
    elim (eqb (length more) (length l)) [ true ↦ l | false ↦ rounds g at n fuel more ]

-- A number above each nonterminal and index of the grammar's left sides, dependents and takes.
abbrev pub action_extent : Action → ℕ
action_extent (Take γ) = γ
action_extent Keep = 0
action_extent (Give γ) = γ

abbrev pub rule_extent : Rule → ℕ
rule_extent (Lexical A w) = suc A
rule_extent (Spine A a before D after) = suc (A + (D + action_extent a))

abbrev pub extent : List Rule → ℕ
extent [] = 0
extent (r ∷ g) = rule_extent r + extent g

-- So many items at most can be told apart over n words: the rounds end before it.
abbrev pub most_items : ℕ → ℕ → ℕ
most_items N n = N * (suc n * (suc n * suc (N * (N * (suc n * suc n)))))

-- The derivable items over n words, read by the test `at`.
abbrev pub items : List Rule → (ℕ → ℕ → Bool) → ℕ → List Item
items g at n = rounds g at n (suc (most_items (extent g) n)) []
