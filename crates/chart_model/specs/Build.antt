-- What the chart builder computes, over lists. Spans are closed by their end and then from the shortest, and within a span nonterminal
-- by nonterminal, so that the items of A over i to j, a cell, stand together. Within a cell candidates come by production, then by split,
-- then by the positions of dependents and of continuations, each rising, and the first with an item stays. proofs/Exact.antt shows that
-- the result is a chart, proofs/FirstSteps.antt that it has first steps.
use Rattle.std.specs.Prelude.{ℕ, zero, suc, ◌+◌, ◌-◌, Bool, true, false, ◌&&◌, List, [], ◌∷◌, ◌++◌, map, eqb, ltb, length}
use Rattle.std.proofs.Math.Option.{Option, none, some}
use Rattle.std.proofs.Math.ListN.{get_elem?}
use Rattle.grammar.specs.Lists.{concat_map, only}
use Rattle.grammar.specs.Rewriting.{Rule, Lexical, Spine, Action, Take, Keep, Give}
use Rattle.grammar.specs.Items.{Foot, bare, foot}
use Rattle.grammar.specs.ItemList.{item, is_bare, among}
use Rattle.grammar.specs.Chart.{Record, recorded, item_of, nowhere}

-- f at m places from `from` on, one after the other; and s changed by f at each of m places from 0 on.
abbrev pub flat_up : {A : Type 0} → (ℕ → List A) → ℕ → ℕ → List A
flat_up f from zero = []
flat_up f from (suc m) = flat_up f from m ++ f (from + m)

abbrev pub fold_up : {S : Type 0} → (ℕ → S → S) → ℕ → S → S
fold_up f zero s = s
fold_up f (suc m) s = f m (fold_up f m s)

-- The positions, from m on, of the records that pass a test.
abbrev pub places_from : ℕ → (Record → Bool) → List Record → List ℕ
places_from m test [] = []
places_from m test (r ∷ c) = only (test r) m ++ places_from (suc m) test c

abbrev pub is_of : ℕ → ℕ → ℕ → Record → Bool
is_of A i j (recorded (item A' i' j' φ) p x y z) = eqb A' A && (eqb i' i && eqb j' j)

abbrev pub is_bare_of : ℕ → ℕ → ℕ → Record → Bool
is_bare_of A i j (recorded (item A' i' j' φ) p x y z) = (eqb A' A && (eqb i' i && eqb j' j)) && is_bare φ

-- The positions of a cell's records, and of the one with no foot.
abbrev pub places : List Record → ℕ → ℕ → ℕ → List ℕ
places c A i j = places_from 0 (is_of A i j) c

abbrev pub bare_places : List Record → ℕ → ℕ → ℕ → List ℕ
bare_places c A i j = places_from 0 (is_bare_of A i j) c

abbrev pub foot_in : Option Record → Foot
foot_in none = bare
foot_in (some (recorded (item A i j φ) p x y z)) = φ

abbrev pub foot_at : List Record → ℕ → Foot
foot_at c m = foot_in (get_elem? c m)

-- The records that one production p adds over i to j, from its side at x and its dependent D over k to m. A take needs one
-- dependent and no more, whatever it is.
abbrev pub taken_from : ℕ → ℕ → ℕ → ℕ → ℕ → Foot → List ℕ → List Record
taken_from A i j p x φ [] = []
taken_from A i j p x φ (y ∷ ys) = recorded (item A i j φ) p x y nowhere ∷ []

abbrev pub kept_from : List Record → ℕ → ℕ → ℕ → ℕ → ℕ → ℕ → List Record
kept_from c A i j p x y = recorded (item A i j (foot_at c y)) p x y nowhere ∷ []

abbrev pub continued : List Record → ℕ → ℕ → ℕ → ℕ → ℕ → ℕ → ℕ → List Record
continued c A i j p x y z = recorded (item A i j (foot_at c z)) p x y z ∷ []

abbrev pub given_foot : List Record → ℕ → ℕ → ℕ → ℕ → ℕ → ℕ → ℕ → Foot → List Record
given_foot c A i j p x y γ bare = []
given_foot c A i j p x y γ (foot γ' B q r) =
    elim (eqb γ' γ) [ true ↦ concat_map (continued c A i j p x y) (places c B q r) | false ↦ [] ]

abbrev pub given_from : List Record → ℕ → ℕ → ℕ → ℕ → ℕ → ℕ → ℕ → List Record
given_from c A i j p x γ y = given_foot c A i j p x y γ (foot_at c y)

abbrev pub by_action : List Record → Action → ℕ → ℕ → ℕ → ℕ → ℕ → ℕ → ℕ → ℕ → List Record
by_action c (Take γ) D k m A i j p x = taken_from A i j p x (foot γ D k m) (places c D k m)
by_action c Keep D k m A i j p x = concat_map (kept_from c A i j p x) (places c D k m)
by_action c (Give γ) D k m A i j p x = concat_map (given_from c A i j p x γ) (places c D k m)

-- The same by the rule's shape, for a split at k: the side's stretch and the dependent's.
abbrev pub by_rule : List Record → ℕ → ℕ → ℕ → ℕ → ℕ → Rule → List Record
by_rule c A i k j p (Lexical A' w) = []
by_rule c A i k j p (Spine A' a (B ∷ []) D []) =
    elim (eqb A' A) [ true ↦ concat_map (by_action c a D k j A i j p) (bare_places c B i k) | false ↦ [] ]
by_rule c A i k j p (Spine A' a (B ∷ []) D (C ∷ after)) = []
by_rule c A i k j p (Spine A' a (B ∷ C ∷ before) D after) = []
by_rule c A i k j p (Spine A' a [] D []) = []
by_rule c A i k j p (Spine A' a [] D (B ∷ [])) =
    elim (eqb A' A) [ true ↦ concat_map (by_action c a D i k A i j p) (bare_places c B k j) | false ↦ [] ]
by_rule c A i k j p (Spine A' a [] D (B ∷ C ∷ after)) = []

-- The same with the split last; at every split of i to j, from the left; and the word production of A for the word at i.
abbrev pub rule_at : List Record → ℕ → ℕ → ℕ → ℕ → Rule → ℕ → List Record
rule_at c A i j p r k = by_rule c A i k j p r

abbrev pub across_splits : List Record → ℕ → ℕ → ℕ → ℕ → Rule → List Record
across_splits c A i j p r = flat_up (rule_at c A i j p r) (suc i) (j - suc i)

abbrev pub by_word : (ℕ → ℕ → Bool) → ℕ → ℕ → ℕ → Rule → List Record
by_word at A i p (Lexical A' w) =
    only (eqb A' A && at i w) (recorded (item A i (suc i) bare) p nowhere nowhere nowhere)
by_word at A i p (Spine A' a before D after) = []

-- The records that one production may add to the cell of A over i to i + len, and those that all may.
abbrev pub by_rule_over : (ℕ → ℕ → Bool) → List Record → ℕ → ℕ → ℕ → ℕ → Rule → List Record
by_rule_over at c A i zero p r = []
by_rule_over at c A i (suc zero) p r = by_word at A i p r
by_rule_over at c A i (suc (suc len)) p r = across_splits c A i (i + suc (suc len)) p r

abbrev pub by_production : List Rule → (ℕ → ℕ → Bool) → List Record → ℕ → ℕ → ℕ → ℕ → List Record
by_production g at c A i len p = elim (get_elem? g p) [ none ↦ [] | some r ↦ by_rule_over at c A i len p r ]

abbrev pub candidates : List Rule → (ℕ → ℕ → Bool) → List Record → ℕ → ℕ → ℕ → List Record
candidates g at c A i len = flat_up (by_production g at c A i len) 0 (length g)

-- A record is added where its item is new and the room holds one more; `none` where it does not.
abbrev pub added : ℕ → Record → List Record → Option (List Record)
added room r c =
    elim (among (item_of r) (map item_of c)) [
      | true ↦ some c
      | false ↦ elim (ltb (length c) room) [ true ↦ some (c ++ (r ∷ [])) | false ↦ none ]
    ]

abbrev pub add_one : ℕ → Record → Option (List Record) → Option (List Record)
add_one room r none = none
add_one room r (some c) = added room r c

abbrev pub add_each : ℕ → List Record → Option (List Record) → Option (List Record)
add_each room [] s = s
add_each room (r ∷ rs) s = add_each room rs (add_one room r s)

-- One cell; one span; the span of m + 1 words that ends at e + 1; the spans that end there, from the shortest; and all.
abbrev pub fill_cell : ℕ → List Rule → (ℕ → ℕ → Bool) → ℕ → ℕ → ℕ → Option (List Record) → Option (List Record)
fill_cell room g at len i A none = none
fill_cell room g at len i A (some c) = add_each room (candidates g at c A i len) (some c)

abbrev pub close_span : ℕ → List Rule → (ℕ → ℕ → Bool) → ℕ → ℕ → ℕ → Option (List Record) → Option (List Record)
close_span room g at N len i s = fold_up (fill_cell room g at len i) N s

abbrev pub close_back : ℕ → List Rule → (ℕ → ℕ → Bool) → ℕ → ℕ → ℕ → Option (List Record) → Option (List Record)
close_back room g at N e m s = close_span room g at N (suc m) (e - m) s

abbrev pub close_end : ℕ → List Rule → (ℕ → ℕ → Bool) → ℕ → ℕ → Option (List Record) → Option (List Record)
close_end room g at N e s = fold_up (close_back room g at N e) (suc e) s

-- The chart of n words under N nonterminals, if the room holds it.
abbrev pub build : ℕ → List Rule → (ℕ → ℕ → Bool) → ℕ → ℕ → Option (List Record)
build room g at N n = fold_up (close_end room g at N) n (some [])
