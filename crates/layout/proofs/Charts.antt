-- Every chart of a line has as many records as there are derivable items: its items are derived, since each record is justified, they
-- are all the derived ones, and none stands twice.
use Prim.Native.Nat.{ℕ}
use mathlib.Core.Path.{◌≡◌, sym, ◌∙◌, subst}
use mathlib.Core.Bool.{Bool}
use mathlib.Core.List.{List, map, Memᴰ}
use lib.ListN.{length, length-map}
use Rattle.grammar.specs.Rewriting.{Rule}
use Rattle.grammar.specs.Input.{Holds, Below}
use Rattle.grammar.specs.ItemList.{Item, item, items}
use Rattle.grammar.specs.Chart.{Record, IsChart, item_of}
use Rattle.grammar.proofs.ListLaws.{in_map, map-in, in-stands, stands-in}
use Rattle.grammar.proofs.ItemListExact.{items-sound, items-complete, items-distinct, exact-length}
use Rattle.grammar.proofs.Unfolding.{justified-derived}
use Rattle.layout.specs.Card.{grammar_of}
use Rattle.layout.specs.Answers.{words_in, line_test, derivable}
use Rattle.layout.proofs.Reading.{line-below}

module _ (g : List Rule) (at : ℕ → ℕ → Bool) (n : ℕ) (below : Below (Holds at) n) (c : List Record) (chart : IsChart g (Holds at) c) where
  derivable-in : (x : Item) → Memᴰ x (map item_of c) → Memᴰ x (items g at n)
  derivable-in (item A i j φ) m =
      let (e, k, eq) = in_map item_of c m in
      let (_, s) = in-stands k in
      items-complete g at n below A i j φ (justified-derived g (Holds at) c chart.justified s (sym eq))

  in-derivable : (x : Item) → Memᴰ x (items g at n) → Memᴰ x (map item_of c)
  in-derivable (item A i j φ) m =
      let (k, e, s, eq) = chart.complete A i j φ (items-sound g at n A i j φ m) in
      subst (λ (x : Item). Memᴰ x (map item_of c)) eq (map-in item_of (stands-in s))

  pub chart-length : length c ≡ length (items g at n)
  chart-length =
      sym (length-map c item_of)
      ∙ exact-length (map item_of c) (items g at n) chart.distinct (items-distinct g at n) derivable-in in-derivable

pub chart-count : (card line : List ℕ) (c : List Record) → IsChart (grammar_of card) (Holds (line_test card line)) c
    → length c ≡ length (derivable card line)
chart-count card line c chart = chart-length (grammar_of card) (line_test card line) (words_in line) (line-below card line) c chart
