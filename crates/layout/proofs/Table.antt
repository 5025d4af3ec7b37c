-- Document 01's ten rows and its room limits as one table, computed from the card's bytes and the lines' bytes.
use mathlib.Core.Path.{◌≡◌, refl}
use mathlib.Core.Bool.{true}
use mathlib.Core.List.{[], ◌∷◌}
use lib.ListN.{length}
use Rattle.layout.specs.Card.{header_length, names_live, card_number}
use Rattle.layout.specs.Answers.{read_answer, refusal}
use Rattle.layout.specs.Tomato.{tomato_card, coir_takes_mild, coir_wool_takes_mild_rich, coir_wool_takes_rich_mild, coir_coir_takes_mild_mild, coir_coir_takes_mild, takes_alone, empty_line, coir_takes_capital, coir_gives_mild, coir_times25, plan_one, plan_two, plan_four}
use Rattle.layout.proofs.TableRows.{ReadRow, RefusedRow, each-pairs}

record Table : Type 0 where
  size : length tomato_card ≡ 138
  card : card_number tomato_card ≡ 0
  names : names_live tomato_card ≡ true
  row1 : ReadRow tomato_card coir_takes_mild plan_one 3 5 5 (0 ∷ 2 ∷ [])
  row2 : ReadRow tomato_card coir_wool_takes_mild_rich plan_two 5 9 9 (0 ∷ 3 ∷ 1 ∷ 4 ∷ [])
  row3 : RefusedRow tomato_card coir_wool_takes_rich_mild plan_two 25 5 8 34
  row4 : ReadRow tomato_card coir_coir_takes_mild_mild plan_four 5 10 9 (0 ∷ 3 ∷ 1 ∷ 4 ∷ [])
  row5 : RefusedRow tomato_card coir_coir_takes_mild plan_one 25 4 6 34
  row6 : RefusedRow tomato_card takes_alone [] 25 1 1 34
  row7 : RefusedRow tomato_card empty_line [] 21 0 0 21
  row8 : RefusedRow tomato_card coir_takes_capital plan_one 22 0 0 22
  row9 : RefusedRow tomato_card coir_gives_mild plan_one 24 0 0 24
  row10 : RefusedRow tomato_card coir_times25 [] 23 0 0 23
  enough : read_answer tomato_card coir_takes_mild 80 20 ≡ record { number = 0; words = 3; items = 5; steps = 5 }
  chart_short : read_answer tomato_card coir_takes_mild 79 20 ≡ refusal 31
  plan_short : read_answer tomato_card coir_takes_mild 80 19 ≡ refusal 32
  both_short : read_answer tomato_card coir_takes_mild 79 19 ≡ refusal 32

table : Table
unfolding header_length
table =
    record {
      size = refl;
      card = refl;
      names = refl;
      row1 = record { answer = refl; each = each-pairs tomato_card coir_takes_mild refl; passes = refl; accepted = refl; written = refl };
      row2 = record { answer = refl; each = each-pairs tomato_card coir_wool_takes_mild_rich refl; passes = refl; accepted = refl; written = refl };
      row3 = record { answer = refl; fails = refl; unpaired = refl };
      row4 = record { answer = refl; each = each-pairs tomato_card coir_coir_takes_mild_mild refl; passes = refl; accepted = refl; written = refl };
      row5 = record { answer = refl; fails = refl; unpaired = refl };
      row6 = record { answer = refl; fails = refl; unpaired = refl };
      row7 = record { answer = refl; fails = refl; unpaired = refl };
      row8 = record { answer = refl; fails = refl; unpaired = refl };
      row9 = record { answer = refl; fails = refl; unpaired = refl };
      row10 = record { answer = refl; fails = refl; unpaired = refl };
      enough = refl;
      chart_short = refl;
      plan_short = refl;
      both_short = refl;
    }
