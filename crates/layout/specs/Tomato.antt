-- Document 01, "The tomato card": the card's bytes, the ten lines, and a plan for each line that has a reading.
use Rattle.std.specs.Prelude.{ℕ, List, [], ◌∷◌, replicate}
use Rattle.grammar.specs.Lists.{concat_map}
use Rattle.grammar.specs.Plan.{plan_step}
use Rattle.layout.specs.Steps.{plan_bytes}

-- Nonterminals S T R Q M H, words coir wool takes mild rich, indices c and w; header, word entries, productions.
abbrev pub tomato_card : List ℕ
tomato_card =
    76 ∷ 73 ∷ 71 ∷ 49 ∷ 6 ∷ 5 ∷ 2 ∷ 11 ∷ 12 ∷ 0 ∷ 72 ∷ 0
    ∷ 4 ∷ 99 ∷ 111 ∷ 105 ∷ 114 ∷ 0 ∷ 0 ∷ 0 ∷ 0 ∷ 0 ∷ 0 ∷ 0
    ∷ 4 ∷ 119 ∷ 111 ∷ 111 ∷ 108 ∷ 0 ∷ 0 ∷ 0 ∷ 0 ∷ 0 ∷ 0 ∷ 0
    ∷ 5 ∷ 116 ∷ 97 ∷ 107 ∷ 101 ∷ 115 ∷ 0 ∷ 0 ∷ 0 ∷ 0 ∷ 0 ∷ 0
    ∷ 4 ∷ 109 ∷ 105 ∷ 108 ∷ 100 ∷ 0 ∷ 0 ∷ 0 ∷ 0 ∷ 0 ∷ 0 ∷ 0
    ∷ 4 ∷ 114 ∷ 105 ∷ 99 ∷ 104 ∷ 0 ∷ 0 ∷ 0 ∷ 0 ∷ 0 ∷ 0 ∷ 0
    ∷ 0 ∷ 2 ∷ 0 ∷ 0 ∷ 0 ∷ 0
    ∷ 0 ∷ 3 ∷ 1 ∷ 0 ∷ 0 ∷ 0
    ∷ 0 ∷ 1 ∷ 2 ∷ 0 ∷ 0 ∷ 0
    ∷ 0 ∷ 4 ∷ 3 ∷ 0 ∷ 0 ∷ 0
    ∷ 0 ∷ 5 ∷ 4 ∷ 0 ∷ 0 ∷ 0
    ∷ 5 ∷ 0 ∷ 2 ∷ 0 ∷ 1 ∷ 0
    ∷ 5 ∷ 0 ∷ 3 ∷ 0 ∷ 2 ∷ 0
    ∷ 5 ∷ 0 ∷ 2 ∷ 1 ∷ 1 ∷ 0
    ∷ 5 ∷ 0 ∷ 3 ∷ 1 ∷ 2 ∷ 0
    ∷ 2 ∷ 1 ∷ 1 ∷ 4 ∷ 1 ∷ 0
    ∷ 2 ∷ 1 ∷ 1 ∷ 5 ∷ 2 ∷ 0
    ∷ []

abbrev pub coir_takes_mild : List ℕ
coir_takes_mild = 99 ∷ 111 ∷ 105 ∷ 114 ∷ 32 ∷ 116 ∷ 97 ∷ 107 ∷ 101 ∷ 115 ∷ 32 ∷ 109 ∷ 105 ∷ 108 ∷ 100 ∷ []

abbrev pub coir_wool_takes_mild_rich : List ℕ
coir_wool_takes_mild_rich =
    99 ∷ 111 ∷ 105 ∷ 114 ∷ 32 ∷ 119 ∷ 111 ∷ 111 ∷ 108 ∷ 32 ∷ 116 ∷ 97 ∷ 107 ∷ 101 ∷ 115 ∷ 32 ∷ 109 ∷ 105 ∷ 108 ∷ 100 ∷ 32 ∷ 114
    ∷ 105 ∷ 99 ∷ 104 ∷ []

abbrev pub coir_wool_takes_rich_mild : List ℕ
coir_wool_takes_rich_mild =
    99 ∷ 111 ∷ 105 ∷ 114 ∷ 32 ∷ 119 ∷ 111 ∷ 111 ∷ 108 ∷ 32 ∷ 116 ∷ 97 ∷ 107 ∷ 101 ∷ 115 ∷ 32 ∷ 114 ∷ 105 ∷ 99 ∷ 104 ∷ 32 ∷ 109
    ∷ 105 ∷ 108 ∷ 100 ∷ []

abbrev pub coir_coir_takes_mild_mild : List ℕ
coir_coir_takes_mild_mild =
    99 ∷ 111 ∷ 105 ∷ 114 ∷ 32 ∷ 99 ∷ 111 ∷ 105 ∷ 114 ∷ 32 ∷ 116 ∷ 97 ∷ 107 ∷ 101 ∷ 115 ∷ 32 ∷ 109 ∷ 105 ∷ 108 ∷ 100 ∷ 32 ∷ 109
    ∷ 105 ∷ 108 ∷ 100 ∷ []

abbrev pub coir_coir_takes_mild : List ℕ
coir_coir_takes_mild = 99 ∷ 111 ∷ 105 ∷ 114 ∷ 32 ∷ 99 ∷ 111 ∷ 105 ∷ 114 ∷ 32 ∷ 116 ∷ 97 ∷ 107 ∷ 101 ∷ 115 ∷ 32 ∷ 109 ∷ 105 ∷ 108 ∷ 100 ∷ []

abbrev pub takes_alone : List ℕ
takes_alone = 116 ∷ 97 ∷ 107 ∷ 101 ∷ 115 ∷ []

abbrev pub empty_line : List ℕ
empty_line = []

abbrev pub coir_takes_capital : List ℕ
coir_takes_capital = 99 ∷ 111 ∷ 105 ∷ 114 ∷ 32 ∷ 116 ∷ 97 ∷ 107 ∷ 101 ∷ 115 ∷ 32 ∷ 77 ∷ 105 ∷ 108 ∷ 100 ∷ []

abbrev pub coir_gives_mild : List ℕ
coir_gives_mild = 99 ∷ 111 ∷ 105 ∷ 114 ∷ 32 ∷ 103 ∷ 105 ∷ 118 ∷ 101 ∷ 115 ∷ 32 ∷ 109 ∷ 105 ∷ 108 ∷ 100 ∷ []

abbrev pub coir_space : ℕ → List ℕ
coir_space n = 99 ∷ 111 ∷ 105 ∷ 114 ∷ 32 ∷ []

-- 25 times coir.
abbrev pub coir_times25 : List ℕ
coir_times25 = concat_map coir_space (replicate 25 0)

abbrev pub plan_one : List ℕ
plan_one = plan_bytes (plan_step 7 0 1 3 ∷ plan_step 0 0 1 1 ∷ plan_step 9 1 2 3 ∷ plan_step 2 1 2 2 ∷ plan_step 3 2 3 3 ∷ [])

abbrev pub plan_two : List ℕ
plan_two =
    plan_bytes (plan_step 5 0 1 5 ∷ plan_step 0 0 1 1 ∷ plan_step 8 1 2 5 ∷ plan_step 1 1 2 2 ∷ plan_step 10 2 4 5 ∷ plan_step 9 2 3 4
    ∷ plan_step 2 2 3 3 ∷ plan_step 3 3 4 4 ∷ plan_step 4 4 5 5 ∷ [])

abbrev pub plan_four : List ℕ
plan_four =
    plan_bytes (plan_step 5 0 1 5 ∷ plan_step 0 0 1 1 ∷ plan_step 7 1 2 5 ∷ plan_step 0 1 2 2 ∷ plan_step 9 2 4 5 ∷ plan_step 9 2 3 4
    ∷ plan_step 2 2 3 3 ∷ plan_step 3 3 4 4 ∷ plan_step 3 4 5 5 ∷ [])
