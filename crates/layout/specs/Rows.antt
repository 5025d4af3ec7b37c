-- A card beside document 01's tomato card, for document 02's Paper 6: a row may have a number, "coir 14", and a feed may be "extra mild". Its
-- bytes, lines of it, and a plan for each line that has a reading.
use Rattle.std.specs.Prelude.{ℕ, List, [], ◌∷◌}
use Rattle.grammar.specs.Plan.{plan_step}
use Rattle.layout.specs.Steps.{plan_bytes}

-- Nonterminals S T R Q M H K L N E, words coir wool takes mild rich 14 15 extra, indices c and w. Productions 0 to 10 are the tomato card's.
-- 11 to 14: K→coir, L→wool, N→14, N→15. 15: R[..]→K[] N[..]. 16: Q[..]→L[..] N[]. 17: E→extra. 18: M[..]→E[] M[..]. 19: H[..]→E[] H[..].
abbrev pub rows_card : List ℕ
rows_card =
    76 ∷ 73 ∷ 71 ∷ 49 ∷ 10 ∷ 8 ∷ 2 ∷ 20 ∷ 12 ∷ 0 ∷ 108 ∷ 0
    ∷ 4 ∷ 99 ∷ 111 ∷ 105 ∷ 114 ∷ 0 ∷ 0 ∷ 0 ∷ 0 ∷ 0 ∷ 0 ∷ 0
    ∷ 4 ∷ 119 ∷ 111 ∷ 111 ∷ 108 ∷ 0 ∷ 0 ∷ 0 ∷ 0 ∷ 0 ∷ 0 ∷ 0
    ∷ 5 ∷ 116 ∷ 97 ∷ 107 ∷ 101 ∷ 115 ∷ 0 ∷ 0 ∷ 0 ∷ 0 ∷ 0 ∷ 0
    ∷ 4 ∷ 109 ∷ 105 ∷ 108 ∷ 100 ∷ 0 ∷ 0 ∷ 0 ∷ 0 ∷ 0 ∷ 0 ∷ 0
    ∷ 4 ∷ 114 ∷ 105 ∷ 99 ∷ 104 ∷ 0 ∷ 0 ∷ 0 ∷ 0 ∷ 0 ∷ 0 ∷ 0
    ∷ 2 ∷ 49 ∷ 52 ∷ 0 ∷ 0 ∷ 0 ∷ 0 ∷ 0 ∷ 0 ∷ 0 ∷ 0 ∷ 0
    ∷ 2 ∷ 49 ∷ 53 ∷ 0 ∷ 0 ∷ 0 ∷ 0 ∷ 0 ∷ 0 ∷ 0 ∷ 0 ∷ 0
    ∷ 5 ∷ 101 ∷ 120 ∷ 116 ∷ 114 ∷ 97 ∷ 0 ∷ 0 ∷ 0 ∷ 0 ∷ 0 ∷ 0
    ∷ 0 ∷ 2 ∷ 0 ∷ 0 ∷ 0 ∷ 0
    ∷ 0 ∷ 3 ∷ 1 ∷ 0 ∷ 0 ∷ 0
    ∷ 0 ∷ 1 ∷ 2 ∷ 0 ∷ 0 ∷ 0
    ∷ 0 ∷ 4 ∷ 3 ∷ 0 ∷ 0 ∷ 0
    ∷ 0 ∷ 5 ∷ 4 ∷ 0 ∷ 0 ∷ 0
    ∷ 5 ∷ 0 ∷ 2 ∷ 0 ∷ 1 ∷ 0
    ∷ 5 ∷ 0 ∷ 3 ∷ 0 ∷ 2 ∷ 0
    ∷ 5 ∷ 0 ∷ 2 ∷ 1 ∷ 1 ∷ 0
    ∷ 5 ∷ 0 ∷ 3 ∷ 1 ∷ 2 ∷ 0
    ∷ 2 ∷ 1 ∷ 1 ∷ 4 ∷ 1 ∷ 0
    ∷ 2 ∷ 1 ∷ 1 ∷ 5 ∷ 2 ∷ 0
    ∷ 0 ∷ 6 ∷ 0 ∷ 0 ∷ 0 ∷ 0
    ∷ 0 ∷ 7 ∷ 1 ∷ 0 ∷ 0 ∷ 0
    ∷ 0 ∷ 8 ∷ 5 ∷ 0 ∷ 0 ∷ 0
    ∷ 0 ∷ 8 ∷ 6 ∷ 0 ∷ 0 ∷ 0
    ∷ 3 ∷ 2 ∷ 6 ∷ 8 ∷ 0 ∷ 0
    ∷ 4 ∷ 3 ∷ 7 ∷ 8 ∷ 0 ∷ 0
    ∷ 0 ∷ 9 ∷ 7 ∷ 0 ∷ 0 ∷ 0
    ∷ 3 ∷ 4 ∷ 9 ∷ 4 ∷ 0 ∷ 0
    ∷ 3 ∷ 5 ∷ 9 ∷ 5 ∷ 0 ∷ 0
    ∷ []

abbrev pub coir14_takes_mild : List ℕ
coir14_takes_mild = 99 ∷ 111 ∷ 105 ∷ 114 ∷ 32 ∷ 49 ∷ 52 ∷ 32 ∷ 116 ∷ 97 ∷ 107 ∷ 101 ∷ 115 ∷ 32 ∷ 109 ∷ 105 ∷ 108 ∷ 100 ∷ []

abbrev pub coir_takes_extra_mild : List ℕ
coir_takes_extra_mild =
    99 ∷ 111 ∷ 105 ∷ 114 ∷ 32 ∷ 116 ∷ 97 ∷ 107 ∷ 101 ∷ 115 ∷ 32 ∷ 101 ∷ 120 ∷ 116 ∷ 114 ∷ 97 ∷ 32 ∷ 109 ∷ 105 ∷ 108 ∷ 100 ∷ []

abbrev pub coir14_takes_extra_mild : List ℕ
coir14_takes_extra_mild =
    99 ∷ 111 ∷ 105 ∷ 114 ∷ 32 ∷ 49 ∷ 52 ∷ 32 ∷ 116 ∷ 97 ∷ 107 ∷ 101 ∷ 115 ∷ 32 ∷ 101 ∷ 120 ∷ 116 ∷ 114 ∷ 97 ∷ 32 ∷ 109 ∷ 105
    ∷ 108 ∷ 100 ∷ []

abbrev pub number_alone : List ℕ
number_alone = 49 ∷ 52 ∷ 32 ∷ 116 ∷ 97 ∷ 107 ∷ 101 ∷ 115 ∷ 32 ∷ 109 ∷ 105 ∷ 108 ∷ 100 ∷ []

abbrev pub plan_numbered : List ℕ
plan_numbered =
    plan_bytes
    (plan_step 7 0 2 4 ∷ plan_step 15 0 1 2 ∷ plan_step 11 0 1 1 ∷ plan_step 13 1 2 2 ∷ plan_step 9 2 3 4 ∷ plan_step 2 2 3 3 ∷ plan_step 3 3 4 4 ∷ [])

abbrev pub plan_extra : List ℕ
plan_extra =
    plan_bytes
    (plan_step 7 0 1 4 ∷ plan_step 0 0 1 1 ∷ plan_step 9 1 2 4 ∷ plan_step 2 1 2 2 ∷ plan_step 18 2 3 4 ∷ plan_step 17 2 3 3 ∷ plan_step 3 3 4 4 ∷ [])

abbrev pub plan_both : List ℕ
plan_both =
    plan_bytes (plan_step 7 0 2 5 ∷ plan_step 15 0 1 2 ∷ plan_step 11 0 1 1 ∷ plan_step 13 1 2 2 ∷ plan_step 9 2 3 5 ∷ plan_step 2 2 3 3
    ∷ plan_step 18 3 4 5 ∷ plan_step 17 3 4 4 ∷ plan_step 3 4 5 5 ∷ [])
