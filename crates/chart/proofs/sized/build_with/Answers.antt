-- `sized::build_with` meets its contract: once the sets by the card are noted, tables of zeros are where the model starts.
-- The nonterminals that the code counts are the card's.
use native.Mathlib.Omega.{arith}
use mathlib.Core.Path.{sym}
use Rattle.layout.specs.Card.{grammar_of}
use Rattle.places.specs.Places.{word_test}
use Rattle.chart.proofs.CardFits.{few-names}
use Rattle.chart.proofs.BuiltExact.{tables_start, closed-as}
use Rattle.chart.proofs.sized.build_with.Goals as goal

pub classify-requires : goal.classify-requires
classify-requires c =
    let p = c.requires in
    (omega (arith, p.long.sets_there), p.sets_zero)

pub close_all-requires : goal.close_all-requires
close_all-requires c =
    let a = c.args in
    let names = c.nonterminals.ensures.counts in
    record {
      names = names;
      between = rw names
          (tables_start a.input.words.now.few (few-names a.input.card.bytes.now a.input.card.accepted) c.capacity.ensures c.requires
          c.classify.ensures.0 c.classify.ensures.1);
    }

pub returns : goal.returns
returns c =
    let a = c.args in
    rw (sym c.capacity.ensures)
    (closed-as c.capacity.result a.input.words.now.count (grammar_of a.input.card.bytes.now) (word_test a.input.words.now.places)
    c.nonterminals.ensures.counts c.close_all.ensures)
