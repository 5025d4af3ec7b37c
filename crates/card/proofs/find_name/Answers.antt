-- `find_name`: the card's number decides where it is not 0, and then the count of words. A known word's spelling lies inside its entry.
use native.Mathlib.Omega.{arith}
use mathlib.Core.Path.{refl, sym}
use Rattle.std.proofs.lemmas.Result.{err_from_is_err_and}
use Rattle.refusals.proofs.NumberLaws.{numbered}
use Rattle.card.proofs.Accepted.{name-refused, name-known, answer-refused, spelling-inside}
use Rattle.card.proofs.find_name.Goals as goal

pub returns-in_err-card-clause-answer : goal.returns-in_err-card-clause-answer
returns-in_err-card-clause-answer c =
    let a = c.args in
    let refusal = c.in_err-card.field-0.0 in
    let number = c.in_err-card.ensures.number in
    let some = numbered refusal in
    let (e, is, came) = err_from_is_err_and c.from_residual.result c.from_residual.ensures.1 in
    rw (is, came)
    (answer-refused a.bytes.now a.word (name-refused a.bytes.now a.word _ number λ z. omega (arith, z, some.0)) λ z. omega (arith, z, some.0))

pub returns-clause-inside : goal.returns-clause-inside
returns-clause-inside c =
    let a = c.args in
    let checked = c.in_ok-card.ensures in
    let words = rw checked.same at c.words.ensures.counts in
    let known = name-known a.bytes.now a.word 0 checked.number refl words c.if-words-word.false in
    let place = rw checked.same at c.entry_at-at.ensures in
    let inside = spelling-inside a.bytes.now a.word c.entry_at-at.result c.from.result (sym known) place (cc (c.from.ensures, place)) in
    omega (arith, inside)
