-- `class_one` meets its contract: each arm's places lie in the table, and the stores of an arm are those of the law for its kind of rule.
use Rattle.sets.proofs.ClassLaws.{word-joined, first-joined, last-joined}
use Rattle.sets.proofs.class_one.Goals as goal

pub returns-in-Word : goal.returns-in-Word
returns-in-Word c =
    word-joined c.args.p c.requires.2 c.requires.0 c.in-Word.is c.from.ensures c.from-in-Word.ensures
    c.put.ensures c.put-in-Word.ensures

pub returns-in-SideFirst : goal.returns-in-SideFirst
returns-in-SideFirst c =
    first-joined c.args.p c.requires.2 c.requires.0 c.in-SideFirst.is c.from-in-SideFirst.ensures c.from-in-SideFirst-2.ensures
    c.from-in-SideFirst-3.ensures c.put-in-SideFirst.ensures c.put-in-SideFirst-2.ensures c.put-in-SideFirst-3.ensures

pub returns-in-SideLast : goal.returns-in-SideLast
returns-in-SideLast c =
    last-joined c.args.p c.requires.2 c.requires.0 c.in-SideLast.is c.from-in-SideLast.ensures c.from-in-SideLast-2.ensures
    c.from-in-SideLast-3.ensures c.put-in-SideLast.ensures c.put-in-SideLast-2.ensures c.put-in-SideLast-3.ensures
