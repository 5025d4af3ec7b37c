-- By the production: the record of an accepted card has one of its productions, and the laws of Opening.antt answer what each of the
-- three forms asks and promises.
use Rattle.unfold.proofs.Spines.{record-inside, step_room}
use Rattle.unfold.proofs.Opening.{production-there, first_fits, first-inside, opened-first, last_fits, last-inside, opened-last, opened-word}
use Rattle.unfold.proofs.Opening.{step-written}
use Rattle.unfold.proofs.Source.open_record.Goals as goal

pub node_at-node-requires : goal.node_at-node-requires
node_at-node-requires c = record-inside c.requires.ready

pub production-rule-requires : goal.production-rule-requires
production-rule-requires c = production-there c.requires c.node_at-node.ensures c.from.ensures

pub put_step-next-requires : goal.put_step-next-requires
put_step-next-requires c = step_room c.requires

pub onward-rest-requires : goal.onward-rest-requires
onward-rest-requires c = first_fits c.requires c.node_at-node.ensures c.from.ensures c.production-rule.ensures c.in-SideFirst.is

pub node_at-first-requires : goal.node_at-first-requires
node_at-first-requires c = first-inside c.requires c.node_at-node.ensures c.from.ensures c.production-rule.ensures c.in-SideFirst.is

pub put_step-next-requires-in-SideFirst : goal.put_step-next-requires-in-SideFirst
put_step-next-requires-in-SideFirst c = step_room c.requires

pub onward-rest-requires-in-SideLast : goal.onward-rest-requires-in-SideLast
onward-rest-requires-in-SideLast c = last_fits c.requires c.node_at-node.ensures c.from.ensures c.production-rule.ensures c.in-SideLast.is

pub node_at-last-requires : goal.node_at-last-requires
node_at-last-requires c = last-inside c.requires c.node_at-node.ensures c.from.ensures c.production-rule.ensures c.in-SideLast.is

pub put_step-next-requires-in-SideLast : goal.put_step-next-requires-in-SideLast
put_step-next-requires-in-SideLast c = step_room c.requires

pub returns-in-Word : goal.returns-in-Word
returns-in-Word c =
    let node = c.node_at-node.ensures in
    record {
      opened = opened-word c.requires node c.from.ensures c.production-rule.ensures c.in-Word.is;
      step_written = step-written node node.to c.put_step-next.ensures;
    }

pub returns-in-SideFirst : goal.returns-in-SideFirst
returns-in-SideFirst c =
    let node = c.node_at-node.ensures in
    record {
      opened = opened-first c.requires node c.from.ensures c.production-rule.ensures c.in-SideFirst.is c.onward-rest.ensures;
      step_written = step-written node c.node_at-first.ensures.to c.put_step-next-in-SideFirst.ensures;
    }

pub returns-in-SideLast : goal.returns-in-SideLast
returns-in-SideLast c =
    let node = c.node_at-node.ensures in
    record {
      opened = opened-last c.requires node c.from.ensures c.production-rule.ensures c.in-SideLast.is c.onward-rest-in-SideLast.ensures;
      step_written = step-written node c.node_at-last.ensures.from c.put_step-next-in-SideLast.ensures;
    }
