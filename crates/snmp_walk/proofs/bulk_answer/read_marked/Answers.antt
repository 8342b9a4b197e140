use Rattle.snmp_walk.specs.Turns.{turns_left}
use Rattle.snmp_walk.proofs.BulkAnswers.{all_grow_more, turns_begin}
use Rattle.snmp_walk.proofs.bulk_answer.read_marked.Goals as goal

pub read_turns-requires : goal.read_turns-requires
read_turns-requires c =
    turns_begin c.args.columns.now.items c.begin_each.new.columns.items (turns_left c.args.turns) c.in_ok-begin_each.ensures.begun c.requires.asked

pub returns-clause-grows : goal.returns-clause-grows
returns-clause-grows c =
    all_grow_more c.args.columns.now.items c.begin_each.new.columns.items c.read_turns.new.columns.items c.begin_each.ensures.grows c.read_turns.ensures.grows

pub returns-in_err-fault-clause-grows : goal.returns-in_err-fault-clause-grows
returns-in_err-fault-clause-grows c =
    all_grow_more c.args.columns.now.items c.begin_each.new.columns.items c.read_turns.new.columns.items c.begin_each.ensures.grows c.read_turns.ensures.grows

pub returns-clause-reads : goal.returns-clause-reads
returns-clause-reads c = (c.begin_each.new.columns.items, c.in_ok-begin_each.ensures.begun, c.in_ok-fault.ensures.reads)
