use Rattle.std.proofs.Common.{◌∙◌, arith, sym, subst, List, max}
use Rattle.snmp_responder.specs.Code.{seen_by}
use Rattle.snmp_walk.specs.BulkDialogue.{HasGathered, IsFirstWanting}
use Rattle.snmp_walk.specs.declared.bulk_column.BulkColumn.{BulkColumn}
use Rattle.snmp_walk.proofs.BulkNamed.{all_chosen_named, all_go_named}
use Rattle.snmp_walk.proofs.BulkGoing.{all_chosen_same, all_chosen_stand, all_go_stand, all_goes_same, some_asked, some_wants}
use Rattle.snmp_walk.proofs.bulk_dialogue.BulkDialogue.go_on.Goals as goal

pub returns-in_default-clause-requests : goal.returns-in_default-clause-requests
returns-in_default-clause-requests c = all_goes_same (seen_by c.args.viewer.now) c.args.self.now.columns.items c.go_on_each.new.columns.items c.go_on_each.ensures

pub returns-in_default-clause-stand : goal.returns-in_default-clause-stand
returns-in_default-clause-stand c told = all_go_stand (seen_by c.args.viewer.now) told c.args.self.now.columns.items c.go_on_each.new.columns.items c.go_on_each.ensures

pub returns-then-has_gathered-clause-requests : goal.returns-then-has_gathered-clause-requests
returns-then-has_gathered-clause-requests c = all_goes_same (seen_by c.args.viewer.now) c.args.self.now.columns.items c.go_on_each.new.columns.items c.go_on_each.ensures

pub returns-then-has_gathered-clause-stand : goal.returns-then-has_gathered-clause-stand
returns-then-has_gathered-clause-stand c told = all_go_stand (seen_by c.args.viewer.now) told c.args.self.now.columns.items c.go_on_each.new.columns.items c.go_on_each.ensures

pub returns-in_default-checked_sub-clause-requests : goal.returns-in_default-checked_sub-clause-requests
returns-in_default-checked_sub-clause-requests c = all_goes_same (seen_by c.args.viewer.now) c.args.self.now.columns.items c.go_on_each.new.columns.items c.go_on_each.ensures

pub returns-in_default-checked_sub-clause-stand : goal.returns-in_default-checked_sub-clause-stand
returns-in_default-checked_sub-clause-stand c told = all_go_stand (seen_by c.args.viewer.now) told c.args.self.now.columns.items c.go_on_each.new.columns.items c.go_on_each.ensures

pub returns-clause-next : goal.returns-clause-next
returns-clause-next c =
    let mids = c.go_on_each.new.columns.items in
    let chosen = c.choose.ensures.chosen in (
      record {
        non_repeaters = c.choose.ensures.limits.non_repeaters;
        max_repetitions = c.choose.ensures.limits.max_repetitions;
        repetitions = c.choose.ensures.limits.repetitions;
        at_once = c.choose.ensures.limits.at_once;
        gathered = c.choose.ensures.limits.gathered;
      },
      record {
        columns = mids;
        goes_on = c.go_on_each.ensures;
        some_wants = some_wants mids c.in-Some.number (subst (λ (cs : List BulkColumn). IsFirstWanting cs c.in-Some.number) c.as_slice.ensures.value c.in-Some.ensures);
        not_gathered = λ has. cc (c.has_gathered.ensures.1 (subst (λ (cs : List BulkColumn). HasGathered c.args.self.now.gathered cs) (sym c.as_slice-2.ensures.value) has), c.if-has_gathered.false);
        some_asked = some_asked (seen_by c.args.viewer.now) c.args.self.now.columns.items mids c.choose.new.self.columns.items c.args.self.now.non_repeaters chosen.fewest (max c.args.self.now.at_once 1) c.in-Some.number c.go_on_each.ensures
            (subst (λ (cs : List BulkColumn). IsFirstWanting cs c.in-Some.number) c.as_slice.ensures.value c.in-Some.ensures) chosen.is_fewest (grind arith) chosen.chooses;
        chosen = record { fewest = chosen.fewest; is_fewest = chosen.is_fewest; chooses = chosen.chooses; asks = chosen.asks; keeps = chosen.keeps };
        rounds = omega (arith, c.in-Some-checked_sub.ensures.0, c.in-Some-checked_sub.ensures.1, c.choose.ensures.rounds);
      },
    )

pub returns-clause-requests : goal.returns-clause-requests
returns-clause-requests c =
    let chosen = c.choose.ensures.chosen in
    let self = c.args.self.now in
    all_chosen_same self.non_repeaters chosen.fewest 0 (max self.at_once 1) c.go_on_each.new.columns.items c.choose.new.self.columns.items chosen.chooses
    ∙ all_goes_same (seen_by c.args.viewer.now) self.columns.items c.go_on_each.new.columns.items c.go_on_each.ensures

pub returns-clause-stand : goal.returns-clause-stand
returns-clause-stand c told stand =
    let chosen = c.choose.ensures.chosen in
    let self = c.args.self.now in
    all_chosen_stand (seen_by c.args.viewer.now) told self.non_repeaters chosen.fewest 0 (max self.at_once 1) c.go_on_each.new.columns.items c.choose.new.self.columns.items chosen.chooses
    (all_go_stand (seen_by c.args.viewer.now) told self.columns.items c.go_on_each.new.columns.items c.go_on_each.ensures stand)

pub returns-in_default-clause-named : goal.returns-in_default-clause-named
returns-in_default-clause-named c = all_go_named (seen_by c.args.viewer.now) c.args.self.now.columns.items c.go_on_each.new.columns.items c.go_on_each.ensures

pub returns-then-has_gathered-clause-named : goal.returns-then-has_gathered-clause-named
returns-then-has_gathered-clause-named c = all_go_named (seen_by c.args.viewer.now) c.args.self.now.columns.items c.go_on_each.new.columns.items c.go_on_each.ensures

pub returns-in_default-checked_sub-clause-named : goal.returns-in_default-checked_sub-clause-named
returns-in_default-checked_sub-clause-named c = all_go_named (seen_by c.args.viewer.now) c.args.self.now.columns.items c.go_on_each.new.columns.items c.go_on_each.ensures

pub returns-clause-named : goal.returns-clause-named
returns-clause-named c named =
    let chosen = c.choose.ensures.chosen in
    let self = c.args.self.now in
    all_chosen_named self.non_repeaters chosen.fewest 0 (max self.at_once 1) c.go_on_each.new.columns.items c.choose.new.self.columns.items chosen.chooses
    (all_go_named (seen_by c.args.viewer.now) self.columns.items c.go_on_each.new.columns.items c.go_on_each.ensures named)
