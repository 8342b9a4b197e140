use Rattle.std.proofs.Common.{Some, ap, subst, sym, ◌≡◌, ◌∙◌}
use Rattle.snmp_gate.specs.Beginning.{IsKnownOnward}
use Rattle.snmp_gate.specs.Sets.{IsNote, lasting}
use Rattle.snmp_gate.specs.Work.{OnwardStands}
use Rattle.snmp_gate.specs.declared.sets.SetNote.TheVariants.{Repeated}
use Rattle.snmp_gate.proofs.Knowing.{first_known_onward}
use Rattle.snmp_gate.specs.declared.onward.Onward.{Onward}
use Rattle.snmp_gate.proofs.gate.Gate.begin_set.Goals as goal
use Rattle.snmp_gate.proofs.gate.Gate.begin_set.Goals.{in-Repeated-Some, in-New+in_ok-onward-in-New, in-NoRoom+in_ok-onward-in-NoRoom}

pub returns-clause-begins : goal.returns-clause-begins
returns-clause-begins c q asked set told nothing =
    let Stands : Onward → Type 0 = OnwardStands c.args.self.now.agent.tables q told in
    elim c.match-note.branch [
      | in-Repeated-Some w ↦ subst Stands (sym w.onward-is) (set, nothing)
      | in-New+in_ok-onward-in-New w ↦ subst Stands (sym w.onward-is) (w.in_ok-onward-in-New.ensures.begins q asked set told nothing)
      | in-NoRoom+in_ok-onward-in-NoRoom w ↦ subst Stands (sym w.onward-is) (w.in_ok-onward-in-NoRoom.ensures.begins q asked set told nothing)
    ]

pub returns-clause-known : goal.returns-clause-known
returns-clause-known c =
    let now = c.args.now in
    let digest = c.args.message.now.digest in
    let sets = c.args.self.now.sets.sets.items in
    let Known : Onward → Type 0 = IsKnownOnward now digest sets in
    elim c.match-note.branch [
      | in-Repeated-Some w ↦ subst Known (sym w.onward-is) (
        c.in-Some.digest,
        c.in-Some.is,
        (let same : w.in-Repeated-Some.field-0 ≡ Some w.in-Repeated-Some.says = rw w.in-Repeated-Some.is at w.in-Repeated-Some.field-0-is in
            subst (IsNote c.in-Some.digest (lasting now sets)) (w.in-Repeated-Some.is ∙ ap Repeated same) c.look-note.ensures.note),
      )
      | in-New+in_ok-onward-in-New w ↦ subst Known (sym w.onward-is) (first_known_onward now digest sets w.in_ok-onward-in-New.onward w.in_ok-onward-in-New.ensures.first)
      | in-NoRoom+in_ok-onward-in-NoRoom w ↦ subst Known (sym w.onward-is) (first_known_onward now digest sets w.in_ok-onward-in-NoRoom.onward w.in_ok-onward-in-NoRoom.ensures.first)
    ]
