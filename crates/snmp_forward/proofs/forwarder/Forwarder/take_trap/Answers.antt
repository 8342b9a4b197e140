use Rattle.std.proofs.Common.{◌≡◌, ◌<◌, ◌++◌, ◌∷◌, [], ℕ, List, ap, arith, length, refl, subst, sym, ◌∙◌}
use Rattle.std.proofs.lemmas.Bool.{eqb-false, eqb-true}
use Rattle.std.proofs.lemmas.List.Elements.{Contains-get_or}
use Rattle.std.specs.Prelude.{slice_index_or}
use Rattle.std.specs.Vec.{vec_len}
use Rattle.snmp_forward.specs.Choosing.{IsChosen}
use Rattle.snmp_forward.specs.Queue.{waiting, waitings_of}
use Rattle.snmp_forward.proofs.Dealing.{takes}
use Rattle.snmp_forward.proofs.forwarder.Forwarder.take_trap.Goals as goal

pub returns-then-is_empty-clause-taken : goal.returns-then-is_empty-clause-taken
returns-then-is_empty-clause-taken c =
    let f = c.args.self.now in
    let rs = c.in-Receivers.receivers in
    let chosen = subst (IsChosen f.agent.tables f.devices.list.items f.receivers.list.items c.args.device c.args.datagram.now) c.in-Receivers.is c.in_ok-why.ensures in
    let none : vec_len rs ≡ 0 = eqb-true (vec_len rs) 0 (sym c.is_empty.ensures ∙ c.if-is_empty.true) in
    (chosen.0, λ n may. let there = (chosen.1.each n).1 may in absurd (omega (arith, there.1, none)))

pub returns-then-is_full-clause-taken : goal.returns-then-is_full-clause-taken
returns-then-is_full-clause-taken c =
    let f = c.args.self.now in
    let rs = c.in-Receivers.receivers in
    let chosen = subst (IsChosen f.agent.tables f.devices.list.items f.receivers.list.items c.args.device c.args.datagram.now) c.in-Receivers.is c.in_ok-why.ensures in
    let some : 0 < length rs.items = omega (arith, eqb-false (vec_len rs) 0 (sym c.is_empty.ensures ∙ c.if-is_empty.false)) in
    let n = slice_index_or rs.items 0 0 in
    ((n, (chosen.1.each n).0 (Contains-get_or rs.items 0 0 some)), c.if-is_full.ensures.0 refl)

pub returns-clause-happens : goal.returns-clause-happens
returns-clause-happens c = λ before stands.
    let f = c.args.self.now in
    let rs = c.in-Receivers.receivers in
    let chosen = subst (IsChosen f.agent.tables f.devices.list.items f.receivers.list.items c.args.device c.args.datagram.now) c.in-Receivers.is c.in_ok-why.ensures in
    let some : 0 < length rs.items = omega (arith, eqb-false (vec_len rs) 0 (sym c.is_empty.ensures ∙ c.if-is_empty.false)) in
    let list = c.in_ok-number.ensures.ok ∙ ap (λ (w : List ℕ). waitings_of f.waiting.list.items ++ waiting f.waiting.next c.args.device w rs.items ∷ []) c.in_ok-datagram.ensures.items in (
      rs.items,
      takes f _ before c.in_ok-number.number c.args.device c.args.datagram.now rs.items (record { agent = refl; devices = refl; receivers = refl; engine = refl; most = c.in_ok-number.ensures.most }) c.in_ok-number.ensures.number list
          c.in_ok-number.ensures.next (λ full. cc (c.if-is_full.ensures.1 full)) (λ empty. absurd (omega (arith, some, ap length empty))) chosen.1 stands,
    )

pub returns-clause-taken : goal.returns-clause-taken
returns-clause-taken c =
    let f = c.args.self.now in
    let rs = c.in-Receivers.receivers in
    let chosen = subst (IsChosen f.agent.tables f.devices.list.items f.receivers.list.items c.args.device c.args.datagram.now) c.in-Receivers.is c.in_ok-why.ensures in
    let some : 0 < length rs.items = omega (arith, eqb-false (vec_len rs) 0 (sym c.is_empty.ensures ∙ c.if-is_empty.false)) in
    let n = slice_index_or rs.items 0 0 in
    (n, (chosen.1.each n).0 (Contains-get_or rs.items 0 0 some))
