use Rattle.std.proofs.Common.{inr, length, refl, subst, ◌/◌}
use Rattle.std.proofs.lemmas.Option.{slice_get_read}
use Rattle.snmp_forward.specs.InformHistory.{no_token}
use Rattle.snmp_forward.specs.WaitingInforms.{IsMessageWritten}
use Rattle.snmp_forward.specs.declared.asking.AskedWith.{AskedWith}
use Rattle.snmp_forward.specs.declared.sealing.Sealing.{Sealing}
use Rattle.snmp_forward.proofs.InformSteps.{sends_one, unsent_one}
use Rattle.snmp_forward.proofs.informs.Informs.send.Goals as goal

pub returns-in_default-clause-happens : goal.returns-in_default-clause-happens
returns-in_default-clause-happens c = λ before w stands at due. c.give_up.ensures.happens before c.args.now c.args.first_id c.args.salt w no_token stands at due (inr (refl, c.in_default.ensures)) tt

pub returns-in_ok-wait_for-in-Sends-clause-happens : goal.returns-in_ok-wait_for-in-Sends-clause-happens
returns-in_ok-wait_for-in-Sends-clause-happens c = λ before w stands at due.
    let old = c.args.self.now in
    let x = c.index-waiting.result.now in
    let by : Sealing = record { seconds = c.args.now / 1000; id = c.message_id.result; salt = c.args.salt } in
    let there = slice_get_read old.list.items (length old.list.items) c.args.place x refl c.requires.place c.index-waiting.ensures in
    let goes = subst (λ (a : AskedWith). IsMessageWritten old.manager old.engine x.engine x.inform c.args.message by a) c.in-Sends.is c.in_ok-datagram.ensures.written in
    sends_one old _ c.write.new.manager before c.args.place c.args.now c.in-Some.token c.args.first_id c.args.salt x w c.args.message by c.in-Sends.pending c.in-Sends.datagram c.in_ok-datagram.ensures.same
    c.in_ok-wait_for-in-Sends.ensures.ok c.in_ok-wait_for-in-Sends.ensures.same there refl refl c.requires.may goes at due stands

pub returns-in-Refused-clause-happens : goal.returns-in-Refused-clause-happens
returns-in-Refused-clause-happens c = λ before w stands at due.
    let old = c.args.self.now in
    let x = c.index-waiting.result.now in
    let by : Sealing = record { seconds = c.args.now / 1000; id = c.message_id.result; salt = c.args.salt } in
    let there = slice_get_read old.list.items (length old.list.items) c.args.place x refl c.requires.place c.index-waiting.ensures in
    let refuses = subst (λ (a : AskedWith). IsMessageWritten old.manager old.engine x.engine x.inform c.args.message by a) c.in-Refused.is c.in_ok-datagram.ensures.written in
    unsent_one old _ c.write.new.manager before c.args.place c.args.now c.args.first_id c.args.salt c.remove.result x w c.args.message by c.in-Refused.why c.in_ok-datagram.ensures.same
    c.remove.ensures there c.requires.may refuses at due stands
