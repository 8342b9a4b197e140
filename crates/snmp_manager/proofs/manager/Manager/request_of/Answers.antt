use Rattle.std.proofs.Common.{subst, rules}
use Rattle.std.specs.Prelude.{map, Ok}
use Rattle.engine_clock.specs.Pairs.{BootsAndTime, IsPair}
use Rattle.engine_clock.specs.Marks.{mark_at}
use Rattle.usm_core.specs.Sealed.{Seals}
use Rattle.snmp_outgoing.specs.Requests.{request}
use Rattle.snmp_outgoing.specs.Speaks.{Speech, spoken, SpeechFits}
use Rattle.snmp_manager.specs.Views.{Held}
use Rattle.snmp_manager.specs.Sent.{IsAcceptedByAgents}
use Rattle.snmp_manager.proofs.Sent.{by_agents}
use Rattle.snmp_manager.proofs.Written.{sealable}
use Rattle.snmp_manager.proofs.manager.Manager.request_of.Goals as goal

pub returns-in_err-of-clause-memory : goal.returns-in_err-of-clause-memory
returns-in_err-of-clause-memory g c =
    rw (← c.self.view_is) (λ is. sealable _ _ _ (rw (c.is_confirmed.ensures, c.as_slice.ensures.value, c.written_pair.ensures.pair) at c.in_ok-text.ensures.rows))

pub returns-clause-accepted : goal.returns-clause-accepted
returns-clause-accepted g c =
    let s : Speech = request (mark_at c.self.inside.clocks c.args.target.now.engine.now) c.args.now c.args.id c.args.target.now.engine.now c.args.target.now.user.now c.args.target.now.level c.args.front.now (map g.B.Spelled.says c.args.bindings.now) c.args.salt in
    let seals : Seals c.self.inside.users.users (spoken s) (Ok c.in_ok-text.text.items) = rw (c.is_confirmed.ensures, c.as_slice.ensures.value, c.written_pair.ensures.pair) at c.in_ok-text.ensures.rows in
    let spelled = c.in_ok-text.ensures.spelled in
    let is_pair : IsPair c.written_pair.result = search rules in
    let fits : SpeechFits s = record {
      id = c.requires.id;
      engine = search rules;
      pair = subst (λ (p : BootsAndTime). IsPair p) c.written_pair.ensures.pair is_pair;
      user = c.requires.user;
      salt = search rules;
      tag = spelled.tag_allowed;
      numbers = spelled.numbers;
      variables = spelled.variables;
      bindings = spelled.fit;
      list = spelled.list_is;
    } in
    subst (λ (h : Held). IsAcceptedByAgents h.users (request (mark_at h.clocks c.args.target.now.engine.now) c.args.now c.args.id c.args.target.now.engine.now c.args.target.now.user.now c.args.target.now.level c.args.front.now (map g.B.Spelled.says c.args.bindings.now) c.args.salt) c.in_ok-text.text.items)
    c.self.view_is (by_agents c.spoken_is_accepted.ensures c.self.inside.users.users s c.in_ok-text.text.items fits seals)
