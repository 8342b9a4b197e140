use Rattle.std.proofs.Common.{◌≡◌, ℕ, List, Option, Some, None, subst, ap}
use Rattle.std.specs.Prelude.{MatchOption}
use Rattle.snmp_message.specs.Scoped.{Contexts, contexts_of}
use Rattle.vacm_core.specs.Tables.{Tables}
use Rattle.vacm_core.specs.Allowed.{Requester}
use Rattle.vacm_core.specs.declared.access.ViewType.{ViewType}
use Rattle.vacm_next.specs.Next.{IsLeastFrom, NoneFrom, Sees}
use Rattle.snmp_incoming.specs.Texts.{text_of}
use Rattle.snmp_incoming.specs.Answers.{given_of}
use Rattle.snmp_agent.specs.Agent.{AgentState}
use Rattle.snmp_agent.specs.Decides.{NextSeen, question_of}
use Rattle.snmp_agent.proofs.agent.Agent.next_in_view.Goals as goal

seen : (t : Tables) (m : Requester) (view : ViewType) (from : List ℕ) (r : Option (List ℕ))
    → MatchOption r (NoneFrom (Sees t m view) from) (λ next. IsLeastFrom (Sees t m view) from next) → NextSeen t m view from r
seen t m view from None h = h
seen t m view from (Some next) h = h

pub returns : goal.returns
returns c s front =
    let same : contexts_of c.scoped-scoped.result ≡ s = c.one_content.ensures.front (text_of c.args.taken.now.text) (contexts_of c.scoped-scoped.result) s c.scoped-scoped.ensures front in
    let tables = ap (λ (a : AgentState). a.tables) c.self.view_is in
    let of : Contexts → Requester = λ x. question_of (given_of c.args.taken.now) x in
    subst (λ (t : Tables). NextSeen t (of s) c.args.view c.args.from.now c.next_in_view.result) tables
    (subst (λ (x : Contexts). NextSeen c.self.inside.vacm (of x) c.args.view c.args.from.now c.next_in_view.result) same
    (seen c.self.inside.vacm (of (contexts_of c.scoped-scoped.result)) c.args.view c.args.from.now c.next_in_view.result c.next_in_view.ensures))
