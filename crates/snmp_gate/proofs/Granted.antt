-- Variables that may be set, by the answers on access.
use Rattle.std.specs.Prelude.{◌≡◌, ◌∷◌, ℕ, List, [], All}
use Rattle.std.specs.List.{AllZip}
use Rattle.std.proofs.Common.{sym, subst, arith}
use Rattle.std.proofs.lemmas.List.Elements.{All-cons, All-head, All-nil, All-tail}
use Rattle.snmp_msg.specs.PduTypes.{pdu_tag}
use Rattle.snmp_msg.specs.Variables.{Variable}
use Rattle.snmp_msg.specs.declared.pdu_type.PduType.TheVariants.{SetRequest}
use Rattle.vacm_core.specs.Allowed.{Allowed, Requester}
use Rattle.vacm_core.specs.Tables.{Tables}
use Rattle.vacm_core.specs.declared.access.Access.{Access}
use Rattle.vacm_core.specs.declared.access.Access.TheVariants.{AccessAllowed}
use Rattle.vacm_core.specs.declared.access.ViewType.TheVariants.{Write}
use Rattle.snmp_responder.specs.declared.viewer.Viewer.{Viewer}
use Rattle.snmp_agent.specs.Statuses.{IsStatusOf}
use Rattle.snmp_agent.specs.declared.status.Status.{Status}
use Rattle.snmp_agent.specs.declared.status.Status.TheVariants as status
use Rattle.snmp_gate.specs.Access.{IsGranted, IsPassed}
use Rattle.snmp_gate.specs.Messages.{IsAnswerFor, IsViewerOf, requester_in, set_in}
use Rattle.snmp_gate.specs.Question.{Question}

granted_as : (tag : ℕ) (access : Access) (s : Status) → tag ≡ pdu_tag SetRequest → IsStatusOf access tag s → IsPassed s → access ≡ AccessAllowed
granted_as tag access status.NoError set is passed = is
granted_as tag access status.NoSuchObject set is passed = absurd (let both : pdu_tag SetRequest ≡ tag = sym set in omega (arith, both, is.1))
granted_as tag access status.NotSeen set is passed = absurd (is.2 set)
granted_as tag access status.NoAccess set is passed = absurd passed
granted_as tag access status.AuthorizationError set is passed = absurd passed
granted_as tag access status.UnknownContext set is passed = absurd passed

same_who : (tables : Tables) (q : Question) (viewer : Viewer) (name : List ℕ) (access : Access) → IsViewerOf tables q viewer
    → Allowed viewer.vacm.now (record { model = viewer.model; name = viewer.name.now; level = viewer.level; context = viewer.context.now }) Write name access → Allowed tables (requester_in q) Write name access
same_who tables q viewer name access is allowed =
    subst (λ (t : Tables). Allowed t (requester_in q) Write name access) is.tables_are
    (subst (λ (r : Requester). Allowed viewer.vacm.now r Write name access) (λ i. record { model = is.model i; name = is.name i; level = is.level i; context = is.context i }) allowed)

pub may_all : (tables : Tables) (q : Question) (viewer : Viewer) (tag : ℕ) (vs : List Variable) (answers : List Access) → IsViewerOf tables q viewer → tag ≡ pdu_tag SetRequest → AllZip (IsAnswerFor viewer Write) vs answers
    → All (IsGranted tag) answers → All (λ (v : Variable). set_in tables q v.name) vs
may_all tables q viewer tag [] answers is set zip granted = All-nil (λ (v : Variable). set_in tables q v.name)
may_all tables q viewer tag (v ∷ vs) [] is set zip granted = absurd zip
may_all tables q viewer tag (v ∷ vs) (access ∷ answers) is set zip granted =
    let one = All-head (IsGranted tag) access answers granted in
    All-cons (λ (x : Variable). set_in tables q x.name) v vs
    (subst (λ (a : Access). Allowed tables (requester_in q) Write v.name a) (granted_as tag access one.0 set one.1 one.2) (same_who tables q viewer v.name access is zip.0))
    (may_all tables q viewer tag vs answers is set zip.1 (All-tail (IsGranted tag) access answers granted))
