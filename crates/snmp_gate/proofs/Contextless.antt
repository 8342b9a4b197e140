-- Requests in a context that isn't known.
use Rattle.std.specs.Prelude.{◌≡◌, ◌∷◌, ◌+◌, ◌<◌, ℕ, suc, zero, List, [], length, slice_index_or}
use Rattle.std.specs.List.{AllZip}
use Rattle.std.proofs.Common.{arith, refl, subst, sym}
use Rattle.snmp_msg.specs.Variables.{Variable}
use Rattle.vacm_core.specs.Allowed.{Allowed, HasContext, Requester}
use Rattle.vacm_core.specs.Tables.{Tables}
use Rattle.vacm_core.specs.declared.access.Access.{Access}
use Rattle.vacm_core.specs.declared.access.Access.TheVariants.{NoSuchContext}
use Rattle.vacm_core.specs.declared.access.ViewType.{ViewType}
use Rattle.snmp_agent.specs.Statuses.{IsStatusOf}
use Rattle.snmp_agent.specs.declared.status.Status.{Status}
use Rattle.snmp_agent.specs.declared.status.Status.TheVariants as status
use Rattle.snmp_responder.specs.declared.viewer.Viewer.{Viewer}
use Rattle.snmp_gate.specs.Access.{IsFirstRefused, IsRefusedBy}
use Rattle.snmp_gate.specs.Messages.{IsAnswerFor, IsViewerOf, requester_in}
use Rattle.snmp_gate.specs.Question.{Question}
use Rattle.snmp_gate.specs.declared.refused_access.AccessRefusal.{AccessRefusal}
use Rattle.snmp_gate.specs.declared.refused_access.AccessRefusal.TheVariants as refusal

module _ (view : ViewType) (tables : Tables) (q : Question) (viewer : Viewer) where
  same_asker : (name : List ℕ) (access : Access) → IsViewerOf tables q viewer
      → Allowed viewer.vacm.now (record { model = viewer.model; name = viewer.name.now; level = viewer.level; context = viewer.context.now }) view name access → Allowed tables (requester_in q) view name access
  same_asker name access is allowed =
      subst (λ (t : Tables). Allowed t (requester_in q) view name access) is.tables_are
      (subst (λ (r : Requester). Allowed viewer.vacm.now r view name access) (λ i. record { model = is.model i; name = is.name i; level = is.level i; context = is.context i }) allowed)

  -- no row has the context's name, if isAccessAllowed says so for a variable
  no_context : (vs : List Variable) (answers : List Access) (place : ℕ) → IsViewerOf tables q viewer → place < length answers → AllZip (IsAnswerFor viewer view) vs answers
      → ((access : Access) → access ≡ slice_index_or answers place access → access ≡ NoSuchContext) → ¬ HasContext tables.contexts q.context
  no_context [] [] place is within zip unknown = absurd (omega (arith, within))
  no_context [] (a ∷ answers) place is within zip unknown = absurd zip
  no_context (v ∷ vs) [] place is within zip unknown = absurd (omega (arith, within))
  no_context (v ∷ vs) (a ∷ answers) zero is within zip unknown = subst (λ (x : Access). Allowed tables (requester_in q) view v.name x) (unknown a refl) (same_asker v.name a is zip.0)
  no_context (v ∷ vs) (a ∷ answers) (suc k) is within zip unknown = no_context vs answers k is (omega (arith, within)) zip.1 unknown

  refused_so : (s : Status) (number : ℕ) (r : AccessRefusal) → r ≡ refusal.UnknownContext → IsRefusedBy s number r → s ≡ status.UnknownContext
  refused_so status.UnknownContext number r is by = refl
  refused_so status.NoError number r is by = absurd by
  refused_so status.NoSuchObject number r is by = absurd by
  refused_so status.NotSeen number r is by = absurd by
  refused_so status.NoAccess number r is by = absurd (subst (IsRefusedBy status.NoAccess number) is by)
  refused_so status.AuthorizationError number r is by = absurd (subst (IsRefusedBy status.AuthorizationError number) is by)

  pub unknown_refused : (tag : ℕ) (vs : List Variable) (answers : List Access) (r : AccessRefusal) → IsViewerOf tables q viewer → AllZip (IsAnswerFor viewer view) vs answers → IsFirstRefused tag answers r
      → r ≡ refusal.UnknownContext → ¬ HasContext tables.contexts q.context
  unknown_refused tag vs answers r is zip first unknown =
      no_context vs answers first.place is first.within zip
      (λ access at. subst (IsStatusOf access tag) (refused_so first.status_is (first.place + 1) r unknown first.refused) (subst (λ (a : Access). IsStatusOf a tag first.status_is) (sym at) (first.status access)))
