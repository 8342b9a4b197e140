-- Why a request for values ends by an error.
use Rattle.std.specs.Prelude.{◌≡◌, ◌∷◌, ◌+◌, ◌<◌, ℕ, suc, zero, List, [], Contains, MatchOption, IfSome, None, Option, Some, length, slice_index_or}
use Rattle.std.specs.List.{AllZip}
use Rattle.std.proofs.Common.{ap, arith, inl, inr, refl, subst, sym}
use Rattle.std.proofs.lemmas.List.{length-map}
use Rattle.std.proofs.lemmas.List.Elements.{Contains-append_left, Contains-append_right, Contains-push}
use Rattle.snmp_msg.specs.Pdu.{pdu_of}
use Rattle.snmp_msg.specs.Variables.{Variable, variables_of}
use Rattle.snmp_msg.specs.declared.pdu.Pdu.{Pdu}
use Rattle.vacm_core.specs.Allowed.{Allowed, Requester}
use Rattle.vacm_core.specs.Tables.{Tables}
use Rattle.vacm_core.specs.declared.access.Access.{Access}
use Rattle.vacm_core.specs.declared.access.ViewType.TheVariants.{Read}
use Rattle.snmp_agent.specs.Statuses.{IsStatusOf}
use Rattle.snmp_agent.specs.declared.status.Status.{Status}
use Rattle.snmp_agent.specs.declared.status.Status.TheVariants as status
use Rattle.snmp_responder.specs.declared.viewer.Viewer.{Viewer}
use Rattle.snmp_walk.specs.BulkAnswered.{IsBulkAskedAt}
use Rattle.snmp_walk.specs.BulkColumn.{bulk_request}
use Rattle.snmp_walk.specs.Dialogue.{request, requests_of}
use Rattle.snmp_walk.specs.Failure.{IsAskedAt, IsFailure, IsFailureStatus}
use Rattle.snmp_walk.specs.declared.bulk_column.BulkColumn.{BulkColumn}
use Rattle.snmp_walk.specs.declared.bulk_dialogue.BulkDialogue.{BulkDialogue}
use Rattle.snmp_walk.specs.declared.column.Column.{Column}
use Rattle.snmp_walk.specs.declared.dialogue.Dialogue.{Dialogue}
use Rattle.snmp_walk.specs.declared.failure.Failure.{Failure}
use Rattle.snmp_walk.specs.declared.failure.FailureStatus.{FailureStatus}
use Rattle.snmp_walk.specs.declared.failure.FailureStatus.TheVariants as failure
use Rattle.snmp_walk.specs.declared.operation.ReadOperation.{ReadOperation}
use Rattle.snmp_gate.specs.Access.{IsFirstRefused, IsRefusedBy}
use Rattle.snmp_gate.specs.Ends.{IsStatusOfFailure}
use Rattle.snmp_gate.specs.Messages.{IsAnswerFor, IsViewerOf, requester_in}
use Rattle.snmp_gate.specs.Question.{Question}
use Rattle.snmp_gate.specs.ReadAsks.{read_request}
use Rattle.snmp_gate.specs.ReadErrors.{IsCauseOfRefusal, IsReadError, gen_err, no_such_name, too_big}
use Rattle.snmp_gate.specs.Beginning.{IsSet}
use Rattle.snmp_gate.specs.Said.{Said}
use Rattle.snmp_gate.specs.Work.{BulkStandsFor, ReadStands, SaysAll}
use Rattle.snmp_gate.specs.declared.refused_access.AccessRefusal.{AccessRefusal}
use Rattle.snmp_gate.specs.declared.refused_access.AccessRefusal.TheVariants as refusal
use Rattle.snmp_gate.specs.declared.set_answer.ResponseStatus.{ResponseStatus}
use Rattle.snmp_gate.proofs.Standing.{requests_long}

-- a dialogue has a column for each name that is asked
pub read_long : (tables : Tables) (q : Question) (told : Said) (operation : ReadOperation) (d : Dialogue) → ReadStands tables q told operation d → length d.columns.items ≡ length (variables_of q.list)
read_long tables q told operation d stands =
    let vs = variables_of q.list in
    let each : length (requests_of operation vs) ≡ length vs = length-map vs (λ (v : Variable). (operation, v.name)) in
    omega (arith, length-map d.columns.items request, ap (λ (xs : List (ReadOperation × List ℕ)). length xs) stands.requests_are, each)

pub bulk_long : (tables : Tables) (q : Question) (told : Said) (d : BulkDialogue) → BulkStandsFor tables q told d → length d.columns.items ≡ length (variables_of q.list)
bulk_long tables q told d stands =
    omega (arith, length-map d.columns.items bulk_request, ap (λ (xs : List (List ℕ × ℕ)). length xs) stands.requests_are, requests_long d.non_repeaters d.max_repetitions (variables_of q.list))

-- the column of an error is one of them
asked_within : (columns : List Column) (answer : Pdu) (column : Option ℕ) (n : ℕ) → length columns ≡ n → MatchOption column ((number : ℕ) → ¬ IsAskedAt columns answer.third number) (IsAskedAt columns answer.third) → IfSome column (λ number. number < n)
asked_within columns answer None n long is = tt
asked_within columns answer (Some number) n long is = omega (arith, long, is.within)

pub bulk_within : (columns : List BulkColumn) (answer : Pdu) (column : Option ℕ) (n : ℕ) → length columns ≡ n → MatchOption column ((number : ℕ) → ¬ IsBulkAskedAt columns answer.third number) (IsBulkAskedAt columns answer.third) → IfSome column (λ number. number < n)
bulk_within columns answer None n long is = tt
bulk_within columns answer (Some number) n long is = omega (arith, long, is.within)

errs_by : (tables : Tables) (q : Question) (told : Said) (operation : ReadOperation) (answer : Pdu) (old : Dialogue) (column : Option ℕ) (s : FailureStatus) (says : ResponseStatus) → SaysAll (read_request operation old) answer told
    → IsFailureStatus answer.second column s → IsStatusOfFailure s (length (variables_of q.list)) says → IsReadError tables q told says
errs_by tables q told operation answer old column failure.TooBig says all is of = too_big of.0 of.1
errs_by tables q told operation answer old column failure.NoSuchName says all is of =
    no_such_name of.0 of.1 (record { exchange = record { asked = read_request operation old; answer = pdu_of answer }; there = all.exchange; status_is = is.0 })
errs_by tables q told operation answer old column failure.GenErr says all is of = gen_err of.0 of.1

pub read_errs : (tables : Tables) (q : Question) (told : Said) (operation : ReadOperation) (answer : Pdu) (old : Dialogue) (f : Failure) (says : ResponseStatus) → SaysAll (read_request operation old) answer told → ReadStands tables q told operation old
    → IsFailure old.columns.items answer f → ((bindings : ℕ) → IfSome f.column (λ number. number < bindings) → IsStatusOfFailure f.status bindings says) → IsReadError tables q told says
read_errs tables q told operation answer old f says all stands is of =
    let n = length (variables_of q.list) in
    errs_by tables q told operation answer old f.column f.status says all is.status (of n (asked_within old.columns.items answer f.column n (read_long tables q told operation old stands) is.column))

-- ---- access

same_reader : (tables : Tables) (q : Question) (viewer : Viewer) (name : List ℕ) (access : Access) → IsViewerOf tables q viewer
    → Allowed viewer.vacm.now (record { model = viewer.model; name = viewer.name.now; level = viewer.level; context = viewer.context.now }) Read name access → Allowed tables (requester_in q) Read name access
same_reader tables q viewer name access is allowed =
    subst (λ (t : Tables). Allowed t (requester_in q) Read name access) is.tables_are
    (subst (λ (r : Requester). Allowed viewer.vacm.now r Read name access) (λ i. record { model = is.model i; name = is.name i; level = is.level i; context = is.context i }) allowed)

-- the access by which a request is refused
record IsRefusedAt (tables : Tables) (q : Question) (s : Status) : Type 0 where
  pub name : Variable
  pub there : Contains (variables_of q.list) name
  pub access : Access
  pub decided : Allowed tables (requester_in q) Read name.name access
  pub refused : IsStatusOf access q.tag s

cause_by : (tables : Tables) (q : Question) (s : Status) (number : ℕ) (r : AccessRefusal) → IsRefusedAt tables q s → IsRefusedBy s number r → IsCauseOfRefusal tables q r
cause_by tables q status.AuthorizationError number refusal.AuthorizationError at by = inr (record { name = at.name; there = at.there; access = at.access; decided = at.decided; refused = at.refused })
cause_by tables q status.NoAccess number (refusal.NoAccess index) at by = at.refused.1
cause_by tables q status.UnknownContext number refusal.UnknownContext at by = tt
cause_by tables q _ number _ at by = absurd by

-- the name and the answer at a place
record IsDecidedAt (viewer : Viewer) (vs : List Variable) (answers : List Access) (place : ℕ) : Type 0 where
  pub name : Variable
  pub there : Contains vs name
  pub access : Access
  pub access_is : access ≡ slice_index_or answers place access
  pub decided : IsAnswerFor viewer Read name access

decided_at : (viewer : Viewer) (vs : List Variable) (answers : List Access) (place : ℕ) → place < length answers → AllZip (IsAnswerFor viewer Read) vs answers → IsDecidedAt viewer vs answers place
decided_at viewer [] [] place within zip = absurd (omega (arith, within))
decided_at viewer [] (a ∷ answers) place within zip = absurd zip
decided_at viewer (v ∷ vs) [] place within zip = absurd (omega (arith, within))
decided_at viewer (v ∷ vs) (a ∷ answers) zero within zip = record { name = v; there = Contains-append_left (v ∷ []) vs v (Contains-push [] v); access = a; access_is = refl; decided = zip.0 }
decided_at viewer (v ∷ vs) (a ∷ answers) (suc k) within zip =
    let rest = decided_at viewer vs answers k (omega (arith, within)) zip.1 in record {
      name = rest.name;
      there = Contains-append_right (v ∷ []) vs rest.name rest.there;
      access = rest.access;
      access_is = rest.access_is;
      decided = rest.decided;
    }

pub refusal_cause : (tables : Tables) (q : Question) (viewer : Viewer) (tag : ℕ) (answers : List Access) (r : AccessRefusal) → IsViewerOf tables q viewer → tag ≡ q.tag → AllZip (IsAnswerFor viewer Read) (variables_of q.list) answers → IsFirstRefused tag answers r
    → IsCauseOfRefusal tables q r
refusal_cause tables q viewer tag answers r is tag_is zip first =
    let at = decided_at viewer (variables_of q.list) answers first.place first.within zip in
    cause_by tables q first.status_is (first.place + 1) r (record {
      name = at.name;
      there = at.there;
      access = at.access;
      decided = same_reader tables q viewer at.name.name at.access is at.decided;
      refused = subst (λ (t : ℕ). IsStatusOf at.access t first.status_is) tag_is (subst (λ (a : Access). IsStatusOf a tag first.status_is) (sym at.access_is) (first.status at.access));
    }) first.refused

pub set_cause : (tables : Tables) (q : Question) (r : AccessRefusal) → IsSet q → IsCauseOfRefusal tables q r
set_cause tables q refusal.AuthorizationError set = inl set
set_cause tables q (refusal.NoAccess number) set = set
set_cause tables q refusal.UnknownContext set = tt
