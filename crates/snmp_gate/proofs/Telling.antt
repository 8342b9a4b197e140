-- What may be told of a request.
use Rattle.std.specs.Prelude.{◌≡◌, ◌≢◌, ◌⊎◌, Bool, true, false, ◌∷◌, ℕ, ℤ, zero, suc, pos, List, [], All, Contains, map, take, drop, None, Option, Some, length}
use Rattle.std.specs.List.{AllZip}
use Rattle.std.proofs.Common.{refl, inl, inr, sym, ap, subst, ◌∙◌, arith}
use Rattle.std.proofs.lemmas.Bool.{false≢true}
use Rattle.std.proofs.lemmas.Bool.Decides.{Decides-int_eq}
use Rattle.std.proofs.lemmas.List.{get_or-map, length-map, take-append-drop}
use Rattle.std.proofs.lemmas.List.Elements.{All-contains, All-take, All-weaker, Contains-append_cases, Contains-append_left, Contains-append_right}
use Rattle.std.specs.Ordering.{int_eq}
use Rattle.snmp_msg.specs.PduTypes.{pdu_tag}
use Rattle.snmp_msg.specs.Variables.{Variable, variable_of, variables_of}
use Rattle.snmp_msg.specs.declared.binding.Binding.{Binding}
use Rattle.snmp_msg.specs.declared.pdu_type.PduType.TheVariants.{GetBulkRequest, GetNextRequest, GetRequest, SetRequest}
use Rattle.vacm_core.specs.Tables.{Tables}
use Rattle.snmp_incoming.specs.Outcome.{Given}
use Rattle.snmp_responder.specs.Instrumentation.{Known}
use Rattle.snmp_walk.specs.BulkColumn.{Ascends, BulkStands, IsGiven, bulk_request, given_in, last_name}
use Rattle.snmp_walk.specs.BulkDialogue.{bulk_requests_of}
use Rattle.snmp_walk.specs.Column.{MayShow}
use Rattle.snmp_walk.specs.Dialogue.{IsShown, Shows, request, requests_of}
use Rattle.snmp_walk.specs.Front.{IsFront, IsShownOf}
use Rattle.snmp_walk.specs.declared.bulk_column.BulkColumn.{BulkColumn}
use Rattle.snmp_walk.specs.declared.bulk_dialogue.BulkDialogue.{BulkDialogue}
use Rattle.snmp_walk.specs.declared.column.Column.{Column}
use Rattle.snmp_walk.specs.declared.operation.ReadOperation.{ReadOperation}
use Rattle.snmp_walk.specs.declared.operation.ReadOperation.TheVariants.{Get, GetNext}
use Rattle.gateway_laws.specs.Bulk.{IsFrontOfBulk}
use Rattle.gateway_laws.specs.Device.{AreAnswered, IsDevice}
use Rattle.gateway_laws.specs.Tracks.{AllTrack}
use Rattle.gateway_laws.proofs.BulkFronts.{front_of_bulk}
use Rattle.gateway_laws.proofs.BulkTrueRuns.{column_names}
use Rattle.gateway_laws.proofs.FrontsTaken.{bulk_take}
use Rattle.gateway_laws.proofs.Lists.{all_shown}
use Rattle.snmp_gate.specs.Messages.{question_given, seen_in}
use Rattle.snmp_gate.specs.Question.{Question}
use Rattle.snmp_gate.specs.ReadAsks.{read_type}
use Rattle.snmp_gate.specs.ReadErrors.{IsIndexAmong, IsReadError, gen_err, too_big as too_big_error}
use Rattle.snmp_gate.specs.Replies.{Answering, IsFrontSentOr, IsOwnList, IsReportedOr, IsReplyTo, IsSentOr, MayTell, MayTellBulk, NoCause, Told, answer_with, columns, front, set, told_with, too_big, without_error}
use Rattle.snmp_agent.specs.declared.unhandled.Unhandled.{Unhandled}
use Rattle.snmp_gate.proofs.Whys.{answer_weaker}
use Rattle.snmp_gate.specs.Said.{AreTrue, IsSetStatus, IsUnasked, Said}
use Rattle.snmp_gate.specs.Work.{BulkStandsFor, IsOwnStatus}
use Rattle.snmp_gate.specs.declared.reply.Reply.{Reply}
use Rattle.snmp_gate.specs.declared.reply.Reply.TheVariants as reply
use Rattle.snmp_gate.specs.declared.set_answer.ResponseStatus.{ResponseStatus}
use Rattle.snmp_gate.specs.declared.set_answer.TheConstants.{GEN_ERR, NO_ERROR}

true_or_false : (b : Bool) → (b ≡ true) ⊎ (b ≡ false)
true_or_false true = inl refl
true_or_false false = inr refl

signed_tells : (a b : ℤ) → (a ≡ b) ⊎ (a ≢ b)
signed_tells a b = elim (true_or_false (int_eq a b)) [
  | inl so ↦ inl ((Decides-int_eq a b).0 so)
  | inr not ↦ inr (λ same. false≢true (sym not ∙ (Decides-int_eq a b).1 same))
]

-- ---- the request's own bindings

may_tell_too_big : (tables : Tables) (q : Question) (said : Said) (again : Option ResponseStatus) → MayTell tables q said again too_big
may_tell_too_big tables q said again = ((λ is_set. inl refl, λ no_set error. too_big_error refl refl), inr (inr (refl, refl)))

may_tell_own : (tables : Tables) (q : Question) (said : Said) (again : Option ResponseStatus) (says : ResponseStatus) (vs : List Variable) → (says.status ≡ NO_ERROR → q.tag ≡ pdu_tag SetRequest) → (q.tag ≡ pdu_tag SetRequest → IsSetStatus q said again says) → (q.tag ≢ pdu_tag SetRequest → IsReadError tables q said says) → IsOwnList q says.status vs
    → MayTell tables q said again (told_with says vs)
may_tell_own tables q said again says vs own of_set of_read (inl (is, none)) = ((of_set, λ no_set error. of_read no_set), inr (inr (is, none)))
may_tell_own tables q said again says vs own of_set of_read (inr (is, all)) =
    elim (signed_tells says.status NO_ERROR) [
      | inl same ↦ ((of_set, λ no_set error. of_read no_set), inl (same, set (own same) all))
      | inr other ↦ ((of_set, λ no_set error. of_read no_set), inr (inl (other, all)))
    ]

-- a request for values is no Set
pub no_read : (q : Question) (o : ReadOperation) → q.tag ≡ pdu_tag (read_type o) → q.tag ≡ pdu_tag SetRequest → ⊥
no_read q Get tag is_set = let is : q.tag ≡ pdu_tag GetRequest = tag in omega (arith, is_set, is)
no_read q GetNext tag is_set = let is : q.tag ≡ pdu_tag GetNextRequest = tag in omega (arith, is_set, is)

pub no_bulk : (q : Question) → q.tag ≡ pdu_tag GetBulkRequest → q.tag ≡ pdu_tag SetRequest → ⊥
no_bulk q tag is_set = omega (arith, is_set, tag)

-- what is sent is what may be told, or tooBig
pub sent_reply : (a : Answering) (tables : Tables) (q : Question) (said : Said) (again : Option ResponseStatus) (g : Given) (told : Told) (r : Reply) → MayTell tables q said again told → IsSentOr a g told r → IsReplyTo a tables q said again NoCause g r
sent_reply a tables q said again g told (reply.Responds says datagram) may (inl sent) = inl (told, sent, may)
sent_reply a tables q said again g told (reply.Responds says datagram) may (inr sent) = inl (too_big, sent, may_tell_too_big tables q said again)
sent_reply a tables q said again g told (reply.Reports datagram) may sent = absurd sent
sent_reply a tables q said again g told reply.Nothing may sent = tt
sent_reply a tables q said again g told reply.SilentDrop may sent = tt
sent_reply a tables q said again g told (reply.Refused why) may sent = tt

pub own_reply : (a : Answering) (tables : Tables) (q : Question) (said : Said) (again : Option ResponseStatus) (g : Given) (says : ResponseStatus) (vs : List Variable) (r : Reply) → IsOwnStatus tables q said again says → IsOwnList q says.status vs
    → IsSentOr a g (told_with says vs) r → IsReplyTo a tables q said again NoCause g r
own_reply a tables q said again g says vs r own list sent = sent_reply a tables q said again g (told_with says vs) r (may_tell_own tables q said again says vs own.no_error own.set own.read list) sent

-- ---- a binding of each column

zip_shows : (Seen : List ℕ → Type 0) (said : List Variable) (o : ReadOperation) (cs : List Column) (vs : List Variable) (bs : List Binding) → map request cs ≡ requests_of o vs → AllZip (Shows Seen said) cs bs
    → AllZip (λ (asked v : Variable). MayShow Seen said o asked.name v) vs (map variable_of bs)
zip_shows Seen said o [] [] [] same zip = tt
zip_shows Seen said o [] [] (b ∷ bs) same zip = absurd zip
zip_shows Seen said o [] (v ∷ vs) bs same zip = absurd (let none : [] ≡ (o, v.name) ∷ requests_of o vs = same in cc)
zip_shows Seen said o (c ∷ cs) [] bs same zip = absurd (let none : request c ∷ map request cs ≡ [] = same in cc)
zip_shows Seen said o (c ∷ cs) (v ∷ vs) [] same zip = absurd zip
zip_shows Seen said o (c ∷ cs) (v ∷ vs) (b ∷ bs) same zip =
    let both : request c ∷ map request cs ≡ (o, v.name) ∷ requests_of o vs = same in
    let head : request c ≡ (o, v.name) = cc in
    let tail : map request cs ≡ requests_of o vs = cc in (
      subst (λ (r : ReadOperation × List ℕ). MayShow Seen said r.0 r.1 (variable_of b)) head zip.0,
      zip_shows Seen said o cs vs bs tail zip.1,
    )

pub columns_reply : (a : Answering) (tables : Tables) (q : Question) (said : Said) (again : Option ResponseStatus) (g : Given) (o : ReadOperation) (cs : List Column) (bs : List Binding) (r : Reply) → q.tag ≡ pdu_tag (read_type o)
    → map request cs ≡ requests_of o (variables_of q.list) → AllZip (Shows (seen_in tables q) said.variables) cs bs → AllZip IsShown cs bs
    → ((device : Known) → IsDevice device → AreTrue device said → AllTrack device (seen_in tables q) cs) → IsSentOr a g (without_error (map variable_of bs)) r → IsReplyTo a tables q said again NoCause g r
columns_reply a tables q said again g o cs bs r tag same zip shown tracks sent =
    sent_reply a tables q said again g (without_error (map variable_of bs)) r (
      (λ is_set. absurd (no_read q o tag is_set), λ no_set error. absurd (error refl)),
      inl (
        refl,
        columns o tag (zip_shows (seen_in tables q) said.variables o cs (variables_of q.list) bs same zip)
            (λ device plain truly. subst (λ (asks : List (ReadOperation × List ℕ)). AreAnswered device (seen_in tables q) asks (map variable_of bs)) same
            (all_shown device (seen_in tables q) cs bs (tracks device plain truly) shown)),
      ),
    ) sent

-- ---- a front

pub from_map : {A B : Type 0} (f : A → B) (xs : List A) (y : B) → Contains (map f xs) y → (x : A) × Contains xs x × (f x ≡ y)
from_map f [] y (k, within, is) = absurd (omega arith)
from_map f (x ∷ xs) y (zero, within, is) = (x, (0, omega arith, refl), is)
from_map f (x ∷ xs) y (suc k, within, is) =
    let rest = from_map f xs y (k, omega arith, is) in
    (rest.0, Contains-append_right (x ∷ []) xs rest.0 rest.1, rest.2)

pub named_in : (n m : ℕ) (vs : List Variable) (x : List ℕ × ℕ) → Contains (bulk_requests_of n m vs) x → (v : Variable) × Contains vs v × (v.name ≡ x.0)
named_in n m vs x there = elim (Contains-append_cases (map (λ (v : Variable). (v.name, 1)) (take n vs)) (map (λ (v : Variable). (v.name, m)) (drop n vs)) x there) [
  | inl single ↦
      let of = from_map (λ (v : Variable). (v.name, 1)) (take n vs) x single in
      (of.0, subst (λ (ws : List Variable). Contains ws of.0) (take-append-drop n vs) (Contains-append_left (take n vs) (drop n vs) of.0 of.1), ap (λ (y : List ℕ × ℕ). y.0) of.2)
  | inr repeated ↦
      let of = from_map (λ (v : Variable). (v.name, m)) (drop n vs) x repeated in
      (of.0, subst (λ (ws : List Variable). Contains ws of.0) (take-append-drop n vs) (Contains-append_right (take n vs) (drop n vs) of.0 of.1), ap (λ (y : List ℕ × ℕ). y.0) of.2)
]

ascends_take : (k : ℕ) (first : List ℕ) (vs : List Variable) → Ascends first vs → Ascends first (take k vs)
ascends_take zero first vs is = tt
ascends_take (suc k) first [] is = tt
ascends_take (suc k) first (v ∷ vs) is = (is.0, ascends_take k v.name vs is.1)

pub contains_map : {A B : Type 0} (f : A → B) (xs : List A) (x : A) → Contains xs x → Contains (map f xs) (f x)
contains_map f xs x (k, within, is) = (k, omega (arith, length-map xs f), get_or-map f xs k x (f x) within ∙ ap f is)

tells_bulk : (Seen : List ℕ → Type 0) (said : List Variable) (vs : List Variable) (n m : ℕ) (cs : List BulkColumn) (v : Variable) → map bulk_request cs ≡ bulk_requests_of n m vs → All (BulkStands Seen said) cs
    → IsShownOf Seen said cs v → MayTellBulk Seen said vs v
tells_bulk Seen said vs n m cs v same stand shown =
    let c = shown.column in
    let named = named_in n m vs (bulk_request c) (subst (λ (xs : List (List ℕ × ℕ)). Contains xs (bulk_request c)) same (contains_map bulk_request cs c shown.there)) in
    let stands = All-contains (BulkStands Seen said) cs c stand shown.there in
    let k = shown.repetition in
    record {
      request = named.0;
      is_request = named.1;
      shown = take k (given_in c);
      ascends = subst (λ (name : List ℕ). Ascends name (take k (given_in c))) (sym named.2) (ascends_take k c.first (given_in c) stands.ascends);
      given = All-take (IsGiven Seen said) k (given_in c) stands.are_given;
      shows = subst (λ (name : List ℕ). MayShow Seen said GetNext (last_name name (take k (given_in c))) v) (sym named.2) shown.shows;
    }

pub front_reply : (a : Answering) (tables : Tables) (q : Question) (said : Said) (again : Option ResponseStatus) (g : Given) (d : BulkDialogue) (bs : List Binding) (r : Reply) → BulkStandsFor tables q said d
    → All (IsShownOf (seen_in tables q) said.variables d.columns.items) (map variable_of bs) → IsFront d.non_repeaters d.max_repetitions d.columns.items (map variable_of bs) → IsFrontSentOr a g (map variable_of bs) r → IsReplyTo a tables q said again NoCause g r
front_reply a tables q said again g d bs (reply.Responds says datagram) stands all is_front (inl (n, sent)) =
    let names = column_names d.non_repeaters d.max_repetitions (variables_of q.list) d.columns.items stands.requests_are in
    let law = λ (device : Known) (plain : IsDevice device) (truly : AreTrue device said).
    bulk_take device (seen_in tables q) (map (λ (v : Variable). v.name) (variables_of q.list)) d.non_repeaters d.max_repetitions (map variable_of bs) n
    (subst (λ (all_names : List (List ℕ)). IsFrontOfBulk device (seen_in tables q) all_names d.non_repeaters d.max_repetitions (map variable_of bs)) names
    (front_of_bulk device (seen_in tables q) plain d.non_repeaters d.max_repetitions d.columns.items (map variable_of bs) (stands.tracks device plain truly) is_front)) in
    let may = λ (v : Variable) (is : IsShownOf (seen_in tables q) said.variables d.columns.items v). tells_bulk (seen_in tables q) said.variables (variables_of q.list) d.non_repeaters d.max_repetitions d.columns.items v stands.requests_are stands.stand is in
    inl (
      without_error (take n (map variable_of bs)),
      sent,
      ((λ is_set. absurd (no_bulk q stands.tag is_set), λ no_set error. absurd (error refl)), inl (refl, front stands.tag (All-take (MayTellBulk (seen_in tables q) said.variables (variables_of q.list)) n (map variable_of bs) (All-weaker (IsShownOf (seen_in tables q) said.variables d.columns.items) (MayTellBulk (seen_in tables q) said.variables (variables_of q.list)) may (map variable_of bs) all)) d.non_repeaters d.max_repetitions stands.first stands.most law)),
    )
front_reply a tables q said again g d bs (reply.Responds says datagram) stands all is_front (inr sent) = inl (too_big, sent, may_tell_too_big tables q said again)
front_reply a tables q said again g d bs (reply.Reports datagram) stands all is_front sent = absurd sent
front_reply a tables q said again g d bs reply.Nothing stands all is_front sent = tt
front_reply a tables q said again g d bs reply.SilentDrop stands all is_front sent = tt
front_reply a tables q said again g d bs (reply.Refused why) stands all is_front sent = tt

pub report_reply : (a : Answering) (tables : Tables) (q : Question) (said : Said) (again : Option ResponseStatus) (Cause : Unhandled → Type 0) (g : Given) (why : Unhandled) (r : Reply) → Cause why → IsReportedOr a g why r → IsReplyTo a tables q said again Cause g r
report_reply a tables q said again Cause g why (reply.Responds says datagram) cause is = absurd is
report_reply a tables q said again Cause g why (reply.Reports datagram) cause is = inr (why, cause, is)
report_reply a tables q said again Cause g why reply.Nothing cause is = tt
report_reply a tables q said again Cause g why reply.SilentDrop cause is = tt
report_reply a tables q said again Cause g why (reply.Refused refusal) cause is = tt

-- a reply that is no report is one whatever causes there are
pub no_report : (a : Answering) (tables : Tables) (q : Question) (said : Said) (again : Option ResponseStatus) (Cause : Unhandled → Type 0) (g : Given) (r : Reply) → IsReplyTo a tables q said again NoCause g r → IsReplyTo a tables q said again Cause g r
no_report a tables q said again Cause g (reply.Responds says datagram) is = answer_weaker NoCause Cause a tables q said again g (answer_with (Some says) datagram) (λ why none. absurd none) is
no_report a tables q said again Cause g (reply.Reports datagram) is = answer_weaker NoCause Cause a tables q said again g (answer_with None datagram) (λ why none. absurd none) is
no_report a tables q said again Cause g reply.Nothing is = tt
no_report a tables q said again Cause g reply.SilentDrop is = tt
no_report a tables q said again Cause g (reply.Refused refusal) is = tt

-- genErr may be told of any request for values
pub gen_err_told : (tables : Tables) (q : Question) (said : Said) (again : Option ResponseStatus) (says : ResponseStatus) → says.status ≡ GEN_ERR → IsIndexAmong says.index (length (variables_of q.list)) → (q.tag ≡ pdu_tag SetRequest → ⊥)
    → IsOwnStatus tables q said again says
gen_err_told tables q said again says is index read = record { read = λ no_set. gen_err is index; no_error = λ none. absurd (false≢true ((Decides-int_eq GEN_ERR NO_ERROR).1 (sym is ∙ none))); set = λ is_set. absurd (read is_set) }

pub unwritten : (tables : Tables) (q : Question) (said : Said) (again : Option ResponseStatus) → (q.tag ≡ pdu_tag SetRequest → ⊥) → IsOwnStatus tables q said again (record { status = pos 5; index = pos 0 })
unwritten tables q said again read = gen_err_told tables q said again (record { status = pos 5; index = pos 0 }) refl (inl refl) read

pub of_message : (a : Answering) (tables : Tables) (q : Question) (said : Said) (again : Option ResponseStatus) (Cause : Unhandled → Type 0) (g kept : Given) (client : List ℕ) (r : Reply) → g ≡ kept
    → (question_given client g ≡ Some q → IsReplyTo a tables q said again Cause g r) → question_given client kept ≡ Some q → IsReplyTo a tables q said again Cause kept r
of_message a tables q said again Cause g kept client r same replies asked =
    subst (λ (x : Given). IsReplyTo a tables q said again Cause x r) same (replies (ap (question_given client) same ∙ asked))

-- a Response may say what one said before
pub repeated_status : (tables : Tables) (q : Question) (said : Said) (says : ResponseStatus) → (q.tag ≡ pdu_tag SetRequest) × IsUnasked said → IsOwnStatus tables q said (Some says) says
repeated_status tables q said says stands = record { read = λ no_set. absurd (no_set stands.0); no_error = λ none. stands.0; set = λ is. inr (inl (stands.1, inr refl)) }
