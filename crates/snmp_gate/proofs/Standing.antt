-- What is known of a request, as its dialogue with the device goes on.
use Rattle.std.specs.Prelude.{◌≡◌, ◌<◌, ◌≤◌, ◌∷◌, ◌++◌, ℕ, ℤ, zero, suc, min, List, [], All, Contains, drop, length, map, slice_index_or, take, true}
use Rattle.std.specs.List.{HoldsAt, flat_map}
use Rattle.std.proofs.Common.{refl, sym, ap, subst, ◌∙◌, arith}
use Rattle.std.proofs.lemmas.List.{get_or_default, length-append, length-map, take-append-drop}
use Rattle.std.proofs.lemmas.List.Elements.{All-contains, Contains-append_left, Contains-append_right, Contains-push}
use Rattle.snmp_ber.specs.declared.number.TheConstants.{MAX_INTEGER32}
use Rattle.snmp_msg.specs.Pdu.{pdu_of}
use Rattle.snmp_msg.specs.PduTypes.{pdu_tag}
use Rattle.snmp_msg.specs.Variables.{Variable, variables_of}
use Rattle.snmp_msg.specs.declared.pdu_type.PduType.TheVariants.{GetBulkRequest}
use Rattle.snmp_msg.specs.declared.pdu.Pdu.{Pdu}
use Rattle.snmp_msg.specs.declared.value.Syntax.TheVariants.{EndOfMibView}
use Rattle.vacm_core.specs.Allowed.{Requester}
use Rattle.vacm_core.specs.Tables.{Tables}
use Rattle.vacm_core.specs.declared.access.ViewType.TheVariants.{Read}
use Rattle.vacm_next.specs.Next.{Sees}
use Rattle.snmp_responder.specs.Bulk.{IsBulk}
use Rattle.snmp_responder.specs.Code.{seen_by}
use Rattle.snmp_responder.specs.Instrumentation.{IsException, Known}
use Rattle.snmp_responder.specs.Next.{AreNextAnswers}
use Rattle.snmp_responder.specs.declared.viewer.Viewer.{Viewer}
use Rattle.snmp_walk.specs.Answer.{IsAnswered, Tells}
use Rattle.snmp_walk.specs.BulkAnswered.{BulkTells, IsBulkAnswered, repetitions_of}
use Rattle.snmp_walk.specs.BulkAsk.{IsAskOf}
use Rattle.snmp_walk.specs.BulkColumn.{IsNew, bulk_request}
use Rattle.snmp_walk.specs.BulkDialogue.{BulkAllStand, IsBulkFor, IsBulkNext, IsCountOf, bulk_requests, bulk_requests_of}
use Rattle.snmp_walk.specs.Column.{Asks, IsAsked}
use Rattle.snmp_walk.specs.Dialogue.{AllBegin, AllGoOn, AllStand, asked_in, asks_of, request, requests, requests_of}
use Rattle.snmp_walk.specs.Turns.{turns}
use Rattle.snmp_walk.specs.declared.bulk_ask.BulkAsk.{BulkAsk}
use Rattle.snmp_walk.specs.declared.bulk_ask.BulkAsk.TheVariants as way
use Rattle.snmp_walk.specs.declared.bulk_dialogue.BulkNext.{BulkNext}
use Rattle.snmp_walk.specs.declared.bulk_column.BulkColumn.{BulkColumn}
use Rattle.snmp_walk.specs.declared.bulk_dialogue.BulkAnswered.{BulkAnswered}
use Rattle.snmp_walk.specs.declared.bulk_dialogue.BulkAnswered.TheVariants as bulk
use Rattle.snmp_walk.specs.declared.bulk_dialogue.BulkDialogue.{BulkDialogue}
use Rattle.snmp_walk.specs.declared.bulk_dialogue.BulkLimits.{BulkLimits}
use Rattle.snmp_walk.specs.declared.column.Column.{Column}
use Rattle.snmp_walk.specs.declared.column.Progress.{Progress}
use Rattle.snmp_walk.specs.declared.column.Progress.TheVariants.{Asked, Ended, Given, Hidden, Wanting}
use Rattle.snmp_walk.specs.declared.dialogue.Answered.{Answered}
use Rattle.snmp_walk.specs.declared.dialogue.Answered.TheVariants as answered
use Rattle.snmp_walk.specs.declared.dialogue.Dialogue.{Dialogue}
use Rattle.snmp_walk.specs.declared.operation.ReadOperation.{ReadOperation}
use Rattle.snmp_walk.specs.declared.operation.ReadOperation.TheVariants.{Get, GetNext}
use Rattle.gateway_laws.specs.Bulk.{AreNamesAsked, IsTrueInTurn}
use Rattle.gateway_laws.specs.BulkTracks.{AllBulkTrack}
use Rattle.gateway_laws.specs.Device.{AllSeen, AreAnswered, IsDevice}
use Rattle.gateway_laws.specs.Requests.{Has}
use Rattle.gateway_laws.specs.Tracks.{AllTrack}
use Rattle.gateway_laws.proofs.Lists.{all_begin, all_go_on}
use Rattle.gateway_laws.proofs.BulkAsked.{asked_name, asked_names, few_asked, next_in_turn, repetitions_in_turn}
use Rattle.gateway_laws.proofs.BulkTrueRuns.{SameRequest, all_new, answered_same, came_tracks, goes_tracks}
use Rattle.gateway_laws.proofs.TrueRuns.{next_each, tracks_after}
use Rattle.snmp_gate.specs.Messages.{IsPduOf, IsViewerOf, requester_in, seen_in}
use Rattle.snmp_gate.specs.Question.{Question}
use Rattle.snmp_gate.specs.ReadAsks.{asked_variables, bulk_asked_variables, bulk_request_by, bulk_type, bulk_variables_asked, plain_request, read_request, read_type, unspecified, variables_asked, variables_in}
use Rattle.snmp_gate.specs.Said.{AreTrue, Exchange, IsTrueExchange, Said}
use Rattle.snmp_gate.specs.Work.{BulkAskStands, BulkStandsFor, IsAskedBy, ReadStands, SaysAll, end_of, says_no_such_name}
use Rattle.snmp_gate.specs.declared.set_answer.TheConstants.{NO_SUCH_NAME}

-- ---- what the message may see

abbrev who : Viewer → Requester
who viewer = record { model = viewer.model; name = viewer.name.now; level = viewer.level; context = viewer.context.now }

same_who : (tables : Tables) (q : Question) (viewer : Viewer) → IsViewerOf tables q viewer → who viewer ≡ requester_in q
same_who tables q viewer is = λ i. record { model = is.model i; name = is.name i; level = is.level i; context = is.context i }

pub to_seen : (P : (List ℕ → Type 0) → Type 0) (tables : Tables) (q : Question) (viewer : Viewer) → IsViewerOf tables q viewer → P (seen_by viewer) → P (seen_in tables q)
unfolding seen_by
to_seen P tables q viewer is p =
    subst (λ (t : Tables). P (Sees t (requester_in q) Read)) is.tables_are
    (subst (λ (r : Requester). P (Sees viewer.vacm.now r Read)) (same_who tables q viewer is) p)

pub from_seen : (P : (List ℕ → Type 0) → Type 0) (tables : Tables) (q : Question) (viewer : Viewer) → IsViewerOf tables q viewer → P (seen_in tables q) → P (seen_by viewer)
unfolding seen_by
from_seen P tables q viewer is p =
    subst (λ (r : Requester). P (Sees viewer.vacm.now r Read)) (sym (same_who tables q viewer is))
    (subst (λ (t : Tables). P (Sees t (requester_in q) Read)) (sym is.tables_are) p)

-- ---- a dialogue that goes on, or is answered

-- where each answer so far is that of a device with some variables, the columns go on as far over these
abbrev pub TracksOn : Viewer → Said → Dialogue → Dialogue → Type 0
TracksOn viewer told old new = (device : Known) → IsDevice device → AreTrue device told → AllTrack device (seen_by viewer) old.columns.items → AllTrack device (seen_by viewer) new.columns.items

pub read_stands : (tables : Tables) (q : Question) (told : Said) (viewer : Viewer) (operation : ReadOperation) (old new : Dialogue) → IsViewerOf tables q viewer
    → (AllStand (seen_by viewer) told.variables old → AllStand (seen_by viewer) told.variables new) → TracksOn viewer told old new → requests new ≡ requests old → ReadStands tables q told operation old
    → ReadStands tables q told operation new
read_stands tables q told viewer operation old new is goes on same stands = record {
  tag = stands.tag;
  requests_are = same ∙ stands.requests_are;
  stand = to_seen (λ (Seen : List ℕ → Type 0). AllStand Seen told.variables new) tables q viewer is (goes (from_seen (λ (Seen : List ℕ → Type 0). AllStand Seen told.variables old) tables q viewer is stands.stand));
  tracks = λ device plain truly. to_seen (λ (Seen : List ℕ → Type 0). AllTrack device Seen new.columns.items) tables q viewer is
      (on device plain truly (from_seen (λ (Seen : List ℕ → Type 0). AllTrack device Seen old.columns.items) tables q viewer is (stands.tracks device plain truly)));
}

-- a dialogue goes on
pub goes_tracking : (viewer : Viewer) (told : Said) (old new : Dialogue) → AllGoOn (seen_by viewer) old.columns.items new.columns.items → TracksOn viewer told old new
goes_tracking viewer told old new goes device plain truly tracks = all_go_on device (seen_by viewer) plain old.columns.items new.columns.items goes tracks

-- what the columns ask is what the device is asked
asks_one : (o : ReadOperation) (c : Column) (rest : List Variable) (asks : List (ReadOperation × List ℕ)) (p : Progress) → c.operation ≡ o → requests_of o rest ≡ asks → requests_of o (variables_in p ++ rest) ≡ asked_in c.operation p ++ asks
asks_one o c rest asks (Wanting from) same is = is
asks_one o c rest asks (Asked ask) same is = λ i. (sym same i, ask.name) ∷ is i
asks_one o c rest asks (Given g) same is = is
asks_one o c rest asks Hidden same is = is
asks_one o c rest asks Ended same is = is

asks_all : (o : ReadOperation) (cs : List Column) (vs : List Variable) → map request cs ≡ requests_of o vs → requests_of o (variables_asked cs) ≡ asks_of cs
asks_all o [] vs same = refl
asks_all o (c ∷ cs) [] same = absurd (let none : request c ∷ map request cs ≡ [] = same in cc)
asks_all o (c ∷ cs) (v ∷ vs) same =
    let both : request c ∷ map request cs ≡ (o, v.name) ∷ requests_of o vs = same in
    let head : request c ≡ (o, v.name) = cc in
    let tail : map request cs ≡ requests_of o vs = cc in
    asks_one o c (variables_asked cs) (asks_of cs) c.progress (ap (λ (r : ReadOperation × List ℕ). r.0) head) (asks_all o cs vs tail)

has_read : (device : Known) (o : ReadOperation) (asked vs : List Variable) → Has device (read_type o) (plain_request (read_type o) asked) vs → AreAnswered device AllSeen (requests_of o asked) vs
has_read device Get asked vs has = has
has_read device GetNext asked vs has = has

-- the device answers
pub takes_tracking : (viewer : Viewer) (operation : ReadOperation) (told : Said) (vs : List Variable) (answer : Pdu) (old new : Dialogue) (becomes : Answered) → requests old ≡ requests_of operation vs → SaysAll (read_request operation old) answer told
    → IsAnswered (seen_by viewer) answer old new becomes → TracksOn viewer told old new
takes_tracking viewer operation told vs answer old new becomes same says step device plain truly tracks =
    let exchange : Exchange = record { asked = read_request operation old; answer = pdu_of answer } in
    let is = All-contains (IsTrueExchange device) told.exchanges exchange truly says.exchange in
    tracks_after device (seen_by viewer) plain old new answer becomes (record {
      answered = λ none. subst (λ (asks : List (ReadOperation × List ℕ)). AreAnswered device AllSeen asks (variables_of answer.list.now)) (asks_all operation old.columns.items vs same)
          (has_read device operation (asked_variables old) (variables_of answer.list.now) (is.bindings none));
      not_version_1 = is.not_version_1;
    }) step tracks

-- ---- the same of a GetBulkRequest

abbrev pub BulkTracksOn : Viewer → Said → BulkDialogue → BulkDialogue → Type 0
BulkTracksOn viewer told old new = (device : Known) → IsDevice device → AreTrue device told → AllBulkTrack device (seen_by viewer) old.columns.items → AllBulkTrack device (seen_by viewer) new.columns.items

pub bulk_stands : (tables : Tables) (q : Question) (told : Said) (viewer : Viewer) (old new : BulkDialogue) → IsViewerOf tables q viewer
    → (BulkAllStand (seen_by viewer) told.variables old → BulkAllStand (seen_by viewer) told.variables new) → BulkTracksOn viewer told old new → SameRequest old new → bulk_requests new ≡ bulk_requests old
    → BulkStandsFor tables q told old → BulkStandsFor tables q told new
bulk_stands tables q told viewer old new is goes on for same stands = record {
  tag = stands.tag;
  first = subst (IsCountOf q.second) (sym for.non_repeaters) stands.first;
  most = subst (IsCountOf q.third) (sym for.max_repetitions) stands.most;
  requests_are = same ∙ stands.requests_are ∙ (λ i. bulk_requests_of (sym for.non_repeaters i) (sym for.max_repetitions i) (variables_of q.list));
  few = stands.few;
  tracks = λ device plain truly. to_seen (λ (Seen : List ℕ → Type 0). AllBulkTrack device Seen new.columns.items) tables q viewer is
      (on device plain truly (from_seen (λ (Seen : List ℕ → Type 0). AllBulkTrack device Seen old.columns.items) tables q viewer is (stands.tracks device plain truly)));
  stand = to_seen (λ (Seen : List ℕ → Type 0). BulkAllStand Seen told.variables new) tables q viewer is (goes (from_seen (λ (Seen : List ℕ → Type 0). BulkAllStand Seen told.variables old) tables q viewer is stands.stand));
}

-- a dialogue goes on
pub bulk_goes_tracking : (viewer : Viewer) (told : Said) (old new : BulkDialogue) (becomes : BulkNext) → IsBulkNext (seen_by viewer) old new becomes → BulkTracksOn viewer told old new
bulk_goes_tracking viewer told old new becomes goes device plain truly tracks = goes_tracks device (seen_by viewer) plain old new becomes goes tracks

-- what the columns ask is what the device is asked
bulk_names : (cs : List BulkColumn) → map (λ (v : Variable). v.name) (bulk_variables_asked cs) ≡ asked_names cs
bulk_names [] = refl
bulk_names (c ∷ cs) = here c.progress (bulk_names cs)
  where
    here : (p : Progress) → map (λ (v : Variable). v.name) (bulk_variables_asked cs) ≡ asked_names cs → map (λ (v : Variable). v.name) (variables_in p ++ bulk_variables_asked cs) ≡ asked_name p ++ asked_names cs
    here (Asked ask) rest = ap (λ (names : List (List ℕ)). ask.name ∷ names) rest
    here (Wanting from) rest = rest
    here (Given g) rest = rest
    here Hidden rest = rest
    here Ended rest = rest

pub requests_long : (n most : ℕ) (vs : List Variable) → length (bulk_requests_of n most vs) ≡ length vs
requests_long n most vs =
    let once : Variable → List ℕ × ℕ = λ v. (v.name, 1) in
    let again : Variable → List ℕ × ℕ = λ v. (v.name, most) in
    omega (
      arith,
      length-append (map once (take n vs)) (map again (drop n vs)),
      length-map (take n vs) once,
      length-map (drop n vs) again,
      length-append (take n vs) (drop n vs),
      ap (λ (ws : List Variable). length ws) (take-append-drop n vs),
    )

columns_few : (tables : Tables) (q : Question) (told : Said) (d : BulkDialogue) → BulkStandsFor tables q told d → length d.columns.items ≤ MAX_INTEGER32
columns_few tables q told d stands =
    omega (arith, length-map d.columns.items bulk_request, ap (λ (xs : List (List ℕ × ℕ)). length xs) stands.requests_are, requests_long d.non_repeaters d.max_repetitions (variables_of q.list), stands.few)

-- a device that answers as RFC 3416 says gives each column what it has next
in_turn : (device : Known) (d : BulkDialogue) (by : BulkAsk) (due : ℕ) (vs : List Variable) (names : List (List ℕ)) → length d.columns.items ≤ MAX_INTEGER32 → IsAskOf d.non_repeaters due d.columns.items by
    → AreNamesAsked d.columns.items names → Has device (bulk_type by) (bulk_request_by by d) vs → IsTrueInTurn device names (turns d.non_repeaters (repetitions_of by) d.columns.items) vs
in_turn device d way.GetNext due vs names few asks asked has =
    next_in_turn device d.columns.items names asked d.non_repeaters vs
    (subst (λ (those : List (List ℕ)). AreNextAnswers device AllSeen those vs) (bulk_names d.columns.items) (next_each device AllSeen (bulk_asked_variables d) vs has))
in_turn device d (way.GetBulk singles repetitions) due vs names few asks asked has =
    let at_most = few_asked d.non_repeaters d.columns.items in
    repetitions_in_turn device d.columns.items names asked d.non_repeaters (min singles MAX_INTEGER32) (min repetitions MAX_INTEGER32) repetitions has.whole vs has.rest
    (omega (arith, asks.2, at_most, few)) (omega (arith, asks.1, asks.3)) (omega arith)
    (subst (λ (those : List (List ℕ)). IsBulk device AllSeen those (min singles MAX_INTEGER32) (min repetitions MAX_INTEGER32) has.whole) (bulk_names d.columns.items) has.is_bulk) has.joined

-- the device answers
pub bulk_takes_tracking : (viewer : Viewer) (told : Said) (by : BulkAsk) (answer : Pdu) (old new : BulkDialogue) (becomes : BulkAnswered) → length old.columns.items ≤ MAX_INTEGER32 → IsAskedBy old by
    → SaysAll (bulk_request_by by old) answer told → IsBulkAnswered (seen_by viewer) answer old new becomes → BulkTracksOn viewer told old new
bulk_takes_tracking viewer told by answer old new becomes few asked says step device plain truly tracks =
    let vs = variables_of answer.list.now in
    let exchange : Exchange = record { asked = bulk_request_by by old; answer = pdu_of answer } in
    let is = All-contains (IsTrueExchange device) told.exchanges exchange truly says.exchange in
    came_tracks device (seen_by viewer) plain old new answer becomes (record {
      bindings = λ none names are. subst (λ (a : BulkAsk). IsTrueInTurn device names (turns old.non_repeaters (repetitions_of a) old.columns.items) vs) (sym asked.ask)
          (in_turn device old by asked.repetitions vs names few asked.columns are (is.bindings none));
      not_version_1 = is.not_version_1;
    }) step tracks

-- ---- noSuchName, of what was asked

in_flat : {X A : Type 0} (f : X → List A) (xs : List X) (i : ℕ) (d : X) (a : A) → i < length xs → Contains (f (slice_index_or xs i d)) a → Contains (flat_map f xs) a
in_flat f [] i d a within there = absurd (omega arith)
in_flat f (x ∷ xs) zero d a within there = Contains-append_left (f x) (flat_map f xs) a there
in_flat f (x ∷ xs) (suc i) d a within there = Contains-append_right (f x) (flat_map f xs) a (in_flat f xs i d a (omega arith) there)

name_asked : (p : Progress) → IsAsked p → (name : List ℕ) × Asks p name
name_asked (Asked ask) is = (ask.name, refl)
name_asked _ is = absurd is

variable_asked : (p : Progress) (name : List ℕ) → Asks p name → Contains (variables_in p) (unspecified name)
variable_asked (Asked ask) name is = subst (λ (n : List ℕ). Contains (unspecified ask.name ∷ []) (unspecified n)) is (Contains-push [] (unspecified ask.name))
variable_asked _ name is = absurd is

asks_one_name : (p : Progress) (a b : List ℕ) → Asks p a → Asks p b → a ≡ b
asks_one_name (Asked ask) a b is also = sym is ∙ also
asks_one_name _ a b is also = absurd is

is_end : (name other : List ℕ) → name ≡ other → IsException EndOfMibView other (end_of (unspecified name))
is_end name other same = record { named = same; syntax_is = refl; empty = refl }

says_it : (answer : Pdu) → answer.second ≡ NO_SUCH_NAME → says_no_such_name answer.second ≡ true
says_it answer is = ap says_no_such_name is ∙ refl

-- the end of a column that was asked
ends_at : {X : Type 0} (progress : X → Progress) (xs : List X) (number : ℕ) (d : X) (told : List Variable) → number < length xs
    → All (λ (v : Variable). Contains told (end_of v)) (flat_map (λ (x : X). variables_in (progress x)) xs)
    → (name : List ℕ) → Asks (progress (slice_index_or xs number d)) name
    → (v : Variable) × Contains told v × HoldsAt (λ (x : X). (n : List ℕ) → Asks (progress x) n → IsException EndOfMibView n v) xs number
ends_at {X} progress xs number d told within all name asks = (
  end_of (unspecified name),
  All-contains (λ (v : Variable). Contains told (end_of v)) (flat_map (λ (x : X). variables_in (progress x)) xs) (unspecified name) all
      (in_flat (λ (x : X). variables_in (progress x)) xs number d (unspecified name) within (variable_asked (progress (slice_index_or xs number d)) name asks)),
  (λ e n also. is_end name n (asks_one_name (progress (slice_index_or xs number d)) name n asks (subst (λ (x : X). Asks (progress x) n) (get_or_default xs number e d within) also))),
)

pub tells : (Seen : List ℕ → Type 0) (told : Said) (operation : ReadOperation) (answer : Pdu) (old new : Dialogue) (becomes : Answered) → SaysAll (read_request operation old) answer told → IsAnswered Seen answer old new becomes → Tells old answer becomes told.variables
tells Seen told operation answer old new answered.Taken says is = says.bindings
tells Seen told operation answer old new (answered.Unfit fault) says is = says.bindings
tells Seen told operation answer old new (answered.Failed failure) says is = says.bindings
tells Seen told operation answer old new (answered.Ended number) says is =
    let failure = is.1 in
    let d = is.3.new in
    let name = name_asked (slice_index_or old.columns.items number d).progress (is.3.asked d) in
    ends_at (λ (c : Column). c.progress) old.columns.items number d told.variables failure.column.within (says.ends (says_it answer failure.status.0)) name.0 name.1

bulk_tells : (Seen : List ℕ → Type 0) (told : Said) (by : BulkAsk) (answer : Pdu) (old new : BulkDialogue) (becomes : BulkAnswered) → SaysAll (bulk_request_by by old) answer told → IsBulkAnswered Seen answer old new becomes → BulkTells old answer becomes told.variables
bulk_tells Seen told by answer old new bulk.Taken says is = says.bindings
bulk_tells Seen told by answer old new (bulk.Unfit fault) says is = says.bindings
bulk_tells Seen told by answer old new bulk.Less says is = says.bindings
bulk_tells Seen told by answer old new bulk.Front says is = says.bindings
bulk_tells Seen told by answer old new bulk.TooBig says is = says.bindings
bulk_tells Seen told by answer old new (bulk.Failed column) says is = says.bindings
bulk_tells Seen told by answer old new (bulk.Ended number) says is =
    let d = is.2.ended in
    let name = name_asked (slice_index_or old.columns.items number d).progress (is.1.asked d) in
    ends_at (λ (c : BulkColumn). c.progress) old.columns.items number d told.variables is.1.within (says.ends (says_it answer is.0)) name.0 name.1

-- a GetBulkRequest whose device answers
pub bulk_taken : (tables : Tables) (q : Question) (told : Said) (viewer : Viewer) (by : BulkAsk) (answer : Pdu) (old new : BulkDialogue) (becomes : BulkAnswered) → IsViewerOf tables q viewer → SaysAll (bulk_request_by by old) answer told
    → IsBulkAnswered (seen_by viewer) answer old new becomes → (BulkAllStand (seen_by viewer) told.variables old → BulkTells old answer becomes told.variables → BulkAllStand (seen_by viewer) told.variables new)
    → bulk_requests new ≡ bulk_requests old → BulkAskStands tables q told by old → BulkStandsFor tables q told new
bulk_taken tables q told viewer by answer old new becomes is says step goes same stands =
    bulk_stands tables q told viewer old new is (λ all. goes all (bulk_tells (seen_by viewer) told by answer old new becomes says step))
    (bulk_takes_tracking viewer told by answer old new becomes (columns_few tables q told old stands.dialogue) stands.asked says step)
    (answered_same (seen_by viewer) answer old new becomes step) same stands.dialogue

-- ---- how it begins

pub read_begins : (tables : Tables) (q : Question) (told : Said) (viewer : Viewer) (operation : ReadOperation) (pdu : Pdu) (d : Dialogue) → IsViewerOf tables q viewer → IsPduOf q pdu → q.tag ≡ pdu_tag (read_type operation)
    → requests d ≡ requests_of operation (variables_of pdu.list.now) → AllBegin (seen_by viewer) d → AllStand (seen_by viewer) told.variables d → ReadStands tables q told operation d
read_begins tables q told viewer operation pdu d is of tag same begin stand = record {
  tag = tag;
  requests_are = same ∙ ap (λ (list : List ℕ). requests_of operation (variables_of list)) of.list;
  stand = to_seen (λ (Seen : List ℕ → Type 0). AllStand Seen told.variables d) tables q viewer is stand;
  tracks = λ device plain truly. to_seen (λ (Seen : List ℕ → Type 0). AllTrack device Seen d.columns.items) tables q viewer is (all_begin device (seen_by viewer) d.columns.items begin);
}

pub bulk_begins : (tables : Tables) (q : Question) (told : Said) (viewer : Viewer) (pdu : Pdu) (limits : BulkLimits) (d : BulkDialogue) → IsViewerOf tables q viewer → IsPduOf q pdu → q.tag ≡ pdu_tag GetBulkRequest
    → length (variables_of pdu.list.now) ≤ MAX_INTEGER32 → IsBulkFor pdu.second pdu.third (variables_of pdu.list.now) limits d → All IsNew d.columns.items → BulkAllStand (seen_by viewer) told.variables d
    → BulkStandsFor tables q told d
bulk_begins tables q told viewer pdu limits d is of tag few for new stand = record {
  tag = tag;
  first = subst (λ (n : ℤ). IsCountOf n d.non_repeaters) of.second for.first;
  few = subst (λ (list : List ℕ). length (variables_of list) ≤ MAX_INTEGER32) of.list few;
  tracks = λ device plain truly. to_seen (λ (Seen : List ℕ → Type 0). AllBulkTrack device Seen d.columns.items) tables q viewer is (all_new device (seen_by viewer) d.columns.items new);
  most = subst (λ (n : ℤ). IsCountOf n d.max_repetitions) of.third for.most;
  requests_are = for.requests ∙ ap (λ (list : List ℕ). bulk_requests_of d.non_repeaters d.max_repetitions (variables_of list)) of.list;
  stand = to_seen (λ (Seen : List ℕ → Type 0). BulkAllStand Seen told.variables d) tables q viewer is stand;
}

-- someone who asks this, with these tables
abbrev pub viewer_for : Tables → Question → Viewer
viewer_for tables q = record {
  vacm = record { ref_ptr = (0, 0); now = tables };
  model = (requester_in q).model;
  name = record { ref_ptr = (0, 0); now = q.user };
  level = q.level;
  context = record { ref_ptr = (0, 0); now = q.context };
}

pub is_viewer_for : (tables : Tables) (q : Question) → IsViewerOf tables q (viewer_for tables q)
is_viewer_for tables q = record { tables_are = refl; model = refl; name = refl; level = refl; context = refl }
