-- Reports and tooBigs are short.
use Rattle.std.proofs.Common.{◌≡◌, ℕ, ℤ, pos, ◌+◌, ◌<◌, ◌≤◌, ◌^◌, List, [], ◌∷◌, ◌++◌, length, refl, sym, subst, arith, rules}
use Rattle.std.proofs.lemmas.List.{length-append}
use Rattle.snmp_ber.specs.Element.{IsTag, IsElement}
use Rattle.snmp_ber.specs.Oid.{identifier}
use Rattle.snmp_ber.specs.Spelling.{element, integer}
use Rattle.snmp_ber.proofs.Identifiers.{subidentifiers-short}
use Rattle.snmp_message.specs.Scoped.{contexts_text, scoped_text}
use Rattle.snmp_msg.specs.Variables.{Variable, variable_content, variable_text, variables_text}
use Rattle.snmp_message.specs.Spelling.{signed}
use Rattle.snmp_msg.specs.Pdu.{PduParts, pdu_with, pdu_content_text, pdu_text}
use Rattle.snmp_message.proofs.Lengths.{element_between, integer_most, length_of_three, length_of_four, signed_most}
use Rattle.snmp_outgoing.specs.Counters.{counter_name}
use Rattle.engine_clock.specs.Pairs.{BootsAndTime, IsPair}
use Rattle.usm_core.specs.Sealed.{SendingFits}
use Rattle.snmp_outgoing.specs.Speaks.{Speech, spoken}
use Rattle.snmp_outgoing.specs.declared.counter.Counter.{Counter}
use Rattle.snmp_outgoing.specs.declared.counter.Counter.TheVariants.{UnknownPduHandlers, UnavailableContexts, UnknownContexts, InBadVersions, InAsnParseErrs, UnknownSecurityModels, InvalidMsgs, SilentDrops}
use Rattle.snmp_outgoing.specs.Counters.{name_of}
use Rattle.snmp_agent.specs.CounterReports.{count_variable, counter_variable, reporting}

name_most : (k : ℕ) → length (identifier (counter_name k)) ≤ 50
unfolding identifier
name_most k = let short = subidentifiers-short (43 ∷ 6 ∷ 1 ∷ 6 ∷ 3 ∷ 15 ∷ 1 ∷ 1 ∷ k ∷ 0 ∷ []) in omega (arith, short)

variable_most : (k value : ℕ) → length (variable_text (counter_variable k value)) ≤ 80
unfolding variable_text variable_content
variable_most k value =
    let whole = element_between 48 (element 6 (identifier (counter_name k)) ++ element 65 (integer (pos value))) in
    let joined = length-append (element 6 (identifier (counter_name k))) (element 65 (integer (pos value))) in
    let name = element_between 6 (identifier (counter_name k)) in
    let content = element_between 65 (integer (pos value)) in
    omega (arith, whole.1, joined, name.1, content.1, name_most k, integer_most (pos value))

list_most : (k value : ℕ) → length (variables_text (counter_variable k value ∷ [])) ≤ 80
unfolding variables_text
list_most k value = let e = length-append (variable_text (counter_variable k value)) [] in let v = variable_most k value in omega (arith, e, v)

pdu_most : (id : ℤ) (k value : ℕ) → length (pdu_text (pdu_with 168 id (pos 0) (pos 0) (counter_variable k value ∷ []))) ≤ 140
unfolding pdu_text pdu_content_text
pdu_most id k value =
    let list = variables_text (counter_variable k value ∷ []) in
    let whole = element_between 168 (signed id ++ (signed (pos 0) ++ (signed (pos 0) ++ element 48 list))) in
    let joined = length_of_four (signed id) (signed (pos 0)) (signed (pos 0)) (element 48 list) in
    let inner = element_between 48 list in
    omega (arith, whole.1, joined, inner.1, signed_most id, signed_most (pos 0), list_most k value)

-- the ScopedPDU of a report of an engine with at most 32 octets
pub scoped_most : (engine : List ℕ) (id : ℤ) (k value : ℕ) → length engine ≤ 32
    → length (scoped_text engine [] (pdu_text (pdu_with 168 id (pos 0) (pos 0) (counter_variable k value ∷ [])))) ≤ 200
unfolding scoped_text contexts_text
scoped_most engine id k value short =
    let pdu = pdu_text (pdu_with 168 id (pos 0) (pos 0) (counter_variable k value ∷ [])) in
    let whole = element_between 48 (element 4 engine ++ (element 4 [] ++ pdu)) in
    let joined = length_of_three (element 4 engine) (element 4 []) pdu in
    let first = element_between 4 engine in
    let second = element_between 4 [] in
    omega (arith, whole.1, joined, first.1, second.1, pdu_most id k value, short)

scoped_element : ((tag : ℕ) (content : List ℕ) → IsTag tag → length content < 2 ^ 32 → IsElement tag content (element tag content))
    → (engine : List ℕ) (id : ℤ) (k value : ℕ) → length engine ≤ 32 → (content : List ℕ) × IsElement 48 content (scoped_text engine [] (pdu_text (pdu_with 168 id (pos 0) (pos 0) (counter_variable k value ∷ []))))
unfolding scoped_text
scoped_element canonical engine id k value short =
    let content = contexts_text engine [] (pdu_text (pdu_with 168 id (pos 0) (pos 0) (counter_variable k value ∷ []))) in
    let whole = element_between 48 content in
    let most = scoped_most engine id k value short in
    (content, canonical 48 content (search rules) (omega (arith, whole.0, most)))

-- it can be sealed
pub report_fits : ((tag : ℕ) (content : List ℕ) → IsTag tag → length content < 2 ^ 32 → IsElement tag content (element tag content))
    → (engine : List ℕ) (own : BootsAndTime) (id : ℕ) (user : List ℕ) (request_id : ℤ) (k value : ℕ) → length engine ≤ 32 → IsPair own → id ≤ 2147483647 → length user ≤ 32
    → SendingFits (reporting engine own id user request_id k value)
report_fits canonical engine own id user request_id k value short pair id_fits user_short =
    let scoped = scoped_element canonical engine request_id k value short in
    record {
      header = record { id = id_fits; least_size = omega arith; most_size = omega arith; least_model = omega arith; most_model = omega arith };
      boots = pair.boots;
      time = pair.time;
      user = user_short;
      salt = refl;
      content = scoped.0;
      scoped = scoped.1;
    }

-- ---- any message of the agent

pub pdu_most_with : (tag : ℕ) (id second third : ℤ) (vs : List Variable) → length (pdu_text (pdu_with tag id second third vs)) ≤ 54 + length (variables_text vs)
unfolding pdu_text pdu_content_text
pdu_most_with tag id second third vs =
    let list = variables_text vs in
    let whole = element_between tag (signed id ++ (signed second ++ (signed third ++ element 48 list))) in
    let joined = length_of_four (signed id) (signed second) (signed third) (element 48 list) in
    let inner = element_between 48 list in
    omega (arith, whole.1, joined, inner.1, signed_most id, signed_most second, signed_most third)

scoped_size : (engine name pdu : List ℕ) → length (scoped_text engine name pdu) ≤ 18 + length engine + length name + length pdu
unfolding scoped_text contexts_text
scoped_size engine name pdu =
    let whole = element_between 48 (element 4 engine ++ (element 4 name ++ pdu)) in
    let joined = length_of_three (element 4 engine) (element 4 name) pdu in
    let first = element_between 4 engine in
    let second = element_between 4 name in
    omega (arith, whole.1, joined, first.1, second.1)

scoped_is : ((tag : ℕ) (content : List ℕ) → IsTag tag → length content < 2 ^ 32 → IsElement tag content (element tag content))
    → (engine name pdu : List ℕ) → length engine + length name + length pdu ≤ 65507 → (content : List ℕ) × IsElement 48 content (scoped_text engine name pdu)
unfolding scoped_text
scoped_is canonical engine name pdu short =
    let content = contexts_text engine name pdu in
    let whole = element_between 48 content in
    let most = scoped_size engine name pdu in
    (content, canonical 48 content (search rules) (omega (arith, whole.0, most, short)))

-- what a level, an engine and a user say with a PDU can be sealed
pub spoken_fits : ((tag : ℕ) (content : List ℕ) → IsTag tag → length content < 2 ^ 32 → IsElement tag content (element tag content))
    → (s : Speech) → s.id ≤ 2147483647 → IsPair s.pair → length s.user ≤ 32 → length s.salt ≡ 8 → length s.context_engine + length s.context_name + length (pdu_text s.pdu) ≤ 65507 → SendingFits (spoken s)
spoken_fits canonical s id pair user salt short =
    let scoped = scoped_is canonical s.context_engine s.context_name (pdu_text s.pdu) short in
    record {
      header = record { id = id; least_size = omega arith; most_size = omega arith; least_model = omega arith; most_model = omega arith };
      boots = pair.boots;
      time = pair.time;
      user = user;
      salt = salt;
      content = scoped.0;
      scoped = scoped.1;
    }

-- what was sealed of a PDU with these bindings is at most 222 octets longer than the engine ID, the user's name, the contexts and the
-- bindings
pub spoken_size : (s : Speech) (tag : ℕ) (id second third : ℤ) (vs : List Variable) → s.pdu ≡ pdu_with tag id second third vs → (text : List ℕ)
    → length text ≤ 150 + length s.engine + length s.user + length (scoped_text s.context_engine s.context_name (pdu_text s.pdu))
    → length text ≤ 222 + length s.engine + length s.user + length s.context_engine + length s.context_name + length (variables_text vs)
spoken_size s tag id second third vs is text most =
    let scoped = scoped_size s.context_engine s.context_name (pdu_text s.pdu) in
    let pdu : length (pdu_text s.pdu) ≤ 54 + length (variables_text vs) = subst (λ (q : PduParts). length (pdu_text q) ≤ 54 + length (variables_text vs)) (sym is) (pdu_most_with tag id second third vs) in
    omega (arith, most, scoped, pdu)

name_short : (counter : Counter) → length (identifier (name_of counter)) ≤ 50
unfolding identifier
name_short UnknownPduHandlers = let short = subidentifiers-short (43 ∷ 6 ∷ 1 ∷ 6 ∷ 3 ∷ 11 ∷ 2 ∷ 1 ∷ 3 ∷ 0 ∷ []) in omega (arith, short)
name_short UnavailableContexts = let short = subidentifiers-short (43 ∷ 6 ∷ 1 ∷ 6 ∷ 3 ∷ 12 ∷ 1 ∷ 4 ∷ 0 ∷ []) in omega (arith, short)
name_short UnknownContexts = let short = subidentifiers-short (43 ∷ 6 ∷ 1 ∷ 6 ∷ 3 ∷ 12 ∷ 1 ∷ 5 ∷ 0 ∷ []) in omega (arith, short)
name_short InBadVersions = let short = subidentifiers-short (43 ∷ 6 ∷ 1 ∷ 2 ∷ 1 ∷ 11 ∷ 3 ∷ 0 ∷ []) in omega (arith, short)
name_short InAsnParseErrs = let short = subidentifiers-short (43 ∷ 6 ∷ 1 ∷ 2 ∷ 1 ∷ 11 ∷ 6 ∷ 0 ∷ []) in omega (arith, short)
name_short UnknownSecurityModels = let short = subidentifiers-short (43 ∷ 6 ∷ 1 ∷ 6 ∷ 3 ∷ 11 ∷ 2 ∷ 1 ∷ 1 ∷ 0 ∷ []) in omega (arith, short)
name_short InvalidMsgs = let short = subidentifiers-short (43 ∷ 6 ∷ 1 ∷ 6 ∷ 3 ∷ 11 ∷ 2 ∷ 1 ∷ 2 ∷ 0 ∷ []) in omega (arith, short)
name_short SilentDrops = let short = subidentifiers-short (43 ∷ 6 ∷ 1 ∷ 2 ∷ 1 ∷ 11 ∷ 31 ∷ 0 ∷ []) in omega (arith, short)

pub count_list : (counter : Counter) (value : ℕ) → length (variables_text (count_variable counter value ∷ [])) ≤ 80
unfolding variables_text variable_text variable_content
count_list counter value =
    let whole = element_between 48 (element 6 (identifier (name_of counter)) ++ element 65 (integer (pos value))) in
    let joined = length-append (element 6 (identifier (name_of counter))) (element 65 (integer (pos value))) in
    let name = element_between 6 (identifier (name_of counter)) in
    let content = element_between 65 (integer (pos value)) in
    let e = length-append (variable_text (count_variable counter value)) [] in
    omega (arith, e, whole.1, joined, name.1, content.1, name_short counter, integer_most (pos value))

pub empty_list : length (variables_text []) ≡ 0
unfolding variables_text
empty_list = refl
