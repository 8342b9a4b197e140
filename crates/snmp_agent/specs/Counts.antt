-- The counters of messages that were refused without a report, that no application handled, or that had no
-- answer short enough (RFC 3412, section 5; RFC 3413, section 4.1.2; RFC 3418).
--
-- `drop_counter_of` (RFC 3412, section 7.2, RFC 3418). The counter of a refusal that is never reported.
use Rattle.snmp_message.specs.declared.refusal.Refusal.{Refusal}
use Rattle.std.specs.Prelude.{ℕ, ◌+◌, ◌%◌, ◌^◌, List, slice_index, slice_set, Option, Some}
use Rattle.std.specs.Prelude.{None, Result, Ok, Err}
use Rattle.snmp_message.specs.declared.refusal.Refusal.TheVariants.{NotMessage, BadVersion, NotSecurity, NotScoped}
use Rattle.snmp_message.specs.declared.refusal.Refusal.TheVariants.{BadScoped, BadPdu, UnknownModel, InvalidFlags}
use Rattle.snmp_incoming.specs.Outcome.{Given}
use Rattle.snmp_outgoing.specs.Counters.{place_of}
use Rattle.snmp_outgoing.specs.declared.counter.Counter.{Counter}
use Rattle.snmp_outgoing.specs.declared.counter.Counter.TheVariants.{InBadVersions, InAsnParseErrs}
use Rattle.snmp_outgoing.specs.declared.counter.Counter.TheVariants.{UnknownSecurityModels, InvalidMsgs}

abbrev pub count_at : List ℕ → Counter → ℕ
count_at counts counter = slice_index counts (place_of counter)

-- its value after one more, a Counter32: it goes from 4294967295 to 0
abbrev pub count_after : List ℕ → Counter → ℕ
count_after counts counter = (count_at counts counter + 1) % 2 ^ 32

abbrev pub one_more : List ℕ → Option Counter → List ℕ
one_more counts None = counts
one_more counts (Some counter) = slice_set counts (place_of counter) (count_after counts counter)

-- the counter of a refusal that is never reported (RFC 3412, section 7.2, steps 1 to 5; RFC 3414, section 3.2, step 1)
abbrev pub drop_counter_of : Refusal → Option Counter
drop_counter_of BadVersion = Some InBadVersions
drop_counter_of NotMessage = Some InAsnParseErrs
drop_counter_of NotSecurity = Some InAsnParseErrs
drop_counter_of NotScoped = Some InAsnParseErrs
drop_counter_of BadScoped = Some InAsnParseErrs
drop_counter_of BadPdu = Some InAsnParseErrs
drop_counter_of UnknownModel = Some UnknownSecurityModels
drop_counter_of InvalidFlags = Some InvalidMsgs
drop_counter_of _ = None

-- A refusal that has such a counter adds one to it.
abbrev pub counts_after : List ℕ → Result Given Refusal → List ℕ
counts_after counts (Ok given) = counts
counts_after counts (Err refusal) = one_more counts (drop_counter_of refusal)
