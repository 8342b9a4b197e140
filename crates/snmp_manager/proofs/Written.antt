-- Messages that were written: how long a ScopedPDU is, and that nothing refused the message.
use Rattle.std.proofs.Common.{◌≡◌, ℕ, ◌+◌, ◌≤◌, List, length, arith}
use Rattle.std.specs.Prelude.{Ok}
use Rattle.snmp_ber.specs.Spelling.{element}
use Rattle.snmp_message.specs.Scoped.{contexts_text, scoped_text}
use Rattle.snmp_message.specs.Spelling.{signed}
use Rattle.snmp_msg.specs.Pdu.{PduParts, pdu_content_text, pdu_text}
use Rattle.snmp_message.proofs.Lengths.{element_between, length_of_three, length_of_four, signed_most}
use Rattle.usm_users.specs.User.{User}
use Rattle.usm_core.specs.Table.{holds}
use Rattle.usm_core.specs.Sealed.{Sending, Seals, IsSealable}

pdu_most : (p : PduParts) → length (pdu_text p) ≤ 54 + length p.list
unfolding pdu_text pdu_content_text
pdu_most p =
    let whole = element_between p.tag (pdu_content_text p) in
    let joined : length (pdu_content_text p) ≡ _ = length_of_four (signed p.id) (signed p.second) (signed p.third) (element 48 p.list) in
    let list = element_between 48 p.list in
    omega (arith, whole.1, joined, signed_most p.id, signed_most p.second, signed_most p.third, list.1)

-- a ScopedPDU has at most 72 octets beside its engine ID, its context name and its bindings
pub scoped_most : (engine name : List ℕ) (p : PduParts) → length (scoped_text engine name (pdu_text p)) ≤ 72 + length engine + length name + length p.list
unfolding scoped_text contexts_text
scoped_most engine name p =
    let whole = element_between 48 (contexts_text engine name (pdu_text p)) in
    let joined : length (contexts_text engine name (pdu_text p)) ≡ _ = length_of_three (element 4 engine) (element 4 name) (pdu_text p) in
    let first = element_between 4 engine in
    let second = element_between 4 name in
    omega (arith, whole.1, joined, first.1, second.1, pdu_most p)

-- what has a text was refused by no row before it
pub sealable : (users : List User) (m : Sending) (text : List ℕ) → Seals users m (Ok text) → IsSealable users m
unfolding Seals
sealable users m text (holds flags (holds user (holds level writes))) = record { flags = flags; user = level }
