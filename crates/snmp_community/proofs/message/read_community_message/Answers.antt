use Rattle.std.proofs.Common.{rules, ◌≡◌, ◌-◌, ℕ, ℤ, List, [], length, Option, Some, None, pos, sym, ap, ◌∙◌, arith, FitsSigned, w32, to_z, of_z}
use Rattle.std.specs.Prelude.{slice_range}
use Rattle.std.proofs.lemmas.Int.{to_z-of_z}
use Rattle.std.proofs.lemmas.List.Edits.{length-between}
use Rattle.std.proofs.lemmas.List.{nil_from_length}
use Rattle.snmp_message.specs.Reading.{version_in}
use Rattle.snmp_message.specs.declared.refusal.Refusal.TheVariants.{NotMessage, BadVersion}
use Rattle.snmp_community.specs.Versions.{version_number}
use Rattle.snmp_community.specs.Message.{parts}
use Rattle.snmp_community.specs.Refusals.{RefusesMessage}
use Rattle.snmp_community.specs.declared.version.Version.{Version}
use Rattle.snmp_community.proofs.Messages.{message_from, other_version_from, not_both}
use Rattle.snmp_community.proofs.Faults.{version_from, after_message, refused}
use Rattle.snmp_community.proofs.message.read_community_message.Goals as goal

-- what was read of the version, by its name
named : (w octets after : List ℕ) (z : ℤ) (v : Version) → FitsSigned w32 z → to_z w32 (of_z w32 z) ≡ pos (version_number v) → ◌≡◌ {A = Option (ℤ × List ℕ × List ℕ)} (Some (z, octets, after)) (version_in w) → version_in w ≡ Some (pos (version_number v), octets, after)
named w octets after z v fits same e = sym e ∙ ap (λ (y : ℤ). Some (y, octets, after)) (sym (to_z-of_z w32 z fits) ∙ same)

-- the octets after a part that ends before the whole
after_length : (w : List ℕ) (end : ℕ) → length (slice_range w end (length w)) ≡ length w - end
after_length w end = length-between w end (length w) (omega arith)

pub returns-in-Err-clause-exact : goal.returns-in-Err-clause-exact
returns-in-Err-clause-exact c = rw (c.not_message.ensures.refusal, c.not_message.ensures.place) (refused c.args.datagram.now c.in-Err.fault.at c.in-Err.ensures.fault)

pub returns-in-Err-clause-none : goal.returns-in-Err-clause-none
returns-in-Err-clause-none c = (refused c.args.datagram.now c.in-Err.fault.at c.in-Err.ensures.fault).1

pub returns-in_default-clause-exact : goal.returns-in_default-clause-exact
returns-in_default-clause-exact c =
    let w = c.args.datagram.now in
    let v = c.in-Ok.found in
    let fits : FitsSigned w32 v.0 = search rules in
    rw (c.plain.ensures.refusal, c.plain.ensures.place)
    (other_version_from w v.0 (slice_range w v.1 v.2) (slice_range w v.2 (length w)) (λ version e. c.in_default.ensures version (to_z-of_z w32 v.0 fits ∙ e)) (sym c.in-Ok.ensures.value))

pub returns-in_default-clause-none : goal.returns-in_default-clause-none
returns-in_default-clause-none c =
    let other : RefusesMessage c.args.datagram.now BadVersion None = rw (c.plain.ensures.refusal, c.plain.ensures.place) at (returns-in_default-clause-exact c) in
    λ m o. not_both c.args.datagram.now m o other

pub returns-in-Err-read_parts-clause-exact : goal.returns-in-Err-read_parts-clause-exact
returns-in-Err-read_parts-clause-exact c =
    let w = c.args.datagram.now in
    let v = c.in-Ok.found in
    let octets = slice_range w v.1 v.2 in
    let after = slice_range w v.2 (length w) in
    let fits : FitsSigned w32 v.0 = search rules in
    let first = named w octets after v.0 c.in-Some.version fits c.in-Some.ensures c.in-Ok.ensures.value in
    let at = c.in-Err-read_parts.fault.at in
    let fault = c.in-Err-read_parts.ensures.fault in
    let size = length-between w v.1 v.2 c.in-Ok.ensures.ordered.1 in
    rw (c.not_message-in-Err-read_parts.ensures.refusal, c.not_message-in-Err-read_parts.ensures.place)
    (refused w at (version_from w c.in-Some.version octets after at fault.0 first (omega (arith, fault.1, size, after_length w v.2, c.in-Ok.ensures.ordered)) fault.2))

pub returns-in-Err-read_parts-clause-none : goal.returns-in-Err-read_parts-clause-none
returns-in-Err-read_parts-clause-none c =
    let why : RefusesMessage c.args.datagram.now NotMessage (Some c.in-Err-read_parts.fault.at) = rw (c.not_message-in-Err-read_parts.ensures.refusal, c.not_message-in-Err-read_parts.ensures.place) at (returns-in-Err-read_parts-clause-exact c) in
    why.1

pub returns-then-end-datagram-clause-exact : goal.returns-then-end-datagram-clause-exact
returns-then-end-datagram-clause-exact c =
    let w = c.args.datagram.now in
    let v = c.in-Ok.found in
    let octets = slice_range w v.1 v.2 in
    let after = slice_range w v.2 (length w) in
    let fits : FitsSigned w32 v.0 = search rules in
    let first = named w octets after v.0 c.in-Some.version fits c.in-Some.ensures c.in-Ok.ensures.value in
    let size = after_length w v.2 in
    rw (c.not_message-then-end-datagram.ensures.refusal, c.not_message-then-end-datagram.ensures.place)
    (refused w v.2
    (after_message w c.in-Some.version octets after (parts c.in-Ok-read_parts.message) v.2 first (sym c.in-Ok-read_parts.ensures.value) (omega (arith, size, c.in-Ok.ensures.ordered)) (omega (arith, size, c.if-end-datagram.true))))

pub returns-then-end-datagram-clause-none : goal.returns-then-end-datagram-clause-none
returns-then-end-datagram-clause-none c =
    let why : RefusesMessage c.args.datagram.now NotMessage (Some c.in-Ok.found.2) = rw (c.not_message-then-end-datagram.ensures.refusal, c.not_message-then-end-datagram.ensures.place) at (returns-then-end-datagram-clause-exact c) in
    why.1

pub returns-clause-exact : goal.returns-clause-exact
returns-clause-exact c =
    let w = c.args.datagram.now in
    let v = c.in-Ok.found in
    let octets = slice_range w v.1 v.2 in
    let after = slice_range w v.2 (length w) in
    let fits : FitsSigned w32 v.0 = search rules in
    let first = named w octets after v.0 c.in-Some.version fits c.in-Some.ensures c.in-Ok.ensures.value in
    let size = after_length w v.2 in
    let none : after ≡ [] = nil_from_length after (omega (arith, size, c.if-end-datagram.false, c.in-Ok.ensures.ordered)) in
    message_from w c.in-Some.version octets after (parts c.in-Ok-read_parts.message) v.2 first (sym c.in-Ok-read_parts.ensures.value) (omega (arith, size, c.in-Ok.ensures.ordered)) none

pub returns-clause-element : goal.returns-clause-element
returns-clause-element c = let o = returns-clause-exact c in (o.pdu_tag, o.pdu_content, o.is_pdu)
