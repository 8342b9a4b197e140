-- Counters that were counted.
use Rattle.std.proofs.Common.{◌≡◌, ℕ, ◌<◌, List, length, arith}
use Rattle.std.specs.Prelude.{Some}
use Rattle.std.proofs.lemmas.List.{get_or-set_same}
use Rattle.snmp_outgoing.specs.declared.counter.Counter.{Counter}
use Rattle.snmp_outgoing.specs.declared.counter.Counter.TheVariants.{UnknownPduHandlers, UnavailableContexts, UnknownContexts, InBadVersions, InAsnParseErrs, UnknownSecurityModels, InvalidMsgs, SilentDrops}
use Rattle.snmp_outgoing.specs.Counters.{place_of}
use Rattle.snmp_agent.specs.Counts.{count_at, count_after, one_more}

place_below : (counter : Counter) → place_of counter < 8
place_below UnknownPduHandlers = omega arith
place_below UnavailableContexts = omega arith
place_below UnknownContexts = omega arith
place_below InBadVersions = omega arith
place_below InAsnParseErrs = omega arith
place_below UnknownSecurityModels = omega arith
place_below InvalidMsgs = omega arith
place_below SilentDrops = omega arith

-- the value of the counter that was counted
pub counted_value : (counts : List ℕ) (counter : Counter) → length counts ≡ 8 → count_at (one_more counts (Some counter)) counter ≡ count_after counts counter
counted_value counts counter eight =
    let below = place_below counter in
    let within : place_of counter < length counts = omega (arith, below, eight) in
    get_or-set_same counts (place_of counter) (count_after counts counter) 0 within
