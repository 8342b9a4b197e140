-- The counters of an engine, by name: those of refused messages (usmStats, RFC 3414, section 5), and the
-- others (RFC 3412, section 5; RFC 3413, section 4.1.2; RFC 3418).
use Rattle.std.specs.Prelude.{ℕ, List, [], ◌∷◌}
use Rattle.snmp_outgoing.specs.declared.counter.Counter.{Counter}
use Rattle.snmp_outgoing.specs.declared.counter.Counter.TheVariants.{UnknownPduHandlers, UnavailableContexts}
use Rattle.snmp_outgoing.specs.declared.counter.Counter.TheVariants.{UnknownContexts, InBadVersions, InAsnParseErrs}
use Rattle.snmp_outgoing.specs.declared.counter.Counter.TheVariants.{UnknownSecurityModels, InvalidMsgs, SilentDrops}

-- the name of counter n: 1.3.6.1.6.3.15.1.1.n.0
abbrev pub counter_name : ℕ → List ℕ
counter_name n = 1 ∷ 3 ∷ 6 ∷ 1 ∷ 6 ∷ 3 ∷ 15 ∷ 1 ∷ 1 ∷ n ∷ 0 ∷ []

abbrev pub name_of : Counter → List ℕ
name_of UnknownPduHandlers = 1 ∷ 3 ∷ 6 ∷ 1 ∷ 6 ∷ 3 ∷ 11 ∷ 2 ∷ 1 ∷ 3 ∷ 0 ∷ []
name_of UnavailableContexts = 1 ∷ 3 ∷ 6 ∷ 1 ∷ 6 ∷ 3 ∷ 12 ∷ 1 ∷ 4 ∷ 0 ∷ []
name_of UnknownContexts = 1 ∷ 3 ∷ 6 ∷ 1 ∷ 6 ∷ 3 ∷ 12 ∷ 1 ∷ 5 ∷ 0 ∷ []
name_of InBadVersions = 1 ∷ 3 ∷ 6 ∷ 1 ∷ 2 ∷ 1 ∷ 11 ∷ 3 ∷ 0 ∷ []
name_of InAsnParseErrs = 1 ∷ 3 ∷ 6 ∷ 1 ∷ 2 ∷ 1 ∷ 11 ∷ 6 ∷ 0 ∷ []
name_of UnknownSecurityModels = 1 ∷ 3 ∷ 6 ∷ 1 ∷ 6 ∷ 3 ∷ 11 ∷ 2 ∷ 1 ∷ 1 ∷ 0 ∷ []
name_of InvalidMsgs = 1 ∷ 3 ∷ 6 ∷ 1 ∷ 6 ∷ 3 ∷ 11 ∷ 2 ∷ 1 ∷ 2 ∷ 0 ∷ []
name_of SilentDrops = 1 ∷ 3 ∷ 6 ∷ 1 ∷ 2 ∷ 1 ∷ 11 ∷ 31 ∷ 0 ∷ []

-- its place among them
abbrev pub place_of : Counter → ℕ
place_of UnknownPduHandlers = 0
place_of UnavailableContexts = 1
place_of UnknownContexts = 2
place_of InBadVersions = 3
place_of InAsnParseErrs = 4
place_of UnknownSecurityModels = 5
place_of InvalidMsgs = 6
place_of SilentDrops = 7
