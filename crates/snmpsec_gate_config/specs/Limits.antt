-- The least, the greatest and the default of each limit. Times are in milliseconds, sizes in octets.
--
-- A device takes messages of at least 484 octets (RFC 3417, section 3.2), and no UDP datagram over IPv4 holds more than
-- 65507.
use Rattle.snmpsec_gate_config.specs.declared.table.LimitKey.{LimitKey}
use Rattle.snmpsec_gate_config.specs.declared.table.LimitKey.TheVariants as limits
use Rattle.snmpsec_gate_config.specs.declared.limit.Limit.{Limit}

abbrev pub limit_of : LimitKey → Limit
limit_of limits.Waiting = record { least = 1; most = 65535; default = 1024 }
limit_of limits.Rounds = record { least = 1; most = 65535; default = 64 }
limit_of limits.Again = record { least = 1; most = 60000; default = 1000 }
limit_of limits.Tries = record { least = 1; most = 100; default = 3 }
limit_of limits.Last = record { least = 1; most = 60000; default = 5000 }
limit_of limits.Gather = record { least = 0; most = 60000; default = 500 }
limit_of limits.WaitingPerDevice = record { least = 1; most = 65535; default = 256 }
limit_of limits.Repetitions = record { least = 1; most = 65535; default = 32 }
limit_of limits.MaxSize = record { least = 484; most = 65507; default = 65507 }
limit_of limits.AtOnce = record { least = 1; most = 1024; default = 32 }
