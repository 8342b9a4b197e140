use Rattle.std.proofs.Common.{◌≡◌, ◌++◌, take}
use Rattle.std.specs.List.{flat_map, enumerate_from}
use Rattle.snmpsec_access.specs.Hints.{all_told, user_hints}
use Rattle.snmpsec_access.specs.Known.{users_of, rows_of}
use Rattle.snmpsec_access.proofs.row_hints.put_users.Given as goal

abbrev pub invariant-loop-position : goal.invariant-loop-position
invariant-loop-position l = all_told l.hints.items ≡ all_told l.fn.hints.items ++ flat_map (user_hints (rows_of l.known)) (take l.position (enumerate_from 0 (users_of l.known)))
