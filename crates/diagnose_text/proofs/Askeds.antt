-- What `==` says of what was asked.
use Rattle.std.proofs.Common.{◌≡◌, ◌&&◌, true, eqb, arith, rules}
use Rattle.std.proofs.lemmas.Grind.{common_steps}
use Rattle.std.specs.Option.{option_eq}
use Rattle.capture_files.specs.contracts.endpoints.RoutePartialEq.TheImpl.{eq-value}
use Rattle.diagnose_exchanges.specs.declared.asked.Asked.{Asked}

pub same_asked : (a b : Asked) → (option_eq eq-value.it a.route b.route && eqb a.id b.id) ≡ true → a ≡ b
same_asked a b h = first_of (search rules, grind (arith, common_steps))
