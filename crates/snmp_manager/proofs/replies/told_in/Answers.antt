use Rattle.std.proofs.Common.{◌≡◌, [], ◌∷◌, inl, rules}
use Rattle.snmp_msg.specs.Variables.{variable_of, bindings_left}
use Rattle.snmp_manager.specs.Replies.{IsToldName}
use Rattle.snmp_manager.proofs.replies.told_in.Goals as goal

pub returns : goal.returns
returns c = λ vs are.
    let all : bindings_left c.bindings-bindings.result ≡ vs = c.bindings-bindings.ensures.all vs are in
    let one : vs ≡ variable_of c.in-Some.binding ∷ [] = search rules in
    let named : IsToldName c.in-Some.binding.name c.told_name.result = rw c.as_slice.ensures.value at c.told_name.ensures in
    inl (variable_of c.in-Some.binding, one, named, c.count_in.ensures)
