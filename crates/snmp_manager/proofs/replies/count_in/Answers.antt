use Rattle.std.proofs.Common.{◌≡◌, rules}
use Rattle.snmp_msg.specs.Variables.{variable_of}
use Rattle.snmp_manager.proofs.Reports.{count_is}
use Rattle.snmp_manager.proofs.replies.count_in.Goals as goal

pub returns : goal.returns
returns c =
    let tag : c.args.binding.now.tag ≡ 65 = search rules in
    count_is (variable_of c.args.binding.now) c.read_unsigned.result tag c.read_unsigned.ensures
