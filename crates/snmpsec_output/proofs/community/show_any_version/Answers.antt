use Rattle.std.proofs.Common.{inl, inr}
use Rattle.std.proofs.lemmas.Result.{IfOk-weaker}
use Rattle.snmp_community.specs.Message.{parts}
use Rattle.snmpsec_output.proofs.Communities.{other_version, fault_parts}
use Rattle.snmpsec_output.proofs.Printed.{of_three, of_four, other}
use Rattle.snmpsec_output.proofs.community.show_any_version.Goals as goal

pub returns-in-BadVersion : goal.returns-in-BadVersion
returns-in-BadVersion c =
    let other = other_version c.args.datagram.now _ c.in-Err.refused.at c.in-BadVersion.is c.in-Err.ensures.exact in
    IfOk-weaker c.show_datagram.result _ _ (λ output shows. inr (inr (other, shows))) c.show_datagram.ensures

pub returns-in_default : goal.returns-in_default
returns-in_default c =
    let e = c.refused_output.ensures in
    let cause = fault_parts c.args.datagram.now _ c.in-Err.refused.at c.in_default.not-BadVersion c.in-Err.ensures.exact in
    of_three c.refused_output.result (λ output out err status. inr (inl (record { refused = c.in-Err.refused; cause = inl cause; out = out; err = err; status = status })))
    e.line e.err e.status

pub returns-in-Err-community_text : goal.returns-in-Err-community_text
returns-in-Err-community_text c =
    let e = c.refused_output-in-Err-community_text.ensures in
    of_four c.refused_output-in-Err-community_text.result
    (λ output no_memory out err status. inr (inl (record {
      refused = c.in-Err-community_text.refused;
      cause = inr (parts c.in-Ok.message, c.in-Ok.ensures.exact, other c.in-Err-community_text.ensures no_memory);
      out = out;
      err = err;
      status = status;
    })))
    e.no_memory e.line e.err e.status
