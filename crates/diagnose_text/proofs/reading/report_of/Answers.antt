use Rattle.std.proofs.Common.{rules, ◌≡◌, [], None, refl, subst, sym}
use Rattle.snmp_msg.specs.Variables.{variables_of}
use Rattle.diagnose_text.specs.Facts.{IsReport}
use Rattle.diagnose_text.specs.declared.facts.Says.TheVariants.{Report}
use Rattle.diagnose_text.proofs.reading.report_of.Goals as goal

pub returns-in_ok-from_str-in-None : goal.returns-in_ok-from_str-in-None
returns-in_ok-from_str-in-None c =
    let none : variables_of c.args.pdu.now.list.now ≡ [] = search rules in
    subst (λ vs. IsReport vs (Report c.in_ok-from_str-in-None.field-0 None)) (sym none) (c.in_ok-from_str-in-None.field-0, refl)
