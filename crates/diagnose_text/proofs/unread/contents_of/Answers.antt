use Rattle.std.proofs.Common.{ap, inl, inr, refl}
use Rattle.std.proofs.lemmas.Result.{IfOk-weaker}
use Rattle.snmp_msg.specs.Pdu.{pdu_of}
use Rattle.diagnose_text.specs.declared.facts.What.TheVariants.{Sealed}
use Rattle.diagnose_text.proofs.Unreads.{is_none_of}
use Rattle.diagnose_text.proofs.unread.contents_of.Goals as goal

pub returns-in-Some : goal.returns-in-Some
returns-in-Some c = IfOk-weaker c.plain_contents.result _ _ (λ read are. inl (pdu_of c.in-Some.pdu, c.in-Some.ensures.some, are)) c.plain_contents.ensures

pub returns-in-None : goal.returns-in-None
returns-in-None c = inr (record { none = c.in-None.ensures.none; what = ap Sealed (is_none_of c.args.told c.is_none.result c.is_none.ensures); request = refl; report = refl })
