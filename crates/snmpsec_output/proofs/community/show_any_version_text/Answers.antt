use Rattle.std.proofs.Common.{◌≡◌, ◌∙◌, sym, ap, Ok, inr}
use Rattle.std.proofs.lemmas.Result.{IfOk-weaker}
use Rattle.hex.specs.Hex.{decode_of}
use Rattle.snmpsec_output.proofs.community.show_any_version_text.Goals as goal

pub returns : goal.returns
returns c =
    let decoded : decode_of c.args.digits.now ≡ Ok c.in-Some.datagram.items = rw c.in-Some.is at c.in_ok-datagram.ensures in
    IfOk-weaker c.show_any_version.result _ _ (λ output shows. inr (record { datagram = c.deref.result.now; decoded = decoded ∙ ap Ok (sym c.deref.ensures.value); shows = shows })) c.show_any_version.ensures
