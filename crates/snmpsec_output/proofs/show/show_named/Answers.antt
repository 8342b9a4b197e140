use Rattle.std.proofs.Common.{◌≡◌, ◌∙◌, sym, ap, Ok, inr}
use Rattle.std.proofs.lemmas.Result.{IfOk-weaker}
use Rattle.hex.specs.Hex.{decode_of}
use Rattle.snmpsec_output.proofs.show.show_named.Goals as goal

pub returns : goal.returns
returns c =
    let decoded : decode_of c.args.digits.now ≡ Ok c.in-Some.datagram.items = rw c.in-Some.is at c.in_ok-datagram.ensures in
    IfOk-weaker c.show_datagram.result _ _ (λ output told. inr (record { datagram = c.deref.result.now; decoded = decoded ∙ ap Ok (sym c.deref.ensures.value); told = told })) c.show_datagram.ensures
