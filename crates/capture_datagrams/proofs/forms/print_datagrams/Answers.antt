use Rattle.std.proofs.Common.{◌<◌, length, take, sym, ◌∙◌, inl, inr, arith, length-take-le}
use Rattle.std.proofs.lemmas.Result.{IfOk-weaker, IfErr-weaker}
use Rattle.capture_datagrams.proofs.Beginnings.{form_tells}
use Rattle.capture_datagrams.proofs.forms.print_datagrams.Goals as goal

pub returns-then-is_capture-clause-ok : goal.returns-then-is_capture-clause-ok
returns-then-is_capture-clause-ok g c =
    let room = c.in-Ok.ensures.room in
    let bound = c.in-Ok.ensures.bound in
    let long = length-take-le c.in-Ok.count c.read_full.new.buf bound in
    let end = λ (short : length (take c.in-Ok.count c.read_full.new.buf) < 24). c.in-Ok.ensures.end (omega (arith, short, long, room)) in
    IfOk-weaker c.datagrams_behind.result _ _ (λ status t. inl (form_tells c.args.asked.form _ _ _ _ c.in-Ok.ensures.ok end (sym c.if-is_capture.true ∙ c.is_capture.ensures), t))
    (c.datagrams_behind.ensures.ok _ c.in-Ok.ensures.ok)

pub returns-then-is_capture-clause-err : goal.returns-then-is_capture-clause-err
returns-then-is_capture-clause-err g c =
    let room = c.in-Ok.ensures.room in
    let bound = c.in-Ok.ensures.bound in
    let long = length-take-le c.in-Ok.count c.read_full.new.buf bound in
    let end = λ (short : length (take c.in-Ok.count c.read_full.new.buf) < 24). c.in-Ok.ensures.end (omega (arith, short, long, room)) in
    IfErr-weaker c.datagrams_behind.result _ _ (λ fault t. inr (inl (form_tells c.args.asked.form _ _ _ _ c.in-Ok.ensures.ok end (sym c.if-is_capture.true ∙ c.is_capture.ensures), t)))
    (c.datagrams_behind.ensures.err _ c.in-Ok.ensures.ok)

pub returns-else-is_capture-clause-ok : goal.returns-else-is_capture-clause-ok
returns-else-is_capture-clause-ok g c =
    let room = c.in-Ok.ensures.room in
    let bound = c.in-Ok.ensures.bound in
    let long = length-take-le c.in-Ok.count c.read_full.new.buf bound in
    let end = λ (short : length (take c.in-Ok.count c.read_full.new.buf) < 24). c.in-Ok.ensures.end (omega (arith, short, long, room)) in
    IfOk-weaker c.write_text.result _ _ (λ status t. inr (form_tells c.args.asked.form _ _ _ _ c.in-Ok.ensures.ok end (sym c.if-is_capture.false ∙ c.is_capture.ensures), t))
    (c.write_text.ensures.ok _ c.in-Ok.ensures.ok)

pub returns-else-is_capture-clause-err : goal.returns-else-is_capture-clause-err
returns-else-is_capture-clause-err g c =
    let room = c.in-Ok.ensures.room in
    let bound = c.in-Ok.ensures.bound in
    let long = length-take-le c.in-Ok.count c.read_full.new.buf bound in
    let end = λ (short : length (take c.in-Ok.count c.read_full.new.buf) < 24). c.in-Ok.ensures.end (omega (arith, short, long, room)) in
    IfErr-weaker c.write_text.result _ _ (λ fault t. inr (inr (form_tells c.args.asked.form _ _ _ _ c.in-Ok.ensures.ok end (sym c.if-is_capture.false ∙ c.is_capture.ensures), t)))
    (c.write_text.ensures.err _ c.in-Ok.ensures.ok)
