use Rattle.std.proofs.Common.{ℕ, List, subst, ◌∙◌, arith}
use Rattle.std.specs.Prelude.{string_bytes, IfOk}
use Rattle.engine_clock.specs.Saved.{Saves}
use Rattle.engine_clock.specs.Faults.{IsFaultOf}
use Rattle.snmpsec_output.specs.Merge.{TellsFault}
use Rattle.snmpsec_output.proofs.Merges.{stands_at, if_told, all_merged}
use Rattle.snmpsec_output.proofs.merge.merge_text.Goals as goal

pub returns-in-Err : goal.returns-in-Err
returns-in-Err c =
    let at = stands_at (λ file. (string_bytes file.0, file.1.items)) c.args.files.now c.loop-file.file-index c.file-item.result c.file-item.is (omega arith) in
    let fault = subst (λ (text : List ℕ). IsFaultOf c.args.moment text c.in-Err.fault) c.deref.ensures.value c.in-Err.ensures.fault in
    let tells = subst (λ (name : List ℕ). IfOk c.refused_clocks.result (λ output. TellsFault name c.in-Err.fault (record { out = output.out.items; err = output.err.items; status = output.status }))) c.deref-in-Err.ensures c.refused_clocks.ensures in
    if_told c.refused_clocks.result (λ output. record { out = output.out.items; err = output.err.items; status = output.status }) c.args.moment _ c.loop-file.file-index _ c.loop-file.joined c.in-Err.fault at c.loop-file.invariant fault tells

pub loop-file-preserved : goal.loop-file-preserved
loop-file-preserved c =
    let at = stands_at (λ file. (string_bytes file.0, file.1.items)) c.args.files.now c.loop-file.file-index c.file-item.result c.file-item.is (omega arith) in
    let read = c.in-Ok.ensures.read in
    let value = c.deref.ensures.value in
    rw at.taken (c.absorbing_each_text_merges.ensures.one_more c.args.moment _ _ c.loop-file.joined c.in-Ok.clocks c.absorb.new.self c.loop-file.invariant (subst (λ (text : List ℕ). Saves c.args.moment text c.in-Ok.clocks) value read) c.in_ok-absorb.ensures.marks)

pub returns : goal.returns
returns c =
    all_merged c.args.moment (λ file. (string_bytes file.0, file.1.items)) c.args.files.now c.loop-file.file-index (record { out = c.out.result.out.items; err = c.out.result.err.items; status = c.out.result.status }) c.loop-file-test.false c.out.ensures.status c.out.ensures.err (c.absorbing_each_text_merges.ensures.saved c.args.moment _ c.loop-file.joined _ c.loop-file.invariant c.save.ensures.fits (c.out.ensures.out ∙ c.in_ok-save.ensures.text))
