use Rattle.std.proofs.Common.{rules, ◌≡◌, ◌∷◌, ◌++◌, [], ap, sym, ◌∙◌, Some, arith, subst, append-nil}
use Rattle.std.proofs.lemmas.Grind.{common_steps}
use Rattle.capture_dumps.specs.Text.{AreParts}
use Rattle.capture_dumps.proofs.Parts.{reads_on, not_at_end, begins_hex, stops, told}
use Rattle.capture_dumps.proofs.text.read_hex.Goals as goal

pub overflow_add-read : goal.overflow_add-read
overflow_add-read c =
    let i = c.loop-read.invariant in
    let on = reads_on c.args.text.now c.loop-read.octets.items c.loop-read.read i.are.0 _ i.are.1 i.within (sym (ap Some c.in-Some-Gap.field-0-is) ∙ c.in-Some-Gap.ensures) in
    let w = on.within in
    search (rules, w)

pub loop-read-smaller-in-Some-Gap : goal.loop-read-smaller-in-Some-Gap
loop-read-smaller-in-Some-Gap c =
    let i = c.loop-read.invariant in
    let on = reads_on c.args.text.now c.loop-read.octets.items c.loop-read.read i.are.0 _ i.are.1 i.within (sym (ap Some c.in-Some-Gap.field-0-is) ∙ c.in-Some-Gap.ensures) in
    let w = on.within in
    let s = on.some in
    omega (arith, w, s)

pub loop-read-preserved-in-Some-Gap : goal.loop-read-preserved-in-Some-Gap
loop-read-preserved-in-Some-Gap c =
    let i = c.loop-read.invariant in
    let on = reads_on c.args.text.now c.loop-read.octets.items c.loop-read.read i.are.0 _ i.are.1 i.within (sym (ap Some c.in-Some-Gap.field-0-is) ∙ c.in-Some-Gap.ensures) in
    record { are = (on.are.0, subst (AreParts on.are.0 _) (append-nil _) on.are.1); within = on.within }

pub returns-then-is_err-clause-err : goal.returns-then-is_err-clause-err
returns-then-is_err-clause-err c =
    let i = c.loop-read.invariant in
    begins_hex _ _ _ _ _ (reads_on c.args.text.now c.loop-read.octets.items c.loop-read.read i.are.0 _ i.are.1 i.within (sym (ap Some c.in-Some-Octet.field-0-is) ∙ c.in-Some-Octet.ensures))

pub loop-read-preserved : goal.loop-read-preserved
loop-read-preserved c =
    let i = c.loop-read.invariant in
    let on = reads_on c.args.text.now c.loop-read.octets.items c.loop-read.read i.are.0 _ i.are.1 i.within (sym (ap Some c.in-Some-Octet.field-0-is) ∙ c.in-Some-Octet.ensures) in
    let items : c.push.new.self.items ≡ c.loop-read.octets.items ++ c.in-Some-Octet.octet ∷ [] = grind (arith, common_steps) in
    record { are = (on.are.0, subst (AreParts on.are.0 _) (sym items) on.are.1); within = on.within }

pub returns-in-None-clause-err : goal.returns-in-None-clause-err
returns-in-None-clause-err c =
    let i = c.loop-read.invariant in
    let below = c.loop-read-test.true in
    told _ _ c.fault_behind.result
    (λ line column behind. stops c.args.text.now c.loop-read.octets.items c.loop-read.read i.are.0 line column i.are.1 c.in-None.ensures (not_at_end c.args.text.now c.loop-read.octets.items c.loop-read.read below) behind) c.fault_behind.ensures
