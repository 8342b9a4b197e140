use Rattle.std.proofs.Common.{[], ◌∷◌, ap, subst}
use Rattle.diagnose_text.specs.Datagrams.{seen_as}
use Rattle.diagnose_text.specs.Printing.{Writes}
use Rattle.diagnose_text.proofs.Writings.{other_writes, writes_anywhere, writes_then}
use Rattle.diagnose_text.proofs.diagnoser.Diagnoser.print_datagram.Goals as goal

pub returns : goal.returns
returns c =
    let line = c.in_ok-line.line in
    let one = seen_as line c.args.datagram.now c.in_ok-take.ensures.0 ∷ [] in
    let s = c.args.self.now in
    let noted = c.line_of.new.self in
    let taken = c.take.new.self in
    let printed = c.print_finished.new.self in
    let told = c.print_limit.new.self in
    let start = c.new-text.result.items in
    let text = c.print_finished.new.out.items in
    let first : Writes [] s [] noted [] = other_writes s noted c.in_ok-line.ensures.follower (ap (λ r. r.options) c.in_ok-line.ensures.report) (ap (λ r. r.failed) c.in_ok-line.ensures.report) in
    let third : Writes [] taken [] printed text = subst (λ t. Writes [] taken t printed text) c.new-text.ensures.items c.in_ok-print_finished.ensures in
    let fourth : Writes [] printed text told text = writes_anywhere [] printed told text c.in_ok-print_limit.ensures.writes in (
      text,
      c.in_ok-print_limit.ensures.limit.0,
      c.in_ok-print_limit.ensures.limit.1,
      (
        line,
        c.in_ok-take.ensures.0,
        c.in_ok-line.ensures.line,
        writes_then one [] s printed told [] text text (writes_then one [] s taken printed [] [] text (writes_then [] one s noted taken [] [] [] first c.in_ok-take.ensures.1) third) fourth,
      ),
    )
