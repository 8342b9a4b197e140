use Rattle.std.proofs.Common.{rules, ◌+◌, ◌≤◌, length, sym, ◌∙◌, subst}
use Rattle.capture_files.specs.declared.packet.Place.{Place}
use Rattle.capture_files.proofs.Walks.{next_near, leads_on}
use Rattle.capture_files.proofs.packet.follow.Goals as goal

pub loop-place-preserved : goal.loop-place-preserved
loop-place-preserved c =
    let inv = c.loop-place.invariant in
    let p = c.loop-place.place in
    let next = c.next_place-place.ensures in
    record {
      leads = leads_on c.args.packet.now p c.next_place-place.result inv.leads
          (record {
            extension = sym c.is_extension.ensures ∙ c.loop-place-test.true;
            there = c.if-place-packet.false;
            not_piece = sym c.is_piece.ensures ∙ c.if-is_piece.false;
          })
          next;
      near = subst (λ (q : Place). q.at ≤ length c.args.packet.now + 2048) (sym next) (next_near c.args.packet.now p (search rules) c.if-place-packet.false);
    }
