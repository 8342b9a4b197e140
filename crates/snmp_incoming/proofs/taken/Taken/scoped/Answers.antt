use Rattle.std.proofs.Common.{sym, subst, List, ℕ, length}
use Rattle.snmp_message.specs.Scoped.{ScopedFront, StandsWithin, contexts_of, contexts_there}
use Rattle.snmp_message.proofs.Scopeds.{scoped_front_in-is}
use Rattle.snmp_incoming.specs.Texts.{text_of}
use Rattle.snmp_incoming.proofs.taken.Taken.scoped.Goals as goal

pub lent-requires : goal.lent-requires
lent-requires c = subst (λ (text : List ℕ). StandsWithin (length text) c.args.self.now.contexts) (sym c.as_slice.ensures) c.args.self.now.contexts_stand.1

pub returns : goal.returns
returns c =
    let t = c.args.self.now in
    let text = c.as_slice.result.now in
    let there = subst (λ (x : List ℕ). ScopedFront x (contexts_there x t.contexts)) (sym c.as_slice.ensures) (scoped_front_in-is (text_of t.text) (contexts_there (text_of t.text) t.contexts) t.contexts_stand.0) in
    subst (λ (x : List ℕ). ScopedFront x (contexts_of c.lent.result)) c.as_slice.ensures
    (rw (c.lent.ensures.engine, c.lent.ensures.name, c.lent.ensures.pdu, c.lent.ensures.data_at) there)
