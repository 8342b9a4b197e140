use Rattle.std.proofs.Common.{sym, subst, ◌∙◌, All, List, [], ◌∷◌, ◌++◌, take}
use Rattle.std.specs.List.{AllZip}
use Rattle.std.proofs.lemmas.List.{take_all, take_more}
use Rattle.std.proofs.lemmas.Slice.Zip.{all_zipped_more}
use Rattle.snmp_responder.specs.Code.{seen_by}
use Rattle.snmp_walk.specs.Column.{Stands}
use Rattle.snmp_walk.specs.Dialogue.{IsShown, Shows}
use Rattle.snmp_walk.specs.declared.column.Column.{Column}
use Rattle.snmp_walk.proofs.dialogue.Dialogue.bindings.Goals as goal

pub loop-column-preserved : goal.loop-column-preserved
loop-column-preserved c =
    let items = c.deref-column-items.result.now in
    let i = c.loop-column.column-index in
    let column = c.column-item.result in
    let inv = c.loop-column.invariant in
    record {
      shown =
          subst (λ (cs : List Column). AllZip IsShown cs c.push.new.self.items) (sym (take_more items i column c.loop-column-test.true))
          (subst (λ (x : Column). AllZip IsShown (take i items ++ x ∷ []) c.push.new.self.items) c.column-item.is
          (rw c.in_ok-push.ensures.items (all_zipped_more IsShown (take i items) c.loop-column.bindings.items column c.in-Some.binding inv.shown c.in-Some.ensures.shown)));
      outwards = λ viewer told all.
          subst (λ (cs : List Column). AllZip (Shows (seen_by viewer) told) cs c.push.new.self.items) (sym (take_more items i column c.loop-column-test.true))
          (subst (λ (x : Column). AllZip (Shows (seen_by viewer) told) (take i items ++ x ∷ []) c.push.new.self.items) c.column-item.is
          (rw c.in_ok-push.ensures.items (all_zipped_more (Shows (seen_by viewer) told) (take i items) c.loop-column.bindings.items column c.in-Some.binding (inv.outwards viewer told all)
          (c.in-Some.ensures.outwards viewer told (subst (Stands (seen_by viewer) told) (sym c.column-item.is) (all i column c.loop-column-test.true))))));
    }

pub returns : goal.returns
returns c = record {
  shown =
      let items = c.deref-column-items.result.now in
      subst (λ (cs : List Column). AllZip IsShown cs c.loop-column.bindings.items) (take_all c.loop-column.column-index items c.loop-column-test.false ∙ c.deref-column-items.ensures.value)
      c.loop-column.invariant.shown;
  outwards = λ viewer told all.
      let value = c.deref-column-items.ensures.value in
      let items = c.deref-column-items.result.now in
      subst (λ (cs : List Column). AllZip (Shows (seen_by viewer) told) cs c.loop-column.bindings.items) (take_all c.loop-column.column-index items c.loop-column-test.false ∙ value)
      (c.loop-column.invariant.outwards viewer told (subst (λ (cs : List Column). All (Stands (seen_by viewer) told) cs) (sym value) all));
}
