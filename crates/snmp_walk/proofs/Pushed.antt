-- A list of columns with one more.
use Rattle.std.specs.Prelude.{◌≡◌, List, [], ◌∷◌, ◌++◌, map}
use Rattle.std.proofs.Common.{refl, sym, ap, ◌∙◌}
use Rattle.snmp_msg.specs.Variables.{Variable}
use Rattle.snmp_walk.specs.Dialogue.{request, requests_of}
use Rattle.snmp_walk.specs.declared.operation.ReadOperation.{ReadOperation}
use Rattle.snmp_walk.specs.declared.column.Column.{Column}

pub map_push : {A B : Type 0} (f : A → B) (xs : List A) (x : A) → map f (xs ++ x ∷ []) ≡ map f xs ++ f x ∷ []
map_push f [] x = refl
map_push f (y ∷ ys) x = ap (λ zs. f y ∷ zs) (map_push f ys x)

-- The columns are for the bindings, also with one more of each.
pub pushed : (cs : List Column) (c : Column) (o : ReadOperation) (vs : List Variable) (v : Variable) → map request cs ≡ requests_of o vs → c.operation ≡ o → c.first ≡ v.name → map request (cs ++ c ∷ []) ≡ requests_of o (vs ++ v ∷ [])
pushed cs c o vs v same operation first =
    map_push request cs c ∙ (λ i. same i ++ (operation i, first i) ∷ []) ∙ sym (map_push (λ (w : Variable). (o, w.name)) vs v)
