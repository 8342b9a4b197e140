-- What a device may be asked: the law inwards, for the columns of a dialogue.
use Rattle.std.specs.Prelude.{◌≡◌, ◌⊎◌, ◌∷◌, ℕ, List, [], All, Contains, map, slice_index_or}
use Rattle.std.specs.List.{flat_map}
use Rattle.std.proofs.Common.{refl, inl, inr, sym, subst}
use Rattle.std.proofs.lemmas.List.Elements.{All-append, All-cons, All-head, All-nil, All-tail, Contains-get_or}
use Rattle.snmp_msg.specs.Variables.{Variable, variables_of}
use Rattle.vacm_core.specs.Tables.{Tables}
use Rattle.snmp_walk.specs.BulkColumn.{bulk_request}
use Rattle.snmp_walk.specs.BulkDialogue.{bulk_requests_of}
use Rattle.snmp_walk.specs.BulkRun.{BulkAsksWell}
use Rattle.snmp_walk.specs.Column.{Asks, MayAsk}
use Rattle.snmp_walk.specs.Dialogue.{request, requests_of}
use Rattle.snmp_walk.specs.Run.{AsksWell}
use Rattle.snmp_walk.specs.declared.bulk_column.BulkColumn.{BulkColumn}
use Rattle.snmp_walk.specs.declared.column.Column.{Column}
use Rattle.snmp_walk.specs.declared.column.Progress.{Progress}
use Rattle.snmp_walk.specs.declared.column.Progress.TheVariants.{Asked, Ended, Given, Hidden, Wanting}
use Rattle.snmp_walk.specs.declared.operation.ReadOperation.{ReadOperation}
use Rattle.snmp_walk.specs.declared.operation.ReadOperation.TheVariants.{GetNext}
use Rattle.snmp_msg.specs.declared.pdu_type.PduType.TheVariants.{GetBulkRequest, GetNextRequest}
use Rattle.snmp_walk.specs.declared.bulk_ask.BulkAsk.{BulkAsk}
use Rattle.snmp_walk.specs.declared.bulk_ask.BulkAsk.TheVariants as by
use Rattle.snmp_gate.specs.Said.{Said}
use Rattle.snmp_gate.specs.History.{MayAskName}
use Rattle.snmp_gate.specs.Messages.{seen_in}
use Rattle.snmp_gate.specs.Question.{Question}
use Rattle.snmp_gate.specs.ReadAsks.{bulk_type, bulk_variables_asked, unspecified, variables_asked, variables_in}
use Rattle.snmp_gate.proofs.Telling.{contains_map, from_map, named_in}

all_flat : {X A : Type 0} (f : X → List A) (Q : A → Type 0) (xs : List X) → All (λ x. All Q (f x)) xs → All Q (flat_map f xs)
all_flat f Q [] all = All-nil Q
all_flat f Q (x ∷ xs) all = All-append Q (f x) (flat_map f xs) (All-head (λ y. All Q (f y)) x xs all) (all_flat f Q xs (All-tail (λ y. All Q (f y)) x xs all))

-- the variable that a column asks, if what it asks may be asked
one_asked : (Q : Variable → Type 0) (p : Progress) → ((name : List ℕ) → Asks p name → Q (unspecified name)) → All Q (variables_in p)
one_asked Q (Asked ask) may = All-cons Q (unspecified ask.name) [] (may ask.name refl) (All-nil Q)
one_asked Q (Wanting from) may = All-nil Q
one_asked Q (Given given) may = All-nil Q
one_asked Q Hidden may = All-nil Q
one_asked Q Ended may = All-nil Q

pub columns_ask : (tables : Tables) (q : Question) (told : Said) (o : ReadOperation) (cs : List Column) → map request cs ≡ requests_of o (variables_of q.list) → All (AsksWell (seen_in tables q) told.variables) cs
    → All (MayAskName q tables told o) (variables_asked cs)
columns_ask tables q told o cs same all =
    all_flat (λ (c : Column). variables_in c.progress) (MayAskName q tables told o) cs
    (λ k d within.
    let c = slice_index_or cs k d in
    let named = from_map (λ (v : Variable). (o, v.name)) (variables_of q.list) (request c) (subst (λ (rs : List (ReadOperation × List ℕ)). Contains rs (request c)) same (contains_map request cs c (Contains-get_or cs k d within))) in
    one_asked (MayAskName q tables told o) c.progress (λ name asks. record {
      request = named.0;
      is_request = named.1;
      may = subst (λ (r : ReadOperation × List ℕ). MayAsk (seen_in tables q) told.variables r.0 r.1 name) (sym named.2) (all k d within name asks);
    }))

pub bulk_columns_ask : (tables : Tables) (q : Question) (told : Said) (n m : ℕ) (cs : List BulkColumn) → map bulk_request cs ≡ bulk_requests_of n m (variables_of q.list) → All (BulkAsksWell (seen_in tables q) told.variables) cs
    → All (MayAskName q tables told GetNext) (bulk_variables_asked cs)
bulk_columns_ask tables q told n m cs same all =
    all_flat (λ (c : BulkColumn). variables_in c.progress) (MayAskName q tables told GetNext) cs
    (λ k d within.
    let c = slice_index_or cs k d in
    let named = named_in n m (variables_of q.list) (bulk_request c) (subst (λ (rs : List (List ℕ × ℕ)). Contains rs (bulk_request c)) same (contains_map bulk_request cs c (Contains-get_or cs k d within))) in
    one_asked (MayAskName q tables told GetNext) c.progress (λ name asks. record {
      request = named.0;
      is_request = named.1;
      may = subst (λ (first : List ℕ). MayAsk (seen_in tables q) told.variables GetNext first name) (sym named.2) (all k d within name asks);
    }))

pub type_asked : (by : BulkAsk) → (bulk_type by ≡ GetNextRequest) ⊎ (bulk_type by ≡ GetBulkRequest)
type_asked by.GetNext = inl refl
type_asked (by.GetBulk singles repetitions) = inr refl
