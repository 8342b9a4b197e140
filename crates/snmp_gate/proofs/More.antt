-- What is known of a dialogue stays known as the device tells more.
use Rattle.std.specs.Prelude.{ℕ, List, All, Contains, slice_index_or}
use Rattle.std.proofs.Common.{inl, inr}
use Rattle.std.proofs.lemmas.List.Elements.{All-contains, All-weaker, Contains-get_or}
use Rattle.snmp_msg.specs.Variables.{Variable}
use Rattle.vacm_core.specs.Tables.{Tables}
use Rattle.snmp_responder.specs.Instrumentation.{Known}
use Rattle.snmp_walk.specs.BulkColumn.{BulkStands, IsGiven, given_in, last_name}
use Rattle.snmp_walk.specs.Column.{IsAtEnd, Stands, StandsAt, StandsIn, StandsInGet, StandsInWalk}
use Rattle.snmp_walk.specs.declared.bulk_column.BulkColumn.{BulkColumn}
use Rattle.snmp_walk.specs.declared.column.Column.{Column}
use Rattle.snmp_walk.specs.declared.column.Progress.{Progress}
use Rattle.snmp_walk.specs.declared.column.Progress.TheVariants.{Asked, Ended, Given, Hidden, Wanting}
use Rattle.snmp_walk.specs.declared.operation.ReadOperation.{ReadOperation}
use Rattle.snmp_walk.specs.declared.operation.ReadOperation.TheVariants.{Get, GetNext}
use Rattle.snmp_gate.specs.Messages.{seen_in}
use Rattle.snmp_gate.specs.Question.{Question}
use Rattle.snmp_gate.specs.Said.{AreTrue, Exchange, IsTrueExchange, Said}
use Rattle.snmp_gate.specs.Work.{TaskStands}
use Rattle.snmp_gate.specs.declared.task.Task.{Task}
use Rattle.snmp_gate.specs.declared.task.Task.TheVariants as task

-- one list has all that the other has
abbrev HasVariables : List Variable → List Variable → Type 0
HasVariables told more = (v : Variable) → Contains told v → Contains more v

pub record HasAll (told more : Said) : Type 0 where
  pub variables : HasVariables told.variables more.variables
  pub exchanges : (e : Exchange) → Contains told.exchanges e → Contains more.exchanges e

-- what is true of all is true of these
fewer_true : (device : Known) (told more : Said) → HasAll told more → AreTrue device more → AreTrue device told
fewer_true device told more has truly k d within =
    All-contains (IsTrueExchange device) more.exchanges (slice_index_or told.exchanges k d) truly (has.exchanges (slice_index_or told.exchanges k d) (Contains-get_or told.exchanges k d within))

module _ (Seen : List ℕ → Type 0) (told more : List Variable) (has : HasVariables told more) where
  at_more : (first name : List ℕ) → StandsAt first told name → StandsAt first more name
  at_more first name at = record {
    place = elim at.place [ inl same ↦ inl same | inr (v, there, is) ↦ inr (v, has v there, is) ];
    upto = at.upto;
  }

  end_more : (first : List ℕ) → IsAtEnd Seen told first → IsAtEnd Seen more first
  end_more first (inl (from, at, none)) = inl (from, at_more first from at, none)
  end_more first (inr (v, there, is)) = inr (v, has v there, is)

  get_more : (first : List ℕ) (p : Progress) → StandsInGet Seen told first p → StandsInGet Seen more first p
  get_more first (Wanting from) is = is
  get_more first (Asked ask) is = is
  get_more first (Given g) is = (is.0, is.1, is.2, has _ is.3)
  get_more first Hidden is = is
  get_more first Ended is = is

  walk_more : (first : List ℕ) (p : Progress) → StandsInWalk Seen told first p → StandsInWalk Seen more first p
  walk_more first (Wanting from) is = at_more first from is
  walk_more first (Asked ask) is = (at_more first ask.from is.0, is.1)
  walk_more first (Given g) is = (is.0, is.1, is.2, has _ is.3)
  walk_more first Hidden is = is
  walk_more first Ended is = end_more first is

  in_more : (o : ReadOperation) (first : List ℕ) (p : Progress) → StandsIn Seen told o first p → StandsIn Seen more o first p
  in_more Get first p is = get_more first p is
  in_more GetNext first p is = walk_more first p is

  given_more : (v : Variable) → IsGiven Seen told v → IsGiven Seen more v
  given_more v is = record { seen = is.seen; value = is.value; there = has v is.there }

  pub columns_more : (cs : List Column) → All (Stands Seen told) cs → All (Stands Seen more) cs
  columns_more cs all = All-weaker (Stands Seen told) (Stands Seen more) (λ c is. in_more c.operation c.first c.progress is) cs all

  pub bulk_more : (cs : List BulkColumn) → All (BulkStands Seen told) cs → All (BulkStands Seen more) cs
  bulk_more cs all = All-weaker (BulkStands Seen told) (BulkStands Seen more) (λ c is. record {
    ascends = is.ascends;
    are_given = All-weaker (IsGiven Seen told) (IsGiven Seen more) given_more (given_in c) is.are_given;
    walk = walk_more (last_name c.first (given_in c)) c.progress is.walk;
  }) cs all

pub task_more : (tables : Tables) (q : Question) (told more : Said) (t : Task) → HasAll told more → TaskStands tables q told t → TaskStands tables q more t
task_more tables q told more (task.Read operation d) has stands = record {
  tag = stands.tag;
  requests_are = stands.requests_are;
  stand = columns_more (seen_in tables q) told.variables more.variables has.variables d.columns.items stands.stand;
  tracks = λ device plain truly. stands.tracks device plain (fewer_true device told more has truly);
}
task_more tables q told more (task.Bulk by d) has stands =
    let known = stands.dialogue in record {
      dialogue = record {
        tag = known.tag;
        first = known.first;
        most = known.most;
        requests_are = known.requests_are;
        few = known.few;
        stand = bulk_more (seen_in tables q) told.variables more.variables has.variables d.columns.items known.stand;
        tracks = λ device plain truly. known.tracks device plain (fewer_true device told more has truly);
      };
      asked = stands.asked;
    }
task_more tables q told more task.Set has stands = stands
