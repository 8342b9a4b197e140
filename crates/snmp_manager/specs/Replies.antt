-- What an accepted message is to a request (RFC 3412, section 7.2, steps 10 to 12; RFC 3414, section 4).
--
-- `IsAnswer` (RFC 3412, section 7.2). What an accepted message is to what is remembered: its Response,
-- where all of these are the same and the PDU is a Response; a Report on it, where msgID is the same, with
-- the number of the counter that its only binding names, or 0; or neither. `IsReport`: what such a Report
-- tells, of nine counters (`NamesTold`; RFC 3412 section 5, RFC 3413 section 4.1.2), the counter's value
-- where it is a Counter32 (`IsCount`), and whether it came with authentication. `still_waiting`: the
-- request, unless its Response has come.
use Rattle.std.specs.Prelude.{◌≡◌, ◌≢◌, ◌≤◌, ◌⊎◌, ◌↔◌, IsTrue, ℕ, List, [], ◌∷◌, Option, Some, None}
use Rattle.snmp_ber.specs.Number.{IsUnsigned}
use Rattle.snmp_ber.specs.declared.level.Level.TheVariants.{NoAuthNoPriv}
use Rattle.snmp_message.specs.Scoped.{Contexts}
use Rattle.snmp_msg.specs.Variables.{Variable, AreBindings}
use Rattle.snmp_msg.specs.PduTypes.{pdu_tag}
use Rattle.snmp_msg.specs.declared.pdu_type.PduType.TheVariants as types
use Rattle.snmp_msg.specs.Pdu.{PduParts}
use Rattle.snmp_incoming.specs.Outcome.{Given}
use Rattle.snmp_outgoing.specs.Counters.{counter_name, name_of}
use Rattle.snmp_outgoing.specs.declared.counter.Counter.TheVariants.{UnknownPduHandlers, UnavailableContexts}
use Rattle.snmp_outgoing.specs.declared.counter.Counter.TheVariants.{UnknownContexts}
use Rattle.snmp_manager.specs.declared.pending.Pending.{Pending}
use Rattle.snmp_manager.specs.declared.replies.Report.{Report as Told}
use Rattle.snmp_manager.specs.declared.pending.Answer.{Answer}
use Rattle.snmp_manager.specs.declared.pending.Answer.TheVariants.{Response, Report, NotForIt}

-- the Response: what the request was sent with comes back
pub record IsResponseTo (a : Pending) (g : Given) (c : Contexts) (p : PduParts) : Type 0 where
  pub id : g.id ≡ a.id
  pub engine : g.engine ≡ a.engine.items
  pub user : g.user ≡ a.user.items
  pub level : g.level ≡ a.level
  pub context_engine : c.engine ≡ a.context_engine.items
  pub context_name : c.name ≡ a.context_name.items
  pub request_id : p.id ≡ a.request_id
  pub tag : p.tag ≡ pdu_tag types.Response

-- a Report: it has no more in common than msgID
abbrev pub IsReportTo : Pending → Given → PduParts → Type 0
IsReportTo a g p = (g.id ≡ a.id) × (p.tag ≡ pdu_tag types.Report)

-- the only binding names counter n; its value isn't looked at
abbrev pub NamesCounter : List Variable → ℕ → Type 0
NamesCounter vs n = (1 ≤ n) × (n ≤ 6) × ((v : Variable) × (vs ≡ v ∷ []) × (v.name ≡ counter_name n))

-- the number of the counter that is named, or 0 where none is
abbrev pub IsCounterOf : List Variable → ℕ → Type 0
IsCounterOf vs n = NamesCounter vs n ⊎ (((k : ℕ) → NamesCounter vs k → ⊥) × (n ≡ 0))

-- the answer: one of the three
abbrev pub IsAnswer : Pending → Given → Contexts → PduParts → Answer → Type 0
IsAnswer a g c p Response = IsResponseTo a g c p
IsAnswer a g c p (Report n) = IsReportTo a g p × ((vs : List Variable) → AreBindings vs p.list → IsCounterOf vs n)
IsAnswer a g c p NotForIt = (IsResponseTo a g c p → ⊥) × (IsReportTo a g p → ⊥)

-- the name is that of counter n, or n is 0 and it is that of none
abbrev pub IsNameOf : List ℕ → ℕ → Type 0
IsNameOf name n = ((1 ≤ n) × (n ≤ 6) × (name ≡ counter_name n))
    ⊎ (((k : ℕ) → 1 ≤ k → k ≤ 6 → name ≡ counter_name k → ⊥) × (n ≡ 0))

-- ---- what a Report tells

-- the name is that of counter n: usmStats 1 to 6, and 7 to 9 those of messages that nothing handles (RFC
-- 3412, section 5; RFC 3413, section 4.1.2)
abbrev pub NamesTold : List ℕ → ℕ → Type 0
NamesTold name n =
    ((1 ≤ n) × (n ≤ 6) × (name ≡ counter_name n))
    ⊎ (((n ≡ 7) × (name ≡ name_of UnknownPduHandlers))
    ⊎ (((n ≡ 8) × (name ≡ name_of UnavailableContexts)) ⊎ ((n ≡ 9) × (name ≡ name_of UnknownContexts))))

-- the same, or n is 0 and it is that of none
abbrev pub IsToldName : List ℕ → ℕ → Type 0
IsToldName name n = NamesTold name n ⊎ (((k : ℕ) → NamesTold name k → ⊥) × (n ≡ 0))

-- the variable's value, where it is a Counter32 (RFC 2578, section 7.1.6)
abbrev pub IsCount : Variable → Option ℕ → Type 0
IsCount v (Some value) = (v.tag ≡ 65) × IsUnsigned 4 value v.content
IsCount v None = v.tag ≡ 65 → (value : ℕ) → IsUnsigned 4 value v.content → ⊥

-- of the only binding the number by its name, and its value; of another list 0 and none
abbrev pub TellsCounter : List Variable → ℕ → Option ℕ → Type 0
TellsCounter vs n value =
    ((v : Variable) × (vs ≡ v ∷ []) × IsToldName v.name n × IsCount v value)
    ⊎ (((v : Variable) → vs ≡ v ∷ [] → ⊥) × (n ≡ 0) × (value ≡ None))

-- what the message tells, where it is a Report on the request; it was authenticated exactly where its level
-- has authentication
abbrev pub IsReport : Pending → Given → PduParts → Option Told → Type 0
IsReport a g p None = IsReportTo a g p → ⊥
IsReport a g p (Some told) =
    IsReportTo a g p × ((vs : List Variable) → AreBindings vs p.list → TellsCounter vs told.counter told.value)
    × (IsTrue told.authenticated ↔ (g.level ≢ NoAuthNoPriv))

-- ---- what still waits

-- the request, unless its Response has come
abbrev pub still_waiting : Answer → Pending → Option Pending
still_waiting Response a = None
still_waiting (Report n) a = Some a
still_waiting NotForIt a = Some a
