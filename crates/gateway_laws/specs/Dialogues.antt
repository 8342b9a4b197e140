-- Dialogues with a device that answers as RFC 3416 says.
--
-- `AnswersTruly`: what the device answers in a step. `IsTrueRun`: it does so in each step of a dialogue.
-- `AreGot`: what names are answered with in a GetRequest.
use Rattle.std.specs.Prelude.{◌≡◌, ⊤, ℕ, List, [], ◌∷◌}
use Rattle.std.specs.List.{AllZip}
use Rattle.snmp_msg.specs.Variables.{Variable}
use Rattle.snmp_responder.specs.Instrumentation.{IsGot, Known}
use Rattle.snmp_walk.specs.Dialogue.{asks_of}
use Rattle.snmp_walk.specs.Run.{IsStep, Step, came, goes}
use Rattle.snmp_walk.specs.declared.dialogue.Dialogue.{Dialogue}
use Rattle.gateway_laws.specs.Device.{IsTrueAnswer}

-- if the device answers in this step, it answers what was asked
abbrev pub AnswersTruly : Known → Dialogue → Step → Type 0
AnswersTruly device old (goes becomes) = ⊤
AnswersTruly device old (came answer becomes) = IsTrueAnswer device (asks_of old.columns.items) answer

-- the steps lead from one dialogue to the other, and the device answers so in each
abbrev pub IsTrueRun : Known → (List ℕ → Type 0) → List Variable → Dialogue → List Step → Dialogue → Type 0
IsTrueRun device Seen told first [] last = last ≡ first
IsTrueRun device Seen told first (step ∷ steps) last = AnswersTruly device first step
    × (second : Dialogue) × IsStep Seen told first step second × IsTrueRun device Seen told second steps last

-- each of the names is answered so in a GetRequest, in their order
abbrev pub AreGot : Known → (List ℕ → Type 0) → List (List ℕ) → List Variable → Type 0
AreGot device Seen names vs = AllZip (IsGot device Seen) names vs
