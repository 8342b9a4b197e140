-- What an accepted message asks, by what is read of it.
use Rattle.std.specs.Prelude.{◌≡◌, ℕ, List, Option, None, Some, option_and_then, option_map}
use Rattle.std.proofs.Common.{ap, sym, ◌∙◌}
use Rattle.snmp_message.specs.Scoped.{Contexts, ScopedFront}
use Rattle.snmp_message.proofs.Scopeds.{scoped_front_in-again}
use Rattle.snmp_msg.specs.Pdu.{PduParts, PduText, pdu_in}
use Rattle.snmp_msg.proofs.Pdus.{pdu_in-again}
use Rattle.snmp_incoming.specs.Outcome.{Given}
use Rattle.snmp_gate.specs.Messages.{question_given, question_with}
use Rattle.snmp_gate.specs.Question.{Question}

pub reads_question : (client : List ℕ) (g : Given) (c : Contexts) (p : PduParts) → ScopedFront g.text c → PduText c.pdu p → question_given client g ≡ Some (question_with client g c p)
reads_question client g c p front text =
    ap (option_and_then (λ (d : Contexts). option_map (question_with client g d) (pdu_in d.pdu))) (scoped_front_in-again g.text c front)
    ∙ ap (option_map (question_with client g c)) (pdu_in-again c.pdu p text)

pub one_question : (client : List ℕ) (g : Given) (c : Contexts) (p : PduParts) (q : Question) → ScopedFront g.text c → PduText c.pdu p → question_given client g ≡ Some q → question_with client g c p ≡ q
one_question client g c p q front text asked =
    let same : Some (question_with client g c p) ≡ Some q = sym (reads_question client g c p front text) ∙ asked in cc

pub none_is_some : {B : Type 0} (b : B) → None ≡ Some b → ⊥
none_is_some b is = cc

mapped : {A B : Type 0} (f : A → B) (o : Option A) (b : B) → option_map f o ≡ Some b → (a : A) × (f a ≡ b)
mapped f None b is = absurd (none_is_some b is)
mapped f (Some a) b is = (a, (let same : Some (f a) ≡ Some b = is in cc))

-- who asks, by the contexts alone
pub asked_with : (client : List ℕ) (g : Given) (c : Contexts) (q : Question) → ScopedFront g.text c → question_given client g ≡ Some q → (p : PduParts) × (question_with client g c p ≡ q)
asked_with client g c q front asked =
    mapped (question_with client g c) (pdu_in c.pdu) q
    (sym (ap (option_and_then (λ (d : Contexts). option_map (question_with client g d) (pdu_in d.pdu))) (scoped_front_in-again g.text c front)) ∙ asked)
