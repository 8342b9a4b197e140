-- What an Inform is sent as.
use Rattle.std.specs.Prelude.{◌≡◌, ℕ, ℤ, pos, List, IfOk, IfSome, Result, Ok, Err}
use Rattle.std.specs.Global.{Vec}
use Rattle.std.proofs.Common.{sym, ap, subst, ◌∙◌, inl}
use Rattle.engine_clock.specs.Marks.{mark_at}
use Rattle.snmp_message.specs.Numbers.{in_table}
use Rattle.snmp_message.specs.declared.refusal.Refusal.{Refusal}
use Rattle.snmp_message.specs.declared.refused_at.RefusedAt.{RefusedAt}
use Rattle.snmp_msg.specs.Pdu.{PduParts, pdu_with}
use Rattle.snmp_msg.specs.PduTypes.{is_confirmed, pdu_tag}
use Rattle.snmp_msg.specs.Variables.{variables_of}
use Rattle.snmp_msg.specs.declared.pdu_type.PduType.TheVariants.{InformRequest}
use Rattle.usm_core.specs.Sealed.{Seals}
use Rattle.snmp_outgoing.specs.Requests.{written_pair}
use Rattle.snmp_outgoing.specs.Speaks.{Speech, spoken}
use Rattle.snmp_manager.specs.Pendings.{Remembers, request_answer}
use Rattle.snmp_manager.specs.Views.{Held}
use Rattle.snmp_manager.specs.declared.pending.Pending.{Pending}
use Rattle.snmp_forward.specs.Informs.{IsAskedOf, IsInformWritten}
use Rattle.snmp_forward.specs.Notifications.{IsNotification}
use Rattle.snmp_forward.specs.declared.asking.AskedWith.{AskedWith}
use Rattle.snmp_forward.specs.declared.asking.AskedWith.TheVariants.{Sends, Refused}
use Rattle.snmp_forward.specs.declared.inform.Inform.{Inform}
use Rattle.snmp_forward.specs.declared.sealing.Sealing.{Sealing}
use Rattle.snmp_forward.proofs.Written.{told_refusal}

module _ (held : Held) (own engine : List ℕ) (inform : Inform) (by : Sealing) (p : PduParts) where
  -- what is sent with this tag, to this user, in this context and with this PDU
  abbrev pub inform_with : ℕ → List ℕ → List ℕ → List ℕ → PduParts → Speech
  inform_with tag user context_engine name q = record {
    level = inform.level;
    id = by.id;
    reportable = is_confirmed tag;
    engine = engine;
    pair = written_pair inform.level (mark_at held.clocks engine) by.seconds;
    user = user;
    salt = by.salt;
    context_engine = context_engine;
    context_name = name;
    pdu = q;
  }

  abbrev goes : PduParts
  goes = pdu_with (pdu_tag InformRequest) p.id (pos 0) (pos 0) (variables_of p.list)

  abbrev pub is_sealed : Result (List ℕ) Refusal → ℕ → List ℕ → List ℕ → List ℕ → PduParts → Type 0
  is_sealed answer tag user context_engine name q = Seals held.users (spoken (inform_with tag user context_engine name q)) answer

  -- the same, with what these are
  as_inform : (answer : Result (List ℕ) Refusal) (tag : ℕ) (user context_engine name : List ℕ) (q : PduParts) → tag ≡ pdu_tag InformRequest → user ≡ inform.user.items → context_engine ≡ own → name ≡ inform.context.items → q ≡ goes
      → is_sealed answer tag user context_engine name q → is_sealed answer (pdu_tag InformRequest) inform.user.items own inform.context.items goes
  as_inform answer tag user context_engine name q t u e n is sealed =
      subst (λ (x : ℕ). is_sealed answer x inform.user.items own inform.context.items goes) t
      (subst (λ (x : List ℕ). is_sealed answer tag x own inform.context.items goes) u
      (subst (λ (x : List ℕ). is_sealed answer tag user x inform.context.items goes) e
      (subst (λ (x : List ℕ). is_sealed answer tag user context_engine x goes) n
      (subst (λ (x : PduParts). is_sealed answer tag user context_engine name x) is sealed))))

  as_remembered : (a : Pending) (user context_engine name : List ℕ) (id : ℤ) → user ≡ inform.user.items → context_engine ≡ own → name ≡ inform.context.items → id ≡ p.id
      → Remembers a by.id engine user inform.level context_engine name id → Remembers a by.id engine inform.user.items inform.level own inform.context.items p.id
  as_remembered a user context_engine name id u e n i is = record {
    id_is = is.id_is;
    engine_is = is.engine_is;
    user_is = is.user_is ∙ u;
    level_is = is.level_is;
    context_engine_is = is.context_engine_is ∙ e;
    context_name_is = is.context_name_is ∙ n;
    request_id_is = is.request_id_is ∙ i;
  }

  pub inform_asked : (community oid : List ℕ) (sent : Result (Vec ℕ × Pending) RefusedAt) (asked : AskedWith) (tag : ℕ) (user context_engine name : List ℕ) (q : PduParts) (id : ℤ)
      → IsNotification inform.datagram.items community p oid
      → tag ≡ pdu_tag InformRequest → user ≡ inform.user.items → context_engine ≡ own → name ≡ inform.context.items → q ≡ goes → id ≡ p.id
      → IfSome (request_answer sent) (λ answer. is_sealed answer tag user context_engine name q)
      → IfOk sent (λ s. Remembers s.1 by.id engine user inform.level context_engine name id)
      → IsAskedOf sent asked → IsInformWritten held own engine inform by asked
  inform_asked community oid (Ok sent) (Sends datagram pending) tag user context_engine name q id is t u e n goes_is i sealed remembers asked = record {
    inform_is = record {
      community = community;
      pdu = p;
      trap_oid = oid;
      is = is;
      seals = as_inform (Ok datagram.items) tag user context_engine name q t u e n goes_is (subst (λ (v : Vec ℕ). is_sealed (Ok v.items) tag user context_engine name q) asked.0 sealed);
    };
    remembers = as_remembered pending user context_engine name id u e n i (subst (λ (a : Pending). Remembers a by.id engine user inform.level context_engine name id) asked.1 remembers);
  }
  inform_asked community oid (Err fault) (Refused why) tag user context_engine name q id is t u e n goes_is i sealed remembers asked = inl (record {
    community = community;
    pdu = p;
    trap_oid = oid;
    is = is;
    seals = as_inform (Err why) tag user context_engine name q t u e n goes_is
        (subst (λ (r : Refusal). is_sealed (Err r) tag user context_engine name q) asked.0
        (told_refusal fault.refusal (λ answer. is_sealed answer tag user context_engine name q) (λ none. asked.1 (ap in_table (sym asked.0) ∙ none)) sealed));
  })
  inform_asked community oid (Ok sent) (Refused why) tag user context_engine name q id is t u e n goes_is i sealed remembers asked = absurd asked
  inform_asked community oid (Err fault) (Sends datagram pending) tag user context_engine name q id is t u e n goes_is i sealed remembers asked = absurd asked
