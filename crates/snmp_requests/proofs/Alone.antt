-- The one request that a message answers.
use Rattle.std.specs.Prelude.{◌≡◌, ◌≢◌, ℕ, Some, None}
use Rattle.std.proofs.Common.{refl, sym, ap, subst, ◌∙◌, inl, inr}
use Rattle.std.proofs.lemmas.Bool.Decides.{eqb_tells}
use Rattle.std.specs.FinMap as map
use Rattle.snmp_message.specs.Scoped.{Contexts}
use Rattle.snmp_msg.specs.Pdu.{PduParts}
use Rattle.snmp_incoming.specs.Outcome.{Given}
use Rattle.snmp_manager.specs.declared.pending.Pending.{Pending}
use Rattle.snmp_requests.specs.declared.device_request.Heard.{Heard}
use Rattle.snmp_requests.specs.declared.outstanding.OutstandingRequest.{OutstandingRequest}
use Rattle.snmp_requests.specs.Answering.{IsAnswerTo, IsHeardOf, IsNoAnswer}
use Rattle.snmp_requests.specs.Outstanding.{AreOutstanding, Outstanding}

some_same : {X : Type 0} (x y : X) → Some x ≡ Some y → x ≡ y
some_same x y e = cc e

-- a message of another msgID is no answer
not_heard : (a : Pending) (g : Given) (c : Contexts) (p : PduParts) → g.id ≢ a.id → IsHeardOf a g c p None
not_heard a g c p differs = (λ r. differs r.id, λ r. differs r.0)

module _ (all : Outstanding) (g : Given) (c : Contexts) (p : PduParts) (are : AreOutstanding all) where
  -- a request that waits under another msgID isn't answered
  other_id : (id : ℕ) (other : OutstandingRequest) → map.get all.requests id ≡ Some other → g.id ≢ id → IsHeardOf other.pending g c p None
  other_id id other there differs = not_heard other.pending g c p (λ same. differs (same ∙ (are.by_id id other there).id_is))

  pub is_answer : (r : OutstandingRequest) (heard : Heard) → map.get all.requests g.id ≡ Some r → IsHeardOf r.pending g c p (Some heard)
      → IsAnswerTo all g c p (record { token = r.token; heard = heard })
  is_answer r heard there is = record {
    request = r;
    there = ap (map.get all.requests) (are.by_id g.id r there).token_is ∙ there;
    token_is = refl;
    heard_is = is;
    alone = λ id other at differs. other_id id other at (λ same.
        let here : Some other ≡ Some r = sym at ∙ ap (map.get all.requests) (sym same) ∙ there in
        differs (ap (λ (o : OutstandingRequest). o.token) (some_same other r here)));
  }

  pub is_no_answer : map.get all.requests g.id ≡ None → IsNoAnswer all g c p
  is_no_answer none id other at = other_id id other at (λ same.
      let here : Some other ≡ None = sym at ∙ ap (map.get all.requests) (sym same) ∙ none in cc here)

  pub is_not_heard : (r : OutstandingRequest) → map.get all.requests g.id ≡ Some r → IsHeardOf r.pending g c p None → IsNoAnswer all g c p
  is_not_heard r there not id other at =
      elim (eqb_tells g.id id) [
        | inl (test, same) ↦
            let here : r ≡ other = some_same r other (sym there ∙ ap (map.get all.requests) same ∙ at) in
            subst (λ (o : OutstandingRequest). IsHeardOf o.pending g c p None) here not
        | inr (test, differs) ↦ other_id id other at differs
      ]
