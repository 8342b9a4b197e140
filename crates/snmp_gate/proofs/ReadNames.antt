-- Names that a device is asked.
use Rattle.std.specs.Prelude.{◌≡◌, ◌<◌, ◌+◌, ℕ, ℤ, pos, List, [], ◌++◌, Result, Ok, Err, IfOk, drop, length, slice_index_or}
use Rattle.std.specs.List.{flat_map}
use Rattle.std.proofs.Common.{refl, ap, ◌∙◌}
use Rattle.std.proofs.lemmas.List.{drop_more}
use Rattle.snmp_msg.specs.Pdu.{PduText, pdu_text, pdu_with}
use Rattle.snmp_msg.specs.PduTypes.{pdu_tag}
use Rattle.snmp_msg.specs.Variables.{AreBindings, Variable, variables_text}
use Rattle.snmp_msg.specs.declared.pdu_type.PduType.{PduType}
use Rattle.snmp_community.specs.Layout.{IsMessage}
use Rattle.snmp_community.specs.Spelling.{written}
use Rattle.snmp_community.specs.declared.version.Version.TheVariants.{Version2c}
use Rattle.snmp_walk.specs.Column.{Asks}
use Rattle.snmp_walk.specs.declared.column.Progress.{Progress}
use Rattle.snmp_walk.specs.declared.column.Progress.TheVariants.{Wanting, Asked, Given, Hidden, Ended}
use Rattle.snmp_gate.specs.DeviceMessages.{IsRequest}
use Rattle.snmp_gate.specs.ReadAsks.{variables_in}

-- of a column that doesn't ask there is no binding
pub none_in : (p : Progress) → ((name : List ℕ) → ¬ Asks p name) → variables_in p ≡ []
none_in (Wanting from) not = refl
none_in (Asked ask) not = absurd (not ask.name refl)
none_in (Given g) not = refl
none_in Hidden not = refl
none_in Ended not = refl

-- The bindings that are still to come, after a column that has none.
pub skips : {C : Type 0} (f : C → List Variable) (cs : List C) (i : ℕ) (c : C) (done : List Variable) → i < length cs → slice_index_or cs i c ≡ c → flat_map f cs ≡ done ++ flat_map f (drop i cs)
    → f c ≡ [] → flat_map f cs ≡ done ++ flat_map f (drop (i + 1) cs)
skips f cs i c done within is are none =
    are ∙ ap (λ rest. done ++ flat_map f rest) (drop_more cs i c within) ∙ ap (λ (vs : List Variable). done ++ (vs ++ flat_map f (drop (i + 1) cs))) (ap f is ∙ none)

-- What was written of this front and these bindings is such a request.
pub is_request : {A E : Type 0} (text : A → List ℕ) (r : Result A E) (community : List ℕ) (type : PduType) (id tag : ℕ) (z s t second third : ℤ) (vs : List Variable)
    → tag ≡ pdu_tag type → z ≡ pos id → s ≡ second → t ≡ third
    → IfOk r (λ v. IsMessage (text v) (written Version2c community (pdu_text (pdu_with tag z s t vs))))
    → IfOk r (λ v. PduText (pdu_text (pdu_with tag z s t vs)) (pdu_with tag z s t vs))
    → IfOk r (λ v. AreBindings vs (variables_text vs)) → IfOk r (λ v. IsRequest (text v) community type id second third vs)
is_request text (Ok v) community type id tag z s t second third vs tag_is z_is s_is t_is message is_pdu are =
    let p = pdu_with tag z s t vs in
    record {
      pdu = p;
      is = record { message = written Version2c community (pdu_text p); is_message = message; version = refl; community_is = refl; is_pdu = is_pdu };
      type_is = tag_is;
      id_is = z_is;
      second_is = s_is;
      third_is = t_is;
      are = are;
    }
is_request text (Err e) community type id tag z s t second third vs tag_is z_is s_is t_is message is_pdu are = tt
