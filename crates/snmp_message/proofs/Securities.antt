-- msgSecurityParameters: what is read is spelled so, and what is spelled so is read.
use Rattle.std.proofs.Common.{◌≡◌, ℕ, ◌+◌, ◌-◌, ◌≤◌, ltb, List, [], ◌++◌, length, Some, refl, sym, ap, subst, ◌∙◌, append_assoc, arith}
use Rattle.std.proofs.lemmas.Bool.{ltb-false, le-ltb}
use Rattle.std.proofs.lemmas.List.{append-nil, length-append}
use Rattle.snmp_ber.specs.Element.{IsElement, Begins}
use Rattle.snmp_ber.specs.Reading.{Front}
use Rattle.snmp_ber.proofs.Elements.{guard_some}
use Rattle.snmp_message.specs.Layout.{IsNumber}
use Rattle.snmp_message.specs.Reading.{element_in, number_in}
use Rattle.snmp_message.specs.Steps.{when_ended}
use Rattle.snmp_message.specs.Security.{Fields, SecContent, SecText, with_user, with_salt, fields_in, security_in}
use Rattle.snmp_message.proofs.Steps.{after_some, same_some, TakesElement, element_in-is, element_in-again, begins_from_element, number_in-is, number_in-again}
use Rattle.snmp_message.proofs.Headers.{ended}

-- an element that was read, as a text in front of the rest
text_of : (tag : ℕ) (octets : List ℕ) (f : Front) (t : TakesElement tag octets f) → octets ≡ (t.head ++ f.content) ++ f.rest
text_of tag octets f t = t.parts ∙ sym (append_assoc t.head f.content f.rest)

last_text : (tag : ℕ) (octets : List ℕ) (f : Front) (t : TakesElement tag octets f) → f.rest ≡ [] → octets ≡ t.head ++ f.content
last_text tag octets f t none = text_of tag octets f t ∙ ap (λ (r : List ℕ). (t.head ++ f.content) ++ r) none ∙ append-nil (t.head ++ f.content)

made : ℕ → List ℕ → ℕ → ℕ → List ℕ → List ℕ → Front → Fields
made end engine boots time user auth f = record {
  engine = engine;
  boots = boots;
  time = time;
  user = user;
  auth = auth;
  salt = f.content;
  auth_at = end - (f.head_size + length f.content) - length auth;
}

-- the pieces that were read, one after another
fields_found : (at : ℕ) (octets : List ℕ) (engine : Front) (boots time : ℕ × List ℕ) (user auth salt : Front)
    → TakesElement 4 octets engine → (b : (text : List ℕ) × IsNumber 0 boots.0 text × (engine.rest ≡ text ++ boots.1)) → (t : (text : List ℕ) × IsNumber 0 time.0 text × (boots.1 ≡ text ++ time.1))
    → TakesElement 4 time.1 user → length user.content ≤ 32 → TakesElement 4 user.rest auth → TakesElement 4 auth.rest salt → salt.rest ≡ []
    → SecContent at octets (made (at + length octets) engine.content boots.0 time.0 user.content auth.content salt)
unfolding made
fields_found at octets engine boots time user auth salt t1 t2 t3 t4 allowed t5 t6 none =
    let salt_text = t6.head ++ salt.content in
    let user_text = t4.head ++ user.content in
    let engine_text = t1.head ++ engine.content in
    let salt_size : salt.head_size + length salt.content ≡ length salt_text = sym (length-append t6.head salt.content ∙ ap (λ (n : ℕ). n + length salt.content) t6.head_size) in
    let parts5 : user.rest ≡ t5.head ++ (auth.content ++ salt_text) = t5.parts ∙ ap (λ (r : List ℕ). t5.head ++ (auth.content ++ r)) (last_text 4 auth.rest salt t6 none) in
    let parts4 : time.1 ≡ user_text ++ (t5.head ++ (auth.content ++ salt_text)) = text_of 4 time.1 user t4 ∙ ap (λ (r : List ℕ). user_text ++ r) parts5 in
    let parts3 : boots.1 ≡ t3.0 ++ (user_text ++ (t5.head ++ (auth.content ++ salt_text))) = t3.2 ∙ ap (λ (r : List ℕ). t3.0 ++ r) parts4 in
    let parts2 : engine.rest ≡ t2.0 ++ (t3.0 ++ (user_text ++ (t5.head ++ (auth.content ++ salt_text)))) = t2.2 ∙ ap (λ (r : List ℕ). t2.0 ++ r) parts3 in
    let joined : octets ≡ engine_text ++ (t2.0 ++ (t3.0 ++ (user_text ++ (t5.head ++ (auth.content ++ salt_text))))) = text_of 4 octets engine t1 ∙ ap (λ (r : List ℕ). engine_text ++ r) parts2 in
    let size : length octets ≡ length engine_text + (length t2.0 + (length t3.0 + (length user_text + (length t5.head + (length auth.content + length salt_text))))) = ap length joined ∙ simp length-append in
    record {
      engine = engine_text;
      is_engine = (t1.head, t1.is_head, refl);
      boots = t2.0;
      is_boots = t2.1;
      time = t3.0;
      is_time = t3.1;
      user = user_text;
      is_user = (t4.head, t4.is_head, refl);
      user_allowed = allowed;
      auth_head = t5.head;
      is_auth = t5.is_head;
      salt = salt_text;
      is_salt = (t6.head, t6.is_head, refl);
      joined = joined;
      auth_place = omega (arith, size, salt_size);
    }

with_user-is : (any user : Front) → with_user any ≡ Some user → (any ≡ user) × (length user.content ≤ 32)
with_user-is any user e =
    let g = guard_some (ltb 32 (length any.content)) (Some any) user e in
    let same = same_some any user g.1 in
    let short : length any.content ≤ 32 = ltb-false _ _ g.0 in
    (same, subst (λ (f : Front). length f.content ≤ 32) same short)

fields_last : (at : ℕ) (octets : List ℕ) (s : Fields) (engine : Front) (boots time : ℕ × List ℕ) (any user auth salt : Front)
    → element_in 4 octets ≡ Some engine → number_in 0 engine.rest ≡ Some boots → number_in 0 boots.1 ≡ Some time → element_in 4 time.1 ≡ Some any → with_user any ≡ Some user
    → element_in 4 user.rest ≡ Some auth → element_in 4 auth.rest ≡ Some salt → with_salt (at + length octets) engine.content boots.0 time.0 user.content auth.content salt ≡ Some s → SecContent at octets s
unfolding made
fields_last at octets s engine boots time any user auth salt e1 e2 e3 e4 e5 e6 e7 e8 =
    let g = guard_some (ltb 0 (length salt.rest)) (Some (made (at + length octets) engine.content boots.0 time.0 user.content auth.content salt)) s e8 in
    let u = with_user-is any user e5 in
    let read : element_in 4 time.1 ≡ Some user = e4 ∙ ap (λ (f : Front). Some f) u.0 in
    let found = fields_found at octets engine boots time user auth salt (element_in-is 4 octets engine e1) (number_in-is 0 engine.rest boots e2) (number_in-is 0 boots.1 time e3) (element_in-is 4 time.1 user read) u.1 (element_in-is 4 user.rest auth e6) (element_in-is 4 auth.rest salt e7) (ended salt.rest g.0) in
    subst (λ (x : Fields). SecContent at octets x) (same_some (made (at + length octets) engine.content boots.0 time.0 user.content auth.content salt) s g.1) found

pub fields_in-is : (at : ℕ) (octets : List ℕ) (s : Fields) → fields_in (at + length octets) octets ≡ Some s → SecContent at octets s
unfolding fields_in
fields_in-is at octets s e =
    after_some (element_in 4 octets) _ s e (λ engine e1 k1.
    after_some (number_in 0 engine.rest) _ s k1 (λ boots e2 k2.
    after_some (number_in 0 boots.1) _ s k2 (λ time e3 k3.
    after_some (element_in 4 time.1) _ s k3 (λ any e4 k4.
    after_some (with_user any) _ s k4 (λ user e5 k5.
    after_some (element_in 4 user.rest) _ s k5 (λ auth e6 k6.
    after_some (element_in 4 auth.rest) _ s k6 (λ salt e7 e8.
    fields_last at octets s engine boots time any user auth salt e1 e2 e3 e4 e5 e6 e7 e8)))))))

-- the last element of a text
last_again : (tag : ℕ) (content text : List ℕ) (e : IsElement tag content text) → element_in tag text ≡ Some (record { tag = tag; head_size = length e.0; content = content; rest = [] })
last_again tag content text e = element_in-again text tag e.0 content [] (record { is_head = e.1; parts = e.2 ∙ ap (λ (r : List ℕ). e.0 ++ r) (sym (append-nil content)) })

pub fields_in-again : (at : ℕ) (octets : List ℕ) (s : Fields) → SecContent at octets s → fields_in (at + length octets) octets ≡ Some s
unfolding fields_in
fields_in-again at octets s t =
    let after5 = t.salt in
    let after4 = t.auth_head ++ (s.auth ++ t.salt) in
    let after3 = t.user ++ after4 in
    let after2 = t.time ++ after3 in
    let after1 = t.boots ++ after2 in
    let r1 = element_in-again (t.engine ++ after1) 4 t.is_engine.0 s.engine after1 (begins_from_element 4 s.engine t.engine after1 t.is_engine) in
    let r2 = number_in-again 0 s.boots t.boots after2 t.is_boots in
    let r3 = number_in-again 0 s.time t.time after3 t.is_time in
    let r4 = element_in-again (t.user ++ after4) 4 t.is_user.0 s.user after4 (begins_from_element 4 s.user t.user after4 t.is_user) in
    let short = le-ltb 32 (length s.user) t.user_allowed in
    let begun : Begins after4 4 t.auth_head s.auth t.salt = record { is_head = t.is_auth; parts = refl } in
    let r5 = element_in-again after4 4 t.auth_head s.auth t.salt begun in
    let r6 = last_again 4 s.salt t.salt t.is_salt in
    let salt_size : length t.is_salt.0 + length s.salt ≡ length t.salt = sym (ap length t.is_salt.2 ∙ length-append t.is_salt.0 s.salt) in
    let size : length octets ≡ length t.engine + (length t.boots + (length t.time + (length t.user + (length t.auth_head + (length s.auth + length t.salt))))) = ap length t.joined ∙ simp length-append in
    let place : at + length octets - length t.salt - length s.auth ≡ s.auth_at = omega (arith, size, t.auth_place) in
    ap (fields_in (at + length octets)) t.joined ∙ rw (r1, r2, r3, r4, short, r5, r6, salt_size, place) refl

security_last : (at : ℕ) (x : List ℕ) (s fields : Fields) (whole : Front) → element_in 48 x ≡ Some whole → fields_in (at + length x - length whole.rest) whole.content ≡ Some fields → when_ended whole.rest fields ≡ Some s → SecText at x s
security_last at x s fields whole e1 e2 e3 =
    let g = guard_some (ltb 0 (length whole.rest)) (Some fields) s e3 in
    let none = ended whole.rest g.0 in
    let t = element_in-is 48 x whole e1 in
    let is_whole : x ≡ t.head ++ whole.content = last_text 48 x whole t none in
    let end_is : at + length x - length whole.rest ≡ (at + length t.head) + length whole.content = omega (arith, ap length none, ap length is_whole, length-append t.head whole.content) in
    let read : fields_in ((at + length t.head) + length whole.content) whole.content ≡ Some s = subst (λ (n : ℕ). fields_in n whole.content ≡ Some s) end_is (e2 ∙ ap (λ (f : Fields). Some f) (same_some fields s g.1)) in
    record {
      head = t.head;
      content = whole.content;
      is_whole = t.is_head;
      whole = is_whole;
      says = fields_in-is (at + length t.head) whole.content s read;
    }

pub security_in-is : (at : ℕ) (x : List ℕ) (s : Fields) → security_in (at + length x) x ≡ Some s → SecText at x s
unfolding security_in
security_in-is at x s e =
    after_some (element_in 48 x) _ s e (λ whole e1 k1.
    after_some (fields_in (at + length x - length whole.rest) whole.content) _ s k1 (λ fields e2 e3.
    security_last at x s fields whole e1 e2 e3))

pub security_in-again : (at : ℕ) (x : List ℕ) (s : Fields) → SecText at x s → security_in (at + length x) x ≡ Some s
unfolding security_in
security_in-again at x s t =
    let read = last_again 48 t.content x (t.head, t.is_whole, t.whole) in
    let end_is : at + length x - 0 ≡ (at + length t.head) + length t.content = omega (arith, ap length t.whole, length-append t.head t.content) in
    rw (read, end_is, fields_in-again (at + length t.head) t.content s t.says) refl

pub one_security : (at : ℕ) (x : List ℕ) (s t : Fields) → SecText at x s → SecText at x t → s ≡ t
one_security at x s t a b = same_some s t (sym (security_in-again at x s a) ∙ security_in-again at x t b)
