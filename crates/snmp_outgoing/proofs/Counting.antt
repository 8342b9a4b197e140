-- Messages of which all but the bindings is known, and how many bindings they have room for.
use Rattle.std.proofs.Common.{◌≡◌, ◌⊎◌, ℕ, zero, suc, ◌+◌, ◌*◌, ◌<◌, ◌≤◌, Bool, true, false, List, [], ◌∷◌, length, take, refl, sym, ap, subst, ◌∙◌, arith, inl, inr}
use Rattle.std.specs.Prelude.{map, leb}
use Rattle.std.proofs.lemmas.Bool.Decides.{leb_tells}
use Rattle.snmp_ber.specs.Spelling.{head_size, element}
use Rattle.snmp_message.specs.declared.header.Header.{Header}
use Rattle.snmp_message.specs.Scoped.{contexts_text, scoped_text}
use Rattle.snmp_message.proofs.Lengths.{head_between}
use Rattle.snmp_message.proofs.Scopeds.{contexts_text-length, scoped_text-size, scoped_text-longer}
use Rattle.snmp_msg.specs.Variables.{Variable, variables_text}
use Rattle.snmp_msg.specs.Pdu.{pdu_text}
use Rattle.snmp_msg.proofs.Pdus.{pdu_text-longer}
use Rattle.usm_users.specs.User.{User}
use Rattle.usm_core.specs.Sealed.{Sending, sending, SealedText}
use Rattle.usm_core.specs.Sizes.{data_size, whole_size}
use Rattle.snmp_outgoing.specs.declared.count.Outline.{Outline}
use Rattle.snmp_outgoing.specs.declared.envelope.Envelope.{Envelope}
use Rattle.snmp_outgoing.specs.declared.front.Front.{Front}
use Rattle.snmp_outgoing.specs.Bodies.{header_at, pdu_after, scoped_after}
use Rattle.snmp_outgoing.specs.Sends.{sent_with}
use Rattle.snmp_outgoing.specs.Fronts.{IsWithin, IsBeyond}
use Rattle.snmp_outgoing.specs.Outlines.{HasAtMost, content_size}

-- ---- sizes

-- the bindings are no longer than the content of msgData
data_least : (b : Bool) (n : ℕ) → n ≤ data_size b n
data_least true n = omega (arith, head_between n)
data_least false n = omega arith

data_most : (b : Bool) (n : ℕ) → data_size b n ≤ head_size n + n
data_most true n = omega arith
data_most false n = omega arith

content_least : (o : Outline) (vs : List Variable) → length (variables_text vs) ≤ content_size o vs
content_least o vs =
    let p = pdu_after o.front.now vs in
    let longer = pdu_text-longer p in
    let all = contexts_text-length o.front.now.context_engine.now o.front.now.context_name.now (pdu_text p) in
    omega (arith, longer.0, longer.1, all)

pub list_least : (o : Outline) (vs : List Variable) → length (variables_text vs) ≤ data_size o.header.privacy (content_size o vs)
list_least o vs = omega (arith, content_least o vs, data_least o.header.privacy (content_size o vs))

-- ---- what the sizes say of the texts

module _ (users : List User) (e : Envelope) (f : Front) (o : Outline) (header : o.header ≡ header_at e.level e.id e.reportable) (front : o.front.now ≡ f)
    (salt : length e.salt ≡ 8)
    (size : (salt content text : List ℕ) → length salt ≡ 8 → length content ≤ 65507 → SealedText users (sending o.header e.engine.now e.pair e.user.now salt (element 48 content)) text
    → length text ≡ whole_size o.header o.security_len (data_size o.header.privacy (length content))) where
  content : List Variable → List ℕ
  content vs = contexts_text f.context_engine.now f.context_name.now (pdu_text (pdu_after f vs))

  content_is : (vs : List Variable) → content_size o vs ≡ length (content vs)
  unfolding content
  content_is vs = ap (λ (g : Front). length (contexts_text g.context_engine.now g.context_name.now (pdu_text (pdu_after g vs)))) front

  message_is : (vs : List Variable) → sent_with e (scoped_after f vs) ≡ sending o.header e.engine.now e.pair e.user.now e.salt (element 48 (content vs))
  unfolding content scoped_text
  message_is vs = ap (λ (h : Header). sending h e.engine.now e.pair e.user.now e.salt (scoped_after f vs)) (sym header)

  text_size : (vs : List Variable) → length (content vs) ≤ 65507 → (text : List ℕ) → SealedText users (sent_with e (scoped_after f vs)) text
      → length text ≡ whole_size o.header o.security_len (data_size o.header.privacy (content_size o vs))
  text_size vs short text sealed =
      size e.salt (content vs) text salt short (subst (λ (m : Sending). SealedText users m text) (message_is vs) sealed)
      ∙ ap (λ (n : ℕ). whole_size o.header o.security_len (data_size o.header.privacy n)) (sym (content_is vs))

  content_short : (vs : List Variable) → data_size o.header.privacy (content_size o vs) ≤ 65507 → length (content vs) ≤ 65507
  content_short vs most = omega (arith, most, data_least o.header.privacy (content_size o vs), content_is vs)

  pub within : (limit : ℕ) (vs : List Variable) → HasAtMost o limit vs → IsWithin users limit (sent_with e (scoped_after f vs))
  within limit vs h text sealed = omega (arith, h.whole, text_size vs (content_short vs h.content) text sealed)

  scoped_size : (vs : List Variable) → length (scoped_after f vs) ≡ head_size (content_size o vs) + content_size o vs
  unfolding content
  scoped_size vs =
      scoped_text-size f.context_engine.now f.context_name.now (pdu_text (pdu_after f vs)) ∙ ap (λ (n : ℕ). head_size n + n) (sym (content_is vs))

  -- what has room can be written
  pub scoped_short : (limit : ℕ) (vs : List Variable) → HasAtMost o limit vs → length (scoped_after f vs) ≤ 2 * 65507
  scoped_short limit vs h =
      omega (arith, h.content, data_least o.header.privacy (content_size o vs), scoped_size vs, head_between (content_size o vs))

  beyond_by : (limit : ℕ) (vs : List Variable) → limit ≤ 65507 → (HasAtMost o limit vs → ⊥) → (text : List ℕ) → SealedText users (sent_with e (scoped_after f vs)) text → length (scoped_after f vs) ≤ length text
      → ((leb (data_size o.header.privacy (content_size o vs)) 65507 ≡ true) × (data_size o.header.privacy (content_size o vs) ≤ 65507))
      ⊎ ((leb (data_size o.header.privacy (content_size o vs)) 65507 ≡ false) × (65507 < data_size o.header.privacy (content_size o vs)))
      → ((leb (whole_size o.header o.security_len (data_size o.header.privacy (content_size o vs))) limit ≡ true) × (whole_size o.header o.security_len (data_size o.header.privacy (content_size o vs)) ≤ limit))
      ⊎ ((leb (whole_size o.header o.security_len (data_size o.header.privacy (content_size o vs))) limit ≡ false) × (limit < whole_size o.header o.security_len (data_size o.header.privacy (content_size o vs))))
      → limit < length text
  beyond_by limit vs most none text sealed least (inr long) either = omega (arith, long.1, most, least, scoped_size vs, data_most o.header.privacy (content_size o vs))
  beyond_by limit vs most none text sealed least (inl short) (inl within) = absurd (none (record { content = short.1; whole = within.1 }))
  beyond_by limit vs most none text sealed least (inl short) (inr long) = omega (arith, long.1, text_size vs (content_short vs short.1) text sealed)

  pub beyond : ((m : Sending) (text : List ℕ) → SealedText users m text → length m.scoped ≤ length text) → (limit : ℕ) (vs : List Variable) → limit ≤ 65507 → (HasAtMost o limit vs → ⊥)
      → IsBeyond users limit (sent_with e (scoped_after f vs))
  beyond least limit vs most none text sealed =
      beyond_by limit vs most none text sealed (least (sent_with e (scoped_after f vs)) text sealed)
      (leb_tells (data_size o.header.privacy (content_size o vs)) 65507) (leb_tells (whole_size o.header o.security_len (data_size o.header.privacy (content_size o vs))) limit)

-- the contexts are no longer than the ScopedPDU
pub contexts_least : (f : Front) (vs : List Variable) → (length f.context_engine.now ≤ length (scoped_after f vs)) × (length f.context_name.now ≤ length (scoped_after f vs))
contexts_least f vs = let longer = scoped_text-longer f.context_engine.now f.context_name.now (pdu_text (pdu_after f vs)) in (longer.0, longer.1)

-- ---- lists

pub take_map : {A B : Type 0} (f : A → B) (n : ℕ) (xs : List A) → take n (map f xs) ≡ map f (take n xs)
take_map f zero xs = refl
take_map f (suc n) [] = refl
take_map f (suc n) (x ∷ xs) = ap (λ (ys : List _). f x ∷ ys) (take_map f n xs)
