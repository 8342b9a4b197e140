-- A message with all its layers: which fault comes first, and the laws of its canonical spelling.
use Rattle.std.proofs.Common.{◌≡◌, ◌⊎◌, ℕ, ◌+◌, ◌-◌, ◌≤◌, ◌<◌, List, length, Option, Some, None, Result, Ok, Err, refl, sym, ap, subst, ◌∙◌, arith, inl, inr}
use Rattle.std.specs.Prelude.{MatchResult, MatchOption, IsErrAnd}
use Rattle.snmp_ber.specs.Spelling.{head_size}
use Rattle.snmp_message.specs.declared.header.Header.{Header}
use Rattle.snmp_message.specs.declared.scoped.Scoped.{Scoped}
use Rattle.snmp_message.specs.declared.refusal.Refusal.{Refusal}
use Rattle.snmp_message.specs.declared.refusal.Refusal.TheVariants.{NotMessage, BadVersion, NotSecurity, NotScoped, NotPdu, UnknownEngine, UnknownUser, UnsupportedLevel, WrongDigest, NotInWindow, DecryptionError, BadScoped, BadPdu, OutOfMemory, ClockExhausted, TooLarge, UnknownModel, InvalidFlags}
use Rattle.snmp_message.specs.Layout.{Parts, Outer, IsGlobal}
use Rattle.snmp_message.specs.Security.{Fields, SecText, FieldsFit, IsShort, fields_text, security_text, placed}
use Rattle.snmp_message.specs.Scoped.{Contexts, ScopedContent, HasScoped, HasSealed, IsOneElement, contexts_of, contexts_placed}
use Rattle.snmp_msg.specs.Pdu.{PduParts, PduText, SaysPdu, pdu_text}
use Rattle.snmp_message.specs.Spelling.{HeaderFits, content_size, message_text, written}
use Rattle.snmp_msg.specs.Canonical.{DataParts, sealed, plain, Whole, SaysData, Says, data_tag_of, data_content_of, whole_text, IsCanonical, DataFits, WholeFits, IsShortData}
use Rattle.snmp_message.specs.Refusals.{RefusesSecurity}
use Rattle.snmp_message.specs.Refusals.{AgreesWithPriv}
use Rattle.snmp_msg.specs.Refusals.{RefusesPdu, RefusesWhole, RefusesCanonical}
use Rattle.snmp_message.proofs.Outers.{one_outer}
use Rattle.snmp_message.proofs.Securities.{one_security}
use Rattle.snmp_message.proofs.Scopeds.{not_both, one_scoped, contexts_text-length, contexts_text-is}
use Rattle.snmp_msg.proofs.Pdus.{one_said, said_spelled, says_itself, pdu_text-longer}
use Rattle.snmp_message.proofs.Filled.{fields_text-longer, security_text-is}
use Rattle.snmp_message.proofs.Writes.{measured_message, message_text-longer, message_text-is}

-- ---- faults

-- a refusal that `?` passed on
pub refused_as : {A B : Type 0} (r : Result A B) (Q : A → Type 0) (P : B → Type 0) (f : B) → IsErrAnd r (λ e. e ≡ f) → P f → MatchResult r Q P
refused_as (Ok x) Q P f h p = absurd h
refused_as (Err e) Q P f h p = subst P (sym h) p

pub agrees_from : (w : List ℕ) (m : Parts) (o : Option Scoped) → MatchOption o (HasSealed m) (λ s. HasScoped w m (contexts_of s)) → AgreesWithPriv w m
agrees_from w m None h = inl h
agrees_from w m (Some s) h = inr (contexts_of s, h)

pub security_refused : (w : List ℕ) (m : Parts) (r : Refusal) → Outer w m → AgreesWithPriv w m → RefusesSecurity m r → RefusesWhole w r
security_refused w m NotMessage o agrees none = absurd none
security_refused w m BadVersion o agrees none = absurd none
security_refused w m NotSecurity o agrees none = (m, o, agrees, none)
security_refused w m NotScoped o agrees none = absurd none
security_refused w m NotPdu o agrees none = absurd none
security_refused w m UnknownEngine o agrees none = absurd none
security_refused w m UnknownUser o agrees none = absurd none
security_refused w m UnsupportedLevel o agrees none = absurd none
security_refused w m WrongDigest o agrees none = absurd none
security_refused w m NotInWindow o agrees none = absurd none
security_refused w m DecryptionError o agrees none = absurd none
security_refused w m BadScoped o agrees none = absurd none
security_refused w m BadPdu o agrees none = absurd none
security_refused w m OutOfMemory o agrees none = absurd none
security_refused w m ClockExhausted o agrees none = absurd none
security_refused w m TooLarge o agrees none = absurd none
security_refused w m UnknownModel o agrees none = absurd none
security_refused w m InvalidFlags o agrees none = absurd none

pub pdu_refused : (w text : List ℕ) (m : Parts) (f : Fields) (s : Contexts) (r : Refusal) → Outer w m → SecText m.security_at m.security f → HasScoped w m s → s.pdu ≡ text → RefusesPdu text r → RefusesWhole w r
pdu_refused w text m f s NotMessage o x h same none = absurd none
pdu_refused w text m f s BadVersion o x h same none = absurd none
pdu_refused w text m f s NotSecurity o x h same none = absurd none
pdu_refused w text m f s NotScoped o x h same none = absurd none
pdu_refused w text m f s NotPdu o x h same none = (m, f, s, o, x, h, λ p t. none p (subst (λ (z : List ℕ). PduText z p) same t))
pdu_refused w text m f s UnknownEngine o x h same none = absurd none
pdu_refused w text m f s UnknownUser o x h same none = absurd none
pdu_refused w text m f s UnsupportedLevel o x h same none = absurd none
pdu_refused w text m f s WrongDigest o x h same none = absurd none
pdu_refused w text m f s NotInWindow o x h same none = absurd none
pdu_refused w text m f s DecryptionError o x h same none = absurd none
pdu_refused w text m f s BadScoped o x h same none = absurd none
pdu_refused w text m f s BadPdu o x h same none = absurd none
pdu_refused w text m f s OutOfMemory o x h same none = absurd none
pdu_refused w text m f s ClockExhausted o x h same none = absurd none
pdu_refused w text m f s TooLarge o x h same none = absurd none
pdu_refused w text m f s UnknownModel o x h same none = absurd none
pdu_refused w text m f s InvalidFlags o x h same none = absurd none

pub write_refused : (w : List ℕ) (m : Whole) (r : Refusal) → Says w m → (r ≡ TooLarge) ⊎ (r ≡ OutOfMemory) → (r ≡ TooLarge → 65507 < length (whole_text m)) → (r ≡ OutOfMemory → length (whole_text m) ≤ 65507) → RefusesCanonical w r
write_refused w m r says (inl is) large short = subst (RefusesCanonical w) (sym is) (whole_text m, record { message = m; says = says; spelled = refl }, large is)
write_refused w m r says (inr is) large short = subst (RefusesCanonical w) (sym is) (whole_text m, record { message = m; says = says; spelled = refl }, short is)

-- ---- sizes

pub whole_text-longer : (m : Whole) → (length (security_text m.security) ≤ length (whole_text m)) × (length (data_content_of m.contents) ≤ length (whole_text m))
unfolding whole_text
whole_text-longer m = message_text-longer m.header (security_text m.security) (data_tag_of m.contents) (data_content_of m.contents)

-- a message that fits a datagram has fields that fit one
pub short_security : (m : Whole) → length (whole_text m) ≤ 65507 → IsShort m.security
short_security m size =
    let longer = whole_text-longer m in
    let fields = fields_text-longer m.security in
    record { engine = omega (arith, fields.0); auth = omega (arith, fields.1); salt = omega (arith, fields.2) }

short_data_of : (d : DataParts) → length (data_content_of d) ≤ 65507 → IsShortData d
short_data_of (sealed octets) size = size
short_data_of (plain engine name p) size = let inner = contexts_text-length engine name (pdu_text p) in (omega arith, omega arith)

pub short_data : (m : Whole) → length (whole_text m) ≤ 65507 → IsShortData m.contents
short_data m size = let longer = whole_text-longer m in short_data_of m.contents (omega arith)

-- a message is at least as long as the list in it
pub list_in_whole : (engine name : List ℕ) (p : PduParts) → length p.list ≤ length (data_content_of (plain engine name p))
list_in_whole engine name p =
    let longer = pdu_text-longer p in
    omega (arith, contexts_text-length engine name (pdu_text p), longer.0, longer.1)

-- msgData is at least as long as each context in it
pub contexts_in_whole : (engine name : List ℕ) (p : PduParts) → (length engine ≤ length (data_content_of (plain engine name p))) × (length name ≤ length (data_content_of (plain engine name p)))
contexts_in_whole engine name p = let inner = contexts_text-length engine name (pdu_text p) in (omega arith, omega arith)

-- a size that was computed is that of the text
pub measured_whole : (m : Whole) (size security_size data_size : ℕ) → security_size ≡ length (security_text m.security) → data_size ≡ length (data_content_of m.contents)
    → (let inner = content_size m.header security_size data_size in size ≡ head_size inner + inner) → length (whole_text m) ≡ size
unfolding whole_text
measured_whole m size security_size data_size security_is data_is measured =
    let at_security = ap (λ (n : ℕ). head_size (content_size m.header n data_size) + content_size m.header n data_size) security_is in
    measured_message m.header (security_text m.security) (data_tag_of m.contents) (data_content_of m.contents) size data_size (measured ∙ at_security) data_is

-- ---- one canonical spelling

same_plain : (w : List ℕ) (m : Parts) (a b c d : List ℕ) (p q : PduParts) → SaysData w m (plain a b p) → SaysData w m (plain c d q) → plain a b p ≡ plain c d q
same_plain w m a b c d p q h k =
    let same = one_scoped (length w - length m.data_content) m.data_content h.0 k.0 h.1.2 k.1.2 in
    let pdu : SaysPdu h.0.pdu q = subst (λ (s : Contexts). SaysPdu s.pdu q) (sym same) k.2 in
    let engines : a ≡ c = h.3 ∙ ap (λ (s : Contexts). s.engine) same ∙ sym k.3 in
    let names : b ≡ d = h.4 ∙ ap (λ (s : Contexts). s.name) same ∙ sym k.4 in
    rw (engines, names, one_said h.0.pdu p q h.2 pdu) refl

same_data : (w : List ℕ) (m : Parts) (d e : DataParts) → SaysData w m d → SaysData w m e → d ≡ e
same_data w m (sealed a) (sealed b) h k = ap sealed (h.1 ∙ sym k.1)
same_data w m (sealed a) (plain engine name p) h k = absurd (not_both w m k.0 h.0 k.1)
same_data w m (plain engine name p) (sealed b) h k = absurd (not_both w m h.0 k.0 h.1)
same_data w m (plain engine name p) (plain engine1 name1 q) h k = same_plain w m engine name engine1 name1 p q h k

whole : Header → Fields → DataParts → Whole
whole h s d = record { header = h; security = s; contents = d }

same_whole : (h g : Header) (s t : Fields) (d e : DataParts) → h ≡ g → s ≡ t → d ≡ e → whole h s d ≡ whole g t e
same_whole h g s t d e a b c = rw (a, b, c) refl

pub one_whole : (w : List ℕ) (m n : Whole) → Says w m → Says w n → m ≡ n
unfolding whole
one_whole w m n a b =
    let same = one_outer w b.message a.message b.outer a.outer in
    let security : SecText a.message.security_at a.message.security n.security = subst (λ (p : Parts). SecText p.security_at p.security n.security) same b.security in
    let contents : SaysData w a.message n.contents = subst (λ (p : Parts). SaysData w p n.contents) same b.contents in
    let header : m.header ≡ n.header = a.header ∙ sym (ap (λ (p : Parts). p.header) same) ∙ sym b.header in
    same_whole m.header n.header m.security n.security m.contents n.contents header (one_security a.message.security_at a.message.security m.security n.security a.security security) (same_data w a.message m.contents n.contents a.contents contents)

pub one_canonical : (w a b : List ℕ) → IsCanonical w a → IsCanonical w b → a ≡ b
one_canonical w a b x y = x.spelled ∙ ap whole_text (one_whole w x.message y.message x.says y.says) ∙ sym y.spelled

-- ---- a canonical spelling is its own

pub header_fits : (h : Header) (content : List ℕ) → IsGlobal h content → HeaderFits h
header_fits h content g = record { id = g.is_id.at_most; least_size = g.is_max_size.at_least; most_size = g.is_max_size.at_most; least_model = g.is_model.at_least; most_model = g.is_model.at_most }

pub fields_fit : (at : ℕ) (x : List ℕ) (s : Fields) → SecText at x s → FieldsFit s
fields_fit at x s t = record { boots = t.says.is_boots.at_most; time = t.says.is_time.at_most; user = t.says.user_allowed }

data_fits : (w : List ℕ) (m : Parts) (d : DataParts) → SaysData w m d → DataFits d
data_fits w m (sealed octets) h = tt
data_fits w m (plain engine name p) h = said_spelled h.0.pdu p h.2

pub whole_fits : (w : List ℕ) (m : Whole) → Says w m → WholeFits m
whole_fits w m h = record {
  header = subst HeaderFits (sym h.header) (header_fits h.message.header h.outer.global_content h.outer.says);
  security = fields_fit h.message.security_at h.message.security m.security h.security;
  contents = data_fits w h.message m.contents h.contents;
}

-- the same message, with the place where its security parameters stand in its canonical spelling
pub spelled_again : Whole → Whole
spelled_again m =
    let p = written m.header (security_text m.security) (data_tag_of m.contents) (data_content_of m.contents) in
    record m { security = placed p.security_at m.security }

same_text : (m : Whole) → whole_text (spelled_again m) ≡ whole_text m
unfolding spelled_again whole_text security_text fields_text
same_text m = refl

tag_allowed : (d : DataParts) → (data_tag_of d ≡ 48) ⊎ (data_tag_of d ≡ 4)
tag_allowed (sealed octets) = inr refl
tag_allowed (plain engine name p) = inl refl

one_element_of : (z : List ℕ) (p : PduParts) → SaysPdu z p → IsOneElement z
one_element_of z p h = let t = h.is_pdu in (h.as_read.tag, t.content, t.is_whole)

contents_again : (c : List ℕ) (w : List ℕ) (m n : Parts) (d : DataParts) → SaysData w m d → DataFits d → n.header ≡ m.header → n.data_tag ≡ data_tag_of d → n.data_content ≡ data_content_of d → length (data_content_of d) ≤ 65507 → SaysData c n d
contents_again c w m n (sealed octets) h fits header tag content size = ((ap (λ (x : Header). x.privacy) header ∙ h.0.0, tag), sym content)
contents_again c w m n (plain engine name p) h fits header tag content size =
    let at = length c - length n.data_content in
    let short = short_data_of (plain engine name p) size in
    let inner = contexts_text-length engine name (pdu_text p) in
    let pdu = says_itself p fits (omega arith) in
    let t = contexts_text-is at engine name (pdu_text p) (one_element_of (pdu_text p) p pdu) short.0 short.1 in (
      contexts_placed at engine name (pdu_text p),
      (ap (λ (x : Header). x.privacy) header ∙ h.1.0, tag, subst (λ (z : List ℕ). ScopedContent at z (contexts_placed at engine name (pdu_text p))) (sym content) t),
      pdu,
      refl,
      refl,
    )

pub says_again : (w : List ℕ) (m : Whole) → Says w m → length (whole_text m) ≤ 65507 → Says (whole_text m) (spelled_again m)
unfolding spelled_again whole_text
says_again w m h size =
    let fits = whole_fits w m h in
    let longer = whole_text-longer m in
    let security = security_text m.security in
    let tag = data_tag_of m.contents in
    let content = data_content_of m.contents in
    let p = written m.header security tag content in
    record {
      message = p;
      outer = message_text-is m.header security tag content fits.header (tag_allowed m.contents) size;
      header = refl;
      security = security_text-is p.security_at m.security fits.security (omega arith);
      contents = contents_again (message_text m.header security tag content) w h.message p m.contents h.contents fits.contents h.header refl refl (omega arith);
    }

pub canonical_again : (w c : List ℕ) → IsCanonical w c → length c ≤ 65507 → IsCanonical c c
canonical_again w c h size =
    let m = h.message in
    let short : length (whole_text m) ≤ 65507 = omega (arith, ap length h.spelled) in
    subst (λ (x : List ℕ). IsCanonical x x) (sym h.spelled) (record { message = spelled_again m; says = says_again w m h.says short; spelled = sym (same_text m) })
