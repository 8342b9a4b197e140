-- What is spoken is for whoever allows its engine and has its user.
use Rattle.std.proofs.Common.{◌≡◌, ℕ, ◌≤◌, List, ◌++◌, length, refl, sym, subst, arith}
use Rattle.std.specs.Prelude.{min, Option, Some, None, Ok}
use Rattle.snmp_ber.specs.declared.level.Level.{Level}
use Rattle.snmp_ber.specs.declared.level.Level.TheVariants.{NoAuthNoPriv, AuthNoPriv, AuthPriv}
use Rattle.snmp_ber.specs.Spelling.{head_size, element}
use Rattle.snmp_message.specs.Scoped.{IsOneElement, ScopedText, contexts_text, scoped_text, contexts_placed}
use Rattle.snmp_msg.specs.Variables.{Variable, AllFit, AreBindings, variables_text}
use Rattle.snmp_message.specs.Spelling.{signed}
use Rattle.snmp_message.proofs.Lengths.{length_of_four}
use Rattle.snmp_msg.specs.Pdu.{PduParts, PduText, PduFits, pdu_content_text, pdu_text}
use Rattle.engine_clock.specs.Marks.{SeenPair}
use Rattle.engine_clock.specs.Pairs.{IsPair}
use Rattle.usm_users.specs.User.{User}
use Rattle.usm_users.specs.Users.{HasUser, HasUserAt}
use Rattle.usm_core.specs.Verified.{AllowsEngine, AllowsUser}
use Rattle.usm_core.specs.Table.{holds}
use Rattle.usm_core.specs.Sealed.{Sending, SealedText, Seals}
use Rattle.snmp_incoming.specs.Outcome.{Taker, side_at}
use Rattle.snmp_outgoing.specs.Accepts.{IsFor}
use Rattle.snmp_outgoing.specs.Speaks.{Speech, spoken, spoken_contexts, SpeechFits, HasSameUser}
use Rattle.snmp_outgoing.specs.Requests.{written_pair}
use Rattle.snmp_outgoing.proofs.Levels.{level_at, element_longer, scoped_longer}

seals_text : (users : List User) (m : Sending) (text : List ℕ) → Seals users m (Ok text) → SealedText users m text × (length text ≤ 65507)
unfolding Seals
seals_text users m text (holds flags (holds user (holds level w))) = w

pdu_longer : (p : PduParts) → length p.list ≤ length (pdu_text p)
unfolding pdu_text pdu_content_text
pdu_longer p =
    let whole = element_longer p.tag (signed p.id ++ (signed p.second ++ (signed p.third ++ element 48 p.list))) in
    let list = element_longer 48 p.list in
    let joined = length_of_four (signed p.id) (signed p.second) (signed p.third) (element 48 p.list) in
    omega (arith, whole, list, joined)

module _ (again_scoped : (engine name pdu : List ℕ) → IsOneElement pdu → length (scoped_text engine name pdu) ≤ 65507
    → ScopedText 0 (scoped_text engine name pdu) (contexts_placed (head_size (length (contexts_text engine name pdu))) engine name pdu))
    (again_pdu : (p : PduParts) → PduFits p → length (pdu_text p) ≤ 65507 → PduText (pdu_text p) p)
    (again_list : (vs : List Variable) → AllFit vs → length (variables_text vs) ≤ 65507 → AreBindings vs (variables_text vs))
    (least : (users : List User) (m : Sending) (text : List ℕ) → SealedText users m text → length m.scoped ≤ length text)
    (taker : Taker) (senders users : List User) (s : Speech) (text : List ℕ) (fits : SpeechFits s) (engine : AllowsEngine (side_at taker) s.engine)
    (same : HasSameUser (side_at taker) senders users s.user s.level) (seals : Seals senders (spoken s) (Ok text)) where
  pub is_for : IsFor taker senders users (spoken s) (spoken_contexts s) s.pdu
  is_for =
      let sealed = seals_text senders (spoken s) text seals in
      let long = least senders (spoken s) text sealed.0 in
      let short : length (scoped_text s.context_engine s.context_name (pdu_text s.pdu)) ≤ 65507 = omega (arith, long, sealed.1) in
      let pdu_long = scoped_longer s.context_engine s.context_name (pdu_text s.pdu) in
      let pdu_short : length (pdu_text s.pdu) ≤ 65507 = omega (arith, short, pdu_long) in
      let list_long = pdu_longer s.pdu in
      let list_short : length s.pdu.list ≤ 65507 = omega (arith, list_long, pdu_short) in
      let bindings = again_list fits.variables fits.bindings (subst (λ (l : List ℕ). length l ≤ 65507) fits.list list_short) in
      let pdu = again_pdu s.pdu (record {
        tag_allowed = fits.tag;
        numbers = fits.numbers;
        variables = fits.variables;
        are_bindings = subst (AreBindings fits.variables) (sym fits.list) bindings;
      }) pdu_short in
      let scoped = again_scoped s.context_engine s.context_name (pdu_text s.pdu) (s.pdu.tag, pdu.content, pdu.is_whole) short in
      let at = level_at s.level s.id s.reportable in
      record {
        fits = record {
          header = record { id = fits.id; least_size = omega arith; most_size = omega arith; least_model = omega arith; most_model = omega arith };
          boots = fits.pair.boots;
          time = fits.pair.time;
          user = fits.user;
          salt = fits.salt;
          content = scoped.content;
          scoped = (scoped.head, scoped.is_whole, scoped.whole);
        };
        model = refl;
        engine_length = fits.engine;
        engine = engine;
        same_user = same.same;
        user = subst (AllowsUser (side_at taker) users s.user) (sym at) same.user;
        level = subst (λ (l : Level). HasUser users s.user → HasUserAt users s.user l) (sym at) same.supports;
        scoped = scoped;
        pdu = pdu;
      }

-- ---- the pair of a request

least_of : (a b : ℕ) → min a b ≤ b
least_of a b = omega arith

pub pair_fits : (level : Level) (held : Option SeenPair) (moment : ℕ) → ((mark : SeenPair) → held ≡ Some mark → IsPair mark.pair) → IsPair (written_pair level held moment)
pair_fits NoAuthNoPriv held moment fits = record { boots = omega arith; time = omega arith }
pair_fits AuthNoPriv None moment fits = record { boots = omega arith; time = omega arith }
pair_fits AuthPriv None moment fits = record { boots = omega arith; time = omega arith }
pair_fits AuthNoPriv (Some mark) moment fits = record { boots = (fits mark refl).boots; time = least_of _ 2147483647 }
pair_fits AuthPriv (Some mark) moment fits = record { boots = (fits mark refl).boots; time = least_of _ 2147483647 }
