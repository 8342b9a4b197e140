-- Rows of the table, for the functions that answer them.
use Rattle.std.proofs.Common.{◌≡◌, ℕ, List, Some, refl, sym, ap}
use Rattle.std.specs.Prelude.{◌≢◌, Ok, Err, IsSomeAnd}
use Rattle.snmp_message.specs.Level.{level_of}
use Rattle.snmp_message.specs.Numbers.{in_table}
use Rattle.snmp_message.specs.declared.refusal.Refusal.{Refusal}
use Rattle.snmp_message.specs.declared.refusal.Refusal.TheVariants.{NotMessage, BadVersion, NotSecurity, NotScoped, NotPdu, UnknownEngine, UnknownUser, UnsupportedLevel, WrongDigest, NotInWindow, DecryptionError, BadScoped, BadPdu, OutOfMemory, ClockExhausted, TooLarge, UnknownModel, InvalidFlags}
use Rattle.usm_core.specs.Table.{holds, fails, refused, refusal_answer}
use Rattle.usm_core.specs.Verified.{Verified}
use Rattle.snmp_incoming.specs.Texts.{HasTag}
use Rattle.snmp_incoming.specs.Outcome.{Given, ReadsText}
use Rattle.snmp_incoming.specs.Answers.{RefusesText}

-- ---- refusals down to the digest

-- each refusal but out of memory is an answer of a table
pub is_in_table : (r : Refusal) → r ≢ OutOfMemory → in_table r ≡ Some r
is_in_table NotMessage other = refl
is_in_table BadVersion other = refl
is_in_table NotSecurity other = refl
is_in_table NotScoped other = refl
is_in_table NotPdu other = refl
is_in_table UnknownEngine other = refl
is_in_table UnknownUser other = refl
is_in_table UnsupportedLevel other = refl
is_in_table WrongDigest other = refl
is_in_table NotInWindow other = refl
is_in_table DecryptionError other = refl
is_in_table BadScoped other = refl
is_in_table BadPdu other = refl
is_in_table OutOfMemory other = absurd (other refl)
is_in_table ClockExhausted other = refl
is_in_table TooLarge other = refl
is_in_table UnknownModel other = refl
is_in_table InvalidFlags other = refl

pub same_refused : (r : Refusal) → r ≢ OutOfMemory → refused {X = Given} (in_table r) ≡ Some (Err r)
same_refused r other = ap refused (is_in_table r other)

-- ---- rows on the ScopedPDU

-- what refuses the text is a row of the table
pub text_refused : (v : Verified) (text : List ℕ) (r : Refusal) → RefusesText text r → IsSomeAnd (refusal_answer r) (ReadsText v text)
unfolding ReadsText
text_refused v text NotMessage none = absurd none
text_refused v text BadVersion none = absurd none
text_refused v text NotSecurity none = absurd none
text_refused v text NotScoped none = absurd none
text_refused v text NotPdu none = absurd none
text_refused v text UnknownEngine none = absurd none
text_refused v text UnknownUser none = absurd none
text_refused v text UnsupportedLevel none = absurd none
text_refused v text WrongDigest none = absurd none
text_refused v text NotInWindow none = absurd none
text_refused v text DecryptionError none = absurd none
text_refused v text BadScoped none = fails none
text_refused v text BadPdu none = holds none.0 (fails none.1)
text_refused v text OutOfMemory none = absurd none
text_refused v text ClockExhausted none = absurd none
text_refused v text TooLarge none = absurd none
text_refused v text UnknownModel none = absurd none
text_refused v text InvalidFlags none = absurd none

pub text_read : (v : Verified) (text : List ℕ) (given : Given) → HasTag text given.tag → given.engine ≡ v.fields.engine → given.user ≡ v.fields.user → given.level ≡ level_of v.parts.header
    → given.id ≡ v.parts.header.id → given.max_size ≡ v.parts.header.max_size → given.text ≡ text → ReadsText v text (Ok given)
unfolding ReadsText
text_read v text given tag engine user level id max_size same =
    holds tag.0 (holds tag.1 (λ i. Ok (record { engine = engine i; user = user i; level = level i; id = id i; max_size = max_size i; tag = sym tag.2 i; text = same i })))
