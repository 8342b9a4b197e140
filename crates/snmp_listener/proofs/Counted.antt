-- How many datagrams were dropped for each reason.
use Rattle.std.specs.Prelude.{◌≡◌, ◌+◌, ◌<◌, ◌%◌, ◌^◌, ℕ, Bool, cond, List, [], ◌∷◌, Option, None, Some, length, replicate, slice_index}
use Rattle.std.proofs.Common.{ap, arith, inl, inr, subst, sym, ◌∙◌}
use Rattle.std.proofs.Math.Nat.{mod-add-mod}
use Rattle.std.proofs.lemmas.Bool.Decides.{eqb_tells}
use Rattle.std.proofs.lemmas.List.{get_or-replicate, get_or-set_other, get_or-set_same, length-replicate, length-set}
use Rattle.snmp_message.specs.Numbers.{refusal_number}
use Rattle.snmp_message.specs.declared.refusal.Refusal.{Refusal}
use Rattle.snmp_message.specs.declared.refusal.Refusal.TheVariants.{BadPdu, BadScoped, BadVersion, ClockExhausted, DecryptionError, InvalidFlags, NotInWindow, NotMessage, NotPdu, NotScoped, NotSecurity, OutOfMemory, TooLarge, UnknownEngine, UnknownModel, UnknownUser, UnsupportedLevel, WrongDigest}
use Rattle.snmp_listener.specs.Counting.{counted, counts_after, place_of, places}
use Rattle.snmp_listener.specs.Listening.{ListenerState, reason_of}
use Rattle.snmp_listener.specs.Runs.{Event, IsRun, counts_for, finds_no_memory, takes, times_dropped}
use Rattle.snmp_listener.specs.declared.dropped.Dropped.{Dropped}
use Rattle.snmp_listener.specs.declared.dropped.Dropped.TheVariants as drops

number_within : (r : Refusal) → refusal_number r < places
number_within NotMessage = omega arith
number_within BadVersion = omega arith
number_within NotSecurity = omega arith
number_within NotScoped = omega arith
number_within NotPdu = omega arith
number_within UnknownEngine = omega arith
number_within UnknownUser = omega arith
number_within UnsupportedLevel = omega arith
number_within WrongDigest = omega arith
number_within NotInWindow = omega arith
number_within DecryptionError = omega arith
number_within BadScoped = omega arith
number_within BadPdu = omega arith
number_within OutOfMemory = omega arith
number_within ClockExhausted = omega arith
number_within TooLarge = omega arith
number_within UnknownModel = omega arith
number_within InvalidFlags = omega arith

place_within : (why : Dropped) → place_of why < places
place_within (drops.Refused r) = number_within r
place_within drops.OtherPdu = omega arith
place_within drops.LowLevel = omega arith
place_within drops.OtherAddress = omega arith
place_within drops.OutsideView = omega arith
place_within drops.Copy = omega arith
place_within drops.NoRoom = omega arith

-- the counters are of as many places, and that of this reason has counted so many
record Counts (why : Dropped) (times : ℕ) (counts : List ℕ) : Type 0 where
  pub long : length counts ≡ places
  pub value : slice_index counts (place_of why) ≡ times % 2 ^ 64

one_more : (why : Dropped) (times : ℕ) (counts : List ℕ) (reason : Option Dropped) → Counts why times counts → Counts why (times + counts_for why reason) (counts_after counts reason)
one_more why times counts None is = record {
  long = is.long;
  value = is.value ∙ ap (λ (n : ℕ). n % 2 ^ 64) (omega arith);
}
one_more why times counts (Some other) is =
    let next = (slice_index counts (place_of other) + 1) % 2 ^ 64 in
    record {
      long = length-set counts (place_of other) next ∙ is.long;
      value = elim (eqb_tells (place_of why) (place_of other)) [
        | inl (test, same) ↦
            ap (λ (n : ℕ). slice_index (counted counts other) n) same
            ∙ get_or-set_same counts (place_of other) next 0 (omega (arith, place_within other, is.long))
            ∙ ap (λ (n : ℕ). (n + 1) % 2 ^ 64) (ap (λ (n : ℕ). slice_index counts n) (sym same) ∙ is.value)
            ∙ mod-add-mod times (2 ^ 64) 1
            ∙ ap (λ (b : Bool). (times + cond b 1 0) % 2 ^ 64) (sym test)
        | inr (test, differs) ↦
            get_or-set_other counts (place_of other) (place_of why) next 0 differs
            ∙ is.value
            ∙ ap (λ (n : ℕ). n % 2 ^ 64) (omega arith)
            ∙ ap (λ (b : Bool). (times + cond b 1 0) % 2 ^ 64) (sym test)
      ];
    }

counts_run : (why : Dropped) (since : ℕ) (first : ListenerState) (events : List Event) (last : ListenerState) → first.counts ≡ replicate places 0 → IsRun since first events last → Counts why (times_dropped why events) last.counts
counts_run why since first [] last none run = subst (λ (l : ListenerState). Counts why 0 l.counts) (sym run) (subst (Counts why 0) (sym none) (record {
  long = length-replicate {A = ℕ} places 0;
  value = get_or-replicate {A = ℕ} places (place_of why) 0 0 (place_within why) ∙ omega arith;
}))
counts_run why since first (takes now from w salt what clocks ∷ before) last none run =
    subst (Counts why (times_dropped why before + counts_for why (reason_of what))) (sym run.3.2)
    (one_more why (times_dropped why before) run.0.counts (reason_of what) (counts_run why since first before run.0 none run.1))
counts_run why since first (finds_no_memory ∷ before) last none run = counts_run why since first before last none run

pub counted_run : (why : Dropped) (since : ℕ) (first : ListenerState) (events : List Event) (last : ListenerState) → first.counts ≡ replicate places 0 → IsRun since first events last → slice_index last.counts (place_of why) ≡ times_dropped why events % 2 ^ 64
counted_run why since first events last none run = (counts_run why since first events last none run).value
