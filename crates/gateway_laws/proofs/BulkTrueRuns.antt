-- Whole dialogues for a GetBulkRequest with a device that answers as RFC 3416 says.
use Rattle.std.specs.Prelude.{◌≡◌, ◌<◌, ℕ, zero, suc, List, [], ◌∷◌, All, map, max, slice_index_or}
use Rattle.std.specs.List.{AllZip}
use Rattle.std.proofs.Common.{ap, inl, inr, refl, subst, sym, ◌∙◌}
use Rattle.snmp_msg.specs.Variables.{Variable, variables_of}
use Rattle.snmp_msg.specs.declared.pdu.Pdu.{Pdu}
use Rattle.snmp_responder.specs.Instrumentation.{Known}
use Rattle.snmp_walk.specs.BulkAnswer.{AllSaySame}
use Rattle.snmp_walk.specs.BulkAnswered.{IsBulkAnswered, is_next, turns_of}
use Rattle.snmp_walk.specs.BulkAsk.{Chooses}
use Rattle.snmp_walk.specs.BulkColumn.{IsNew, bulk_request}
use Rattle.snmp_walk.specs.BulkDialogue.{BulkAllGoOn, HasGathered, HasRepetition, IsBulkNext, IsEnough, SameLimits, bulk_requests, bulk_requests_of}
use Rattle.snmp_walk.specs.BulkRun.{BulkStep, IsBulkRun, came, goes}
use Rattle.snmp_walk.specs.BulkSteps.{BulkGoesOn, ColumnWaits, SaysSame}
use Rattle.snmp_walk.specs.Front.{IsFront}
use Rattle.snmp_walk.specs.declared.bulk_column.BulkColumn.{BulkColumn}
use Rattle.snmp_walk.specs.declared.bulk_dialogue.BulkAnswered.{BulkAnswered}
use Rattle.snmp_walk.specs.declared.bulk_dialogue.BulkAnswered.TheVariants as answered
use Rattle.snmp_walk.specs.declared.bulk_dialogue.BulkDialogue.{BulkDialogue}
use Rattle.snmp_walk.specs.declared.bulk_dialogue.BulkNext.{BulkNext}
use Rattle.snmp_walk.specs.declared.bulk_dialogue.BulkNext.TheVariants as next
use Rattle.snmp_walk.proofs.BulkGoing.{StaysWaits, chooses_each}
use Rattle.snmp_walk.proofs.BulkRuns.{bulk_run_requests}
use Rattle.snmp_walk.proofs.Zipped.{zip_all}
use Rattle.gateway_laws.specs.Bulk.{IsFrontOfBulk, IsTrueBulkAnswer, IsTrueBulkRun}
use Rattle.gateway_laws.specs.BulkTracks.{AllBulkTrack, BulkColumnTracks}
use Rattle.gateway_laws.specs.Device.{IsDevice}
use Rattle.gateway_laws.proofs.BulkFronts.{front_of_bulk}
use Rattle.gateway_laws.proofs.Repetitions.{all_want, enough_known}
use Rattle.gateway_laws.proofs.BulkReads.{read_tracks}
use Rattle.gateway_laws.proofs.BulkTracks.{goes_on_bulk, new_tracks, said_tracks, waits_tracks}

-- what a dialogue is for
pub record SameRequest (old new : BulkDialogue) : Type 0 where
  pub non_repeaters : new.non_repeaters ≡ old.non_repeaters
  pub max_repetitions : new.max_repetitions ≡ old.max_repetitions

limits_same : (old new : BulkDialogue) → SameLimits old new → SameRequest old new
limits_same old new s = record { non_repeaters = s.non_repeaters; max_repetitions = s.max_repetitions }

itself : (old new : BulkDialogue) → new ≡ old → SameRequest old new
itself old new same = record { non_repeaters = ap (λ (d : BulkDialogue). d.non_repeaters) same; max_repetitions = ap (λ (d : BulkDialogue). d.max_repetitions) same }

then_same : (a b c : BulkDialogue) → SameRequest a b → SameRequest b c → SameRequest a c
then_same a b c f s = record { non_repeaters = s.non_repeaters ∙ f.non_repeaters; max_repetitions = s.max_repetitions ∙ f.max_repetitions }

pub next_same : (Seen : List ℕ → Type 0) (old new : BulkDialogue) (becomes : BulkNext) → IsBulkNext Seen old new becomes → SameRequest old new
next_same Seen old new (next.Asks ask) is = limits_same old new is.0
next_same Seen old new _ is = limits_same old new is.0

pub answered_same : (Seen : List ℕ → Type 0) (answer : Pdu) (old new : BulkDialogue) (becomes : BulkAnswered) → IsBulkAnswered Seen answer old new becomes → SameRequest old new
answered_same Seen answer old new (answered.Unfit fault) is = limits_same old new is.3.limits
answered_same Seen answer old new answered.Less is = record { non_repeaters = is.1.first; max_repetitions = is.1.most }
answered_same Seen answer old new answered.Front is = itself old new is.1.2
answered_same Seen answer old new answered.TooBig is = itself old new is.1.2
answered_same Seen answer old new (answered.Failed column) is = itself old new is.4
answered_same Seen answer old new _ is = limits_same old new is.3

-- the names that the columns are for
firsts : (cs : List BulkColumn) → map (λ (c : BulkColumn). c.first) cs ≡ map (λ (request : List ℕ × ℕ). request.0) (map bulk_request cs)
firsts [] = refl
firsts (c ∷ cs) = ap (λ (names : List (List ℕ)). c.first ∷ names) (firsts cs)

wanted_names : (most : ℕ) (vs : List Variable) → map (λ (request : List ℕ × ℕ). request.0) (map (λ (v : Variable). (v.name, most)) vs) ≡ map (λ (v : Variable). v.name) vs
wanted_names most [] = refl
wanted_names most (v ∷ vs) = ap (λ (names : List (List ℕ)). v.name ∷ names) (wanted_names most vs)

asked_names : (n most : ℕ) (vs : List Variable) → map (λ (request : List ℕ × ℕ). request.0) (bulk_requests_of n most vs) ≡ map (λ (v : Variable). v.name) vs
asked_names zero most [] = refl
asked_names zero most (v ∷ vs) = wanted_names most (v ∷ vs)
asked_names (suc n) most [] = refl
asked_names (suc n) most (v ∷ vs) = ap (λ (names : List (List ℕ)). v.name ∷ names) (asked_names n most vs)

pub column_names : (n most : ℕ) (asked : List Variable) (cs : List BulkColumn) → map bulk_request cs ≡ bulk_requests_of n most asked → map (λ (c : BulkColumn). c.first) cs ≡ map (λ (v : Variable). v.name) asked
column_names n most asked cs same = firsts cs ∙ ap (map (λ (request : List ℕ × ℕ). request.0)) same ∙ asked_names n most asked

module _ (device : Known) (Seen : List ℕ → Type 0) where
  -- such a dialogue is a dialogue
  plain_run : (told : List Variable) (steps : List BulkStep) (first last : BulkDialogue) → IsTrueBulkRun device Seen told first steps last → IsBulkRun Seen told first steps last
  plain_run told [] first last run = run
  plain_run told (step ∷ steps) first last run = (run.1, run.2, plain_run told steps run.1 last run.3)

  run_same : (told : List Variable) (steps : List BulkStep) (first last : BulkDialogue) → IsTrueBulkRun device Seen told first steps last → SameRequest first last
  run_same told [] first last run = itself first last run
  run_same told (goes becomes ∷ steps) first last run = then_same first run.1 last (next_same Seen first run.1 becomes run.2) (run_same told steps run.1 last run.3)
  run_same told (came answer becomes ∷ steps) first last run = then_same first run.1 last (answered_same Seen answer first run.1 becomes run.2.0) (run_same told steps run.1 last run.3)

  pub all_new : (cs : List BulkColumn) → All IsNew cs → AllBulkTrack device Seen cs
  all_new cs all k d below = new_tracks device Seen (slice_index_or cs k d) (all k d below)

  pub all_say : (olds news : List BulkColumn) → AllSaySame olds news → AllBulkTrack device Seen olds → AllBulkTrack device Seen news
  all_say olds news same tracks = zip_all SaysSame (BulkColumnTracks device Seen) (BulkColumnTracks device Seen) (said_tracks device Seen) olds news same tracks

  all_wait : (olds news : List BulkColumn) → AllZip ColumnWaits olds news → AllBulkTrack device Seen olds → AllBulkTrack device Seen news
  all_wait olds news waits tracks = zip_all ColumnWaits (BulkColumnTracks device Seen) (BulkColumnTracks device Seen) (waits_tracks device Seen) olds news waits tracks

  stays_waits : (old new : BulkColumn) → StaysWaits old new → BulkColumnTracks device Seen old → BulkColumnTracks device Seen new
  stays_waits old new (inl same) t = subst (BulkColumnTracks device Seen) (sym same) t
  stays_waits old new (inr waits) t = waits_tracks device Seen old new waits t

  all_chosen : (non_repeaters fewest number room : ℕ) (olds news : List BulkColumn) → Chooses non_repeaters fewest number room olds news → AllBulkTrack device Seen olds → AllBulkTrack device Seen news
  all_chosen non_repeaters fewest number room olds news chooses tracks =
      zip_all StaysWaits (BulkColumnTracks device Seen) (BulkColumnTracks device Seen) stays_waits olds news (chooses_each non_repeaters fewest number room olds news chooses) tracks

  module _ (is : IsDevice device) where
    all_go_on : (olds news : List BulkColumn) → BulkAllGoOn Seen olds news → AllBulkTrack device Seen olds → AllBulkTrack device Seen news
    all_go_on olds news going tracks = zip_all (BulkGoesOn Seen) (BulkColumnTracks device Seen) (BulkColumnTracks device Seen) (goes_on_bulk device Seen is) olds news going tracks

    pub goes_tracks : (old new : BulkDialogue) (becomes : BulkNext) → IsBulkNext Seen old new becomes → AllBulkTrack device Seen old.columns.items → AllBulkTrack device Seen new.columns.items
    goes_tracks old new (next.Asks ask) step tracks =
        let more = step.1 in
        let chosen = more.chosen in
        all_chosen old.non_repeaters chosen.fewest 0 (max old.at_once 1) more.columns new.columns.items chosen.chooses (all_go_on old.columns.items more.columns more.goes_on tracks)
    goes_tracks old new _ step tracks = all_go_on old.columns.items new.columns.items step.1 tracks

    pub came_tracks : (old new : BulkDialogue) (answer : Pdu) (becomes : BulkAnswered) → IsTrueBulkAnswer device old answer → IsBulkAnswered Seen answer old new becomes
        → AllBulkTrack device Seen old.columns.items → AllBulkTrack device Seen new.columns.items
    came_tracks old new answer answered.Taken truly step tracks =
        read_tracks device Seen is (is_next old.ask) old.columns.items (turns_of old) (variables_of answer.list.now) new.columns.items step.2 (truly.bindings step.0) tracks
    came_tracks old new answer (answered.Unfit fault) truly step tracks = all_say old.columns.items new.columns.items step.3.columns tracks
    came_tracks old new answer answered.Less truly step tracks = all_wait old.columns.items new.columns.items step.1.waits tracks
    came_tracks old new answer (answered.Ended number) truly step tracks = absurd (truly.not_version_1 step.0)
    came_tracks old new answer (answered.Failed column) truly step tracks = subst (λ (d : BulkDialogue). AllBulkTrack device Seen d.columns.items) (sym step.4) tracks
    came_tracks old new answer _ truly step tracks = subst (λ (d : BulkDialogue). AllBulkTrack device Seen d.columns.items) (sym step.1.2) tracks

    run_tracks : (told : List Variable) (steps : List BulkStep) (first last : BulkDialogue) → IsTrueBulkRun device Seen told first steps last → AllBulkTrack device Seen first.columns.items
        → AllBulkTrack device Seen last.columns.items
    run_tracks told [] first last run tracks = subst (λ (d : BulkDialogue). AllBulkTrack device Seen d.columns.items) (sym run) tracks
    run_tracks told (goes becomes ∷ steps) first last run tracks = run_tracks told steps run.1 last run.3 (goes_tracks first run.1 becomes run.2 tracks)
    run_tracks told (came answer becomes ∷ steps) first last run tracks = run_tracks told steps run.1 last run.3 (came_tracks first run.1 answer becomes run.0 run.2.0 tracks)

    -- a dialogue that has enough has a repetition, if one is asked
    pub run_enough : (told asked : List Variable) (steps : List BulkStep) (first last : BulkDialogue) → All IsNew first.columns.items → bulk_requests first ≡ bulk_requests_of first.non_repeaters first.max_repetitions asked
        → 0 < first.max_repetitions → IsTrueBulkRun device Seen told first steps last → IsEnough last → ¬ HasGathered last.gathered last.columns.items → HasRepetition last.columns.items
    run_enough told asked steps first last begin same some run enough not_gathered =
        let tracks = run_tracks told steps first last run (all_new first.columns.items begin) in
        let requests = bulk_run_requests Seen told steps first last (plain_run told steps first last run) ∙ same in
        enough_known device Seen last tracks (all_want first.non_repeaters first.max_repetitions asked last.columns.items some requests) enough not_gathered

    pub run_front : (told asked : List Variable) (steps : List BulkStep) (first last : BulkDialogue) (vs : List Variable) → All IsNew first.columns.items
        → bulk_requests first ≡ bulk_requests_of first.non_repeaters first.max_repetitions asked → IsTrueBulkRun device Seen told first steps last
        → IsFront last.non_repeaters last.max_repetitions last.columns.items vs
        → IsFrontOfBulk device Seen (map (λ (v : Variable). v.name) asked) first.non_repeaters first.max_repetitions vs
    run_front told asked steps first last vs begin same run front =
        let tracks = run_tracks told steps first last run (all_new first.columns.items begin) in
        let requests = bulk_run_requests Seen told steps first last (plain_run told steps first last run) ∙ same in
        let names = column_names first.non_repeaters first.max_repetitions asked last.columns.items requests in
        let limits = run_same told steps first last run in
        subst (λ (n : ℕ). IsFrontOfBulk device Seen (map (λ (v : Variable). v.name) asked) n first.max_repetitions vs) limits.non_repeaters
        (subst (λ (n : ℕ). IsFrontOfBulk device Seen (map (λ (v : Variable). v.name) asked) last.non_repeaters n vs) limits.max_repetitions
        (subst (λ (all : List (List ℕ)). IsFrontOfBulk device Seen all last.non_repeaters last.max_repetitions vs) names
        (front_of_bulk device Seen is last.non_repeaters last.max_repetitions last.columns.items vs tracks front)))
