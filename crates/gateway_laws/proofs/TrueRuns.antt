-- Whole dialogues with a device that answers as RFC 3416 says.
use Rattle.std.specs.Prelude.{◌≡◌, ℕ, List, [], ◌∷◌, map}
use Rattle.std.specs.List.{AllZip}
use Rattle.std.proofs.Common.{subst, sym, ◌∙◌}
use Rattle.snmp_msg.specs.Variables.{Variable, variable_of, variables_of}
use Rattle.snmp_msg.specs.declared.binding.Binding.{Binding}
use Rattle.snmp_msg.specs.declared.pdu.Pdu.{Pdu}
use Rattle.snmp_responder.specs.Instrumentation.{Known}
use Rattle.snmp_responder.specs.Next.{AreNextAnswers}
use Rattle.snmp_walk.specs.Answer.{IsAnswered}
use Rattle.snmp_walk.specs.Dialogue.{AllBegin, IsShown, asks_of, requests, requests_of}
use Rattle.snmp_walk.specs.Run.{IsRun, Step, came, goes}
use Rattle.snmp_walk.specs.declared.operation.ReadOperation.{ReadOperation}
use Rattle.snmp_walk.specs.declared.operation.ReadOperation.TheVariants.{Get, GetNext}
use Rattle.snmp_walk.specs.declared.dialogue.Answered.{Answered}
use Rattle.snmp_walk.specs.declared.dialogue.Answered.TheVariants as answered
use Rattle.snmp_walk.specs.declared.dialogue.Dialogue.{Dialogue}
use Rattle.snmp_walk.proofs.Runs.{run_requests}
use Rattle.gateway_laws.specs.Device.{AreAnswered, IsDevice, IsTrueAnswer}
use Rattle.gateway_laws.specs.Dialogues.{AreGot, IsTrueRun}
use Rattle.gateway_laws.specs.Tracks.{AllTrack}
use Rattle.gateway_laws.proofs.Lists.{all_begin, all_go_on, all_shown, all_take}

module _ (device : Known) (Seen : List ℕ → Type 0) where
  got_each : (asked vs : List Variable) → AreAnswered device Seen (requests_of Get asked) vs → AreGot device Seen (map (λ (v : Variable). v.name) asked) vs
  got_each [] [] all = tt
  got_each [] (v ∷ vs) all = absurd all
  got_each (a ∷ asked) [] all = absurd all
  got_each (a ∷ asked) (v ∷ vs) all = (all.0, got_each asked vs all.1)

  pub next_each : (asked vs : List Variable) → AreAnswered device Seen (requests_of GetNext asked) vs → AreNextAnswers device Seen (map (λ (v : Variable). v.name) asked) vs
  next_each [] [] all = tt
  next_each [] (v ∷ vs) all = absurd all
  next_each (a ∷ asked) [] all = absurd all
  next_each (a ∷ asked) (v ∷ vs) all = (all.0, next_each asked vs all.1)

  -- such a dialogue is a dialogue
  plain_run : (told : List Variable) (steps : List Step) (first last : Dialogue) → IsTrueRun device Seen told first steps last → IsRun Seen told first steps last
  plain_run told [] first last run = run
  plain_run told (step ∷ steps) first last run = (run.1, run.2, plain_run told steps run.1 last run.3)

  module _ (is : IsDevice device) where
    pub tracks_after : (old new : Dialogue) (answer : Pdu) (becomes : Answered) → IsTrueAnswer device (asks_of old.columns.items) answer → IsAnswered Seen answer old new becomes
        → AllTrack device Seen old.columns.items → AllTrack device Seen new.columns.items
    tracks_after old new answer answered.Taken truly step tracks = all_take device Seen is old.columns.items (variables_of answer.list.now) new.columns.items (truly.answered step.0) step.2 tracks
    tracks_after old new answer (answered.Unfit fault) truly step tracks = subst (λ (d : Dialogue). AllTrack device Seen d.columns.items) (sym step.2) tracks
    tracks_after old new answer (answered.Ended number) truly step tracks = absurd (truly.not_version_1 step.1.status.0)
    tracks_after old new answer (answered.Failed failure) truly step tracks = subst (λ (d : Dialogue). AllTrack device Seen d.columns.items) (sym step.3) tracks

    run_tracks : (told : List Variable) (steps : List Step) (first last : Dialogue) → IsTrueRun device Seen told first steps last → AllTrack device Seen first.columns.items → AllTrack device Seen last.columns.items
    run_tracks told [] first last run tracks = subst (λ (d : Dialogue). AllTrack device Seen d.columns.items) (sym run) tracks
    run_tracks told (goes becomes ∷ steps) first last run tracks = run_tracks told steps run.1 last run.3 (all_go_on device Seen is first.columns.items run.1.columns.items run.2.0 tracks)
    run_tracks told (came answer becomes ∷ steps) first last run tracks = run_tracks told steps run.1 last run.3 (tracks_after first run.1 answer becomes run.0 run.2.0 tracks)

    answered_in : (o : ReadOperation) (told asked : List Variable) (steps : List Step) (first last : Dialogue) (response : List Binding) → AllBegin Seen first → requests first ≡ requests_of o asked
        → IsTrueRun device Seen told first steps last → AllZip IsShown last.columns.items response → AreAnswered device Seen (requests_of o asked) (map variable_of response)
    answered_in o told asked steps first last response begin same run shown =
        let tracks = run_tracks told steps first last run (all_begin device Seen first.columns.items begin) in
        let for_same = run_requests Seen told steps first last (plain_run told steps first last run) ∙ same in
        subst (λ (asks : List (ReadOperation × List ℕ)). AreAnswered device Seen asks (map variable_of response)) for_same (all_shown device Seen last.columns.items response tracks shown)

    pub run_got : (told asked : List Variable) (steps : List Step) (first last : Dialogue) (response : List Binding) → AllBegin Seen first → requests first ≡ requests_of Get asked
        → IsTrueRun device Seen told first steps last → AllZip IsShown last.columns.items response → AreGot device Seen (map (λ (v : Variable). v.name) asked) (map variable_of response)
    run_got told asked steps first last response begin same run shown = got_each asked (map variable_of response) (answered_in Get told asked steps first last response begin same run shown)

    pub run_next : (told asked : List Variable) (steps : List Step) (first last : Dialogue) (response : List Binding) → AllBegin Seen first → requests first ≡ requests_of GetNext asked
        → IsTrueRun device Seen told first steps last → AllZip IsShown last.columns.items response → AreNextAnswers device Seen (map (λ (v : Variable). v.name) asked) (map variable_of response)
    run_next told asked steps first last response begin same run shown = next_each asked (map variable_of response) (answered_in GetNext told asked steps first last response begin same run shown)
