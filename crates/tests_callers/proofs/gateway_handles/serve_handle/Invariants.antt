use Rattle.std.proofs.Common.{◌≡◌, ◌≤◌, List, length}
use Rattle.gate_handles.specs.Calls.{Call, HaveRun, held_after, latest}
use Rattle.tests_callers.proofs.gateway_handles.serve_handle.Given as goal

-- there is a run up to now, of a call for each that came, and it has come no further than this moment
abbrev pub invariant-loop-now : goal.invariant-loop-now
invariant-loop-now l = (calls : List Call) × (length calls ≡ l.now-index) × (latest calls ≤ l.moment) × HaveRun l.initial.gate calls × (held_after l.initial.gate calls ≡ l.gate)
