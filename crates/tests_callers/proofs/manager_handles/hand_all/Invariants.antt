use Rattle.std.proofs.Common.{take}
use Rattle.snmp_manager.specs.Runs.{HasTaken, moments_of}
use Rattle.tests_callers.proofs.manager_handles.hand_all.Given as goal

-- the datagrams so far were taken
abbrev pub invariant-loop-now : goal.invariant-loop-now
invariant-loop-now l = HasTaken l.initial.manager.manager (moments_of (take l.now-index l.datagrams)) l.manager.manager
