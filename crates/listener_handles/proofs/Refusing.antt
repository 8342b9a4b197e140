-- Why there is no listener, once its settings are in range and its clocks are read.
use Rattle.std.proofs.Common.{◌≡◌, Result, Ok, Err, subst, sym}
use Rattle.std.specs.Result.{IsErr, IsErrAnd}
use Rattle.engine_clock.specs.Marks.{Marks}
use Rattle.engine_clock.specs.Saved.{Saves}
use Rattle.snmp_handles.specs.declared.fault.CallFault.{CallFault}
use Rattle.snmp_handles.specs.declared.fault.CallFault.TheVariants as faults
use Rattle.listener_handles.specs.Listeners.{IsInRange, ListenerHeld, MakesListener, RefusesListener}
use Rattle.listener_handles.specs.Rules.{RefusesRules}
use Rattle.listener_handles.specs.declared.settings.ListenerSettings.{ListenerSettings}

refuses : (s : ListenerSettings) (clocks : Marks) (fault : CallFault) → IsInRange s → Saves s.clocks_moment s.clocks.now clocks → RefusesRules s.config.now fault → RefusesListener s fault
refuses s clocks (faults.Refused r) range saves refused = (range, refused)
refuses s clocks faults.BadConfiguration range saves refused = (range, (clocks, saves), refused)
refuses s clocks faults.BadArgument range saves refused = absurd refused
refuses s clocks faults.NothingTaken range saves refused = absurd refused
refuses s clocks faults.NotAsked range saves refused = absurd refused
refuses s clocks faults.BadBindings range saves refused = absurd refused
refuses s clocks faults.ShortBuffer range saves refused = absurd refused
refuses s clocks faults.BadClocks range saves refused = absurd refused
refuses s clocks faults.TooManyRequests range saves refused = absurd refused

pub refused_so : (s : ListenerSettings) (clocks : Marks) (fault : CallFault) (r : Result ListenerHeld CallFault) → IsErr r × IsErrAnd r (λ e. e ≡ fault) → IsInRange s → Saves s.clocks_moment s.clocks.now clocks → RefusesRules s.config.now fault → MakesListener s r
refused_so s clocks fault (Ok made) is range saves refused = absurd is.1
refused_so s clocks fault (Err e) is range saves refused = subst (RefusesListener s) (sym is.1) (refuses s clocks fault range saves refused)
