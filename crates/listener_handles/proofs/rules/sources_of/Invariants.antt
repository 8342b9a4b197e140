use Rattle.std.proofs.Common.{◌≡◌, ℕ, map, take}
use Rattle.std.specs.Global.{Vec}
use Rattle.listener_handles.specs.declared.settings.NotifyingSource.{NotifyingSource}
use Rattle.listener_handles.proofs.rules.sources_of.Given as goal

abbrev pub invariant-loop-source : goal.invariant-loop-source
invariant-loop-source l = map (λ (v : Vec ℕ). v.items) l.list.items ≡ map (λ (s : NotifyingSource). s.octets.now) (take l.source-index l.sources)
