use Rattle.std.proofs.Common.{Bool, List, map, ap, ◌∙◌}
use Rattle.std.specs.Prelude.{if◌then◌else◌}
use Rattle.std.specs.List.{list_any}
use Rattle.snmpsec_access.specs.declared.viewer.Seen.{Seen}
use Rattle.snmpsec_access.specs.Rising.{decided_of, decision_of}
use Rattle.snmpsec_access.specs.Seen.{includes}
use Rattle.snmpsec_access.proofs.Seens.{any_of}
use Rattle.snmpsec_output.proofs.sees.list_seen.Goals as goal

pub returns-clause-seen : goal.returns-clause-seen
returns-clause-seen c =
    let model = c.args.model in
    let name = c.args.name.now in (
      map (decided_of model name) c.in_ok-seen.seen.items,
      c.in_ok-seen.ensures,
      c.out.ensures.status ∙ c.seen_status.ensures
          ∙ ap (λ (b : Bool). if b then 0 else 1) (ap (λ (seen : List Seen). list_any (λ (s : Seen). includes (decision_of s.deciding)) seen) c.deref-2.ensures.value ∙ any_of model name c.in_ok-seen.seen.items),
    )
