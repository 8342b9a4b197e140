use Rattle.std.proofs.Common.{◌≡◌, ◌-◌, ◌++◌, List, ℕ, drop, arith, rules, slice_range, sym, subst}
use Rattle.snmp_ber.proofs.Oids.{octets_from}
use Rattle.snmp_msg.specs.Variables.{Variable, IsBinding, binding_in}
use Rattle.snmp_msg.proofs.Variables.{Octets, octets_take, octets_drop, none_skipped, none_begins, places_read}
use Rattle.snmp_msg.proofs.binding.read_binding.Goals as goal

pub returns-in_err-binding-clause-none : goal.returns-in_err-binding-clause-none
returns-in_err-binding-clause-none c =
    let octets = slice_range c.args.bytes.now c.args.at c.args.end in
    let none : (v : Variable) (text rest : List ℕ) → IsBinding text v → octets ≡ text ++ rest → ⊥ = none_begins octets (none_skipped (binding_in octets) c.in_err-binding.ensures.after) in
    search rules

pub returns-clause-found : goal.returns-clause-found
returns-clause-found c =
    let w = c.args.bytes.now in
    let b = c.in_ok-binding.binding in
    let all = octets_from w (λ i. omega (arith, c.type_inv.bytes i)) in
    let cut : (at end : ℕ) → Octets (slice_range w at end) = λ at end. octets_take (end - at) (drop at w) (octets_drop at w all) in
    let name : Octets b.name.content.now = subst Octets (sym c.in_ok-binding.ensures.name) (cut b.name.body b.name.end) in
    places_read (slice_range w c.args.at c.args.end) (slice_range w b.end c.args.end) b (cut c.args.at c.args.end) name c.in_ok-binding.ensures.named c.in_ok-binding.ensures.says
