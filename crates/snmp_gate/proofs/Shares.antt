-- How many requests wait for a device, step by step.
use Rattle.std.specs.Prelude.{◌≡◌, ◌∷◌, ◌++◌, ◌+◌, ◌<◌, ◌≤◌, ℕ, Bool, List, [], cond, nat_eq, slice_set}
use Rattle.std.specs.List.{sum_by}
use Rattle.std.proofs.Common.{refl, sym, ap, subst, ◌∙◌, arith, inl, inr}
use Rattle.std.proofs.lemmas.Bool.Decides.{eqb_tells, leb_tells}
use Rattle.std.proofs.lemmas.List.Sums.{sum_by-append, sum_by-cons, sum_by-remove, sum_by-set}
use Rattle.snmp_gate.specs.Bounds.{AreShared, IsForNoOther, IsShareFull, for_device, waiting_for}
use Rattle.snmp_gate.specs.Groups.{Group, IsAnswered, IsAt, IsJoined, IsLeft, IsWorked, begun, group_of, groups_of, with_messages, with_work}
use Rattle.snmp_gate.specs.Sending.{IsOpenAt, Requests, SetsAsked}
use Rattle.snmp_gate.specs.Taking.{WorkSaysSame}
use Rattle.snmp_gate.specs.declared.limits.GateLimits.{GateLimits}
use Rattle.snmp_gate.specs.declared.requests.Joined.{Joined}
use Rattle.snmp_gate.specs.declared.requests.Joined.TheVariants as joined
use Rattle.snmp_gate.specs.declared.requests.WaitingRequest.{WaitingRequest}
use Rattle.snmp_gate.specs.declared.waiting_message.WaitingMessage.{WaitingMessage}
use Rattle.snmp_gate.specs.declared.work.OpenRequest.{OpenRequest}
use Rattle.snmp_gate.specs.declared.work.Work.{Work}
use Rattle.snmp_gate.specs.declared.work.Work.TheVariants.{Open, Ends}

abbrev pub Waiting : Type 0
Waiting = Group WaitingMessage Work

abbrev of_group : ℕ → Waiting → ℕ
of_group device g = for_device device g.work

-- another group stands at a place, and waits for no other device
pub shared_at : (limits : GateLimits) (gs : List Waiting) (place : ℕ) (was is : Waiting) → IsAt gs place was → IsForNoOther was.work is.work → AreShared limits gs → AreShared limits (slice_set gs place is)
shared_at limits gs place was is at other shared device =
    omega (arith, sum_by-set (of_group device) gs place is was at.within, ap (of_group device) at.group_is, other device, shared device)

pub shared_joined : (limits : GateLimits) (most : ℕ) (old : List Waiting) (place : ℕ) (m : WaitingMessage) (new : List Waiting) (becomes : Joined) → IsJoined most old place m new becomes → AreShared limits old → AreShared limits new
shared_joined limits most old place m new joined.Joined (g, at, room, is) shared = subst (AreShared limits) (sym is) (shared_at limits old place g (with_messages g (g.messages ++ m ∷ [])) at (λ d. omega arith) shared)
shared_joined limits most old place m new joined.NoRoom (g, at, room, is) shared = subst (AreShared limits) (sym is) shared

abbrev one_if : Bool → ℕ
one_if b = cond b 1 0

below : (n m : ℕ) → (m ≤ n → ⊥) → n < m
below n m not = elim (leb_tells m n) [ inl (test, le) ↦ absurd (not le) | inr (test, lt) ↦ lt ]

one_more : (limits : GateLimits) (gs : List Waiting) (w : Work) → (IsShareFull limits.waiting_per_device gs w → ⊥) → AreShared limits gs → (device : ℕ) → waiting_for device gs + for_device device w ≤ limits.waiting_per_device
one_more limits gs (Open o) room shared device = elim (eqb_tells device o.device) [
  | inl (test, same) ↦
      let one : for_device device (Open o) ≡ 1 = ap one_if test in
      omega (arith, one, subst (λ (d : ℕ). waiting_for d gs < limits.waiting_per_device) (sym same) (below (waiting_for o.device gs) limits.waiting_per_device room))
  | inr (test, other) ↦
      let none : for_device device (Open o) ≡ 0 = ap one_if test in
      omega (arith, none, shared device)
]
one_more limits gs (Ends e) room shared device = omega (arith, shared device)

pub shared_begun : (limits : GateLimits) (gs new : List Waiting) (n : ℕ) (m : WaitingMessage) (w : Work) → new ≡ gs ++ begun n m w ∷ [] → (IsShareFull limits.waiting_per_device gs w → ⊥) → AreShared limits gs → AreShared limits new
shared_begun limits gs new n m w is room shared = subst (AreShared limits) (sym is) (λ device.
    omega (arith, sum_by-append (of_group device) gs (begun n m w ∷ []), one_more limits gs w room shared device))

pub shared_worked : (limits : GateLimits) (old new : List Waiting) (place : ℕ) (before after : Work) → IsWorked old place before after new → IsForNoOther before after → AreShared limits old → AreShared limits new
shared_worked limits old new place before after w other shared = subst (AreShared limits) (sym w.new_is)
    (shared_at limits old place w.group (with_work w.group after) w.at (λ d. omega (arith, other d, ap (for_device d) w.before_is)) shared)

left_shared : (limits : GateLimits) (old new : List Waiting) (place : ℕ) (g : Waiting) (others : List WaitingMessage) → IsAt old place g → IsLeft old place g others new → AreShared limits old → AreShared limits new
left_shared limits old new place g [] at is shared = subst (AreShared limits) (sym is) (λ device.
    omega (arith, sum_by-remove (of_group device) old place g at.within, shared device))
left_shared limits old new place g (next ∷ others) at is shared = subst (AreShared limits) (sym is) (shared_at limits old place g (with_messages g (next ∷ others)) at (λ d. omega arith) shared)

pub shared_answered : (limits : GateLimits) (old new : List Waiting) (place : ℕ) (m : WaitingMessage) → IsAnswered old place m new → AreShared limits old → AreShared limits new
shared_answered limits old new place m a shared = left_shared limits old new place a.group a.others a.at a.left shared

-- requests, and the groups of their messages
pub waiting_of : (device : ℕ) (rs : List (WaitingRequest WaitingMessage Work)) → sum_by (λ (r : WaitingRequest WaitingMessage Work). for_device device r.work) rs ≡ waiting_for device (groups_of rs)
waiting_of device [] = refl
waiting_of device (r ∷ rs) = omega (arith, sum_by-cons (λ (x : WaitingRequest WaitingMessage Work). for_device device x.work) r rs, sum_by-cons (of_group device) (group_of r) (groups_of rs), waiting_of device rs)

-- ---- what becomes of a request

abbrev if_device : ℕ → ℕ → ℕ
if_device device k = cond (nat_eq device k) 1 0

pub same_device : (o a : OpenRequest) → a.device ≡ o.device → IsForNoOther (Open o) (Open a)
same_device o a same device =
    let is : for_device device (Open a) ≡ for_device device (Open o) = ap (if_device device) same in
    omega (arith, is)

pub same_no_other : (w x : Work) → x ≡ w → IsForNoOther w x
same_no_other w x same device = omega (arith, ap (for_device device) same)

pub says_no_other : (w x : Work) → WorkSaysSame w x → IsForNoOther w x
says_no_other (Open o) (Open a) same = same_device o a same.device
says_no_other (Open o) (Ends e) same = same_no_other (Open o) (Ends e) same
says_no_other (Ends e) x same = same_no_other (Ends e) x same

-- a request whose device is asked now
pub asked_no_other : (rs new : Requests) (place id device number : ℕ) (sets : SetsAsked rs place id new) → IsOpenAt rs place device number → IsForNoOther sets.request.work sets.work
asked_no_other rs new place id device number sets at =
    let o = (at sets.request).1 in
    let was = ap (λ (r : WaitingRequest WaitingMessage Work). r.work) sets.is ∙ o.1 in
    let asked = sets.asked o.0 was in
    subst (λ (w : Work). IsForNoOther w sets.work) (sym was) (subst (IsForNoOther (Open o.0)) (sym asked.1) (same_device o.0 asked.0 asked.3))
