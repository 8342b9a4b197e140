-- Each call on a gateway or an originator, whatever it answers, goes on its run.
use Rattle.std.specs.Prelude.{◌≤◌, ◌⊎◌, ℕ, List, ◌∷◌, Result, Ok, Err, IfOk, OnErr}
use Rattle.std.proofs.Common.{◌≡◌, refl, subst, sym, inl, inr}
use Rattle.snmp_gate.specs.Due.{AreIdle}
use Rattle.snmp_gate.specs.History.{Happening}
use Rattle.snmp_gate.specs.Runs.{Event, IsRun, client_comes, device_comes, finds_no_memory, goes_out, moment_of}
use Rattle.snmp_gate.specs.Waiting.{ClientHappens, DeviceHappens, Fresh, GateStands, IsAsBefore, SendHappens, Stays}
use Rattle.snmp_gate.specs.declared.gate.ClientTaken.{ClientTaken}
use Rattle.snmp_gate.specs.declared.gate.DeviceTaken.{DeviceTaken}
use Rattle.snmp_gate.specs.declared.gate.Gate.{Gate}
use Rattle.snmp_gate.specs.declared.gate.Sent.{Sent}
use Rattle.snmp_gate.specs.declared.gate.Sent.TheVariants.{Nothing}
use Rattle.snmp_forward.specs.InformRuns.{TakesOne}
use Rattle.snmp_forward.specs.InformStanding.{AreAsBefore}
use Rattle.snmp_forward.specs.Originating as originating
use Rattle.snmp_forward.specs.Originating.{IsOriginatorRun, IsSameOriginator, OriginatorEvent, Originates, receives, trap_comes}
use Rattle.snmp_forward.specs.Runs.{TakesTrap}
use Rattle.snmp_forward.specs.Standing as forwarders
use Rattle.snmp_forward.specs.declared.forwarder.Forwarder.{Forwarder}
use Rattle.snmp_forward.specs.declared.forwarder.TrapTaken.{TrapTaken}
use Rattle.snmp_forward.specs.declared.informs.Informs.{Informs}
use Rattle.snmp_forward.specs.declared.informs.ReceiverTaken.{ReceiverTaken}
use Rattle.snmp_forward.specs.declared.originator.Originated.{Originated}
use Rattle.snmp_forward.specs.declared.originator.Originator.{Originator}

-- ---- a gateway

abbrev ServedBy : (Event → Type 0) → Gate → ℕ → Gate → Type 0
ServedBy P old now new = (first : Gate) (events : List Event) → IsRun first events old → moment_of events ≤ now → (event : Event) × P event × (moment_of (event ∷ events) ≡ now) × IsRun first (event ∷ events) new

pub client : (E : Type 0) (old new : Gate) (now : ℕ) (from w : List ℕ) (result : Result ClientTaken E)
    → IfOk result (λ taken. (since : ℕ) (before : List Happening) → since ≤ now → GateStands since before old → ClientHappens old now before from w taken new)
    → Stays old new → OnErr result (IsAsBefore now old new) → ServedBy (λ event. (event ≡ finds_no_memory now) ⊎ ((taken : ClientTaken) × (event ≡ client_comes now from w taken))) old now new
client E old new now from w (Ok taken) happens stays err = λ first events run le. (client_comes now from w taken, inr (taken, refl), refl, (le, (old, run, (stays, happens))))
client E old new now from w (Err e) happens stays err = λ first events run le. (finds_no_memory now, inl refl, refl, (le, (old, run, stays, err)))

pub device : (E : Type 0) (old new : Gate) (now number : ℕ) (w : List ℕ) (result : Result DeviceTaken E)
    → IfOk result (λ taken. (since : ℕ) (before : List Happening) → since ≤ now → GateStands since before old → DeviceHappens old now before number w taken new)
    → Stays old new → OnErr result (IsAsBefore now old new) → ServedBy (λ event. (event ≡ finds_no_memory now) ⊎ ((taken : DeviceTaken) × (event ≡ device_comes now number w taken))) old now new
device E old new now number w (Ok taken) happens stays err = λ first events run le. (device_comes now number w taken, inr (taken, refl), refl, (le, (old, run, (stays, happens))))
device E old new now number w (Err e) happens stays err = λ first events run le. (finds_no_memory now, inl refl, refl, (le, (old, run, stays, err)))

pub next : (E : Type 0) (old new : Gate) (now : ℕ) (f : Fresh) (result : Result Sent E)
    → IfOk result (λ sent. (since : ℕ) (before : List Happening) → since ≤ now → GateStands since before old → SendHappens old now before f sent new)
    → IfOk result (λ sent. sent ≡ Nothing → AreIdle new.limits now new.requests.list.items)
    → Stays old new → OnErr result (IsAsBefore now old new) → ServedBy (λ event. (event ≡ finds_no_memory now) ⊎ ((what : Sent) × (event ≡ goes_out now f what))) old now new
next E old new now f (Ok sent) happens idle stays err = λ first events run le. (goes_out now f sent, inr (sent, refl), refl, (le, (old, run, (stays, idle, happens))))
next E old new now f (Err e) happens idle stays err = λ first events run le. (finds_no_memory now, inl refl, refl, (le, (old, run, stays, err)))

-- ---- an originator of notifications

abbrev GoesOnBy : (OriginatorEvent → Type 0) → Originator → Originator → Type 0
GoesOnBy P old new = (first : Originator) (events : List OriginatorEvent) → IsOriginatorRun first events old → (event : OriginatorEvent) × P event × IsOriginatorRun first (event ∷ events) new

same_forwarder : (old new : Forwarder) → new ≡ old → forwarders.IsAsBefore old new
same_forwarder old new same = subst (λ (f : Forwarder). forwarders.IsAsBefore old f) (sym same) (record { stays = record { agent = refl; devices = refl; receivers = refl; engine = refl; most = refl }; list = refl; next = refl })

same_informs : (old new : Informs) → new ≡ old → AreAsBefore old new
same_informs old new same = subst (λ (i : Informs). AreAsBefore old i) (sym same) (record { stays = record { engine = refl; users = refl; limits = refl; most = refl }; manager = refl; requests = refl; list = refl; next = refl })

pub trap : (E : Type 0) (old new : Originator) (device : ℕ) (w : List ℕ) (result : Result TrapTaken E) → IfOk result (λ taken. TakesTrap old.forwarder device w taken new.forwarder)
    → new.informs ≡ old.informs → OnErr result (forwarders.IsAsBefore old.forwarder new.forwarder) → GoesOnBy (λ event. (event ≡ originating.finds_no_memory) ⊎ ((taken : TrapTaken) × (event ≡ trap_comes device w taken))) old new
trap E old new device w (Ok taken) takes same err = λ first events run. (trap_comes device w taken, inr (taken, refl), (old, run, (takes, same)))
trap E old new device w (Err e) takes same err = λ first events run. (originating.finds_no_memory, inl refl, (old, run, record { forwarder = err; informs = same_informs old.informs new.informs same }))

pub receiver : (E : Type 0) (old new : Originator) (now from : ℕ) (w : List ℕ) (result : Result ReceiverTaken E) → IfOk result (λ taken. TakesOne old.informs now from w taken new.informs)
    → new.forwarder ≡ old.forwarder → OnErr result (AreAsBefore old.informs new.informs) → GoesOnBy (λ event. (event ≡ originating.finds_no_memory) ⊎ ((taken : ReceiverTaken) × (event ≡ receives now from w taken))) old new
receiver E old new now from w (Ok taken) takes same err = λ first events run. (receives now from w taken, inr (taken, refl), (old, run, (takes, same)))
receiver E old new now from w (Err e) takes same err = λ first events run. (originating.finds_no_memory, inl refl, (old, run, record { forwarder = same_forwarder old.forwarder new.forwarder same; informs = err }))

pub originated : (E : Type 0) (old new : Originator) (now : ℕ) (salt : List ℕ) (ask_id : ℕ) (result : Result Originated E) → IfOk result (λ what. Originates old now salt ask_id what new) → OnErr result (IsSameOriginator old new)
    → GoesOnBy (λ event. (event ≡ originating.finds_no_memory) ⊎ ((what : Originated) × (event ≡ originating.goes_out now salt ask_id what))) old new
originated E old new now salt ask_id (Ok what) goes err = λ first events run. (originating.goes_out now salt ask_id what, inr (what, refl), (old, run, goes))
originated E old new now salt ask_id (Err e) goes err = λ first events run. (originating.finds_no_memory, inl refl, (old, run, err))
