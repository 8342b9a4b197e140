-- What an originator tells of what its forwarder and its Informs do.
use Rattle.std.specs.Prelude.{◌≡◌, ℕ, List}
use Rattle.std.proofs.Common.{refl}
use Rattle.snmp_forward.specs.Originating.{DoesInform, Originates, inform_as, trap_told}
use Rattle.snmp_forward.specs.Runs.{SendsNext}
use Rattle.snmp_forward.specs.Written.{told_of}
use Rattle.snmp_forward.specs.declared.informs.InformSent.{InformSent}
use Rattle.snmp_forward.specs.declared.informs.InformSent.TheVariants as sent
use Rattle.snmp_forward.specs.declared.originator.Originated.TheVariants as out
use Rattle.snmp_forward.specs.declared.originator.Originator.{Originator}
use Rattle.snmp_forward.specs.declared.trap.Written.{Written}
use Rattle.snmp_forward.specs.declared.trap.Written.TheVariants.{Refused, Sends}

pub trap_goes : (old new : Originator) (now : ℕ) (salt : List ℕ) (ask_id n r : ℕ) (written : Written) → SendsNext old.forwarder now salt ask_id (told_of n r written) new.forwarder → new.informs ≡ old.informs → Originates old now salt ask_id (trap_told n r written) new
trap_goes old new now salt ask_id n r (Sends w) sends same = (sends, same)
trap_goes old new now salt ask_id n r (Refused why) sends same = (sends, same)

pub trap_told_something : (n r : ℕ) (written : Written) → trap_told n r written ≡ out.Nothing → ⊥
trap_told_something n r (Sends w) is = cc is
trap_told_something n r (Refused why) is = cc is

pub inform_goes : (old new : Originator) (now : ℕ) (salt : List ℕ) (ask_id : ℕ) (what : InformSent) → DoesInform old now salt ask_id what new → Originates old now salt ask_id (inform_as what) new
inform_goes old new now salt ask_id (sent.ToReceiver n r m w) does = does
inform_goes old new now salt ask_id (sent.Unsent n r why) does = does
inform_goes old new now salt ask_id (sent.GivenUp n r hint) does = does
inform_goes old new now salt ask_id sent.Nothing does = does

pub inform_told_nothing : (what : InformSent) → inform_as what ≡ out.Nothing → what ≡ sent.Nothing
inform_told_nothing (sent.ToReceiver n r m w) is = cc is
inform_told_nothing (sent.Unsent n r why) is = cc is
inform_told_nothing (sent.GivenUp n r hint) is = cc is
inform_told_nothing sent.Nothing is = refl
