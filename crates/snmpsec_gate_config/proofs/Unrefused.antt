-- A text whose rows load is refused by no cause.
use Rattle.std.proofs.Common.{◌≡◌, ◌<◌, ℕ, zero, suc, List, [], ◌∷◌, length, map, take, slice_get, slice_index_or, Option, Some, None, option_map, refl, sym, ap, ◌∙◌, subst, arith}
use Rattle.std.specs.Prelude.{All, Any}
use Rattle.toml.specs.Data.{Members}
use Rattle.snmp_ber.specs.declared.level.Level.{Level}
use Rattle.snmp_ber.specs.declared.level.Level.TheVariants.{NoAuthNoPriv, AuthNoPriv, AuthPriv}
use Rattle.usm_users.specs.declared.load.UserRow.{UserRow}
use Rattle.vacm_core.specs.Tables.{Tables}
use Rattle.vacm_core.specs.declared.fault.Table.TheVariants as vacm_tables
use Rattle.snmpsec_config.specs.Rows.{IsUserRow, IsGroupRow, IsAccessRow, IsFamilyRow, UserValues, user_values}
use Rattle.snmpsec_config.specs.Documents.{IsFirstBadOf}
use Rattle.snmpsec_config.specs.Refusals.{IsDocument, TellsRow}
use Rattle.snmpsec_config.specs.declared.table.ConfigTable.{ConfigTable}
use Rattle.snmpsec_config.specs.declared.table.ConfigTable.TheVariants as config_tables
use Rattle.snmpsec_config.specs.declared.fault.LoadFault.{LoadFault}
use Rattle.snmpsec_config.specs.declared.fault.LoadFault.TheVariants.{Duplicate}
use Rattle.snmpsec_config.specs.declared.fault.ConfigFault.{ConfigFault}
use Rattle.snmpsec_config.specs.declared.fault.ConfigFault.TheVariants as config_faults
use Rattle.snmpsec_config.proofs.Unique.{one_document}
use Rattle.snmpsec_config.proofs.Unrefused.{no_first, no_bad, no_user_told, no_access_fault}
use Rattle.snmpsec_gate_config.specs.Rows.{IsDevice, IsReceiver}
use Rattle.snmpsec_gate_config.specs.Receivers.{IsFit, IsUserAtLevel, IsUserOf, SupportsLevel, TellsReceiver}
use Rattle.snmpsec_gate_config.specs.Documents.{StandsFor, IsTopMember, IsWritten}
use Rattle.snmpsec_gate_config.specs.Refusals.{Says, SaysSound, RefusesText, RefusesDocument, RefusesRows, IsDuplicateAt, IsUnfitAt}
use Rattle.snmpsec_gate_config.specs.declared.settings.GateSettings.{GateSettings}
use Rattle.snmpsec_gate_config.specs.declared.settings.DeviceSettings.{DeviceSettings}
use Rattle.snmpsec_gate_config.specs.declared.settings.ReceiverSettings.{ReceiverSettings}
use Rattle.snmpsec_gate_config.specs.declared.receiver.ReceiverFault.{ReceiverFault}
use Rattle.snmpsec_gate_config.specs.declared.receiver.ReceiverFault.TheVariants as receiver_faults
use Rattle.snmpsec_gate_config.specs.declared.fault.GateFault.{GateFault}
use Rattle.snmpsec_gate_config.specs.declared.fault.GateFault.TheVariants as faults
use Rattle.snmpsec_gate_config.proofs.Unique.{same_receivers, same_users, same_tables}

-- ---- users that say the same

any_same : (P : UserRow → Type 0) → ((x y : UserRow) → user_values x ≡ user_values y → P x → P y) → (xs ys : List UserRow) (k : ℕ) (x : UserRow) → map user_values xs ≡ map user_values ys → k < length xs → slice_index_or xs k x ≡ x → P x → Any P ys
any_same P same [] ys k x e lt is p = absurd (omega (arith, lt))
any_same P same (w ∷ xs) [] k x e lt is p = let never : user_values w ∷ map user_values xs ≡ [] = e in cc
any_same P same (w ∷ xs) (y ∷ ys) zero x e lt is p =
    let both : user_values w ∷ map user_values xs ≡ user_values y ∷ map user_values ys = e in
    let here : user_values w ≡ user_values y = cc in
    (0, y, omega arith, refl, same x y (ap user_values (sym is) ∙ here) p)
any_same P same (w ∷ xs) (y ∷ ys) (suc k) x e lt is p =
    let both : user_values w ∷ map user_values xs ≡ user_values y ∷ map user_values ys = e in
    let later : map user_values xs ≡ map user_values ys = cc in
    let m = any_same P same xs ys k x later (omega (arith, lt)) is p in
    (suc m.0, m.1, omega (arith, m.2), m.3, m.4)

none_of : (P : UserRow → Type 0) (users : List UserRow) → All (λ user. ¬ P user) users → Any P users → ⊥
none_of P users none some = none some.0 some.1 some.2 (subst P (sym some.3) some.4)

some_same : {A B : Type 0} (f : A → B) (a b : Option A) → option_map f a ≡ option_map f b → (a ≡ None → ⊥) → b ≡ None → ⊥
some_same f None b e some none = some refl
some_same f (Some x) None e some none = let never : Some (f x) ≡ None = e in cc
some_same f (Some x) (Some y) e some none = let never : Some y ≡ None = none in cc

same_user_of : (receiver : ReceiverSettings) (x y : UserRow) → user_values x ≡ user_values y → IsUserOf receiver x → IsUserOf receiver y
same_user_of receiver x y e is = sym (ap (λ (u : UserValues). u.name) e) ∙ is

same_support : (level : Level) (x y : UserRow) → user_values x ≡ user_values y → SupportsLevel level x → SupportsLevel level y
same_support NoAuthNoPriv x y e is = tt
same_support AuthNoPriv x y e is = some_same _ x.auth y.auth (ap (λ (u : UserValues). u.auth) e) is
same_support AuthPriv x y e is = (some_same _ x.auth y.auth (ap (λ (u : UserValues). u.auth) e) is.0, some_same _ x.privacy y.privacy (ap (λ (u : UserValues). u.privacy) e) is.1)

-- a receiver to which notifications can be sent is reported as none
not_told : (users these : List UserRow) (earlier : List ReceiverSettings) (receiver : ReceiverSettings) (fault : ReceiverFault) → map user_values users ≡ map user_values these → IsFit users earlier receiver → TellsReceiver these earlier receiver fault → ⊥
not_told users these earlier receiver receiver_faults.UnknownUser e fit told =
    none_of _ these told (any_same (IsUserOf receiver) (same_user_of receiver) users these fit.0.0 fit.0.1 e fit.0.2 fit.0.3 fit.0.4.0)
not_told users these earlier receiver receiver_faults.UnsupportedLevel e fit told =
    none_of _ these told.1 (any_same (IsUserAtLevel receiver) (λ x y s is. (same_user_of receiver x y s is.0, same_support receiver.level x y s is.1)) users these fit.0.0 fit.0.1 e fit.0.2 fit.0.3 fit.0.4)
not_told users these earlier receiver receiver_faults.Duplicate e fit told = fit.1 told.1

module _ (text : List ℕ) (gate : GateSettings) (devices : List DeviceSettings) (receivers : List ReceiverSettings) (users : List UserRow) (rows : Tables) (s : SaysSound text gate devices receivers users rows) where
  no_bad_row : (of : ConfigTable) (position : ℕ) → IsWritten of → IsFirstBadOf s.says.document of position → ⊥
  no_bad_row config_tables.User position written bad = no_bad IsUserRow _ _ position s.says.stands.config_rows.user_rows bad
  no_bad_row config_tables.Context position written bad = absurd written
  no_bad_row config_tables.Group position written bad = no_bad IsGroupRow _ _ position s.says.stands.config_rows.groups bad
  no_bad_row config_tables.Access position written bad = no_bad IsAccessRow _ _ position s.says.stands.config_rows.access bad
  no_bad_row config_tables.Family position written bad = no_bad IsFamilyRow _ _ position s.says.stands.config_rows.families bad

  no_row : (of : ConfigTable) (position : ℕ) (wrong : LoadFault) (these : List UserRow) → IsWritten of → map user_values users ≡ map user_values these → TellsRow these rows of position wrong → ⊥
  no_row config_tables.User position wrong these written e told = no_user_told users these position wrong e s.sound_users told
  no_row config_tables.Context position wrong these written e told = absurd written
  no_row config_tables.Group position wrong these written e told = no_access_fault rows vacm_tables.Groups position wrong s.sound_rows told.1
  no_row config_tables.Access position wrong these written e told = no_access_fault rows vacm_tables.Access position wrong s.sound_rows told.1
  no_row config_tables.Family position wrong these written e told = no_access_fault rows vacm_tables.Families position wrong s.sound_rows told.1

  -- the document says the same, whoever says it
  said : {other : GateSettings} {others : List DeviceSettings} {those : List ReceiverSettings} {these : List UserRow} {more : Tables} → StandsFor s.says.document other others those these more → Says text other others those these more
  said o = record { document = s.says.document; is_document = s.says.is_document; stands = o }

  no_rows_cause : (fault : ConfigFault) → (fault ≡ config_faults.OutOfMemory → ⊥) → RefusesRows s.says.document fault → ⊥
  no_rows_cause (config_faults.BadKey of position fault) memory h = no_bad_row of position h.0.first.written h.0.first.first
  no_rows_cause (config_faults.Row of position wrong) memory h =
      let o = said h.5 in
      let same : h.4 ≡ rows = sym (same_tables text gate h.0 devices h.1 receivers h.2 users h.3 rows h.4 s.says o) in
      no_row of position wrong h.3 h.6 (same_users text gate h.0 devices h.1 receivers h.2 users h.3 rows h.4 s.says o) (rw same at h.7)
  no_rows_cause config_faults.OutOfMemory memory h = memory refl
  no_rows_cause _ memory h = absurd h

  no_duplicate : (position : ℕ) → IsDuplicateAt s.says.document position → ⊥
  no_duplicate position h =
      let same : h.rows ≡ rows = sym (same_tables text gate h.gate devices h.devices receivers h.receivers users h.users rows h.rows s.says (said h.stands)) in
      no_access_fault rows vacm_tables.Contexts position Duplicate s.sound_rows (rw same at h.duplicate)

  no_unfit : (position : ℕ) (fault : ReceiverFault) → IsUnfitAt s.says.document position fault → ⊥
  no_unfit position fault h =
      let o = said h.stands in
      let same : h.receivers ≡ receivers = sym (same_receivers text gate h.gate devices h.devices receivers h.receivers users h.users rows h.rows s.says o) in
      let users_same = same_users text gate h.gate devices h.devices receivers h.receivers users h.users rows h.rows s.says o in
      let there : slice_get receivers position ≡ Some h.first.receiver = subst (λ (rs : List ReceiverSettings). slice_get rs position ≡ Some h.first.receiver) same h.first.there in
      let told : TellsReceiver h.users (take position receivers) h.first.receiver fault = subst (λ (rs : List ReceiverSettings). TellsReceiver h.users (take position rs) h.first.receiver fault) same h.first.told in
      not_told users h.users (take position receivers) h.first.receiver fault users_same (s.sound_receivers position h.first.receiver there) told

  no_cause : (fault : GateFault) → (fault ≡ faults.Config config_faults.OutOfMemory → ⊥) → RefusesDocument s.says.document fault → ⊥
  no_cause (faults.Top key) memory h = no_first IsTopMember s.says.document _ h s.says.stands.top
  no_cause (faults.Gate fault) memory h = h.0.no_gate gate s.says.stands.gate_table
  no_cause (faults.Device position fault) memory h = no_bad IsDevice _ _ position s.says.stands.device_tables h.0.first
  no_cause (faults.Duplicate position) memory h = no_duplicate position h
  no_cause (faults.Receiver position fault) memory h = no_bad IsReceiver _ _ position s.says.stands.receiver_tables h.0.first
  no_cause (faults.Unfit position fault) memory h = no_unfit position fault h
  no_cause (faults.Config fault) memory h = no_rows_cause fault (λ e. memory (ap faults.Config e)) h

  -- a refusal of the text whose cause is its document's
  by_document : (fault : GateFault) → RefusesText text fault → (document : Members) → IsDocument text document → RefusesDocument document fault → ⊥
  by_document fault r document is h = no_cause fault r.no_memory (rw (one_document text document s.says.document is s.says.is_document) at h)

  pub unrefused : (fault : GateFault) → RefusesText text fault → ⊥
  unrefused (faults.Top key) r = by_document (faults.Top key) r r.cause.0 r.cause.1 r.cause.2
  unrefused (faults.Gate fault) r = by_document (faults.Gate fault) r r.cause.0 r.cause.1 r.cause.2
  unrefused (faults.Device position fault) r = by_document (faults.Device position fault) r r.cause.0 r.cause.1 r.cause.2
  unrefused (faults.Duplicate position) r = by_document (faults.Duplicate position) r r.cause.0 r.cause.1 r.cause.2
  unrefused (faults.Receiver position fault) r = by_document (faults.Receiver position fault) r r.cause.0 r.cause.1 r.cause.2
  unrefused (faults.Unfit position fault) r = by_document (faults.Unfit position fault) r r.cause.0 r.cause.1 r.cause.2
  unrefused (faults.Config (config_faults.Nested line column)) r = s.says.is_document.shallow r.cause.1.0 r.cause.1.1
  unrefused (faults.Config (config_faults.Toml fault)) r = let never : None ≡ Some s.says.document = sym (r.cause s.says.is_document.utf8).1 ∙ s.says.is_document.parsed in cc
  unrefused (faults.Config (config_faults.Top key)) r = by_document (faults.Config (config_faults.Top key)) r r.cause.0 r.cause.1 r.cause.2
  unrefused (faults.Config (config_faults.BadKey of position fault)) r = by_document (faults.Config (config_faults.BadKey of position fault)) r r.cause.0 r.cause.1 r.cause.2
  unrefused (faults.Config (config_faults.Row of position wrong)) r = by_document (faults.Config (config_faults.Row of position wrong)) r r.cause.0 r.cause.1 r.cause.2
  unrefused (faults.Config config_faults.OutOfMemory) r = r.no_memory refl
