-- A text whose rows load is refused by no cause.
use Rattle.std.proofs.Common.{◌≡◌, ℕ, zero, suc, Bool, false, List, [], ◌∷◌, map, take, Option, Some, None, is_some, is_none, option_map, slice_get, nat_eq, refl, sym, ap, ◌∙◌, inl, inr}
use Rattle.std.specs.Prelude.{◌||◌, ◌&&◌, if◌then◌else◌}
use Rattle.std.specs.List.{list_any}
use Rattle.std.specs.Option.{option_and_then, option_map_or}
use Rattle.std.specs.Cmp.Lexicographic.{pointwise}
use Rattle.std.proofs.lemmas.List.{take-map}
use Rattle.std.proofs.lemmas.Option.{slice_get-map}
use Rattle.toml.specs.Data.{Data, Items, no_items, item, Members, no_members, member, get_item}
use Rattle.usm_users.specs.declared.load.UserRow.{UserRow}
use Rattle.usm_users.specs.declared.load.UserFault.{UserFault}
use Rattle.usm_users.specs.declared.load.UserFault.TheVariants as user_faults
use Rattle.usm_users.specs.Rows as user_rows
use Rattle.usm_users.specs.Rows.{is_bad_name, is_short_password, is_bad_user, has_short_password, has_name, row_fault}
use Rattle.vacm_core.specs.Tables.{Tables}
use Rattle.vacm_core.specs.Faults as access_rows
use Rattle.vacm_core.specs.declared.fault.Table.{Table}
use Rattle.vacm_core.specs.declared.fault.Table.TheVariants as vacm_tables
use Rattle.snmpsec_config.specs.declared.table.ConfigTable.{ConfigTable}
use Rattle.snmpsec_config.specs.declared.table.ConfigTable.TheVariants as tables
use Rattle.snmpsec_config.specs.declared.fault.LoadFault.{LoadFault}
use Rattle.snmpsec_config.specs.declared.fault.LoadFault.TheVariants.{BadUser, ShortPassword, DuplicateUser, BadRow, Duplicate}
use Rattle.snmpsec_config.specs.declared.fault.ConfigFault.{ConfigFault}
use Rattle.snmpsec_config.specs.declared.fault.ConfigFault.TheVariants as faults
use Rattle.snmpsec_config.specs.Keys.{EachMember, FirstMember}
use Rattle.snmpsec_config.specs.Rows.{IsUserRow, IsContextRow, IsGroupRow, IsAccessRow, IsFamilyRow, IsRow, AreRows, UserValues, user_values}
use Rattle.snmpsec_config.specs.Documents.{IsTopMember, IsFirstBad, IsFirstBadOf, StandsFor}
use Rattle.snmpsec_config.specs.Refusals.{Says, SaysSound, RefusesText, TellsUser, TellsAccess, TellsRow}
use Rattle.snmpsec_config.proofs.Unique.{one_document, one_users, one_rows}

-- ---- what is wrong with a user's row is reported by what it says

some_mapped : {A B : Type 0} (f : A → B) (o : Option A) → is_some o ≡ is_some (option_map f o)
some_mapped f None = refl
some_mapped f (Some x) = refl

none_mapped : {A B : Type 0} (f : A → B) (o : Option A) → is_none o ≡ is_none (option_map f o)
none_mapped f None = refl
none_mapped f (Some x) = refl

or_mapped : {A B : Type 0} (f : A → B) (g : B → Bool) (o : Option A) → option_map_or (λ x. g (f x)) o false ≡ option_map_or g (option_map f o) false
or_mapped f g None = refl
or_mapped f g (Some x) = refl

abbrev bad_values : UserValues → Bool
bad_values v = is_bad_name v.name || (is_some v.privacy && is_none v.auth)

abbrev short_values : UserValues → Bool
short_values v = option_map_or (λ own. is_short_password own.1) v.auth false || option_map_or (λ password. is_short_password password) v.privacy false

abbrev named : List ℕ → UserValues → Bool
named name v = pointwise nat_eq v.name name

bad_is : (row : UserRow) → is_bad_user row ≡ bad_values (user_values row)
bad_is row =
    let privacy = some_mapped (λ password. password.items) row.privacy in
    let auth = none_mapped (λ own. (own.0, own.1.items)) row.auth in
    ap (λ b. is_bad_name row.name.items || (b && is_none row.auth)) privacy ∙ ap (λ b. is_bad_name row.name.items || (is_some (user_values row).privacy && b)) auth

short_is : (row : UserRow) → has_short_password row ≡ short_values (user_values row)
short_is row =
    let auth = or_mapped (λ own. (own.0, own.1.items)) (λ own. is_short_password own.1) row.auth in
    let privacy = or_mapped (λ password. password.items) (λ password. is_short_password password) row.privacy in
    ap (λ b. b || option_map_or (λ password. is_short_password password.items) row.privacy false) auth ∙ ap (λ b. option_map_or (λ own. is_short_password own.1) (user_values row).auth false || b) privacy

named_is : (name : List ℕ) (rows : List UserRow) → list_any (has_name name) rows ≡ list_any (named name) (map user_values rows)
named_is name [] = refl
named_is name (row ∷ rows) = ap (λ b. has_name name row || b) (named_is name rows)

abbrev told_by : ℕ → Bool → Bool → Bool → Option UserFault
told_by i bad short twice = if bad then Some (user_faults.BadUser i) else if short then Some (user_faults.ShortPassword i) else if twice then Some (user_faults.DuplicateUser i) else None

abbrev values_fault : List UserValues → ℕ → UserValues → Option UserFault
values_fault earlier i v = told_by i (bad_values v) (short_values v) (list_any (named v.name) earlier)

row_fault_is : (earlier : List UserRow) (i : ℕ) (row : UserRow) → row_fault earlier i row ≡ values_fault (map user_values earlier) i (user_values row)
unfolding row_fault
row_fault_is earlier i row =
    let v = user_values row in
    ap (λ b. told_by i b (has_short_password row) (list_any (has_name row.name.items) earlier)) (bad_is row)
    ∙ (ap (λ b. told_by i (bad_values v) b (list_any (has_name row.name.items) earlier)) (short_is row) ∙ ap (λ b. told_by i (bad_values v) (short_values v) b) (named_is row.name.items earlier))

fault_in : List UserValues → ℕ → Option UserFault
fault_in vs i = option_and_then (values_fault (take i vs) i) (slice_get vs i)

then_mapped : {A B C : Type 0} (f : A → B) (g : A → Option C) (h : B → Option C) (o : Option A) → ((x : A) → g x ≡ h (f x)) → option_and_then g o ≡ option_and_then h (option_map f o)
then_mapped f g h None e = refl
then_mapped f g h (Some x) e = e x

fault_is : (rows : List UserRow) (i : ℕ) → user_rows.fault_at rows i ≡ fault_in (map user_values rows) i
unfolding fault_in
fault_is rows i =
    then_mapped user_values (row_fault (take i rows) i) (values_fault (map user_values (take i rows)) i) (slice_get rows i) (λ row. row_fault_is (take i rows) i row)
    ∙ (ap (λ o. option_and_then (values_fault (map user_values (take i rows)) i) o) (sym (slice_get-map user_values rows i))
    ∙ ap (λ vs. option_and_then (values_fault vs i) (slice_get (map user_values rows) i)) (sym (take-map user_values i rows)))

same_fault : (users others : List UserRow) (i : ℕ) → map user_values users ≡ map user_values others → user_rows.fault_at users i ≡ user_rows.fault_at others i
same_fault users others i e = fault_is users i ∙ (ap (λ vs. fault_in vs i) e ∙ sym (fault_is others i))

no_user_fault : (users others : List UserRow) (f : UserFault) → map user_values users ≡ map user_values others → user_rows.AreSound users → user_rows.IsFirstFault others f → ⊥
no_user_fault users others f e sound first =
    let never : None ≡ Some f = sym (sound first.position) ∙ (same_fault users others first.position e ∙ first.there) in cc

pub no_access_fault : (rows : Tables) (of : Table) (position : ℕ) (wrong : LoadFault) → access_rows.AreSound rows → TellsAccess rows of position wrong → ⊥
no_access_fault rows of position BadRow sound told = let never = sym (sound of position) ∙ told.there in cc
no_access_fault rows of position Duplicate sound told = let never = sym (sound of position) ∙ told.there in cc
no_access_fault rows of position _ sound told = told

-- ---- a document that stands for rows has no table that stands for none

pub no_first : (P : List ℕ → Data → Type 0) (m : Members) (key : List ℕ) → FirstMember P m key → EachMember P m → ⊥
no_first P no_members key f h = f
no_first P (member name value others) key (inl here) h = here.1 h.0
no_first P (member name value others) key (inr later) h = no_first P others key later.1 h.1

row_at : {R : Type 0} (Stands : Members → R → Type 0) (values : Items) (rows : List R) (i : ℕ) (d : Data) → AreRows Stands values rows → get_item i values ≡ Some d → (row : R) × IsRow Stands d row
row_at Stands no_items rows i d h at = let never : None ≡ Some d = at in cc
row_at Stands (item value values) [] i d h at = absurd h
row_at {R} Stands (item value values) (row ∷ rows) zero d h at =
    let same : Some value ≡ Some d = at in
    let is : value ≡ d = cc in
    rw (← is) (row, h.0)
row_at Stands (item value values) (row ∷ rows) (suc i) d h at = row_at Stands values rows i d h.1 at

pub no_bad : {R : Type 0} (Stands : Members → R → Type 0) (values : Items) (rows : List R) (position : ℕ) → AreRows Stands values rows → IsFirstBad Stands values position → ⊥
no_bad Stands values rows position h bad = let r = row_at Stands values rows position bad.value h bad.there in bad.no_row r.0 r.1

no_bad_of : (d : Members) (users : List UserRow) (rows : Tables) (of : ConfigTable) (position : ℕ) → StandsFor d users rows → IsFirstBadOf d of position → ⊥
no_bad_of d users rows tables.User position s bad = no_bad IsUserRow _ _ position s.user_rows bad
no_bad_of d users rows tables.Context position s bad = no_bad IsContextRow _ _ position s.contexts bad
no_bad_of d users rows tables.Group position s bad = no_bad IsGroupRow _ _ position s.groups bad
no_bad_of d users rows tables.Access position s bad = no_bad IsAccessRow _ _ position s.access bad
no_bad_of d users rows tables.Family position s bad = no_bad IsFamilyRow _ _ position s.families bad

-- ---- no cause

pub no_user_told : (users others : List UserRow) (position : ℕ) (wrong : LoadFault) → map user_values users ≡ map user_values others → user_rows.AreSound users → TellsUser others position wrong → ⊥
no_user_told users others position BadUser e sound told = no_user_fault users others (user_faults.BadUser position) e sound told
no_user_told users others position ShortPassword e sound told = no_user_fault users others (user_faults.ShortPassword position) e sound told
no_user_told users others position DuplicateUser e sound told = no_user_fault users others (user_faults.DuplicateUser position) e sound told
no_user_told users others position _ e sound told = told

no_row_told : (users others : List UserRow) (rows : Tables) (of : ConfigTable) (position : ℕ) (wrong : LoadFault) → map user_values users ≡ map user_values others → user_rows.AreSound users → access_rows.AreSound rows
    → TellsRow others rows of position wrong → ⊥
no_row_told users others rows tables.User position wrong e sound fine told = no_user_told users others position wrong e sound told
no_row_told users others rows tables.Context position wrong e sound fine told = no_access_fault rows vacm_tables.Contexts position wrong fine told.1
no_row_told users others rows tables.Group position wrong e sound fine told = no_access_fault rows vacm_tables.Groups position wrong fine told.1
no_row_told users others rows tables.Access position wrong e sound fine told = no_access_fault rows vacm_tables.Access position wrong fine told.1
no_row_told users others rows tables.Family position wrong e sound fine told = no_access_fault rows vacm_tables.Families position wrong fine told.1

pub unrefused : (text : List ℕ) (users : List UserRow) (rows : Tables) (fault : ConfigFault) → SaysSound text users rows → RefusesText text fault → ⊥
unrefused text users rows (faults.Nested line column) s r = s.says.is_document.shallow r.cause.1.0 r.cause.1.1
unrefused text users rows (faults.Toml fault) s r = let never : None ≡ Some s.says.document = sym (r.cause s.says.is_document.utf8).1 ∙ s.says.is_document.parsed in cc
unrefused text users rows (faults.Top key) s r =
    let is = one_document text r.cause.0 s.says.document r.cause.1 s.says.is_document in
    no_first IsTopMember s.says.document _ (rw is at r.cause.2) s.says.stands.top
unrefused text users rows (faults.BadKey of position fault) s r =
    let is = one_document text r.cause.0 s.says.document r.cause.1 s.says.is_document in
    no_bad_of s.says.document users rows of position s.says.stands (rw is at r.cause.2.0.first)
unrefused text users rows (faults.Row of position wrong) s r =
    let others = r.cause.2.0 in
    let more = r.cause.2.1 in
    let told : Says text others more = record { document = r.cause.0; is_document = r.cause.1; stands = r.cause.2.2 } in
    let same : more ≡ rows = one_rows text others users more rows told s.says in
    no_row_told users others rows of position wrong (one_users text users others rows more s.says told) s.sound_users s.sound_rows (rw same at r.cause.2.3)
unrefused text users rows faults.OutOfMemory s r = r.no_memory refl
