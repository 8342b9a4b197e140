-- A text stands for one list of rows, and a text whose rows load is refused by no cause.
use Rattle.std.proofs.Common.{◌≡◌, ℕ, Bool, List, [], ◌∷◌, length, map, Option, Some, None, refl, sym, ap, ◌∙◌, arith, inl, inr}
use Rattle.toml.specs.Data.{Data, string, boolean, table, Items, no_items, item, Members}
use Rattle.snmp_ber.specs.Oid.{dotted}
use Rattle.snmp_ber.proofs.Dotted.{dotted_pieces, same_arcs}
use Rattle.snmp_ber.specs.declared.level.Level.{Level}
use Rattle.snmp_ber.specs.declared.level.Level.TheVariants.{NoAuthNoPriv, AuthNoPriv, AuthPriv}
use Rattle.usm_keys.specs.declared.auth.Auth.{Auth}
use Rattle.usm_keys.specs.declared.auth.Auth.TheVariants.{Md5, Sha1, Sha256}
use Rattle.usm_users.specs.declared.load.UserRow.{UserRow}
use Rattle.vacm_core.specs.Tables.{Tables}
use Rattle.vacm_core.specs.declared.rows.Matching.{Matching}
use Rattle.vacm_core.specs.declared.rows.Matching.TheVariants.{Exact, Prefix}
use Rattle.vacm_core.specs.declared.rows.ContextRow.{ContextRow}
use Rattle.vacm_core.specs.declared.rows.GroupRow.{GroupRow}
use Rattle.vacm_core.specs.declared.rows.AccessRow.{AccessRow}
use Rattle.vacm_core.specs.declared.rows.FamilyRow.{FamilyRow}
use Rattle.snmpsec_config.specs.Words.{level_word, auth_word, matching_word}
use Rattle.snmpsec_config.specs.Values.{IsText, IsTextIfAny, IsTextOrEmpty, IsModel, IsLevel, IsMatching, IsOid, IsMask, IsFlag, AreAuth}
use Rattle.snmpsec_config.specs.Rows.{IsUserRow, IsContextRow, IsGroupRow, IsAccessRow, IsFamilyRow, IsRow, AreRows, user_values}
use Rattle.snmpsec_config.specs.Documents.{StandsFor}
use Rattle.snmpsec_config.specs.Refusals.{IsDocument, Says}

-- ---- a value stands for one thing

pub same_text : (v : Option Data) (a b : List ℕ) → IsText v a → IsText v b → a ≡ b
same_text v a b h k = let e : Some (string a) ≡ Some (string b) = sym h ∙ k in cc

same_text_or_empty : (v : Option Data) (a b : List ℕ) → IsTextOrEmpty v a → IsTextOrEmpty v b → a ≡ b
same_text_or_empty v a b (inl h) (inl k) = same_text v a b h k
same_text_or_empty v a b (inl h) (inr k) = let e : Some (string a) ≡ None = sym h ∙ k.0 in cc
same_text_or_empty v a b (inr h) (inl k) = let e : Some (string b) ≡ None = sym k ∙ h.0 in cc
same_text_or_empty v a b (inr h) (inr k) = h.1 ∙ sym k.1

same_text_if_any : (v : Option Data) (a b : Option (List ℕ)) → IsTextIfAny v a → IsTextIfAny v b → a ≡ b
same_text_if_any v None None h k = refl
same_text_if_any v None (Some b) h k = let e : None ≡ Some (string b) = sym h ∙ k in cc
same_text_if_any v (Some a) None h k = let e : Some (string a) ≡ None = sym h ∙ k in cc
same_text_if_any v (Some a) (Some b) h k = ap Some (same_text v a b h k)

same_model : (v : Option Data) (a b : ℕ) → IsModel v a → IsModel v b → a ≡ b
same_model v a b h k = let e = sym h.0 ∙ k.0 in cc

pub same_flag : (v : Option Data) (a b : Bool) → IsFlag v a → IsFlag v b → a ≡ b
same_flag v a b h k = let e : Some (boolean a) ≡ Some (boolean b) = sym h ∙ k in cc

level_of_word : (l m : Level) → level_word l ≡ level_word m → l ≡ m
level_of_word NoAuthNoPriv NoAuthNoPriv e = refl
level_of_word AuthNoPriv AuthNoPriv e = refl
level_of_word AuthPriv AuthPriv e = refl
level_of_word NoAuthNoPriv AuthNoPriv e = let bad : 12 ≡ 10 = ap length e in absurd (omega (arith, bad))
level_of_word NoAuthNoPriv AuthPriv e = let bad : 12 ≡ 8 = ap length e in absurd (omega (arith, bad))
level_of_word AuthNoPriv NoAuthNoPriv e = let bad : 10 ≡ 12 = ap length e in absurd (omega (arith, bad))
level_of_word AuthNoPriv AuthPriv e = let bad : 10 ≡ 8 = ap length e in absurd (omega (arith, bad))
level_of_word AuthPriv NoAuthNoPriv e = let bad : 8 ≡ 12 = ap length e in absurd (omega (arith, bad))
level_of_word AuthPriv AuthNoPriv e = let bad : 8 ≡ 10 = ap length e in absurd (omega (arith, bad))

matching_of_word : (l m : Matching) → matching_word l ≡ matching_word m → l ≡ m
matching_of_word Exact Exact e = refl
matching_of_word Prefix Prefix e = refl
matching_of_word Exact Prefix e = let bad : 5 ≡ 6 = ap length e in absurd (omega (arith, bad))
matching_of_word Prefix Exact e = let bad : 6 ≡ 5 = ap length e in absurd (omega (arith, bad))

auth_of_word : (l m : Auth) → auth_word l ≡ auth_word m → l ≡ m
auth_of_word Md5 Md5 e = refl
auth_of_word Sha1 Sha1 e = refl
auth_of_word Sha256 Sha256 e = refl
auth_of_word Md5 Sha1 e = let bad : 3 ≡ 4 = ap length e in absurd (omega (arith, bad))
auth_of_word Md5 Sha256 e = let bad : 3 ≡ 6 = ap length e in absurd (omega (arith, bad))
auth_of_word Sha1 Md5 e = let bad : 4 ≡ 3 = ap length e in absurd (omega (arith, bad))
auth_of_word Sha1 Sha256 e = let bad : 4 ≡ 6 = ap length e in absurd (omega (arith, bad))
auth_of_word Sha256 Md5 e = let bad : 6 ≡ 3 = ap length e in absurd (omega (arith, bad))
auth_of_word Sha256 Sha1 e = let bad : 6 ≡ 4 = ap length e in absurd (omega (arith, bad))

same_level : (v : Option Data) (a b : Level) → IsLevel v a → IsLevel v b → a ≡ b
same_level v a b h k = level_of_word a b (same_text v (level_word a) (level_word b) h k)

same_matching : (v : Option Data) (a b : Matching) → IsMatching v a → IsMatching v b → a ≡ b
same_matching v a b h k = matching_of_word a b (same_text v (matching_word a) (matching_word b) h k)

same_oid : (v : Option Data) (a b : List ℕ) → IsOid v a → IsOid v b → a ≡ b
same_oid v a b h k =
    let text : dotted b ≡ dotted a = same_text v (dotted b) (dotted a) k.1 h.1 in
    same_arcs a b h.0.limit k.0.limit (sym (dotted_pieces (dotted b) a h.0 text) ∙ dotted_pieces (dotted b) b k.0 refl)

same_mask : (v : Option Data) (a b : List ℕ) → IsMask v a → IsMask v b → a ≡ b
same_mask v a b h k =
    let digits : h.0 ≡ k.0 = same_text_or_empty v h.0 k.0 h.1 k.1 in
    let one = h.2 in
    let two = k.2 in
    cc

same_auth : (p w : Option Data) (a b : Option (Auth × List ℕ)) → AreAuth p w a → AreAuth p w b → a ≡ b
same_auth p w None None h k = refl
same_auth p w None (Some b) h k = let e : None ≡ Some (string (auth_word b.0)) = sym h.0 ∙ k.0 in cc
same_auth p w (Some a) None h k = let e : Some (string (auth_word a.0)) ≡ None = sym h.0 ∙ k.0 in cc
same_auth p w (Some a) (Some b) h k =
    let protocol = auth_of_word a.0 b.0 (same_text p (auth_word a.0) (auth_word b.0) h.0 k.0) in
    let password = same_text w a.1 b.1 h.1 k.1 in
    ap Some (ap (λ x. (x, a.1)) protocol ∙ ap (λ y. (b.0, y)) password)

-- ---- a table stands for one row

pub one_user : (t : Members) (a b : UserRow) → IsUserRow t a → IsUserRow t b → user_values a ≡ user_values b
one_user t a b h k =
    let name = same_text _ _ _ h.name k.name in
    let auth = same_auth _ _ _ _ h.auth k.auth in
    let privacy = same_text_if_any _ _ _ h.privacy k.privacy in
    cc

abbrev context_row : List ℕ → ContextRow
context_row name' = record { name = name' }

one_context : (t : Members) (a b : ContextRow) → IsContextRow t a → IsContextRow t b → a ≡ b
one_context t a b h k = let name = same_text _ _ _ h.name.0 k.name.0 in ap (λ x. context_row x) name

abbrev group_row : ℕ → List ℕ → List ℕ → GroupRow
group_row model' name' group' = record { model = model'; name = name'; group = group' }

pub one_group : (t : Members) (a b : GroupRow) → IsGroupRow t a → IsGroupRow t b → a ≡ b
one_group t a b h k =
    let model = same_model _ _ _ h.model k.model in
    let name = same_text _ _ _ h.name.0 k.name.0 in
    let group = same_text _ _ _ h.group.0 k.group.0 in
    ap (λ x. group_row x a.name a.group) model ∙ ap (λ x. group_row b.model x a.group) name ∙ ap (λ x. group_row b.model b.name x) group

abbrev access_row : List ℕ → List ℕ → ℕ → Level → Matching → List ℕ → List ℕ → List ℕ → AccessRow
access_row group' prefix' model' level' matching' read' write' notify' = record { group = group'; prefix = prefix'; model = model'; level = level'; matching = matching'; read = read'; write = write'; notify = notify' }

pub one_access : (t : Members) (a b : AccessRow) → IsAccessRow t a → IsAccessRow t b → a ≡ b
one_access t a b h k =
    let group = same_text _ _ _ h.group.0 k.group.0 in
    let prefix = same_text _ _ _ h.prefix.0 k.prefix.0 in
    let model = same_model _ _ _ h.model k.model in
    let level = same_level _ _ _ h.level k.level in
    let matching = same_matching _ _ _ h.matching k.matching in
    let read = same_text_or_empty _ _ _ h.read.0 k.read.0 in
    let write = same_text_or_empty _ _ _ h.write.0 k.write.0 in
    let notify = same_text_or_empty _ _ _ h.notify.0 k.notify.0 in
    ap (λ x. access_row x a.prefix a.model a.level a.matching a.read a.write a.notify) group ∙ ap (λ x. access_row b.group x a.model a.level a.matching a.read a.write a.notify) prefix ∙ ap (λ x. access_row b.group b.prefix x a.level a.matching a.read a.write a.notify) model ∙ ap (λ x. access_row b.group b.prefix b.model x a.matching a.read a.write a.notify) level ∙ ap (λ x. access_row b.group b.prefix b.model b.level x a.read a.write a.notify) matching ∙ ap (λ x. access_row b.group b.prefix b.model b.level b.matching x a.write a.notify) read ∙ ap (λ x. access_row b.group b.prefix b.model b.level b.matching b.read x a.notify) write ∙ ap (λ x. access_row b.group b.prefix b.model b.level b.matching b.read b.write x) notify

abbrev family_row : List ℕ → List ℕ → List ℕ → Bool → FamilyRow
family_row view' subtree' mask' include' = record { view = view'; subtree = subtree'; mask = mask'; include = include' }

pub one_family : (t : Members) (a b : FamilyRow) → IsFamilyRow t a → IsFamilyRow t b → a ≡ b
one_family t a b h k =
    let view = same_text _ _ _ h.view.0 k.view.0 in
    let subtree = same_oid _ _ _ h.subtree k.subtree in
    let mask = same_mask _ _ _ h.mask k.mask in
    let include = same_flag _ _ _ h.include k.include in
    ap (λ x. family_row x a.subtree a.mask a.include) view ∙ ap (λ x. family_row b.view x a.mask a.include) subtree ∙ ap (λ x. family_row b.view b.subtree x a.include) mask ∙ ap (λ x. family_row b.view b.subtree b.mask x) include

-- ---- a document stands for one list of rows

module _ {R S : Type 0} (Stands : Members → R → Type 0) (f : R → S) (one : (t : Members) (a b : R) → Stands t a → Stands t b → f a ≡ f b) where
  one_row : (d : Data) (a b : R) → IsRow Stands d a → IsRow Stands d b → f a ≡ f b
  one_row (table t) a b h k = one t a b h k
  one_row _ a b h k = absurd h

  pub one_list : (values : Items) (xs ys : List R) → AreRows Stands values xs → AreRows Stands values ys → map f xs ≡ map f ys
  one_list no_items [] [] h k = refl
  one_list no_items [] (y ∷ ys) h k = absurd k
  one_list no_items (x ∷ xs) ys h k = absurd h
  one_list (item d values) [] ys h k = absurd h
  one_list (item d values) (x ∷ xs) [] h k = absurd k
  one_list (item d values) (x ∷ xs) (y ∷ ys) h k =
      let here = one_row d x y h.0 k.0 in
      let there = one_list values xs ys h.1 k.1 in
      cc

map_same : {R : Type 0} (xs : List R) → map (λ x. x) xs ≡ xs
map_same [] = refl
map_same (x ∷ xs) = ap (λ ys. x ∷ ys) (map_same xs)

pub same_list : {R : Type 0} (Stands : Members → R → Type 0) → ((t : Members) (a b : R) → Stands t a → Stands t b → a ≡ b) → (values : Items) (xs ys : List R) → AreRows Stands values xs → AreRows Stands values ys → xs ≡ ys
same_list Stands one values xs ys h k = sym (map_same xs) ∙ one_list Stands (λ x. x) one values xs ys h k ∙ map_same ys

abbrev tables_with : List ContextRow → List GroupRow → List AccessRow → List FamilyRow → Tables
tables_with contexts' groups' access' families' = record { contexts = contexts'; groups = groups'; access = access'; families = families' }

pub same_tables : (d : Members) (users others : List UserRow) (rows more : Tables) → StandsFor d users rows → StandsFor d others more → rows ≡ more
same_tables d users others rows more s o =
    let contexts = same_list IsContextRow one_context _ _ _ s.contexts o.contexts in
    let groups = same_list IsGroupRow one_group _ _ _ s.groups o.groups in
    let access = same_list IsAccessRow one_access _ _ _ s.access o.access in
    let families = same_list IsFamilyRow one_family _ _ _ s.families o.families in
    ap (λ x. tables_with x rows.groups rows.access rows.families) contexts ∙ ap (λ x. tables_with more.contexts x rows.access rows.families) groups ∙ ap (λ x. tables_with more.contexts more.groups x rows.families) access ∙ ap (λ x. tables_with more.contexts more.groups more.access x) families

pub one_document : (text : List ℕ) (d e : Members) → IsDocument text d → IsDocument text e → d ≡ e
one_document text d e h k = let same : Some d ≡ Some e = sym h.parsed ∙ k.parsed in cc

pub one_users : (text : List ℕ) (users others : List UserRow) (rows more : Tables) → Says text users rows → Says text others more → map user_values users ≡ map user_values others
one_users text users others rows more s o =
    let stands : StandsFor s.document others more = rw (one_document text s.document o.document s.is_document o.is_document) o.stands in
    one_list IsUserRow user_values one_user _ users others s.stands.user_rows stands.user_rows

pub one_rows : (text : List ℕ) (users others : List UserRow) (rows more : Tables) → Says text users rows → Says text others more → rows ≡ more
one_rows text users others rows more s o =
    let stands : StandsFor s.document others more = rw (one_document text s.document o.document s.is_document o.is_document) o.stands in
    same_tables s.document users others rows more s.stands stands
