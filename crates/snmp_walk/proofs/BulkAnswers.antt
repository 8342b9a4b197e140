-- Whole answers to a GetBulkRequest.
use Rattle.std.specs.Prelude.{◌≡◌, ◌<◌, ◌++◌, ℕ, List, [], ◌∷◌, All, Contains, Option, Some, None, ⊤, length, map, set, take, slice_index_or}
use Rattle.std.specs.List.{HoldsAt, AllZip}
use Rattle.std.proofs.Common.{refl, sym, ap, subst, ◌∙◌, append-nil, arith, Bool}
use Rattle.std.proofs.lemmas.List.{take_at}
use Rattle.std.proofs.lemmas.List.Elements.{All-head, All-set, All-tail, All-weaker}
use Rattle.std.proofs.lemmas.Slice.Zip.{AllZip-long}
use Rattle.snmp_msg.specs.Variables.{Variable}
use Rattle.snmp_walk.specs.Bindings.{given_says}
use Rattle.snmp_walk.specs.Column.{IsAsked}
use Rattle.snmp_walk.specs.BulkColumn.{BulkStands, StandsInBulk, bulk_request, given_in}
use Rattle.snmp_walk.specs.BulkSteps.{ColumnReads, Grows, IsBegun, IsForgotten, IsMarked, IsSettled, IsUnread, SaysSame, Settles, turn_of}
use Rattle.snmp_walk.specs.BulkAnswer.{AllSaySame, IsRead}
use Rattle.snmp_walk.specs.Turns.{AreAsked, AreTurns, IsTurnAt, ReadsTurns}
use Rattle.snmp_walk.specs.declared.given.GivenVariable.{GivenVariable}
use Rattle.snmp_walk.specs.declared.column.Progress.{Progress}
use Rattle.snmp_walk.specs.declared.column.Progress.TheVariants.{Wanting, Asked}
use Rattle.snmp_walk.specs.declared.bulk_column.BulkColumn.{BulkColumn}
use Rattle.snmp_walk.proofs.Bulk.{bulk_takes, bulk_waits}
use Rattle.snmp_walk.proofs.BulkReads.{all_grow_on, all_grow_same, grows_on, zip_at}
use Rattle.snmp_walk.proofs.Zipped.{zip_all, zip_on, zip_same}

-- a walk that was asked has its turn
has_turn : (p : Progress) → IsAsked p → (turn : Progress) × (turn_of p ≡ Some turn)
has_turn (Asked ask) asked = (Asked ask, refl)
has_turn _ asked = absurd asked

pub turns_begin : (olds begun : List BulkColumn) (ts : List ℕ) → AllZip IsBegun olds begun → AreAsked olds ts → AreTurns begun ts
turns_begin olds begun ts begins asked =
    All-weaker (λ number. (number < length olds) × HoldsAt (λ (c : BulkColumn). IsAsked c.progress) olds number) (IsTurnAt begun) by ts asked
  where
    by : (number : ℕ) → (number < length olds) × HoldsAt (λ (c : BulkColumn). IsAsked c.progress) olds number → IsTurnAt begun number
    by number at = (
      omega (arith, AllZip-long IsBegun olds begun begins, at.0),
      λ d. let one = zip_at IsBegun olds begun number d d at.0 begins in
          let turn = has_turn (slice_index_or olds number d).progress (at.1 d) in
          (turn.0, one.1.turn ∙ turn.1),
    )

-- an answer that was begun after it was noted how many variables there are
marked_begun : (old marked begun : BulkColumn) → IsMarked old marked → IsBegun marked begun → IsBegun old begun
marked_begun old marked begun mark begins =
    let says = mark.says_same in
    record {
      says_same = record { same = begins.says_same.same ∙ says.same; given = begins.says_same.given ∙ says.given; progress = begins.says_same.progress ∙ says.progress };
      had = begins.had ∙ ap (λ (gs : List GivenVariable). length gs) says.given;
      turn = begins.turn ∙ ap turn_of says.progress;
    }

pub marks_begun : (olds marked begun : List BulkColumn) → AllZip IsMarked olds marked → AllZip IsBegun marked begun → AllZip IsBegun olds begun
marks_begun = zip_on IsMarked IsBegun IsBegun marked_begun

pub marks_unread : (olds marked : List BulkColumn) → AllZip IsMarked olds marked → All IsUnread marked
marks_unread olds marked marks = zip_all IsMarked (λ (c : BulkColumn). ⊤) IsUnread (λ old new mark known. mark.unread) olds marked marks (λ k d within. tt)

marked_asked : (olds marked : List BulkColumn) (number : ℕ) → AllZip IsMarked olds marked → (number < length olds) × HoldsAt (λ (c : BulkColumn). IsAsked c.progress) olds number
    → (number < length marked) × HoldsAt (λ (c : BulkColumn). IsAsked c.progress) marked number
marked_asked olds marked number marks at = (
  omega (arith, AllZip-long IsMarked olds marked marks, at.0),
  λ d. let one = zip_at IsMarked olds marked number d d at.0 marks in subst IsAsked (sym one.1.says_same.progress) (at.1 d),
)

pub marks_asked : (olds marked : List BulkColumn) (ts : List ℕ) → AllZip IsMarked olds marked → AreAsked olds ts → AreAsked marked ts
marks_asked olds marked ts marks asked =
    All-weaker (λ number. (number < length olds) × HoldsAt (λ (c : BulkColumn). IsAsked c.progress) olds number)
    (λ number. (number < length marked) × HoldsAt (λ (c : BulkColumn). IsAsked c.progress) marked number)
    (λ number at. marked_asked olds marked number marks at) ts asked

pub grows_not : (c : BulkColumn) → Grows c c
grows_not c = record { same = refl; progress = refl; had = refl; turn = λ turn. turn; more = []; given = sym (append-nil c.got.items) }

-- more is read of an answer that was read in part
pub all_grow_more : (xs ys zs : List BulkColumn) → AllZip Grows xs ys → AllZip Grows ys zs → AllZip Grows xs zs
all_grow_more = zip_on Grows Grows Grows grows_on

-- an answer that was read in part
abbrev MarkedTo : BulkColumn → BulkColumn → Type 0
MarkedTo old now = (marked : BulkColumn) × IsMarked old marked × Grows marked now

-- an answer that is given back
forgot : (old now new : BulkColumn) → MarkedTo old now → IsForgotten now new → SaysSame old new
forgot old now new to forgotten =
    let had : now.had ≡ length old.got.items = to.2.had ∙ to.1.unread.had ∙ ap (λ (gs : List GivenVariable). length gs) to.1.says_same.given in
    let items : now.got.items ≡ old.got.items ++ to.2.more = to.2.given ∙ ap (λ (gs : List GivenVariable). gs ++ to.2.more) to.1.says_same.given in
    record {
      same = forgotten.same ∙ to.2.same ∙ to.1.says_same.same;
      given = forgotten.given ∙ ap (λ n. take n now.got.items) had ∙ ap (λ (gs : List GivenVariable). take (length old.got.items) gs) items ∙ take_at old.got.items to.2.more (length old.got.items) refl;
      progress = forgotten.progress ∙ to.2.progress ∙ to.1.says_same.progress;
    }

pub given_back : (olds marked now news : List BulkColumn) → AllZip IsMarked olds marked → AllZip Grows marked now → AllZip IsForgotten now news → AllSaySame olds news
given_back olds marked now news marks grows forgotten =
    zip_on MarkedTo IsForgotten SaysSame forgot olds now news
    (zip_on IsMarked Grows MarkedTo (λ old m n mark grow. (m, mark, grow)) olds marked now marks grows) forgotten

-- ---- what is known of the columns

-- where a walk is in an answer, or else where it is
abbrev current : Option Progress → Progress → Progress
current (Some turn) progress = turn
current None progress = progress

module _ (Seen : List ℕ → Type 0) (told : List Variable) where
  abbrev ReadStands : BulkColumn → Type 0
  ReadStands c = StandsInBulk Seen told c.first (given_in c) (current c.reading c.progress)

  same_turn : (p : Progress) → current (turn_of p) p ≡ p
  same_turn (Wanting from) = refl
  same_turn _ = refl

  stands_as : (old new : BulkColumn) (p q : Progress) → bulk_request new ≡ bulk_request old → new.got.items ≡ old.got.items → q ≡ p → StandsInBulk Seen told old.first (given_in old) p → StandsInBulk Seen told new.first (given_in new) q
  stands_as old new p q same given progress stands =
      subst (λ (x : Progress). StandsInBulk Seen told new.first (given_in new) x) (sym progress)
      (subst (λ (gs : List GivenVariable). StandsInBulk Seen told new.first (map given_says gs) p) (sym given)
      (subst (λ (r : List ℕ × ℕ). StandsInBulk Seen told r.0 (given_in old) p) (sym same) stands))

  pub same_stands : (old new : BulkColumn) → SaysSame old new → BulkStands Seen told old → BulkStands Seen told new
  same_stands old new says stands = stands_as old new old.progress new.progress says.same says.given says.progress stands

  begun_stands : (old new : BulkColumn) → IsBegun old new → BulkStands Seen told old → ReadStands new
  begun_stands old new begun stands =
      stands_as old new old.progress (current new.reading new.progress) begun.says_same.same begun.says_same.given
      (ap (λ (r : Option Progress). current r new.progress) begun.turn ∙ ap (current (turn_of old.progress)) begun.says_same.progress ∙ same_turn old.progress) stands

  reads_stands : (old new : BulkColumn) (v : Variable) → ColumnReads Seen old v new → Contains told v → ReadStands old → ReadStands new
  reads_stands old new v reads there stands =
      let before = subst (λ (r : Option Progress). StandsInBulk Seen told old.first (given_in old) (current r old.progress)) reads.before_is stands in
      subst (λ (r : Option Progress). StandsInBulk Seen told new.first (given_in new) (current r new.progress)) (sym reads.after_is)
      (subst (λ (r : List ℕ × ℕ). StandsInBulk Seen told r.0 (given_in new) reads.after) (sym reads.grows.same)
      (bulk_takes Seen told old.first (given_in old) (given_in new) reads.before reads.after v reads.fits there reads.takes before))

  turns_stand : (cs : List BulkColumn) (ts : List ℕ) (vs : List Variable) (news : List BulkColumn) → ReadsTurns Seen cs ts vs news → All (Contains told) vs → All ReadStands cs → All ReadStands news
  turns_stand cs [] [] news reads there all = subst (All ReadStands) (sym reads) all
  turns_stand cs [] (v ∷ vs) news reads there all = absurd reads
  turns_stand cs (t ∷ ts) [] news reads there all = absurd reads
  turns_stand cs (t ∷ ts) (v ∷ vs) news reads there all =
      let new = reads.1 in
      let one = reads_stands (slice_index_or cs t new) new v (reads.2 new) (All-head (Contains told) v vs there) (all t new reads.0) in
      turns_stand (set cs t new) ts vs news reads.3 (All-tail (Contains told) v vs there) (All-set ReadStands cs t new one all)

  settled_stands : (old new : BulkColumn) → IsSettled old new → ReadStands old → BulkStands Seen told new
  settled_stands old new settled stands = by old.reading settled.settles stands
    where
      by : (r : Option Progress) → Settles r old.progress new.progress → StandsInBulk Seen told old.first (given_in old) (current r old.progress) → BulkStands Seen told new
      by (Some turn) settles stands = stands_as old new new.progress new.progress settled.same settled.given refl (bulk_waits Seen told old.first (given_in old) turn new.progress settles stands)
      by None settles stands = stands_as old new old.progress new.progress settled.same settled.given settles stands

  pub read_stands : (whole : Bool) (olds : List BulkColumn) (ts : List ℕ) (vs : List Variable) (news : List BulkColumn) → IsRead Seen whole olds ts vs news → All (Contains told) vs → All (BulkStands Seen told) olds → All (BulkStands Seen told) news
  read_stands whole olds ts vs news read there all =
      zip_all IsSettled ReadStands (BulkStands Seen told) settled_stands read.ended news read.settles
      (turns_stand read.begun read.reads.done vs read.ended read.reads.reads there (zip_all IsBegun (BulkStands Seen told) ReadStands begun_stands olds read.begun read.begins all))

module _ (Seen : List ℕ → Type 0) where
  pub turns_grow : (cs : List BulkColumn) (ts : List ℕ) (vs : List Variable) (news : List BulkColumn) → ReadsTurns Seen cs ts vs news → AllZip Grows cs news
  turns_grow cs [] [] news reads = subst (AllZip Grows cs) (sym reads) (all_grow_same cs)
  turns_grow cs [] (v ∷ vs) news reads = absurd reads
  turns_grow cs (t ∷ ts) [] news reads = absurd reads
  turns_grow cs (t ∷ ts) (v ∷ vs) news reads =
      let new = reads.1 in
      zip_on Grows Grows Grows grows_on cs (set cs t new) news (all_grow_on cs cs t new new reads.0 (all_grow_same cs) (reads.2 new).grows) (turns_grow (set cs t new) ts vs news reads.3)

  pub read_same : (whole : Bool) (olds : List BulkColumn) (ts : List ℕ) (vs : List Variable) (news : List BulkColumn) → IsRead Seen whole olds ts vs news → map bulk_request news ≡ map bulk_request olds
  read_same whole olds ts vs news read =
      zip_same IsSettled bulk_request (λ old new settled. settled.same) read.ended news read.settles
      ∙ zip_same Grows bulk_request (λ old new grows. grows.same) read.begun read.ended (turns_grow read.begun read.reads.done vs read.ended read.reads.reads)
      ∙ zip_same IsBegun bulk_request (λ old new begun. begun.says_same.same) olds read.begun read.begins
