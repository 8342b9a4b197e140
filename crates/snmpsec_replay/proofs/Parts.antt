-- Logs in turn, and in pieces.
use Rattle.std.proofs.Common.{◌≡◌, ◌<◌, ◌+◌, ℕ, Bool, false, List, [], ◌∷◌, ◌++◌, length, map, refl, sym, ap, ◌∙◌, subst, inl, inr, arith, append_assoc}
use Rattle.std.specs.Prelude.{⊤, Contains}
use Rattle.std.specs.List.{concat, flat_map}
use Rattle.std.proofs.lemmas.List.{map-append}
use Rattle.std.proofs.lemmas.List.Elements.{Contains-append_left, Contains-append_right, Contains-append_cases}
use Rattle.engine_clock.specs.Saved.{AreMarks, listing}
use Rattle.engine_clock.specs.Merging.{IsMergeOf}
use Rattle.snmp_manager.specs.Views.{Held}
use Rattle.snmp_manager.specs.Runs.{HasTaken}
use Rattle.snmp_manager.specs.Pieces.{Piece, InPieces, ArePiecesOf, SavesText, SaveEach}
use Rattle.snmp_manager.proofs.Learned.{taken_behind}
use Rattle.snmp_manager.proofs.Pieces.{Contains-first, Contains-later, Contains-either, none_in, pieces_joined}
use Rattle.snmpsec_replay.specs.Log.{LogEntry}
use Rattle.snmpsec_replay.specs.declared.printing.Printing.{Printing}
use Rattle.snmpsec_replay.specs.Replay.{Answers, ReplayText, printed_line}
use Rattle.snmpsec_replay.specs.Pieces.{InTurn, ReplaySaves, ReplayEach}
use Rattle.snmpsec_replay.proofs.OneLog.{AreWhole, whole_lines, one_whole}

-- ---- lines that go on

pub answers_on : (lines : Bool) (begin mid after : Held) (n : ℕ) (es fs : List LogEntry) (text more : List ℕ)
    → Answers lines begin n es text mid → Answers lines mid (n + length es) fs more after → Answers lines begin n (es ++ fs) (text ++ more) after
answers_on lines begin mid after n [] fs text more first later =
    let number : n + length {A = LogEntry} [] ≡ n = omega arith in
    subst (λ t. Answers lines begin n fs (t ++ more) after) (sym first.0)
    (subst (λ (h : Held). Answers lines h n fs more after) first.1 (subst (λ k. Answers lines mid k fs more after) number later))
answers_on lines begin mid after n (e ∷ es) fs text more (outcome, next, rest, takes, parts, others) later =
    let number : n + length (e ∷ es) ≡ (n + 1) + length es = omega arith in (
      outcome,
      next,
      rest ++ more,
      takes,
      ap (λ t. t ++ more) parts ∙ append_assoc (printed_line lines n e.moment outcome) rest more,
      answers_on lines next mid after (n + 1) es fs rest more others (subst (λ k. Answers lines mid k fs more after) number later),
    )

-- where no lines are wanted none is printed
no_answers : (old : Held) (n : ℕ) (es : List LogEntry) (text : List ℕ) (new : Held) → Answers false old n es text new → text ≡ []
no_answers old n [] text new h = h.0
no_answers old n (e ∷ es) text new (outcome, mid, rest, takes, parts, later) = parts ∙ no_answers mid (n + 1) es rest new later

pub saved_alone : (p : Printing) (begin : Held) (log text : List ℕ) → p.lines ≡ false → ReplayText p begin log text → ReplaySaves begin log text
saved_alone p begin log text none is =
    let answers = subst (λ b. Answers b begin p.first is.replays.entries is.answers is.after) none is.replays.answers in
    record {
      printing = p;
      answers = is.answers;
      after = is.after;
      replays = is.replays;
      fits = is.fits;
      is = is.is ∙ ap (λ t. t ++ listing is.after.clocks) (no_answers begin p.first is.replays.entries is.answers is.after answers);
    }

-- ---- what is taken of a log

abbrev taken : List LogEntry → Piece
taken es = map (λ e. (e.moment, e.datagram)) es

answers_taken : (lines : Bool) (old : Held) (n : ℕ) (es : List LogEntry) (text : List ℕ) (new : Held) → Answers lines old n es text new → HasTaken old (taken es) new
answers_taken lines old n [] text new h = h.1
answers_taken lines old n (e ∷ es) text new (outcome, mid, rest, takes, parts, later) = (mid, (takes.0, takes.2), answers_taken lines mid (n + 1) es rest new later)

whole_append : (es fs : List LogEntry) (s t : List ℕ) → AreWhole es s → AreWhole fs t → AreWhole (es ++ fs) (s ++ t)
whole_append [] fs s t p q = subst (λ u. AreWhole fs (u ++ t)) (sym p) q
whole_append (e ∷ es) fs s t (line, rest, says, parts, later) q =
    (line, rest ++ t, says, ap (λ u. u ++ t) parts ∙ append_assoc line (10 ∷ rest) t, whole_append es fs rest t later q)

-- logs in turn are taken as one
in_turn : (begin after : Held) (logs : List (List ℕ)) → InTurn begin logs after → (es : List LogEntry) × AreWhole es (concat logs) × HasTaken begin (taken es) after
in_turn begin after [] turn = ([], refl, turn)
in_turn begin after (log ∷ logs) (p, mid, answers, replays, later) =
    let es = replays.entries in
    let others = in_turn mid after logs later in (
      es ++ others.0,
      whole_append es others.0 log (concat logs) (whole_lines 1 es log replays.lines) others.1,
      subst (λ ts. HasTaken begin ts after) (sym (map-append (λ e. (e.moment, e.datagram)) es others.0))
          (taken_behind begin mid after (taken es) (taken others.0) (answers_taken p.lines begin p.first es answers mid replays.answers) others.2),
    )

-- ---- pieces

-- each text is these lines
abbrev AllWhole : List (List LogEntry) → List (List ℕ) → Type 0
AllWhole [] [] = ⊤
AllWhole [] (t ∷ texts) = ⊥
AllWhole (es ∷ ess) [] = ⊥
AllWhole (es ∷ ess) (t ∷ texts) = AreWhole es t × AllWhole ess texts

abbrev joined : List (List LogEntry) → List LogEntry
joined ess = flat_map (λ es. es) ess

all_joined : (ess : List (List LogEntry)) (texts : List (List ℕ)) → AllWhole ess texts → AreWhole (joined ess) (concat texts)
all_joined [] [] all = refl
all_joined [] (t ∷ texts) all = absurd all
all_joined (es ∷ ess) [] all = absurd all
all_joined (es ∷ ess) (t ∷ texts) all = whole_append es (joined ess) t (concat texts) all.0 (all_joined ess texts all.1)

-- a line of one of the texts says this
abbrev Says : List (List ℕ) → ℕ × List ℕ → Type 0
Says texts t = (text : List ℕ) × Contains texts text × ((es : List LogEntry) × AreWhole es text × Contains (taken es) t)

says_later : (first : List ℕ) (texts : List (List ℕ)) (t : ℕ × List ℕ) → Says texts t → Says (first ∷ texts) t
says_later first texts t (text, c, es) = (text, Contains-later first texts text c, es)

-- what is taken of all
joined_says : (ess : List (List LogEntry)) (texts : List (List ℕ)) (t : ℕ × List ℕ) → AllWhole ess texts → Contains (taken (joined ess)) t → Says texts t
joined_says [] [] t all c = absurd (none_in t c)
joined_says [] (text ∷ texts) t all c = absurd all
joined_says (es ∷ ess) [] t all c = absurd all
joined_says (es ∷ ess) (text ∷ texts) t all c =
    elim (Contains-append_cases (taken es) (taken (joined ess)) t (subst (λ ts. Contains ts t) (map-append (λ e. (e.moment, e.datagram)) es (joined ess)) c)) [
      | inl here ↦ (text, Contains-first text texts, (es, all.0, here))
      | inr there ↦ says_later text texts t (joined_says ess texts t all.1 there)
    ]

says_joined : (ess : List (List LogEntry)) (texts : List (List ℕ)) (t : ℕ × List ℕ) → AllWhole ess texts → Says texts t → Contains (taken (joined ess)) t
says_joined [] [] t all (text, c, es) = absurd (none_in text c)
says_joined [] (first ∷ texts) t all says = absurd all
says_joined (es ∷ ess) [] t all says = absurd all
says_joined (es ∷ ess) (first ∷ texts) t all (text, c, says) =
    subst (λ ts. Contains ts t) (sym (map-append (λ e. (e.moment, e.datagram)) es (joined ess)))
    (elim (Contains-either first texts text c) [
      | inl same ↦
          let one : says.0 ≡ es = one_whole says.0 es first (subst (λ u. AreWhole says.0 u) same says.1) all.0 in
          Contains-append_left (taken es) (taken (joined ess)) t (subst (λ (gs : List LogEntry). Contains (taken gs) t) one says.2)
      | inr more ↦ Contains-append_right (taken es) (taken (joined ess)) t (says_joined ess texts t all.1 (text, more, says))
    ])

-- what is taken of the pieces
pieces_say : (ess : List (List LogEntry)) (texts : List (List ℕ)) (t : ℕ × List ℕ) → AllWhole ess texts → InPieces (map taken ess) t → Says texts t
pieces_say [] [] t all (piece, c, has) = absurd (none_in piece c)
pieces_say [] (text ∷ texts) t all some = absurd all
pieces_say (es ∷ ess) [] t all some = absurd all
pieces_say (es ∷ ess) (text ∷ texts) t all (piece, c, has) =
    elim (Contains-either (taken es) (map taken ess) piece c) [
      | inl same ↦ (text, Contains-first text texts, (es, all.0, subst (λ (p : Piece). Contains p t) same has))
      | inr more ↦ says_later text texts t (pieces_say ess texts t all.1 (piece, more, has))
    ]

say_pieces : (ess : List (List LogEntry)) (texts : List (List ℕ)) (t : ℕ × List ℕ) → AllWhole ess texts → Says texts t → InPieces (map taken ess) t
say_pieces [] [] t all (text, c, es) = absurd (none_in text c)
say_pieces [] (first ∷ texts) t all says = absurd all
say_pieces (es ∷ ess) [] t all says = absurd all
say_pieces (es ∷ ess) (first ∷ texts) t all (text, c, says) =
    elim (Contains-either first texts text c) [
      | inl same ↦
          let one : says.0 ≡ es = one_whole says.0 es first (subst (λ u. AreWhole says.0 u) same says.1) all.0 in
          (taken es, Contains-first (taken es) (map taken ess), subst (λ (gs : List LogEntry). Contains (taken gs) t) one says.2)
      | inr more ↦
          let found = say_pieces ess texts t all.1 (text, more, says) in
          (found.0, Contains-later (taken es) (map taken ess) found.0 found.1, found.2)
    ]

-- what each replay took and saved
each_saves : (begin : Held) (logs texts : List (List ℕ)) → ReplayEach begin logs texts → (ess : List (List LogEntry)) × AllWhole ess logs × SaveEach begin (map taken ess) texts
each_saves begin [] [] each = ([], tt, tt)
each_saves begin [] (t ∷ texts) each = absurd each
each_saves begin (log ∷ logs) [] each = absurd each
each_saves begin (log ∷ logs) (t ∷ texts) (saves, later) =
    let r = saves.replays in
    let others = each_saves begin logs texts later in
    let first : SavesText begin (taken r.entries) t = record {
      after = saves.after;
      taken = answers_taken saves.printing.lines begin saves.printing.first r.entries saves.answers saves.after r.answers;
      fits = saves.fits;
      is = saves.is;
    } in
    (r.entries ∷ others.0, (whole_lines 1 r.entries log r.lines, others.1), (first, others.2))

-- the lines of texts that stand among others
whole_among : (ess : List (List LogEntry)) (texts : List (List ℕ)) → AllWhole ess texts → (text : List ℕ) → Contains texts text → (es : List LogEntry) × AreWhole es text
whole_among [] [] all text c = absurd (none_in text c)
whole_among [] (first ∷ texts) all text c = absurd all
whole_among (es ∷ ess) [] all text c = absurd all
whole_among (es ∷ ess) (first ∷ texts) all text c =
    elim (Contains-either first texts text c) [ inl same ↦ (es, subst (λ u. AreWhole es u) (sym same) all.0) | inr more ↦ whole_among ess texts all.1 text more ]

all_whole : (texts : List (List ℕ)) → ((text : List ℕ) → Contains texts text → (es : List LogEntry) × AreWhole es text) → (ess : List (List LogEntry)) × AllWhole ess texts
all_whole [] each = ([], tt)
all_whole (t ∷ texts) each =
    let first = each t (Contains-first t texts) in
    let others = all_whole texts (λ text c. each text (Contains-later t texts text c)) in
    (first.0 ∷ others.0, (first.1, others.1))

some_mapped : (ess : List (List LogEntry)) (texts : List (List ℕ)) → AllWhole ess texts → 0 < length texts → 0 < length (map taken ess)
some_mapped [] [] all some = absurd (omega (arith, some))
some_mapped [] (t ∷ texts) all some = absurd all
some_mapped (es ∷ ess) texts all some = omega arith

pub logs_joined : (now : ℕ) (begin after : Held) (logs pieces replayed texts : List (List ℕ)) (merged : List ℕ)
    → InTurn begin logs after → AreMarks after.clocks → concat pieces ≡ concat logs
    → ((one : List ℕ) → Contains pieces one → Contains replayed one) → ((one : List ℕ) → Contains replayed one → Contains pieces one)
    → 0 < length replayed → ReplayEach begin replayed texts → IsMergeOf now texts merged → merged ≡ listing after.clocks
logs_joined now begin after logs pieces replayed texts merged turn fits same to from some each merge =
    let whole = in_turn begin after logs turn in
    let apart = each_saves begin replayed texts each in
    let cut = all_whole pieces (λ text c. whole_among apart.0 replayed apart.1 text (to text c)) in
    let one : whole.0 ≡ joined cut.0 = one_whole whole.0 (joined cut.0) (concat logs) whole.1 (subst (λ u. AreWhole (joined cut.0) u) same (all_joined cut.0 pieces cut.1)) in
    let are : ArePiecesOf (taken (joined cut.0)) (map taken apart.0) = λ t. (
      (λ c. let says = joined_says cut.0 pieces t cut.1 c in say_pieces apart.0 replayed t apart.1 (says.0, to says.0 says.1, says.2)),
      (λ c. let says = pieces_say apart.0 replayed t apart.1 c in says_joined cut.0 pieces t cut.1 (says.0, from says.0 says.1, says.2)),
    ) in
    let all : SavesText begin (taken (joined cut.0)) (listing after.clocks) = record {
      after = after;
      taken = subst (λ (es : List LogEntry). HasTaken begin (taken es) after) one whole.2;
      fits = fits;
      is = refl;
    } in
    pieces_joined now begin (taken (joined cut.0)) (map taken apart.0) (listing after.clocks) merged texts are (some_mapped apart.0 replayed apart.1 some) all apart.2 merge
