-- A script that can't go on.
use Rattle.std.proofs.Common.{◌≡◌, ◌≢◌, ℕ, ◌+◌, ◌*◌, ◌<◌, ◌≤◌, List, [], ◌∷◌, ◌++◌, length, take, Option, refl, sym, subst, ap, ◌∙◌, arith, append_assoc, append-nil, inl, inr, min, true}
use Rattle.std.specs.List.{AllByRecursion}
use Rattle.std.specs.Io.KnownBytes.{Appends, Consumes, IsAtEnd}
use Rattle.std.proofs.Math.Seq.{take-append-add}
use Rattle.std.proofs.lemmas.List.{length-append, length-take}
use Rattle.reg_script.specs.declared.engine.TheConstants.{LINES_LIMIT, READS_LIMIT}
use Rattle.reg_model.specs.Callbacks.{Callbacks}
use Rattle.reg_calls.specs.Views.{View}
use Rattle.reg_script.specs.declared.engine.ScriptFault.{ScriptFault}
use Rattle.reg_script.specs.declared.engine.ScriptFault.TheVariants.{Read, Write, TooLong, Memory}
use Rattle.reg_script.specs.declared.failed.StrictFault.{StrictFault}
use Rattle.reg_script.specs.declared.failed.StrictFault.TheVariants.{Script as Of, Line}
use Rattle.reg_script.specs.LineWords.{lines_of}
use Rattle.reg_script.specs.Lines.{Stand, begins_at, AreSaid}
use Rattle.reg_script.specs.FailedLines.{wanting, HaveFailed}
use Rattle.reg_script.specs.Internal.StrictEnds.{StopsIn}
use Rattle.reg_script.specs.Internal.Outputs.{IsCut}
use Rattle.reg_script.specs.Stops.{longest_line, most_lines, HasNoFeed, AreWithin, IsTooLong, PassesBound, IsTaken, EndsWithFeed, IsLeft}
use Rattle.reg_script.specs.Stops.{AreWritten}
use Rattle.reg_script.specs.Internal.Progress.{Position, IsSteady, with_feeds, IsLine, Passes, Takes, IsIdle, Place, among, past, IsEnded, IsLineFault, IsFault, Halts, HaltsAtEnd}
use Rattle.reg_script.proofs.ProgressLemmas.{lines_fed, lines_short, takes_none, takes_then}
use Rattle.reg_script.proofs.ProgressLemmas.{appends_then}

-- ---- more bytes behind those that were not taken

long_more : (bytes more : List ℕ) → IsTooLong bytes → IsTooLong (bytes ++ more)
long_more bytes more h = record {
  line = h.line;
  more = h.more ++ more;
  bytes_are = ap (λ (w : List ℕ). w ++ more) h.bytes_are ∙ append_assoc h.line h.more more;
  no_feed = h.no_feed;
  long = h.long;
}

pub passes_more : (lines : ℕ) (rest more : List ℕ) → PassesBound lines rest → PassesBound lines (rest ++ more)
passes_more lines rest more (inl h) = inl (h.0, omega (arith, h.1, length-append rest more))
passes_more lines rest more (inr h) = inr (long_more rest more h)

fault_more : (fault : StrictFault) (mid new : Position) (back more : List ℕ) → IsFault among fault mid back new →
    IsFault among fault mid (back ++ more) new
fault_more (Of Read) mid new back more h = absurd h.1
fault_more (Of (Write written)) mid new back more h = h
fault_more (Of TooLong) mid new back more h = (
  h.0,
  subst (λ (w : List ℕ). PassesBound mid.lines w) (append_assoc mid.begun back more)
      (passes_more mid.lines (mid.begun ++ back) more h.1),
)
fault_more (Of Memory) mid new back more h = h
fault_more (Line failed) mid new back more h = (h.0, (h.1.0 ++ more, ap (λ (w : List ℕ). w ++ more) h.1.1), h.2)

ended_anywhere : (place : Place) (back : List ℕ) → IsEnded among back → IsEnded place back
ended_anywhere among back h = h
ended_anywhere past back h = inl h

-- a fault among the bytes
fault_anywhere : (place : Place) (fault : StrictFault) (mid new : Position) (back : List ℕ) → IsFault among fault mid back new →
    IsFault place fault mid back new
fault_anywhere place (Of Read) mid new back h = absurd h.1
fault_anywhere place (Of (Write written)) mid new back h = h
fault_anywhere place (Of TooLong) mid new back h = h
fault_anywhere place (Of Memory) mid new back h = h
fault_anywhere place (Line failed) mid new back h = (h.0, ended_anywhere place back h.1, h.2)

-- ---- where it halts

pub halts_here : (old new : Position) (bytes : List ℕ) (fault : StrictFault) → IsSteady old → new.stand.hive ≡ old.stand.hive →
    IsFault among fault old bytes new → Halts among old bytes new fault
halts_here old new bytes fault steady same faults =
    record { mid = old; front = []; back = bytes; splits = refl; takes = takes_none old steady; hive = same; faults = faults }

pub halts_after : (place : Place) (a b new : Position) (xs ys : List ℕ) (fault : StrictFault) → Takes a xs b →
    Halts among b ys new fault → Halts place a (xs ++ ys) new fault
halts_after place a b new xs ys fault h k = record {
  mid = k.mid;
  front = xs ++ k.front;
  back = k.back;
  splits = ap (λ (w : List ℕ). xs ++ w) k.splits ∙ sym (append_assoc xs k.front k.back);
  takes = takes_then a b k.mid xs k.front h k.takes;
  hive = k.hive;
  faults = fault_anywhere place fault k.mid new k.back k.faults;
}

pub halts_before : (a new : Position) (xs ys : List ℕ) (fault : StrictFault) → Halts among a xs new fault →
    Halts among a (xs ++ ys) new fault
halts_before a new xs ys fault h = record {
  mid = h.mid;
  front = h.front;
  back = h.back ++ ys;
  splits = ap (λ (w : List ℕ). w ++ ys) h.splits ∙ append_assoc h.front h.back ys;
  takes = h.takes;
  hive = h.hive;
  faults = fault_more fault h.mid new h.back ys h.faults;
}

-- after the bytes taken so far, nothing was done
pub halts_at : (place : Place) (old new : Position) (bytes : List ℕ) (fault : StrictFault) (now : Position) → Takes old bytes now →
    new.stand.hive ≡ now.stand.hive → IsFault place fault now [] new
    → Halts place old bytes new fault
halts_at place old new bytes fault now h same faults =
    record { mid = now; front = bytes; back = []; splits = sym (append-nil bytes); takes = h; hive = same; faults = faults }

-- a line too many
pub too_many_lines : (lines : ℕ) (begun : List ℕ) (b : ℕ) → lines ≤ most_lines → most_lines ≤ lines → PassesBound lines (begun ++ b ∷ [])
too_many_lines lines begun b few many = inl (omega (arith, few, many), omega (arith, length-append begun (b ∷ [])))

-- ---- how many bytes there are within the bounds

pub fed_length : (lines : List (List ℕ)) → AllByRecursion IsLine lines → length (with_feeds lines) ≤ length lines * (longest_line + 1)
unfolding longest_line
fed_length [] h = omega arith
fed_length (line ∷ lines) h = let rest = fed_length lines h.1 in omega (arith, rest, h.0.short, length-append line (10 ∷ with_feeds lines))

pub not_so_many : (old new : Position) (bytes : List ℕ) → old.lines ≡ 0 → old.begun ≡ [] → Takes old bytes new → length bytes < READS_LIMIT
unfolding longest_line most_lines
not_so_many old new bytes none empty h =
    let same : bytes ≡ with_feeds h.ended ++ new.begun = ap (λ (w : List ℕ). w ++ bytes) (sym empty) ∙ h.splits in
    let total : length bytes ≡ length (with_feeds h.ended) + length new.begun = ap (λ (w : List ℕ). length w) same ∙
    length-append (with_feeds h.ended) new.begun in
    let fed = fed_length h.ended h.are_lines in
    by new.begun total h.steady.short h.steady.one_more (omega (arith, h.counts, none)) h.steady.few fed
  where
    by : (begun : List ℕ) → length bytes ≡ length (with_feeds h.ended) + length begun → length begun ≤ longest_line →
        (0 < length begun → new.lines < most_lines) → new.lines ≡ length h.ended → new.lines ≤ most_lines
        → length (with_feeds h.ended) ≤ length h.ended * (longest_line + 1) → length bytes < READS_LIMIT
    by [] total short one_more counts few fed = omega (arith, total, counts, few, fed)
    by (b ∷ bs) total short one_more counts few fed = let fewer = one_more (omega arith) in omega (arith, total, short, fewer, counts, fed)

-- ---- what stands after the fault

-- lines that ended are the lines of their bytes, which end with an LF
pub lines_are : (lines : List (List ℕ)) → AllByRecursion IsLine lines → lines_of (with_feeds lines) ≡ lines
lines_are lines h = ap lines_of (sym (append-nil (with_feeds lines))) ∙ (lines_fed lines [] h ∙ append-nil lines)

pub fed_ends : (lines : List (List ℕ)) → EndsWithFeed (with_feeds lines)
fed_ends [] = inl refl
fed_ends (l ∷ ls) = by (with_feeds ls) (fed_ends ls)
  where
    by : (rest : List ℕ) → EndsWithFeed rest → EndsWithFeed (l ++ 10 ∷ rest)
    by rest (inl none) = inr (l, ap (λ (w : List ℕ). l ++ 10 ∷ w) none)
    by rest (inr h) = inr (l ++ 10 ∷ h.0, ap (λ (w : List ℕ). l ++ 10 ∷ w) h.1 ∙ sym (append_assoc l (10 ∷ h.0) (10 ∷ [])))

-- a line that was begun and passes no bound, after so many
keeps_bound : (position : Position) → IsSteady position → PassesBound position.lines position.begun → ⊥
keeps_bound position steady (inl h) = omega (arith, h.0, steady.one_more h.1)
keeps_bound position steady (inr h) =
    omega (arith, h.long, steady.short, ap (λ (w : List ℕ). length w) h.bytes_are, length-append h.line h.more)

-- after lines that ended, what was begun is the rest where no byte is behind it
pub unended : (lines : List (List ℕ)) (mid : Position) (back : List ℕ) → AllByRecursion IsLine lines → IsSteady mid →
    mid.lines ≡ length lines → back ≡ [] →
    EndsWithFeed (with_feeds lines) × HasNoFeed (mid.begun ++ back) ×
    (PassesBound (length (lines_of (with_feeds lines))) (mid.begun ++ back) → ⊥)
unended lines mid back are steady counts none =
    let rest : mid.begun ≡ mid.begun ++ back = sym (append-nil mid.begun) ∙ ap (λ (w : List ℕ). mid.begun ++ w) (sym none) in
    let count : mid.lines ≡ length (lines_of (with_feeds lines)) = counts ∙
    ap (λ (ls : List (List ℕ)). length ls) (sym (lines_are lines are)) in (
      fed_ends lines,
      subst (λ (w : List ℕ). HasNoFeed w) rest steady.no_feed,
      subst (λ (w : List ℕ). PassesBound (length (lines_of (with_feeds lines))) w → ⊥) rest
          (subst (λ (n : ℕ). PassesBound n mid.begun → ⊥) count (keeps_bound mid steady)),
    )

pub passing : (lines : List (List ℕ)) (n : ℕ) (rest : List ℕ) → AllByRecursion IsLine lines → n ≡ length lines → PassesBound n rest →
    PassesBound (length (lines_of (with_feeds lines))) rest
passing lines n rest are counts h =
    subst (λ (m : ℕ). PassesBound m rest) (counts ∙ ap (λ (ls : List (List ℕ)). length ls) (sym (lines_are lines are))) h

-- ---- the lines before a fault, as those of their bytes

module _ (place : Place) (old new : Position) (script : List ℕ) (fault : StrictFault) (k : Halts place old script new fault) where
  abbrev fed : List ℕ
  fed = with_feeds k.takes.ended

  pub script_fed : old.begun ≡ [] → script ≡ fed ++ (k.mid.begun ++ k.back)
  script_fed empty =
      let front_is : k.front ≡ fed ++ k.mid.begun = ap (λ (w : List ℕ). w ++ k.front) (sym empty) ∙ k.takes.splits in
      k.splits ∙ (ap (λ (w : List ℕ). w ++ k.back) front_is ∙ append_assoc fed k.mid.begun k.back)

  pub within_fed : old.lines ≡ 0 → AreWithin (lines_of fed)
  within_fed none = subst (λ (w : List (List ℕ)). AreWithin w) (sym (lines_are k.takes.ended k.takes.are_lines))
      (record { few = omega (arith, k.takes.steady.few, k.takes.counts, none); short = lines_short k.takes.ended k.takes.are_lines })

  pub count_fed : old.lines ≡ 0 → k.mid.lines ≡ length (lines_of fed)
  count_fed none =
      let count = ap (λ (w : List (List ℕ)). length w) (lines_are k.takes.ended k.takes.are_lines) in
      omega (arith, k.takes.counts, none, count)

  module _ (begin : ℕ) (callbacks : Callbacks) (hive : View) (is : old.stand ≡ begins_at begin callbacks hive) where
    pub said_fed : AreSaid (lines_of fed) (begins_at begin callbacks hive) k.takes.replies k.mid.stand
    said_fed = subst (λ (s : Stand). AreSaid (lines_of fed) s k.takes.replies k.mid.stand) is
        (subst (λ (w : List (List ℕ)). AreSaid w old.stand k.takes.replies k.mid.stand) (sym (lines_are k.takes.ended k.takes.are_lines)) k.takes.said)

    -- a script that stops at a line that failed met none before
    pub none_fed : old.failed ≡ 0 → old.strict ≡ true → HaveFailed 0 (lines_of fed) hive k.mid.stand.hive
    none_fed well strict =
        let want = ap wanting (lines_are k.takes.ended k.takes.are_lines) in
        let spared = k.takes.spares strict in
        let fails = k.takes.fails in
        let journal = ap (λ (s : Stand). length s.hive.journal) is in
        omega (arith, want, spared, fails, journal, well)

pub stops_with : (place : Place) (old new : Position) (begin : ℕ) (callbacks : Callbacks) (hive new_hive : View) (script : List ℕ) (fault : StrictFault) (result : ScriptFault)
    (unread left final : Option (List ℕ)) → (k : Halts place old script new fault) → Consumes unread left script
    → old.lines ≡ 0 → old.begun ≡ [] → old.failed ≡ 0 → old.stand ≡ begins_at begin callbacks hive →
    new_hive ≡ k.mid.stand.hive → IsLeft result (with_feeds k.takes.ended) (k.mid.begun ++ k.back) left →
    AreWritten result k.takes.replies old.sent final →
    StopsIn begin old.strict result unread left callbacks hive new_hive old.sent final
stops_with place old new begin callbacks hive new_hive script fault result unread left final k consumes none empty well is same stands written = (
  record {
    lines = with_feeds t.ended;
    rest = k.mid.begun ++ k.back;
    read = subst (λ (w : List ℕ). Consumes unread left w) (script_fed place old new script fault k empty) consumes;
    within = within_fed place old new script fault k none;
    text = t.replies;
    last = k.mid.stand;
    said = said_fed place old new script fault k begin callbacks hive is;
    stands = stands;
    hive = same;
    written = written;
  },
  λ strict. subst (λ (v : View). HaveFailed 0 (lines_of (with_feeds t.ended)) hive v) (sym same) (none_fed place old new script fault k begin callbacks hive is well strict),
)
  where
    t : Takes old k.front k.mid
    t = k.takes

-- all replies were sent
pub all_sent : (old mid new : Position) (replies : List ℕ) (final : Option (List ℕ)) → Passes old replies mid → old.gathered ≡ [] →
    IsIdle mid new →
    Appends new.sent final new.gathered → Appends old.sent final replies
all_sent old mid new replies final p empty idle sent =
    let whole : replies ≡ p.passed ++ mid.gathered = ap (λ (w : List ℕ). w ++ replies) (sym empty) ∙ p.gathers in
    let rest = subst (λ (o : Option (List ℕ)). Appends o final new.gathered) idle.sent sent in
    let rest' = subst (λ (w : List ℕ). Appends mid.sent final w) idle.gathered rest in
    subst (λ (w : List ℕ). Appends old.sent final w) (sym whole)
    (appends_then old.sent mid.sent final p.passed mid.gathered p.appends rest')

-- the writer took a front of what was left of them
pub cut_sent : (old mid : Position) (replies : List ℕ) (final : Option (List ℕ)) (written : ℕ) → Passes old replies mid →
    old.gathered ≡ [] →
    old.written ≡ 0 → IsCut mid.sent final mid.gathered mid.written (Write written)
    → IsTaken old.sent final replies written
cut_sent old mid replies final written p empty zero cut =
    let whole : replies ≡ p.passed ++ mid.gathered = ap (λ (w : List ℕ). w ++ replies) (sym empty) ∙ p.gathers in
    let front : take (length p.passed + cut.count) replies ≡ p.passed ++ take cut.count mid.gathered =
    ap (λ (w : List ℕ). take (length p.passed + cut.count) w) whole ∙ take-append-add p.passed mid.gathered cut.count in
    record {
      count = length p.passed + cut.count;
      within = omega (arith, cut.within, ap (λ (w : List ℕ). length w) whole, length-append p.passed mid.gathered);
      appends = subst (λ (w : List ℕ). Appends old.sent final w) (sym front)
          (appends_then old.sent mid.sent final p.passed (take cut.count mid.gathered) p.appends cut.sent);
      counts = omega (arith, p.counts, zero, written_is cut.says);
    }
  where
    written_is : {n : ℕ} → Write written ≡ Write n → written ≡ n
    written_is e = cc

-- the bounds as the code tests them
pub many_lines : (lines : ℕ) → LINES_LIMIT ≤ lines → most_lines ≤ lines
unfolding most_lines
many_lines lines h = h

pub few_lines : (lines : ℕ) → lines < LINES_LIMIT → lines < most_lines
unfolding most_lines
few_lines lines h = h

-- no memory for what the line that was begun says, or it failed
pub halts_line : (old new : Position) (b : ℕ) (fault : StrictFault) → b ≡ 10 → IsSteady old → old.lines < most_lines → IsLineFault old fault new →
    Halts among old (b ∷ []) new fault
halts_line old new b (Of fault) is steady fewer h =
    subst (λ (f : ScriptFault). Halts among old (b ∷ []) new (Of f)) (sym h.0) (halts_here old new (b ∷ []) (Of Memory) steady h.2 h.1)
halts_line old new b (Line failed) is steady fewer h =
    halts_here old new (b ∷ []) (Line failed) steady h.hive (h, ([], ap (λ (d : ℕ). d ∷ []) is), fewer)

-- the writer took a front of what was gathered, behind the bytes that were taken
pub halts_passing : (place : Place) (old now new : Position) (bytes : List ℕ) (fault : ScriptFault) → Takes old bytes now →
    new.stand.hive ≡ now.stand.hive → IsCut now.sent new.sent now.gathered now.written fault → Halts place old bytes new (Of fault)
halts_passing place old now new bytes fault h same cut =
    subst (λ (f : ScriptFault). Halts place old bytes new (Of f)) (sym cut.says)
    (halts_at place old new bytes (Of _) now h same (subst (λ (f : ScriptFault). IsCut now.sent new.sent now.gathered now.written f) cut.says cut))

-- the count of lines below its bound
pub one_more_line : (lines now sum : ℕ) → lines < most_lines → sum ≡ min (now + 1) 4294967295 → now ≡ lines → sum ≡ lines + 1
unfolding most_lines
one_more_line lines now sum fewer e same = omega (arith, fewer, e, same)

-- no memory for what the last line says, or it failed
pub halts_last : (old now new : Position) (bytes : List ℕ) (fault : StrictFault) (left : Option (List ℕ)) → Takes old bytes now → 0 < length now.begun →
    IsAtEnd left → IsLineFault now fault new → HaltsAtEnd left old bytes new fault
halts_last old now new bytes (Of fault) left h some at_end l =
    subst (λ (f : ScriptFault). HaltsAtEnd left old bytes new (Of f)) (sym l.0)
    (record { halts = halts_at past old new bytes (Of Memory) now h l.2 l.1; last = tt })
halts_last old now new bytes (Line failed) left h some at_end l =
    record { halts = halts_at past old new bytes (Line failed) now h l.hive (l, inr refl, h.steady.one_more some); last = λ none. at_end }

-- other faults past the last byte
pub not_last : (left : Option (List ℕ)) (old : Position) (bytes : List ℕ) (new : Position) (fault : ScriptFault) → Halts past old bytes new (Of fault) →
    HaltsAtEnd left old bytes new (Of fault)
not_last left old bytes new fault h = record { halts = h; last = tt }

-- and those among some bytes
pub before_last : (left : Option (List ℕ)) (a b new : Position) (xs ys : List ℕ) (fault : StrictFault) → Takes a xs b → Halts among b ys new fault →
    HaltsAtEnd left a (xs ++ ys) new fault
unfolding halts_after
before_last left a b new xs ys (Of fault) h k = record { halts = halts_after past a b new xs ys (Of fault) h k; last = tt }
before_last left a b new xs ys (Line failed) h k =
    record { halts = halts_after past a b new xs ys (Line failed) h k; last = λ none. absurd (some k.back k.faults.1.0 k.faults.1.1 none) }
  where
    some : (back more : List ℕ) → back ≡ 10 ∷ more → back ≡ [] → ⊥
    some back more e none = absurd (cc)

-- each read gives a byte at least
pub read_more : (taken buffer : List ℕ) (i n : ℕ) → i ≤ length taken → n ≢ 0 → n ≤ length buffer → i + 1 ≤ length (taken ++ take n buffer)
read_more taken buffer i n below some within = simp (length-append, length-take) (omega (arith, below, some, within))
