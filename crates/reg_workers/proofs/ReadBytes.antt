-- A script's bytes, taken one after another.
use Rattle.std.proofs.Common.{◌≡◌, ◌⊎◌, ℕ, ◌+◌, ◌<◌, ◌≤◌, List, [], ◌∷◌, ◌++◌, ◌-◌, length, take, drop, Option, refl, sym, ap, subst, ◌∙◌, inl, inr, arith, append-nil, append_assoc}
use Rattle.std.specs.List.{AllByRecursion}
use Rattle.std.specs.Io.KnownBytes.{Consumes}
use Rattle.std.proofs.lemmas.List.{length-append, take_rest}
use Rattle.reg_script.specs.declared.engine.ScriptFault.{ScriptFault}
use Rattle.reg_script.specs.declared.engine.ScriptFault.TheVariants.{Read, TooLong, Memory}
use Rattle.reg_script.specs.LineWords.{lines_of}
use Rattle.reg_script.specs.Stops.{longest_line, most_lines, HasNoFeed, AreWithin, PassesBound}
use Rattle.reg_script.specs.Internal.Progress.{with_feeds, IsLine, JoinsWithin, IsPartFault}
use Rattle.reg_script.proofs.ProgressLemmas.{line_alone, lines_fed, fed_then, lines_then, lines_short, short_then}
use Rattle.reg_script.proofs.ScriptHalts.{passes_more, too_many_lines, fed_length, lines_are, fed_ends, passing}
use Rattle.reg_script.proofs.ScriptParts.{no-feed-then, IsFed}
use Rattle.reg_workers.specs.declared.reading.Reading.{Reading}
use Rattle.reg_workers.specs.declared.plan.Plan.{Plan}
use Rattle.reg_workers.specs.Internal.Plans.{IsPlanOf}
use Rattle.reg_workers.specs.Internal.Readings.{IsRead, EndsLine, IsWhole, IsPast, IsFront, IsCutShort, EndsEarly, StopsReading}

-- ---- a part joins the line that was begun

module _ (hives : ℕ) (taken part : List ℕ) (old : Reading) (plain : HasNoFeed part) (read : IsRead hives taken old) where
  long : length (old.line.items ++ part) ≡ length old.line.items + length part
  long = length-append old.line.items part

  short : JoinsWithin old.lines old.line.items part → length (old.line.items ++ part) ≤ longest_line
  short (inl none) = let n : length part ≡ 0 = ap (λ (w : List ℕ). length w) none in omega (arith, long, n, read.short)
  short (inr fits) = let f = fits.1 in omega (arith, long, f)

  more : JoinsWithin old.lines old.line.items part → 0 < length (old.line.items ++ part) → old.lines < most_lines
  more (inl none) some = let n : length part ≡ 0 = ap (λ (w : List ℕ). length w) none in read.one_more (omega (arith, some, long, n))
  more (inr fits) some = fits.0

  joined : (new : Reading) → new.line.items ≡ old.line.items ++ part → new.lines ≡ old.lines → new.plan ≡ old.plan →
      JoinsWithin old.lines old.line.items part → IsRead hives (taken ++ part) new
  joined new is lines plan within = record {
    ended = read.ended;
    splits = ap (λ (w : List ℕ). w ++ part) read.splits ∙ append_assoc (with_feeds read.ended) old.line.items part
        ∙ ap (λ (w : List ℕ). with_feeds read.ended ++ w) (sym is);
    are_lines = read.are_lines;
    counts = lines ∙ read.counts;
    few = omega (arith, lines, read.few);
    no_feed = subst (λ (w : List ℕ). HasNoFeed w) (sym is) (no-feed-then old.line.items part read.no_feed plain);
    short = subst (λ (w : List ℕ). length w ≤ longest_line) (sym is) (short within);
    one_more = λ some.
        let some' : 0 < length (old.line.items ++ part) = subst (λ (w : List ℕ). 0 < length w) is some in
        subst (λ (n : ℕ). n < most_lines) (sym lines) (more within some');
    plan = subst (λ (p : Plan). IsPlanOf hives read.ended p) (sym plan) read.plan;
  }

  pub read_part : (new : Reading) → new ≡ record old { line = new.line } → new.line.items ≡ old.line.items ++ part →
      JoinsWithin old.lines old.line.items part → IsRead hives (taken ++ part) new
  read_part new same is within = joined new is (ap (λ (r : Reading). r.lines) same) (ap (λ (r : Reading). r.plan) same) within

-- ---- bytes that pass a bound

pub past_at : (hives : ℕ) (taken more : List ℕ) (reading : Reading) → IsRead hives taken reading → PassesBound reading.lines (reading.line.items ++ more) →
    IsPast (taken ++ more)
past_at hives taken more reading read passes = record {
  lines = with_feeds read.ended;
  rest = reading.line.items ++ more;
  bytes_are = ap (λ (w : List ℕ). w ++ more) read.splits ∙ append_assoc (with_feeds read.ended) reading.line.items more;
  within = subst (λ (w : List (List ℕ)). AreWithin w) (sym (lines_are read.ended read.are_lines))
      (record { few = omega (arith, read.few, read.counts); short = lines_short read.ended read.are_lines });
  ends = fed_ends read.ended;
  passes = passing read.ended reading.lines (reading.line.items ++ more) read.are_lines read.counts passes;
}

part_passes : (hives : ℕ) (taken part : List ℕ) (reading : Reading) → IsRead hives taken reading → HasNoFeed part → 0 < length part →
    (most_lines ≤ reading.lines) ⊎ (longest_line < length reading.line.items + length part) → PassesBound reading.lines (reading.line.items ++ part)
part_passes hives taken part reading read plain some (inl many) =
    let l = length-append reading.line.items part in inl (omega (arith, many, read.few), omega (arith, l, some))
part_passes hives taken part reading read plain some (inr long) =
    let l = length-append reading.line.items part in
    inr (record {
      line = reading.line.items ++ part;
      more = [];
      bytes_are = sym (append-nil (reading.line.items ++ part));
      no_feed = no-feed-then reading.line.items part read.no_feed plain;
      long = omega (arith, l, long);
    })

pub cut_part : (hives : ℕ) (taken part : List ℕ) (reading : Reading) (fault : ScriptFault) → IsRead hives taken reading → HasNoFeed part →
    IsPartFault reading.lines reading.line.items part fault → IsCutShort fault (taken ++ part)
cut_part hives taken part reading fault read plain (inl memory) = inl memory
cut_part hives taken part reading fault read plain (inr long) =
    inr (long.0, past_at hives taken part reading read (part_passes hives taken part reading read plain long.1 long.2))

-- at an LF behind the last line that there may be
pub cut_feed : (hives : ℕ) (taken : List ℕ) (reading : Reading) → most_lines ≤ reading.lines → IsRead hives taken reading →
    IsCutShort TooLong (taken ++ 10 ∷ [])
cut_feed hives taken reading many read =
    inr (refl, past_at hives taken (10 ∷ []) reading read (too_many_lines reading.lines reading.line.items 10 read.few many))

pub cut_more : (fault : ScriptFault) (bytes more : List ℕ) → IsCutShort fault bytes → IsCutShort fault (bytes ++ more)
cut_more fault bytes more (inl memory) = inl memory
cut_more fault bytes more (inr long) = inr (
  long.0,
  (let past = long.1 in record {
    lines = past.lines;
    rest = past.rest ++ more;
    bytes_are = ap (λ (w : List ℕ). w ++ more) past.bytes_are ∙ append_assoc past.lines past.rest more;
    within = past.within;
    ends = past.ends;
    passes = passes_more (length (lines_of past.lines)) past.rest more past.passes;
  }),
)

-- ---- bytes of which a front was read

pub front_none : (hives : ℕ) (taken bytes : List ℕ) (reading : Reading) → IsRead hives taken reading → IsFront hives taken bytes bytes reading
front_none hives taken bytes reading read = record {
  front = [];
  splits = refl;
  read = subst (λ (w : List ℕ). IsRead hives w reading) (sym (append-nil taken)) read;
}

pub front_line : (hives : ℕ) (taken bytes rest : List ℕ) (place : ℕ) (old new : Reading) (f : IsFront hives taken bytes rest old) → IsFed rest place →
    IsRead hives (((taken ++ f.front) ++ take place rest) ++ 10 ∷ []) new →
    IsFront hives taken bytes (take (length rest - (place + 1)) (drop (place + 1) rest)) new
front_line hives taken bytes rest place old new f fed read =
    let part = take place rest in
    let more : List ℕ = part ++ 10 ∷ [] in
    subst (λ (xs : List ℕ). IsFront hives taken bytes xs new) (sym (take_rest rest (place + 1))) (record {
      front = f.front ++ more;
      splits = f.splits ∙ ap (λ (xs : List ℕ). f.front ++ xs) (fed.parts ∙ sym (append_assoc part (10 ∷ []) (drop (place + 1) rest)))
          ∙ sym (append_assoc f.front more (drop (place + 1) rest));
      read = subst (λ (w : List ℕ). IsRead hives w new)
          (append_assoc (taken ++ f.front) part (10 ∷ []) ∙ append_assoc taken f.front more) read;
    })

pub front_all : (hives : ℕ) (taken bytes rest : List ℕ) (old new : Reading) (f : IsFront hives taken bytes rest old) →
    IsRead hives ((taken ++ f.front) ++ rest) new → IsRead hives (taken ++ bytes) new
front_all hives taken bytes rest old new f read =
    subst (λ (w : List ℕ). IsRead hives w new) (append_assoc taken f.front rest ∙ ap (λ (w : List ℕ). taken ++ w) (sym f.splits)) read

-- a fault in a front of what is left
pub cut_in : (hives : ℕ) (taken bytes rest part back : List ℕ) (old : Reading) (fault : ScriptFault) (f : IsFront hives taken bytes rest old) →
    rest ≡ part ++ back → IsCutShort fault ((taken ++ f.front) ++ part) → IsCutShort fault (taken ++ bytes)
cut_in hives taken bytes rest part back old fault f parts cut =
    subst (λ (w : List ℕ). IsCutShort fault w)
    (append_assoc (taken ++ f.front) part back ∙ ap (λ (w : List ℕ). (taken ++ f.front) ++ w) (sym parts)
    ∙ append_assoc taken f.front rest ∙ ap (λ (w : List ℕ). taken ++ w) (sym f.splits))
    (cut_more fault ((taken ++ f.front) ++ part) back cut)

-- at the LF behind a part
pub cut_at : (hives : ℕ) (taken bytes rest : List ℕ) (place : ℕ) (old : Reading) (fault : ScriptFault) (f : IsFront hives taken bytes rest old) → IsFed rest place →
    IsCutShort fault (((taken ++ f.front) ++ take place rest) ++ 10 ∷ []) → IsCutShort fault (taken ++ bytes)
cut_at hives taken bytes rest place old fault f fed cut =
    cut_in hives taken bytes rest (take place rest ++ 10 ∷ []) (drop (place + 1) rest) old fault f
    (fed.parts ∙ sym (append_assoc (take place rest) (10 ∷ []) (drop (place + 1) rest)))
    (subst (λ (w : List ℕ). IsCutShort fault w) (append_assoc (taken ++ f.front) (take place rest) (10 ∷ [])) cut)

-- in all that is left
pub cut_all : (hives : ℕ) (taken bytes rest : List ℕ) (old : Reading) (fault : ScriptFault) (f : IsFront hives taken bytes rest old) →
    IsCutShort fault ((taken ++ f.front) ++ rest) → IsCutShort fault (taken ++ bytes)
cut_all hives taken bytes rest old fault f cut = cut_in hives taken bytes rest rest [] old fault f (sym (append-nil rest)) cut

-- ---- a line ends

one_line : (line : List ℕ) → HasNoFeed line → length line ≤ longest_line → AllByRecursion IsLine (line ∷ [])
one_line line plain short = (record { no_feed = plain; short = short }, tt)

pub feed_read : (hives : ℕ) (taken : List ℕ) (old new : Reading) → old.lines < most_lines → EndsLine old new → IsRead hives taken old →
    IsRead hives (taken ++ 10 ∷ []) new
feed_read hives taken old new fewer ends read =
    let empty : length new.line.items ≡ 0 = ap (λ (w : List ℕ). length w) ends.line in
    let lines = ends.lines fewer in
    record {
      ended = read.ended ++ old.line.items ∷ [];
      splits = ap (λ (w : List ℕ). w ++ 10 ∷ []) read.splits ∙ append_assoc (with_feeds read.ended) old.line.items (10 ∷ [])
          ∙ sym (fed_then read.ended (old.line.items ∷ []))
          ∙ sym (append-nil (with_feeds (read.ended ++ old.line.items ∷ [])))
          ∙ ap (λ (w : List ℕ). with_feeds (read.ended ++ old.line.items ∷ []) ++ w) (sym ends.line);
      are_lines = lines_then read.ended (old.line.items ∷ []) read.are_lines (one_line old.line.items read.no_feed read.short);
      counts = omega (arith, lines, read.counts, length-append read.ended (old.line.items ∷ []));
      few = omega (arith, lines, fewer);
      no_feed = subst (λ (w : List ℕ). HasNoFeed w) (sym ends.line) tt;
      short = omega (arith, empty);
      one_more = λ (some : 0 < length new.line.items). absurd (omega (arith, some, empty));
      plan = ends.plan hives read.ended read.plan;
    }

-- ---- the end

whole_of : (hives : ℕ) (taken : List ℕ) (ended : List (List ℕ)) (plan : Plan) → lines_of taken ≡ ended → length ended ≤ most_lines →
    AllByRecursion (λ (line : List ℕ). length line ≤ longest_line) ended → IsPlanOf hives ended plan → IsWhole hives taken plan
whole_of hives taken ended plan is few short planned = record {
  within = subst (λ (w : List (List ℕ)). AreWithin w) (sym is) (record { few = few; short = short });
  planned = subst (λ (w : List (List ℕ)). IsPlanOf hives w plan) (sym is) planned;
}

nothing : (xs : List ℕ) → length xs ≡ 0 → xs ≡ []
nothing [] e = refl
nothing (x ∷ xs) e = absurd (omega (arith, e))

-- no line was begun
pub whole_none : (hives : ℕ) (taken : List ℕ) (reading : Reading) → length reading.line.items ≡ 0 → IsRead hives taken reading → IsWhole hives taken reading.plan
whole_none hives taken reading none read =
    whole_of hives taken read.ended reading.plan
    (ap lines_of (read.splits ∙ ap (λ (w : List ℕ). with_feeds read.ended ++ w) (nothing reading.line.items none)) ∙ lines_fed read.ended [] read.are_lines ∙ append-nil read.ended)
    (omega (arith, read.few, read.counts)) (lines_short read.ended read.are_lines) read.plan

-- one was
pub whole_last : (hives : ℕ) (taken : List ℕ) (old new : Reading) → 0 < length old.line.items → EndsLine old new → IsRead hives taken old →
    IsWhole hives taken new.plan
whole_last hives taken old new some ends read =
    let fewer = read.one_more some in
    let one : AllByRecursion (λ (line : List ℕ). length line ≤ longest_line) (old.line.items ∷ []) = (read.short, tt) in
    whole_of hives taken (read.ended ++ old.line.items ∷ []) new.plan
    (ap lines_of read.splits ∙ lines_fed read.ended old.line.items read.are_lines
    ∙ ap (λ (w : List (List ℕ)). read.ended ++ w) (line_alone old.line.items some read.no_feed))
    (omega (arith, fewer, read.counts, length-append read.ended (old.line.items ∷ [])))
    (short_then read.ended (old.line.items ∷ []) (lines_short read.ended read.are_lines) one)
    (ends.plan hives read.ended read.plan)

-- ---- how much is read at most

pub not_so_many : (hives : ℕ) (taken : List ℕ) (reading : Reading) → IsRead hives taken reading → length taken < 18446744073709551615
unfolding longest_line most_lines
not_so_many hives taken reading read =
    let total : length taken ≡ length (with_feeds read.ended) + length reading.line.items =
    ap (λ (w : List ℕ). length w) read.splits ∙ length-append (with_feeds read.ended) reading.line.items in
    let fed = fed_length read.ended read.are_lines in
    omega (arith, total, fed, read.few, read.counts, read.short)

-- ---- faults

-- a line that was begun passes no bound
keeps_bound : (hives : ℕ) (taken : List ℕ) (reading : Reading) → IsRead hives taken reading → PassesBound reading.lines reading.line.items → ⊥
keeps_bound hives taken reading read (inl h) = omega (arith, h.0, read.one_more h.1)
keeps_bound hives taken reading read (inr h) =
    omega (arith, h.long, read.short, ap (λ (w : List ℕ). length w) h.bytes_are, length-append h.line h.more)

pub read_failed : (hives : ℕ) (taken : List ℕ) (reading : Reading) (unread left : Option (List ℕ)) → IsRead hives taken reading →
    Consumes unread left taken → EndsEarly Read unread left
read_failed hives taken reading unread left read consumed = record {
  lines = with_feeds read.ended;
  rest = reading.line.items;
  read = subst (λ (w : List ℕ). Consumes unread left w) read.splits consumed;
  within = subst (λ (w : List (List ℕ)). AreWithin w) (sym (lines_are read.ended read.are_lines))
      (record { few = omega (arith, read.few, read.counts); short = lines_short read.ended read.are_lines });
  stands = (
    fed_ends read.ended,
    read.no_feed,
    (λ passes.
        keeps_bound hives taken reading read
        (subst (λ (n : ℕ). PassesBound n reading.line.items)
        (ap (λ (ls : List (List ℕ)). length ls) (lines_are read.ended read.are_lines) ∙ sym read.counts) passes)),
  );
}

pub no_memory : (bytes : List ℕ) (unread left : Option (List ℕ)) → Consumes unread left bytes → EndsEarly Memory unread left
no_memory bytes unread left consumed = record {
  lines = [];
  rest = bytes;
  read = consumed;
  within = record { few = omega arith; short = tt };
  stands = inl refl;
}

pub cut_stops : (fault : ScriptFault) (bytes : List ℕ) (unread left : Option (List ℕ)) → Consumes unread left bytes → IsCutShort fault bytes →
    StopsReading fault unread left
cut_stops fault bytes unread left consumed (inl memory) =
    subst (λ (f : ScriptFault). StopsReading f unread left) (sym memory) (no_memory bytes unread left consumed)
cut_stops fault bytes unread left consumed (inr long) =
    let past = long.1 in
    subst (λ (f : ScriptFault). StopsReading f unread left) (sym long.0) (record {
      lines = past.lines;
      rest = past.rest;
      read = subst (λ (w : List ℕ). Consumes unread left w) past.bytes_are consumed;
      within = past.within;
      stands = (past.ends, past.passes);
    })

pub memory_stops : (fault : ScriptFault) (bytes : List ℕ) (unread left : Option (List ℕ)) → Consumes unread left bytes → fault ≡ Memory →
    StopsReading fault unread left
memory_stops fault bytes unread left consumed memory = cut_stops fault bytes unread left consumed (inl memory)
