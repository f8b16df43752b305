-- A script's bytes, taken one after another.
use Rattle.std.proofs.Common.{◌≡◌, ◌≢◌, ℕ, ◌+◌, ◌<◌, ◌≤◌, false, eqb, List, [], ◌∷◌, ◌++◌, length, take, Option, Some, None, refl, sym, subst, ap, ◌∙◌, arith, append_assoc}
use Rattle.std.proofs.Common.{append-nil, inl, inr, Bool}
use Rattle.std.specs.List.{AllByRecursion}
use Rattle.std.specs.Io.KnownBytes.{Appends, Consumes, Keeps}
use Rattle.std.proofs.lemmas.Bool.Decides.{nat_tests}
use Rattle.std.proofs.lemmas.List.{length-append}
use Rattle.reg_callbacks.specs.Asking.{Answers, asks}
use Rattle.reg_callbacks.specs.Lists.{answers_of}
use Rattle.reg_callbacks.specs.declared.callbacks.Callbacks.{Callbacks}
use Rattle.reg_calls.specs.Views.{View}
use Rattle.reg_script.specs.LineWords.{lines_of}
use Rattle.reg_script.specs.LineMeanings.{meaning_of}
use Rattle.reg_script.specs.Lines.{Stand, IsSaid, AreSaid}
use Rattle.reg_text.specs.Outputs.{IsSettled}
use Rattle.reg_model.specs.declared.reply.ChangeReply.{ChangeReply}
use Rattle.reg_script.specs.ReplyTexts.{changed_text}
use Rattle.reg_script.specs.Stops.{longest_line, most_lines, HasNoFeed}
use Rattle.reg_script.specs.FailedLines.{wants_entry, one_if, wanting}
use Rattle.reg_script.specs.Internal.Progress.{Position, IsSteady, with_feeds, IsLine, Passes, Takes, Ends, EndsLine, EndsLast}

-- ---- lines

other : (b : ℕ) → b ≢ 10 → eqb b 10 ≡ false
other b h = grind (arith, nat_tests)

pub line_ended : (begun rest : List ℕ) → HasNoFeed begun → lines_of (begun ++ (10 ∷ rest)) ≡ begun ∷ lines_of rest
line_ended [] rest h = refl
line_ended (b ∷ bs) rest h = rw (other b h.0, line_ended bs rest h.1) refl

line_last : (b : ℕ) (bs : List ℕ) → HasNoFeed (b ∷ bs) → lines_of (b ∷ bs) ≡ (b ∷ bs) ∷ []
line_last b [] h = rw (other b h.0) refl
line_last b (d ∷ ds) h = rw (other b h.0, line_last d ds h.1) refl

pub line_alone : (line : List ℕ) → 0 < length line → HasNoFeed line → lines_of line ≡ line ∷ []
line_alone [] some h = absurd (omega (arith, some))
line_alone (b ∷ bs) some h = line_last b bs h

pub fed_then : (ls ms : List (List ℕ)) → with_feeds (ls ++ ms) ≡ with_feeds ls ++ with_feeds ms
fed_then [] ms = refl
fed_then (l ∷ ls) ms = ap (λ (w : List ℕ). l ++ 10 ∷ w) (fed_then ls ms) ∙ sym (append_assoc l (10 ∷ with_feeds ls) (with_feeds ms))

pub lines_fed : (ls : List (List ℕ)) (rest : List ℕ) → AllByRecursion IsLine ls → lines_of (with_feeds ls ++ rest) ≡ ls ++ lines_of rest
lines_fed [] rest h = refl
lines_fed (l ∷ ls) rest h =
    ap lines_of (append_assoc l (10 ∷ with_feeds ls) rest) ∙
    (line_ended l (with_feeds ls ++ rest) h.0.no_feed ∙ ap (λ (w : List (List ℕ)). l ∷ w) (lines_fed ls rest h.1))

pub lines_then : (ls ms : List (List ℕ)) → AllByRecursion IsLine ls → AllByRecursion IsLine ms → AllByRecursion IsLine (ls ++ ms)
lines_then [] ms h k = k
lines_then (l ∷ ls) ms h k = (h.0, lines_then ls ms h.1 k)

pub lines_short : (ls : List (List ℕ)) → AllByRecursion IsLine ls → AllByRecursion (λ (line : List ℕ). length line ≤ longest_line) ls
lines_short [] h = tt
lines_short (l ∷ ls) h = (h.0.short, lines_short ls h.1)

pub short_then : (ls ms : List (List ℕ)) → AllByRecursion (λ (line : List ℕ). length line ≤ longest_line) ls →
    AllByRecursion (λ (line : List ℕ). length line ≤ longest_line) ms →
    AllByRecursion (λ (line : List ℕ). length line ≤ longest_line) (ls ++ ms)
short_then [] ms h k = k
short_then (l ∷ ls) ms h k = (h.0, short_then ls ms h.1 k)

pub said_then : (ls ms : List (List ℕ)) (a b c : Stand) (r s : List ℕ) → AreSaid ls a r b → AreSaid ms b s c →
    AreSaid (ls ++ ms) a (r ++ s) c
said_then [] ms a b c r s h k =
    subst (λ (w : List ℕ). AreSaid ms a (w ++ s) c) (sym h.0) (subst (λ (x : Stand). AreSaid ms x s c) h.1 k)
said_then (l ∷ ls) ms a b c r s h k =
    (h.0, h.1, h.2 ++ s, h.3, said_then ls ms h.0 b c h.2 s h.4 k, ap (λ (w : List ℕ). w ++ s) h.5 ∙ append_assoc h.1 h.2 s)

-- how many of them want an entry
wanting_then : (ls ms : List (List ℕ)) → wanting (ls ++ ms) ≡ wanting ls + wanting ms
wanting_then [] ms = omega arith
wanting_then (l ∷ ls) ms = let rest = wanting_then ls ms in omega (arith, rest)

-- ---- what is gathered and sent

pub appends_none : (known : Option (List ℕ)) → Appends known known []
appends_none None = tt
appends_none (Some xs) = sym (append-nil xs)

pub appends_then : (a b c : Option (List ℕ)) (xs ys : List ℕ) → Appends a b xs → Appends b c ys → Appends a c (xs ++ ys)
appends_then None b c xs ys h k = tt
appends_then (Some a) None c xs ys h k = absurd h
appends_then (Some a) (Some b) None xs ys h k = absurd k
appends_then (Some a) (Some b) (Some c) xs ys h k = k ∙ (ap (λ (w : List ℕ). w ++ ys) h ∙ append_assoc a xs ys)

gathers_then : (a b c r s p q : List ℕ) → a ++ r ≡ p ++ b → b ++ s ≡ q ++ c → a ++ (r ++ s) ≡ (p ++ q) ++ c
gathers_then a b c r s p q h k =
    sym (append_assoc a r s) ∙
    (ap (λ (w : List ℕ). w ++ s) h ∙ (append_assoc p b s ∙ (ap (λ (w : List ℕ). p ++ w) k ∙ sym (append_assoc p q c))))

pub passes_then : (a b c : Position) (r s : List ℕ) → Passes a r b → Passes b s c → Passes a (r ++ s) c
passes_then a b c r s h k = record {
  passed = h.passed ++ k.passed;
  appends = appends_then a.sent b.sent c.sent h.passed k.passed h.appends k.appends;
  gathers = gathers_then a.gathered b.gathered c.gathered r s h.passed k.passed h.gathers k.gathers;
  counts = omega (arith, h.counts, k.counts, length-append h.passed k.passed);
}

-- ---- both

pub takes_none : (position : Position) → IsSteady position → Takes position [] position
takes_none position steady = record {
  steady = steady;
  ended = [];
  splits = append-nil position.begun;
  are_lines = tt;
  counts = omega arith;
  replies = [];
  said = (refl, refl);
  passes = record {
    passed = [];
    appends = appends_none position.sent;
    gathers = append-nil position.gathered;
    counts = omega
        (arith, steady.count);
  };
  fails = omega arith;
  strict = refl;
  spares = λ strict. refl;
}

pub takes_then : (a b c : Position) (xs ys : List ℕ) → Takes a xs b → Takes b ys c → Takes a (xs ++ ys) c
takes_then a b c xs ys h k = record {
  steady = k.steady;
  ended = h.ended ++ k.ended;
  splits = gathers_then a.begun b.begun c.begun xs ys (with_feeds h.ended) (with_feeds k.ended) h.splits k.splits ∙
      ap (λ (w : List ℕ). w ++ c.begun) (sym (fed_then h.ended k.ended));
  are_lines = lines_then h.ended k.ended h.are_lines k.are_lines;
  counts = omega (arith, h.counts, k.counts, length-append h.ended k.ended);
  replies = h.replies ++ k.replies;
  said = said_then h.ended k.ended a.stand b.stand c.stand h.replies k.replies h.said k.said;
  passes = passes_then a b c h.replies k.replies h.passes k.passes;
  fails = let more = wanting_then h.ended k.ended in omega (arith, h.fails, k.fails, more);
  strict = k.strict ∙ h.strict;
  spares = λ strict. k.spares (h.strict ∙ strict) ∙ h.spares strict;
}

-- an LF ends the line that was begun
pub takes_ended : (old new : Position) (b : ℕ) → b ≡ 10 → IsSteady old → old.lines < most_lines → EndsLine old new → Takes old (b ∷ []) new
takes_ended old new b is steady fewer h =
    let less : old.failed < most_lines = omega (arith, steady.few_failed, fewer) in
    let empty : length new.begun ≡ 0 = ap (λ (w : List ℕ). length w) h.begun in
    let lines = h.lines fewer in
    let most = h.few_failed less in
    let fails = h.fails less in
    subst (λ (w : ℕ). Takes old (w ∷ []) new) (sym is) (record {
      steady = record {
        no_feed = subst (λ (w : List ℕ). HasNoFeed w) (sym h.begun) tt;
        short = omega (arith, empty);
        few = omega (arith, lines, fewer);
        one_more = λ (some : 0 < length new.begun). absurd (omega (arith, some, empty));
        count = omega (arith, h.written, steady.count);
        few_failed = omega (arith, most, lines, steady.few_failed);
      };
      ended = old.begun ∷ [];
      splits = sym (append-nil (old.begun ++ 10 ∷ [])) ∙ ap (λ (w : List ℕ). (old.begun ++ 10 ∷ []) ++ w) (sym h.begun);
      are_lines = (record { no_feed = steady.no_feed; short = steady.short }, tt);
      counts = omega (arith, lines);
      replies = h.reply;
      said = (new.stand, h.reply, [], h.said, (refl, refl), sym (append-nil h.reply));
      passes = record {
        passed = [];
        appends = subst (λ (o : Option (List ℕ)). Appends old.sent o []) (sym h.sent) (appends_none old.sent);
        gathers = sym h.gathered;
        counts = omega (arith, h.written, steady.count);
      };
      fails = omega (arith, fails);
      strict = h.strict;
      spares = h.spares;
    })

settled : (mid new : Position) → mid.written ≤ 18446744073709551615 →
    IsSettled mid.sent new.sent mid.gathered new.gathered mid.written new.written → Passes mid [] new
settled mid new below (inl h) = record {
  passed = [];
  appends = subst (λ (o : Option (List ℕ)). Appends mid.sent o []) (sym h.0) (appends_none mid.sent);
  gathers = append-nil mid.gathered ∙ sym h.1;
  counts = omega (arith, h.2, below);
}
settled mid new below (inr h) = record {
  passed = mid.gathered;
  appends = h.0;
  gathers = ap (λ (w : List ℕ). mid.gathered ++ w) (sym h.1);
  counts = h.2;
}

-- what was gathered may be sent behind the bytes that were taken
pub takes_settled : (a b : Position) (bytes gathered : List ℕ) (sent : Option (List ℕ)) (written : ℕ) → Takes a bytes b →
    IsSettled b.sent sent b.gathered gathered b.written written →
    Takes a bytes (record b { gathered = gathered; sent = sent; written = written })
takes_settled a b bytes gathered sent written h settles =
    let c = record b { gathered = gathered; sent = sent; written = written } in
    let p : Passes b [] c = settled b c h.steady.count settles in
    record {
      steady = record {
        no_feed = h.steady.no_feed;
        short = h.steady.short;
        few = h.steady.few;
        one_more = h.steady.one_more;
        count = omega (arith, p.counts);
        few_failed = h.steady.few_failed;
      };
      ended = h.ended;
      splits = h.splits;
      are_lines = h.are_lines;
      counts = h.counts;
      replies = h.replies ++ [];
      said = subst (λ (w : List ℕ). AreSaid h.ended a.stand w b.stand) (sym (append-nil h.replies)) h.said;
      passes = passes_then a b c h.replies [] h.passes p;
      fails = h.fails;
      strict = h.strict;
      spares = h.spares;
    }

-- ---- what is read

pub consumes_none : (known : Option (List ℕ)) → Consumes known known []
consumes_none None = tt
consumes_none (Some xs) = refl

pub consumes_then : (a b c : Option (List ℕ)) (xs ys : List ℕ) → Consumes a b xs → Consumes b c ys → Consumes a c (xs ++ ys)
consumes_then None b c xs ys h k = tt
consumes_then (Some a) None c xs ys h k = absurd h
consumes_then (Some a) (Some b) None xs ys h k = absurd k
consumes_then (Some a) (Some b) (Some c) xs ys h k = h ∙ (ap (λ (w : List ℕ). xs ++ w) k ∙ sym (append_assoc xs ys c))

-- a read that failed
pub consumes_kept : (a b c : Option (List ℕ)) (xs : List ℕ) → Consumes a b xs → Keeps b c → Consumes a c xs
consumes_kept None b c xs h k = tt
consumes_kept (Some a) None c xs h k = absurd h
consumes_kept (Some a) (Some b) None xs h k = absurd k
consumes_kept (Some a) (Some b) (Some c) xs h k = h ∙ ap (λ (w : List ℕ). xs ++ w) (sym k)

take_none : (buffer : List ℕ) → take 0 buffer ≡ []
take_none [] = refl
take_none (b ∷ bs) = refl

-- a read that gave nothing
pub consumes_no_more : (a b c : Option (List ℕ)) (xs buffer : List ℕ) (n : ℕ) → Consumes a b xs → Consumes b c (take n buffer) → n ≡ 0 →
    Consumes a c xs
consumes_no_more a b c xs buffer n h k none =
    let empty : take n buffer ≡ [] = ap (λ (m : ℕ). take m buffer) none ∙ take_none buffer in
    subst (λ (w : List ℕ). Consumes a c w) (ap (λ (w : List ℕ). xs ++ w) empty ∙ append-nil xs) (consumes_then a b c xs (take n buffer) h k)

-- ---- the end

-- the line that was begun ends with the script
begun_said : (line : List ℕ) (old new : Stand) (reply : List ℕ) → 0 < length line → HasNoFeed line →
    IsSaid (meaning_of line) old reply new → AreSaid (lines_of line) old reply new
begun_said [] old new reply some no_feed said = absurd (omega arith)
begun_said (b ∷ bs) old new reply some no_feed said =
    subst (λ (ls : List (List ℕ)). AreSaid ls old reply new) (sym (line_last b bs no_feed))
    (new, reply, [], said, (refl, refl), sym (append-nil reply))

-- the lines of a line that was begun: none, or that one
begun_lines : (line : List ℕ) → HasNoFeed line → length line ≤ longest_line →
    AllByRecursion (λ (l : List ℕ). length l ≤ longest_line) (lines_of line)
begun_lines [] no_feed short = tt
begun_lines (b ∷ bs) no_feed short =
    subst (λ (ls : List (List ℕ)). AllByRecursion (λ (l : List ℕ). length l ≤ longest_line) ls) (sym (line_last b bs no_feed)) (short, tt)

begun_few : (line : List ℕ) (n : ℕ) → HasNoFeed line → n ≤ most_lines → (0 < length line → n < most_lines) →
    n + length (lines_of line) ≤ most_lines
begun_few [] n no_feed few one_more = omega (arith, few)
begun_few (b ∷ bs) n no_feed few one_more =
    let fewer = one_more (omega arith) in
    let one : length (lines_of (b ∷ bs)) ≡ 1 = ap (λ (ls : List (List ℕ)). length ls) (line_last b bs no_feed) in
    omega (arith, fewer, one)

pub ends_line : (old new : Position) → 0 < length old.begun → HasNoFeed old.begun → EndsLine old new → EndsLast old new
ends_line old new some no_feed h = record {
  reply = h.reply;
  said = begun_said old.begun old.stand new.stand h.reply some no_feed h.said;
  gathered = h.gathered;
  sent = h.sent;
  written = h.written;
  fails = λ few.
      let fails = h.fails (few some) in
      let one : wanting (lines_of old.begun) ≡ one_if (wants_entry (meaning_of old.begun)) + 0 = ap wanting (line_alone old.begun some no_feed) in
      omega (arith, fails, one);
  spares = h.spares;
}

-- none was begun
pub ends_none : (old : Position) → old.begun ≡ [] → EndsLast old old
ends_none old none = record {
  reply = [];
  said = subst (λ (w : List ℕ). AreSaid (lines_of w) old.stand [] old.stand) (sym none) (refl, refl);
  gathered = sym (append-nil old.gathered);
  sent = refl;
  written = refl;
  fails = λ few. let zero : wanting (lines_of old.begun) ≡ 0 = ap (λ (w : List ℕ). wanting (lines_of w)) none in omega (arith, zero);
  spares = λ strict. refl;
}

pub ends_at : (old mid new : Position) (script : List ℕ) → Takes old script mid → EndsLast mid new → Ends old script new
ends_at old mid new script h l =
    let lines : lines_of (old.begun ++ script) ≡ h.ended ++ lines_of mid.begun = ap lines_of h.splits ∙
    lines_fed h.ended mid.begun h.are_lines in
    let p : Passes mid l.reply new = record {
      passed = [];
      appends = subst (λ (o : Option (List ℕ)). Appends mid.sent o []) (sym l.sent) (appends_none mid.sent);
      gathers = sym l.gathered;
      counts = omega (arith, l.written, h.steady.count);
    } in
    let few = begun_few mid.begun mid.lines h.steady.no_feed h.steady.few h.steady.one_more in
    let many : length (lines_of (old.begun ++ script)) ≡ length h.ended + length (lines_of mid.begun) = ap
    (λ (ls : List (List ℕ)). length ls) lines ∙ length-append h.ended (lines_of mid.begun) in
    let want : wanting (lines_of (old.begun ++ script)) ≡ wanting h.ended + wanting (lines_of mid.begun) = ap wanting lines ∙
    wanting_then h.ended (lines_of mid.begun) in
    let last = l.fails (λ some. let fewer = h.steady.one_more some in omega (arith, h.steady.few_failed, fewer)) in
    record {
      few = omega (arith, few, many, h.counts);
      short = subst (λ (ls : List (List ℕ)). AllByRecursion (λ (l : List ℕ). length l ≤ longest_line) ls) (sym lines)
          (short_then h.ended (lines_of mid.begun) (lines_short h.ended h.are_lines)
          (begun_lines mid.begun h.steady.no_feed h.steady.short));
      replies = h.replies ++ l.reply;
      said = subst (λ (ls : List (List ℕ)). AreSaid ls old.stand (h.replies ++ l.reply) new.stand) (sym lines)
          (said_then h.ended (lines_of mid.begun) old.stand mid.stand new.stand h.replies l.reply h.said l.said);
      passes = passes_then old mid new h.replies l.reply h.passes p;
      fails = omega (arith, h.fails, last, want);
      spares = λ strict. l.spares (h.strict ∙ strict) ∙ h.spares strict;
    }

-- ---- a call

-- where a script stands after a call, which left the callbacks as they were
pub stand_kept : {C : Type 0} (answers : C → Answers) (hive : View) (before after : Callbacks C) (moment session : ℕ) → after ≡ before →
    ◌≡◌ {A = Stand} (record { hive = hive; callbacks = asks (answers_of answers after); moment = moment; session = session })
    (record { hive = hive; callbacks = asks (answers_of answers before); moment = moment; session = session })
stand_kept {C = C} answers hive before after moment session same =
    ap (λ (callbacks : Callbacks C). let stand : Stand = record {
      hive = hive;
      callbacks = asks (answers_of answers callbacks);
      moment = moment;
      session = session;
    } in stand) same

-- ---- replies

pub from_empty : (text empty reply : List ℕ) → text ≡ empty ++ reply → empty ≡ [] → text ≡ reply
from_empty text empty reply e none = e ∙ ap (λ (w : List ℕ). w ++ reply) none

-- a change's reply, where it was tested before whether it asks for a notification
pub told_as : (text now old : List ℕ) (watches watched : Bool) (reply : ChangeReply) → text ≡ now ++ changed_text watches reply → now ≡ old →
    watches ≡ watched → text ≡ old ++ changed_text watched reply
told_as text now old watches watched reply adds same asked =
    adds ∙ (ap (λ (w : List ℕ). w ++ changed_text watches reply) same ∙ ap (λ (b : Bool). old ++ changed_text b reply) asked)
