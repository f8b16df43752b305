-- A script's bytes, taken in the parts between its LFs.
use Rattle.std.proofs.Common.{◌≡◌, ◌≢◌, ◌⊎◌, ℕ, suc, ◌+◌, ◌-◌, ◌<◌, ◌≤◌, ◌==◌, not, cond, Bool, true, false, List, [], ◌∷◌, ◌++◌, length, take, drop, Option, Some, None, unwrap_or, ltb}
use Rattle.std.proofs.Common.{append-nil, inl, inr, refl, sym, subst, ap, ◌∙◌, arith, append_assoc}
use Rattle.std.specs.List.{position_or_len}
use Rattle.std.proofs.lemmas.Bool.{eqb-true, false≢true}
use Rattle.std.proofs.lemmas.Bool.Decides.{nat_tests}
use Rattle.std.proofs.lemmas.List.{length-append, take_rest}
use Rattle.reg_callbacks.specs.Asking.{Answers}
use Rattle.reg_calls.specs.declared.hive.Hive.{Hive}
use Rattle.reg_script.specs.declared.engine.Script.{Script}
use Rattle.reg_script.specs.declared.engine.ScriptFault.{ScriptFault}
use Rattle.reg_script.specs.declared.engine.ScriptFault.TheVariants.{TooLong, Memory}
use Rattle.reg_script.specs.declared.failed.StrictFault.TheVariants.{Script as Of}
use Rattle.reg_script.specs.Stops.{longest_line, most_lines, HasNoFeed, PassesBound}
use Rattle.reg_script.specs.Internal.Progress.{is_feed, Position, IsSteady, IsIdle, among, Takes, Halts, JoinsWithin, IsPartFault, position_of}
use Rattle.reg_script.proofs.ProgressLemmas.{appends_none, takes_then}
use Rattle.reg_script.proofs.ScriptHalts.{halts_here, halts_after, halts_before}

-- ---- the first LF

-- a place that is found, or the length
pub place-is : (m n : ℕ) (r : Option ℕ) (k : ℕ) → m ≤ n → r ≡ cond (ltb m n) (Some m) None → k ≡ unwrap_or r n → k ≡ m
place-is m n r k l e h = by (ltb m n) refl
  where
    by : (b : Bool) → ltb m n ≡ b → k ≡ m
    by true t = h ∙ ap (λ o. unwrap_or o n) (e ∙ ap (λ b. cond b (Some m) None) t)
    by false t =
        let at_end : n ≡ m = grind (arith, nat_tests) in
        (h ∙ ap (λ o. unwrap_or o n) (e ∙ ap (λ b. cond b (Some m) None) t)) ∙ at_end

no-feed : (b : ℕ) → (b == 10) ≡ false → b ≢ 10
no-feed b e q = let t : (b == 10) ≡ true = grind (arith, nat_tests) in absurd (false≢true (sym e ∙ t))

-- no byte is one where none is found
pub none-fed : (bytes : List ℕ) → length bytes ≤ position_or_len is_feed bytes → HasNoFeed bytes
none-fed [] l = tt
none-fed (b ∷ bs) l = by (λ m. none-fed bs m) (b == 10) refl l
  where
    by : (length bs ≤ position_or_len is_feed bs → HasNoFeed bs) → (t : Bool) → (b == 10) ≡ t →
        length (b ∷ bs) ≤ cond (not t) (1 + position_or_len is_feed bs) 0 → (b ≢ 10) × HasNoFeed bs
    by rest true e l = absurd (omega (arith, l))
    by rest false e l = (no-feed b e, rest (omega (arith, l)))

-- one is found: none before it is one
pub record IsFed (bytes : List ℕ) (place : ℕ) : Type 0 where
  pub before : HasNoFeed (take place bytes)
  pub parts : bytes ≡ take place bytes ++ 10 ∷ drop (place + 1) bytes

fed-more : (b : ℕ) (bs : List ℕ) (place : ℕ) → b ≢ 10 → IsFed bs place → IsFed (b ∷ bs) (suc place)
fed-more b bs place n f =
    let m : suc (place + 1) ≡ suc place + 1 = omega arith in
    record { before = (n, f.before); parts = ap (λ xs. b ∷ xs) f.parts ∙ ap (λ i. b ∷ (take place bs ++ 10 ∷ drop i (b ∷ bs))) m }

first-fed : (bytes : List ℕ) → position_or_len is_feed bytes < length bytes → IsFed bytes (position_or_len is_feed bytes)
first-fed [] l = absurd (omega (arith, l))
first-fed (b ∷ bs) l = by (λ m. first-fed bs m) (b == 10) refl l
  where
    by : (position_or_len is_feed bs < length bs → IsFed bs (position_or_len is_feed bs)) → (t : Bool) → (b == 10) ≡ t →
        cond (not t) (1 + position_or_len is_feed bs) 0 < length (b ∷ bs) → IsFed (b ∷ bs) (cond (not t) (1 + position_or_len is_feed bs) 0)
    by rest true e l = record { before = tt; parts = ap (λ d. d ∷ bs) (eqb-true b 10 e) }
    by rest false e l =
        let n : 1 + position_or_len is_feed bs ≡ suc (position_or_len is_feed bs) = omega arith in
        subst (λ place. IsFed (b ∷ bs) place) (sym n)
        (fed-more b bs (position_or_len is_feed bs) (no-feed b e) (rest (omega (arith, l))))

pub fed-at : (bytes : List ℕ) (place : ℕ) → place ≡ position_or_len is_feed bytes → place < length bytes → IsFed bytes place
fed-at bytes place e l = subst (λ n. IsFed bytes n) (sym e) (first-fed bytes (subst (λ n. n < length bytes) e l))

pub not-fed : (bytes : List ℕ) (place : ℕ) → place ≡ position_or_len is_feed bytes → length bytes ≤ place → HasNoFeed bytes
not-fed bytes place e l = none-fed bytes (subst (λ n. length bytes ≤ n) e l)

-- ---- a part joins the line that was begun

pub no-feed-then : (xs ys : List ℕ) → HasNoFeed xs → HasNoFeed ys → HasNoFeed (xs ++ ys)
no-feed-then [] ys h k = k
no-feed-then (x ∷ xs) ys h k = (h.0, no-feed-then xs ys h.1 k)

takes-part : (old : Position) (part line : List ℕ) → IsSteady old → HasNoFeed part → JoinsWithin old.lines old.begun part →
    line ≡ old.begun ++ part → Takes old part (record old { begun = line })
takes-part old part line steady plain within e =
    subst (λ (w : List ℕ). Takes old part (record old { begun = w })) (sym e) (record {
      steady = record {
        no_feed = no-feed-then old.begun part steady.no_feed plain;
        short = short within;
        few = steady.few;
        one_more = λ some. more within some;
        count = steady.count;
        few_failed = steady.few_failed;
      };
      ended = [];
      splits = refl;
      are_lines = tt;
      counts = omega arith;
      replies = [];
      said = (refl, refl);
      passes = record {
        passed = [];
        appends = appends_none old.sent;
        gathers = append-nil old.gathered;
        counts = omega (arith, steady.count);
      };
      fails = omega arith;
      strict = refl;
      spares = λ strict. refl;
    })
  where
    long : length (old.begun ++ part) ≡ length old.begun + length part
    long = length-append old.begun part

    short : JoinsWithin old.lines old.begun part → length (old.begun ++ part) ≤ longest_line
    short (inl none) = let n = ap length none in omega (arith, long, n, steady.short)
    short (inr fits) = let f = fits.1 in omega (arith, long, f)

    more : JoinsWithin old.lines old.begun part → 0 < length (old.begun ++ part) → old.lines < most_lines
    more (inl none) some = let n = ap length none in steady.one_more (omega (arith, some, long, n))
    more (inr fits) some = fits.0

part-passes : (old : Position) (part : List ℕ) → IsSteady old → HasNoFeed part → 0 < length part →
    (most_lines ≤ old.lines) ⊎ (longest_line < length old.begun + length part) → PassesBound old.lines (old.begun ++ part)
part-passes old part steady plain some (inl many) =
    let l = length-append old.begun part in inl (omega (arith, many, steady.few), omega (arith, l, some))
part-passes old part steady plain some (inr long) =
    let l = length-append old.begun part in
    inr (record {
      line = old.begun ++ part;
      more = [];
      bytes_are = sym (append-nil (old.begun ++ part));
      no_feed = no-feed-then old.begun part steady.no_feed plain;
      long = omega (arith, l, long);
    })

part-halts : (old new : Position) (part : List ℕ) (fault : ScriptFault) → IsSteady old → HasNoFeed part → new.stand.hive ≡ old.stand.hive →
    IsIdle old new → IsPartFault old.lines old.begun part fault → Halts among old part new (Of fault)
part-halts old new part fault steady plain same idle (inl is) =
    subst (λ (f : ScriptFault). Halts among old part new (Of f)) (sym is) (halts_here old new part (Of Memory) steady same idle)
part-halts old new part fault steady plain same idle (inr long) =
    subst (λ (f : ScriptFault). Halts among old part new (Of f)) (sym long.0)
    (halts_here old new part (Of TooLong) steady same (idle, part-passes old part steady plain long.1 long.2))

-- ---- by the script under way

module _ {C : Type 0} (answers : C → Answers) (old new : Script) (hive : Hive C) (sent : Option (List ℕ)) (part : List ℕ)
    (same : new ≡ record old { line = new.line }) (plain : HasNoFeed part) (steady : IsSteady (position_of answers old hive sent)) where
  pub part-taken : new.line.items ≡ old.line.items ++ part → JoinsWithin old.lines old.line.items part →
      Takes (position_of answers old hive sent) part (position_of answers new hive sent)
  part-taken e within =
      subst (λ s. Takes (position_of answers old hive sent) part (position_of answers s hive sent)) (sym same)
      (takes-part (position_of answers old hive sent) part new.line.items steady plain within e)

  pub part-halted : (fault : ScriptFault) → IsPartFault old.lines old.line.items part fault →
      Halts among (position_of answers old hive sent) part (position_of answers new hive sent) (Of fault)
  part-halted fault f =
      subst (λ s. Halts among (position_of answers old hive sent) part (position_of answers s hive sent) (Of fault)) (sym same)
      (part-halts (position_of answers old hive sent) (position_of answers (record old { line = new.line }) hive sent) part fault steady plain refl
      (record { gathered = refl; sent = refl; written = refl }) f)

-- ---- bytes of which a front was taken

-- a front of the bytes was taken, and these are left
pub record IsTakenOf (begin : Position) (bytes : List ℕ) (now : Position) (rest : List ℕ) : Type 0 where
  pub front : List ℕ
  pub splits : bytes ≡ front ++ rest
  pub takes : Takes begin front now

pub taken-line : (begin now mid new : Position) (bytes rest : List ℕ) (place : ℕ) → IsTakenOf begin bytes now rest → IsFed rest place →
    Takes now (take place rest) mid → Takes mid (10 ∷ []) new → IsTakenOf begin bytes new (take (length rest - (place + 1)) (drop (place + 1) rest))
taken-line begin now mid new bytes rest place t f part feed = subst (λ xs. IsTakenOf begin bytes new xs) (sym (take_rest rest (place + 1))) (record {
  front = t.front ++ (take place rest ++ 10 ∷ []);
  splits = t.splits ∙ (ap (λ xs. t.front ++ xs) (f.parts ∙ sym (append_assoc (take place rest) (10 ∷ []) (drop (place + 1) rest)))
      ∙ sym (append_assoc t.front (take place rest ++ 10 ∷ []) (drop (place + 1) rest)));
  takes = takes_then begin now new t.front (take place rest ++ 10 ∷ []) t.takes
      (takes_then now mid new (take place rest) (10 ∷ []) part feed);
})

pub taken-all : (begin now new : Position) (bytes rest : List ℕ) → IsTakenOf begin bytes now rest → Takes now rest new → Takes begin bytes new
taken-all begin now new bytes rest t k =
    subst (λ xs. Takes begin xs new) (sym t.splits) (takes_then begin now new t.front rest t.takes k)

-- a fault in a front of what is left
pub halted-in : (begin now new : Position) (bytes rest part back : List ℕ) (fault : _) → IsTakenOf begin bytes now rest → rest ≡ part ++ back →
    Halts among now part new fault → Halts among begin bytes new fault
halted-in begin now new bytes rest part back fault t e h =
    subst (λ xs. Halts among begin xs new fault) (sym (t.splits ∙ ap (λ xs. t.front ++ xs) e))
    (halts_after among begin now new t.front (part ++ back) fault t.takes (halts_before now new part back fault h))

-- a fault in all that is left
pub halted-all : (begin now new : Position) (bytes rest : List ℕ) (fault : _) → IsTakenOf begin bytes now rest → Halts among now rest new fault →
    Halts among begin bytes new fault
halted-all begin now new bytes rest fault t h =
    halted-in begin now new bytes rest rest [] fault t (sym (append-nil rest)) h

-- a fault at the LF behind a part
pub halted-at : (begin now mid new : Position) (bytes rest : List ℕ) (place : ℕ) (fault : _) → IsTakenOf begin bytes now rest → IsFed rest place →
    Takes now (take place rest) mid → Halts among mid (10 ∷ []) new fault → Halts among begin bytes new fault
halted-at begin now mid new bytes rest place fault t f part h =
    halted-in begin now new bytes rest (take place rest ++ 10 ∷ []) (drop (place + 1) rest) fault t
    (f.parts ∙ sym (append_assoc (take place rest) (10 ∷ []) (drop (place + 1) rest)))
    (halts_after among now mid new (take place rest) (10 ∷ []) fault part h)
