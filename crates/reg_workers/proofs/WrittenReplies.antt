-- Replies, one after another.
use Rattle.std.proofs.Common.{◌≡◌, ◌+◌, ◌<◌, ◌≤◌, ◌&&◌, ℕ, zero, suc, Bool, true, false, List, [], ◌∷◌, ◌++◌, Option, Some, codes, length, get_or, slice_get, drop, take, refl, sym, ap, subst, inl, inr, ◌∙◌, arith, append-nil, append_assoc, drop-cons, length-drop, add-one}
use Rattle.std.specs.Fmt.{decimal}
use Rattle.std.proofs.lemmas.Bool.{cases_lt}
use Rattle.std.proofs.lemmas.List.{take_more}
use Rattle.std.proofs.lemmas.Option.{slice_get_within}
use Rattle.reg_text.specs.Texts.{line_feed}
use Rattle.reg_sessions.specs.Locked.{Held}
use Rattle.reg_sessions.specs.declared.job.Work.{Work}
use Rattle.reg_sessions.specs.declared.job.Done.{Done}
use Rattle.reg_sessions.specs.declared.job.Job.{Job}
use Rattle.reg_sessions.specs.Jobs.{is_of_kind, are_of_kinds}
use Rattle.reg_sessions.specs.Gathering.{journal_at, journal_of}
use Rattle.reg_workers.specs.declared.part.Reply.{Reply}
use Rattle.reg_workers.specs.declared.part.Reply.TheVariants.{Bad, Worked}
use Rattle.reg_workers.specs.Texts.{reply_text, numbers_text, entries_text}
use Rattle.reg_workers.specs.Internal.Parts.{PartState, part_at}
use Rattle.reg_workers.specs.Internal.Working.{works_among, replies_by, session_by, work_at, done_at, sessions_by, IsWritten}
use Rattle.reg_workers.specs.Workers.{entries_of}

-- ---- works and outcomes side by side

and_left : (a b : Bool) → (a && b) ≡ true → a ≡ true
and_left true b h = refl
and_left false b h = absurd cc

and_right : (a b : Bool) → (a && b) ≡ true → b ≡ true
and_right true b h = h
and_right false b h = absurd cc

kinds_long : (work : List Work) (done : List Done) → are_of_kinds work done ≡ true → length work ≡ length done
kinds_long [] [] k = refl
kinds_long [] (d ∷ ds) k = absurd cc
kinds_long (w ∷ ws) [] k = absurd cc
kinds_long (w ∷ ws) (d ∷ ds) k = let rest : length ws ≡ length ds = kinds_long ws ds (and_right (is_of_kind w.ask d) (are_of_kinds ws ds) k) in omega (arith, rest)

cut : {A : Type 0} (xs : List A) (at : ℕ) (x : A) → at < length xs → x ≡ get_or xs at x → drop at xs ≡ x ∷ drop (at + 1) xs
cut xs at x below is =
    drop-cons xs at x below
    ∙ ap (λ y. y ∷ drop (suc at) xs) (sym is)
    ∙ ap (λ (n : ℕ). x ∷ drop n xs) (sym (add-one at))

pub done_there : (work : List Work) (done : List Done) (at : ℕ) → are_of_kinds (drop at work) (drop at done) ≡ true → at < length work → at < length done
done_there work done at k below =
    let same = kinds_long (drop at work) (drop at done) k in
    omega (arith, same, below, length-drop at work, length-drop at done)

module _ (work : List Work) (done : List Done) (at : ℕ) (w : Work) (d : Done) (k : are_of_kinds (drop at work) (drop at done) ≡ true)
    (below : at < length work) (is_w : w ≡ get_or work at w) (is_d : d ≡ get_or done at d) where
  works_are : drop at work ≡ w ∷ drop (at + 1) work
  works_are = cut work at w below is_w

  dones_are : drop at done ≡ d ∷ drop (at + 1) done
  dones_are = cut done at d (done_there work done at k below) is_d

  both : (is_of_kind w.ask d && are_of_kinds (drop (at + 1) work) (drop (at + 1) done)) ≡ true
  both = subst (λ (ds : List Done). are_of_kinds (w ∷ drop (at + 1) work) ds ≡ true) dones_are
      (subst (λ (ws : List Work). are_of_kinds ws (drop at done) ≡ true) works_are k)

  pub kind_there : is_of_kind w.ask d ≡ true
  kind_there = and_left _ _ both

  pub worked_written : (old new : List ℕ) → new ≡ old ++ reply_text w.ask d →
      IsWritten Worked (drop at work) (drop at done) old new (drop (at + 1) work) (drop (at + 1) done)
  worked_written old new e = record {
    text = λ replies.
        ap (λ (t : List ℕ). t ++ replies_by replies (drop (at + 1) work) (drop (at + 1) done)) e
        ∙ append_assoc old (reply_text w.ask d) (replies_by replies (drop (at + 1) work) (drop (at + 1) done))
        ∙ sym (ap (λ (ws : List Work). old ++ replies_by (Worked ∷ replies) ws (drop at done)) works_are
        ∙ ap (λ (ds : List Done). old ++ replies_by (Worked ∷ replies) (w ∷ drop (at + 1) work) ds) dones_are);
    kinds = and_right _ _ both;
  }

pub bad_written : (work : List Work) (done : List Done) (old new : List ℕ) → are_of_kinds work done ≡ true → new ≡ old ++ codes "bad\n" →
    IsWritten Bad work done old new work done
bad_written work done old new k e = record {
  text = λ replies. ap (λ (t : List ℕ). t ++ replies_by replies work done) e ∙ append_assoc old (codes "bad\n") (replies_by replies work done);
  kinds = k;
}

-- ---- all replies of a session

pub next_reply : (replies : List Reply) (i : ℕ) (reply : Reply) → i < length replies → reply ≡ get_or replies i reply →
    drop i replies ≡ reply ∷ drop (i + 1) replies
next_reply replies i reply below is = cut replies i reply below is

among_next : (reply : Reply) (replies : List Reply) → works_among (reply ∷ replies) ≡ works_among (reply ∷ []) + works_among replies
among_next Bad replies = omega arith
among_next Worked replies = omega arith

-- how many works are left is known
pub left_next : (replies : List Reply) (i : ℕ) (reply : Reply) (at n : ℕ) → drop i replies ≡ reply ∷ drop (i + 1) replies →
    at + works_among (drop i replies) ≡ n → (at + works_among (reply ∷ [])) + works_among (drop (i + 1) replies) ≡ n
left_next replies i reply at n cut count =
    let c : works_among (drop i replies) ≡ works_among (reply ∷ drop (i + 1) replies) = ap works_among cut in
    let a = among_next reply (drop (i + 1) replies) in
    omega (arith, c, a, count)

pub text_next : (replies : List Reply) (i : ℕ) (reply : Reply) (work : List Work) (done : List Done) (at next : ℕ) (old new all : List ℕ) →
    drop i replies ≡ reply ∷ drop (i + 1) replies → old ++ replies_by (drop i replies) (drop at work) (drop at done) ≡ all →
    IsWritten reply (drop at work) (drop at done) old new (drop next work) (drop next done) →
    new ++ replies_by (drop (i + 1) replies) (drop next work) (drop next done) ≡ all
text_next replies i reply work done at next old new all cut so_far written =
    written.text (drop (i + 1) replies)
    ∙ sym (ap (λ (rs : List Reply). old ++ replies_by rs (drop at work) (drop at done)) cut)
    ∙ so_far

drop_past : {A : Type 0} (xs : List A) (i : ℕ) → length xs ≡ i → drop i xs ≡ []
drop_past [] zero e = refl
drop_past [] (suc i) e = absurd (omega (arith, e))
drop_past (x ∷ xs) zero e = absurd (omega (arith, e))
drop_past (x ∷ xs) (suc i) e = drop_past xs i (omega (arith, e))

pub text_whole : (replies : List Reply) (i : ℕ) (work : List Work) (done : List Done) (new all : List ℕ) → length replies ≡ i →
    new ++ replies_by (drop i replies) work done ≡ all → new ≡ all
text_whole replies i work done new all past e =
    sym (append-nil new) ∙ sym (ap (λ (rs : List Reply). new ++ replies_by rs work done) (drop_past replies i past)) ∙ e

-- ---- sessions

pub session_none : (s : ℕ) (replies : List Reply) (work : List Work) (done : List Done) → length replies ≡ 0 → session_by s replies work done ≡ []
session_none s [] work done none = refl
session_none s (r ∷ rs) work done none = absurd (omega (arith, none))

pub session_some : (s : ℕ) (replies : List Reply) (work : List Work) (done : List Done) → 0 < length replies →
    session_by s replies work done ≡ codes "session " ++ (decimal s ++ (line_feed ++ replies_by replies work done))
session_some s [] work done some = absurd (omega (arith, some))
session_some s (r ∷ rs) work done some = refl

pub work_at_is : (jobs : List Job) (s : ℕ) (j : Job) → s < length jobs → j ≡ get_or jobs s j → work_at s jobs ≡ j.work.items
work_at_is [] s j below is = absurd (omega (arith, below))
work_at_is (x ∷ jobs) zero j below is = ap (λ (k : Job). k.work.items) (sym is)
work_at_is (x ∷ jobs) (suc s) j below is = work_at_is jobs s j (omega (arith, below)) is

pub done_at_is : (jobs : List Job) (s : ℕ) (j : Job) → s < length jobs → j ≡ get_or jobs s j → done_at s jobs ≡ j.outcomes.items
done_at_is [] s j below is = absurd (omega (arith, below))
done_at_is (x ∷ jobs) zero j below is = ap (λ (k : Job). k.outcomes.items) (sym is)
done_at_is (x ∷ jobs) (suc s) j below is = done_at_is jobs s j (omega (arith, below)) is

pub sessions_next : (parts : List PartState) (jobs : List Job) (s : ℕ) (j : Job) (replies : List Reply) (start old new : List ℕ) → s < length jobs →
    j ≡ get_or jobs s j → replies ≡ (part_at s parts).replies → old ≡ start ++ sessions_by parts jobs s →
    new ≡ old ++ session_by s replies j.work.items j.outcomes.items → new ≡ start ++ sessions_by parts jobs (s + 1)
sessions_next parts jobs s j replies start old new below is same so_far adds =
    adds
    ∙ ap (λ (t : List ℕ). t ++ session_by s replies j.work.items j.outcomes.items) so_far
    ∙ append_assoc start (sessions_by parts jobs s) (session_by s replies j.work.items j.outcomes.items)
    ∙ ap (λ (t : List ℕ). start ++ (sessions_by parts jobs s ++ t)) (ap (λ (rs : List Reply). session_by s rs j.work.items j.outcomes.items) same
    ∙ ap (λ (ws : List Work). session_by s (part_at s parts).replies ws j.outcomes.items) (sym (work_at_is jobs s j below is))
    ∙ ap (λ (ds : List Done). session_by s (part_at s parts).replies (work_at s jobs) ds) (sym (done_at_is jobs s j below is)))
    ∙ ap (λ (n : ℕ). start ++ sessions_by parts jobs n) (sym (add-one s))

-- ---- hives

numbers_more : (ns : List ℕ) (n : ℕ) → numbers_text (ns ++ n ∷ []) ≡ numbers_text ns ++ (codes " " ++ decimal n)
numbers_more [] n = ap (λ (t : List ℕ). codes " " ++ t) (append-nil (decimal n))
numbers_more (m ∷ ns) n =
    ap (λ (t : List ℕ). codes " " ++ (decimal m ++ t)) (numbers_more ns n)
    ∙ ap (λ (t : List ℕ). codes " " ++ t) (sym (append_assoc (decimal m) (numbers_text ns) (codes " " ++ decimal n)))

pub entries_at : (hives : List Held) (h d : ℕ) → h < length hives → get_or (entries_of hives) h d ≡ length (journal_at hives h)
entries_at [] h d below = absurd (omega (arith, below))
entries_at (b ∷ bs) zero d below = refl
entries_at (b ∷ bs) (suc h) d below = entries_at bs h d (omega (arith, below))

some_is : (x y : Held) → Some x ≡ Some y → x ≡ y
some_is x y e = cc

-- what is true of the hives before one, and of that one
pub each_next : (P : Held → Type 0) (hives : List Held) (h : ℕ) (x : Held) → ((k : ℕ) (b : Held) → k < h → slice_get hives k ≡ Some b → P b) →
    slice_get hives h ≡ Some x → P x → (k : ℕ) (b : Held) → k < h + 1 → slice_get hives k ≡ Some b → P b
each_next P hives h x all is one k b below there =
    elim (cases_lt k h) [
      | inl less ↦ all k b less there
      | inr past ↦ (let at : h ≡ k = omega (arith, below, past) in
          subst P (some_is x b (sym is ∙ ap (λ (n : ℕ). slice_get hives n) at ∙ there)) one)
    ]

-- what is true of each hive that is there
pub each_all : (P : Held → Type 0) (hives : List Held) (h : ℕ) → length hives ≤ h → ((k : ℕ) (b : Held) → k < h → slice_get hives k ≡ Some b → P b) →
    (k : ℕ) (b : Held) → slice_get hives k ≡ Some b → P b
each_all P hives h whole all k b there = let within = slice_get_within hives k b there in all k b (omega (arith, within, whole)) there

-- how many entries a hive keeps, as code finds them there
pub kept_at : (hives : List Held) (h : ℕ) (b : Held) → slice_get hives h ≡ Some b → length b.view.journal ≡ length (journal_at hives h)
kept_at hives h b there = sym (ap (λ (o : Option Held). length (journal_of o)) there)

pub entries_long : (hives : List Held) → length (entries_of hives) ≡ length hives
entries_long [] = refl
entries_long (b ∷ bs) = let rest = entries_long bs in omega (arith, rest)

pub numbers_next : (hives : List Held) (h n : ℕ) (start old new : List ℕ) → h < length hives → n ≡ length (journal_at hives h) →
    old ≡ start ++ (codes "entries" ++ numbers_text (take h (entries_of hives))) → new ≡ old ++ (codes " " ++ decimal n) →
    new ≡ start ++ (codes "entries" ++ numbers_text (take (h + 1) (entries_of hives)))
numbers_next hives h n start old new below is so_far adds =
    let front = take h (entries_of hives) in
    let below' : h < length (entries_of hives) = omega (arith, below, entries_long hives) in
    let longer : take (h + 1) (entries_of hives) ≡ front ++ n ∷ [] = take_more (entries_of hives) h n below'
    ∙ ap (λ (m : ℕ). front ++ m ∷ []) (entries_at hives h n below ∙ sym is) in
    adds
    ∙ ap (λ (t : List ℕ). t ++ (codes " " ++ decimal n)) so_far
    ∙ append_assoc start (codes "entries" ++ numbers_text front) (codes " " ++ decimal n)
    ∙ ap (λ (t : List ℕ). start ++ t) (append_assoc (codes "entries") (numbers_text front) (codes " " ++ decimal n))
    ∙ ap (λ (t : List ℕ). start ++ (codes "entries" ++ t)) (sym (numbers_more front n))
    ∙ ap (λ (ns : List ℕ). start ++ (codes "entries" ++ numbers_text ns)) (sym longer)

take_whole : {A : Type 0} (xs : List A) (i : ℕ) → length xs ≡ i → take i xs ≡ xs
take_whole [] zero e = refl
take_whole [] (suc i) e = absurd (omega (arith, e))
take_whole (x ∷ xs) zero e = absurd (omega (arith, e))
take_whole (x ∷ xs) (suc i) e = ap (λ ys. x ∷ ys) (take_whole xs i (omega (arith, e)))

pub entries_whole : (hives : List Held) (h : ℕ) (start old new : List ℕ) → length hives ≡ h →
    old ≡ start ++ (codes "entries" ++ numbers_text (take h (entries_of hives))) → new ≡ old ++ line_feed → new ≡ start ++ entries_text (entries_of hives)
entries_whole hives h start old new past so_far adds =
    let whole : take h (entries_of hives) ≡ entries_of hives = take_whole (entries_of hives) h (entries_long hives ∙ past) in
    adds
    ∙ ap (λ (t : List ℕ). t ++ line_feed) (so_far ∙ ap (λ (ns : List ℕ). start ++ (codes "entries" ++ numbers_text ns)) whole)
    ∙ append_assoc start (codes "entries" ++ numbers_text (entries_of hives)) line_feed
    ∙ ap (λ (t : List ℕ). start ++ t) (append_assoc (codes "entries") (numbers_text (entries_of hives)) line_feed)
