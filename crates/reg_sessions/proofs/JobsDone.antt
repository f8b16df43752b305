-- Work that is done, one after another.
use Rattle.std.proofs.Common.{◌≡◌, ◌+◌, ◌-◌, ◌==◌, ◌<◌, ◌≤◌, ◌⊎◌, ◌&&◌, ℕ, zero, suc, Bool, true, false, List, [], ◌∷◌, ◌++◌, Some, None, length, length-append, get_or, slice_get, set, take, refl, sym, ap, ◌∙◌, subst, inl, inr, arith, if◌then◌else◌, append_assoc, append-nil}
use Rattle.std.proofs.lemmas.List.{get_or-set_same, get_or-set_other, take-append-le, take_more}
use Rattle.std.proofs.Math.Seq.{take-append_seam}
use Rattle.std.proofs.lemmas.Bool.{cases_eq}
use Rattle.reg_callbacks.specs.Asking.{Answers}
use Rattle.reg_journal.specs.Kept.{seat}
use Rattle.reg_model.specs.declared.notice.Notice.{Notice}
use Rattle.reg_model.specs.declared.reply.Receipt.{Receipt}
use Rattle.reg_sessions.specs.Sessions.{SessionState, receipts_at, dropped_at, mark_at, seat_at, taken_at, popped_at, waiting_at, notifies_at, handles_at}
use Rattle.reg_sessions.specs.declared.job.Work.{Work}
use Rattle.reg_sessions.specs.declared.job.Done.{Done}
use Rattle.reg_sessions.specs.declared.job.Done.TheVariants.{Outcome, Notice as Told}
use Rattle.reg_sessions.specs.declared.job.Job.{Job}
use Rattle.reg_sessions.specs.Jobs.{AreDone, AreLawful, AreMissed, MayMiss, IsLawfulDone, is_of_kind, are_of_kinds, receipts_by, receipts_of_one, notices_by, notices_of_one, mark_by, mark_by_one, notifies_by, notifies_by_one, handles_by, handles_by_one, IsSameJob, HasRoom, IsDone}

and_right : (a b : Bool) → (a && b) ≡ true → b ≡ true
and_right true b h = h
and_right false b h = absurd cc

-- what one work and its outcome give at hive h
given : ℕ → Work → Done → List Receipt
given h w d = if h == w.hive then receipts_of_one w.moment w.ask d else []

receipts_more : (h : ℕ) (ws : List Work) (w : Work) (ds : List Done) (d : Done) → are_of_kinds ws ds ≡ true → receipts_by h (ws ++ w ∷ []) (ds ++ d ∷ []) ≡ receipts_by h ws ds ++ given h w d
unfolding given
receipts_more h [] w [] d same = append-nil (given h w d)
receipts_more h [] w (e ∷ ds) d same = absurd cc
receipts_more h (v ∷ ws) w [] d same = absurd cc
receipts_more h (v ∷ ws) w (e ∷ ds) d same =
    ap (λ (l : List Receipt). given h v e ++ l) (receipts_more h ws w ds d (and_right _ _ same)) ∙ sym (append_assoc (given h v e) (receipts_by h ws ds) (given h w d))

-- the notices that one work and its outcome give at hive h
fetched : ℕ → Work → Done → List Notice
fetched h w d = if h == w.hive then notices_of_one w.ask d else []

notices_more : (h : ℕ) (ws : List Work) (w : Work) (ds : List Done) (d : Done) → are_of_kinds ws ds ≡ true → notices_by h (ws ++ w ∷ []) (ds ++ d ∷ []) ≡ notices_by h ws ds ++ fetched h w d
unfolding fetched
notices_more h [] w [] d same = append-nil (fetched h w d)
notices_more h [] w (e ∷ ds) d same = absurd cc
notices_more h (v ∷ ws) w [] d same = absurd cc
notices_more h (v ∷ ws) w (e ∷ ds) d same =
    ap (λ (l : List Notice). fetched h v e ++ l) (notices_more h ws w ds d (and_right _ _ same)) ∙ sym (append_assoc (fetched h v e) (notices_by h ws ds) (fetched h w d))

-- a list that grew by the notices of works grows by those of one work more
fetched_more : (h : ℕ) (old mid : List Notice) (ws : List Work) (w : Work) (ds : List Done) (d : Done) → are_of_kinds ws ds ≡ true → mid ≡ old ++ notices_by h ws ds
    → mid ++ fetched h w d ≡ old ++ notices_by h (ws ++ w ∷ []) (ds ++ d ∷ [])
fetched_more h old mid ws w ds d same is =
    ap (λ (l : List Notice). l ++ fetched h w d) is
    ∙ append_assoc old (notices_by h ws ds) (fetched h w d)
    ∙ ap (λ (l : List Notice). old ++ l) (sym (notices_more h ws w ds d same))

both_true : (a b c : Bool) → (a && b) ≡ true → (b ≡ true → c ≡ true) → (a && c) ≡ true
both_true true b c h f = f h
both_true false b c h f = absurd cc

kinds_more : (ws : List Work) (w : Work) (ds : List Done) (d : Done) → are_of_kinds ws ds ≡ true → is_of_kind w.ask d ≡ true → are_of_kinds (ws ++ w ∷ []) (ds ++ d ∷ []) ≡ true
kinds_more [] w [] d same k = rw k refl
kinds_more [] w (e ∷ ds) d same k = absurd cc
kinds_more (v ∷ ws) w [] d same k = absurd cc
kinds_more (v ∷ ws) w (e ∷ ds) d same k = both_true _ _ _ same (λ h. kinds_more ws w ds d h k)

-- what one work and its outcome make of the mark at hive h
moved : ℕ → ℕ → Work → Done → ℕ
moved h mark w d = if h == w.hive then mark_by_one mark w.ask d else mark

mark_more : (h mark : ℕ) (ws : List Work) (w : Work) (ds : List Done) (d : Done) → are_of_kinds ws ds ≡ true
    → mark_by h mark (ws ++ w ∷ []) (ds ++ d ∷ []) ≡ moved h (mark_by h mark ws ds) w d
unfolding moved
mark_more h mark [] w [] d same = refl
mark_more h mark [] w (e ∷ ds) d same = absurd cc
mark_more h mark (v ∷ ws) w [] d same = absurd cc
mark_more h mark (v ∷ ws) w (e ∷ ds) d same = mark_more h (moved h mark v e) ws w ds d (and_right _ _ same)

-- what one work and its outcome make of how many Notify calls were accepted at hive h
counted : ℕ → ℕ → Work → Done → ℕ
counted h n w d = if h == w.hive then notifies_by_one n w.ask d else n

notifies_more : (h n : ℕ) (ws : List Work) (w : Work) (ds : List Done) (d : Done) → are_of_kinds ws ds ≡ true
    → notifies_by h n (ws ++ w ∷ []) (ds ++ d ∷ []) ≡ counted h (notifies_by h n ws ds) w d
unfolding counted
notifies_more h n [] w [] d same = refl
notifies_more h n [] w (e ∷ ds) d same = absurd cc
notifies_more h n (v ∷ ws) w [] d same = absurd cc
notifies_more h n (v ∷ ws) w (e ∷ ds) d same = notifies_more h (counted h n v e) ws w ds d (and_right _ _ same)

-- and of how many handles are open there
left_open : ℕ → ℕ → Work → Done → ℕ
left_open h n w d = if h == w.hive then handles_by_one n w.ask d else n

handles_more : (h n : ℕ) (ws : List Work) (w : Work) (ds : List Done) (d : Done) → are_of_kinds ws ds ≡ true
    → handles_by h n (ws ++ w ∷ []) (ds ++ d ∷ []) ≡ left_open h (handles_by h n ws ds) w d
unfolding left_open
handles_more h n [] w [] d same = refl
handles_more h n [] w (e ∷ ds) d same = absurd cc
handles_more h n (v ∷ ws) w [] d same = absurd cc
handles_more h n (v ∷ ws) w (e ∷ ds) d same = handles_more h (left_open h n v e) ws w ds d (and_right _ _ same)

as_many : (ws : List Work) (ds : List Done) → are_of_kinds ws ds ≡ true → length ds ≡ length ws
as_many [] [] same = refl
as_many [] (d ∷ ds) same = absurd cc
as_many (w ∷ ws) [] same = absurd cc
as_many (w ∷ ws) (d ∷ ds) same = ap (λ (n : ℕ). suc n) (as_many ws ds (and_right _ _ same))

some_is : {X : Type 0} (x y : X) → Some x ≡ Some y → x ≡ y
some_is x y e = cc

none_there : {X : Type 0} (y : X) (i : ℕ) → slice_get [] i ≡ Some y → ⊥
none_there y i e = cc

-- an element of a list with one more is of the list, or that one
there_or_last : {X : Type 0} (xs : List X) (x y : X) (i : ℕ) → slice_get (xs ++ x ∷ []) i ≡ Some y → ((i < length xs) × (slice_get xs i ≡ Some y)) ⊎ ((i ≡ length xs) × (x ≡ y))
there_or_last [] x y zero h = inr (refl, some_is x y h)
there_or_last [] x y (suc i) h = absurd (none_there y i h)
there_or_last (a ∷ xs) x y zero h = inl (omega arith, h)
there_or_last (a ∷ xs) x y (suc i) h =
    elim (there_or_last xs x y i h) [
      | inl p ↦ (let below = p.0 in inl (omega (arith, below), p.1))
      | inr p ↦ inr (ap (λ (n : ℕ). suc n) p.0, p.1)
    ]

-- what holds of each work and its outcome, by the works before it and theirs, holds with one work more
each_more : (P : List Work → List Done → Work → Done → Type 0) (ws : List Work) (w : Work) (ds : List Done) (d : Done) → are_of_kinds ws ds ≡ true →
    ((i : ℕ) (x : Work) (y : Done) → slice_get ws i ≡ Some x → slice_get ds i ≡ Some y → P (take i ws) (take i ds) x y) → P ws ds w d →
    (i : ℕ) (x : Work) (y : Done) → slice_get (ws ++ w ∷ []) i ≡ Some x → slice_get (ds ++ d ∷ []) i ≡ Some y → P (take i (ws ++ w ∷ [])) (take i (ds ++ d ∷ [])) x y
each_more P ws w ds d same all one i x y is told =
    let long = as_many ws ds same in
    elim (there_or_last ws w x i is) [
      | inl p ↦ elim (there_or_last ds d y i told) [
        | inl q ↦ (let below = p.0 in
            subst (λ (l : List Work). P l (take i (ds ++ d ∷ [])) x y) (sym (take-append-le i ws (w ∷ []) (omega (arith, below))))
            (subst (λ (l : List Done). P (take i ws) l x y) (sym (take-append-le i ds (d ∷ []) (omega (arith, below, long)))) (all i x y p.1 q.1)))
        | inr q ↦ (let below = p.0 in let at = q.0 in absurd (omega (arith, below, at, long)))
      ]
      | inr p ↦ elim (there_or_last ds d y i told) [
        | inl q ↦ (let below = q.0 in let at = p.0 in absurd (omega (arith, below, at, long)))
        | inr q ↦ (let works : take i (ws ++ w ∷ []) ≡ ws = ap (λ (n : ℕ). take n (ws ++ w ∷ [])) p.0 ∙ take-append_seam ws (w ∷ []) in
            let told_so : take i (ds ++ d ∷ []) ≡ ds = ap (λ (n : ℕ). take n (ds ++ d ∷ [])) q.0 ∙ take-append_seam ds (d ∷ []) in
            subst (λ (l : List Work). P l (take i (ds ++ d ∷ [])) x y) (sym works)
            (subst (λ (l : List Done). P ws l x y) (sym told_so)
            (subst (λ (v : Work). P ws ds v y) p.1 (subst (λ (v : Done). P ws ds w v) q.1 one))))
      ]
    ]

-- what is lawful of a work by the works before it
lawful_after : {C : Type 0} → (C → Answers) → SessionState → List Work → List Done → Work → Done → Type 0
lawful_after answers s ws ds w d =
    IsLawfulDone answers (seat s.number (dropped_at w.hive s + length (receipts_at w.hive s ++ receipts_by w.hive ws ds))) (mark_by w.hive (mark_at w.hive s) ws ds)
    (handles_by w.hive (handles_at w.hive s) ws ds) w.moment w.ask d

lawful_more : {C : Type 0} (answers : C → Answers) (s : SessionState) (ws : List Work) (w : Work) (ds : List Done) (d : Done) → are_of_kinds ws ds ≡ true → AreLawful answers s ws ds
    → lawful_after answers s ws ds w d → AreLawful answers s (ws ++ w ∷ []) (ds ++ d ∷ [])
unfolding lawful_after
lawful_more answers s ws w ds d same all one = each_more (lawful_after answers s) ws w ds d same all one

-- what may be missed of a work by the works before it
missed_after : SessionState → List Work → List Done → Work → Done → Type 0
missed_after s ws ds w d =
    MayMiss (length (waiting_at w.hive s) - length (notices_by w.hive ws ds)) (notifies_by w.hive (notifies_at w.hive s) ws ds)
    (length (taken_at w.hive s ++ notices_by w.hive ws ds)) d

missed_more : (s : SessionState) (ws : List Work) (w : Work) (ds : List Done) (d : Done) → are_of_kinds ws ds ≡ true → AreMissed s ws ds → missed_after s ws ds w d →
    AreMissed s (ws ++ w ∷ []) (ds ++ d ∷ [])
unfolding missed_after
missed_more s ws w ds d same all one = each_more (missed_after s) ws w ds d same all one

-- fewer are known to wait
fewer_wait : (before took waiting notifies taken : ℕ) (d : Done) → before ≤ waiting + took → MayMiss waiting notifies taken d → MayMiss (before - took) notifies taken d
fewer_wait before took waiting notifies taken (Outcome outcome) few miss = tt
fewer_wait before took waiting notifies taken (Told (Some notice)) few miss = tt
fewer_wait before took waiting notifies taken (Told None) few (inl none) = inl (omega (arith, few, none))
fewer_wait before took waiting notifies taken (Told None) few (inr all) = inr all

missed_next : (old mid : SessionState) (ws : List Work) (ds : List Done) (w : Work) (d : Done) →
    length (waiting_at w.hive old) ≤ length (waiting_at w.hive mid) + length (notices_by w.hive ws ds) →
    notifies_at w.hive mid ≡ notifies_by w.hive (notifies_at w.hive old) ws ds → taken_at w.hive mid ≡ taken_at w.hive old ++ notices_by w.hive ws ds →
    MayMiss (length (waiting_at w.hive mid)) (notifies_at w.hive mid) (length (taken_at w.hive mid)) d → missed_after old ws ds w d
unfolding missed_after
missed_next old mid ws ds w d few notifies taken miss =
    fewer_wait _ _ (length (waiting_at w.hive mid)) _ _ d few
    (subst (λ (n : ℕ). MayMiss (length (waiting_at w.hive mid)) n (length (taken_at w.hive old ++ notices_by w.hive ws ds)) d) notifies
    (subst (λ (l : List Notice). MayMiss (length (waiting_at w.hive mid)) (notifies_at w.hive mid) (length l) d) taken miss))

-- as many were taken, or wait yet
still_wait : (h before mid after : ℕ) (ws : List Work) (w : Work) (ds : List Done) (d : Done) → are_of_kinds ws ds ≡ true → before ≤ mid + length (notices_by h ws ds) →
    mid ≤ after + length (fetched h w d) → before ≤ after + length (notices_by h (ws ++ w ∷ []) (ds ++ d ∷ []))
still_wait h before mid after ws w ds d same one other =
    let more = ap (λ (l : List Notice). length l) (notices_more h ws w ds d same) in
    let long = length-append (notices_by h ws ds) (fetched h w d) in
    omega (arith, one, other, more, long)

-- the seat, the mark and the handles that a session has after works are those by these works
lawful_next : {C : Type 0} (answers : C → Answers) (old mid : SessionState) (ws : List Work) (ds : List Done) (w : Work) (d : Done) → mid.number ≡ old.number
    → receipts_at w.hive mid ≡ receipts_at w.hive old ++ receipts_by w.hive ws ds → dropped_at w.hive mid ≡ dropped_at w.hive old
    → mark_at w.hive mid ≡ mark_by w.hive (mark_at w.hive old) ws ds → handles_at w.hive mid ≡ handles_by w.hive (handles_at w.hive old) ws ds
    → IsLawfulDone answers (seat_at w.hive mid) (mark_at w.hive mid) (handles_at w.hive mid) w.moment w.ask d → lawful_after answers old ws ds w d
unfolding lawful_after
lawful_next answers old mid ws ds w d number receipts dropped mark handles one =
    let P : ℕ → ℕ → List Receipt → (reached left : ℕ) → Type 0 = λ n k l reached left. IsLawfulDone answers (seat n (k + length l)) reached left w.moment w.ask d in
    let all : List Receipt = receipts_at w.hive old ++ receipts_by w.hive ws ds in
    subst (λ (n : ℕ). P old.number (dropped_at w.hive old) all (mark_by w.hive (mark_at w.hive old) ws ds) n) handles
    (subst (λ (n : ℕ). P old.number (dropped_at w.hive old) all n (handles_at w.hive mid)) mark
    (subst (λ (n : ℕ). P old.number n all (mark_at w.hive mid) (handles_at w.hive mid)) dropped
    (subst (λ (l : List Receipt). P old.number (dropped_at w.hive mid) l (mark_at w.hive mid) (handles_at w.hive mid)) receipts
    (subst (λ (n : ℕ). P n (dropped_at w.hive mid) (receipts_at w.hive mid) (mark_at w.hive mid) (handles_at w.hive mid)) number one))))

pub done_none : {C : Type 0} (answers : C → Answers) (s : SessionState) (b : List Done) → AreDone answers s [] b s b
done_none answers s b = record {
  done = [];
  outcomes = sym (append-nil b);
  kinds = refl;
  lawful = λ i w d is told. absurd (none_there w i is);
  receipts = λ h. sym (append-nil (receipts_at h s));
  dropped = λ h. refl;
  marks = λ h. refl;
  taken = λ h. sym (append-nil (taken_at h s));
  popped = λ h. sym (append-nil (popped_at h s));
  notifies = λ h. refl;
  handles = λ h. refl;
  missed = λ i w d is told. absurd (none_there w i is);
  waiting = λ h. omega arith;
  number = refl;
  hives = refl;
}

done_more : {C : Type 0} (answers : C → Answers) (old : SessionState) (ws : List Work) (w : Work) (b a : List Done) (mid new : SessionState) (d : Done) → AreDone answers old ws b mid a
    → is_of_kind w.ask d ≡ true → IsLawfulDone answers (seat_at w.hive mid) (mark_at w.hive mid) (handles_at w.hive mid) w.moment w.ask d
    → ((h : ℕ) → receipts_at h new ≡ receipts_at h mid ++ (if h == w.hive then receipts_of_one w.moment w.ask d else []))
    → ((h : ℕ) → dropped_at h new ≡ dropped_at h mid)
    → ((h : ℕ) → mark_at h new ≡ (if h == w.hive then mark_by_one (mark_at h mid) w.ask d else mark_at h mid))
    → ((h : ℕ) → taken_at h new ≡ taken_at h mid ++ (if h == w.hive then notices_of_one w.ask d else []))
    → ((h : ℕ) → popped_at h new ≡ popped_at h mid ++ (if h == w.hive then notices_of_one w.ask d else []))
    → ((h : ℕ) → notifies_at h new ≡ (if h == w.hive then notifies_by_one (notifies_at h mid) w.ask d else notifies_at h mid))
    → ((h : ℕ) → handles_at h new ≡ (if h == w.hive then handles_by_one (handles_at h mid) w.ask d else handles_at h mid))
    → MayMiss (length (waiting_at w.hive mid)) (notifies_at w.hive mid) (length (taken_at w.hive mid)) d
    → ((h : ℕ) → length (waiting_at h mid) ≤ length (waiting_at h new) + length (if h == w.hive then notices_of_one w.ask d else []))
    → new.number ≡ mid.number → length new.places ≡ length mid.places
    → AreDone answers old (ws ++ w ∷ []) b new (a ++ d ∷ [])
unfolding given fetched moved counted left_open
done_more answers old ws w b a mid new d p kind lawful receipt dropped mark taken popped notify opened miss wait number hives = record {
  done = p.done ++ d ∷ [];
  outcomes = ap (λ (l : List Done). l ++ d ∷ []) p.outcomes ∙ append_assoc b p.done (d ∷ []);
  kinds = kinds_more ws w p.done d p.kinds kind;
  lawful = lawful_more answers old ws w p.done d p.kinds p.lawful (lawful_next answers old mid ws p.done w d p.number (p.receipts w.hive) (p.dropped w.hive) (p.marks w.hive)
      (p.handles w.hive) lawful);
  dropped = λ h. dropped h ∙ p.dropped h;
  marks = λ h. mark h ∙ ap (λ (m : ℕ). moved h m w d) (p.marks h) ∙ sym (mark_more h (mark_at h old) ws w p.done d p.kinds);
  receipts = λ h. (
      receipt h
      ∙ ap (λ (l : List Receipt). l ++ given h w d) (p.receipts h)
      ∙ append_assoc (receipts_at h old) (receipts_by h ws p.done) (given h w d)
      ∙ ap (λ (l : List Receipt). receipts_at h old ++ l) (sym (receipts_more h ws w p.done d p.kinds)));
  taken = λ h. taken h ∙ fetched_more h (taken_at h old) (taken_at h mid) ws w p.done d p.kinds (p.taken h);
  popped = λ h. popped h ∙ fetched_more h (popped_at h old) (popped_at h mid) ws w p.done d p.kinds (p.popped h);
  missed = missed_more old ws w p.done d p.kinds p.missed (missed_next old mid ws p.done w d (p.waiting w.hive) (p.notifies w.hive) (p.taken w.hive) miss);
  waiting = λ h. still_wait h _ _ _ ws w p.done d p.kinds (p.waiting h) (wait h);
  notifies = λ h. notify h ∙ ap (λ (n : ℕ). counted h n w d) (p.notifies h) ∙ sym (notifies_more h (notifies_at h old) ws w p.done d p.kinds);
  handles = λ h. opened h ∙ ap (λ (n : ℕ). left_open h n w d) (p.handles h) ∙ sym (handles_more h (handles_at h old) ws w p.done d p.kinds);
  number = number ∙ p.number;
  hives = hives ∙ p.hives;
}

-- one work more of a list
pub done_next : {C : Type 0} (answers : C → Answers) (old : SessionState) (ws : List Work) (i : ℕ) (w : Work) (b a : List Done) (mid new : SessionState) (d : Done) → i < length ws
    → w ≡ get_or ws i w → AreDone answers old (take i ws) b mid a → is_of_kind w.ask d ≡ true
    → IsLawfulDone answers (seat_at w.hive mid) (mark_at w.hive mid) (handles_at w.hive mid) w.moment w.ask d
    → ((h : ℕ) → receipts_at h new ≡ receipts_at h mid ++ (if h == w.hive then receipts_of_one w.moment w.ask d else []))
    → ((h : ℕ) → dropped_at h new ≡ dropped_at h mid)
    → ((h : ℕ) → mark_at h new ≡ (if h == w.hive then mark_by_one (mark_at h mid) w.ask d else mark_at h mid))
    → ((h : ℕ) → taken_at h new ≡ taken_at h mid ++ (if h == w.hive then notices_of_one w.ask d else []))
    → ((h : ℕ) → popped_at h new ≡ popped_at h mid ++ (if h == w.hive then notices_of_one w.ask d else []))
    → ((h : ℕ) → notifies_at h new ≡ (if h == w.hive then notifies_by_one (notifies_at h mid) w.ask d else notifies_at h mid))
    → ((h : ℕ) → handles_at h new ≡ (if h == w.hive then handles_by_one (handles_at h mid) w.ask d else handles_at h mid))
    → MayMiss (length (waiting_at w.hive mid)) (notifies_at w.hive mid) (length (taken_at w.hive mid)) d
    → ((h : ℕ) → length (waiting_at h mid) ≤ length (waiting_at h new) + length (if h == w.hive then notices_of_one w.ask d else []))
    → new.number ≡ mid.number → length new.places ≡ length mid.places
    → AreDone answers old (take (i + 1) ws) b new (a ++ d ∷ [])
done_next answers old ws i w b a mid new d below is p kind lawful receipt dropped mark taken popped notify opened miss wait number hives =
    let Q : List Work → Type 0 = λ l. AreDone answers old l b new (a ++ d ∷ []) in
    subst Q (sym (take_more ws i w below ∙ ap (λ x. take i ws ++ x ∷ []) (sym is)))
    (done_more answers old (take i ws) w b a mid new d p kind lawful receipt dropped mark taken popped notify opened miss wait number hives)

-- ---- jobs

same_twice : {a b c : Job} → IsSameJob a b → IsSameJob b c → IsSameJob a c
same_twice p q = record { session = q.session ∙ p.session; work = q.work ∙ p.work; outcomes = q.outcomes ∙ p.outcomes }

pub same_more : (old now : List Job) (i : ℕ) (j : Job) → i < length now → length now ≡ length old
    → ((k : ℕ) (d : Job) → k < length old → IsSameJob (get_or old k d) (get_or now k d))
    → ((d : Job) → IsSameJob (get_or now i d) j)
    → (k : ℕ) (d : Job) → k < length old → IsSameJob (get_or old k d) (get_or (set now i j) k d)
same_more old now i j within same all step k d below =
    elim (cases_eq k i) [
      | inl e ↦ (let P : Job → Type 0 = λ x. IsSameJob (get_or old k d) x in
          subst P (ap (λ n. get_or (set now i j) n d) (sym e))
          (subst P (sym (get_or-set_same now i j d within)) (same_twice (all k d below) (let Q : ℕ → Type 0 = λ n. IsSameJob (get_or now n d) j in subst Q (sym e) (step d)))))
      | inr ne ↦ (let P : Job → Type 0 = λ x. IsSameJob (get_or old k d) x in subst P (sym (get_or-set_other now i k j d ne)) (all k d below))
    ]

pub room_more : (now : List Job) (i : ℕ) (j : Job) → i < length now → ((k : ℕ) (d : Job) → k < i → HasRoom (get_or now k d)) → HasRoom j
    → (k : ℕ) (d : Job) → k < i + 1 → HasRoom (get_or (set now i j) k d)
room_more now i j within all room k d below =
    elim (cases_eq k i) [
      | inl e ↦ (let P : Job → Type 0 = λ x. HasRoom x in subst P (ap (λ n. get_or (set now i j) n d) (sym e)) (subst P (sym (get_or-set_same now i j d within)) room))
      | inr ne ↦ (let P : Job → Type 0 = λ x. HasRoom x in subst P (sym (get_or-set_other now i k j d ne)) (all k d (omega (arith, ne))))
    ]

-- room changes nothing of what is done
pub is_done : {C : Type 0} (answers : C → Answers) {a b c : Job} → IsSameJob a b → IsDone answers b c → IsDone answers a c
is_done answers {a} {b} {c} p q = record {
  work = q.work ∙ ap (λ v. v.items) p.work;
  done = (let P : SessionState → Type 0 = λ s. AreDone answers s a.work.items a.outcomes.items c.session c.outcomes.items in
      let Q : List Work → Type 0 = λ w. AreDone answers b.session w a.outcomes.items c.session c.outcomes.items in
      let R : List Done → Type 0 = λ o. AreDone answers b.session b.work.items o c.session c.outcomes.items in
      subst P p.session (subst Q (ap (λ v. v.items) p.work) (subst R p.outcomes q.done)));
}
