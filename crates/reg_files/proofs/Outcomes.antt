-- What a status says of a request, by what its call answered.
use Rattle.std.proofs.Common.{◌≡◌, ◌≤◌, ◌∙◌, ◌++◌, ◌⊎◌, ℕ, zero, suc, Bool, true, false, ◌&&◌, List, Option, codes, refl, sym, subst, inl, inr}
use Rattle.std.proofs.Common.{arith}
use Rattle.std.specs.Prelude.{Result, Ok, Err, OnOk, OnErr, IfOk, IfErr, MatchResult, ⊤}
use Rattle.std.specs.Io.KnownBytes.{Appends}
use Rattle.reg_command.specs.Failures.{Does, IsSaid}
use Rattle.reg_text.specs.Texts.{line_feed}
use Rattle.reg_words.specs.declared.request.DiffForm.{DiffForm}
use Rattle.reg_words.specs.declared.request.HiveFile.{HiveFile}
use Rattle.reg_words.specs.declared.request.Request.{Request}
use Rattle.reg_words.specs.declared.request.StreamRequest.TheVariants as stream
use Rattle.std.proofs.lemmas.List.{append_assoc}
use Rattle.reg_files.specs.Looking.{IsCutReported, IsReported}
use Rattle.reg_files.specs.Differing.{AreOther, AreSame, StopsDiffing}
use Rattle.reg_files.specs.Counting.{Checks, ChecksFiles, CountStops}
use Rattle.reg_files.specs.Serving.{Fails, Serves}
use Rattle.reg_files.specs.Looking.{as_read, IsOpened, IsUnopened, LookFails, Looks}
use Rattle.reg_files.specs.Counting.{name_before, NameStops}
use Rattle.reg_files.specs.Differing.{Compares, CompareFails}
use Rattle.reg_files.specs.Internal.Counted.{IsCounted}
use Rattle.reg_files.specs.Internal.Outcomes.{Outcome, Settles, status_of, IsSameBehind, IsOtherBehind}

-- what a failed write ended was reported, and why it failed
pub cut_reported : (closed : Bool) (what : List ℕ) (told told_after : Option (List ℕ)) (failed now_failed : Option ℕ) →
    IsCutReported closed what told told_after failed now_failed → IsReported closed told told_after failed now_failed
cut_reported closed what told told_after failed now_failed (inl said) =
    inl (
      what ++ (codes ": " ++ said.0),
      subst (λ (l : List ℕ). IsSaid (codes "error " ++ l) told told_after failed now_failed)
          (sym (append_assoc what (codes ": " ++ said.0) line_feed)) said.1,
    )
cut_reported closed what told told_after failed now_failed (inr (inl said)) = inl (codes "8", said)
cut_reported closed what told told_after failed now_failed (inr (inr none)) = inr none

pub cut_so : (closed cut : Bool) (told told_after : Option (List ℕ)) (failed now_failed : Option ℕ) → cut ≡ true →
    IsReported closed told told_after failed now_failed → IsReported (closed && cut) told told_after failed now_failed
cut_so true cut told told_after failed now_failed is h = subst (λ (b : Bool). IsReported b told told_after failed now_failed) (sym is) h
cut_so false cut told told_after failed now_failed is h = h

-- what is reported in any case is so in each
pub reported_always : (silent : Bool) (told told_after : Option (List ℕ)) (failed now_failed : Option ℕ) →
    IsReported false told told_after failed now_failed → IsReported silent told told_after failed now_failed
reported_always true told told_after failed now_failed (inl said) = inl said
reported_always true told told_after failed now_failed (inr none) = inr (refl, none.1)
reported_always false told told_after failed now_failed h = h

module _ (request : Request) (closed : Bool) (unread left before after told told_after : Option (List ℕ)) (failed now_failed : Option ℕ) where
  -- it is done or not
  pub settled : {A E : Type 0} (is_cut : E → Bool) (P : Type 0) (Q : E → Type 0) (shut : Bool) (r : Result A E) (status : ℕ) →
      Settles is_cut shut r status told told_after failed now_failed → OnOk r P → IfErr r Q
      → (P → told_after ≡ told → Serves request unread left before after told told_after failed)
      → ((e : E) → Q e → IsReported (shut && is_cut e) told told_after failed now_failed
      → Fails request closed unread left before after told told_after failed now_failed)
      → Outcome request status closed unread left before after told told_after failed now_failed
  settled is_cut P Q shut (Ok a) status s h stops serves fails =
      subst (λ (n : ℕ). Outcome request n closed unread left before after told told_after failed now_failed) (sym s.0) (serves h s.1)
  settled is_cut P Q shut (Err e) status s h stops serves fails =
      subst (λ (n : ℕ). Outcome request n closed unread left before after told told_after failed now_failed) (sym s.0) (fails e stops s.1)

  -- it may be done with two statuses
  pub either : (status : ℕ) → status ≤ 1 → (status ≡ 0 → Serves request unread left before after told told_after failed)
      → (status ≡ 1 → Fails request closed unread left before after told told_after failed now_failed)
      → Outcome request status closed unread left before after told told_after failed now_failed
  either zero small zero_is one_is = zero_is refl
  either (suc zero) small zero_is one_is = one_is refl
  either (suc (suc n)) small zero_is one_is = absurd (omega (arith, small))

-- ---- files that are looked into

-- what is reported of a file that wasn't opened
pub unopened : (before told told_then told_after : Option (List ℕ)) (failed failed_then now_failed : Option ℕ) → told_then ≡ told →
    failed_then ≡ failed → IsReported false told_then told_after failed_then now_failed →
    IsUnopened before before told told_after failed now_failed
unopened before told told_then told_after failed failed_then now_failed same same_failed h = (
  refl,
  subst (λ f. IsReported false told told_after f now_failed) same_failed
      (subst (λ t. IsReported false t told_after failed_then now_failed) same h),
)

module _ (is_dirty : Bool) (file : List ℕ) (closed : Bool) (before after told told_after : Option (List ℕ)) (failed now_failed : Option ℕ) where
  module _ (bytes left warned : Option (List ℕ)) (warned_failed : Option ℕ) (opened : IsOpened is_dirty file bytes told warned failed warned_failed)
      (image : Option (List ℕ)) (is : image ≡ as_read is_dirty bytes) where
    pub looks : (done : (unread left : Option (List ℕ)) → Type 0) → done image left → told_after ≡ warned →
        Looks is_dirty file told told_after failed done
    looks done h same = (bytes, left, warned, warned_failed, opened, (subst (λ u. done u left) is h, same))

    pub stopped : (stops : (cut : Bool) → (unread left : Option (List ℕ)) → Type 0) (cut : Bool) →
        ((gone : Option (List ℕ)) × stops cut image gone) → IsReported (closed && cut) warned told_after warned_failed now_failed →
        LookFails is_dirty file closed before after told told_after failed now_failed stops
    stopped stops cut h reports = inr (bytes, h.0, warned, warned_failed, opened, (cut, subst (λ u. stops cut u h.0) is h.1, reports))

    -- something was done with an open file, or not
    module _ (request : Request) (unread : Option (List ℕ)) where
      pub looked : {A E : Type 0} (is_cut : E → Bool) (done : (unread left : Option (List ℕ)) → Type 0)
          (stops : (cut : Bool) → (unread left : Option (List ℕ)) → Type 0) (r : Result A E) (status : ℕ)
          → Settles is_cut closed r status warned told_after warned_failed now_failed → OnOk r (done image left)
          → IfErr r (λ e. (gone : Option (List ℕ)) × stops (is_cut e) image gone)
          → (Looks is_dirty file told told_after failed done → Serves request unread unread before after told told_after failed)
          → (LookFails is_dirty file closed before after told told_after failed now_failed stops
          → Fails request closed unread unread before after told told_after failed now_failed)
          → Outcome request status closed unread unread before after told told_after failed now_failed
      looked is_cut done stops (Ok a) status s h ends serves fails =
          subst (λ (n : ℕ). Outcome request n closed unread unread before after told told_after failed now_failed) (sym s.0)
          (serves (looks done h s.1))
      looked is_cut done stops (Err e) status s h ends serves fails =
          subst (λ (n : ℕ). Outcome request n closed unread unread before after told told_after failed now_failed) (sym s.0)
          (fails (stopped stops (is_cut e) ends s.1))

      -- a pattern was searched for in it
      pub searched : {E : Type 0} (is_cut : E → Bool) (finds : Bool → (unread left : Option (List ℕ)) → Type 0)
          (stops : (cut : Bool) → (unread left : Option (List ℕ)) → Type 0) (r : Result Bool E) (status : ℕ)
          → MatchResult r (λ is_found. (status ≡ status_of is_found) × (told_after ≡ warned))
          (λ e. (status ≡ 1) × IsReported (closed && is_cut e) warned told_after warned_failed now_failed)
          → IfOk r (λ is_found. finds is_found image left) → IfErr r (λ e. (gone : Option (List ℕ)) × stops (is_cut e) image gone)
          → (Looks is_dirty file told told_after failed (finds true) → Serves request unread unread before after told told_after failed)
          → ((Looks is_dirty file told told_after failed (finds false)
          ⊎ LookFails is_dirty file closed before after told told_after failed now_failed stops)
          → Fails request closed unread unread before after told told_after failed now_failed)
          → Outcome request status closed unread unread before after told told_after failed now_failed
      searched is_cut finds stops (Ok true) status s h ends serves fails =
          subst (λ (n : ℕ). Outcome request n closed unread unread before after told told_after failed now_failed) (sym s.0)
          (serves (looks (finds true) h s.1))
      searched is_cut finds stops (Ok false) status s h ends serves fails =
          subst (λ (n : ℕ). Outcome request n closed unread unread before after told told_after failed now_failed) (sym s.0)
          (fails (inl (looks (finds false) h s.1)))
      searched is_cut finds stops (Err e) status s h ends serves fails =
          subst (λ (n : ℕ). Outcome request n closed unread unread before after told told_after failed now_failed) (sym s.0)
          (fails (inr (stopped stops (is_cut e) ends s.1)))

-- a file that was to be looked into wasn't opened
pub unlooked : (request : Request) (closed : Bool) (unread before told told_then told_after : Option (List ℕ))
    (failed failed_then now_failed : Option ℕ)
    (status : ℕ) → told_then ≡ told → failed_then ≡ failed → status ≡ 1 → IsReported false told_then told_after failed_then now_failed →
    (IsUnopened before before told told_after failed now_failed →
    Fails request closed unread unread before before told told_after failed now_failed) →
    Outcome request status closed unread unread before before told told_after failed now_failed
unlooked request closed unread before told told_then told_after failed failed_then now_failed status same same_failed one h fails =
    subst (λ (n : ℕ). Outcome request n closed unread unread before before told told_after failed now_failed) (sym one)
    (fails (unopened before told told_then told_after failed failed_then now_failed same same_failed h))

-- of what is done nothing more may be said
pub any_done : {A E : Type 0} (r : Result A E) → OnOk r ⊤
any_done (Ok a) = tt
any_done (Err e) = tt

-- nor of what isn't
pub any_stop : {A E : Type 0} (r : Result A E) → OnErr r ⊤
any_stop (Ok a) = tt
any_stop (Err e) = tt

-- ---- two files that are compared

module _ (form : DiffForm) (new : HiveFile) (closed : Bool) (old old_left before after told told_after : Option (List ℕ))
    (failed now_failed : Option ℕ)
    (bytes left warned : Option (List ℕ)) (warned_failed : Option ℕ)
    (opened : IsOpened new.is_dirty new.file.now bytes told warned failed warned_failed)
    (image : Option (List ℕ)) (is : image ≡ as_read new.is_dirty bytes) where
  -- the new one is open, too
  module _ {E : Type 0} (is_cut : E → Bool) where
    pub same_behind : (r : Result ℕ E) (status : ℕ)
        → MatchResult r (λ s. (status ≡ s) × (told_after ≡ warned))
        (λ e. (status ≡ 1) × IsReported (closed && is_cut e) warned told_after warned_failed now_failed)
        → IfOk r (λ s. s ≡ 0 → AreSame form old old_left image left before after)
        → status ≡ 0 → IsSameBehind form new old old_left before after told told_after failed
    same_behind (Ok s) status h same nil =
        (bytes, left, warned, warned_failed, opened, (subst (λ u. AreSame form old old_left u left before after) is (same (sym h.0 ∙ nil)), h.1))
    same_behind (Err e) status h same nil = let one = h.0 in absurd (omega (arith, one, nil))

    pub other_behind : (r : Result ℕ E) (status : ℕ)
        → MatchResult r (λ s. (status ≡ s) × (told_after ≡ warned))
        (λ e. (status ≡ 1) × IsReported (closed && is_cut e) warned told_after warned_failed now_failed)
        → IfOk r (λ s. s ≡ 1 → AreOther form old old_left image left before after)
        → IfErr r (λ e. (gone : Option (List ℕ)) × (other_gone : Option (List ℕ))
        × StopsDiffing form before after (is_cut e) old gone image other_gone)
        → status ≡ 1 → IsOtherBehind form new closed old old_left before after told told_after failed now_failed
    other_behind (Ok s) status h other stops one =
        inl (
          bytes,
          left,
          warned,
          warned_failed,
          opened,
          (subst (λ u. AreOther form old old_left u left before after) is (other (sym h.0 ∙ one)), h.1),
        )
    other_behind (Err e) status h other stops one =
        inr (inr (
          stops.0,
          (
            bytes,
            stops.1,
            warned,
            warned_failed,
            opened,
            (
              is_cut e,
              subst (λ u. StopsDiffing form before after (is_cut e) old stops.0 u stops.1) is stops.2,
              h.1,
            ),
          ),
        ))

-- both were, and are the same, or not
module _ (form : DiffForm) (new : HiveFile) (old : List ℕ) (closed : Bool) (before after told told_after : Option (List ℕ))
    (failed now_failed : Option ℕ)
    (bytes left warned : Option (List ℕ)) (warned_failed : Option ℕ) (opened : IsOpened new.is_dirty old bytes told warned failed warned_failed)
    (image : Option (List ℕ)) (is : image ≡ as_read new.is_dirty bytes) where
  pub both_same : IsSameBehind form new image left before after warned told_after warned_failed →
      Compares new.is_dirty old new.file.now told told_after failed
      (λ one one_left other other_left. AreSame form one one_left other other_left before after)
  both_same h =
      (bytes, left, warned, warned_failed, opened, subst (λ u. IsSameBehind form new u left before after warned told_after warned_failed) is h)

  both_read : IsOtherBehind form new closed (as_read new.is_dirty bytes) left before after warned told_after warned_failed now_failed →
      Compares new.is_dirty old new.file.now told told_after failed
      (λ one one_left other other_left. AreOther form one one_left other other_left before after)
      ⊎ CompareFails form new.is_dirty old new.file.now closed before after told told_after failed now_failed
  both_read (inl other) = inl (bytes, left, warned, warned_failed, opened, other)
  both_read (inr (inl none)) = inr (inr (inl (bytes, left, warned, warned_failed, opened, none)))
  both_read (inr (inr stops)) = inr (inr (inr (bytes, stops.0, warned, warned_failed, opened, stops.1)))

  pub both_other : IsOtherBehind form new closed image left before after warned told_after warned_failed now_failed →
      Compares new.is_dirty old new.file.now told told_after failed
      (λ one one_left other other_left. AreOther form one one_left other other_left before after)
      ⊎ CompareFails form new.is_dirty old new.file.now closed before after told told_after failed now_failed
  both_other h = both_read (subst (λ u. IsOtherBehind form new closed u left before after warned told_after warned_failed now_failed) is h)

-- the status of a comparison is small
pub compared_small : {E : Type 0} (R : E → Type 0) (Q : Type 0) (r : Result ℕ E) (status : ℕ) →
    MatchResult r (λ s. (status ≡ s) × Q) (λ e. (status ≡ 1) × R e)
    → IfOk r (λ s. s ≤ 1) → status ≤ 1
compared_small R Q (Ok s) status h small = let is = h.0 in omega (arith, is, small)
compared_small R Q (Err e) status h small = let is = h.0 in omega (arith, is)

-- ---- files that are counted

-- behind a file's name its count was written
pub behind : (is_named : Bool) (file : List ℕ) (before named after unread left told told_after : Option (List ℕ)) →
    Appends before named (name_before is_named file) → Does stream.Check unread left named after × (told_after ≡ told) →
    IsCounted is_named file before after unread left told told_after
behind is_named file before named after unread left told told_after name done = (named, name, done.0, done.1)

module _ (is_dirty is_verbose is_named : Bool) (file : List ℕ) (closed : Bool) (before after told told_after : Option (List ℕ)) (failed now_failed : Option ℕ)
  where
    module _ (bytes left warned : Option (List ℕ)) (warned_failed : Option ℕ) (opened : IsOpened is_dirty file bytes told warned failed warned_failed)
        (image : Option (List ℕ)) (is : image ≡ as_read is_dirty bytes) where
      -- an open file was counted, or not
      pub counted : (status : ℕ) → status ≤ 1 → (status ≡ 0 → IsCounted is_named file before after image left warned told_after) →
          (status ≡ 1 → CountStops is_dirty is_verbose is_named file closed before after told_after now_failed image left warned warned_failed) →
          Checks is_dirty is_verbose is_named file status closed before after told told_after failed now_failed
      counted zero small counts stops =
          let done = counts refl in
          (done.0, done.1, (bytes, left, warned, warned_failed, opened, (subst (λ u. Does stream.Check u left done.0 after) is done.2, done.3)))
      counted (suc zero) small counts stops =
          inr (
            bytes,
            left,
            warned,
            warned_failed,
            opened,
            subst (λ u. CountStops is_dirty is_verbose is_named file closed before after told_after now_failed u left warned warned_failed) is (stops refl),
          )
      counted (suc (suc n)) small counts stops = absurd (omega (arith, small))

    -- it wasn't opened
    pub uncounted : (status : ℕ) → status ≡ 1 → IsUnopened before after told told_after failed now_failed →
        Checks is_dirty is_verbose is_named file status closed before after told told_after failed now_failed
    uncounted status one h =
        subst (λ (n : ℕ). Checks is_dirty is_verbose is_named file n closed before after told told_after failed now_failed) (sym one) (inl h)

-- a file's line wasn't begun
pub unnamed : (is_dirty is_verbose is_named : Bool) (file : List ℕ) (closed cut : Bool) (before after told told_after unread left : Option (List ℕ))
    (failed now_failed : Option ℕ) → NameStops cut (name_before is_named file) before after →
    IsReported (closed && cut) told told_after failed now_failed →
    CountStops is_dirty is_verbose is_named file closed before after told_after now_failed unread left told failed
unnamed is_dirty is_verbose is_named file closed cut before after told told_after unread left failed now_failed stops h = inl (cut, stops, h)

-- the files of a request were counted
module _ (request : Request) (is_dirty is_verbose closed : Bool) (unread before after told told_after : Option (List ℕ)) (failed now_failed : Option ℕ) where
  pub all_counted : (asked texts : List (List ℕ)) (status : ℕ) → asked ≡ texts → status ≤ 1
      → ChecksFiles is_dirty is_verbose asked status closed before after told told_after failed now_failed
      → (ChecksFiles is_dirty is_verbose texts 0 closed before after told told_after failed now_failed →
      Serves request unread unread before after told told_after failed)
      → (ChecksFiles is_dirty is_verbose texts 1 closed before after told told_after failed now_failed
      → Fails request closed unread unread before after told told_after failed now_failed)
      → Outcome request status closed unread unread before after told told_after failed now_failed
  all_counted asked texts zero is small checks serves fails =
      serves (subst (λ (ts : List (List ℕ)). ChecksFiles is_dirty is_verbose ts 0 closed before after told told_after failed now_failed) is checks)
  all_counted asked texts (suc zero) is small checks serves fails =
      fails (subst (λ (ts : List (List ℕ)). ChecksFiles is_dirty is_verbose ts 1 closed before after told told_after failed now_failed) is checks)
  all_counted asked texts (suc (suc n)) is small checks serves fails = absurd (omega (arith, small))

-- a line of a fault was written
pub reported : (closed : Bool) (text line what : List ℕ) (told told_after : Option (List ℕ)) (failed now_failed : Option ℕ) → text ≡ line →
    line ≡ codes "error " ++ (what ++ line_feed) → IsSaid text told told_after failed now_failed → IsReported closed told told_after failed now_failed
reported closed text line what told told_after failed now_failed e f h =
    inl (what, subst (λ (l : List ℕ). IsSaid l told told_after failed now_failed) (e ∙ f) h)
