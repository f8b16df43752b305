-- Timelines of files, told.
use Rattle.std.proofs.Common.{◌≡◌, ◌≤◌, Bool, List, ℕ, zero, suc, inr, refl, subst, sym, arith}
use Rattle.std.specs.Prelude.{Option, Result, Ok, Err, OnOk, IfErr}
use Rattle.std.specs.Io.KnownBytes.{Appends}
use Rattle.reg_heap.specs.Paths.{Tree}
use Rattle.reg_tables.specs.Timelines.{timeline_text}
use Rattle.reg_tables.specs.declared.timeline.TimelineForm.{TimelineForm as TableForm}
use Rattle.reg_tree_text.specs.DumpFronts.{IsStopped}
use Rattle.reg_tree_text.specs.declared.fault.DumpFault.{DumpFault}
use Rattle.reg_files.specs.Cuts.{is_dump_cut}
use Rattle.reg_words.specs.declared.request.Request.{Request}
use Rattle.reg_words.specs.declared.request.TimelineForm.{TimelineForm}
use Rattle.reg_files.specs.Gathering.{IsTimelineCut, ReadsEach, TellsTimes, TimesFail, table_form}
use Rattle.reg_files.specs.Serving.{Fails, Serves}
use Rattle.reg_files.specs.Internal.Outcomes.{Outcome, Settles}

module _ (is_dirty : Bool) (files : List (List ℕ)) (from to : ℕ) (form : TimelineForm) (closed : Bool)
    (before after told warned told_after : Option (List ℕ))
    (failed warned_failed now_failed : Option ℕ) (trees : List Tree) (reads : ReadsEach is_dirty files trees told warned failed warned_failed) where
  -- all files were read, and their keys written, or not
  module _ {A E : Type 0} (is_cut : E → Bool) where
    pub written : (r : Result A E) (status : ℕ) → Settles is_cut closed r status warned told_after warned_failed now_failed →
        OnOk r (Appends before after (timeline_text (table_form form) files trees from to)) → status ≡ 0 →
        TellsTimes is_dirty files from to form before after told told_after failed
    written (Ok a) status s h nil = (
      trees,
      warned_failed,
      subst (λ t. ReadsEach is_dirty files trees told t failed warned_failed) (sym s.1) reads,
      h,
    )
    written (Err e) status s h nil = let one = s.0 in absurd (omega (arith, one, nil))

    pub unwritten : (r : Result A E) (status : ℕ) → Settles is_cut closed r status warned told_after warned_failed now_failed →
        IfErr r (λ e. IsTimelineCut (is_cut e) (timeline_text (table_form form) files trees from to) before after) → status ≡ 1 →
        TimesFail is_dirty files from to form closed before after told told_after failed now_failed
    unwritten (Ok a) status s h one = let nil = s.0 in absurd (omega (arith, one, nil))
    unwritten (Err e) status s h one =
        inr (trees, warned, warned_failed, reads, (is_cut e, h, s.1))

-- what is written of a form, as it is handed on
pub cut_as_asked : (given form : TableForm) (cut : Bool) (files : List (List ℕ)) (trees : List Tree) (from to : ℕ) (before after : Option (List ℕ))
    (fault : DumpFault) → given ≡ form → cut ≡ is_dump_cut fault → IsStopped before after (timeline_text given files trees from to) fault →
    IsTimelineCut cut (timeline_text form files trees from to) before after
cut_as_asked given form cut files trees from to before after fault is same h =
    (fault, same, subst (λ (f : TableForm). IsStopped before after (timeline_text f files trees from to) fault) is h)

-- the status of what was settled
pub settled_small : {A E : Type 0} (is_cut : E → Bool) (shut : Bool) (r : Result A E) (status : ℕ) (told told_after : Option (List ℕ))
    (failed now_failed : Option ℕ) → Settles is_cut shut r status told told_after failed now_failed → status ≤ 1
settled_small is_cut shut (Ok a) status told told_after failed now_failed s = let nil = s.0 in omega (arith, nil)
settled_small is_cut shut (Err e) status told told_after failed now_failed s = let one = s.0 in omega (arith, one)

-- what a status says of a request
module _ (request : Request) (is_dirty closed : Bool) (unread before after told told_after : Option (List ℕ)) (failed now_failed : Option ℕ)
    (from to : ℕ) (form : TimelineForm) where
  pub all_told : (asked texts : List (List ℕ)) (status : ℕ) → asked ≡ texts → status ≤ 1
      → (status ≡ 0 → TellsTimes is_dirty asked from to form before after told told_after failed)
      → (status ≡ 1 → TimesFail is_dirty asked from to form closed before after told told_after failed now_failed)
      → (TellsTimes is_dirty texts from to form before after told told_after failed →
      Serves request unread unread before after told told_after failed)
      → (TimesFail is_dirty texts from to form closed before after told told_after failed now_failed
      → Fails request closed unread unread before after told told_after failed now_failed)
      → Outcome request status closed unread unread before after told told_after failed now_failed
  all_told asked texts zero is small tells stops serves fails =
      serves (subst (λ (ts : List (List ℕ)). TellsTimes is_dirty ts from to form before after told told_after failed) is (tells refl))
  all_told asked texts (suc zero) is small tells stops serves fails =
      fails (subst (λ (ts : List (List ℕ)). TimesFail is_dirty ts from to form closed before after told told_after failed now_failed) is (stops refl))
  all_told asked texts (suc (suc n)) is small tells stops serves fails = absurd (omega (arith, small))
