-- How two images differ, put together of what was read of the old one and what was written of the new one.
use Rattle.std.proofs.Common.{List, ℕ, Bool}
use Rattle.std.specs.Prelude.{Option, Result, Ok, Err, IfOk, IfErr, MatchResult}
use Rattle.reg_text.specs.Failures.{Stays}
use Rattle.reg_heap.specs.Paths.{Tree}
use Rattle.reg_diff.specs.declared.ignored.Ignored.{Ignored}
use Rattle.reg_tree_image.specs.Loads.{ReadsImage}
use Rattle.reg_queries.specs.Blames.{NoneFailed, DiffFromBlames, DiffBlames}
use Rattle.reg_queries.specs.Differs.{Differs, DiffersFrom, DiffStops, DiffFromStops}
use Rattle.reg_queries.specs.declared.fault.DiffFault.{DiffFault}
use Rattle.reg_queries.specs.declared.fault.DiffFault.TheVariants.{Old, New, NoOldKey, NoNewKey, Stopped}

module _ (path : List ℕ) (ignored : Ignored) (unread_old left_old unread_new left_new : Option (List ℕ)) (old : Tree)
    (reads : ReadsImage unread_old left_old old) (before after : Option (List ℕ)) where
  pub differ : {E : Type 0} (r : Result Bool E) → IfOk r (λ is_same. DiffersFrom old path ignored unread_new left_new is_same before after) →
      IfOk r (λ is_same. Differs path ignored unread_old left_old unread_new left_new is_same before after)
  differ (Ok is_same) h = record { old = old; reads = reads; differs = h }
  differ (Err e) h = h

  stops : (fault : DiffFault) → DiffFromStops fault old path ignored unread_new left_new before after →
      DiffStops fault path ignored unread_old left_old unread_new left_new before after
  stops (Old fault) h = absurd h
  stops (New fault) h = (old, reads, h)
  stops NoOldKey h = (old, reads, h)
  stops NoNewKey h = (old, reads, h)
  stops (Stopped fault) h = (old, reads, h)

  pub stopped : {T : Type 0} (r : Result T DiffFault) → IfErr r (λ fault. DiffFromStops fault old path ignored unread_new left_new before after) →
      IfErr r (λ fault. DiffStops fault path ignored unread_old left_old unread_new left_new before after)
  stopped (Ok v) h = h
  stopped (Err fault) h = stops fault h

-- the old image was read, and of its reader no call failed
module _ (read now_read new now_new written now_written : Option ℕ) (unfailed : Stays read now_read) where
  blames : (fault : DiffFault) → DiffFromBlames fault new now_new written now_written → DiffBlames fault read now_read new now_new written now_written
  blames (Old fault) h = absurd h
  blames (New fault) h = (unfailed, h.0, h.1)
  blames NoOldKey h = (unfailed, h)
  blames NoNewKey h = (unfailed, h)
  blames (Stopped fault) h = (unfailed, h.0, h.1)

  pub blamed : {T : Type 0} (r : Result T DiffFault) →
      MatchResult r (λ _. NoneFailed new now_new written now_written) (λ fault. DiffFromBlames fault new now_new written now_written) →
      MatchResult r (λ _. Stays read now_read × NoneFailed new now_new written now_written)
      (λ fault. DiffBlames fault read now_read new now_new written now_written)
  blamed (Ok v) h = (unfailed, h)
  blamed (Err fault) h = blames fault h
