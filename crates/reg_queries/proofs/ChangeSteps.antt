-- The changes from one image to another, put together of what was read of the old one and what was written of the new one.
use Rattle.std.proofs.Common.{List, ℕ, Bool}
use Rattle.std.specs.Prelude.{Option, Result, Ok, Err, IfOk, IfErr, MatchResult}
use Rattle.reg_text.specs.Failures.{Stays}
use Rattle.reg_heap.specs.Paths.{Tree}
use Rattle.reg_heap.specs.Trees.{IsTree, IsWithinLimits}
use Rattle.reg_tree_image.specs.Loads.{ReadsImage}
use Rattle.reg_queries.specs.Blames.{NoneFailed}
use Rattle.reg_queries.specs.ImageChanges.{ExportsChanges, ExportsChangesFrom, ChangesStop, ChangesFromStop, ChangesBlame, ChangesFromBlame}
use Rattle.reg_queries.specs.declared.fault.ChangesEnd.{ChangesEnd}
use Rattle.reg_queries.specs.declared.fault.ChangesEnd.TheVariants.{Old, New, Export}

module _ (unread_old left_old unread_new left_new : Option (List ℕ)) (old : Tree) (reads : ReadsImage unread_old left_old old)
    (is_utf8 : Bool) (before after : Option (List ℕ)) where
  pub exports : IsTree old → IsWithinLimits old → {E : Type 0} (r : Result Bool E) →
      IfOk r (λ is_none. ExportsChangesFrom old unread_new left_new is_utf8 is_none before after) →
      IfOk r (λ is_none. ExportsChanges unread_old left_old unread_new left_new is_utf8 is_none before after)
  exports is limits (Ok is_none) h = record { old = old; reads = reads; is_tree = is; limits = limits; new = h }
  exports is limits (Err e) h = h

  stops : (fault : ChangesEnd) → ChangesFromStop fault old unread_new left_new is_utf8 before after →
      ChangesStop fault unread_old left_old unread_new left_new is_utf8 before after
  stops (Old fault) h = absurd h
  stops (New fault) h = (old, reads, h)
  stops (Export fault) h = (old, reads, h)

  pub stopped : {T : Type 0} (r : Result T ChangesEnd) → IfErr r (λ fault. ChangesFromStop fault old unread_new left_new is_utf8 before after) →
      IfErr r (λ fault. ChangesStop fault unread_old left_old unread_new left_new is_utf8 before after)
  stopped (Ok v) h = h
  stopped (Err fault) h = stops fault h

-- the old image was read, and of its reader no call failed
module _ (read now_read new now_new written now_written : Option ℕ) (unfailed : Stays read now_read) where
  blames : (fault : ChangesEnd) → ChangesFromBlame fault new now_new written now_written → ChangesBlame fault read now_read new now_new written now_written
  blames (Old fault) h = absurd h
  blames (New fault) h = (unfailed, h.0, h.1)
  blames (Export fault) h = (unfailed, h.0, h.1)

  pub blamed : {T : Type 0} (r : Result T ChangesEnd) →
      MatchResult r (λ _. NoneFailed new now_new written now_written) (λ fault. ChangesFromBlame fault new now_new written now_written) →
      MatchResult r (λ _. Stays read now_read × NoneFailed new now_new written now_written)
      (λ fault. ChangesBlame fault read now_read new now_new written now_written)
  blamed (Ok v) h = (unfailed, h)
  blamed (Err fault) h = blames fault h
