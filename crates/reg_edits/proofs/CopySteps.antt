-- What a copy did, put together of what was read of the first file and what was made of the second.
use Rattle.std.proofs.Common.{List, ℕ}
use Rattle.std.specs.Prelude.{Option, Result, Ok, Err, IfOk, IfErr, MatchResult}
use Rattle.reg_text.specs.Failures.{Stays}
use Rattle.reg_heap.specs.Paths.{Tree}
use Rattle.reg_tree_image.specs.Loads.{ReadsImage}
use Rattle.reg_edits.specs.KeyCopies.{CopiesFrom, Copies, CopyFromEnds, CopyEnds, CopyFromBlames, CopyBlames}
use Rattle.reg_edits.specs.declared.copying.CopiedTree.{CopiedTree}
use Rattle.reg_edits.specs.declared.copying.CopyEnd.{CopyEnd}
use Rattle.reg_edits.specs.declared.copying.CopyEnd.TheVariants.{Source, Target, Copy}

module _ (unread unread_left file file_left : Option (List ℕ)) (source : Tree) (reads : ReadsImage unread unread_left source)
    (from into : List ℕ) where
  pub copies : (moment : ℕ) (r : Result CopiedTree CopyEnd) → IfOk r (λ copied. CopiesFrom source from into moment copied file file_left) →
      IfOk r (λ copied. Copies from into moment copied unread unread_left file file_left)
  copies moment (Ok copied) h = record { source = source; reads = reads; copies = h }
  copies moment (Err end) h = h

  ends : (end : CopyEnd) → CopyFromEnds end source from into file file_left → CopyEnds end from into unread unread_left file file_left
  ends (Source fault) h = absurd h
  ends (Target fault) h = (source, reads, h)
  ends (Copy fault) h = (source, reads, h)

  pub ended : (r : Result CopiedTree CopyEnd) → IfErr r (λ end. CopyFromEnds end source from into file file_left) →
      IfErr r (λ end. CopyEnds end from into unread unread_left file file_left)
  ended (Ok copied) h = h
  ended (Err end) h = ends end h

-- of the first file no read failed
module _ (before after file_before file_after : Option ℕ) (unfailed : Stays before after) where
  blames : (end : CopyEnd) → CopyFromBlames end file_before file_after → CopyBlames end before after file_before file_after
  blames (Source fault) h = absurd h
  blames (Target fault) h = (unfailed, h)
  blames (Copy fault) h = (unfailed, h)

  pub blamed : (r : Result CopiedTree CopyEnd) →
      MatchResult r (λ _. Stays file_before file_after) (λ end. CopyFromBlames end file_before file_after) →
      MatchResult r (λ _. Stays before after × Stays file_before file_after)
      (λ end. CopyBlames end before after file_before file_after)
  blamed (Ok copied) h = (unfailed, h)
  blamed (Err end) h = blames end h
