-- What a key copied from one file's hive to another's makes of the other (this project's own).
use Rattle.std.specs.Prelude.{◌≡◌, ℕ, List, Option}
use Rattle.reg_text.specs.Failures.{Stays}
use Rattle.reg_heap.specs.Paths.{Tree}
use Rattle.reg_tree_image.specs.Loads.{ReadsImage, ReadsNumbered, MeetsFault, IsBlamed}
use Rattle.reg_copy.specs.Copies.{IsCopied, CopyStops}
use Rattle.reg_edits.specs.Edits.{next_sequence}
use Rattle.reg_edits.specs.declared.copying.CopiedTree.{CopiedTree}
use Rattle.reg_edits.specs.declared.copying.CopyEnd.{CopyEnd}
use Rattle.reg_edits.specs.declared.copying.CopyEnd.TheVariants.{Source, Target, Copy}

-- of a file an image was read, and in its tree stands a copy of a key of another tree; it is to be saved with that moment, and the sequence
-- number after its image's
pub record CopiesFrom (source : Tree) (from into : List ℕ) (moment : ℕ) (copied : CopiedTree) (file file_left : Option (List ℕ)) : Type 0 where
  pub old : Tree
  pub sequence : ℕ
  pub reads : ReadsNumbered file file_left old sequence
  pub is_copied : IsCopied source from old into moment copied.tree.tree
  pub saved_at : copied.moment ≡ moment
  pub next : copied.sequence ≡ next_sequence sequence

-- of two files images were read, and in the tree of the second stands a copy of a key of the first one's
pub record Copies (from into : List ℕ) (moment : ℕ) (copied : CopiedTree) (unread unread_left file file_left : Option (List ℕ)) : Type 0 where
  pub source : Tree
  pub reads : ReadsImage unread unread_left source
  pub copies : CopiesFrom source from into moment copied file file_left

-- what ended a copy of a key of a tree: the image doesn't load; or why the key wasn't copied
abbrev pub CopyFromEnds : CopyEnd → (source : Tree) → (from into : List ℕ) → (file file_left : Option (List ℕ)) → Type 0
CopyFromEnds (Source fault) source from into file file_left = ⊥
CopyFromEnds (Target fault) source from into file file_left = MeetsFault fault file file_left
CopyFromEnds (Copy fault) source from into file file_left =
    (old : Tree) × (sequence : ℕ) × ReadsNumbered file file_left old sequence × CopyStops fault source from old into

-- so of two files: the first image doesn't load, and nothing was read of the second file; or it does, and the second stops it
abbrev pub CopyEnds : CopyEnd → (from into : List ℕ) → (unread unread_left file file_left : Option (List ℕ)) → Type 0
CopyEnds (Source fault) from into unread unread_left file file_left = MeetsFault fault unread unread_left × (file_left ≡ file)
CopyEnds end from into unread unread_left file file_left =
    (source : Tree) × ReadsImage unread unread_left source × CopyFromEnds end source from into file file_left

-- a read of the file failed where its load tells just this, and none else
abbrev pub CopyFromBlames : CopyEnd → (before after : Option ℕ) → Type 0
CopyFromBlames (Source fault) before after = ⊥
CopyFromBlames (Target fault) before after = IsBlamed fault before after
CopyFromBlames (Copy fault) before after = Stays before after

-- so of two files
abbrev pub CopyBlames : CopyEnd → (before after file_before file_after : Option ℕ) → Type 0
CopyBlames (Source fault) before after file_before file_after = IsBlamed fault before after × Stays file_before file_after
CopyBlames end before after file_before file_after = Stays before after × CopyFromBlames end file_before file_after
