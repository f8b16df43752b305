-- How two images differ (this project's own).
use Rattle.std.specs.Prelude.{◌≡◌, ℕ, Bool, List, Option}
use Rattle.reg_heap.specs.Paths.{Tree}
use Rattle.reg_diff.specs.Alike.{IsCompared, CompareStops}
use Rattle.reg_diff.specs.declared.fault.BranchFault.TheVariants as branch
use Rattle.reg_diff.specs.declared.ignored.Ignored.{Ignored}
use Rattle.reg_tree_image.specs.Loads.{ReadsImage, MeetsFault}
use Rattle.reg_queries.specs.declared.fault.DiffFault.{DiffFault}
use Rattle.reg_queries.specs.declared.fault.DiffFault.TheVariants.{Old, New, NoOldKey, NoNewKey, Stopped}

-- an image was read; how its tree differs from an old one at a path and below it was written, and it was answered whether they are the same
-- there, but for what is ignored
pub record DiffersFrom (old : Tree) (path : List ℕ) (ignored : Ignored) (unread left : Option (List ℕ)) (is_same : Bool)
    (before after : Option (List ℕ)) : Type 0 where
  pub tree : Tree
  pub reads : ReadsImage unread left tree
  pub compared : IsCompared ignored old tree path is_same before after

-- two images were read, an old one and a new one, and how their trees differ at a path and below it was written
pub record Differs (path : List ℕ) (ignored : Ignored) (unread_old left_old unread_new left_new : Option (List ℕ)) (is_same : Bool)
    (before after : Option (List ℕ)) : Type 0 where
  pub old : Tree
  pub reads : ReadsImage unread_old left_old old
  pub differs : DiffersFrom old path ignored unread_new left_new is_same before after

-- why it wasn't written how an image's tree differs from an old one, or not to the end: the image doesn't load, and nothing was written; or
-- one of the trees has no key at the path, and nothing was written either; or a write or memory failed
abbrev pub DiffFromStops : DiffFault → Tree → (path : List ℕ) → Ignored → (unread left before after : Option (List ℕ)) → Type 0
DiffFromStops (Old fault) old path ignored unread left before after = ⊥
DiffFromStops (New fault) old path ignored unread left before after = MeetsFault fault unread left × (after ≡ before)
DiffFromStops NoOldKey old path ignored unread left before after =
    (tree : Tree) × ReadsImage unread left tree × CompareStops branch.NoOldKey ignored old tree path before after
DiffFromStops NoNewKey old path ignored unread left before after =
    (tree : Tree) × ReadsImage unread left tree × CompareStops branch.NoNewKey ignored old tree path before after
DiffFromStops (Stopped fault) old path ignored unread left before after =
    (tree : Tree) × ReadsImage unread left tree × CompareStops (branch.Stopped fault) ignored old tree path before after

-- why two images weren't compared, or not to the end: the old one doesn't load, and nothing of the new one was read, and nothing written; or it does, and the new one
-- or what both have at the path stops it
abbrev pub DiffStops : DiffFault → (path : List ℕ) → Ignored → (unread_old left_old unread_new left_new before after : Option (List ℕ)) → Type 0
DiffStops (Old fault) path ignored unread_old left_old unread_new left_new before after =
    MeetsFault fault unread_old left_old × (left_new ≡ unread_new) × (after ≡ before)
DiffStops fault path ignored unread_old left_old unread_new left_new before after =
    (old : Tree) × ReadsImage unread_old left_old old × DiffFromStops fault old path ignored unread_new left_new before after
