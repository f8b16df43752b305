-- A file's keys gathered, or not.
use Rattle.std.proofs.Common.{◌≡◌, Bool, List, ℕ, false, refl, subst}
use Rattle.std.specs.Prelude.{Option, Result, Ok, Err, OnOk, OnErr}
use Rattle.reg_heap.specs.Paths.{Tree}
use Rattle.reg_tree_image.specs.Loads.{ReadsImage}
use Rattle.reg_files.specs.Gathering.{IsUngathered, ReadsFile}
use Rattle.reg_files.specs.Looking.{as_read, IsOpened, IsReported, OfImage}

-- a tree was read, and its keys gathered
pub gathered_in : {A E : Type 0} (unread left : Option (List ℕ)) (tree : Tree) → ReadsImage unread left tree → (P : Tree → Type 0) (r : Result A E) →
    OnOk r (P tree) → OnOk r ((t : Tree) × ReadsImage unread left t × P t)
gathered_in unread left tree reads P (Ok a) h = (tree, reads, h)
gathered_in unread left tree reads P (Err e) h = tt

pub missed_in : {A E : Type 0} (P : Type 0) (r : Result A E) → P → OnErr r P
missed_in P (Ok a) h = tt
missed_in P (Err e) h = h

module _ (is_dirty : Bool) (file : List ℕ) (told : Option (List ℕ)) (failed : Option ℕ) where
  -- a file was opened, and read as a tree
  pub opened_file : (left bytes warned : Option (List ℕ)) (warned_failed : Option ℕ) → IsOpened is_dirty file bytes told warned failed warned_failed →
      (image : Option (List ℕ)) → image ≡ as_read is_dirty bytes → (tree : Tree) → ReadsImage image left tree →
      ReadsFile is_dirty file tree told warned failed warned_failed
  opened_file left bytes warned warned_failed opened image is tree reads =
      (bytes, left, warned, warned_failed, opened, (subst (λ u. ReadsImage u left tree) is reads, refl, refl))

  -- it was, and isn't read as one
  pub unread_file : (told_after : Option (List ℕ)) (now_failed : Option ℕ) (bytes warned : Option (List ℕ)) (warned_failed : Option ℕ) →
      IsOpened is_dirty file bytes told warned failed warned_failed → (image : Option (List ℕ)) → image ≡ as_read is_dirty bytes →
      IsUngathered image → IsReported false warned told_after warned_failed now_failed →
      OfImage is_dirty file told failed
      (λ unread left warned warned_failed. IsUngathered unread × IsReported false warned told_after warned_failed now_failed)
  unread_file told_after now_failed bytes warned warned_failed opened image is h reports =
      (bytes, bytes, warned, warned_failed, opened, (subst IsUngathered is h, reports))

  -- it wasn't opened
  pub unopened_file : (told_then told_after : Option (List ℕ)) (failed_then now_failed : Option ℕ) → told_then ≡ told → failed_then ≡ failed →
      IsReported false told_then told_after failed_then now_failed → IsReported false told told_after failed now_failed
  unopened_file told_then told_after failed_then now_failed same same_failed h =
      subst (λ t. IsReported false t told_after failed now_failed) same
      (subst (λ f. IsReported false told_then told_after f now_failed) same_failed h)
