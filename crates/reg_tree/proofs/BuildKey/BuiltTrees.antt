-- A key built: made at its parent's time, and dressed and described; as a tree that has one record more.
use Rattle.std.proofs.Common.{◌≡◌, ◌≢◌, ℕ, Bool, true, false, cond, Some, None, is_some, List, [], ◌∷◌, refl, sym, ap, ◌∙◌}
use Rattle.std.specs.Ordering.{eq_by_cmp}
use Rattle.std.specs.FinMap.{get, insert, get-insert}
use Rattle.reg_heap.specs.Paths.{Path, Tree, Rec, path_cmp}
use Rattle.reg_heap.specs.Edits.{edited, at_time, made_key, child_path, descriptor_of, with_descriptor, with_key, with_keys}
use Rattle.reg_heap.proofs.ChildrenOfPath.{path-is}
use Rattle.reg_shape.proofs.Refinement.SpeltTrees.{path_total}
use Rattle.reg_tree.specs.Internal.KeyBuilding.{marked}
use Rattle.reg_tree.proofs.InsertKey.LastDescribed.{insert-twice}
use Rattle.reg_tree.proofs.InsertKey.PathGrowth.{path-self}
use Rattle.reg_tree.proofs.InsertKey.SpareCellsCarved.{insert-same}
use Rattle.reg_tree.proofs.ValueChange.TreeAfterValueChange.{edited-at}

-- what is at a path that a record was put at, and elsewhere
pub get-here : (t : Tree) (p : Path) (r : Rec) → get (insert t p r) p ≡ Some r
get-here t p r = get-insert path_total t p r p ∙ ap (λ b. cond b (Some r) (get t p)) (path-self p)

pub get-other : (t : Tree) (p q : Path) (r : Rec) → q ≢ p → get (insert t p r) q ≡ get t q
get-other t p q r apart = get-insert path_total t p r q ∙ by (eq_by_cmp path_cmp q p) refl
  where
    by : (e : Bool) → eq_by_cmp path_cmp q p ≡ e → cond e (Some r) (get t q) ≡ get t q
    by true e = absurd (apart (path-is q p e))
    by false e = refl

module _ (t : Tree) (p : Path) (name : List ℕ) (time : ℕ) (r : Rec) (there : get t p ≡ Some r) (its : r.time ≡ time) (free : get t (child_path p name) ≡ None) where
  abbrev c : Path
  c = child_path p name

  abbrev pub made : Rec
  made = made_key name (descriptor_of (get t p)) time

  -- a key made at its parent's time changes nothing of the parent
  above-same : edited t p (at_time time) ≡ t
  above-same =
      edited-at t p r (at_time time) there
      ∙ (ap (insert t p) (ap (λ time. record r { time = time }) (sym its))
      ∙ insert-same t p r there)

  made-is : with_keys t p (name ∷ []) None time ≡ insert t c made
  made-is =
      ap (λ b. cond b t (with_key t p name None time)) (ap is_some free)
      ∙ ap (λ (t : Tree). insert t c made) above-same

  pub made-there : get (with_keys t p (name ∷ []) None time) c ≡ Some made
  made-there = ap (λ (t : Tree). get t c) made-is ∙ get-here t c made

  -- when it got its marks and its class, its descriptor and its time, the tree has that key more
  module _ (marks : ℕ) (class descriptor : List ℕ) (moment : ℕ) where
    abbrev dressed : Rec
    dressed = marked marks class made

    pub built-is : edited (edited (with_keys t p (name ∷ []) None time) c (marked marks class)) c (with_descriptor descriptor moment) ≡
        insert t c (with_descriptor descriptor moment dressed)
    built-is =
        ap (λ (t : Tree). edited (edited t c (marked marks class)) c (with_descriptor descriptor moment)) made-is
        ∙ (ap (λ (t : Tree). edited t c (with_descriptor descriptor moment))
        (edited-at (insert t c made) c made (marked marks class) (get-here t c made) ∙ insert-twice t c made dressed)
        ∙ (edited-at (insert t c dressed) c dressed (with_descriptor descriptor moment) (get-here t c dressed)
        ∙ insert-twice t c dressed (with_descriptor descriptor moment dressed)))
