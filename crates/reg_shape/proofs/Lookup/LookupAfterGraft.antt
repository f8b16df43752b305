-- Where each key stands, where a key and all below it gave way to others.
use Rattle.std.proofs.Common.{◌≡◌, ℕ, Bool, true, false, cond, ◌&&◌, Option, Some, None, List, [], ◌∷◌, ◌++◌, refl, sym, ap, ◌∙◌, subst}
use Rattle.std.specs.Option.{option_map}
use Rattle.reg_names.specs.Names.{folded}
use Rattle.reg_heap.specs.Paths.{Path}
use Rattle.reg_heap.specs.Heaps.{Heap}
use Rattle.reg_shape.specs.Internal.Forests.{Branch}
use Rattle.reg_shape.specs.Nodes.{Node}
use Rattle.reg_shape.specs.Spelt.{name_of}
use Rattle.reg_shape.specs.Internal.Shapes.{StandsIn}
use Rattle.reg_shape.specs.Internal.Exchanges.{found_in, found_at}
use Rattle.reg_shape.specs.Internal.Grafts.{IsShape, branch_at, graft_at, hang, unhang, IsLeafAt, IsGrafted}
use Rattle.reg_shape.specs.PathLookup.{key_offset_at}
use Rattle.reg_shape.proofs.Refinement.RefinementAfterEdit.{same_name, same_path, same-cons, name-is}
use Rattle.reg_shape.proofs.Graft.Branches.{its_key, branch-found, branch-stands}
use Rattle.reg_shape.proofs.Graft.WholeAfterGraft.{grafted-stands, graft-offset}
use Rattle.reg_shape.proofs.Refinement.RefinementAtPath.{Apart, apart-stands}
use Rattle.reg_shape.proofs.Graft.GraftPaths.{rest_of, same_rest, same-rest, by_rest, grafted_branch, found-graft, found-rest}
use Rattle.reg_shape.proofs.Graft.ForestInsert.{its_leaf, none-deeper, found-hang, found-unhang, leaf-deeper}
use Rattle.reg_shape.proofs.Lookup.LookupOfShape.{placed}
use Rattle.reg_shape.proofs.Refinement.RefinementAfterGraft.{grafted-name}

-- the offset of a key that was found
abbrev its_offset : Option (ℕ × Node) → Option ℕ
its_offset o = option_map (λ (z : ℕ × Node). z.0) o

-- the key at the end of a path is the one found in the shape
pub offset-found : (h : Heap) (root : ℕ) (keys : Branch Node) → keys.offset ≡ root → StandsIn h root keys → (q : Path) → key_offset_at h root q ≡ its_offset (found_at q keys)
offset-found h root keys e a q =
    subst (λ r. key_offset_at h r q ≡ option_map (λ (b : Branch Node). b.offset) (branch_at q keys)) e (placed h root keys q a)
    ∙ (by (branch_at q keys)
    ∙ ap its_offset (sym (branch-found q keys)))
  where
    by : (o : Option (Branch Node)) → option_map (λ (b : Branch Node). b.offset) o ≡ its_offset (option_map its_key o)
    by None = refl
    by (Some b) = refl

module _ (h k : Heap) (root : ℕ) (p : Path) (keys was is : Branch Node) (ring spare after left : List ℕ) (e : branch_at p keys ≡ Some was)
    (g : IsGrafted h k root was is ring spare after left) (w : IsShape h root keys ring spare) where
  abbrev new_keys : Branch Node
  new_keys = graft_at p is.node is.below keys

  abbrev name : name_of is.node.key ≡ name_of was.node.key
  name = grafted-name h k root p keys was is ring spare after left e g w

  abbrev came : Branch Node
  came = grafted_branch was is.node is.below name

  map-rest : (go : Path → Option (ℕ × Node)) (other : Option (ℕ × Node)) (r : Option Path) → its_offset (by_rest go other r) ≡ by_rest (λ r. its_offset (go r)) (its_offset other) r
  map-rest go other None = refl
  map-rest go other (Some r) = refl

  placed-graft : (q : Path) → key_offset_at k root q ≡ by_rest (λ r. its_offset (found_at r came)) (key_offset_at h root q) (rest_of p q)
  placed-graft q =
      offset-found k root new_keys (graft-offset is.node is.below p keys ∙ w.offset) (grafted-stands h k root p keys was is ring spare after left e g w) q
      ∙ (ap its_offset (found-graft was is.node is.below name p keys e q)
      ∙ (map-rest (λ r. found_at r came) (found_at q keys) (rest_of p q)
      ∙ ap (λ o. by_rest (λ r. its_offset (found_at r came)) o (rest_of p q)) (sym (offset-found h root keys w.offset w.stands q))))

  placed-before : (q r : Path) → rest_of p q ≡ Some r → key_offset_at h root q ≡ its_offset (found_at r was)
  placed-before q r f = offset-found h root keys w.offset w.stands q ∙ ap its_offset (found-rest was p keys e q r f)

  -- the keys below are the same: each stays where it stands
  pub offsets-same : is.below ≡ was.below → (q : Path) → key_offset_at k root q ≡ key_offset_at h root q
  offsets-same below q = placed-graft q ∙ by (rest_of p q) refl
    where
      at : (r : Path) → rest_of p q ≡ Some r → its_offset (found_at r came) ≡ key_offset_at h root q
      at [] f = sym (placed-before q [] f)
      at (x ∷ r) f = ap (λ F. its_offset (found_in (x ∷ r) F)) below ∙ sym (placed-before q (x ∷ r) f)

      by : (o : Option Path) → rest_of p q ≡ o → by_rest (λ r. its_offset (found_at r came)) (key_offset_at h root q) o ≡ key_offset_at h root q
      by None f = refl
      by (Some r) f = at r f

  module _ (i o : ℕ) (n : Node) (x : List ℕ) (called : folded (name_of n.key) ≡ x) where
    -- a key more: it stands at its offset, and each other where it stood
    pub offsets-hung : is.below ≡ hang i o n was.below → branch_at (x ∷ []) was ≡ None → (q : Path) → key_offset_at k root q ≡ cond (same_path q (p ++ x ∷ [])) (Some o) (key_offset_at h root q)
    offsets-hung below free q = placed-graft q ∙ (by (rest_of p q) refl ∙ ap (λ t. cond t (Some o) (key_offset_at h root q)) (sym (same-rest p q (x ∷ []))))
      where
        none : found_in (x ∷ []) was.below ≡ None
        none = branch-found (x ∷ []) was ∙ ap (option_map its_key) free

        finds : (y : List ℕ) (r : Path) → found_in (y ∷ r) is.below ≡ cond (same_name y x) (found_at r (its_leaf o n)) (found_in (y ∷ r) was.below)
        finds y r =
            ap (found_in (y ∷ r)) below
            ∙ (found-hang i o n was.below (ap (λ x. found_in (x ∷ []) was.below) called ∙ none) y r
            ∙ ap (λ t. cond t (found_at r (its_leaf o n)) (found_in (y ∷ r) was.below)) (ap (same_name y) called))

        one : (t : Bool) (y : List ℕ) → its_offset (cond t (Some (o, n)) (found_in (y ∷ []) was.below)) ≡ cond (t && true) (Some o) (its_offset (found_in (y ∷ []) was.below))
        one true y = refl
        one false y = refl

        more : (y z : List ℕ) (r : Path) (t : Bool) → same_name y x ≡ t →
            its_offset (cond t None (found_in (y ∷ z ∷ r) was.below)) ≡ cond (t && false) (Some o) (its_offset (found_in (y ∷ z ∷ r) was.below))
        more y z r true t = sym (ap its_offset (ap (λ y. found_in (y ∷ z ∷ r) was.below) (name-is y x t) ∙ none-deeper x (z ∷ r) was.below none))
        more y z r false t = refl

        at : (r : Path) → rest_of p q ≡ Some r → its_offset (found_at r came) ≡ cond (same_path r (x ∷ [])) (Some o) (key_offset_at h root q)
        at [] f = sym (placed-before q [] f)
        at (y ∷ []) f =
            ap its_offset (finds y [])
            ∙ (one (same_name y x) y
            ∙ (ap (λ t. cond t (Some o) (its_offset (found_in (y ∷ []) was.below))) (sym (same-cons y x [] []))
            ∙ ap (cond (same_path (y ∷ []) (x ∷ [])) (Some o)) (sym (placed-before q (y ∷ []) f))))
        at (y ∷ z ∷ r) f =
            ap its_offset (finds y (z ∷ r))
            ∙ (more y z r (same_name y x) refl
            ∙ (ap (λ t. cond t (Some o) (its_offset (found_in (y ∷ z ∷ r) was.below))) (sym (same-cons y x (z ∷ r) []))
            ∙ ap (cond (same_path (y ∷ z ∷ r) (x ∷ [])) (Some o)) (sym (placed-before q (y ∷ z ∷ r) f))))

        by : (s : Option Path) → rest_of p q ≡ s → by_rest (λ r. its_offset (found_at r came)) (key_offset_at h root q) s ≡ cond (same_rest s (x ∷ [])) (Some o) (key_offset_at h root q)
        by None f = refl
        by (Some r) f = at r f

    -- a key less: it stands nowhere, and each other where it stood
    pub offsets-unhung : is.below ≡ unhang i was.below → IsLeafAt i o n was.below → (q : Path) → key_offset_at k root q ≡ cond (same_path q (p ++ x ∷ [])) None (key_offset_at h root q)
    offsets-unhung below leaf q = placed-graft q ∙ (by (rest_of p q) refl ∙ ap (λ t. cond t None (key_offset_at h root q)) (sym (same-rest p q (x ∷ []))))
      where
        apart : Apart was.below
        apart = apart-stands h root was (branch-stands h root was p keys e w.stands)

        finds : (y : List ℕ) (r : Path) → found_in (y ∷ r) is.below ≡ cond (same_name y x) None (found_in (y ∷ r) was.below)
        finds y r =
            ap (found_in (y ∷ r)) below
            ∙ (found-unhang i o n was.below apart leaf y r
            ∙ ap (λ t. cond t None (found_in (y ∷ r) was.below)) (ap (same_name y) called))

        one : (t : Bool) (y : List ℕ) → its_offset (cond t None (found_in (y ∷ []) was.below)) ≡ cond (t && true) None (its_offset (found_in (y ∷ []) was.below))
        one true y = refl
        one false y = refl

        more : (y z : List ℕ) (r : Path) (t : Bool) → same_name y x ≡ t →
            its_offset (cond t None (found_in (y ∷ z ∷ r) was.below)) ≡ cond (t && false) None (its_offset (found_in (y ∷ z ∷ r) was.below))
        more y z r true t = sym (ap its_offset (leaf-deeper i o n was.below apart leaf y z r (ap (same_name y) called ∙ t)))
        more y z r false t = refl

        at : (r : Path) → rest_of p q ≡ Some r → its_offset (found_at r came) ≡ cond (same_path r (x ∷ [])) None (key_offset_at h root q)
        at [] f = sym (placed-before q [] f)
        at (y ∷ []) f =
            ap its_offset (finds y [])
            ∙ (one (same_name y x) y
            ∙ (ap (λ t. cond t None (its_offset (found_in (y ∷ []) was.below))) (sym (same-cons y x [] []))
            ∙ ap (cond (same_path (y ∷ []) (x ∷ [])) None) (sym (placed-before q (y ∷ []) f))))
        at (y ∷ z ∷ r) f =
            ap its_offset (finds y (z ∷ r))
            ∙ (more y z r (same_name y x) refl
            ∙ (ap (λ t. cond t None (its_offset (found_in (y ∷ z ∷ r) was.below))) (sym (same-cons y x (z ∷ r) []))
            ∙ ap (cond (same_path (y ∷ z ∷ r) (x ∷ [])) None) (sym (placed-before q (y ∷ z ∷ r) f))))

        by : (s : Option Path) → rest_of p q ≡ s → by_rest (λ r. its_offset (found_at r came)) (key_offset_at h root q) s ≡ cond (same_rest s (x ∷ [])) None (key_offset_at h root q)
        by None f = refl
        by (Some r) f = at r f
