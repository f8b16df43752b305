-- The tree where a key and all below it gave way to others: another record at the path, a key more, or a key less.
use Rattle.std.proofs.Common.{◌≡◌, ℕ, ◌<◌, Bool, true, false, cond, ◌&&◌, Option, Some, None, List, [], ◌∷◌, ◌++◌, refl, sym, ap, ◌∙◌, subst, arith}
use Rattle.std.specs.Prelude.{unwrap_or}
use Rattle.std.specs.Option.{option_map}
use Rattle.std.specs.FinMap.{get, insert, remove, get-insert, get-remove, same_map}
use Rattle.std.proofs.lemmas.List.{append-nil}
use Rattle.std.proofs.lemmas.Option.{none-some, same_Some}
use Rattle.reg_names.specs.Names.{folded}
use Rattle.reg_heap.specs.Paths.{Path, Rec, Tree}
use Rattle.reg_heap.specs.Heaps.{Heap}
use Rattle.reg_shape.specs.Internal.Forests.{Branch, total_of}
use Rattle.reg_shape.specs.Nodes.{Node}
use Rattle.reg_shape.specs.Spelt.{name_of, rec_of}
use Rattle.reg_shape.specs.Internal.Shapes.{shares, StandsIn, descriptor_in, tree_of}
use Rattle.reg_shape.specs.Internal.Exchanges.{is_named, found_in, found_at}
use Rattle.reg_shape.specs.Internal.Grafts.{IsShape, branch_at, graft_at, hang, unhang, IsLeafAt, IsGrafted}
use Rattle.reg_shape.proofs.Wholeness.ShapeRecords.{shares-own}
use Rattle.reg_shape.proofs.Refinement.SpeltTrees.{path_total, path_same}
use Rattle.reg_shape.proofs.Refinement.RefinementAfterEdit.{same_name, same_path, same-cons, name-is}
use Rattle.reg_shape.proofs.Graft.Branches.{its_key, branch-stands, branch-total, branch-found}
use Rattle.reg_shape.proofs.Graft.WholeAfterGraft.{grafted-stands, grafted-ringed}
use Rattle.reg_shape.proofs.Refinement.RefinementAtPath.{name-written, Apart, apart-stands, tells, told-found}
use Rattle.reg_shape.proofs.Graft.GraftPaths.{rest_of, same_rest, same-rest, by_rest, grafted_branch, found-graft, found-rest}
use Rattle.reg_shape.proofs.Graft.ForestInsert.{its_leaf, none-deeper, found-hang, found-unhang, leaf-deeper}

-- a key that a path finds names its security
pub names-found : (h : Heap) (root : ℕ) (keys : Branch Node) → StandsIn h root keys → (q : Path) (v : ℕ × Node) → found_at q keys ≡ Some v → 0 < total_of (shares v.1.key.fields.security) keys
names-found h root keys a q v e = by (branch_at q keys) refl (sym (branch-found q keys) ∙ e)
  where
    by : (o : Option (Branch Node)) → branch_at q keys ≡ o → option_map its_key o ≡ Some v → 0 < total_of (shares v.1.key.fields.security) keys
    by None f e = absurd (none-some _ e)
    by (Some b) f e =
        let s = branch-stands h root b q keys f a in
        let own = shares-own h root b.offset b.node s.0.reads in
        let all = branch-total (shares b.node.key.fields.security) b q keys f in
        subst (λ (v : ℕ × Node). 0 < total_of (shares v.1.key.fields.security) keys) (same_Some _ _ e) (omega (arith, own, all))

module _ (h k : Heap) (root : ℕ) (p : Path) (keys was is : Branch Node) (ring spare after left : List ℕ) (e : branch_at p keys ≡ Some was)
    (g : IsGrafted h k root was is ring spare after left) (w : IsShape h root keys ring spare) where
  abbrev new_keys : Branch Node
  new_keys = graft_at p is.node is.below keys

  new-stands : StandsIn k root new_keys
  new-stands = grafted-stands h k root p keys was is ring spare after left e g w

  old-stands : StandsIn h root was
  old-stands = branch-stands h root was p keys e w.stands

  -- the key has the name that it had
  pub grafted-name : name_of is.node.key ≡ name_of was.node.key
  grafted-name = name-written k root is.offset is.node g.stands.0.written ∙ (g.alike.name ∙ sym (name-written h root was.offset was.node old-stands.0.written))

  -- a security that is named before and after describes what it did
  described : (z : ℕ) → 0 < total_of (shares z) keys → 0 < total_of (shares z) new_keys → descriptor_in k z ≡ descriptor_in h z
  described z old new =
      ap (λ d. unwrap_or d []) (g.described z ((w.ringed z).0 old) ((grafted-ringed h k root p keys was is ring spare after left e g w z).0 new))

  -- a key that is found before and after is told alike
  same-told : (q : Path) (o : Option (ℕ × Node)) → found_at q keys ≡ o → found_at q new_keys ≡ o → option_map (tells k) o ≡ option_map (tells h) o
  same-told q None a b = refl
  same-told q (Some v) a b =
      ap (λ d. Some (rec_of v.1 d)) (described v.1.key.fields.security (names-found h root keys w.stands q v a) (names-found k root new_keys new-stands q v b))

  abbrev came : Branch Node
  came = grafted_branch was is.node is.below grafted-name

  found-new : (q : Path) → found_at q new_keys ≡ by_rest (λ r. found_at r came) (found_at q keys) (rest_of p q)
  found-new q = found-graft was is.node is.below grafted-name p keys e q

  -- the new tree at a path: as the branch that came has it, or as before
  pub told-graft : (q : Path) → get (tree_of k new_keys) q ≡ by_rest (λ r. option_map (tells k) (found_at r came)) (get (tree_of h keys) q) (rest_of p q)
  told-graft q = told-found k new_keys (apart-stands k root new_keys new-stands) q ∙ (ap (option_map (tells k)) (found-new q) ∙ by (rest_of p q) refl)
    where
      by : (o : Option Path) → rest_of p q ≡ o → option_map (tells k) (by_rest (λ r. found_at r came) (found_at q keys) o) ≡ by_rest
          (λ r. option_map (tells k) (found_at r came)) (get (tree_of h keys) q) o
      by None f =
          same-told q (found_at q keys) refl (found-new q ∙ ap (by_rest (λ r. found_at r came) (found_at q keys)) f)
          ∙ sym (told-found h keys (apart-stands h root keys w.stands) q)
      by (Some r) f = refl

  -- the old tree, where the path goes on below the branch
  told-before : (q r : Path) → rest_of p q ≡ Some r → get (tree_of h keys) q ≡ option_map (tells h) (found_at r was)
  told-before q r f = told-found h keys (apart-stands h root keys w.stands) q ∙ ap (option_map (tells h)) (found-rest was p keys e q r f)

  -- what the branch that came has as before is told as before
  told-kept : (q r : Path) → rest_of p q ≡ Some r → found_at r came ≡ found_at r was → option_map (tells k) (found_at r came) ≡ get (tree_of h keys) q
  told-kept q r f same =
      ap (option_map (tells k)) same
      ∙ (same-told q (found_at r was) (found-rest was p keys e q r f)
      (found-new q ∙ (ap (by_rest (λ r. found_at r came) (found_at q keys)) f ∙ same))
      ∙ sym (told-before q r f))

  -- and so where it has one key more, or one less
  told-or : (q r : Path) → rest_of p q ≡ Some r → (t : Bool) (o : Option (ℕ × Node)) → found_at r came ≡ cond t o (found_at r was) →
      option_map (tells k) (found_at r came) ≡ cond t (option_map (tells k) o) (get (tree_of h keys) q)
  told-or q r f true o same = ap (option_map (tells k)) same
  told-or q r f false o same = told-kept q r f same

  at-path : (q : Path) → same_path q p ≡ same_rest (rest_of p q) []
  at-path q = ap (same_path q) (sym (append-nil p)) ∙ same-rest p q []

  abbrev its_rec : Node → Rec
  its_rec node = rec_of node (descriptor_in k node.key.fields.security)

  abbrev with_rec : Tree
  with_rec = insert (tree_of h keys) p (its_rec is.node)

  get-with : (q : Path) → get with_rec q ≡ cond (same_rest (rest_of p q) []) (Some (its_rec is.node)) (get (tree_of h keys) q)
  get-with q = get-insert path_total (tree_of h keys) p (its_rec is.node) q ∙ ap (λ t. cond t (Some (its_rec is.node)) (get (tree_of h keys) q)) (at-path q)

  -- ---- the keys below are the same

  pub tree-same-below : is.below ≡ was.below → tree_of k (graft_at p is.node is.below keys) ≡ insert (tree_of h keys) p (rec_of is.node (descriptor_in k is.node.key.fields.security))
  tree-same-below below = same_map path_total path_same (tree_of k new_keys) with_rec (λ q. told-graft q ∙ (by q (rest_of p q) refl ∙ sym (get-with q)))
    where
      at : (q r : Path) → rest_of p q ≡ Some r → option_map (tells k) (found_at r came) ≡ cond (same_path r []) (Some (its_rec is.node)) (get (tree_of h keys) q)
      at q [] f = refl
      at q (x ∷ r) f = told-kept q (x ∷ r) f (ap (λ F. found_in (x ∷ r) F) below)

      by : (q : Path) (o : Option Path) → rest_of p q ≡ o → by_rest (λ r. option_map (tells k) (found_at r came)) (get (tree_of h keys) q) o ≡ cond
          (same_rest o []) (Some (its_rec is.node)) (get (tree_of h keys) q)
      by q None f = refl
      by q (Some r) f = at q r f

  module _ (i o : ℕ) (n : Node) (x : List ℕ) (name : folded (name_of n.key) ≡ x) where
    abbrev below_path : Path
    below_path = p ++ x ∷ []

    named-so : (y : List ℕ) → is_named y n ≡ same_name y x
    named-so y = ap (same_name y) name

    -- a path of one name is the key's where the name is
    one-name : (y : List ℕ) (a b : Option Rec) → cond (same_name y x) a b ≡ cond (same_path (y ∷ []) (x ∷ [])) a b
    one-name y a b = by (same_name y x) ∙ ap (λ t. cond t a b) (sym (same-cons y x [] []))
      where
        by : (t : Bool) → cond t a b ≡ cond (t && true) a b
        by true = refl
        by false = refl

    -- a longer one never is, and below the key there is nothing
    more-names : (y z : List ℕ) (r : Path) (a b : Option Rec) → (same_name y x ≡ true → b ≡ None) → cond (same_name y x) None b ≡ cond (same_path (y ∷ z ∷ r) (x ∷ [])) a b
    more-names y z r a b none = by (same_name y x) refl ∙ ap (λ t. cond t a b) (sym (same-cons y x (z ∷ r) []))
      where
        by : (t : Bool) → same_name y x ≡ t → cond t None b ≡ cond (t && false) a b
        by true t = sym (none t)
        by false t = refl

    -- ---- a key more

    pub tree-hung : is.below ≡ hang i o n was.below → branch_at (x ∷ []) was ≡ None →
        tree_of k (graft_at p is.node is.below keys) ≡ insert
        (insert (tree_of h keys) p (rec_of is.node (descriptor_in k is.node.key.fields.security))) (p ++ x ∷ [])
        (rec_of n (descriptor_in k n.key.fields.security))
    tree-hung below free = same_map path_total path_same (tree_of k new_keys) (insert with_rec below_path (its_rec n)) (λ q. told-graft q ∙ (by q (rest_of p q) refl ∙ sym (got q)))
      where
        none : found_in (x ∷ []) was.below ≡ None
        none = branch-found (x ∷ []) was ∙ ap (option_map its_key) free

        finds : (y : List ℕ) (r : Path) → found_in (y ∷ r) is.below ≡ cond (same_name y x) (found_at r (its_leaf o n)) (found_in (y ∷ r) was.below)
        finds y r =
            ap (found_in (y ∷ r)) below
            ∙ (found-hang i o n was.below (ap (λ x. found_in (x ∷ []) was.below) name ∙ none) y r
            ∙ ap (λ t. cond t (found_at r (its_leaf o n)) (found_in (y ∷ r) was.below)) (named-so y))

        got : (q : Path) → get (insert with_rec below_path (its_rec n)) q ≡ cond (same_rest (rest_of p q) (x ∷ [])) (Some (its_rec n))
            (cond (same_rest (rest_of p q) []) (Some (its_rec is.node)) (get (tree_of h keys) q))
        got q =
            get-insert path_total with_rec below_path (its_rec n) q
            ∙ (ap (λ t. cond t (Some (its_rec n)) (get with_rec q)) (same-rest p q (x ∷ []))
            ∙ ap (cond (same_rest (rest_of p q) (x ∷ [])) (Some (its_rec n))) (get-with q))

        deeper : (q : Path) (y z : List ℕ) (r : Path) → rest_of p q ≡ Some (y ∷ z ∷ r) → same_name y x ≡ true → get (tree_of h keys) q ≡ None
        deeper q y z r f t =
            told-before q (y ∷ z ∷ r) f
            ∙ ap (option_map (tells h)) (ap (λ y. found_in (y ∷ z ∷ r) was.below) (name-is y x t) ∙ none-deeper x (z ∷ r) was.below none)

        at : (q r : Path) → rest_of p q ≡ Some r → option_map (tells k) (found_at r came) ≡ cond (same_path r (x ∷ [])) (Some (its_rec n))
            (cond (same_path r []) (Some (its_rec is.node)) (get (tree_of h keys) q))
        at q [] f = refl
        at q (y ∷ []) f = told-or q (y ∷ []) f (same_name y x) (Some (o, n)) (finds y []) ∙ one-name y (Some (its_rec n)) (get (tree_of h keys) q)
        at q (y ∷ z ∷ r) f = told-or q (y ∷ z ∷ r) f (same_name y x) None (finds y (z ∷ r)) ∙ more-names y z r (Some (its_rec n)) (get (tree_of h keys) q) (deeper q y z r f)

        by : (q : Path) (s : Option Path) → rest_of p q ≡ s → by_rest (λ r. option_map (tells k) (found_at r came)) (get (tree_of h keys) q) s ≡ cond
            (same_rest s (x ∷ [])) (Some (its_rec n)) (cond (same_rest s []) (Some (its_rec is.node)) (get (tree_of h keys) q))
        by q None f = refl
        by q (Some r) f = at q r f

    -- ---- a key less

    pub tree-unhung : is.below ≡ unhang i was.below → IsLeafAt i o n was.below →
        tree_of k (graft_at p is.node is.below keys) ≡ remove
        (insert (tree_of h keys) p (rec_of is.node (descriptor_in k is.node.key.fields.security))) (p ++ x ∷ [])
    tree-unhung below leaf = same_map path_total path_same (tree_of k new_keys) (remove with_rec below_path) (λ q. told-graft q ∙ (by q (rest_of p q) refl ∙ sym (got q)))
      where
        apart : Apart was.below
        apart = apart-stands h root was old-stands

        finds : (y : List ℕ) (r : Path) → found_in (y ∷ r) is.below ≡ cond (same_name y x) None (found_in (y ∷ r) was.below)
        finds y r =
            ap (found_in (y ∷ r)) below
            ∙ (found-unhang i o n was.below apart leaf y r
            ∙ ap (λ t. cond t None (found_in (y ∷ r) was.below)) (named-so y))

        got : (q : Path) → get (remove with_rec below_path) q ≡ cond (same_rest (rest_of p q) (x ∷ [])) None (cond (same_rest (rest_of p q) []) (Some (its_rec is.node)) (get (tree_of h keys) q))
        got q =
            get-remove path_total with_rec below_path q
            ∙ (ap (λ t. cond t None (get with_rec q)) (same-rest p q (x ∷ []))
            ∙ ap (cond (same_rest (rest_of p q) (x ∷ [])) None) (get-with q))

        deeper : (q : Path) (y z : List ℕ) (r : Path) → rest_of p q ≡ Some (y ∷ z ∷ r) → same_name y x ≡ true → get (tree_of h keys) q ≡ None
        deeper q y z r f t = told-before q (y ∷ z ∷ r) f ∙ ap (option_map (tells h)) (leaf-deeper i o n was.below apart leaf y z r (named-so y ∙ t))

        at : (q r : Path) → rest_of p q ≡ Some r → option_map (tells k) (found_at r came) ≡ cond (same_path r (x ∷ [])) None (cond (same_path r []) (Some (its_rec is.node)) (get (tree_of h keys) q))
        at q [] f = refl
        at q (y ∷ []) f = told-or q (y ∷ []) f (same_name y x) None (finds y []) ∙ one-name y None (get (tree_of h keys) q)
        at q (y ∷ z ∷ r) f = told-or q (y ∷ z ∷ r) f (same_name y x) None (finds y (z ∷ r)) ∙ more-names y z r None (get (tree_of h keys) q) (deeper q y z r f)

        by : (q : Path) (s : Option Path) → rest_of p q ≡ s → by_rest (λ r. option_map (tells k) (found_at r came)) (get (tree_of h keys) q) s ≡ cond
            (same_rest s (x ∷ [])) None (cond (same_rest s []) (Some (its_rec is.node)) (get (tree_of h keys) q))
        by q None f = refl
        by q (Some r) f = at q r f
