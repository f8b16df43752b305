-- The key that a path finds, where a key and all below it gave way to others.
use Rattle.std.proofs.Common.{◌≡◌, ℕ, Bool, true, false, cond, ◌&&◌, Option, Some, None, List, [], ◌∷◌, ◌++◌, refl, sym, ap, ◌∙◌}
use Rattle.std.proofs.lemmas.Bool.{false≢true}
use Rattle.std.proofs.lemmas.Option.{none-some, same_Some}
use Rattle.reg_names.specs.Names.{folded}
use Rattle.reg_heap.specs.Paths.{Path}
use Rattle.reg_shape.specs.Internal.Forests.{Forest, Branch}
use Rattle.reg_shape.specs.Internal.Forests.Forest.{Rooted as Hangs}
use Rattle.reg_shape.specs.Nodes.{Node}
use Rattle.reg_shape.specs.Spelt.{name_of}
use Rattle.reg_shape.specs.Internal.Exchanges.{is_named, found_in, found_at}
use Rattle.reg_shape.specs.Internal.Grafts.{branch_at, graft_at}
use Rattle.reg_shape.proofs.Refinement.RefinementAfterEdit.{same_name, same_path, same-cons, name-is}
use Rattle.reg_shape.proofs.Graft.Branches.{graft-way, its_key, branch-found, branch-append}

-- ---- what of a path comes behind another

abbrev pub rest_of : Path → Path → Option Path
rest_of [] q = Some q
rest_of (x ∷ p) [] = None
rest_of (x ∷ p) (y ∷ q) = cond (same_name y x) (rest_of p q) None

pub rest-is : (p q r : Path) → rest_of p q ≡ Some r → q ≡ p ++ r
rest-is [] q r e = same_Some _ _ e
rest-is (x ∷ p) [] r e = absurd (none-some _ e)
rest-is (x ∷ p) (y ∷ q) r e = by (rest-is p q r) (same_name y x) refl e
  where
    by : (rest_of p q ≡ Some r → q ≡ p ++ r) → (t : Bool) → same_name y x ≡ t → cond t (rest_of p q) None ≡ Some r → y ∷ q ≡ x ∷ p ++ r
    by h true t e = ap (λ z. z ∷ q) (name-is y x t) ∙ ap (λ q. x ∷ q) (h e)
    by h false t e = absurd (none-some _ e)

-- the rest is the other path's rest, where there is one
abbrev pub same_rest : Option Path → Path → Bool
same_rest None s = false
same_rest (Some r) s = same_path r s

pub same-rest : (p q s : Path) → same_path q (p ++ s) ≡ same_rest (rest_of p q) s
same-rest [] q s = refl
same-rest (x ∷ p) [] s = refl
same-rest (x ∷ p) (y ∷ q) s = same-cons y x q (p ++ s) ∙ by (same_name y x) (same-rest p q s)
  where
    by : (t : Bool) → same_path q (p ++ s) ≡ same_rest (rest_of p q) s → t && same_path q (p ++ s) ≡ same_rest (cond t (rest_of p q) None) s
    by true e = e
    by false e = refl

-- by what comes behind a path, or what is elsewhere
abbrev pub by_rest : {A : Type 0} → (Path → A) → A → Option Path → A
by_rest go other None = other
by_rest go other (Some r) = go r

-- ---- the key that is found

module _ (was : Branch Node) (m : Node) (c : Forest Node) (alike : name_of m.key ≡ name_of was.node.key) where
  abbrev pub grafted_branch : Branch Node
  grafted_branch = record { offset = was.offset; node = m; below = c }

  abbrev FindsIn : Path → Forest Node → Forest Node → Type 0
  FindsIn p F G = (y : List ℕ) (q : Path) → found_in (y ∷ q) G ≡ by_rest (λ r. found_at r grafted_branch) (found_in (y ∷ q) F) (rest_of p (y ∷ q))

  finds-here : (x : List ℕ) (s : Forest Node) → is_named x was.node ≡ true → FindsIn (x ∷ []) (Hangs was.offset was.node was.below s) (Hangs was.offset m c s)
  finds-here x s e y [] =
      ap (λ t. cond t (Some (was.offset, m)) (found_in (y ∷ []) s)) (ap (λ z. same_name y (folded z)) alike ∙ ap (same_name y) (sym (name-is x (folded (name_of was.node.key)) e)))
      ∙ (by (same_name y x)
      ∙ ap (λ t. by_rest (λ r. found_at r grafted_branch) (cond t (Some (was.offset, was.node)) (found_in (y ∷ []) s))
      (cond (same_name y x) (Some []) None)) (ap (same_name y) (name-is x (folded (name_of was.node.key)) e)))
    where
      by : (t : Bool) → cond t (Some (was.offset, m)) (found_in (y ∷ []) s) ≡ by_rest (λ r. found_at r grafted_branch)
          (cond t (Some (was.offset, was.node)) (found_in (y ∷ []) s)) (cond t (Some []) None)
      by true = refl
      by false = refl
  finds-here x s e y (z ∷ q) =
      ap (λ t. cond t (found_in (z ∷ q) c) (found_in (y ∷ z ∷ q) s)) (ap (λ z. same_name y (folded z)) alike ∙ ap (same_name y) (sym (name-is x (folded (name_of was.node.key)) e)))
      ∙ (by (same_name y x)
      ∙ ap (λ t. by_rest (λ r. found_at r grafted_branch) (cond t (found_in (z ∷ q) was.below) (found_in (y ∷ z ∷ q) s))
      (cond (same_name y x) (Some (z ∷ q)) None)) (ap (same_name y) (name-is x (folded (name_of was.node.key)) e)))
    where
      by : (t : Bool) → cond t (found_in (z ∷ q) c) (found_in (y ∷ z ∷ q) s) ≡ by_rest (λ r. found_at r grafted_branch)
          (cond t (found_in (z ∷ q) was.below) (found_in (y ∷ z ∷ q) s)) (cond t (Some (z ∷ q)) None)
      by true = refl
      by false = refl

  finds-under : (x v : List ℕ) (p : Path) (o : ℕ) (k : Node) (b d s : Forest Node) → is_named x k ≡ true → FindsIn (v ∷ p) b d → FindsIn (x ∷ v ∷ p) (Hangs o k b s) (Hangs o k d s)
  finds-under x v p o k b d s e h y [] = by (same_name y x)
    where
      by : (t : Bool) → cond (is_named y k) (Some (o, k)) (found_in (y ∷ []) s) ≡ by_rest (λ r. found_at r grafted_branch) (cond (is_named y k) (Some (o, k)) (found_in (y ∷ []) s)) (cond t None None)
      by true = refl
      by false = refl
  finds-under x v p o k b d s e h y (z ∷ q) =
      ap (λ t. cond t (found_in (z ∷ q) d) (found_in (y ∷ z ∷ q) s)) (ap (same_name y) (sym (name-is x (folded (name_of k.key)) e)))
      ∙ (by (same_name y x)
      ∙ ap (λ t. by_rest (λ r. found_at r grafted_branch) (cond t (found_in (z ∷ q) b) (found_in (y ∷ z ∷ q) s))
      (cond (same_name y x) (rest_of (v ∷ p) (z ∷ q)) None)) (ap (same_name y) (name-is x (folded (name_of k.key)) e)))
    where
      by : (t : Bool) → cond t (found_in (z ∷ q) d) (found_in (y ∷ z ∷ q) s) ≡ by_rest (λ r. found_at r grafted_branch)
          (cond t (found_in (z ∷ q) b) (found_in (y ∷ z ∷ q) s)) (cond t (rest_of (v ∷ p) (z ∷ q)) None)
      by true = h z q
      by false = refl

  -- a name that is the key's is not the path's
  other-way : (x y : List ℕ) (k : Node) → is_named x k ≡ false → is_named y k ≡ true → same_name y x ≡ false
  other-way x y k e f = by (same_name y x) refl
    where
      by : (t : Bool) → same_name y x ≡ t → t ≡ false
      by true t = absurd (false≢true (sym e ∙ (ap (λ z. is_named z k) (sym (name-is y x t)) ∙ f)))
      by false t = refl

  finds-next : (x : List ℕ) (p : Path) (o : ℕ) (k : Node) (b s t : Forest Node) → is_named x k ≡ false → FindsIn (x ∷ p) s t → FindsIn (x ∷ p) (Hangs o k b s) (Hangs o k b t)
  finds-next x p o k b s t e h y [] = by (is_named y k) refl (h y [])
    where
      by : (v : Bool) → is_named y k ≡ v → found_in (y ∷ []) t ≡ by_rest (λ r. found_at r grafted_branch) (found_in (y ∷ []) s)
          (rest_of (x ∷ p) (y ∷ [])) → cond v (Some (o, k)) (found_in (y ∷ []) t) ≡ by_rest (λ r. found_at r grafted_branch)
          (cond v (Some (o, k)) (found_in (y ∷ []) s)) (rest_of (x ∷ p) (y ∷ []))
      by true f h = sym (ap (λ t. by_rest (λ r. found_at r grafted_branch) (Some (o, k)) (cond t (rest_of p []) None)) (other-way x y k e f))
      by false f h = h
  finds-next x p o k b s t e h y (z ∷ q) = by (is_named y k) refl (h y (z ∷ q))
    where
      by : (v : Bool) → is_named y k ≡ v → found_in (y ∷ z ∷ q) t ≡ by_rest (λ r. found_at r grafted_branch) (found_in (y ∷ z ∷ q) s)
          (rest_of (x ∷ p) (y ∷ z ∷ q)) → cond v (found_in (z ∷ q) b) (found_in (y ∷ z ∷ q) t) ≡ by_rest (λ r. found_at r grafted_branch)
          (cond v (found_in (z ∷ q) b) (found_in (y ∷ z ∷ q) s)) (rest_of (x ∷ p) (y ∷ z ∷ q))
      by true f h = sym (ap (λ t. by_rest (λ r. found_at r grafted_branch) (found_in (z ∷ q) b) (cond t (rest_of p (z ∷ q)) None)) (other-way x y k e f))
      by false f h = h

  -- where the path begins with the graft's it goes on there, and elsewhere the key is the same
  pub found-graft : (p : Path) (keys : Branch Node) → branch_at p keys ≡ Some was → (q : Path) →
      found_at q (graft_at p m c keys) ≡ by_rest (λ r. found_at r grafted_branch) (found_at q keys) (rest_of p q)
  found-graft [] keys e q = ap (λ o. found_at q (record { offset = o; node = m; below = c })) (ap (λ (b : Branch Node). b.offset) (same_Some _ _ e))
  found-graft (x ∷ p) keys e [] = refl
  found-graft (x ∷ p) keys e (y ∷ q) = graft-way was m c FindsIn finds-here finds-under finds-next (x ∷ p) keys.below e y q

-- and so it went on before
pub found-rest : (b : Branch Node) (p : Path) (keys : Branch Node) → branch_at p keys ≡ Some b → (q r : Path) → rest_of p q ≡ Some r → found_at q keys ≡ found_at r b
found-rest b p keys e q r is =
    ap (λ q. found_at q keys) (rest-is p q r is)
    ∙ (branch-found (p ++ r) keys
    ∙ (ap (λ (o : Option (Branch Node)). map_key o) (branch-append b r p keys e)
    ∙ sym (branch-found r b)))
  where
    map_key : Option (Branch Node) → Option (ℕ × Node)
    map_key None = None
    map_key (Some b) = Some (its_key b)
