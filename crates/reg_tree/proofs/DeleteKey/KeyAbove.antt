-- The key above another one, and that a key is of one root's tree.
use Rattle.std.proofs.Common.{◌≡◌, ◌≢◌, ℕ, zero, suc, Some, List, [], ◌∷◌, ◌++◌, length, refl, sym, ap, ◌∙◌, arith, length-append}
use Rattle.std.specs.Prelude.{bit_and}
use Rattle.std.proofs.lemmas.Option.{same_Some}
use Rattle.reg_heap.specs.Paths.{Path}
use Rattle.reg_heap.specs.Heaps.{Heap}
use Rattle.reg_arena.specs.Cells.{cell_at}
use Rattle.reg_records.specs.KeyNodes.{KeyRecord, key_at}
use Rattle.reg_shape.specs.Internal.Forests.{Branch}
use Rattle.reg_shape.specs.Nodes.{Node}
use Rattle.reg_shape.specs.Internal.Shapes.{StandsIn}
use Rattle.reg_shape.specs.Internal.Grafts.{IsShape, branch_in, branch_at}
use Rattle.reg_shape.specs.PathLookup.{key_offset_at}
use Rattle.reg_shape.proofs.Graft.Branches.{branch-append, branch-stands}
use Rattle.reg_shape.proofs.Walking.IndexWalks.{then-open}
use Rattle.reg_shape.proofs.Lookup.LookupOfShape.{offset-append}
use Rattle.reg_tree.specs.Internal.TreeInvariant.{IsHere}
use Rattle.reg_tree.proofs.DeleteKey.DeletedKeyPosition.{snoc, parent-is}
use Rattle.reg_tree.proofs.DeleteKey.DeleteKeyFaults.{root-path, path-marked}
use Rattle.reg_tree.proofs.Invariant.KeyOfTree.{branch, branch_is, key_is, offset-root}
use Rattle.reg_tree.proofs.Invariant.KeyOfShape as keyed

-- ---- the key above

module _ (old : List ℕ) (key : ℕ) (t : IsHere old key) (inner : t.path ≢ []) where
  abbrev h : Heap
  h = cell_at old

  abbrev keys : Branch Node
  keys = t.holds.keys

  abbrev ring : List ℕ
  ring = t.holds.ring

  abbrev w : IsShape h t.root keys ring []
  w = t.holds.shape

  abbrev b : Branch Node
  b = branch old key t

  pub parts : (q : Path) × (x : List ℕ) × (t.path ≡ q ++ x ∷ [])
  parts = snoc t.path inner

  abbrev pub p : Path
  p = parts.0

  abbrev pub x : List ℕ
  x = parts.1

  pub parent : (o : ℕ) × (key_offset_at h t.root p ≡ Some o) × (key_offset_at h o (x ∷ []) ≡ Some key)
  parent = then-open (λ o. key_offset_at h o (x ∷ [])) (key_offset_at h t.root p) key (sym (offset-append h t.root p (x ∷ [])) ∙ (ap (key_offset_at h t.root) (sym parts.2) ∙ t.at))

  abbrev pub was : Branch Node
  was = keyed.branch h t.root keys ring [] w p parent.0 parent.1

  pub was-is : branch_at p keys ≡ Some was
  was-is = keyed.branch_is h t.root keys ring [] w p parent.0 parent.1

  pub stands-was : StandsIn h t.root was
  stands-was = branch-stands h t.root was p keys was-is w.stands

  pub found : branch_in (x ∷ []) was.below ≡ Some b
  found = sym (branch-append was (x ∷ []) p keys was-is) ∙ (ap (λ q. branch_at q keys) (sym parts.2) ∙ branch_is old key t)

  abbrev pub above : IsHere old parent.0
  above = record { root = t.root; table = t.table; path = p; holds = t.holds; at = parent.1 }

  pub named-above : b.node.key.fields.parent ≡ parent.0
  named-above = parent-is h t.root was stands-was x b found ∙ keyed.offset h t.root keys ring [] w p parent.0 parent.1

  pub shorter : (n : ℕ) → length t.path ≡ suc n → length p ≡ n
  shorter n e = let l = ap length parts.2 in let m = length-append p (x ∷ []) in omega (arith, e, l, m)

-- ---- one root

module _ (old : List ℕ) (k l : ℕ) (t : IsHere old k) (u : IsHere old l) (e : k ≡ l) where
  same-key : (branch old k t).node.key ≡ (branch old l u).node.key
  same-key = same_Some _ _ (sym (key_is old k t) ∙ (ap (key_at (cell_at old)) e ∙ key_is old l u))

  both-root : t.path ≡ [] → u.path ≡ []
  both-root f = root-path old l u (λ z. path-marked old k t f (ap (λ (r : KeyRecord). bit_and r.fields.flags 4) same-key ∙ z))

pub root-here : (old : List ℕ) (key : ℕ) (t : IsHere old key) → t.path ≡ [] → t.root ≡ key
root-here old key t f = same_Some _ _ (sym (offset-root old t.root t.holds) ∙ (ap (key_offset_at (cell_at old) t.root) (sym f) ∙ t.at))

pub no-names : (p : Path) → length p ≡ 0 → p ≡ []
no-names [] e = refl
no-names (x ∷ p) e = absurd (omega (arith, e))

roots : (old : List ℕ) (n k l : ℕ) (t : IsHere old k) (u : IsHere old l) → k ≡ l → length t.path ≡ n → t.root ≡ u.root
roots old zero k l t u e f =
    let r = no-names t.path f in
    root-here old k t r ∙ (e ∙ sym (root-here old l u (both-root old k l t u e r)))
roots old (suc n) k l t u e f =
    let inner : t.path ≢ [] = (λ r. let z = ap length r in omega (arith, z, f)) in
    let inner-too : u.path ≢ [] = (λ r. inner (both-root old l k u t (sym e) r)) in
    roots old n _ _ (above old k t inner) (above old l u inner-too)
    (sym (named-above old k t inner) ∙ (ap (λ (r : KeyRecord). r.fields.parent) (same-key old k l t u e) ∙ named-above old l u inner-too))
    (shorter old k t inner n f)

-- a key's root is the same, however the key is found
pub same_root : (old : List ℕ) (key : ℕ) (t u : IsHere old key) → t.root ≡ u.root
same_root old key t u = roots old (length t.path) key key t u refl refl
