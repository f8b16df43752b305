-- Where a key's parents lead: to the root, and by which names back. So a key has one path, and a number of its place is one of its offset.
use Rattle.std.proofs.Common.{◌≡◌, ◌≢◌, ℕ, zero, suc, ◌≤◌, ◌==◌, Bool, true, false, cond, Option, Some, None, List, [], ◌∷◌, ◌++◌, length, refl, sym, ap, ◌∙◌, arith}
use Rattle.std.specs.Prelude.{bit_and}
use Rattle.std.proofs.lemmas.Bool.{eqb-false, ne_eqb}
use Rattle.reg_names.specs.declared.TheConstants.{PATH_LIMIT}
use Rattle.reg_names.specs.Names.{folded}
use Rattle.reg_heap.specs.Paths.{Path, Tree}
use Rattle.reg_heap.specs.Heaps.{Heap}
use Rattle.reg_arena.specs.Cells.{cell_at}
use Rattle.reg_records.specs.KeyNodes.{KeyRecord, key_at}
use Rattle.reg_shape.specs.Internal.Forests.{Branch}
use Rattle.reg_shape.specs.Nodes.{Node}
use Rattle.reg_shape.specs.Spelt.{name_of}
use Rattle.reg_shape.proofs.Refinement.RefinementAfterEdit.{name-is}
use Rattle.reg_tree.specs.TreeKeys.{tree_in}
use Rattle.reg_tree.specs.Internal.TreeInvariant.{IsHere}
use Rattle.reg_tree.proofs.DeleteKey.DeletedKeyPosition.{head-at}
use Rattle.reg_tree.proofs.DeleteKey.DeleteKeyFaults.{root-path, path-marked}
use Rattle.reg_tree.proofs.DeleteKey.KeyAbove as up
use Rattle.reg_tree.proofs.Invariant.KeyOfTree.{branch, key_is, shallow}

abbrev Place : Type 0
Place = ℕ × Path

-- a place one name further down
abbrev further : List ℕ → Place → Place
further name place = (place.0, place.1 ++ name ∷ [])

abbrev place_by : ℕ → (ℕ → Place) → Option KeyRecord → Place
place_by key above None = (key, [])
place_by key above (Some r) = cond (bit_and r.fields.flags 4 == 0) (further (folded (name_of r)) (above r.fields.parent)) (key, [])

-- the root above the key at an offset, and the path from there, so many names long at most
unfoldable pub place_above : ℕ → Heap → ℕ → Place
place_above zero h key = (key, [])
place_above (suc n) h key = place_by key (place_above n h) (key_at h key)

module _ (bytes : List ℕ) (key : ℕ) (t : IsHere bytes key) where
  abbrev h : Heap
  h = cell_at bytes

  abbrev b : Branch Node
  b = branch bytes key t

  abbrev flags : ℕ
  flags = b.node.key.fields.flags

  at-root : t.path ≡ [] → ◌≡◌ {A = Place} (key, []) (t.root, t.path)
  at-root e = λ i. (sym (up.root-here bytes key t e) i, sym e i)

  inner-unmarked : t.path ≢ [] → (bit_and flags 4 == 0) ≡ true
  inner-unmarked n = by (bit_and flags 4 == 0) refl
    where
      by : (r : Bool) → (bit_and flags 4 == 0) ≡ r → r ≡ true
      by true e = refl
      by false e = absurd (n (root-path bytes key t (eqb-false _ _ e)))

  its-name : (inner : t.path ≢ []) → folded (name_of b.node.key) ≡ up.x bytes key t inner
  its-name inner = sym (name-is _ _ (head-at _ _ b (up.found bytes key t inner)).named)

pub placed : (bytes : List ℕ) (n key : ℕ) (t : IsHere bytes key) → length t.path ≤ n → place_above n (cell_at bytes) key ≡ (t.root, t.path)
unfolding place_above
placed bytes zero key t l = at-root bytes key t (up.no-names t.path (omega (arith, l)))
placed bytes (suc n) key t l = by t.path refl (λ k u m. placed bytes n k u m)
  where
    above : ℕ → Place
    above = place_above n (cell_at bytes)

    r : KeyRecord
    r = (branch bytes key t).node.key

    by : (p : Path) → t.path ≡ p → ((k : ℕ) (u : IsHere bytes k) → length u.path ≤ n → above k ≡ (u.root, u.path)) →
        place_by key above (key_at (cell_at bytes) key) ≡ (t.root, t.path)
    by [] e more =
        ap (place_by key above) (key_is bytes key t)
        ∙ (ap (λ m. cond m (further (folded (name_of r)) (above r.fields.parent)) (key, [])) (ne_eqb _ _ (path-marked bytes key t e)) ∙ at-root bytes key t e)
    by (x ∷ p) e more =
        let inner : t.path ≢ [] = (λ z. let m = ap length (sym e ∙ z) in omega (arith, m)) in
        let i = up.above bytes key t inner in
        let m = ap length e in
        let l : length i.path ≤ n = (let s = up.shorter bytes key t inner (length p) m in omega (arith, s, m, l)) in
        ap (place_by key above) (key_is bytes key t)
        ∙ (ap (λ m. cond m (further (folded (name_of r)) (above r.fields.parent)) (key, [])) (inner-unmarked bytes key t inner)
        ∙ (ap (λ o. further (folded (name_of r)) (above o)) (up.named-above bytes key t inner)
        ∙ (ap (further (folded (name_of r))) (more _ i l)
        ∙ (ap (λ x. further x (i.root, i.path)) (its-name bytes key t inner) ∙ ap (λ p. (t.root, p)) (sym (up.parts bytes key t inner).2)))))

module _ (bytes : List ℕ) (key : ℕ) where
  place : (t : IsHere bytes key) → place_above PATH_LIMIT (cell_at bytes) key ≡ (t.root, t.path)
  place t = placed bytes PATH_LIMIT key t (let s = shallow bytes key t in omega (arith, s))

  -- a key has one path
  pub one_path : (t u : IsHere bytes key) → t.path ≡ u.path
  one_path t u = ap (λ (p : Place). p.1) (sym (place t) ∙ place u)

  -- a number of a key's place in the tree, by its offset
  abbrev pub at_place : (Tree → Path → ℕ) → ℕ
  at_place f = let p = place_above PATH_LIMIT (cell_at bytes) key in f (tree_in bytes p.0) p.1

  pub at_placed : (f : Tree → Path → ℕ) (t : IsHere bytes key) → at_place f ≡ f (tree_in bytes t.root) t.path
  at_placed f t = ap (λ (p : Place). f (tree_in bytes p.0) p.1) (place t)
