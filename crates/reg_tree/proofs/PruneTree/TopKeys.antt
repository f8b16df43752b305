-- Keys at or below a top, and those right above them.
use Rattle.std.proofs.Common.{◌≡◌, ◌≢◌, ℕ, ◌-◌, ◌≤◌, Some, List, [], ◌∷◌, ◌++◌, length, refl, sym, ap, ◌∙◌, subst, arith, length-append}
use Rattle.std.proofs.lemmas.List.{append-nil, append_assoc}
use Rattle.reg_names.specs.declared.TheConstants.{PATH_LIMIT}
use Rattle.reg_heap.specs.Paths.{Path}
use Rattle.reg_heap.specs.Edits.{above}
use Rattle.reg_arena.specs.Cells.{cell_at}
use Rattle.reg_records.specs.declared.nk.KeyFields.{KeyFields}
use Rattle.reg_records.specs.KeyNodes.{KeyRecord, key_at}
use Rattle.reg_shape.specs.PathLookup.{key_offset_at}
use Rattle.reg_index.specs.declared.Place.{Place}
use Rattle.reg_tree.specs.declared.node.Node.{Node}
use Rattle.reg_tree.specs.Internal.TreeInvariant.{IsHere}
use Rattle.reg_tree.specs.Internal.KeyOrder.{HasTop, IsAbove}
use Rattle.reg_tree.specs.Internal.ReachedPlaces.{StandsAt}
use Rattle.reg_tree.specs.TreeKeys.{tree_in}
use Rattle.reg_tree.proofs.DeleteKey.DeletedKeyPosition.{snoc, above-is}
use Rattle.reg_tree.proofs.DeleteKey.KeyAbove as up
use Rattle.reg_tree.proofs.Invariant.KeyOfTree.{get-some, key_is, shallow}
use Rattle.reg_tree.proofs.PruneTree.ChildPlaces.{index-place, stands_there}
use Rattle.reg_tree.proofs.PruneTree.PathOrder.{child-at}

-- two paths with a last name are the same before it where they are the same
pub same-front : (p q : Path) (x y : List ℕ) → p ++ x ∷ [] ≡ q ++ y ∷ [] → p ≡ q
same-front p q x y e = sym (above-is p x) ∙ (ap above e ∙ above-is q y)

-- a key is the top of itself
abbrev pub itself : (bytes : List ℕ) (key : ℕ) → IsHere bytes key → HasTop bytes (record { offset = key; depth = 0 })
itself bytes key t = record { here = t; top = t.path; names = []; parts = sym (append-nil t.path); depth = refl }

-- a key that isn't the root stands among its parent's subkeys
pub stands_somewhere : (bytes : List ℕ) (key : ℕ) (t : IsHere bytes key) → t.path ≢ [] → (place : Place) × StandsAt (cell_at bytes) key place
stands_somewhere bytes key t inner =
    let p = up.p bytes key t inner in
    let x = up.x bytes key t inner in
    let parent = up.parent bytes key t inner in
    let at-key = ap (key_offset_at (cell_at bytes) t.root) (sym (up.parts bytes key t inner).2) ∙ t.at in
    let c = child-at (tree_in bytes t.root) p x (get-some bytes t.root t.holds (p ++ x ∷ []) key at-key) in
    let place = index-place bytes parent.0 (up.above bytes key t inner) c.0 c.1 in
    (place.0, stands_there bytes t.root t.holds p x parent.0 key parent.1 at-key c.0 place.0 place.1 c.1 c.2)

module _ (bytes : List ℕ) (node : Node) (t : HasTop bytes node) where
  -- no depth is large
  pub low : node.depth ≤ PATH_LIMIT
  low = let s = shallow bytes node.offset t.here in let l = ap length t.parts ∙ length-append t.top t.names in let d = t.depth in omega (arith, s, l, d)

  module _ (below : node.depth ≢ 0) where
    pub names-there : t.names ≢ []
    names-there e = below (t.depth ∙ ap length e)

    pub not-root : t.here.path ≢ []
    not-root e = let l = length-append t.top t.names in let m = ap length (sym t.parts ∙ e) in below (let d = t.depth in omega (arith, l, m, d))

    -- its key node names the key above
    module _ (fields : KeyFields) (are : (r : KeyRecord) → key_at (cell_at bytes) node.offset ≡ Some r → fields ≡ r.fields) where
      pub parent-told : IsAbove bytes t.here.root t.here.path node (record { offset = fields.parent; depth = node.depth - 1 })
      parent-told =
          let parent = up.parent bytes node.offset t.here not-root in
          let named : fields.parent ≡ parent.0 = ap (λ (f : KeyFields). f.parent) (are _ (key_is bytes node.offset t.here)) ∙ up.named-above bytes node.offset t.here not-root in
          record {
            path_above = up.p bytes node.offset t.here not-root;
            name = up.x bytes node.offset t.here not-root;
            parts = (up.parts bytes node.offset t.here not-root).2;
            at = subst (λ o. key_offset_at (cell_at bytes) t.here.root (up.p bytes node.offset t.here not-root) ≡ Some o) (sym named) parent.1;
            depth = omega (arith, below);
          }

    -- the names before the last one, and that
    pub last-name : (q : Path) × (x : List ℕ) × (t.names ≡ q ++ x ∷ [])
    last-name = snoc t.names names-there

    -- the key above is at or below the same top
    module _ (over : Node) (a : IsAbove bytes t.here.root t.here.path node over) where
      pub front-is : a.path_above ≡ t.top ++ last-name.0
      front-is = same-front a.path_above (t.top ++ last-name.0) a.name last-name.1
          (sym a.parts ∙ (t.parts ∙ (ap (λ q. t.top ++ q) last-name.2 ∙ sym (append_assoc t.top last-name.0 (last-name.1 ∷ [])))))

      abbrev pub over-top : HasTop bytes over
      over-top = record {
        here = record {
          root = t.here.root;
          table = t.here.table;
          path = t.top ++ last-name.0;
          holds = t.here.holds;
          at = subst (λ p. key_offset_at (cell_at bytes) t.here.root p ≡ Some over.offset) front-is a.at;
        };
        top = t.top;
        names = last-name.0;
        parts = refl;
        depth = (let d = t.depth in let e = a.depth in let l = ap length last-name.2 ∙ length-append last-name.0 (last-name.1 ∷ []) in omega (arith, d, e, l));
      }
