-- The key behind one, of those at or below a top: its first subkey, or else found on the way up.
use Rattle.std.proofs.Common.{◌≡◌, ◌≢◌, inl, inr, ℕ, ◌+◌, ◌<◌, ◌≤◌, Option, Some, None, IsSome, is_some}
use Rattle.std.proofs.Common.{List, [], ◌∷◌, ◌++◌, length, get_or, refl, sym, ap, ◌∙◌, subst, arith, true≢false, length-append}
use Rattle.std.specs.declared.cmp.Ordering.TheVariants.{Less}
use Rattle.std.specs.FinMap.{get}
use Rattle.std.proofs.lemmas.List.{append-nil, append_assoc}
use Rattle.reg_heap.specs.Paths.{Path, Tree, path_cmp, children_of}
use Rattle.reg_heap.specs.Heaps.{Heap}
use Rattle.reg_arena.specs.Cells.{cell_at}
use Rattle.reg_shape.specs.PathLookup.{key_offset_at}
use Rattle.reg_shape.proofs.Lookup.LookupOfShape.{offset-append}
use Rattle.reg_shape.proofs.Walking.IndexWalks.{then-open}
use Rattle.reg_security.specs.Rings.{DescriptorCells}
use Rattle.reg_index.specs.declared.Place.{Place}
use Rattle.reg_tree.specs.declared.node.Node.{Node}
use Rattle.reg_tree.specs.TreeKeys.{tree_in}
use Rattle.reg_tree.specs.Internal.TreeInvariant.{TreeInvariant}
use Rattle.reg_tree.specs.Internal.KeyOrder.{HasTop, IsAbove, Precedes, NextKey, IsNextKey}
use Rattle.reg_tree.specs.Internal.PathWalks.{IsSubkey}
use Rattle.reg_tree.specs.Internal.ReachedPlaces.{StandsAt, IsPlaceOf, place_index}
use Rattle.reg_tree.proofs.DeleteKey.KeyAbove.{no-names}
use Rattle.reg_tree.proofs.Invariant.KeyOfTree.{get-none, get-some}
use Rattle.reg_tree.proofs.PruneTree.ChildPlaces.{child-named, place_there, place_of_parent}
use Rattle.reg_tree.proofs.PruneTree.PathOrder.{name_order, front-same, heads-less, less-heads, none-before, between, child-order, order-child, child-at}
use Rattle.reg_tree.proofs.PruneTree.TopKeys.{over-top, last-name}

-- ---- keys that are there

module _ (bytes : List ℕ) (root : ℕ) {table : DescriptorCells} (holds : TreeInvariant bytes root table) where
  abbrev tree : Tree
  tree = tree_in bytes root

  pub offset-there : (p : Path) → IsSome (get tree p) → (o : ℕ) × (key_offset_at (cell_at bytes) root p ≡ Some o)
  offset-there p some = by (key_offset_at (cell_at bytes) root p) refl
    where
      by : (o : Option ℕ) → key_offset_at (cell_at bytes) root p ≡ o → (o : ℕ) × (key_offset_at (cell_at bytes) root p ≡ Some o)
      by None e = absurd (true≢false (sym some ∙ ap is_some (get-none bytes root holds p e)))
      by (Some o) e = (o, e)

  -- each key on the way to one is there
  pub front-there : (p q : Path) → IsSome (get tree (p ++ q)) → IsSome (get tree p)
  front-there p q some =
      let o = offset-there (p ++ q) some in
      let f = then-open (λ c. key_offset_at (cell_at bytes) c q) (key_offset_at (cell_at bytes) root p) o.0 (sym (offset-append (cell_at bytes) root p q) ∙ o.1) in
      get-some bytes root holds p f.0 f.1

  -- the key right below a path that leads to one
  child-there : (top p : Path) (y : List ℕ) (s : Path) → IsSome (get tree (top ++ (p ++ y ∷ s))) → IsSome (get tree ((top ++ p) ++ y ∷ []))
  child-there top p y s some =
      front-there ((top ++ p) ++ y ∷ []) s
      (subst (λ q. IsSome (get tree q)) (sym (append_assoc top p (y ∷ s)) ∙ sym (append_assoc (top ++ p) (y ∷ []) s)) some)

-- ---- the way up

-- a key on the way from the top to another one; no key below it is behind that one
pub record Climbs (bytes : List ℕ) (root : ℕ) (top names : Path) (node : Node) : Type 0 where
  pub over : Path
  pub behind : Path
  pub parts : names ≡ over ++ behind
  pub at : key_offset_at (cell_at bytes) root (top ++ over) ≡ Some node.offset
  pub depth : node.depth ≡ length over
  pub last : (q : Path) → IsSome (get (tree_in bytes root) (top ++ (over ++ q))) → Precedes names (over ++ q) → ⊥

module _ (bytes : List ℕ) (from : Node) (t : HasTop bytes from) where
  abbrev h : Heap
  h = cell_at bytes

  abbrev root : ℕ
  root = t.here.root

  abbrev spelt : Tree
  spelt = tree_in bytes root

  abbrev top : Path
  top = t.top

  abbrev names : Path
  names = t.names

  abbrev holds : TreeInvariant bytes root t.here.table
  holds = t.here.holds

  at-names : key_offset_at h root (top ++ names) ≡ Some from.offset
  at-names = subst (λ p. key_offset_at h root p ≡ Some from.offset) t.parts t.here.at

  -- what is behind it and below it
  behind-is : (q : Path) → Precedes names (names ++ q) → Precedes [] q
  behind-is q l = sym (front-same names [] q) ∙ (ap (λ n. path_cmp n (names ++ q)) (append-nil names) ∙ l)

  abbrev below : List Path
  below = children_of spelt (top ++ names)

  -- it has no subkeys
  pub climbs-from : length (children_of spelt t.here.path) ≤ 0 → Climbs bytes root top names from
  climbs-from none = record {
    over = names;
    behind = [];
    parts = sym (append-nil names);
    at = at-names;
    depth = t.depth;
    last = last;
  }
    where
      last : (q : Path) → IsSome (get spelt (top ++ (names ++ q))) → Precedes names (names ++ q) → ⊥
      last [] some l = none-before [] (behind-is [] l)
      last (y ∷ s) some l =
          let c = child-at spelt (top ++ names) y (child-there bytes root holds top names y s some) in
          let w = c.1 in
          let n : length below ≤ 0 = subst (λ p. length (children_of spelt p) ≤ 0) t.parts none in
          omega (arith, w, n)

  -- what is behind it and not behind its first subkey
  module _ (z : List ℕ) (some : 0 < length below) (first : get_or below 0 [] ≡ (top ++ names) ++ z ∷ []) where
    before-first : (c : Path) → IsSome (get spelt (top ++ (names ++ c))) → Precedes [] c → Precedes c (z ∷ []) → ⊥
    before-first [] there l m = none-before [] l
    before-first (y ∷ s) there l m = elim (heads-less y z s [] m) [
      | inl o ↦ (let c = child-at spelt (top ++ names) y (child-there bytes root holds top names y s there) in
          let n = order-child spelt (top ++ names) c.0 0 y z c.1 some c.2 first o in
          absurd (omega (arith, n)))
      | inr o ↦ none-before s o.1
    ]

  -- its first subkey
  pub first-next : (next : Node) → IsSubkey h root t.here.path (children_of spelt t.here.path) from 0 (Some next) → NextKey bytes root top names next
  first-next next s = by (subst (λ p. IsSubkey h root p (children_of spelt p) from 0 (Some next)) t.parts s)
    where
      by : IsSubkey h root (top ++ names) below from 0 (Some next) → NextKey bytes root top names next
      by s =
          let z = child-named spelt (top ++ names) 0 s.0 in
          record {
            names_next = names ++ z.0 ∷ [];
            at = ap (key_offset_at h root) (sym (append_assoc top names (z.0 ∷ [])) ∙ sym z.1) ∙ s.1;
            depth = (let d = t.depth in let e = s.2 in let l = length-append names (z.0 ∷ []) in omega (arith, d, e, l));
            behind = ap (λ n. path_cmp n (names ++ z.0 ∷ [])) (sym (append-nil names)) ∙ front-same names [] (z.0 ∷ []);
            first = λ q there l m.
                let r = between names [] (z.0 ∷ []) q (ap (λ n. path_cmp n q) (append-nil names) ∙ l) m in
                before-first z.0 s.0 z.1 r.0 (subst (λ q. IsSome (get spelt (top ++ q))) r.1 there) r.2 r.3;
          }

  -- ---- one step up

  module _ (node : Node) (c : Climbs bytes root top names node) where
    -- it is at or below the top
    abbrev pub climbs-top : HasTop bytes node
    climbs-top = record {
      here = record { root = root; table = t.here.table; path = top ++ c.over; holds = holds; at = c.at };
      top = top;
      names = c.over;
      parts = refl;
      depth = c.depth;
    }

    module _ (under : node.depth ≢ 0) (above : Node) (a : IsAbove bytes root (top ++ c.over) node above) (place : Place) (stands : StandsAt h node.offset place) where
      abbrev pub above-top : HasTop bytes above
      above-top = over-top bytes node climbs-top under above a

      abbrev front : Path
      front = above-top.names

      abbrev x : List ℕ
      x = (last-name bytes node climbs-top under).1

      over-is : c.over ≡ front ++ x ∷ []
      over-is = (last-name bytes node climbs-top under).2

      -- what is behind its name: that of the other key too
      all-is : names ≡ front ++ x ∷ c.behind
      all-is = c.parts ∙ (ap (λ p. p ++ c.behind) over-is ∙ append_assoc front (x ∷ []) c.behind)

      abbrev siblings : List Path
      siblings = children_of spelt (top ++ front)

      at-over : key_offset_at h root ((top ++ front) ++ x ∷ []) ≡ Some node.offset
      at-over = ap (key_offset_at h root) (append_assoc top front (x ∷ []) ∙ ap (λ p. top ++ p) (sym over-is)) ∙ c.at

      abbrev index : ℕ
      index = place_index h above.offset place

      position : (index < length siblings) × (get_or siblings index [] ≡ (top ++ front) ++ x ∷ [])
      position = place_there bytes root holds (top ++ front) x above.offset node.offset above-top.here.at at-over place stands

      pub place-above : IsPlaceOf h above.offset place
      place-above = place_of_parent bytes root holds (top ++ front) x above.offset node.offset above-top.here.at at-over place stands

      -- none below this key is behind the other one
      not-here : (s : Path) → IsSome (get spelt (top ++ (front ++ x ∷ s))) → Precedes c.behind s → ⊥
      not-here s there l =
          let e : front ++ x ∷ s ≡ c.over ++ s = sym (append_assoc front (x ∷ []) s) ∙ ap (λ p. p ++ s) (sym over-is) in
          c.last s (subst (λ q. IsSome (get spelt (top ++ q))) e there) (ap (λ n. path_cmp n (c.over ++ s)) c.parts ∙ (front-same c.over c.behind s ∙ l))

      -- it has no sibling behind it
      pub climbs-on : length siblings ≤ index + 1 → Climbs bytes root top names above
      climbs-on none = record {
        over = front;
        behind = x ∷ c.behind;
        parts = all-is;
        at = above-top.here.at;
        depth = above-top.depth;
        last = λ q there l. last q there (sym (front-same front (x ∷ c.behind) q) ∙ (ap (λ n. path_cmp n (front ++ q)) (sym all-is) ∙ l));
      }
        where
          last : (q : Path) → IsSome (get spelt (top ++ (front ++ q))) → Precedes (x ∷ c.behind) q → ⊥
          last [] there l = none-before (x ∷ c.behind) l
          last (y ∷ s) there l = elim (heads-less x y c.behind s l) [
            | inl o ↦ (let k = child-at spelt (top ++ front) y (child-there bytes root holds top front y s there) in
                let w = k.1 in
                let n = order-child spelt (top ++ front) index k.0 x y position.0 w position.1 k.2 o in
                absurd (omega (arith, n, w, none)))
            | inr o ↦ not-here s (subst (λ y. IsSome (get spelt (top ++ (front ++ y ∷ s)))) (sym o.0) there) o.1
          ]

      module _ (z : List ℕ) (some : index + 1 < length siblings) (next-is : get_or siblings (index + 1) [] ≡ (top ++ front) ++ z ∷ []) where
        -- what is behind the other key and not behind the sibling
        before-next : (d : Path) → IsSome (get spelt (top ++ (front ++ d))) → Precedes (x ∷ c.behind) d → Precedes d (z ∷ []) → ⊥
        before-next [] there l m = none-before (x ∷ c.behind) l
        before-next (y ∷ s) there l m = elim (heads-less x y c.behind s l) [
          | inl o ↦ elim (heads-less y z s [] m) [
            | inl u ↦ (let k = child-at spelt (top ++ front) y (child-there bytes root holds top front y s there) in
                let n = order-child spelt (top ++ front) index k.0 x y position.0 k.1 position.1 k.2 o in
                let v = order-child spelt (top ++ front) k.0 (index + 1) y z k.1 some k.2 next-is u in
                absurd (omega (arith, n, v)))
            | inr u ↦ none-before s u.1
          ]
          | inr o ↦ not-here s (subst (λ y. IsSome (get spelt (top ++ (front ++ y ∷ s)))) (sym o.0) there) o.1
        ]

        name-behind : name_order x z ≡ Less
        name-behind = child-order spelt (top ++ front) index (index + 1) x z (omega arith) some position.1 next-is

      -- the sibling behind it
      pub beside-next : (next : Node) → IsSubkey h root (top ++ front) siblings above (index + 1) (Some next) → NextKey bytes root top names next
      beside-next next s =
          let z = child-named spelt (top ++ front) (index + 1) s.0 in
          record {
            names_next = front ++ z.0 ∷ [];
            at = ap (key_offset_at h root) (sym (append_assoc top front (z.0 ∷ [])) ∙ sym z.1) ∙ s.1;
            depth = (let d = above-top.depth in let e = s.2 in let l = length-append front (z.0 ∷ []) in omega (arith, d, e, l));
            behind = ap (λ n. path_cmp n (front ++ z.0 ∷ [])) all-is
                ∙ (front-same front (x ∷ c.behind) (z.0 ∷ []) ∙ less-heads x z.0 c.behind [] (name-behind z.0 s.0 z.1));
            first = λ q there l m.
                let r = between front (x ∷ c.behind) (z.0 ∷ []) q (ap (λ n. path_cmp n q) (sym all-is) ∙ l) m in
                before-next z.0 s.0 z.1 r.0 (subst (λ q. IsSome (get spelt (top ++ q))) r.1 there) r.2 r.3;
          }

    -- ---- the top

    pub none-next : node.depth ≡ 0 → IsNextKey bytes root top names None
    none-next e = λ q there l.
        let none : c.over ≡ [] = no-names c.over (sym c.depth ∙ e) in
        c.last q (subst (λ p. IsSome (get spelt (top ++ (p ++ q)))) (sym none) there) (subst (λ p. Precedes names (p ++ q)) (sym none) l)
