-- A tree's nodes where keys were made.
use Rattle.std.proofs.Common.{◌≡◌, ◌≢◌, ◌↔◌, ℕ, ◌≤◌, Bool, true, false, Option, List, [], ◌++◌, map, length, refl, sym, ap, ◌∙◌, subst, arith, length-append}
use Rattle.std.specs.Prelude.{Result, Ok, Err, OnOk, OnErr, IfOk, IfErr}
use Rattle.reg_names.specs.declared.TheConstants.{PATH_LIMIT}
use Rattle.reg_names.specs.Names.{folded}
use Rattle.reg_heap.specs.Paths.{Path}
use Rattle.reg_heap.specs.Edits.{with_keys, missing, last_there}
use Rattle.reg_arena.specs.Arena.{Bins, heap_of}
use Rattle.reg_arena.specs.EachCell.{GrowsFor}
use Rattle.reg_values.specs.ValueLists.{Makes}
use Rattle.reg_security.specs.Rings.{DescriptorCells}
use Rattle.reg_index.specs.declared.Place.{Place}
use Rattle.reg_tree.specs.CellSizes.{BelongsThere, create_sizes, LacksRoom}
use Rattle.reg_tree.specs.KeyLengths.{ChangesLengths, NotesMade, with_first_length}
use Rattle.reg_tree.specs.declared.node.Node.{Node}
use Rattle.reg_tree.specs.declared.node.Created.{Created}
use Rattle.reg_tree.specs.declared.fault.TreeFault.{TreeFault}
use Rattle.reg_tree.specs.TreeKeys.{Keys, tree_in, IsAt, IsThere, KeepsNodes, MakesKeys}
use Rattle.reg_tree.specs.Internal.TreeInvariant.{TreeInvariant, IsHere}
use Rattle.reg_tree.specs.Internal.DescriptorChange.{KeepsFinds}
use Rattle.reg_tree.specs.Internal.KeyCreation.{IsCreated}
use Rattle.reg_tree.proofs.Invariant.NodeLemmas.{seen_as, here_at, of_tree}
use Rattle.reg_tree.proofs.PathWalk.PathSteps.{as-many}
use Rattle.reg_tree.proofs.Invariant.KeyOfTree.{shallow}

-- ---- what holds of each answer

pub if_ok : {A E : Type 0} (P Q : A → Type 0) (r : Result A E) → ((x : A) → P x → Q x) → IfOk r P → IfOk r Q
if_ok P Q (Ok x) f h = f x h
if_ok P Q (Err e) f h = h

pub on_made : {A E : Type 0} (P : A → Type 0) (Q : Type 0) (r : Result A E) → ((x : A) → P x → Q) → IfOk r P → OnOk r Q
on_made P Q (Ok x) f h = f x h
on_made P Q (Err e) f h = h

pub on_ok : {A E P Q : Type 0} (r : Result A E) → (P → Q) → OnOk r P → OnOk r Q
on_ok (Ok x) f h = f h
on_ok (Err e) f h = h

pub on_both : {A E P Q R : Type 0} (r : Result A E) → (P → Q → R) → OnOk r P → OnOk r Q → OnOk r R
on_both (Ok x) f h g = f h g
on_both (Err e) f h g = h

pub if_full : {A E P Q : Type 0} (full : E) (r : Result A E) → (P → Q) → IfErr r (λ fault. fault ≡ full → P) → IfErr r (λ fault. fault ≡ full → Q)
if_full full (Ok x) f h = h
if_full full (Err e) f h = λ same. f (h same)

module _ (bins : Bins) (root : ℕ) {table : DescriptorCells} (holds : TreeInvariant bins.bytes root table) (now : Keys) (view_is : seen_as bins root ≡ now) where
  pub from_at : (node : Node) → IsThere now node → (t : IsHere bins.bytes node.offset) × (t.table ≡ table) × (node.depth ≡ length t.path)
  from_at node some = (here_at bins root holds now view_is node some.0 some.1, refl, some.1.depth)

  -- the cells that come, and how the bins grew for them
  pub cells_created : {A E : Type 0} (new : Bins) (result : Result A E) (p : Path) (names : List (List ℕ)) (given : Option (List ℕ)) →
      OnOk result ((place : Place) × BelongsThere (seen_as bins root) p names place × Makes (heap_of bins) (heap_of new) (create_sizes (seen_as bins root) p names place given)
      × GrowsFor bins.bytes new.bytes (create_sizes (seen_as bins root) p names place given)) →
      OnOk result ((place : Place) × BelongsThere now p names place × Makes (heap_of now.bins) (heap_of new) (create_sizes now p names place given)
      × GrowsFor now.bins.bytes new.bytes (create_sizes now p names place given))
  cells_created new result p names given c =
      subst (λ (k : Keys). OnOk result ((place : Place) × BelongsThere k p names place × Makes (heap_of k.bins) (heap_of new) (create_sizes k p names place given)
      × GrowsFor k.bins.bytes new.bytes (create_sizes k p names place given))) view_is c

  -- no room for them
  pub room_created : {A E : Type 0} (full : E) (result : Result A E) (p : Path) (names : List (List ℕ)) (given : Option (List ℕ)) →
      IfErr result (λ fault. fault ≡ full → (place : Place) × BelongsThere (seen_as bins root) p names place × LacksRoom bins (create_sizes (seen_as bins root) p names place given)) →
      IfErr result (λ fault. fault ≡ full → (place : Place) × BelongsThere now p names place × LacksRoom now.bins (create_sizes now p names place given))
  room_created full result p names given c =
      subst (λ (k : Keys). IfErr result (λ fault. fault ≡ full → (place : Place) × BelongsThere k p names place × LacksRoom k.bins (create_sizes k p names place given))) view_is c

  -- where no key was made nothing changed
  pub same_created : (new : Bins) (result : Result Created TreeFault) → IfOk result (λ made. made.is_new ≡ false → new ≡ bins) →
      IfOk result (λ made. made.is_new ≡ false → seen_as new root ≡ now)
  same_created new result =
      if_ok (λ made. made.is_new ≡ false → new ≡ bins) (λ made. made.is_new ≡ false → seen_as new root ≡ now) result (λ made s none. ap (λ b. seen_as b root) (s none) ∙ view_is)

  -- after a fault the tree is whole as it was, and the table finds what it found
  pub holds_after : {A E : Type 0} (P : A → Type 0) (new : Bins) (after : DescriptorCells) (result : Result A E) → ((x : A) → P x → TreeInvariant new.bytes root after) →
      IfOk result P → OnErr result (new ≡ bins) → OnErr result (KeepsFinds table after) → TreeInvariant new.bytes root after
  holds_after P new after (Ok x) f h e k = f x h
  holds_after P new after (Err fault) f h e k =
      subst (λ (b : Bins). TreeInvariant b.bytes root after) (sym e)
      (record { keys = holds.keys; ring = holds.ring; shape = holds.shape; finds = k (heap_of bins) holds.ring holds.finds; classes = holds.classes })

  -- ---- a key was made, or there was none to be made

  module _ (new : Bins) (after : DescriptorCells) (from : Node) (names : List (List ℕ)) (given : Option (List ℕ)) (moment : ℕ) (p : Path) (at : IsAt now p from) (node : Node)
      (c : IsCreated bins.bytes new.bytes root after p from names given moment node) where
    tree_made : tree_in new.bytes root ≡ with_keys now.tree p names given moment
    tree_made = of_tree bins root holds now view_is (λ t. tree_in new.bytes root ≡ with_keys t p names given moment) c.tree

    last_made : IsAt (seen_as new root) (p ++ map folded names) node
    last_made =
        let d = at.depth in
        let e = c.depth in
        let l = length-append p (map folded names) in
        let m = as-many names in
        record { offset = c.offset; depth = omega (arith, d, e, l, m) }

    shallow_made : node.depth ≤ PATH_LIMIT
    shallow_made =
        let s = shallow new.bytes node.offset (record { root = root; table = after; path = p ++ map folded names; holds = c.holds; at = c.offset }) in
        let d = last_made.depth in
        omega (arith, s, d)

    nodes_made : KeepsNodes now (seen_as new root)
    nodes_made = subst (λ k. KeepsNodes k (seen_as new root)) view_is (λ q node at. record { offset = c.keeps q node.offset at.offset; depth = at.depth })

    -- the largest lengths
    pub lengths_made : ChangesLengths now (seen_as new root) (last_there now.tree p names) (with_first_length (missing now.tree p names))
    lengths_made =
        subst (λ (k : Keys). ChangesLengths k (seen_as new root) (last_there k.tree p names) (with_first_length (missing k.tree p names))) view_is
        (record { here = λ n a. c.lengths.here n.offset a.offset; others = λ q n d a. c.lengths.others q n.offset d a.offset })

    -- those of the keys that were made
    pub noted_made : NotesMade (seen_as new root) (last_there now.tree p names) (missing now.tree p names)
    noted_made =
        of_tree bins root holds now view_is (λ t. NotesMade (seen_as new root) (last_there t p names) (missing t p names))
        (λ front back node parts some there. c.noted front back node.offset parts some there.offset)

    -- all of it together
    pub keys_made : (is_new : Bool) → (is_new ≡ true) ↔ (missing (tree_in bins.bytes root) p names ≢ []) →
        MakesKeys now (seen_as new root) p names given moment (record { node = node; is_new = is_new })
    keys_made is_new n = record {
      tree = tree_made;
      last = last_made;
      is_new = of_tree bins root holds now view_is (λ t. (is_new ≡ true) ↔ (missing t p names ≢ [])) n;
      shallow = shallow_made;
      nodes = nodes_made;
    }

  -- ---- as it is answered

  module _ (new : Bins) (after : DescriptorCells) (result : Result Created TreeFault) (from : Node) (some : IsThere now from) (names : List (List ℕ)) (given : Option (List ℕ))
      (moment : ℕ) (ok : (t : IsHere bins.bytes from.offset) → t.table ≡ table → from.depth ≡ length t.path →
      IfOk result (λ made. IsCreated bins.bytes new.bytes t.root after t.path from names given moment made.node)) where
    abbrev Its : Path → Created → Type 0
    Its p made = IsCreated bins.bytes new.bytes root after p from names given moment made.node

    its : (p : Path) → IsAt now p from → IfOk result (Its p)
    its p at = ok (here_at bins root holds now view_is from p at) refl at.depth

    pub holds_created : OnErr result (new ≡ bins) → OnErr result (KeepsFinds table after) → TreeInvariant new.bytes root after
    holds_created err kept = holds_after (Its some.0) new after result (λ made c. c.holds) (its some.0 some.1) err kept

    pub lengths_created : (p : Path) → IsAt now p from →
        OnOk result (ChangesLengths now (seen_as new root) (last_there now.tree p names) (with_first_length (missing now.tree p names)))
    lengths_created p at = on_made (Its p) _ result (λ made c. lengths_made new after from names given moment p at made.node c) (its p at)

    pub noted_created : (p : Path) → IsAt now p from → OnOk result (NotesMade (seen_as new root) (last_there now.tree p names) (missing now.tree p names))
    noted_created p at = on_made (Its p) _ result (λ made c. noted_made new after from names given moment p at made.node c) (its p at)

    pub keys_created : (new_is : (t : IsHere bins.bytes from.offset) → IfOk result (λ made. (made.is_new ≡ true) ↔ (missing (tree_in bins.bytes t.root) t.path names ≢ [])))
        → (p : Path) → IsAt now p from → IfOk result (λ made. MakesKeys now (seen_as new root) p names given moment made)
    keys_created new_is p at = by result (its p at) (new_is (here_at bins root holds now view_is from p at))
      where
        by : (r : Result Created TreeFault) → IfOk r (Its p) → IfOk r (λ made. (made.is_new ≡ true) ↔ (missing (tree_in bins.bytes root) p names ≢ [])) →
            IfOk r (λ made. MakesKeys now (seen_as new root) p names given moment made)
        by (Ok made) c n = keys_made new after from names given moment p at made.node c made.is_new n
        by (Err fault) c n = c
