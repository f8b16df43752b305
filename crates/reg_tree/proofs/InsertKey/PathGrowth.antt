-- Keys made one below the other: what stands after each.
use Rattle.std.proofs.Common.{◌≢◌, ◌⊎◌, inl, inr}
use Rattle.std.proofs.Common.{◌≡◌, ℕ, ◌+◌, ◌-◌, ◌≤◌, ◌<◌, Bool, true, false, cond, ◌&&◌, nat_lt, nat_le, Option, Some, None, IsSome, is_some, List, [], ◌∷◌, ◌++◌, map, length, drop, take}
use Rattle.std.proofs.Common.{refl, sym, ap, ◌∙◌, subst, arith, length-append, length-drop}
use Rattle.std.specs.List.{list_all}
use Rattle.std.specs.Option.{option_and_then, option_map}
use Rattle.std.specs.Ordering.{is_eq, eq_by_cmp}
use Rattle.std.proofs.lemmas.Bool.{and_parts}
use Rattle.std.proofs.lemmas.Bool.Decides.{nat_tests}
use Rattle.std.proofs.lemmas.Cmp.{tied_itself}
use Rattle.std.proofs.lemmas.List.{append-nil, append_assoc, take_all}
use Rattle.std.proofs.lemmas.Option.{none-some, same_Some}
use Rattle.reg_names.specs.declared.TheConstants.{PATH_LIMIT, KEY_NAME_LIMIT}
use Rattle.reg_arena.specs.Cells.{cell_at}
use Rattle.reg_names.specs.Names.{folded, path_of, is_path, is_key_name, is_key_name_byte, IsFirst}
use Rattle.reg_heap.specs.Paths.{Path, Tree, path_cmp}
use Rattle.reg_heap.specs.Edits.{child_path, has_child, if_last, with_key, with_keys}
use Rattle.reg_heap.specs.Heaps.{Heap}
use Rattle.reg_heap.specs.Kinds.{times, is_own}
use Rattle.reg_records.specs.KeyNodes.{KeyRecord, key_at}
use Rattle.reg_shape.specs.Internal.Shapes.{index_cells}
use Rattle.reg_shape.proofs.Wholeness.ShapeCounts.{tally-append}
use Rattle.reg_shape.proofs.Wholeness.ShapeRecords.{at-most-one, is-allocated}
use Rattle.reg_tree.specs.KeyLengths.{Lengths, lengths_at, with_first_length}
use Rattle.reg_tree.specs.Internal.LengthChanges.{LengthsChange, MadeLengths, WhichLengths}
use Rattle.reg_tree.specs.Internal.KeyNodeChanges.{LeavesOthers}
use Rattle.reg_index.proofs.SubkeysFrame.{owned-index}
use Rattle.reg_shape.specs.Internal.Forests.{Branch}
use Rattle.reg_heap.proofs.ChildrenOfPath.{path-is}
use Rattle.reg_index.specs.declared.Place.{Place}
use Rattle.reg_shape.specs.Nodes.{Node}
use Rattle.reg_shape.specs.Spelt.{rec_of}
use Rattle.reg_shape.specs.Internal.Shapes.{descriptor_in, tree_of}
use Rattle.reg_shape.specs.Internal.Grafts.{IsShape, branch_at}
use Rattle.reg_shape.specs.Whole.{descriptor_at}
use Rattle.reg_shape.specs.PathLookup.{key_offset_at, subkey_named}
use Rattle.reg_shape.proofs.Refinement.SpeltTrees.{path_total}
use Rattle.reg_shape.proofs.Lookup.LookupOfShape.{offset-more, offset-append}
use Rattle.reg_index.specs.Subkeys.{KeepsCells, own}
use Rattle.reg_index.proofs.SubkeysOpening.{own-is}
use Rattle.reg_tree.specs.declared.node.Node.{Node as TreeNode}
use Rattle.reg_tree.specs.CellSizes.{first_cells, first_place, own_sizes, planned}
use Rattle.reg_tree.specs.Internal.SpareCells.{IsGrowing, MayGrow, Grows, AreReady, MayGrowAll, GrowsAll}
use Rattle.reg_tree.proofs.InsertKey.SpareCellsKept.{ready-kept, left-spare}
use Rattle.reg_tree.proofs.InsertKey.LengthsOfMade.{none_made, one_below, one_more}
use Rattle.reg_tree.proofs.Invariant.KeyOfShape as keyed

-- a key's name has at most 255 bytes
pub name_short : (name : List ℕ) → is_key_name name ≡ true → length name ≤ KEY_NAME_LIMIT
name_short name e = let l = (and_parts (list_all is_key_name_byte name && nat_lt 0 (length name)) (nat_le (length name) KEY_NAME_LIMIT) e).1 in grind (arith, nat_tests)

-- a slice to the end is what is left
pub rest_all : (n : ℕ) (xs : List ℕ) → take (length xs - n) (drop n xs) ≡ drop n xs
rest_all n xs = take_all (length xs - n) (drop n xs) (omega (arith, length-drop n xs))

pub path-self : (q : Path) → eq_by_cmp path_cmp q q ≡ true
path-self q = ap is_eq (tied_itself path_total q)

-- the descriptor is given to none, whether names are left or not
pub none_given : (names : List (List ℕ)) → if_last names None ≡ None
none_given [] = refl
none_given (name ∷ names) = refl

one_shared : (t : Tree) (p : Path) (name : List ℕ) (names : List (List ℕ)) (moment : ℕ) →
    with_keys (cond (has_child t p name) t (with_key t p name None moment)) (child_path p name) names None moment ≡ with_keys t p (name ∷ names) None moment
one_shared t p name names moment =
    ap (λ o. with_keys (cond (has_child t p name) t (with_key t p name o moment)) (child_path p name) names None moment) (sym (none_given names))

-- ---- a key that is not there

module _ (bytes : List ℕ) (key : ℕ) (spare : List ℕ) (g : IsGrowing bytes key spare) (name : List ℕ) (missing : subkey_named (cell_at bytes) (folded name) key ≡ None) where
  abbrev h : Heap
  h = cell_at bytes

  pub offset_missing : key_offset_at h g.root (child_path g.path name) ≡ None
  offset_missing =
      offset-append h g.root g.path (folded name ∷ [])
      ∙ (ap (option_and_then (λ c. key_offset_at h c (folded name ∷ []))) g.at
      ∙ (offset-more h key (folded name) [] ∙ ap (option_and_then (λ c. key_offset_at h c [])) missing))

  pub no_child : has_child (tree_of h g.keys) g.path name ≡ false
  no_child = ap is_some (keyed.rec_in h g.root g.keys g.ring spare g.shape (child_path g.path name) ∙
      by (branch_at (child_path g.path name) g.keys) (sym (keyed.key_offset_in h g.root g.keys g.ring spare g.shape (child_path g.path name)) ∙
      offset_missing))
    where
      by : (o : Option (Branch Node)) → option_map (λ (b : Branch Node). b.offset) o ≡ None → option_map (λ (b : Branch Node). rec_of b.node (descriptor_in h b.node.key.fields.security)) o ≡ None
      by None e = refl
      by (Some b) e = absurd (none-some _ (sym e))

-- ---- spare cells are there, and are in no list

module _ (bytes : List ℕ) (key : ℕ) (spare : List ℕ) (g : IsGrowing bytes key spare) where
  spare_there : (z : ℕ) → 0 < times z spare → IsSome (cell_at bytes z)
  spare_there z l = let e = g.shape.exact z in is-allocated (cell_at bytes) z (omega (arith, e, l))

  spare_apart : (k : KeyRecord) → key_at (cell_at bytes) key ≡ Some k → (z : ℕ) → 0 < times z spare →
      times z (own (cell_at bytes) k.fields.subkeys k.fields.subkeys_list) ≡ 0
  spare_apart k reads z l =
      let h = cell_at bytes in
      let b = keyed.branch h g.root g.keys g.ring spare g.shape g.path key g.at in
      let once = keyed.branch_once h g.root g.keys g.ring spare g.shape g.path key g.at z in
      let one = at-most-one h z in
      let parts = tally-append (is_own z) b.node.cells (index_cells b.node.index) in
      let looked = keyed.looked h g.root g.keys g.ring spare g.shape g.path key g.at in
      let list = owned-index z b.node.index in
      let is = ap (times z) (own-is h b.node.key.fields.subkeys b.node.key.fields.subkeys_list b.node.index looked.index_is) in
      let same = same_Some _ _ (sym reads ∙ keyed.key_is h g.root g.keys g.ring spare g.shape g.path key g.at) in
      ap (λ (k : KeyRecord). times z (own h k.fields.subkeys k.fields.subkeys_list)) same ∙ omega (arith, once, one, parts, list, is, l)

-- ---- the largest lengths

-- no key was made, and none has other lengths; or the first was, and the path leads to a key that was not there before
abbrev NotedSoFar : Heap → Heap → ℕ → Path → List (List ℕ) → Path → List (List ℕ) → Type 0
NotedSoFar old new root path names at rest =
    ((names ≡ rest) × (at ≡ path) × ((q : Path) (o : ℕ) → key_offset_at old root q ≡ Some o → lengths_at new o ≡ lengths_at old o))
    ⊎ (((q : Path) (o : ℕ) → key_offset_at old root q ≡ Some o → q ≢ at) × LengthsChange old new root path (with_first_length names))

pub unchanged : (l : Option Lengths) → l ≡ option_map (with_first_length []) l
unchanged None = refl
unchanged (Some l) = refl

noted_all : (old new : Heap) (root : ℕ) (path : Path) (names : List (List ℕ)) (at : Path) (rest : List (List ℕ)) → rest ≡ [] → NotedSoFar old new root path names at rest →
    LengthsChange old new root path (with_first_length names)
noted_all old new root path names at rest e (inl s) =
    subst (λ ns. LengthsChange old new root path (with_first_length ns)) (sym (s.0 ∙ e))
    (record { here = λ o found. s.2 path o found ∙ unchanged (lengths_at old o); others = λ q o n found. s.2 q o found })
noted_all old new root path names at rest e (inr s) = s.1

-- ---- on the way

-- some of the keys were made: a node, what is left of the path and of the spare cells, and that the rest leads to the same end
pub record Midway (bytes0 : List ℕ) (from : TreeNode) (names0 : List (List ℕ)) (place0 : Place) (last spare0 : List ℕ) (m : MayGrowAll bytes0 from names0 place0 last spare0)
    (moment : ℕ) (bytes : List ℕ) (node : TreeNode) (rest : List ℕ) (place : Place) (spare : List ℕ) : Type 0 where
  pub grow : MayGrowAll bytes node (path_of rest) place last spare
  pub root_is : grow.growing.root ≡ m.growing.root
  pub ring_is : grow.growing.ring ≡ m.growing.ring
  pub valid : is_path rest ≡ true
  pub tree : with_keys (tree_of (cell_at bytes) grow.growing.keys) grow.growing.path (path_of rest) None moment ≡
      with_keys (tree_of (cell_at bytes0) m.growing.keys) m.growing.path names0 None moment
  pub end : grow.growing.path ++ map folded (path_of rest) ≡ m.growing.path ++ map folded names0
  pub depth : node.depth + length (path_of rest) ≡ from.depth + length names0
  pub keeps : (q : Path) (o : ℕ) → key_offset_at (cell_at bytes0) m.growing.root q ≡ Some o → key_offset_at (cell_at bytes) m.growing.root q ≡ Some o
  pub lengths : NotedSoFar (cell_at bytes0) (cell_at bytes) m.growing.root m.growing.path names0 grow.growing.path (path_of rest)
  pub done : List (List ℕ)
  pub parts : names0 ≡ done ++ path_of rest
  pub at_is : grow.growing.path ≡ m.growing.path ++ map folded done
  pub noted : MadeLengths (cell_at bytes) m.growing.root m.growing.path done
  pub keeps_cells : KeepsCells (cell_at bytes0) (cell_at bytes)
  pub stay : (z : ℕ) → 0 < times z spare0 → IsSome (cell_at bytes z)
  pub apart : (k : KeyRecord) → key_at (cell_at bytes) node.offset ≡ Some k → (z : ℕ) → 0 < times z spare0 → times z (own (cell_at bytes) k.fields.subkeys k.fields.subkeys_list) ≡ 0
  pub described : (z : ℕ) → 0 < times z m.growing.ring → descriptor_at (cell_at bytes) z ≡ descriptor_at (cell_at bytes0) z
  pub left : (z : ℕ) → 0 < times z last → cell_at bytes z ≡ cell_at bytes0 z

pub at_start : (bytes : List ℕ) (from : TreeNode) (path : List ℕ) (place : Place) (last spare : List ℕ) (m : MayGrowAll bytes from (path_of path) place last spare) (moment : ℕ) →
    is_path path ≡ true → Midway bytes from (path_of path) place last spare m moment bytes from path place spare
at_start bytes from path place last spare m moment v = record {
  grow = m;
  root_is = refl;
  ring_is = refl;
  valid = v;
  tree = refl;
  end = refl;
  depth = refl;
  keeps = λ q o e. e;
  lengths = inl (refl, refl, λ q o e. refl);
  done = [];
  parts = refl;
  at_is = sym (append-nil m.growing.path);
  noted = none_made (cell_at bytes) m.growing.root m.growing.path;
  keeps_cells = λ z some. (some, refl);
  stay = spare_there bytes from.offset spare m.growing;
  apart = spare_apart bytes from.offset spare m.growing;
  described = λ z l. refl;
  left = λ z l. refl;
}

module _ (bytes0 : List ℕ) (from : TreeNode) (names0 : List (List ℕ)) (place0 : Place) (last spare0 : List ℕ) (m : MayGrowAll bytes0 from names0 place0 last spare0) (moment : ℕ)
    (bytes : List ℕ) (node : TreeNode) (rest : List ℕ) (place : Place) (spare : List ℕ) (mid : Midway bytes0 from names0 place0 last spare0 m moment bytes node rest place spare) where
  pub deep_now : from.depth ≤ PATH_LIMIT → node.depth + 1 < 4096
  deep_now d = let e = mid.depth in let l = m.deep in omega (arith, d, e, l)

  module _ (name behind : List ℕ) (f : IsFirst rest name behind) where
    abbrev g : IsGrowing bytes node.offset spare
    g = mid.grow.growing

    abbrev pub may_next : MayGrow bytes node.offset spare name
    may_next = record {
      growing = g;
      missing = mid.grow.missing name (path_of behind) f.names;
      deep = (let d = mid.grow.deep in let n = ap length f.names in omega (arith, d, n));
      few = mid.grow.few;
    }

    pub ready_next : AreReady (cell_at bytes) last (planned (cell_at bytes) node.offset place) (own_sizes name ∷ map own_sizes (path_of behind)) spare
    ready_next = subst (λ ns. AreReady (cell_at bytes) last (planned (cell_at bytes) node.offset place) (map own_sizes ns) spare) f.names mid.grow.ready

    module _ (new : List ℕ) (made : ℕ) (left : List ℕ)
        (grows : Grows (cell_at bytes) (cell_at new) g.root g.path g.keys g.ring made left name moment) (ready : AreReady (cell_at bytes) last first_cells
        (map own_sizes (path_of behind)) left) (kept : KeepsCells (cell_at bytes) (cell_at new))
        (leaves : (r : KeyRecord) → key_at (cell_at bytes) node.offset ≡ Some r → LeavesOthers (cell_at bytes) (cell_at new) (own (cell_at bytes) r.fields.subkeys r.fields.subkeys_list)) where
      abbrev k : Heap
      k = cell_at new

      abbrev growing_then : IsGrowing new made left
      growing_then = record {
        root = g.root;
        path = child_path g.path name;
        keys = grows.now;
        ring = g.ring;
        shape = grows.shape;
        at = grows.offsets (child_path g.path name) ∙ ap (λ b. cond b (Some made) (key_offset_at (cell_at bytes) g.root (child_path g.path name))) (path-self (child_path g.path name));
      }

      deep_then : length (child_path g.path name) + length (path_of behind) ≤ PATH_LIMIT
      deep_then =
          let d = mid.grow.deep in
          let n : length (path_of rest) ≡ 1 + length (path_of behind) = ap length f.names ∙ omega arith in
          let l = length-append g.path (folded name ∷ []) in
          omega (arith, d, n, l)

      abbrev grow_then : MayGrowAll new (record { offset = made; depth = node.depth + 1 }) (path_of behind) first_place last left
      grow_then = record {
        growing = growing_then;
        missing = λ n others e. grows.childless (folded n);
        deep = deep_then;
        few = λ r e. (let z = grows.none r e in omega (arith, z));
        ready = subst (λ o. AreReady k last o (map own_sizes (path_of behind)) left) (sym grows.unlisted)
            (ready-kept (cell_at bytes) k last first_cells (map own_sizes (path_of behind)) left grows.spare ready);
      }

      keeps_then : (q : Path) (o : ℕ) → key_offset_at (cell_at bytes) g.root q ≡ Some o → key_offset_at k g.root q ≡ Some o
      keeps_then q o e = grows.offsets q ∙ by (eq_by_cmp path_cmp q (child_path g.path name)) refl
        where
          by : (b : Bool) → eq_by_cmp path_cmp q (child_path g.path name) ≡ b → cond b (Some made) (key_offset_at (cell_at bytes) g.root q) ≡ Some o
          by true t = absurd (none-some _ (sym (ap (key_offset_at (cell_at bytes) g.root) (path-is q (child_path g.path name) t) ∙ offset_missing bytes node.offset spare g name may_next.missing) ∙ e))
          by false t = e

      node_is : (r : KeyRecord) × (key_at (cell_at bytes) node.offset ≡ Some r)
      node_is = (
        (keyed.branch (cell_at bytes) g.root g.keys g.ring spare g.shape g.path node.offset g.at).node.key,
        keyed.key_is (cell_at bytes) g.root g.keys g.ring spare g.shape g.path node.offset g.at,
      )

      at_mid : (q : Path) (o : ℕ) → key_offset_at (cell_at bytes0) m.growing.root q ≡ Some o → key_offset_at (cell_at bytes) g.root q ≡ Some o
      at_mid q o e = subst (λ r. key_offset_at (cell_at bytes) r q ≡ Some o) (sym mid.root_is) (mid.keeps q o e)

      apart_then : (q : Path) (o : ℕ) → key_offset_at (cell_at bytes0) m.growing.root q ≡ Some o → q ≢ child_path g.path name
      apart_then q o e same =
          none-some _ (sym (ap (key_offset_at (cell_at bytes) g.root) same ∙ offset_missing bytes node.offset spare g name may_next.missing) ∙ at_mid q o e)

      step : (q : Path) (o : ℕ) → key_offset_at (cell_at bytes0) m.growing.root q ≡ Some o → WhichLengths (cell_at bytes) k g.path (with_first_length (name ∷ [])) q o
      step q o e = grows.lengths q o (at_mid q o e) (keeps_then q o (at_mid q o e))

      noted_then : NotedSoFar (cell_at bytes0) (cell_at bytes) m.growing.root m.growing.path names0 g.path (path_of rest) →
          LengthsChange (cell_at bytes0) k m.growing.root m.growing.path (with_first_length names0)
      noted_then (inl s) = record { here = λ o e. at_first o e (step m.growing.path o e); others = λ q o n e. elsewhere q o n e (step q o e) }
        where
          at_first : (o : ℕ) → key_offset_at (cell_at bytes0) m.growing.root m.growing.path ≡ Some o →
              WhichLengths (cell_at bytes) k g.path (with_first_length (name ∷ [])) m.growing.path o → lengths_at k o ≡ option_map (with_first_length names0) (lengths_at (cell_at bytes0) o)
          at_first o e (inl t) =
              t.1
              ∙ (ap (option_map (with_first_length (name ∷ path_of behind))) (s.2 m.growing.path o e)
              ∙ ap (λ ns. option_map (with_first_length ns) (lengths_at (cell_at bytes0) o)) (sym (s.0 ∙ f.names)))
          at_first o e (inr t) = absurd (t.0 (sym s.1))

          elsewhere : (q : Path) (o : ℕ) → q ≢ m.growing.path → key_offset_at (cell_at bytes0) m.growing.root q ≡ Some o →
              WhichLengths (cell_at bytes) k g.path (with_first_length (name ∷ [])) q o → lengths_at k o ≡ lengths_at (cell_at bytes0) o
          elsewhere q o n e (inl t) = absurd (n (t.0 ∙ s.1))
          elsewhere q o n e (inr t) = t.1 ∙ s.2 q o e
      noted_then (inr s) = record { here = λ o e. still m.growing.path o e (step m.growing.path o e) ∙ s.1.here o e; others = λ q o n e. still q o e (step q o e) ∙ s.1.others q o n e }
        where
          still : (q : Path) (o : ℕ) → key_offset_at (cell_at bytes0) m.growing.root q ≡ Some o →
              WhichLengths (cell_at bytes) k g.path (with_first_length (name ∷ [])) q o → lengths_at k o ≡ lengths_at (cell_at bytes) o
          still q o e (inl t) = absurd (s.0 q o e t.0)
          still q o e (inr t) = t.1

      tree_then : with_keys (tree_of k grows.now) (child_path g.path name) (path_of behind) None moment ≡ with_keys (tree_of (cell_at bytes) g.keys) g.path (path_of rest) None moment
      tree_then =
          ap (λ (t : Tree). with_keys t (child_path g.path name) (path_of behind) None moment) grows.tree
          ∙ (ap (λ b. with_keys (cond b (tree_of (cell_at bytes) g.keys) (with_key (tree_of (cell_at bytes) g.keys) g.path name None moment))
          (child_path g.path name) (path_of behind) None moment) (sym (no_child bytes node.offset spare g name may_next.missing))
          ∙ (one_shared (tree_of (cell_at bytes) g.keys) g.path name (path_of behind) moment
          ∙ ap (λ ns. with_keys (tree_of (cell_at bytes) g.keys) g.path ns None moment) (sym f.names)))

      pub one_further : Midway bytes0 from names0 place0 last spare0 m moment new (record { offset = made; depth = node.depth + 1 }) behind first_place left
      one_further = record {
        grow = grow_then;
        root_is = mid.root_is;
        ring_is = mid.ring_is;
        valid = f.valid;
        tree = tree_then ∙ mid.tree;
        end = append_assoc g.path (folded name ∷ []) (map folded (path_of behind)) ∙ (ap (λ ns. g.path ++ map folded ns) (sym f.names) ∙ mid.end);
        depth = (let d = mid.depth in let n = ap length f.names in omega (arith, d, n));
        keeps = λ q o e. subst (λ r. key_offset_at k r q ≡ Some o) mid.root_is (keeps_then q o (subst (λ r. key_offset_at (cell_at bytes) r q ≡ Some o) (sym mid.root_is) (mid.keeps q o e)));
        lengths = inr (apart_then, noted_then mid.lengths);
        done = mid.done ++ name ∷ [];
        parts = mid.parts ∙ (ap (λ ns. mid.done ++ ns) f.names ∙ sym (append_assoc mid.done (name ∷ []) (path_of behind)));
        at_is = sym (one_below m.growing.path mid.done name g.path mid.at_is);
        noted = subst (λ r. MadeLengths k r m.growing.path (mid.done ++ name ∷ [])) mid.root_is
            (one_more (cell_at bytes) k g.root m.growing.path mid.done name made g.path mid.at_is grows.offsets grows.fresh grows.lengths
            (subst (λ r. MadeLengths (cell_at bytes) r m.growing.path mid.done) (sym mid.root_is) mid.noted));
        keeps_cells = λ z some. (let q = kept z some in let p = mid.keeps_cells z q.0 in (p.0, q.1 ∙ p.1));
        stay = λ z l. leaves node_is.0 node_is.1 z (mid.stay z l) (mid.apart node_is.0 node_is.1 z l);
        apart = λ r e z l. ap (λ n. times z (own k n r.fields.subkeys_list)) (grows.none r e);
        described = λ z l. grows.described z (subst (λ ring. 0 < times z ring) (sym mid.ring_is) l) ∙ mid.described z l;
        left = λ z l. grows.spare z (left-spare (cell_at bytes) last first_cells (map own_sizes (path_of behind)) left ready z l) ∙ mid.left z l;
      }

  -- nothing is left of the path, and so the spare cells are those that are left
  pub at_end : path_of rest ≡ [] → GrowsAll (cell_at bytes0) (cell_at bytes) m.growing.root m.growing.path m.growing.keys m.growing.ring last from node names0 moment
  at_end e =
      let g = mid.grow.growing in
      let same : spare ≡ last = subst (λ ns. AreReady (cell_at bytes) last (planned (cell_at bytes) node.offset place) (map own_sizes ns) spare) e mid.grow.ready in
      record {
        now = g.keys;
        shape = subst (λ r. IsShape (cell_at bytes) r g.keys m.growing.ring last) mid.root_is
            (subst (λ r. IsShape (cell_at bytes) g.root g.keys r last) mid.ring_is
            (subst (λ s. IsShape (cell_at bytes) g.root g.keys g.ring s) same g.shape));
        spare = mid.left;
        tree = ap (λ ns. with_keys (tree_of (cell_at bytes) g.keys) g.path ns None moment) (sym e) ∙ mid.tree;
        offset = subst (λ q. key_offset_at (cell_at bytes) m.growing.root q ≡ Some node.offset) (sym (append-nil g.path) ∙
            (ap (λ ns. g.path ++ map folded ns) (sym e) ∙ mid.end))
            (subst (λ r. key_offset_at (cell_at bytes) r g.path ≡ Some node.offset) mid.root_is g.at);
        depth = (let d = mid.depth in let n = ap length e in omega (arith, d, n));
        keeps = mid.keeps;
        lengths = noted_all _ _ _ _ _ _ _ e mid.lengths;
        noted = subst (MadeLengths (cell_at bytes) m.growing.root m.growing.path) (sym (mid.parts ∙ (ap (λ ns. mid.done ++ ns) e ∙ append-nil mid.done))) mid.noted;
        described = mid.described;
      }
