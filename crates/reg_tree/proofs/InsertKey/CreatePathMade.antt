-- The keys of a path made where they are missing, in cells that were carved for them.
use Rattle.std.proofs.Common.{◌≡◌, ℕ, ◌+◌, ◌≤◌, ◌<◌, Option, Some, None, IsSome, is_some, List, [], ◌∷◌, ◌++◌, map, length, refl, sym, ap, ◌∙◌, subst}
use Rattle.std.proofs.Common.{arith, length-append, inl, inr}
use Rattle.reg_arena.specs.EachCell.{GrowsFor}
use Rattle.std.specs.Option.{option_map}
use Rattle.std.proofs.lemmas.Bool.{false≢true}
use Rattle.std.proofs.lemmas.List.{append-nil}
use Rattle.std.proofs.lemmas.Option.{same_Some}
use Rattle.reg_names.specs.declared.TheConstants.{PATH_LIMIT}
use Rattle.reg_names.specs.Names.{folded, path_of}
use Rattle.reg_heap.specs.declared.limits.TheConstants.{SUBKEYS_LIMIT}
use Rattle.reg_heap.specs.Paths.{Path, Tree}
use Rattle.reg_heap.specs.Edits.{with_keys, missing, last_there}
use Rattle.reg_heap.specs.Heaps.{Heap, CellFrame}
use Rattle.reg_heap.specs.Kinds.{times}
use Rattle.reg_arena.specs.Arena.{Bins}
use Rattle.reg_arena.specs.Cells.{cell_at}
use Rattle.reg_records.specs.KeyNodes.{KeyRecord, key_at}
use Rattle.reg_records.specs.KeySecurities.{KeySecurityRecord}
use Rattle.reg_shape.specs.Whole.{descriptor_at}
use Rattle.reg_shape.specs.PathLookup.{key_offset_at, subkey_named}
use Rattle.reg_security.specs.Rings.{DescriptorCells}
use Rattle.reg_security.proofs.TableCells.{finds-same}
use Rattle.reg_tree.specs.declared.node.Node.{Node as TreeNode}
use Rattle.reg_index.specs.declared.IndexCells.{IndexCells}
use Rattle.reg_index.specs.declared.Place.{Place}
use Rattle.reg_index.specs.Subkeys.{KeepsCells}
use Rattle.reg_values.specs.ValueLists.{Makes}
use Rattle.reg_tree.specs.TreeKeys.{Keys, tree_in}
use Rattle.reg_records.proofs.KeyNodeCodec.{key_at-same}
use Rattle.reg_records.proofs.KeySecurityCodec.{security_at-same}
use Rattle.reg_shape.proofs.Wholeness.ShapeRecords.{at-most-one, allocated-is}
use Rattle.reg_tree.specs.KeyLengths.{lengths_of, lengths_at, with_first_length}
use Rattle.reg_tree.specs.Internal.LengthChanges.{LengthsChange, MadeLengths}
use Rattle.reg_tree.specs.CellSizes.{planned, planned_at, first_place, own_sizes, sizes_of, made_sizes, given_sizes, create_sizes, BelongsThere, LacksRoom}
use Rattle.reg_tree.specs.Internal.TreeInvariant.{HasShortClasses, TreeInvariant, IsHere}
use Rattle.reg_tree.specs.Internal.PathWalks.{Stops, Reaches}
use Rattle.reg_tree.specs.Internal.ReachedPlaces.{BelongsFirst}
use Rattle.reg_tree.specs.Internal.SpareCells.{HaveSizes, MayGrowAll, GrowsAll, IsSpared}
use Rattle.reg_tree.specs.Internal.KeyCreation.{IsCreated, IsGrownAll}
use Rattle.reg_tree.proofs.Invariant.ShortClasses.{made-short}
use Rattle.reg_tree.proofs.Invariant.KeyOfTree.{spelt_of, spelt_is, key_there}
use Rattle.reg_tree.proofs.Invariant.CellReadings.{key-exists}
use Rattle.reg_tree.proofs.PathWalk.PathSteps.{as-many, here_then}
use Rattle.reg_tree.proofs.InsertKey.SpareCellsKept.{sizes-kept}
use Rattle.reg_tree.proofs.InsertKey.SpareCellsCarved.{tree-spared, offsets-spared, place-within, planned-then, belongs-then, may_grow_all}
use Rattle.reg_tree.proofs.InsertKey.MadeCells.{made_makes}
use Rattle.reg_tree.proofs.InsertKey.CreatePath as reached

-- ---- keys made

-- where no cell is left, the table finds them as before
pub created : (old new : List ℕ) (from : TreeNode) (t : IsHere old from.offset) (names : List (List ℕ)) (moment : ℕ) (made : TreeNode) →
    IsGrownAll old new t.root t.path names moment t.holds.ring [] from made → IsCreated old new t.root t.table t.path from names None moment made
created old new from t names moment made g =
    let tree = spelt_of new t.root g.now t.holds.ring g.shape ∙ g.tree in
    record {
      holds = record {
        keys = g.now;
        ring = t.holds.ring;
        shape = g.shape;
        finds = finds-same t.table (cell_at old) (cell_at new) t.holds.ring t.holds.finds g.described;
        classes = subst HasShortClasses (sym tree) (made-short (tree_in old t.root) t.path names None moment t.holds.classes);
      };
      tree = tree;
      offset = g.offset;
      depth = g.depth;
      keeps = g.keeps;
      lengths = g.lengths;
      noted = g.noted;
    }

-- ---- the largest lengths where cells were carved

carved_lengths : (old mid : List ℕ) (root : ℕ) {table : DescriptorCells} → TreeInvariant old root table → (spare : List ℕ) → CellFrame (cell_at old) (cell_at mid) (λ z. 0) (λ z. times z spare) →
    (q : Path) (o : ℕ) → key_offset_at (cell_at old) root q ≡ Some o → lengths_at (cell_at mid) o ≡ lengths_at (cell_at old) o
carved_lengths old mid root {table} holds spare come q o e =
    let there = key-exists (cell_at old) o (key_there old o (record { root = root; table = table; path = q; holds = holds; at = e })) in
    let one = allocated-is (cell_at old) o there in
    let most = at-most-one (cell_at mid) o in
    let count = come.count o in
    ap (option_map lengths_of) (key_at-same (cell_at old) (cell_at mid) o (come.same o refl (omega (arith, one, most, count))))

-- the securities describe what they did
carved_described : (old mid : List ℕ) (root : ℕ) {table : DescriptorCells} (holds : TreeInvariant old root table) (spare : List ℕ) →
    CellFrame (cell_at old) (cell_at mid) (λ z. 0) (λ z. times z spare) → (z : ℕ) → 0 < times z holds.ring → descriptor_at (cell_at mid) z ≡ descriptor_at (cell_at old) z
carved_described old mid root holds spare come z l =
    let x = holds.shape.exact z in
    let most = at-most-one (cell_at mid) z in
    let count = come.count z in
    ap (option_map (λ (s : KeySecurityRecord). s.descriptor)) (security_at-same (cell_at old) (cell_at mid) z (come.same z refl (omega (arith, x, most, count, l))))

-- ---- below the last key that is there on a path

module _ (old : List ℕ) (from : TreeNode) (t : IsHere old from.offset) (path : List ℕ) (parent : TreeNode) (rest : List ℕ) (r : Reaches (cell_at old) from path parent rest) (moment : ℕ) where
  abbrev names : List (List ℕ)
  names = path_of path

  abbrev left : List (List ℕ)
  left = path_of rest

  abbrev passed : List (List ℕ)
  passed = r.passes.names

  abbrev tree : Tree
  tree = tree_in old t.root

  abbrev parent_here : IsHere old parent.offset
  parent_here = reached.parent_here old from t path parent rest r moment

  last-is : last_there tree t.path names ≡ t.path ++ map folded passed
  last-is = reached.last-is old from t path parent rest r moment

  missing-are : missing tree t.path names ≡ left
  missing-are = reached.missing-are old from t path parent rest r moment

  with-left : (given : Option (List ℕ)) → with_keys tree t.path names given moment ≡ with_keys tree (t.path ++ map folded passed) left given moment
  with-left given = reached.with-left old from t path parent rest r moment given

  all-names : (t.path ++ map folded passed) ++ map folded left ≡ t.path ++ map folded names
  all-names = reached.all-names old from t path parent rest r moment

  number : length names ≡ length passed + length left
  number = reached.number old from t path parent rest r moment

  module _ (depth : from.depth ≡ length t.path) (mid : List ℕ) (place : Place) (more last spare : List ℕ) (s : IsSpared old mid parent.offset place left more last spare)
      (short : parent.depth + length left ≤ PATH_LIMIT) (few : (k : KeyRecord) → key_at (cell_at old) parent.offset ≡ Some k → k.fields.subkeys < SUBKEYS_LIMIT)
      (belongs : BelongsFirst (cell_at old) parent.offset left place) where
    deep : length parent_here.path + length left ≤ PATH_LIMIT
    unfolding here_then
    deep = let d = r.passes.depth in let a = length-append t.path (map folded passed) in let m = as-many passed in omega (arith, d, a, m, depth, short)

    missing-first : (name : List ℕ) (others : List (List ℕ)) → left ≡ name ∷ others → subkey_named (cell_at old) (folded name) parent.offset ≡ None
    missing-first name others e = subst (λ ns. Stops (cell_at old) parent.offset ns) e r.stops

    -- what the subkeys take, and where the first name belongs, are what they were
    pub plan_then : (left ≡ [] → ⊥) → planned (cell_at mid) parent.offset place ≡ planned (cell_at old) parent.offset place
    plan_then some =
        planned-then old mid parent parent_here left place more last spare s missing-first deep few place
        (place-within old mid parent parent_here left place more last spare s missing-first deep few place belongs some)

    pub place_then : BelongsFirst (cell_at mid) parent.offset left place
    place_then name others e = belongs-then old mid parent parent_here left place more last spare s missing-first deep few name place (belongs name others e)

    pub may_make : MayGrowAll mid parent left place last spare
    may_make = may_grow_all old mid parent parent_here left place more last spare s missing-first deep few belongs

    module _ (new : List ℕ) (made : TreeNode)
        (grown : GrowsAll (cell_at mid) (cell_at new) may_make.growing.root may_make.growing.path may_make.growing.keys may_make.growing.ring last parent
        made left moment) where
      then-at : (q : Path) (o : ℕ) → key_offset_at (cell_at old) t.root q ≡ Some o → key_offset_at (cell_at mid) t.root q ≡ Some o
      then-at q o e = offsets-spared (cell_at old) (cell_at mid) t.root t.holds.keys t.holds.ring spare t.holds.shape s.come q ∙ e

      pub grown_all : IsGrownAll old new t.root t.path names moment t.holds.ring last from made
      unfolding may_make may_grow_all here_then
      grown_all = record {
        now = grown.now;
        shape = grown.shape;
        tree = grown.tree
            ∙ (ap (λ (tree : Tree). with_keys tree (t.path ++ map folded passed) left None moment)
            (tree-spared (cell_at old) (cell_at mid) t.root t.holds.keys t.holds.ring spare t.holds.shape s.come ∙
            sym (spelt_is old t.root t.holds))
            ∙ sym (with-left None));
        offset = subst (λ p. key_offset_at (cell_at new) t.root p ≡ Some made.offset) all-names grown.offset;
        depth = (let d = r.passes.depth in let n = number in let g = grown.depth in omega (arith, d, n, g));
        keeps = λ q o e. grown.keeps q o (offsets-spared (cell_at old) (cell_at mid) t.root t.holds.keys t.holds.ring spare t.holds.shape s.come q ∙ e);
        lengths = subst (λ p. LengthsChange (cell_at old) (cell_at new) t.root p (with_first_length (missing tree t.path names))) (sym last-is)
            (subst (λ ns. LengthsChange (cell_at old) (cell_at new) t.root (t.path ++ map folded passed) (with_first_length ns)) (sym missing-are)
            (record {
              here = λ o e. grown.lengths.here o (then-at (t.path ++ map folded passed) o e)
                  ∙ ap (option_map (with_first_length left)) (carved_lengths old mid t.root t.holds spare s.come (t.path ++ map folded passed) o e);
              others = λ q o n e. grown.lengths.others q o n (then-at q o e) ∙ carved_lengths old mid t.root t.holds spare s.come q o e;
            }));
        noted = subst (λ p. MadeLengths (cell_at new) t.root p (missing tree t.path names)) (sym last-is)
            (subst (MadeLengths (cell_at new) t.root (t.path ++ map folded passed)) (sym missing-are) grown.noted);
        described = λ z l. grown.described z l ∙ carved_described old mid t.root t.holds spare s.come z l;
      }

      -- the cells that are left have their sizes
      pub grown_room : HaveSizes (cell_at new) last more
      grown_room = sizes-kept (cell_at mid) (cell_at new) last more grown.spare s.others

-- ---- the cells that come

-- what stands in the cells is no matter for how the bins grew
pub growth-then : (old mid new sizes : List ℕ) → length new ≡ length mid → GrowsFor old mid sizes → GrowsFor old new sizes
growth-then old mid new sizes long (inl same) = inl (long ∙ same)
growth-then old mid new sizes long (inr (none, grown)) = inr (none, omega (arith, long, grown))

module _ (bins : Bins) (from : TreeNode) (t : IsHere bins.bytes from.offset) (path : List ℕ) (parent : TreeNode) (rest : List ℕ)
    (r : Reaches (cell_at bins.bytes) from path parent rest) (moment : ℕ) where
  abbrev seen : Keys
  seen = record { bins = bins; root = t.root; tree = tree_in bins.bytes t.root }

  abbrev heap : Heap
  heap = cell_at bins.bytes

  pub created_sizes : (place : Place) → made_sizes seen t.path (path_of path) place ≡ sizes_of (planned heap parent.offset place) (map own_sizes (path_of rest))
  unfolding made_sizes
  created_sizes place =
      ap (λ p. sizes_of (planned_at heap place (key_offset_at heap t.root p)) (map own_sizes (missing seen.tree t.path (path_of path))))
      (reached.last-is bins.bytes from t path parent rest r moment)
      ∙ (ap (λ o. sizes_of (planned_at heap place o) (map own_sizes (missing seen.tree t.path (path_of path)))) (reached.parent-at bins.bytes from t path parent rest r moment)
      ∙ ap (λ names. sizes_of (planned heap parent.offset place) (map own_sizes names)) (reached.missing-are bins.bytes from t path parent rest r moment))

  -- where the first of the missing names belongs
  pub belongs_there : (place : Place) → BelongsFirst heap parent.offset (path_of rest) place → BelongsThere seen t.path (path_of path) place
  belongs_there place belongs key e =
      subst (λ names. BelongsFirst heap key names place) (sym (reached.missing-are bins.bytes from t path parent rest r moment))
      (subst (λ key. BelongsFirst heap key (path_of rest) place)
      (same_Some _ _ (sym (reached.parent-at bins.bytes from t path parent rest r moment) ∙ (ap (key_offset_at heap t.root) (sym (reached.last-is bins.bytes from t path parent rest r moment)) ∙ e)))
      belongs)

  pub no_cells : (given : Option (List ℕ)) → path_of rest ≡ [] →
      (place : Place) × BelongsThere seen t.path (path_of path) place × Makes heap heap (create_sizes seen t.path (path_of path) place given)
      × GrowsFor bins.bytes bins.bytes (create_sizes seen t.path (path_of path) place given)
  no_cells given e = (
    first_place,
    belongs_there first_place (λ name others f. absurd (let n = ap length (sym e ∙ f) in omega (arith, n))),
    subst (Makes heap heap)
        (sym (ap (λ sizes. sizes ++ given_sizes seen.tree (missing seen.tree t.path (path_of path)) given)
        (created_sizes first_place ∙ ap (λ names. sizes_of (planned heap parent.offset first_place) (map own_sizes names)) e) ∙
        ap (λ names. given_sizes seen.tree names given) (reached.missing-are bins.bytes from t path parent rest r moment ∙ e)))
        (record { offsets = []; sizes_are = refl; once = λ z. omega arith; fresh = λ z l. absurd (omega (arith, l)); only = λ z none there. absurd (false≢true (sym (ap is_some none) ∙ there)) }),
    inl refl,
  )

  pub created_cells : (mid new : List ℕ) (place : Place) (more last spare : List ℕ) → IsSpared bins.bytes mid parent.offset place (path_of rest) more last spare →
      KeepsCells (cell_at mid) (cell_at new) → ((z : ℕ) → 0 < times z spare → IsSome (cell_at new z)) →
      Makes heap (cell_at new) (made_sizes seen t.path (path_of path) place ++ more)
  created_cells mid new place more last spare s keeps stay =
      subst (λ sizes. Makes heap (cell_at new) (sizes ++ more)) (sym (created_sizes place)) (made_makes bins.bytes mid new parent.offset place (path_of rest) more last spare s keeps stay)

  pub created_room : {plan : IndexCells} (place : Place) → plan ≡ planned heap parent.offset place → (more : List ℕ) →
      LacksRoom bins (sizes_of plan (map own_sizes (path_of rest)) ++ more) → LacksRoom bins (made_sizes seen t.path (path_of path) place ++ more)
  created_room place plan_is more lacks =
      subst (LacksRoom bins) (ap (λ plan. sizes_of plan (map own_sizes (path_of rest)) ++ more) plan_is ∙ ap (λ sizes. sizes ++ more) (sym (created_sizes place))) lacks

  pub created_growth : {plan : IndexCells} (place : Place) → plan ≡ planned heap parent.offset place → (more new : List ℕ) →
      GrowsFor bins.bytes new (sizes_of plan (map own_sizes (path_of rest)) ++ more) → GrowsFor bins.bytes new (made_sizes seen t.path (path_of path) place ++ more)
  created_growth place plan_is more new grown =
      subst (GrowsFor bins.bytes new) (ap (λ plan. sizes_of plan (map own_sizes (path_of rest)) ++ more) plan_is ∙ ap (λ sizes. sizes ++ more) (sym (created_sizes place))) grown

  -- where the keys alone take cells
  pub sizes_alone : (place : Place) → made_sizes seen t.path (path_of path) place ++ [] ≡ made_sizes seen t.path (path_of path) place
  sizes_alone place = append-nil (made_sizes seen t.path (path_of path) place)
