-- Every tree of keys is one, and within the limits.
use Rattle.std.proofs.Common.{◌≡◌, ℕ, ◌<◌, ◌≤◌, Bool, true, false, cond, ◌==◌, if◌then◌else◌, Option, Some, None, IsSome, is_some}
use Rattle.std.proofs.Common.{List, [], ◌∷◌, ◌++◌, length, refl, sym, ap, ◌∙◌, subst, arith, true≢false, bit_and}
use Rattle.std.specs.Prelude.{◌≢◌, unwrap_or}
use Rattle.std.specs.Option.{option_map}
use Rattle.std.specs.List.{AllByRecursion}
use Rattle.std.specs.FinMap.{get}
use Rattle.std.proofs.lemmas.Nat.{and_assoc}
use Rattle.std.proofs.lemmas.Option.{none-some, same_Some}
use Rattle.reg_names.specs.Names.{folded, is_key_name, is_value_name}
use Rattle.reg_heap.specs.declared.limits.TheConstants.{DATA_LIMIT, DESCRIPTOR_LIMIT, SUBKEYS_LIMIT}
use Rattle.reg_heap.specs.Paths.{Path, Tree, Rec, Member, children_of}
use Rattle.reg_heap.specs.Trees.{NamesDiffer, IsTree, IsSmallValue, IsSmallKey, IsWithinLimits}
use Rattle.reg_heap.specs.Heaps.{Heap}
use Rattle.reg_arena.specs.Cells.{cell_at}
use Rattle.reg_records.specs.KeyNodes.{KeyRecord, key_at}
use Rattle.reg_records.specs.KeySecurities.{KeySecurityRecord}
use Rattle.reg_shape.specs.Internal.Forests.{Forest, Branch}
use Rattle.reg_shape.specs.Internal.Forests.Forest.{End, Rooted as Hangs}
use Rattle.reg_shape.specs.Internal.Shapes.{descriptor_in}
use Rattle.reg_shape.specs.Internal.Exchanges.{is_named}
use Rattle.reg_shape.specs.Internal.Grafts.{branch_in, branch_at}
use Rattle.reg_shape.specs.Nodes.{Node}
use Rattle.reg_shape.specs.PathLookup.{key_offset_at}
use Rattle.reg_shape.specs.Spelt.{rec_of, name_of, marks_of}
use Rattle.reg_shape.specs.Written.{Pairwise, IsWrittenKey}
use Rattle.reg_shape.proofs.Graft.Branches.{branch-append}
use Rattle.reg_shape.proofs.Refinement.RefinementAfterEdit.{name-is}
use Rattle.reg_shape.proofs.Refinement.RefinementAtPath.{name-written, tells_branch}
use Rattle.reg_shape.proofs.Refinement.SpeltTrees.{root-held, parent-held}
use Rattle.reg_values.proofs.ValueListing.ValueListOpening.{members-length}
use Rattle.reg_security.specs.Rings.{DescriptorCells}
use Rattle.reg_tree.specs.TreeKeys.{tree_in}
use Rattle.reg_tree.specs.Internal.TreeInvariant.{TreeInvariant, IsHere}
use Rattle.reg_tree.proofs.Invariant.KeyOfTree.{branch, seen, key_is, rec_is, rec_there, looked, get-none, whole_tree}
use Rattle.reg_tree.proofs.Invariant.NodeLemmas.{there-shallow}
use Rattle.reg_tree.proofs.KeyAnswers.RefinementOfKey.{security_written, number_told}
use Rattle.reg_tree.proofs.PruneTree.ChildPlaces.{child-named}
use Rattle.reg_tree.proofs.PruneTree.PathOrder.{child-there}

-- ---- one key

-- values' names that differ, in the words of a tree
names-differ : (ms : List Member) → Pairwise (λ (a b : Member). folded a.name ≢ folded b.name) ms → NamesDiffer ms
names-differ [] d = tt
names-differ (m ∷ ms) d = (d.0, names-differ ms d.1)

small-values : (ms : List Member) → AllByRecursion (λ (m : Member). is_value_name m.name ≡ true) ms →
    AllByRecursion (λ (m : Member). length m.bytes ≤ DATA_LIMIT) ms → AllByRecursion IsSmallValue ms
small-values [] names sizes = tt
small-values (m ∷ ms) names sizes = (record { name = names.0; bytes = sizes.0 }, small-values ms names.1 sizes.1)

-- a written key's marks are without 0x67
marks-kept : (h : Heap) (root offset : ℕ) (node : Node) → IsWrittenKey h root offset node → bit_and (marks_of node.key.fields.flags) 103 ≡ 0
marks-kept h root offset node w =
    and_assoc 103 node.key.fields.flags 65496
    ∙ (sym (and_assoc 64 node.key.fields.flags 103)
    ∙ (ap (λ f. bit_and f 64) w.flags ∙ by (offset == root)))
  where
    by : (b : Bool) → bit_and (if b then 36 else 32) 64 ≡ 0
    by true = refl
    by false = refl

module _ (bytes : List ℕ) (key : ℕ) (t : IsHere bytes key) where
  abbrev h : Heap
  h = cell_at bytes

  abbrev node : Node
  node = (branch bytes key t).node

  abbrev rec : Rec
  rec = rec_of node (descriptor_in h node.key.fields.security)

  same_key : (k : KeyRecord) → key_at h key ≡ Some k → node.key ≡ k
  same_key k e = same_Some _ _ (sym (key_is bytes key t) ∙ e)

  apart_here : NamesDiffer rec.values
  apart_here = names-differ node.values (seen bytes key t).written.values.list.apart

  small_here : length rec.class < 65536 → IsSmallKey rec
  small_here class =
      let written = (seen bytes key t).written in
      let security = security_written bytes key t node.key.fields (λ k e. ap (λ (k : KeyRecord). k.fields) (same_key k e)) in
      let descriptor : descriptor_in h node.key.fields.security ≡ security.security.descriptor =
      ap (λ (o : Option KeySecurityRecord). unwrap_or (option_map (λ (s : KeySecurityRecord). s.descriptor) o) []) security.reads in
      let count = members-length h node.key.fields.values node.key.fields.values_list node.values _ (looked bytes key t).values_are in
      let few = written.values.list.few in
      record {
        name = ap is_key_name (name-written h t.root _ node written) ∙ written.name;
        marks = marks-kept h t.root _ node written;
        class = class;
        described = subst (λ (d : List ℕ). 1 ≤ length d) (sym descriptor) security.some;
        descriptor = subst (λ (d : List ℕ). length d ≤ DESCRIPTOR_LIMIT) (sym descriptor) security.short;
        few = omega (arith, count, few);
        values = small-values node.values written.values.list.names written.values.list.sizes;
      }

  -- as many keys are right below it as its node says
  few_here : length (children_of (tree_in bytes t.root) t.path) ≤ SUBKEYS_LIMIT
  few_here =
      let few = (seen bytes key t).written.few in
      let number = number_told bytes key t node.key.fields.subkeys node.key.fields.subkeys_list
      (λ k e. (let s = same_key k e in (ap (λ (k : KeyRecord). k.fields.subkeys) s, ap (λ (k : KeyRecord). k.fields.subkeys_list) s))) in
      omega (arith, few, number)

-- ---- names

-- the key right below others that has a name is called so
named-in : (x : List ℕ) (F : Forest Node) (b : Branch Node) → branch_in (x ∷ []) F ≡ Some b → is_named x b.node ≡ true
named-in x End b e = absurd (none-some _ e)
named-in x (Hangs o n c s) b e = by (named-in x s b) (is_named x n) refl e
  where
    by : (branch_in (x ∷ []) s ≡ Some b → is_named x b.node ≡ true) → (t : Bool) → is_named x n ≡ t →
        cond t (Some (record { offset = o; node = n; below = c })) (branch_in (x ∷ []) s) ≡ Some b → is_named x b.node ≡ true
    by rest true t e = ap (λ (z : Branch Node). is_named x z.node) (sym (same_Some _ _ e)) ∙ t
    by rest false t e = rest e

-- ---- the tree

module _ (bytes : List ℕ) (root : ℕ) {table : DescriptorCells} (t : TreeInvariant bytes root table) where
  abbrev tree : Tree
  tree = tree_in bytes root

  abbrev cells : Heap
  cells = cell_at bytes

  root_there : IsSome (get tree [])
  root_there = let w = whole_tree bytes root t in root-held (length w.cells) cells root tree w.spells

  parent_there : (p : Path) (name : List ℕ) → IsSome (get tree (p ++ name ∷ [])) → IsSome (get tree p)
  parent_there = let w = whole_tree bytes root t in parent-held (length w.cells) cells root tree w.spells

  -- what the tree has at a path is a branch's key
  branch_there : (p : Path) (r : Rec) → get tree p ≡ Some r → (b : Branch Node) × (branch_at p t.keys ≡ Some b) × (tells_branch cells b ≡ r)
  branch_there p r e = by (branch_at p t.keys) refl (sym (rec_is bytes root t p) ∙ e)
    where
      by : (o : Option (Branch Node)) → branch_at p t.keys ≡ o → option_map (tells_branch cells) o ≡ Some r →
          (b : Branch Node) × (branch_at p t.keys ≡ Some b) × (tells_branch cells b ≡ r)
      by None a e = absurd (none-some _ e)
      by (Some b) a e = (b, a, same_Some _ _ e)

  some_rec : (o : Option Rec) → IsSome o → (r : Rec) × (o ≡ Some r)
  some_rec None some = absurd (true≢false (sym some))
  some_rec (Some r) some = (r, refl)

  name_there : (p : Path) (name : List ℕ) (r : Rec) → get tree (p ++ name ∷ []) ≡ Some r → folded r.name ≡ name
  name_there p name r e =
      let above = some_rec (get tree p) (parent_there p name (ap is_some e)) in
      let a = branch_there p above.0 above.1 in
      let b = branch_there (p ++ name ∷ []) r e in
      let called = named-in name a.0.below b.0 (sym (branch-append a.0 (name ∷ []) p t.keys a.1) ∙ b.1) in
      sym (name-is name (folded (name_of b.0.node.key)) called ∙ ap (λ (r : Rec). folded r.name) b.2)

  -- where a key is, what holds of each key that is there holds
  at_key : (P : Rec → Type 0) → ((key : ℕ) (k : IsHere bytes key) → get tree k.path ≡ Some (rec bytes key k) → P (rec bytes key k)) →
      (p : Path) (r : Rec) → get tree p ≡ Some r → P r
  at_key P all p r e = by (key_offset_at cells root p) refl
    where
      by : (o : Option ℕ) → key_offset_at cells root p ≡ o → P r
      by None a = absurd (none-some _ (sym (get-none bytes root t p a) ∙ e))
      by (Some o) a =
          let k : IsHere bytes o = record { root = root; table = table; path = p; holds = t; at = a } in
          let there = rec_there bytes o k in
          subst P (same_Some _ _ (sym there ∙ e)) (all o k there)

  pub is_tree : IsTree tree
  is_tree = record {
    root = root_there;
    parents = parent_there;
    names = name_there;
    apart = at_key (λ r. NamesDiffer r.values) (λ key k there. apart_here bytes key k);
  }

  few_below : (p : Path) → length (children_of tree p) ≤ SUBKEYS_LIMIT
  few_below p = by (key_offset_at cells root p) refl
    where
      none : (paths : List Path) → children_of tree p ≡ paths → get tree p ≡ None → length paths ≤ SUBKEYS_LIMIT
      none [] c e = omega arith
      none (q ∷ paths) c e =
          let l : 0 < length (children_of tree p) = (let n = ap length c in omega (arith, n)) in
          let child = child-named tree p 0 l in
          absurd (true≢false (sym (parent_there p child.0 (child-there tree p 0 l child.0 child.1)) ∙ ap is_some e))

      by : (o : Option ℕ) → key_offset_at cells root p ≡ o → length (children_of tree p) ≤ SUBKEYS_LIMIT
      by None a = none (children_of tree p) refl (get-none bytes root t p a)
      by (Some o) a = few_here bytes o (record { root = root; table = table; path = p; holds = t; at = a })

  pub is_within_limits : IsWithinLimits tree
  is_within_limits = record {
    keys = λ p r e. at_key (λ r. length r.class < 65536 → IsSmallKey r) (λ key k there. small_here bytes key k) p r e (t.classes.short p r e);
    few = few_below;
    shallow = there-shallow (record { bytes = bytes; heads = [] }) root t _ refl;
  }
