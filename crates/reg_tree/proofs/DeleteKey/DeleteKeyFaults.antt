-- Which keys can't be deleted: those with subkeys, the root, and those marked so.
use Rattle.std.proofs.Common.{◌≡◌, ◌≢◌, inl, inr, ◌↔◌, ℕ, ◌<◌, ◌==◌, Bool, true, false, not, if◌then◌else◌, Some, List, [], ◌∷◌, ◌++◌, length, refl, sym, ap, ◌∙◌, subst, arith}
use Rattle.std.specs.Prelude.{bit_and}
use Rattle.std.proofs.lemmas.Bool.{false≢true, eqb-true, eq-eqb, ne_eqb}
use Rattle.std.proofs.lemmas.List.{length-map}
use Rattle.std.proofs.lemmas.Nat.{and_assoc}
use Rattle.std.proofs.lemmas.Option.{same_Some}
use Rattle.std.specs.FinMap.{get}
use Rattle.reg_names.specs.Names.{folded}
use Rattle.reg_heap.specs.Paths.{Path, Tree, children_of}
use Rattle.reg_heap.specs.Edits.{marks_of, is_marked, IsKept}
use Rattle.reg_heap.specs.Heaps.{Heap}
use Rattle.reg_heap.specs.Kinds.{owned}
use Rattle.reg_shape.specs.Internal.Forests.{Branch, heads}
use Rattle.reg_arena.specs.Cells.{cell_at}
use Rattle.reg_records.specs.declared.nk.KeyFields.{KeyFields}
use Rattle.reg_records.specs.KeyNodes.{KeyRecord, key_at}
use Rattle.reg_records.specs.SubkeyLists.{Entry}
use Rattle.reg_shape.specs.Nodes.{Node, entries_of}
use Rattle.reg_shape.specs.Spelt.{name_of}
use Rattle.reg_shape.specs.Internal.Shapes.{cells_of, owns}
use Rattle.reg_shape.specs.Internal.Grafts.{IsShape, branch_at}
use Rattle.reg_shape.proofs.Graft.Branches.{forest-branch-total}
use Rattle.reg_shape.proofs.Refinement.RefinementOfChildren.{children-told}
use Rattle.reg_shape.proofs.Wholeness.ShapeRecords.{at-most-one}
use Rattle.reg_tree.specs.TreeKeys.{tree_in}
use Rattle.reg_tree.specs.Internal.TreeInvariant.{IsHere}
use Rattle.reg_tree.proofs.DeleteKey.DeletedKeyPosition.{key-owned}
use Rattle.reg_tree.proofs.Invariant.KeyOfTree.{spelt_is, branch, branch_is, key_is, stands, seen, rec_there}

not-false : (r : Bool) → not r ≡ false → r ≡ true
not-false true e = refl
not-false false e = absurd (false≢true (sym e))

not-true : (r : Bool) → not r ≡ true → r ≡ false
not-true true e = absurd (false≢true e)
not-true false e = refl

module _ (old : List ℕ) (key : ℕ) (t : IsHere old key) where
  abbrev h : Heap
  h = cell_at old

  abbrev keys : Branch Node
  keys = t.holds.keys

  abbrev w : IsShape h t.root keys t.holds.ring []
  w = t.holds.shape

  abbrev b : Branch Node
  b = branch old key t

  abbrev tree : Tree
  tree = tree_in old t.root

  -- ---- keys with subkeys

  pub number : length (children_of tree t.path) ≡ b.node.key.fields.subkeys
  number =
      let told = children-told h t.root keys w.stands t.path b (branch_is old key t) in
      let spelt = ap (λ tree. length (children_of tree t.path)) (spelt_is old t.root t.holds) in
      let c = ap length told in
      let d = length-map (heads b.below) (λ (e : ℕ × Node). t.path ++ folded (name_of e.1.key) ∷ []) in
      let f = ap length (stands old key t).1.offsets in
      let g = length-map (heads b.below) (λ (e : ℕ × Node). e.0) in
      let i = length-map (entries_of b.node.index) (λ (e : Entry). e.offset) in
      let s = (seen old key t).written.subkeys in
      omega (arith, spelt, c, d, f, g, i, s)

  pub has-children : (fields : KeyFields) → ((r : KeyRecord) → key_at h key ≡ Some r → fields ≡ r.fields) → not (fields.subkeys == 0) ≡ not (length (children_of tree t.path) == 0)
  has-children fields are = ap (λ n. not (n == 0)) (ap (λ (f : KeyFields). f.subkeys) (are b.node.key (key_is old key t)) ∙ sym number)

  pub childless_by : children_of tree t.path ≡ [] → b.node.key.fields.subkeys ≡ 0
  childless_by e = sym number ∙ ap length e

  none-by : (paths : List Path) (r : Bool) → r ≡ not (length paths == 0) → r ≡ false → paths ≡ []
  none-by [] r e f = refl
  none-by (p ∷ paths) r e f = absurd (let z = eqb-true _ _ (not-false (length (p ∷ paths) == 0) (sym e ∙ f)) in omega (arith, z))

  pub no_children : (r : Bool) → r ≡ not (length (children_of tree t.path) == 0) → r ≡ false → children_of tree t.path ≡ []
  no_children = none-by (children_of tree t.path)

  pub inner : (r : Bool) → ((r ≡ true) ↔ IsKept tree t.path) → r ≡ false → t.path ≢ []
  inner r k f e = false≢true (sym f ∙ k.1 (inl e))

  -- ---- the root

  abbrev flags : ℕ
  flags = b.node.key.fields.flags

  root-mark : bit_and flags 4 ≡ bit_and (if b.offset == t.root then 36 else 32) 4
  root-mark = sym (and_assoc 4 flags 103) ∙ ap (λ f. bit_and f 4) (seen old key t).written.flags

  unmarked : (r : Bool) → (b.offset == t.root) ≡ r → r ≡ false → bit_and flags 4 ≡ 0
  unmarked r e f = root-mark ∙ ap (λ r. bit_and (if r then 36 else 32) 4) (e ∙ f)

  root-placed : bit_and flags 4 ≢ 0 → b.offset ≡ t.root
  root-placed n = by (b.offset == t.root) refl
    where
      by : (r : Bool) → (b.offset == t.root) ≡ r → b.offset ≡ t.root
      by true e = eqb-true _ _ e
      by false e = absurd (n (unmarked false e refl))

  -- no other key stands at the root's offset
  alone : b.offset ≡ t.root → (q : Path) → branch_at q keys ≡ Some b → q ≡ []
  alone e [] f = refl
  alone e (x ∷ q) f =
      let z = t.root in
      let below = forest-branch-total (owns z) b (x ∷ q) keys.below f in
      let own_key : 0 < owned z (cells_of b.node) = subst (λ z. 0 < owned z (cells_of b.node)) e (key-owned h t.root b.offset b.node (seen old key t)) in
      let own_root : 0 < owned z (cells_of keys.node) = subst (λ z. 0 < owned z (cells_of keys.node)) w.offset (key-owned h t.root keys.offset keys.node w.stands.0) in
      let exact = w.exact z in
      let one = at-most-one h z in
      absurd (omega (arith, below, own_key, own_root, exact, one))

  pub root-path : bit_and flags 4 ≢ 0 → t.path ≡ []
  root-path n = alone (root-placed n) t.path (branch_is old key t)

  pub path-marked : t.path ≡ [] → bit_and flags 4 ≢ 0
  path-marked e =
      let same : keys ≡ b = same_Some _ _ (ap (λ q. branch_at q keys) (sym e) ∙ branch_is old key t) in
      let offset : b.offset ≡ t.root = ap (λ (b : Branch Node). b.offset) (sym same) ∙ w.offset in
      let four : bit_and flags 4 ≡ 4 = root-mark ∙ ap (λ r. bit_and (if r then 36 else 32) 4) (eq-eqb b.offset t.root offset) in
      λ z. omega (arith, four, z)

  -- ---- marks

  mark : bit_and (marks_of (get tree t.path)) 8 ≡ bit_and flags 8
  mark = ap (λ r. bit_and (marks_of r) 8) (rec_there old key t) ∙ and_assoc 8 flags 65496

  module _ (fields : KeyFields) (are : (r : KeyRecord) → key_at h key ≡ Some r → fields ≡ r.fields) where
    its-flags : fields.flags ≡ flags
    its-flags = ap (λ (f : KeyFields). f.flags) (are b.node.key (key_is old key t))

    pub marked-told : not (bit_and fields.flags 8 == 0) ≡ is_marked tree t.path
    marked-told = ap (λ n. not (n == 0)) (ap (λ f. bit_and f 8) its-flags ∙ sym mark)

    pub root-kept : bit_and fields.flags 4 ≢ 0 → ((not (bit_and fields.flags 4 == 0) ≡ true) ↔ IsKept tree t.path)
    root-kept n = (
      (λ _. inl (root-path (λ z. n (ap (λ f. bit_and f 4) its-flags ∙ z)))),
      (λ _. ap not (ne_eqb (bit_and fields.flags 4) 0 n)),
    )

    pub mark-kept : bit_and fields.flags 4 ≡ 0 → ((not (bit_and fields.flags 8 == 0) ≡ true) ↔ IsKept tree t.path)
    mark-kept z =
        let same : bit_and (marks_of (get tree t.path)) 8 ≡ bit_and fields.flags 8 = mark ∙ ap (λ f. bit_and f 8) (sym its-flags) in (
          (λ n. inr (ap (λ n. n == 0) same ∙ not-true (bit_and fields.flags 8 == 0) n)),
          (λ k. elim k [
            | inl e ↦ absurd (path-marked e (ap (λ f. bit_and f 4) (sym its-flags) ∙ z))
            | inr m ↦ ap not (ap (λ n. n == 0) (sym same) ∙ m)
          ]),
        )
