-- The table notes a descriptor exactly where some key of the tree has it.
use Rattle.std.proofs.Common.{◌≡◌, ◌⊎◌, inl, inr, ℕ, zero, suc, ◌+◌, ◌<◌, ◌==◌, Bool, true, false, cond, ◌||◌, Option, Some, None, is_some}
use Rattle.std.proofs.Common.{List, [], ◌∷◌, ◌++◌, length, refl, sym, ap, ◌∙◌, subst, arith}
use Rattle.std.specs.Prelude.{bytes_eq, unwrap_or}
use Rattle.std.specs.List.{AllByRecursion, list_any}
use Rattle.std.specs.Option.{option_map}
use Rattle.std.specs.Ordering.{is_eq}
use Rattle.std.specs.Cmp.Lexicographic.{bytes_decides}
use Rattle.std.specs.FinMap.{get, keys, contains_key, contains_key-keys}
use Rattle.std.proofs.lemmas.Bool.{false≢true, true≢false}
use Rattle.std.proofs.lemmas.Cmp.{tied_itself}
use Rattle.std.proofs.lemmas.Option.{none-some, same_Some}
use Rattle.reg_names.specs.Names.{folded}
use Rattle.reg_heap.specs.Paths.{Path, Tree, Rec}
use Rattle.reg_heap.specs.Heaps.{Heap}
use Rattle.reg_heap.specs.Kinds.{Found, is_shared, times, shared}
use Rattle.reg_heap.specs.Kinds.Kind.{Security}
use Rattle.reg_heap.specs.Edits.{descriptor_of}
use Rattle.reg_heap.proofs.ChildrenOfPath.{path-is}
use Rattle.reg_arena.specs.Cells.{cell_at}
use Rattle.reg_arena.specs.NewCells.{cell_size}
use Rattle.reg_records.specs.KeySecurities.{KeySecurityRecord}
use Rattle.reg_shape.specs.Written.{IsWrittenSecurity}
use Rattle.reg_shape.specs.Internal.Forests.{Forest, Branch, heads, total, total_of}
use Rattle.reg_shape.specs.Internal.Forests.Forest.{End, Rooted as Hangs}
use Rattle.reg_shape.specs.Nodes.{Node, look}
use Rattle.reg_shape.specs.Spelt.{name_of}
use Rattle.reg_shape.specs.Whole.{descriptor_at}
use Rattle.reg_shape.specs.Internal.Shapes.{index_cells, cells_of, shares, descriptor_in, tree_of}
use Rattle.reg_shape.specs.Internal.Exchanges.{is_named}
use Rattle.reg_shape.specs.Internal.Grafts.{IsShape, branch_in, branch_at}
use Rattle.reg_shape.proofs.Graft.Branches.{branch-stands, branch-total}
use Rattle.reg_shape.proofs.Refinement.SpeltTrees.{path_total}
use Rattle.reg_shape.proofs.Refinement.RefinementAfterEdit.{same_path, name-is, name-self}
use Rattle.reg_shape.proofs.Refinement.RefinementAtPath.{IsOther, Apart, apart-stands, tells_branch, told}
use Rattle.reg_shape.proofs.Walking.WalkRefinement.{look-open}
use Rattle.reg_shape.proofs.Walking.InnerReadings.{class-inner, members-inner}
use Rattle.reg_shape.proofs.Wholeness.ShapeRecords.{all-at, shares-own}
use Rattle.reg_security.specs.Rings.{DescriptorCells, Finds, cell_of}
use Rattle.reg_tree.specs.CellSizes.{is_described, security_sizes}
use Rattle.reg_tree.specs.TreeKeys.{tree_in}
use Rattle.reg_tree.specs.Internal.TreeInvariant.{TreeInvariant}
use Rattle.reg_tree.proofs.InsertKey.ParentReindexed.{shared-index}
use Rattle.reg_tree.proofs.Invariant.OwnCells.{shared-parts, inner-unshared}
use Rattle.reg_tree.proofs.Invariant.UntouchedCells.{there-is}
use Rattle.reg_tree.proofs.Invariant.KeyOfTree.{spelt_is}

-- ---- a key names its security once, and no other

pub names-once : (h : Heap) (offset : ℕ) (node : Node) → look h offset ≡ Some node → (z : ℕ) → shared z (cells_of node) ≡ times z (node.key.fields.security ∷ [])
names-once h offset node e z =
    let l = look-open h offset node e in
    let k = node.key in
    let a = ap (λ (found : List Found). shared z (found ++ index_cells node.index)) l.cells ∙ shared-parts z offset k l.class_cells l.value_cells node.index in
    let c = inner-unshared z l.class_cells (class-inner h k.fields.class_length k.fields.class (node.class, l.class_cells) l.class_is) in
    let v = inner-unshared z l.value_cells (members-inner h k.fields.values k.fields.values_list (node.values, l.value_cells) l.values_are) in
    let i = shared-index z node.index in
    let o : ◌≡◌ {A = ℕ} (is_shared z (record { kind = Security; offset = k.fields.security })) (cond (k.fields.security == z) 1 0) = refl in
    omega (arith, a, c, v, i, o)

-- ---- a key of which a number isn't 0 is at some path

module _ (m : ℕ → Node → ℕ) where
  record IsIn (F : Forest Node) : Type 0 where
    name : List ℕ
    path : Path
    branch : Branch Node
    is : branch_in (name ∷ path) F ≡ Some branch
    some : 0 < m branch.offset branch.node

  -- where no key has the first name, there is no key
  none-in : (x : List ℕ) (q : Path) (F : Forest Node) → AllByRecursion (IsOther x) (heads F) → branch_in (x ∷ q) F ≡ None
  none-in x q End a = by q
    where
      by : (q : Path) → branch_in (x ∷ q) End ≡ None
      by [] = refl
      by (y ∷ q) = refl
  none-in x [] (Hangs o n b s) a = ap (λ t. cond t (Some (record { offset = o; node = n; below = b })) (branch_in (x ∷ []) s)) a.0 ∙ none-in x [] s a.1
  none-in x (y ∷ q) (Hangs o n b s) a = ap (λ t. cond t (branch_in (y ∷ q) b) (branch_in (x ∷ y ∷ q) s)) a.0 ∙ none-in x (y ∷ q) s a.1

  either : (a b c : ℕ) → 0 < a + (b + c) → (0 < a) ⊎ ((0 < b) ⊎ (0 < c))
  either zero zero c l = inr (inr (omega (arith, l)))
  either zero (suc b) c l = inr (inl (omega arith))
  either (suc a) b c l = inl (omega arith)

  beside : (o : ℕ) (n : Node) (b s : Forest Node) → AllByRecursion (IsOther (folded (name_of n.key))) (heads s) → IsIn s → IsIn (Hangs o n b s)
  beside o n b s a i = record { name = i.name; path = i.path; branch = i.branch; is = by i.path (is_named i.name n) refl i.is; some = i.some }
    where
      by : (q : Path) (t : Bool) → is_named i.name n ≡ t → branch_in (i.name ∷ q) s ≡ Some i.branch → branch_in (i.name ∷ q) (Hangs o n b s) ≡ Some i.branch
      by q true t e = absurd (none-some _ (sym (none-in i.name q s (subst (λ x. AllByRecursion (IsOther x) (heads s)) (sym (name-is i.name (folded (name_of n.key)) t)) a)) ∙ e))
      by [] false t e = ap (λ t. cond t (Some (record { offset = o; node = n; below = b })) (branch_in (i.name ∷ []) s)) t ∙ e
      by (y ∷ q) false t e = ap (λ t. cond t (branch_in (y ∷ q) b) (branch_in (i.name ∷ y ∷ q) s)) t ∙ e

  is-in : (F : Forest Node) → Apart F → 0 < total m F → IsIn F
  is-in End a l = absurd (omega (arith, l))
  is-in (Hangs o n b s) a l = by (λ l. is-in b a.1 l) (λ l. is-in s a.2 l) (either (m o n) (total m b) (total m s) l)
    where
      by : (0 < total m b → IsIn b) → (0 < total m s → IsIn s) → (0 < m o n) ⊎ ((0 < total m b) ⊎ (0 < total m s)) → IsIn (Hangs o n b s)
      by down along (inl here) = record {
        name = folded (name_of n.key);
        path = [];
        branch = record { offset = o; node = n; below = b };
        is = ap (λ t. cond t (Some (record { offset = o; node = n; below = b })) (branch_in (folded (name_of n.key) ∷ []) s)) (name-self (folded (name_of n.key)));
        some = here;
      }
      by down along (inr (inl under)) =
          let i = down under in
          record {
            name = folded (name_of n.key);
            path = i.name ∷ i.path;
            branch = i.branch;
            is = ap (λ t. cond t (branch_in (i.name ∷ i.path) b) (branch_in (folded (name_of n.key) ∷ i.name ∷ i.path) s)) (name-self (folded (name_of n.key))) ∙ i.is;
            some = i.some;
          }
      by down along (inr (inr next)) = beside o n b s a.0 (along next)

  record IsAmong (keys : Branch Node) : Type 0 where
    path : Path
    branch : Branch Node
    is : branch_at path keys ≡ Some branch
    some : 0 < m branch.offset branch.node

  is-among : (keys : Branch Node) → Apart keys.below → 0 < total_of m keys → IsAmong keys
  is-among keys a l = by (either (m keys.offset keys.node) (total m keys.below) 0 (omega (arith, l)))
    where
      by : (0 < m keys.offset keys.node) ⊎ ((0 < total m keys.below) ⊎ (0 < 0)) → IsAmong keys
      by (inl here) = record { path = []; branch = keys; is = refl; some = here }
      by (inr (inl under)) = let i = is-in keys.below a under in record { path = i.name ∷ i.path; branch = i.branch; is = i.is; some = i.some }
      by (inr (inr never)) = absurd (omega (arith, never))

-- ---- a key of a tree that passes a test

pub record Passes (tree : Tree) (test : Path → Bool) : Type 0 where
  pub path : Path
  pub rec : Rec
  pub there : get tree path ≡ Some rec
  pub passes : test path ≡ true

same-self : (p : Path) → same_path p p ≡ true
same-self p = ap is_eq (tied_itself path_total p)

-- one of a list that passes
one-of : (test : Path → Bool) (ps : List Path) → list_any test ps ≡ true → (p : Path) × (test p ≡ true) × (list_any (same_path p) ps ≡ true)
one-of test [] e = absurd (false≢true e)
one-of test (p ∷ ps) e = by (λ e. one-of test ps e) (test p) refl e
  where
    by : (list_any test ps ≡ true → (q : Path) × (test q ≡ true) × (list_any (same_path q) ps ≡ true)) →
        (t : Bool) → test p ≡ t → (t || list_any test ps) ≡ true → (q : Path) × (test q ≡ true) × (list_any (same_path q) (p ∷ ps) ≡ true)
    by rest true t e = (p, t, ap (λ b. b || list_any (same_path p) ps) (same-self p))
    by rest false t e = let r = rest e in (r.0, r.1, more (same_path r.0 p) r.2)
      where
        more : {c : Bool} (b : Bool) → c ≡ true → (b || c) ≡ true
        more true e = refl
        more false e = e

-- what passes one test passes another
all-pass : (f g : Path → Bool) → ((p : Path) → f p ≡ true → g p ≡ true) → (ps : List Path) → list_any f ps ≡ true → list_any g ps ≡ true
all-pass f g then [] e = e
all-pass f g then (p ∷ ps) e = by (λ e. all-pass f g then ps e) (f p) (g p) refl refl e
  where
    by : (list_any f ps ≡ true → list_any g ps ≡ true) → (s t : Bool) → f p ≡ s → g p ≡ t → (s || list_any f ps) ≡ true → (t || list_any g ps) ≡ true
    by rest s true a b e = refl
    by rest true false a b e = absurd (false≢true (sym b ∙ then p a))
    by rest false false a b e = rest e

module _ (tree : Tree) (test : Path → Bool) where
  pub passing : list_any test (keys tree) ≡ true → Passes tree test
  passing e =
      let o = one-of test (keys tree) e in
      by o.0 o.1 (get tree o.0) refl (contains_key-keys tree o.0 ∙ o.2)
    where
      by : (p : Path) → test p ≡ true → (r : Option Rec) → get tree p ≡ r → contains_key tree p ≡ true → Passes tree test
      by p t None g c = absurd (true≢false (sym c ∙ ap is_some g))
      by p t (Some r) g c = record { path = p; rec = r; there = g; passes = t }

  pub passed : (p : Path) (r : Rec) → get tree p ≡ Some r → test p ≡ true → list_any test (keys tree) ≡ true
  passed p r g t = all-pass (same_path p) test (λ q e. ap test (sym (path-is p q e)) ∙ t) (keys tree) (sym (contains_key-keys tree p) ∙ ap is_some g)

-- two answers that imply each other are the same
same-answer : (a b : Bool) → (a ≡ true → b ≡ true) → (b ≡ true → a ≡ true) → a ≡ b
same-answer true b f g = sym (f refl)
same-answer false true f g = g refl
same-answer false false f g = refl

-- ---- the table

module _ (h : Heap) (root : ℕ) (all : Branch Node) (ring spare : List ℕ) (w : IsShape h root all ring spare) (table : DescriptorCells)
    (finds : Finds table h ring) (d : List ℕ) where
  abbrev tree : Tree
  tree = tree_of h all

  abbrev has : Path → Bool
  has p = bytes_eq d (descriptor_of (get tree p))

  -- a key with the descriptor has a security that has it
  record HasIt (p : Path) : Type 0 where
    branch : Branch Node
    is : branch_at p all ≡ Some branch
    describes : descriptor_in h branch.node.key.fields.security ≡ d

  has-it : (p : Path) (r : Rec) → get tree p ≡ Some r → has p ≡ true → HasIt p
  has-it p r g t = by (branch_at p all) refl (sym (told h root all w.stands p) ∙ g)
    where
      by : (b : Option (Branch Node)) → branch_at p all ≡ b → option_map (tells_branch h) b ≡ Some r → HasIt p
      by None e f = absurd (none-some _ f)
      by (Some b) e f = record {
        branch = b;
        is = e;
        describes = ap (λ (r : Rec). r.descriptor) (same_Some _ _ f) ∙ sym ((bytes_decides d (descriptor_of (get tree p))).0 t ∙ ap descriptor_of g);
      }

  -- a security of the ring has a descriptor
  ringed-describes : (z : ℕ) → 0 < times z ring → descriptor_at h z ≡ Some (descriptor_in h z)
  ringed-describes z l =
      let s = all-at (IsWrittenSecurity h) ring z w.closed.written l in
      let e = ap (option_map (λ (s : KeySecurityRecord). s.descriptor)) s.reads in
      e ∙ sym (ap (λ o. Some (unwrap_or o [])) e)

  noted-there : (p : Path) → HasIt p → is_some (cell_of table d) ≡ true
  noted-there p i =
      let z = i.branch.node.key.fields.security in
      let own = shares-own h root i.branch.offset i.branch.node (branch-stands h root i.branch p all i.is w.stands).0.reads in
      let more = branch-total (shares z) i.branch p all i.is in
      let there = (w.ringed z).0 (omega (arith, own, more)) in
      ap is_some (finds.listed d z (there, ringed-describes z there ∙ ap Some i.describes))

  described-noted : list_any has (keys tree) ≡ true → is_some (cell_of table d) ≡ true
  described-noted e = let p = passing tree has e in noted-there p.path (has-it p.path p.rec p.there p.passes)

  noted-described : (o : Option ℕ) → cell_of table d ≡ o → is_some o ≡ true → list_any has (keys tree) ≡ true
  noted-described None e s = absurd (false≢true s)
  noted-described (Some z) e s =
      let f = finds.found d z e in
      let i = is-among (shares z) all (apart-stands h root all w.stands) ((w.ringed z).1 f.0) in
      let b = i.branch in
      let n = names-once h b.offset b.node (branch-stands h root b i.path all i.is w.stands).0.reads z in
      let l = i.some in
      let same : z ≡ b.node.key.fields.security = there-is z b.node.key.fields.security (omega (arith, n, l)) in
      let g : get tree i.path ≡ Some (tells_branch h b) = told h root all w.stands i.path ∙ ap (option_map (tells_branch h)) i.is in
      passed tree has i.path (tells_branch h b) g
      ((bytes_decides d (descriptor_of (get tree i.path))).1
      (sym (ap descriptor_of g ∙ (ap (descriptor_in h) (sym same) ∙ ap (λ o. unwrap_or o []) f.1))))

  -- it notes a descriptor where some key of a shape's tree has it
  pub described_in : is_some (cell_of table d) ≡ is_described tree d
  described_in = same-answer (is_some (cell_of table d)) (list_any has (keys tree)) (noted-described (cell_of table d) refl) described-noted

pub described_is : (bytes : List ℕ) (root : ℕ) (table : DescriptorCells) → TreeInvariant bytes root table → (d : List ℕ) → is_some (cell_of table d) ≡ is_described (tree_in bytes root) d
described_is bytes root table t d =
    described_in (cell_at bytes) root t.keys t.ring [] t.shape table t.finds d
    ∙ ap (λ (tree : Tree). is_described tree d) (sym (spelt_is bytes root t))

-- the size of the cell that it takes, where the table doesn't note it
pub described_sizes : (bytes : List ℕ) (root : ℕ) (table : DescriptorCells) → TreeInvariant bytes root table → (d : List ℕ) →
    security_sizes (tree_in bytes root) d ≡ cond (is_some (cell_of table d)) [] (cell_size (20 + length d) ∷ [])
unfolding security_sizes
described_sizes bytes root table t d = ap (λ b. cond b [] (cell_size (20 + length d) ∷ [])) (sym (described_is bytes root table t d))
