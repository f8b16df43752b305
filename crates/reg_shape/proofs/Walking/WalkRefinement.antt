-- A shape that stands in the cells is what the walk meets.
use Rattle.std.proofs.Common.{◌≡◌, ℕ, ◌≤◌, false, cond, ◌==◌, Some, None, List, [], ◌∷◌, ◌++◌, map, length, Result, refl, sym, ap, ◌∙◌, subst, arith, append_assoc}
use Rattle.std.specs.Option.{option_map, option_and_then}
use Rattle.std.specs.Result.{result_ok}
use Rattle.std.proofs.lemmas.Bool.Decides.{nat_tests}
use Rattle.reg_heap.specs.Paths.{Member}
use Rattle.reg_heap.specs.Heaps.{Heap}
use Rattle.reg_heap.specs.Kinds.{Found}
use Rattle.reg_heap.specs.Kinds.Kind.{Key, Class, SubList, ValueList, Security}
use Rattle.reg_shape.specs.Internal.Forests.{Forest, Branch, offsets, heads, Stand}
use Rattle.reg_shape.specs.Internal.Forests.Forest.{End, Rooted as Hangs}
use Rattle.reg_records.specs.KeyNodes.{KeyRecord, nk_of, key_at}
use Rattle.reg_records.specs.RecordCells.{read_at}
use Rattle.reg_records.specs.KeySecurities.{sk_of, security_at}
use Rattle.reg_records.specs.SubkeyLists.{offsets_in}
use Rattle.reg_records.specs.BigData.{plainly, if_any}
use Rattle.reg_shape.specs.Walk.{key_names, security_names}
use Rattle.reg_shape.specs.Nodes.{Node, Index, pieces_at, members_at, index_at, entries_of, node_of, node_in, met_of, look}
use Rattle.reg_shape.specs.Written.{Fits, IsWrittenSecurity}
use Rattle.reg_shape.specs.Internal.Shapes.{index_met, traces, trace, IsSeen, StandsIn}
use Rattle.reg_shape.proofs.Walking.WalkParts.{Walks, walks-none, walks-join, walks-met}
use Rattle.reg_shape.proofs.Walking.ReadingWalks.{class-walks, members-walks}
use Rattle.reg_shape.proofs.Walking.IndexWalks.{then-open, map-open, AllWalk, index-walks}

-- ---- securities

record IsRead {R F : Type 0} (heap : Heap) (offset : ℕ) (reading : List ℕ → Result R F) (r : R) : Type 0 where
  content : List ℕ
  here : heap offset ≡ Some content
  reads : result_ok (reading content) ≡ Some r

read-open : {R F : Type 0} (reading : List ℕ → Result R F) (heap : Heap) (offset : ℕ) (r : R) → read_at reading heap offset ≡ Some r → IsRead heap offset reading r
read-open reading heap offset r e =
    let o = then-open (λ content. result_ok (reading content)) (heap offset) r e in record { content = o.0; here = o.1; reads = o.2 }

no-zero : (n : ℕ) → 1 ≤ n → (n == 0) ≡ false
no-zero n l = grind (arith, nat_tests)

pub security-walks : (heap : Heap) (offset : ℕ) → IsWrittenSecurity heap offset → Walks heap (plainly Security offset ∷ []) (record { kind = Security; offset = offset } ∷ [])
unfolding security_at
security-walks heap offset s =
    let r = read-open sk_of heap offset s.security s.reads in
    walks-met heap (plainly Security offset) r.content [] [] r.here
    (ap (option_and_then security_names) r.reads ∙ ap (λ b. cond b None (Some [])) (no-zero (length s.security.descriptor) s.some))
    (walks-none heap)

-- ---- a key

-- what a key's own reading is made of
pub record IsLooked (heap : Heap) (offset : ℕ) (node : Node) : Type 0 where
  pub content : List ℕ
  pub class_cells : List Found
  pub value_cells : List Found
  pub here : heap offset ≡ Some content
  pub key_is : result_ok (nk_of content) ≡ Some node.key
  pub class_is : pieces_at (if_any Class node.key.fields.class_length node.key.fields.class) heap ≡ Some (node.class, class_cells)
  pub values_are : members_at node.key.fields.values node.key.fields.values_list heap ≡ Some (node.values, value_cells)
  pub index_is : index_at heap node.key.fields.subkeys node.key.fields.subkeys_list ≡ Some node.index
  pub cells : node.cells ≡ met_of offset node.key class_cells value_cells

pub look-open : (heap : Heap) (offset : ℕ) (node : Node) → look heap offset ≡ Some node → IsLooked heap offset node
unfolding look key_at
look-open heap offset node e =
    let k = then-open (node_in heap offset) (key_at heap offset) node e in
    let r = read-open nk_of heap offset k.0 k.1 in
    let key = k.0 in
    let c = then-open (λ class. option_and_then (λ values. option_map (node_of offset key class values)
    (index_at heap key.fields.subkeys key.fields.subkeys_list)) (members_at key.fields.values key.fields.values_list heap))
    (pieces_at (if_any Class key.fields.class_length key.fields.class) heap) node k.2 in
    let v = then-open (λ values. option_map (node_of offset key c.0 values) (index_at heap key.fields.subkeys key.fields.subkeys_list))
    (members_at key.fields.values key.fields.values_list heap) node c.2 in
    let i = map-open (node_of offset key c.0 v.0) (index_at heap key.fields.subkeys key.fields.subkeys_list) node v.2 in
    parts key c.0 v.0 i.0 i.2 r.content r.here r.reads c.1 v.1 i.1
  where
    parts : (key : KeyRecord) (class : List ℕ × List Found) (values : List Member × List Found) (index : Index) →
        node_of offset key class values index ≡ node → (content : List ℕ) → heap offset ≡ Some content → result_ok (nk_of content) ≡ Some key →
        pieces_at (if_any Class key.fields.class_length key.fields.class) heap ≡ Some class →
        members_at key.fields.values key.fields.values_list heap ≡ Some values →
        index_at heap key.fields.subkeys key.fields.subkeys_list ≡ Some index → IsLooked heap offset node
    parts key class values index is content here reads c v i =
        subst (λ n. IsLooked heap offset n) is (record {
          content = content;
          class_cells = class.1;
          value_cells = values.1;
          here = here;
          key_is =
              reads;
          class_is = c;
          values_are = v;
          index_is = i;
          cells = refl;
        })

pub key-walks : (heap : Heap) (offset : ℕ) (node : Node) (below : List (List Found)) → look heap offset ≡ Some node →
    IsWrittenSecurity heap node.key.fields.security → AllWalk heap (offsets_in (entries_of node.index)) below →
    Walks heap (plainly Key offset ∷ []) (node.cells ++ index_met node.index below)
key-walks heap offset node below e s a =
    let l = look-open heap offset node e in
    let key = node.key in
    let class = class-walks heap key.fields.class_length key.fields.class (node.class, l.class_cells) l.class_is in
    let values = members-walks heap key.fields.values key.fields.values_list (node.values, l.value_cells) l.values_are in
    let index = index-walks heap key.fields.subkeys key.fields.subkeys_list node.index below l.index_is a in
    let security = security-walks heap key.fields.security s in
    let rest = walks-join heap (if_any ValueList key.fields.values key.fields.values_list)
    (if_any SubList key.fields.subkeys key.fields.subkeys_list) l.value_cells (index_met node.index below) values index in
    let more = walks-join heap (plainly Security key.fields.security ∷ []) _ (record { kind = Security; offset = key.fields.security } ∷ [])
    (l.value_cells ++ index_met node.index below) security rest in
    let all = walks-join heap (if_any Class key.fields.class_length key.fields.class) _ l.class_cells _ class more in
    subst (λ zs. Walks heap (plainly Key offset ∷ []) zs)
    (ap (λ zs. record { kind = Key; offset = offset } ∷ zs) (sym (append_assoc l.class_cells (record { kind = Security; offset = key.fields.security } ∷ l.value_cells) (index_met node.index below)))
    ∙ ap (λ zs. zs ++ index_met node.index below) (sym l.cells))
    (walks-met heap (plainly Key offset) l.content (key_names key) _ l.here (ap (option_map key_names) l.key_is) all)

-- ---- keys side by side, and all below them

pub heads-offsets : (F : Forest Node) → map (λ (e : ℕ × Node). e.0) (heads F) ≡ offsets F
heads-offsets End = refl
heads-offsets (Hangs offset node below beside) = ap (λ ps. offset ∷ ps) (heads-offsets beside)

-- the securities that the keys name are as they are written
abbrev pub AreSecured : Heap → Forest Node → Type 0
AreSecured heap End = Unit {0}
AreSecured heap (Hangs offset node below beside) = IsWrittenSecurity heap node.key.fields.security × AreSecured heap below × AreSecured heap beside

pub forest-walks : (heap : Heap) (root : ℕ) (F : Forest Node) → Stand (IsSeen heap root) Fits F → AreSecured heap F → AllWalk heap (offsets F) (traces F)
forest-walks heap root End a s = tt
forest-walks heap root (Hangs offset node below beside) a s = (
  key-walks heap offset node (traces below) a.0.0.reads s.0
      (subst (λ ps. AllWalk heap ps (traces below)) (sym (heads-offsets below) ∙ a.0.1.offsets) (forest-walks heap root below a.0.2 s.1)),
  forest-walks heap root beside a.1 s.2,
)

pub branch-walks : (heap : Heap) (root : ℕ) (branch : Branch Node) → StandsIn heap root branch →
    IsWrittenSecurity heap branch.node.key.fields.security → AreSecured heap branch.below → Walks heap (plainly Key branch.offset ∷ []) (trace branch)
branch-walks heap root branch a one s =
    key-walks heap branch.offset branch.node (traces branch.below) a.0.reads one
    (subst (λ ps. AllWalk heap ps (traces branch.below)) (sym (heads-offsets branch.below) ∙ a.1.offsets) (forest-walks heap root branch.below a.2 s))
