-- What is told of a key: its name, time, marks, descriptor and subkeys.
use Rattle.std.proofs.Common.{◌≡◌, ℕ, zero, suc, ◌+◌, ◌≤◌, ◌<◌, Option, Some, None, IsSome, List, [], ◌∷◌, ◌++◌, map, length, get_or, refl, sym, ap, ◌∙◌, subst, arith, length-append}
use Rattle.std.specs.Prelude.{Ok, unwrap_or}
use Rattle.std.specs.Option.{option_and_then}
use Rattle.std.specs.List.{AllByRecursion}
use Rattle.std.specs.FinMap.{get}
use Rattle.std.proofs.lemmas.List.{length-map}
use Rattle.std.proofs.lemmas.Option.{same_Some}
use Rattle.reg_names.specs.Names.{folded}
use Rattle.reg_heap.specs.Paths.{Tree, Rec, children_of}
use Rattle.reg_heap.specs.Heaps.{Heap}
use Rattle.reg_shape.specs.Internal.Forests.{Forest, Branch, heads, Stand}
use Rattle.reg_shape.specs.Internal.Forests.Forest.{End, Rooted as Hangs}
use Rattle.reg_arena.specs.Cells.{cell_at}
use Rattle.reg_records.specs.declared.nk.KeyFields.{KeyFields}
use Rattle.reg_records.specs.KeyNodes.{KeyRecord, key_at, nk_of}
use Rattle.reg_records.specs.KeySecurities.{security_at}
use Rattle.reg_records.specs.SubkeyLists.{Entry}
use Rattle.reg_shape.specs.Nodes.{Node, entries_of}
use Rattle.reg_shape.specs.Spelt.{rec_of, name_of, marks_of}
use Rattle.reg_shape.specs.Internal.Shapes.{descriptor_in, IsSeen}
use Rattle.reg_shape.specs.Whole.{descriptor_at}
use Rattle.reg_shape.specs.Written.{Fits, IsWrittenSecurity}
use Rattle.reg_shape.specs.PathLookup.{key_offset_at, subkey_named}
use Rattle.reg_shape.proofs.Wholeness.ShapeRecords.{all-at}
use Rattle.reg_shape.proofs.Refinement.RefinementOfChildren.{children-told}
use Rattle.reg_shape.proofs.Refinement.RefinementAtPath.{name-written}
use Rattle.reg_shape.proofs.Lookup.LookupOfShape.{offset-none, offset-more, offset-append}
use Rattle.reg_index.specs.Subkeys.{AreSubkeys, names_in}
use Rattle.reg_index.proofs.NameSearch.{length-names}
use Rattle.reg_tree.specs.declared.node.Node.{Node as TreeNode}
use Rattle.reg_tree.specs.TreeKeys.{tree_in}
use Rattle.reg_tree.specs.Internal.TreeInvariant.{IsHere}
use Rattle.reg_tree.specs.Internal.PathWalks.{IsSubkey}
use Rattle.reg_tree.specs.Internal.KeyNodeChanges.{HasSubkeysList}
use Rattle.reg_tree.proofs.Invariant.CellReadings.{is_some_of, key-fields}
use Rattle.reg_tree.proofs.Invariant.KeyOfShape as keyed
use Rattle.reg_tree.proofs.Invariant.KeyOfTree.{spelt_is, branch, branch_is, offset, stands, seen, key_is, rec_there}
use Rattle.reg_tree.proofs.PathWalk.SubkeysFound.{subkeys}
use Rattle.reg_tree.proofs.InsertKey.SubkeyByName.{no_entry, named-ok}
use Rattle.reg_tree.proofs.InsertKey.InsertKeyFrame.{name_of_head, names-heads}

-- each key's name is as it was given
abbrev AllWritten : List (ℕ × Node) → Type 0
AllWritten es = AllByRecursion (λ (e : ℕ × Node). name_of e.1.key ≡ e.1.key.name) es

module _ (bytes : List ℕ) (key : ℕ) (t : IsHere bytes key) where
  abbrev h : Heap
  h = cell_at bytes

  abbrev b : Branch Node
  b = branch bytes key t

  abbrev node : Node
  node = b.node

  abbrev rec : Rec
  rec = rec_of node (descriptor_in h node.key.fields.security)

  abbrev tree : Tree
  tree = tree_in bytes t.root

  pub is-rec : (r : Rec) → get tree t.path ≡ Some r → rec ≡ r
  is-rec r e = same_Some _ _ (sym (rec_there bytes key t) ∙ e)

  -- ---- its name, time and marks

  pub name_told : (content : List ℕ) (read : KeyRecord) → h key ≡ Some content → nk_of content ≡ Ok read → (r : Rec) → get tree t.path ≡ Some r → read.name ≡ r.name
  name_told content read here reads r e =
      ap (λ (k : KeyRecord). k.name) (key-fields h key content node.key read (key_is bytes key t) here reads)
      ∙ (sym (name-written h t.root b.offset node (seen bytes key t).written) ∙ ap (λ (r : Rec). r.name) (is-rec r e))

  pub time_told : (fields : KeyFields) → ((k : KeyRecord) → key_at h key ≡ Some k → fields ≡ k.fields) → (r : Rec) → get tree t.path ≡ Some r → fields.time ≡ r.time
  time_told fields are r e = ap (λ (f : KeyFields). f.time) (are node.key (key_is bytes key t)) ∙ ap (λ (r : Rec). r.time) (is-rec r e)

  pub marks_told : (fields : KeyFields) → ((k : KeyRecord) → key_at h key ≡ Some k → fields ≡ k.fields) → (r : Rec) → get tree t.path ≡ Some r → marks_of fields.flags ≡ r.marks
  marks_told fields are r e = ap (λ (f : KeyFields). marks_of f.flags) (are node.key (key_is bytes key t)) ∙ ap (λ (r : Rec). r.marks) (is-rec r e)

  -- ---- its descriptor

  module _ (fields : KeyFields) (are : (k : KeyRecord) → key_at h key ≡ Some k → fields ≡ k.fields) where
    pub security_written : IsWrittenSecurity h fields.security
    security_written =
        subst (λ (f : KeyFields). IsWrittenSecurity h f.security) (sym (are node.key (key_is bytes key t)))
        (all-at (IsWrittenSecurity h) t.holds.ring node.key.fields.security t.holds.shape.closed.written
        (keyed.secured h t.root t.holds.keys t.holds.ring [] t.holds.shape t.path key t.at))

    pub security_told : IsSome (security_at h fields.security)
    security_told = is_some_of _ _ security_written.reads

    pub descriptor_told : (told : List ℕ) → descriptor_at h fields.security ≡ Some told → (r : Rec) → get tree t.path ≡ Some r → told ≡ r.descriptor
    descriptor_told told has r e =
        sym (ap (λ (o : Option (List ℕ)). unwrap_or o []) has)
        ∙ (ap (λ (f : KeyFields). descriptor_in h f.security) (are node.key (key_is bytes key t))
        ∙ ap (λ (r : Rec). r.descriptor) (is-rec r e))

  -- ---- its subkeys

  children : children_of tree t.path ≡ map (λ (e : ℕ × Node). t.path ++ folded (name_of e.1.key) ∷ []) (heads b.below)
  children = ap (λ (tree : Tree). children_of tree t.path) (spelt_is bytes t.root t.holds) ∙ children-told h t.root t.holds.keys t.holds.shape.stands t.path b (branch_is bytes key t)

  names-are : names_in h (entries_of node.index) ≡ map name_of_head (heads b.below)
  names-are = names-heads h h t.root b.below (entries_of node.index) (stands bytes key t).2 (stands bytes key t).1.offsets (λ z l. refl)

  module _ (count list : ℕ) (has : HasSubkeysList h key count list) where
    pub number_told : count ≡ length (children_of tree t.path)
    number_told =
        let n = (subkeys bytes key t count list has).number in
        let a = ap length names-are ∙ length-map (heads b.below) name_of_head in
        let c = ap length children ∙ length-map (heads b.below) (λ (e : ℕ × Node). t.path ++ folded (name_of e.1.key) ∷ []) in
        let l = length-names h (entries_of node.index) in
        omega (arith, n, a, c, l)

    written-names : (es : List (ℕ × Node)) → AllWritten es → (i : ℕ) → i < length es →
        get_or (map (λ (e : ℕ × Node). t.path ++ folded (name_of e.1.key) ∷ []) es) i [] ≡ t.path ++ get_or (map name_of_head es) i [] ∷ []
    written-names [] a i l = absurd (omega (arith, l))
    written-names (e ∷ es) a zero l = ap (λ n. t.path ++ folded n ∷ []) a.0
    written-names (e ∷ es) a (suc i) l = written-names es a.1 i (omega (arith, l))

    all-written : (F : Forest Node) → Stand (IsSeen h t.root) Fits F → AllWritten (heads F)
    all-written End a = tt
    all-written (Hangs o n c s) a = (name-written h t.root o n a.0.0.written, all-written s a.1)

    child-path : (i : ℕ) → i < count → get_or (children_of tree t.path) i [] ≡ t.path ++ get_or (names_in h (entries_of node.index)) i [] ∷ []
    child-path i l =
        ap (λ ps. get_or ps i []) children
        ∙ (written-names (heads b.below) (all-written b.below (stands bytes key t).2) i (let n = number_told in
        let c = ap length children ∙ length-map (heads b.below) (λ (e : ℕ × Node). t.path ++ folded (name_of e.1.key) ∷ []) in
        omega (arith, l, n, c))
        ∙ ap (λ ns. t.path ++ get_or ns i [] ∷ []) (sym names-are))

    pub subkey_told : (from : TreeNode) (index child : ℕ) → index < count → ((es : List Entry) → AreSubkeys h count list es → (get_or es index no_entry).offset ≡ child)
        → IsSubkey h t.root t.path (children_of tree t.path) from index (Some (record { offset = child; depth = from.depth + 1 }))
    subkey_told from index child l at =
        let es = entries_of node.index in
        let s = subkeys bytes key t count list has in
        let x = get_or (names_in h es) index [] in
        let n = s.number in
        let m = length-names h es in
        let named : subkey_named h x key ≡ Some child = subst (λ o. subkey_named h x o ≡ Some child) (offset bytes key t)
        (named-ok h t.root b (stands bytes key t) x index s.rising (omega (arith, l, n, m), refl) ∙ ap Some (at es s)) in (
          (let n = number_told in omega (arith, l, n)),
          ap (key_offset_at h t.root) (child-path index l)
              ∙ (offset-append h t.root t.path (x ∷ [])
              ∙ (ap (option_and_then (λ c. key_offset_at h c (x ∷ []))) t.at
              ∙ (offset-more h key x [] ∙ (ap (option_and_then (λ d. key_offset_at h d [])) named ∙ offset-none h child)))),
          refl,
          ap length (child-path index l) ∙ length-append t.path (x ∷ []),
        )

    pub no_subkey : (from : TreeNode) (index : ℕ) → count ≤ index → IsSubkey h t.root t.path (children_of tree t.path) from index None
    no_subkey from index l = let n = number_told in omega (arith, l, n)
