-- Which cells stay, and what reads as before, when a key is made below another: up to its parent's key node.
use Rattle.std.proofs.Common.{◌≡◌, ◌≢◌, ℕ, ◌+◌, ◌%◌, ◌≤◌, ◌<◌, max, Option, Some, None, IsSome, List, [], ◌∷◌, ◌++◌, drop, map, length}
use Rattle.std.proofs.Common.{get_or, refl, sym, ap, ◌∙◌, subst, arith}
use Rattle.std.specs.List.{AllByRecursion}
use Rattle.reg_arena.proofs.FreeList.ThreadLinks.{times-append}
use Rattle.reg_names.specs.Names.{folded}
use Rattle.reg_heap.specs.Paths.{Path}
use Rattle.reg_heap.specs.Heaps.{Heap, allocated}
use Rattle.reg_heap.specs.Kinds.{Found, times, is_own, owned}
use Rattle.reg_heap.specs.Kinds.Kind.{Key}
use Rattle.reg_shape.specs.Internal.Forests.{Forest, Branch, heads, total, Stand}
use Rattle.reg_shape.specs.Internal.Forests.Forest.{End, Rooted as Hangs}
use Rattle.reg_records.specs.KeyNodes.{KeyRecord, key_at}
use Rattle.reg_records.specs.KeySecurities.{security_at}
use Rattle.reg_records.specs.SubkeyLists.{Entry, offsets_in}
use Rattle.reg_shape.specs.Nodes.{Node, entries_of}
use Rattle.reg_shape.specs.Written.{Fits, IsWrittenSecurity}
use Rattle.reg_shape.specs.Internal.Shapes.{index_cells, owns, IsSeen, StandsIn}
use Rattle.reg_shape.specs.Internal.Grafts.{IsShape}
use Rattle.reg_shape.specs.PathLookup.{key_offset_at}
use Rattle.reg_records.proofs.KeyNodeCodec.{key_at-same}
use Rattle.reg_records.proofs.KeySecurityCodec.{security_at-same}
use Rattle.reg_shape.proofs.Walking.WalkRefinement.{IsLooked}
use Rattle.reg_shape.proofs.Wholeness.ShapeRecords.{all-at, at-most-one}
use Rattle.reg_shape.proofs.Graft.ForestInsertFits.{all-mapped}
use Rattle.reg_shape.proofs.Lookup.LookupOfShape.{key-looked}
use Rattle.reg_index.specs.Subkeys.{AreSubkeys, Moves, names_in, name_at, name_or_none, cells_of_index, own}
use Rattle.reg_index.proofs.SubkeysOpening.{own-is}
use Rattle.reg_index.proofs.SubkeysFrame.{owned-index, own-stays}
use Rattle.reg_index.proofs.RefinementOfSubkeys.{subkeys-elsewhere}
use Rattle.reg_tree.specs.Internal.KeyNodeChanges.{Notes, noted_subkeys, raised}
use Rattle.reg_tree.proofs.Invariant.OwnCells.{own-parts, key-here}
use Rattle.reg_tree.proofs.InsertKey.ParentReindexed.{branch-subkeys}
use Rattle.reg_tree.proofs.Invariant.UntouchedCells.{offset-own, times-one, not-there, written-allocated, moved-calm, all-heads, all-of}
use Rattle.reg_tree.proofs.Invariant.KeyOfShape as keyed

-- the folded name of a key that was looked at
abbrev pub name_of_head : ℕ × Node → List ℕ
name_of_head e = folded e.1.key.name

-- the names in a list are those of the keys below, also where other cells changed
pub names-heads : (h k : Heap) (root : ℕ) (F : Forest Node) (es : List Entry) → Stand (IsSeen h root) Fits F →
    map (λ (e : ℕ × Node). e.0) (heads F) ≡ offsets_in es → ((z : ℕ) → 0 < total (owns z) F → k z ≡ h z) → names_in k es ≡ map name_of_head (heads F)
names-heads h k root End [] a q c = refl
names-heads h k root End (e ∷ es) a q c = absurd (let n = ap length q in omega (arith, n))
names-heads h k root (Hangs o n b s) [] a q c = absurd (let n = ap length q in omega (arith, n))
names-heads h k root (Hangs o n b s) (e ∷ es) a q c =
    let first : o ≡ e.offset = ap (λ (ps : List ℕ). get_or ps 0 0) q in
    let rest : map (λ (e : ℕ × Node). e.0) (heads s) ≡ offsets_in es = ap (λ (ps : List ℕ). drop 1 ps) q in
    let here : key_at k o ≡ Some n.key = key_at-same h k o (c o (let l = offset-own h o n a.0.0.reads in omega (arith, l))) ∙ key-looked h o n a.0.0.reads in
    let named : name_at k e.offset ≡ n.key.name = ap (λ z. name_or_none (key_at k z)) (sym first) ∙ ap name_or_none here in
    ap (λ x. folded x ∷ names_in k es) named ∙ ap (λ xs. name_of_head (o, n) ∷ xs) (names-heads h k root s es a.1 rest (λ z l. c z (omega (arith, l))))

-- a length raised is the greater of both
pub raised-low : (o s : ℕ) → s < 65536 → raised o s % 65536 ≡ max (o % 65536) s
raised-low o s l = omega (arith, l)

-- ---- the cells: `h0` before, `h1` with the key node written, `h2` with the key among its parent's subkeys, `h3` when that was noted
-- in the parent's key node, `h4` when the security was counted

module _ (h0 h1 h2 h3 h4 : Heap) (root : ℕ) (keys : Branch Node) (ring : List ℕ) (p : Path) (parent : ℕ)
    (carved : List ℕ) (key : ℕ) (left : List ℕ)
    (w : IsShape h0 root keys ring (carved ++ key ∷ left)) (at : key_offset_at h0 root p ≡ Some parent) where
  abbrev spare : List ℕ
  spare = carved ++ key ∷ left

  abbrev was : Branch Node
  was = keyed.branch h0 root keys ring spare w p parent at

  abbrev node : Node
  node = was.node

  abbrev above : KeyRecord
  above = node.key

  abbrev entries : List Entry
  entries = entries_of node.index

  pub looked : IsLooked h0 was.offset node
  looked = keyed.looked h0 root keys ring spare w p parent at

  pub seen : IsSeen h0 root was.offset node
  seen = keyed.seen h0 root keys ring spare w p parent at

  pub offset : was.offset ≡ parent
  offset = keyed.offset h0 root keys ring spare w p parent at

  -- its security is in the ring
  pub security-ringed : 0 < times above.fields.security ring
  security-ringed = keyed.secured h0 root keys ring spare w p parent at

  abbrev stands0 : StandsIn h0 root was
  stands0 = keyed.stands h0 root keys ring spare w p parent at

  -- the names of its subkeys
  pub names0 : names_in h0 entries ≡ map name_of_head (heads was.below)
  names0 = names-heads h0 h0 root was.below entries stands0.2 stands0.1.offsets (λ z l. refl)

  abbrev K : ℕ → ℕ
  K z = is_own z (record { kind = Key; offset = was.offset })

  abbrev old_list : List ℕ
  old_list = cells_of_index node.index

  pub own-index : (z : ℕ) → owned z (index_cells node.index) ≡ times z old_list
  own-index z = owned-index z node.index

  not-offset : (z : ℕ) → K z ≡ 0 → z ≢ was.offset
  not-offset z none e = let one = key-here z was.offset e in omega (arith, none, one)

  -- it is no key of the tree that is there
  pub not-root : key ≢ root
  not-root e =
      let own = offset-own h0 keys.offset keys.node w.stands.0.reads in
      let x = w.exact keys.offset in
      let m = at-most-one h0 keys.offset in
      let s = times-append keys.offset carved (key ∷ left) in
      let t = subst (λ z. times z (key ∷ []) ≡ 1) (e ∙ sym w.offset) (times-one key) in
      omega (arith, own, x, m, s, t)

  -- every cell is one thing alone
  pub budget : (z : ℕ) → ((K z + (owned z looked.class_cells + owned z looked.value_cells)) + (times z old_list + total (owns z) was.below)) +
      (times z ring + (times z carved + (times z (key ∷ []) + times z left))) ≤ allocated h0 z
  budget z =
      let all = keyed.branch_once h0 root keys ring spare w p parent at z in
      let o = ap (λ (found : List Found). owned z (found ++ index_cells node.index)) looked.cells ∙ own-parts z was.offset above looked.class_cells looked.value_cells node.index in
      let i = own-index z in
      let s = times-append z carved (key ∷ left) in
      omega (arith, all, o, i, s)

  pub one : (z : ℕ) → allocated h0 z ≤ 1
  one z = at-most-one h0 z

  module _ (others1 : (z : ℕ) → z ≢ key → h1 z ≡ h0 z) (there1 : IsSome (h1 key)) where
    key-allocated : IsSome (h0 key)
    key-allocated = is-some (h0 key) (let b = budget key in let t = times-one key in omega (arith, b, t))
      where
        is-some : (o : Option (List ℕ)) → 0 < allocated (λ z. o) key → IsSome o
        is-some None l = absurd (omega (arith, l))
        is-some (Some c) l = refl

    pub calm1 : (z : ℕ) → times z (key ∷ []) ≡ 0 → h1 z ≡ h0 z
    calm1 z none = others1 z (not-there z key none)

    pub allocated1 : (z : ℕ) → allocated h1 z ≡ allocated h0 z
    allocated1 z = written-allocated h0 h1 key others1 key-allocated there1 z

    -- the keys below read the same
    below1 : (z : ℕ) → 0 < total (owns z) was.below → h1 z ≡ h0 z
    below1 z l = calm1 z (let b = budget z in let o = one z in omega (arith, b, o, l))

    -- a name stands among theirs where it stood
    pub names1 : names_in h1 entries ≡ names_in h0 entries
    names1 = names-heads h0 h1 root was.below entries stands0.2 stands0.1.offsets below1 ∙ sym names0

    -- what holds of the cells of the keys below holds of the cells that the list names
    pub below-all : (Q : ℕ → Type 0) → ((z : ℕ) → 0 < total (owns z) was.below → Q z) → AllByRecursion (λ (e : Entry). Q e.offset) entries
    below-all Q q =
        all-mapped (λ (e : Entry). e.offset) Q entries
        (subst (AllByRecursion Q) stands0.1.offsets (all-of (λ (e : ℕ × Node). e.0) Q (heads was.below) (all-heads h0 root Q was.below stands0.2 q)))

    -- its subkeys are what they were
    subkeys0 : AreSubkeys h0 above.fields.subkeys above.fields.subkeys_list entries
    subkeys0 = branch-subkeys h0 root was stands0

    pub list-calm : (z : ℕ) → 0 < times z (own h0 above.fields.subkeys above.fields.subkeys_list) → h1 z ≡ h0 z
    list-calm z l =
        let t = subst (λ cells. 0 < times z cells) (own-is h0 above.fields.subkeys above.fields.subkeys_list node.index looked.index_is) l in
        let b = budget z in let o = one z in calm1 z (omega (arith, b, o, t))

    pub subkeys1 : AreSubkeys h1 above.fields.subkeys above.fields.subkeys_list entries
    subkeys1 = subkeys-elsewhere h0 h1 above.fields.subkeys above.fields.subkeys_list entries subkeys0 list-calm (below-all (λ o. key_at h1 o ≡ key_at h0 o) (λ z l. key_at-same h0 h1 z (below1 z l)))

    pub own1 : own h1 above.fields.subkeys above.fields.subkeys_list ≡ old_list
    own1 = own-stays h0 h1 above.fields.subkeys above.fields.subkeys_list entries subkeys0 list-calm ∙ own-is h0 above.fields.subkeys above.fields.subkeys_list node.index looked.index_is

    module _ (count1 list1 : ℕ) (moves : Moves h1 h2 (old_list ++ carved) (own h2 count1 list1)) where
      pub before : (z : ℕ) → times z (old_list ++ carved) ≡ times z old_list + times z carved
      before z = times-append z old_list carved

      pub calm2 : (z : ℕ) → 0 < allocated h0 z → times z old_list ≡ 0 → times z carved ≡ 0 → h2 z ≡ h1 z
      calm2 z some a b = (let x = allocated1 z in let y = before z in
          moved-calm h1 h2 (old_list ++ carved) (own h2 count1 list1) moves z (omega (arith, some, x)) (omega (arith, a, b, y)))

      abbrev P : ℕ
      P = was.offset

      pub P-own : K P ≡ 1
      P-own = key-here P P refl

      pub P-calm : h2 P ≡ h0 P
      P-calm = let b = budget P in let o = one P in let k = P-own in calm2 P (omega (arith, b, k)) (omega (arith, b, o, k)) (omega (arith, b, o, k)) ∙ calm1 P (omega (arith, b, o, k))

      pub P-then : key_at h2 P ≡ Some above
      P-then = key_at-same h0 h2 P P-calm ∙ key-looked h0 P node seen.reads

      module _ (name : List ℕ) (moment : ℕ) (notes : Notes h2 h3 parent (noted_subkeys count1 list1 (length name) moment)) where
        pub its-notes : Notes h2 h3 was.offset (noted_subkeys count1 list1 (length name) moment)
        its-notes = subst (λ o. Notes h2 h3 o (noted_subkeys count1 list1 (length name) moment)) (sym offset) notes

        pub calm3 : (z : ℕ) → K z ≡ 0 → h3 z ≡ h2 z
        calm3 z none = its-notes.others z (not-offset z none)

        pub written : IsWrittenSecurity h0 above.fields.security
        written = all-at (IsWrittenSecurity h0) ring above.fields.security w.closed.written security-ringed

        pub security-calm : h3 above.fields.security ≡ h0 above.fields.security
        security-calm = let s = above.fields.security in let b = budget s in let o = one s in let k = security-ringed in calm3 s (omega (arith, b, o, k)) ∙
            (calm2 s (omega (arith, b, k)) (omega (arith, b, o, k)) (omega (arith, b, o, k)) ∙ calm1 s (omega (arith, b, o, k)))

        pub security-there : security_at h3 above.fields.security ≡ Some written.security
        security-there = security_at-same h0 h3 above.fields.security security-calm ∙ written.reads
