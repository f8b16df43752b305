-- A whole hive has a shape: its keys, found by the walk, stand in its cells.
use Rattle.std.proofs.Common.{◌≡◌, ℕ, zero, suc, ◌+◌, ◌<◌, ◌≤◌, max, Bool, true, false, cond, eqb, Option, Some, List, [], ◌∷◌, ◌++◌, map, flat_map, length, refl, sym, ap, ◌∙◌, subst, arith}
use Rattle.std.proofs.Common.{append_assoc}
use Rattle.std.specs.List.{AllByRecursion}
use Rattle.std.specs.Option.{option_map, option_and_then}
use Rattle.std.specs.Result.{result_ok}
use Rattle.std.proofs.lemmas.Bool.{eqb-true, false≢true}
use Rattle.std.proofs.lemmas.Option.{none-some, same_Some}
use Rattle.std.proofs.lemmas.List.{append-nil}
use Rattle.reg_names.specs.Names.{folded}
use Rattle.reg_heap.specs.Paths.{Path, Rec}
use Rattle.reg_heap.specs.Heaps.{Heap, allocated}
use Rattle.reg_heap.specs.Kinds.{Found, is_security, is_own, is_shared, times, owned, shared}
use Rattle.reg_heap.specs.Kinds.Kind.{Key, Class, SubList, Leaf, ValueList, Security}
use Rattle.reg_records.specs.KeyNodes.{KeyRecord, nk_of}
use Rattle.reg_records.specs.SubkeyLists.{Entry, Form, SubkeysList, list_of, offsets_in}
use Rattle.reg_records.specs.declared.lists.ListForm.TheVariants.{IndexRoot, IndexLeaf, FastLeaf, HashLeaf}
use Rattle.reg_records.specs.BigData.{Named, named, plainly, if_any}
use Rattle.reg_shape.specs.Internal.Forests.{Forest, Branch, offsets, heads, total_of, Stand}
use Rattle.reg_shape.specs.Internal.Forests.Forest.{End, Rooted as Hangs}
use Rattle.reg_shape.specs.Walk.{key_names, leaves_named, keys_named, names_of, kind_met, gather, walk}
use Rattle.reg_shape.specs.Nodes.{Node, KeyList, Index, key_list_as, list_at, key_list_at, key_lists_at, index_as, index_at, entries_of, look}
use Rattle.reg_shape.specs.Nodes.Index.{Listed, Rooted}
use Rattle.reg_shape.specs.Spelt.{rec_of, behind}
use Rattle.reg_shape.specs.Written.{Pairwise, Fits, IsWrittenSecurity}
use Rattle.reg_shape.specs.Whole.{AreApart, IsWritten, IsWhole, count_at}
use Rattle.reg_shape.specs.Internal.Shapes.{trace, owns, shares, depth, descriptor_in, spelled, IsSeen, IsWholeShape}
use Rattle.reg_shape.proofs.Walking.WalkParts.{Walks, gather-open, walk-open, walk-more, walk-none}
use Rattle.reg_shape.proofs.Walking.WalkRefinement.{look-open, AreSecured, branch-walks}
use Rattle.reg_shape.proofs.Walking.IndexWalks.{then-open, map-open}
use Rattle.reg_shape.proofs.Wholeness.ShapeCounts.{tally-branch}
use Rattle.reg_shape.proofs.Wholeness.ShapeRecords.{all-at, shared-here, allocated-is, is-allocated}
use Rattle.reg_shape.proofs.Refinement.SpeltShapes.{keys-more, branch-spelt}
use Rattle.reg_security.proofs.RingTurned.{once}

-- ---- lists

all-split : {A : Type 0} (P : A → Type 0) (xs ys : List A) → AllByRecursion P (xs ++ ys) → AllByRecursion P xs × AllByRecursion P ys
all-split P [] ys a = (tt, a)
all-split P (x ∷ xs) ys a = let r = all-split P xs ys a.1 in ((a.0, r.0), r.1)

-- what a front and a back give, taken apart
gather-split : {A B : Type 0} (f : A → Option (List B)) (xs us : List A) (zs : List B) → gather f (xs ++ us) ≡ Some zs →
    (ys : List B) × (ws : List B) × (gather f xs ≡ Some ys) × (gather f us ≡ Some ws) × (ys ++ ws ≡ zs)
gather-split {B = B} f [] us zs e = ([], zs, refl, e, refl)
gather-split {B = B} f (x ∷ xs) us zs e =
    let o = gather-open f x (xs ++ us) zs e in
    let r = gather-split f xs us o.tail o.tail_is in
    (o.head ++ r.0, r.1, made o.head_is r.2, r.3, append-all o.head r.0 r.1 o.tail zs r.4 o.all)
  where
    made : {ys ws : List B} → f x ≡ Some ys → gather f xs ≡ Some ws → gather f (x ∷ xs) ≡ Some (ys ++ ws)
    made a b = ap (option_and_then (λ ys. option_map (λ zs. ys ++ zs) (gather f xs))) a ∙ ap (option_map (λ zs. _ ++ zs)) b

    append-all : (a b c tail zs : List B) → b ++ c ≡ tail → a ++ tail ≡ zs → (a ++ b) ++ c ≡ zs
    append-all a b c tail zs p q = append_assoc a b c ∙ (ap (λ ts. a ++ ts) p ∙ q)

-- ---- the keys that are met

module _ (heap : Heap) (root : ℕ) where
  -- a key that is met is as it is written, and so is a security
  pub record IsGood (f : Found) : Type 0 where
    pub key : f.kind ≡ Key → IsWritten heap root f.offset
    pub security : f.kind ≡ Security → IsWrittenSecurity heap f.offset

  -- each of these keys is walked, by so much fuel
  abbrev pub AreWalked : ℕ → List ℕ → Type 0
  AreWalked k [] = Unit {0}
  AreWalked k (o ∷ os) = ((t : List Found) × (walk k heap (plainly Key o) ≡ Some t) × AllByRecursion IsGood t) × AreWalked k os

  both-walked : (k : ℕ) (xs ys : List Entry) → AreWalked k (offsets_in xs) → AreWalked k (offsets_in ys) → AreWalked k (offsets_in (xs ++ ys))
  both-walked k [] ys a b = b
  both-walked k (x ∷ xs) ys a b = (a.0, both-walked k xs ys a.1 b)

  keys-walked : (j k : ℕ) → j ≤ k → (os : List ℕ) (zs : List Found) → gather (walk j heap) (map (plainly Key) os) ≡ Some zs → AllByRecursion IsGood zs → AreWalked k os
  keys-walked j k l [] zs e a = tt
  keys-walked j k l (o ∷ os) zs e a =
      let g = gather-open (walk j heap) (plainly Key o) (map (plainly Key) os) zs e in
      let s = all-split IsGood g.head g.tail (subst (AllByRecursion IsGood) (sym g.all) a) in
      ((g.head, walk-more j k heap l (plainly Key o) g.head g.head_is, s.0), keys-walked j k l os g.tail g.tail_is s.1)

  -- ---- lists of keys

  keys-only : (form : Form) (entries : List Entry) (names : List Named) → keys_named form entries ≡ Some names → names ≡ map (plainly Key) (offsets_in entries)
  keys-only IndexRoot entries names e = absurd (none-some _ e)
  keys-only IndexLeaf entries names e = sym (same_Some _ _ e)
  keys-only FastLeaf entries names e = sym (same_Some _ _ e)
  keys-only HashLeaf entries names e = sym (same_Some _ _ e)

  list-of-key-list : (offset : ℕ) (list : SubkeysList) (form : Form) (kl : KeyList) → key_list_as offset list form ≡ Some kl → list ≡ kl.list
  list-of-key-list offset list IndexRoot kl e = absurd (none-some _ e)
  list-of-key-list offset list IndexLeaf kl e = ap (λ (l : KeyList). l.list) (same_Some _ _ e)
  list-of-key-list offset list FastLeaf kl e = ap (λ (l : KeyList). l.list) (same_Some _ _ e)
  list-of-key-list offset list HashLeaf kl e = ap (λ (l : KeyList). l.list) (same_Some _ _ e)

  leaf-walked : (j k : ℕ) → j ≤ k → (o : ℕ) (kl : KeyList) (zs : List Found) → key_list_at heap o ≡ Some kl → walk j heap (plainly Leaf o) ≡ Some zs →
      AllByRecursion IsGood zs → AreWalked k (offsets_in kl.list.entries)
  leaf-walked zero k l o kl zs c e a = absurd (walk-none heap (plainly Leaf o) zs e)
  leaf-walked (suc j) k l o kl zs c e a =
      let m = walk-open j heap (plainly Leaf o) zs e in
      let q = then-open (λ (list : SubkeysList). key_list_as o list list.form) (list_at heap o) kl c in
      let list_is : list_of m.content ≡ Some q.0 = sym (ap (option_and_then list_of) m.here) ∙ q.1 in
      let names = keys-only q.0.form q.0.entries m.names (sym (ap (option_and_then (λ (list : SubkeysList). keys_named list.form list.entries)) list_is) ∙ m.names_are) in
      let below : gather (walk j heap) (map (plainly Key) (offsets_in q.0.entries)) ≡ Some m.below = ap (gather (walk j heap)) (sym names) ∙ m.below_is in
      let good : AllByRecursion IsGood (record { kind = Leaf; offset = o } ∷ m.below) = subst (AllByRecursion IsGood) (sym m.all) a in
      subst (λ (list : SubkeysList). AreWalked k (offsets_in list.entries)) (list-of-key-list o q.0 q.0.form kl q.2)
      (keys-walked j k (omega arith) (offsets_in q.0.entries) m.below below good.1)

  lists-walked : (j k : ℕ) → j ≤ k → (os : List ℕ) (lists : List KeyList) (zs : List Found) → key_lists_at heap os ≡ Some lists →
      gather (walk j heap) (map (plainly Leaf) os) ≡ Some zs → AllByRecursion IsGood zs →
      AreWalked k (offsets_in (flat_map (λ (l : KeyList). l.list.entries) lists))
  lists-walked j k l [] lists zs c e a = subst (λ lists. AreWalked k (offsets_in (flat_map (λ (l : KeyList). l.list.entries) lists))) (same_Some _ _ c) tt
  lists-walked j k l (o ∷ os) lists zs c e a =
      let q = then-open (λ (list : KeyList). option_map (λ lists. list ∷ lists) (key_lists_at heap os)) (key_list_at heap o) lists c in
      let t = map-open (λ (lists : List KeyList). q.0 ∷ lists) (key_lists_at heap os) lists q.2 in
      let g = gather-open (walk j heap) (plainly Leaf o) (map (plainly Leaf) os) zs e in
      let s = all-split IsGood g.head g.tail (subst (AllByRecursion IsGood) (sym g.all) a) in
      subst (λ lists. AreWalked k (offsets_in (flat_map (λ (l : KeyList). l.list.entries) lists))) t.2
      (both-walked k q.0.list.entries (flat_map (λ (l : KeyList). l.list.entries) t.0) (leaf-walked j k l o q.0 g.head q.1 g.head_is s.0)
      (lists-walked j k l os t.0 g.tail t.1 g.tail_is s.1))

  -- ---- a key's subkeys

  -- a list of keys is the whole index
  leaf-index : (j k : ℕ) → j ≤ k → (count offset : ℕ) (content : List ℕ) (list : SubkeysList) (index : Index) (names : List Named) (below : List Found) →
      list_of content ≡ Some list → Listed (record { offset = offset; list = list }) ≡ index → names_of Leaf count content ≡ Some names →
      gather (walk j heap) names ≡ Some below → AllByRecursion IsGood below → AreWalked k (offsets_in (entries_of index))
  leaf-index j k l count offset content list index names below c i n g a =
      let are = keys-only list.form list.entries names (sym (ap (option_and_then (λ (list : SubkeysList). keys_named list.form list.entries)) c) ∙ n) in
      subst (λ index. AreWalked k (offsets_in (entries_of index))) i
      (subst (λ es. AreWalked k (offsets_in es)) (sym (append-nil list.entries))
      (keys-walked j k l (offsets_in list.entries) below (ap (gather (walk j heap)) (sym are) ∙ g) a))

  -- what the list's record names, by its two letters and its form
  index-walked : (j k : ℕ) → j ≤ k → (count offset : ℕ) (content : List ℕ) (list : SubkeysList) (form : Form) (index : Index) (letters : Bool) (names : List Named) (below : List Found) →
      list.form ≡ form → list_of content ≡ Some list → index_as heap offset list form ≡ Some index → names_of (cond letters SubList Leaf) count content ≡ Some names →
      gather (walk j heap) names ≡ Some below → AllByRecursion IsGood below → AreWalked k (offsets_in (entries_of index))
  index-walked j k l count offset content list IndexRoot index false names below f c i n g a =
      absurd (none-some _ (sym (ap (λ form. keys_named form list.entries) f) ∙ (sym (ap (option_and_then (λ (list : SubkeysList). keys_named list.form list.entries)) c) ∙ n)))
  index-walked j k l count offset content list IndexRoot index true names below f c i n g a =
      let m = map-open (Rooted offset) (key_lists_at heap (offsets_in list.entries)) index i in
      let are : map (plainly Leaf) (offsets_in list.entries) ≡ names = same_Some _ _
      (sym (ap (λ form. leaves_named form list.entries) f) ∙ (sym (ap (option_and_then (λ (list : SubkeysList). leaves_named list.form list.entries)) c) ∙ n)) in
      subst (λ index. AreWalked k (offsets_in (entries_of index))) m.2
      (lists-walked j k l (offsets_in list.entries) m.0 below m.1 (ap (gather (walk j heap)) are ∙ g) a)
  index-walked j k l count offset content list IndexLeaf index true names below f c i n g a =
      absurd (none-some _ (sym (ap (λ form. leaves_named form list.entries) f) ∙ (sym (ap (option_and_then (λ (list : SubkeysList). leaves_named list.form list.entries)) c) ∙ n)))
  index-walked j k l count offset content list FastLeaf index true names below f c i n g a =
      absurd (none-some _ (sym (ap (λ form. leaves_named form list.entries) f) ∙ (sym (ap (option_and_then (λ (list : SubkeysList). leaves_named list.form list.entries)) c) ∙ n)))
  index-walked j k l count offset content list HashLeaf index true names below f c i n g a =
      absurd (none-some _ (sym (ap (λ form. leaves_named form list.entries) f) ∙ (sym (ap (option_and_then (λ (list : SubkeysList). leaves_named list.form list.entries)) c) ∙ n)))
  index-walked j k l count offset content list IndexLeaf index false names below f c i n g a = leaf-index j k l count offset content list index names below c (same_Some _ _ i) n g a
  index-walked j k l count offset content list FastLeaf index false names below f c i n g a = leaf-index j k l count offset content list index names below c (same_Some _ _ i) n g a
  index-walked j k l count offset content list HashLeaf index false names below f c i n g a = leaf-index j k l count offset content list index names below c (same_Some _ _ i) n g a

  subkeys-walked : (k : ℕ) (count offset : ℕ) (index : Index) (zs : List Found) → index_at heap count offset ≡ Some index →
      gather (walk k heap) (if_any SubList count offset) ≡ Some zs → AllByRecursion IsGood zs → AreWalked k (offsets_in (entries_of index))
  subkeys-walked k zero offset index zs i g a = subst (λ index. AreWalked k (offsets_in (entries_of index))) (same_Some _ _ i) tt
  subkeys-walked zero (suc n) offset index zs i g a =
      let o = gather-open (walk 0 heap) (named SubList (suc n) offset) [] zs g in absurd (walk-none heap (named SubList (suc n) offset) o.head o.head_is)
  subkeys-walked (suc k) (suc n) offset index zs i g a =
      let o = gather-open (walk (suc k) heap) (named SubList (suc n) offset) [] zs g in
      let s = all-split IsGood o.head o.tail (subst (AllByRecursion IsGood) (sym o.all) a) in
      let m = walk-open k heap (named SubList (suc n) offset) o.head o.head_is in
      let good : AllByRecursion IsGood (record { kind = kind_met SubList m.content; offset = offset } ∷ m.below) = subst (AllByRecursion IsGood) (sym m.all) s.0 in
      let q = then-open (λ (list : SubkeysList). index_as heap offset list list.form) (list_at heap offset) index i in
      let list_is : list_of m.content ≡ Some q.0 = sym (ap (option_and_then list_of) m.here) ∙ q.1 in
      index-walked k (suc k) (omega arith) (suc n) offset m.content q.0 q.0.form index _ m.names m.below refl list_is q.2 m.names_are m.below_is good.1

  -- ---- a key and all below it

  -- a key that stands, with all below it, of so many levels
  pub record IsBranch (k offset : ℕ) : Type 0 where
    pub node : Node
    pub below : Forest Node
    pub seen : IsSeen heap root offset node
    pub fits : Fits offset node (heads below)
    pub stands : Stand (IsSeen heap root) Fits below
    pub security : IsWrittenSecurity heap node.key.fields.security
    pub secured : AreSecured heap below
    pub levels : suc (depth below) ≤ k

  pub record IsForest (k : ℕ) (os : List ℕ) : Type 0 where
    pub keys : Forest Node
    pub offsets_are : offsets keys ≡ os
    pub stands : Stand (IsSeen heap root) Fits keys
    pub secured : AreSecured heap keys
    pub levels : depth keys ≤ k

  forest-from : (k : ℕ) → ((o : ℕ) (t : List Found) → walk k heap (plainly Key o) ≡ Some t → AllByRecursion IsGood t → IsBranch k o) →
      (os : List ℕ) → AreWalked k os → IsForest k os
  forest-from k go [] a = record { keys = End; offsets_are = refl; stands = tt; secured = tt; levels = omega arith }
  forest-from k go (o ∷ os) a =
      let b = go o a.0.0 a.0.1 a.0.2 in
      let r = forest-from k go os a.1 in
      record {
        keys = Hangs o b.node b.below r.keys;
        offsets_are = ap (λ os. o ∷ os) r.offsets_are;
        stands = ((b.seen, b.fits, b.stands), r.stands);
        secured = (b.security, b.secured, r.secured);
        levels = (let x = b.levels in let y = r.levels in omega (arith, x, y));
      }

  -- keys of the same offsets read the same
  heads-are : (F : Forest Node) (below : List (ℕ × Node)) → offsets F ≡ map (λ (e : ℕ × Node). e.0) below → Stand (IsSeen heap root) Fits F →
      AllByRecursion (λ (e : ℕ × Node). look heap e.0 ≡ Some e.1) below → heads F ≡ below
  heads-are End [] e s r = refl
  heads-are End (b ∷ below) e s r = absurd (cc)
  heads-are (Hangs o n under beside) [] e s r = absurd (cc)
  heads-are (Hangs o n under beside) (b ∷ below) e s r =
      let same : o ≡ b.0 = cc in
      let rest : offsets beside ≡ map (λ (e : ℕ × Node). e.0) below = cc in
      let node : n ≡ b.1 = same_Some _ _ (sym s.0.0.reads ∙ (ap (look heap) same ∙ r.0)) in
      ap (λ o. (o, n) ∷ heads beside) same ∙ (ap (λ n. (b.0, n) ∷ heads beside) node ∙ ap (λ es. b ∷ es) (heads-are beside below rest s.1 r.1))

  key-names : (content : List ℕ) (key : KeyRecord) (names : List Named) → result_ok (nk_of content) ≡ Some key → names_of Key 0 content ≡ Some names → names ≡ key_names key
  key-names content key names k n = sym (same_Some _ _ (sym (ap (option_map key_names) k) ∙ n))

  branch-from : (k : ℕ) (o : ℕ) (t : List Found) → walk k heap (plainly Key o) ≡ Some t → AllByRecursion IsGood t → IsBranch k o
  branch-from zero o t e a = absurd (walk-none heap (plainly Key o) t e)
  branch-from (suc k) o t e a =
      let m = walk-open k heap (plainly Key o) t e in
      let good : AllByRecursion IsGood (record { kind = Key; offset = o } ∷ m.below) = subst (AllByRecursion IsGood) (sym m.all) a in
      let it = good.0.key refl in
      let l = look-open heap o it.node it.seen in
      let fields = it.node.key.fields in
      let content : l.content ≡ m.content = same_Some _ _ (sym l.here ∙ m.here) in
      let names = key-names m.content it.node.key m.names (ap (λ c. result_ok (nk_of c)) (sym content) ∙ l.key_is) m.names_are in
      let values = if_any ValueList fields.values fields.values_list in
      let lists = if_any SubList fields.subkeys fields.subkeys_list in
      let class = gather-split (walk k heap) (if_any Class fields.class_length fields.class) (plainly Security fields.security ∷ (values ++ lists)) m.below
      (ap (gather (walk k heap)) (sym names) ∙ m.below_is) in
      let past = all-split IsGood class.0 class.1 (subst (AllByRecursion IsGood) (sym class.4) good.1) in
      let one = gather-open (walk k heap) (plainly Security fields.security) (values ++ lists) class.1 class.3 in
      let next = all-split IsGood one.head one.tail (subst (AllByRecursion IsGood) (sym one.all) past.1) in
      let last = gather-split (walk k heap) values lists one.tail one.tail_is in
      let end = all-split IsGood last.0 last.1 (subst (AllByRecursion IsGood) (sym last.4) next.1) in
      let forest = forest-from k (branch-from k) (offsets_in (entries_of it.node.index)) (subkeys-walked k fields.subkeys fields.subkeys_list it.node.index last.1 l.index_is last.3 end.1) in
      record {
        node = it.node;
        below = forest.keys;
        seen = record { reads = it.seen; written = it.written };
        fits = subst (Fits o it.node) (sym (heads-are forest.keys it.below (forest.offsets_are ∙ sym it.fits.offsets) forest.stands it.reads)) it.fits;
        stands = forest.stands;
        security = secured k fields.security one.head one.head_is next.0;
        secured = forest.secured;
        levels = (let x = forest.levels in omega (arith, x));
      }
    where
      secured : (k offset : ℕ) (zs : List Found) → walk k heap (plainly Security offset) ≡ Some zs → AllByRecursion IsGood zs → IsWrittenSecurity heap offset
      secured zero offset zs e a = absurd (walk-none heap (plainly Security offset) zs e)
      secured (suc k) offset zs e a =
          let m = walk-open k heap (plainly Security offset) zs e in
          let good : AllByRecursion IsGood (record { kind = Security; offset = offset } ∷ m.below) = subst (AllByRecursion IsGood) (sym m.all) a in
          good.0.security refl

-- ---- a whole hive's shape

walk-one : (j k : ℕ) (heap : Heap) (n : Named) (a b : List Found) → walk j heap n ≡ Some a → walk k heap n ≡ Some b → a ≡ b
walk-one j k heap n a b x y = same_Some _ _ (sym (walk-more j (max j k) heap (omega arith) n a x) ∙ walk-more k (max j k) heap (omega arith) n b y)

-- met as a key's own, and so met once and not as a security
apart-alone : (z : ℕ) (f : Found) (fs : List Found) → AllByRecursion (AreApart f) fs → f.offset ≡ z → is_security f.kind ≡ false → owned z fs + shared z fs ≡ 0
apart-alone z f [] a o s = refl
apart-alone z f (g ∷ fs) a o s =
    let r = apart-alone z f fs a.1 o s in by (is_security g.kind) refl (eqb g.offset z) refl r
  where
    other : eqb g.offset z ≡ true → ⊥
    other e = let k = (a.0 (o ∙ sym (eqb-true g.offset z e))).0 in false≢true (sym s ∙ ap is_security k)

    by : (b : Bool) → is_security g.kind ≡ b → (c : Bool) → eqb g.offset z ≡ c → owned z fs + shared z fs ≡ 0 → owned z (g ∷ fs) + shared z (g ∷ fs) ≡ 0
    by b k true e r = absurd (other e)
    by true k false e r = let a : ◌≡◌ {A = ℕ} (is_own z g) 0 = ap (λ b. cond b 0 (cond (eqb g.offset z) 1 0)) k in let b : ◌≡◌ {A = ℕ} (is_shared z g) 0 = rw (k, e) refl in omega (arith, a, b, r)
    by false k false e r = let a : ◌≡◌ {A = ℕ} (is_own z g) 0 = rw (k, e) refl in let b : ◌≡◌ {A = ℕ} (is_shared z g) 0 = ap (λ b. cond b (cond (eqb g.offset z) 1 0) 0) k in omega (arith, a, b, r)

apart-from-own : (z : ℕ) (f : Found) (fs : List Found) → AllByRecursion (AreApart f) fs → f.offset ≡ z → 0 < owned z fs → ⊥
apart-from-own z f [] a o l = omega arith
apart-from-own z f (g ∷ fs) a o l = by (λ l. apart-from-own z f fs a.1 o l) (is_security g.kind) refl (eqb g.offset z) refl
  where
    by : (0 < owned z fs → ⊥) → (b : Bool) → is_security g.kind ≡ b → (c : Bool) → eqb g.offset z ≡ c → ⊥
    by later true k c e = later (let n : is_own z g ≡ 0 = ap (λ b. cond b 0 (cond (eqb g.offset z) 1 0)) k in omega (arith, l, n))
    by later false k true e = let s = (a.0 (o ∙ sym (eqb-true g.offset z e))).1 in false≢true (sym k ∙ ap is_security s)
    by later false k false e = later (let n : is_own z g ≡ 0 = rw (k, e) refl in omega (arith, l, n))

apart-own : (z : ℕ) (fs : List Found) → Pairwise AreApart fs → 0 < owned z fs → (owned z fs ≡ 1) × (shared z fs ≡ 0)
apart-own z [] p l = absurd (omega arith)
apart-own z (f ∷ fs) p l = by (λ l. apart-own z fs p.1 l) (is_security f.kind) refl (eqb f.offset z) refl
  where
    by : (0 < owned z fs → (owned z fs ≡ 1) × (shared z fs ≡ 0)) → (b : Bool) → is_security f.kind ≡ b → (c : Bool) → eqb f.offset z ≡ c → (owned z (f ∷ fs) ≡ 1) × (shared z (f ∷ fs) ≡ 0)
    by later true k true e = absurd (apart-from-own z f fs p.0 (eqb-true f.offset z e) (let n : is_own z f ≡ 0 = ap (λ b. cond b 0 (cond (eqb f.offset z) 1 0)) k in omega (arith, l, n)))
    by later false k true e =
        let r = apart-alone z f fs p.0 (eqb-true f.offset z e) k in
        let n : ◌≡◌ {A = ℕ} (is_own z f) 1 = rw (k, e) refl in
        let s : ◌≡◌ {A = ℕ} (is_shared z f) 0 = ap (λ b. cond b (cond (eqb f.offset z) 1 0) 0) k in
        (omega (arith, r, n), omega (arith, r, s))
    by later b k false e =
        let n : ◌≡◌ {A = ℕ} (is_own z f) 0 = none-own (is_security f.kind) (eqb f.offset z) e in
        let s : ◌≡◌ {A = ℕ} (is_shared z f) 0 = none-shared (is_security f.kind) (eqb f.offset z) e in
        let r = later (omega (arith, l, n)) in
        (omega (arith, r.0, n), omega (arith, r.1, s))
      where
        none-own : (b c : Bool) → c ≡ false → ◌≡◌ {A = ℕ} (cond b 0 (cond c 1 0)) 0
        none-own true c e = refl
        none-own false c e = ap (λ c. cond c 1 0) e

        none-shared : (b c : Bool) → c ≡ false → ◌≡◌ {A = ℕ} (cond b (cond c 1 0) 0) 0
        none-shared true c e = ap (λ c. cond c 1 0) e
        none-shared false c e = refl

abbrev Keys : Type 0
Keys = List (Path × Rec)

shorter : (name : List ℕ) (n : ℕ) (keys : Keys) → AllByRecursion (λ (e : Path × Rec). length e.0 ≤ suc n) (map (λ (e : Path × Rec). (name ∷ e.0, e.1)) keys) →
    AllByRecursion (λ (e : Path × Rec). length e.0 ≤ n) keys
shorter name n [] a = tt
shorter name n (e ∷ keys) a = (omega (arith, a.0), shorter name n keys a.1)

-- paths within a length belong to keys within as many levels
no-deeper : (heap : Heap) (n : ℕ) (F : Forest Node) → AllByRecursion (λ (e : Path × Rec). length e.0 ≤ n) (spelled heap F) → depth F ≤ n
no-deeper heap n End a = omega arith
no-deeper heap n (Hangs offset node below beside) a =
    let rec = rec_of node (descriptor_in heap node.key.fields.security) in
    let s = all-split (λ (e : Path × Rec). length e.0 ≤ n) (behind rec (spelled heap below)) (spelled heap beside) a in
    let b = no-deeper heap n beside s.1 in
    by (λ n a. no-deeper heap n below a) n s.0 b
  where
    by : ((n : ℕ) → AllByRecursion (λ (e : Path × Rec). length e.0 ≤ n) (spelled heap below) → depth below ≤ n) → (n : ℕ) →
        AllByRecursion (λ (e : Path × Rec). length e.0 ≤ n) (behind (rec_of node (descriptor_in heap node.key.fields.security)) (spelled heap below)) → depth beside ≤ n →
        max (suc (depth below)) (depth beside) ≤ n
    by deeper zero s b = absurd (omega (arith, s.0))
    by deeper (suc n) s b = let d = deeper n (shorter _ n (spelled heap below) s.1) in omega (arith, d, b)

module _ (heap : Heap) (cells root : ℕ) (w : IsWhole heap cells root) where
  good-by : (fs : List Found) → AllByRecursion (λ (f : Found). f.kind ≡ Key → IsWritten heap root f.offset) fs → ((z : ℕ) → shared z fs ≤ shared z w.found) → AllByRecursion (IsGood heap root) fs
  good-by [] a l = tt
  good-by (f ∷ fs) a l = (
    record {
      key = a.0;
      security = λ k. all-at (IsWrittenSecurity heap) w.ring f.offset w.closed.written ((w.ringed f.offset).0
          (let n = shared-here f (ap is_security k) in let m = l f.offset in omega (arith, n, m)));
    },
    good-by fs a.1 (λ z. let m = l z in omega (arith, m)),
  )

  pub branch : IsBranch heap root cells root
  branch = branch-from heap root cells root w.found w.walked (good-by w.found w.keys (λ z. omega arith))

  abbrev pub its_keys : Branch Node
  its_keys = record { offset = root; node = branch.node; below = branch.below }

  walked : Walks heap (plainly Key root ∷ []) (trace its_keys)
  walked = branch-walks heap root its_keys (branch.seen, branch.fits, branch.stands) branch.security branch.secured

  found-is : trace its_keys ≡ w.found
  found-is =
      let o = gather-open (walk walked.fuel heap) (plainly Key root) [] (trace its_keys) walked.walked in
      let head : o.head ≡ trace its_keys = sym (append-nil o.head) ∙ (ap (λ t. o.head ++ t) (same_Some _ _ o.tail_is) ∙ o.all) in
      sym head ∙ walk-one walked.fuel cells heap (plainly Key root) o.head w.found o.head_is w.walked

  owned-is : (z : ℕ) → total_of (owns z) its_keys ≡ owned z w.found
  owned-is z = sym (tally-branch (is_own z) heap root its_keys (branch.seen, branch.fits, branch.stands)) ∙ ap (owned z) found-is

  shared-is : (z : ℕ) → total_of (shares z) its_keys ≡ shared z w.found
  shared-is z = sym (tally-branch (is_shared z) heap root its_keys (branch.seen, branch.fits, branch.stands)) ∙ ap (shared z) found-is

  exact : (z : ℕ) → total_of (owns z) its_keys + times z w.ring ≡ allocated heap z
  exact z = let o = owned-is z in by (owned z w.found) (shared z w.found) refl refl
    where
      unringed : shared z w.found ≡ 0 → times z w.ring ≡ 0
      unringed s = none (times z w.ring) refl
        where
          none : (n : ℕ) → times z w.ring ≡ n → times z w.ring ≡ 0
          none zero e = e
          none (suc n) e = let l = (w.ringed z).1 (omega (arith, e)) in absurd (omega (arith, l, s))

      free : owned z w.found ≡ 0 → shared z w.found ≡ 0 → allocated heap z ≡ 0
      free o s = none (allocated heap z) refl
        where
          none : (n : ℕ) → allocated heap z ≡ n → allocated heap z ≡ 0
          none zero e = e
          none (suc n) e = let l = (w.exact z).1 (is-allocated heap z (omega (arith, e))) in absurd (omega (arith, l, o, s))

      by : (n m : ℕ) → owned z w.found ≡ n → shared z w.found ≡ m → total_of (owns z) its_keys + times z w.ring ≡ allocated heap z
      by zero zero o s = let t = owned-is z in let r = unringed s in let f = free o s in omega (arith, t, r, f, o)
      by zero (suc m) o s =
          let t = owned-is z in
          let r = (w.ringed z).0 (omega (arith, s)) in
          let one = once heap w.ring w.closed z in
          let a = allocated-is heap z ((w.exact z).0 (omega (arith, s))) in
          omega (arith, t, r, one, a, o)
      by (suc n) m o s =
          let t = owned-is z in
          let p = apart-own z w.found w.once (omega (arith, o)) in
          let r = unringed p.1 in
          let a = allocated-is heap z ((w.exact z).0 (omega (arith, o))) in
          omega (arith, t, p.0, r, a)

  counts : (zs : List ℕ) → AllByRecursion (λ z. count_at heap z ≡ Some (shared z w.found)) zs → AllByRecursion (λ z. count_at heap z ≡ Some (total_of (shares z) its_keys)) zs
  counts [] a = tt
  counts (z ∷ zs) a = (a.0 ∙ ap Some (sym (shared-is z)), counts zs a.1)

  abbrev rec : Rec
  rec = rec_of branch.node (descriptor_in heap branch.node.key.fields.security)

  shallow : depth branch.below ≤ 512
  shallow =
      let few = branch.levels in
      let spelt = branch-spelt heap root (depth branch.below) its_keys (branch.seen, branch.fits, branch.stands) branch.security branch.secured (omega arith) in
      let all = w.depth (behind rec (spelled heap branch.below)) (keys-more (suc (depth branch.below)) cells heap few root (behind rec (spelled heap branch.below)) spelt) in
      no-deeper heap 512 branch.below (shorter (folded rec.name) 512 (spelled heap branch.below) all.1)

  -- a whole hive's keys are a whole shape
  pub shape-of-whole : IsWholeShape heap root its_keys w.ring
  shape-of-whole = record {
    offset = refl;
    stands = (branch.seen, branch.fits, branch.stands);
    exact = exact;
    closed = w.closed;
    ringed = λ z. ((λ l. (w.ringed z).0 (let s = shared-is z in omega (arith, s, l))), λ l. (let r = (w.ringed z).1 l in let s = shared-is z in omega (arith, r, s)));
    counts = counts w.ring w.counts;
    shallow = shallow;
  }
