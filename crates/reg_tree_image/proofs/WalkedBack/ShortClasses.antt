-- No class of a hive in bytes is longer than a length field of 16 bits can say.
use Rattle.std.proofs.Common.{◌≡◌, ℕ, zero, suc, ◌+◌, ◌-◌, ◌<◌, ◌≤◌, Bool, true, false, cond, Option, Some, Result, Ok, Err, List, [], ◌∷◌, ◌++◌, map, length, take, drop, get_or, sym, ap, ◌∙◌, subst, arith, length-take, length-append}
use Rattle.std.proofs.lemmas.List.{get_or-drop, get_or-take}
use Rattle.std.proofs.lemmas.Option.{none-some, same_Some}
use Rattle.std.specs.List.{AllByRecursion}
use Rattle.std.specs.Result.{result_ok}
use Rattle.std.specs.FinMap.{get, find, from_entries, get-from_entries}
use Rattle.reg_heap.specs.ByteWords.{half, word}
use Rattle.reg_heap.specs.Heaps.{Heap}
use Rattle.reg_heap.specs.Kinds.{Found}
use Rattle.reg_heap.specs.Kinds.Kind.{Class}
use Rattle.std.specs.Ordering.{eq_by_cmp}
use Rattle.reg_heap.specs.Paths.{Path, Rec, Tree, path_cmp}
use Rattle.reg_arena.specs.Cells.{cell_at, size_in}
use Rattle.reg_records.specs.KeyNodes.{KeyRecord, nk_of}
use Rattle.reg_records.proofs.KeyNodeCodec.{nk-open}
use Rattle.reg_records.specs.SubkeyLists.{offsets_in}
use Rattle.reg_records.specs.BigData.{named, if_any}
use Rattle.reg_shape.specs.Walk.{gather}
use Rattle.reg_shape.specs.Nodes.{Node, pieces_at, entries_of, look}
use Rattle.reg_shape.specs.Spelt.{rec_of, below_root, keys_from, spelt}
use Rattle.reg_shape.proofs.Walking.IndexWalks.{map-open}
use Rattle.reg_shape.proofs.Walking.WalkParts.{gather-open}
use Rattle.reg_shape.proofs.Walking.WalkRefinement.{look-open}
use Rattle.reg_shape.proofs.Refinement.SpeltShapes.{Keys, keys-open, keys-none}
use Rattle.reg_shape.proofs.Refinement.SpeltTrees.{path_total}
use Rattle.reg_values.proofs.ValueData.DataPieces.{pieces-none, piece-open}
use Rattle.reg_tree_image.proofs.NamedCells.CellContents.{content-is}

-- ---- one class

class-long : (heap : Heap) (count offset : ℕ) (class : List ℕ) (zs : List Found) → pieces_at (if_any Class count offset) heap ≡ Some (class, zs) → length class ≡ count
class-long heap zero offset class zs e = ap length (pieces-none heap class zs e).0
class-long heap (suc n) offset class zs e =
    let o = piece-open heap (named Class (suc n) offset) [] class zs e in
    let r = pieces-none heap o.rest o.cells o.rest_is in
    let whole = ap length o.is in
    let none = ap length r.0 in
    let long = o.long in
    omega (arith, whole, none, long, length-append (take (suc n) o.content) o.rest, length-take (suc n) o.content)

ok-of : {A B : Type 0} (r : Result A B) (x : A) → result_ok r ≡ Some x → r ≡ Ok x
ok-of (Ok y) x e = ap Ok (same_Some _ _ e)
ok-of (Err y) x e = absurd (none-some _ e)

module _ (bins : List ℕ) (bytes : (i : ℕ) → get_or bins i 0 < 256) where
  byte-in : (at n i : ℕ) → i < n → get_or (take n (drop at bins)) i 0 < 256
  byte-in at n i l = (let t = get_or-take n (drop at bins) i 0 l in let d = get_or-drop at bins i 0 in let b = bytes (at + i) in omega (arith, t, d, b))

  half-small : (offset : ℕ) (content : List ℕ) (at : ℕ) → cell_at bins offset ≡ Some content → at + 2 ≤ length content → half content at < 65536
  unfolding half
  half-small offset content at e l =
      let h = content-is bins offset content e in
      let n = size_in (word bins offset) - 4 in
      let long : length content ≤ n = (let c = ap length h.content in omega (arith, c, length-take n (drop (offset + 4) bins))) in
      let low = byte-in (offset + 4) n at (omega (arith, l, long)) in
      let high = byte-in (offset + 4) n (at + 1) (omega (arith, l, long)) in
      let same = h.content in
      let first : get_or (drop at content) 0 0 ≡ get_or (take n (drop (offset + 4) bins)) (at + 0) 0 = get_or-drop at content 0 0 ∙ ap (λ (c : List ℕ). get_or c (at + 0) 0) (sym same) in
      let second : get_or (drop at content) 1 0 ≡ get_or (take n (drop (offset + 4) bins)) (at + 1) 0 = get_or-drop at content 1 0 ∙ ap (λ (c : List ℕ). get_or c (at + 1) 0) (sym same) in
      let zero-at : get_or (take n (drop (offset + 4) bins)) (at + 0) 0 ≡ get_or (take n (drop (offset + 4) bins)) at 0 = ap (λ (i : ℕ). get_or (take n (drop (offset + 4) bins)) i 0) (omega arith) in
      omega (arith, low, high, first, second, zero-at)

  class-short : (offset : ℕ) (node : Node) → look (cell_at bins) offset ≡ Some node → length node.class < 65536
  class-short offset node e =
      let l = look-open (cell_at bins) offset node e in
      let k = nk-open l.content node.key (ok-of (nk_of l.content) node.key l.key_is) in
      let small = half-small offset l.content 74 l.here (let a = k.long in omega (arith, a)) in
      let field : node.key.fields.class_length ≡ half l.content 74 = ap (λ (r : KeyRecord). r.fields.class_length) k.same in
      let long = class-long (cell_at bins) node.key.fields.class_length node.key.fields.class node.class l.class_cells l.class_is in
      omega (arith, small, field, long)

  -- ---- all keys that are spelt

  abbrev AreShort : Keys → Type 0
  AreShort keys = AllByRecursion (λ (e : Path × Rec). length e.1.class < 65536) keys

  both : (xs ys : Keys) → AreShort xs → AreShort ys → AreShort (xs ++ ys)
  both [] ys a b = b
  both (x ∷ xs) ys a b = (a.0, both xs ys a.1 b)

  moved : (f : Path → Path) (keys : Keys) → AreShort keys → AreShort (map (λ (e : Path × Rec). (f e.0, e.1)) keys)
  moved f [] a = tt
  moved f (e ∷ keys) a = (a.0, moved f keys a.1)

  gathered : (go : ℕ → Option Keys) → ((o : ℕ) (keys : Keys) → go o ≡ Some keys → AreShort keys) → (os : List ℕ) (keys : Keys) → gather go os ≡ Some keys → AreShort keys
  gathered go one [] keys e = subst AreShort (same_Some _ _ e) tt
  gathered go one (o ∷ os) keys e =
      let g = gather-open go o os keys e in subst AreShort g.all (both g.head g.tail (one o g.head g.head_is) (gathered go one os g.tail g.tail_is))

  keys-short : (k offset : ℕ) (keys : Keys) → keys_from k (cell_at bins) offset ≡ Some keys → AreShort keys
  keys-short zero offset keys e = absurd (keys-none (cell_at bins) offset keys e)
  keys-short (suc k) offset keys e =
      let o = keys-open k (cell_at bins) offset keys e in
      let r = map-open (λ s. rec_of o.node s.descriptor) _ o.rec o.rec_is in
      let short : length o.rec.class < 65536 = subst (λ (r : Rec). length r.class < 65536) r.2 (class-short offset o.node o.node_is) in
      let below = gathered (keys_from k (cell_at bins)) (keys-short k) (offsets_in (entries_of o.node.index)) o.below o.below_is in
      subst AreShort o.all (moved (λ (p : Path). _ ∷ p) (([], o.rec) ∷ o.below) (short, below))

  found-short : (keys : Keys) (p : Path) (r : Rec) → AreShort keys → find path_cmp p keys ≡ Some r → length r.class < 65536
  found-short [] p r a e = absurd (none-some _ e)
  found-short (k ∷ keys) p r a e = by (found-short keys p r a.1) (eq_by_cmp path_cmp p k.0) e
    where
      by : (find path_cmp p keys ≡ Some r → length r.class < 65536) → (b : Bool) → cond b (Some k.1) (find path_cmp p keys) ≡ Some r → length r.class < 65536
      by rest true e = subst (λ (r : Rec). length r.class < 65536) (same_Some _ _ e) a.0
      by rest false e = rest e

  -- each class of the tree that is spelt is short
  pub spelt-short : (k root : ℕ) (tree : Tree) → spelt k (cell_at bins) root ≡ Some tree → (p : Path) (r : Rec) → get tree p ≡ Some r → length r.class < 65536
  unfolding spelt
  spelt-short k root tree e p r g =
      let o = map-open (λ keys. from_entries (map below_root keys)) (keys_from k (cell_at bins) root) tree e in
      let short = moved (drop 1) o.0 (keys-short k root o.0 o.1) in
      found-short (map below_root o.0) p r short (sym (get-from_entries path_total (map below_root o.0) p) ∙ (ap (λ (t : Tree). get t p) o.2 ∙ g))
