-- Where a key without subkeys stands among those right below its parent.
use Rattle.std.proofs.Common.{◌≡◌, ◌≢◌, ℕ, zero, suc, ◌-◌, ◌<◌, Bool, true, false, cond, Some, List, [], ◌∷◌, ◌++◌, map, length, take, drop, get_or, refl, sym, ap, ◌∙◌, subst, arith, length-append}
use Rattle.std.specs.List.{AllByRecursion}
use Rattle.std.proofs.lemmas.Option.{none-some, same_Some}
use Rattle.reg_heap.specs.Paths.{Path}
use Rattle.reg_heap.specs.Edits.{above}
use Rattle.reg_heap.specs.Heaps.{Heap}
use Rattle.reg_heap.specs.Kinds.{Found, owned}
use Rattle.reg_shape.specs.Internal.Forests.{Forest, Branch, heads, total, Stand}
use Rattle.reg_shape.specs.Internal.Forests.Forest.{End, Rooted as Hangs}
use Rattle.reg_records.specs.SubkeyLists.{Entry, offsets_in}
use Rattle.reg_shape.specs.Nodes.{Node, Index, entries_of, index_at}
use Rattle.reg_shape.specs.Nodes.Index.{Unlisted}
use Rattle.reg_shape.specs.Written.{Fits}
use Rattle.reg_shape.specs.Internal.Shapes.{index_cells, cells_of, owns, IsSeen, StandsIn}
use Rattle.reg_shape.specs.Internal.Exchanges.{is_named}
use Rattle.reg_shape.specs.Internal.Grafts.{branch_in}
use Rattle.reg_shape.proofs.Wholeness.WholeAfterExchange.{all-weaker}
use Rattle.reg_shape.proofs.Lookup.LookupOfShape.{key-looked}
use Rattle.reg_shape.proofs.Walking.WalkRefinement.{look-open}
use Rattle.reg_tree.specs.Internal.KeyDeletion.{IsListed}
use Rattle.reg_tree.proofs.Invariant.OwnCells.{own-parts, key-here}
use Rattle.reg_tree.proofs.InsertKey.ParentReindexed.{branch-subkeys}

-- ---- the key among those side by side

pub record IsHead (x : List ℕ) (F : Forest Node) (b : Branch Node) : Type 0 where
  pub index : ℕ
  pub rest : List (ℕ × Node)
  pub at : drop index (heads F) ≡ (b.offset, b.node) ∷ rest
  pub named : is_named x b.node ≡ true

pub head-at : (x : List ℕ) (F : Forest Node) (b : Branch Node) → branch_in (x ∷ []) F ≡ Some b → IsHead x F b
head-at x End b e = absurd (none-some _ e)
head-at x (Hangs o k f s) b e = by (is_named x k) refl e (head-at x s b)
  where
    by : (t : Bool) → is_named x k ≡ t → cond t (Some (record { offset = o; node = k; below = f })) (branch_in (x ∷ []) s) ≡ Some b →
        (branch_in (x ∷ []) s ≡ Some b → IsHead x s b) → IsHead x (Hangs o k f s) b
    by true t e more =
        let same : ◌≡◌ {A = Branch Node} (record { offset = o; node = k; below = f }) b = same_Some _ _ e in
        record { index = 0; rest = heads s; at = ap (λ (c : Branch Node). (c.offset, c.node) ∷ heads s) same; named = ap (λ (c : Branch Node). is_named x c.node) (sym same) ∙ t }
    by false t e more = let m = more e in record { index = suc m.index; rest = m.rest; at = m.at; named = m.named }

-- what all have, the one there has
pub all-there : {A : Type 0} (P : A → Type 0) (i : ℕ) (xs : List A) (y : A) (rest : List A) → AllByRecursion P xs → drop i xs ≡ y ∷ rest → P y
all-there P zero [] y rest a e = absurd (let n = ap length e in omega (arith, n))
all-there P (suc i) [] y rest a e = absurd (let n = ap length e in omega (arith, n))
all-there P zero (x ∷ xs) y rest a e = subst P (let f : x ≡ y = cc in f) a.0
all-there P (suc i) (x ∷ xs) y rest a e = all-there P i xs y rest a.1 e

abbrev none : Entry
none = record { offset = 0; hint = 0 }

-- the entry at its index names it
entry-there : (i : ℕ) (entries : List Entry) (below : List (ℕ × Node)) (y : ℕ × Node) (rest : List (ℕ × Node)) → map (λ (e : ℕ × Node). e.0) below ≡ offsets_in entries → drop i below ≡ y ∷ rest
    → (i < length entries) × ((get_or entries i none).offset ≡ y.0)
entry-there zero [] [] y rest p e = absurd (let n = ap length e in omega (arith, n))
entry-there (suc i) [] [] y rest p e = absurd (let n = ap length e in omega (arith, n))
entry-there i [] (z ∷ below) y rest p e = absurd (let n = ap length p in omega (arith, n))
entry-there zero (x ∷ entries) [] y rest p e = absurd (let n = ap length p in omega (arith, n))
entry-there (suc i) (x ∷ entries) [] y rest p e = absurd (let n = ap length p in omega (arith, n))
entry-there zero (x ∷ entries) (z ∷ below) y rest p e =
    let f : z.0 ≡ x.offset = cc in
    let g : z ≡ y = cc in
    (omega arith, sym f ∙ ap (λ (z : ℕ × Node). z.0) g)
entry-there (suc i) (x ∷ entries) (z ∷ below) y rest p e =
    let q : map (λ (e : ℕ × Node). e.0) below ≡ offsets_in entries = cc in
    let r = entry-there i entries below y rest q e in
    let l = r.0 in
    (omega (arith, l), r.1)

-- what is known of each key's offset is known of each entry's
pub by-offsets : (P : ℕ → Type 0) (below : List (ℕ × Node)) (entries : List Entry) → map (λ (e : ℕ × Node). e.0) below ≡ offsets_in entries →
    AllByRecursion (λ (e : ℕ × Node). P e.0) below → AllByRecursion (λ (e : Entry). P e.offset) entries
by-offsets P below [] p a = tt
by-offsets P [] (x ∷ entries) p a = absurd (let n = ap length p in omega (arith, n))
by-offsets P (z ∷ below) (x ∷ entries) p a =
    let f : z.0 ≡ x.offset = cc in
    let q : map (λ (e : ℕ × Node). e.0) below ≡ offsets_in entries = cc in
    (subst P f a.0, by-offsets P below entries q a.1)

-- ---- each key has its own cell

pub key-owned : (h : Heap) (root offset : ℕ) (node : Node) → IsSeen h root offset node → 0 < owned offset (cells_of node)
key-owned h root offset node seen =
    let l = look-open h offset node seen.reads in
    let a = ap (λ (found : List Found). owned offset (found ++ index_cells node.index)) l.cells ∙ own-parts offset offset node.key l.class_cells l.value_cells node.index in
    let k = key-here offset offset refl in
    omega (arith, a, k)

pub heads-owned : (h : Heap) (root : ℕ) (F : Forest Node) → Stand (IsSeen h root) Fits F → AllByRecursion (λ (e : ℕ × Node). 0 < total (owns e.0) F) (heads F)
heads-owned h root End a = tt
heads-owned h root (Hangs o k b s) a = (
  (let k = key-owned h root o k a.0.0 in omega (arith, k)),
  all-weaker (λ (e : ℕ × Node). 0 < total (owns e.0) s) (λ (e : ℕ × Node). 0 < total (owns e.0) (Hangs o k b s)) (λ e l. omega (arith, l)) (heads s) (heads-owned h root s a.1),
)

-- a key without subkeys has no list
pub unlisted : (h : Heap) (count list : ℕ) (index : Index) → index_at h count list ≡ Some index → count ≡ 0 → index ≡ Unlisted
unlisted h count list index e z = sym (same_Some _ _ (ap (λ n. index_at h n list) (sym z) ∙ e))

-- ---- a path's last name

pub snoc : (p : Path) → p ≢ [] → (q : Path) × (x : List ℕ) × (p ≡ q ++ x ∷ [])
snoc [] n = absurd (n refl)
snoc (y ∷ []) n = ([], y, refl)
snoc (y ∷ z ∷ p) n = let s = snoc (z ∷ p) (λ e. let m = ap length e in absurd (omega (arith, m))) in (y ∷ s.0, s.1, ap (λ q. y ∷ q) s.2)

take-front : (q r : Path) → take (length q) (q ++ r) ≡ q
take-front [] [] = refl
take-front [] (y ∷ r) = refl
take-front (y ∷ q) r = ap (λ q. y ∷ q) (take-front q r)

pub above-is : (q : Path) (x : List ℕ) → above (q ++ x ∷ []) ≡ q
above-is q x =
    let l = length-append q (x ∷ []) in
    let n : length (q ++ x ∷ []) - 1 ≡ length q = omega (arith, l) in
    ap (λ n. take n (q ++ x ∷ [])) n ∙ take-front q (x ∷ [])

-- ---- as its parent lists it

module _ (h : Heap) (root : ℕ) (was : Branch Node) (stands : StandsIn h root was) (x : List ℕ) (b : Branch Node)
    (found : branch_in (x ∷ []) was.below ≡ Some b) where
  abbrev pub head : IsHead x was.below b
  head = head-at x was.below b found

  pub listed : IsListed h was.offset b.offset was.node.key (entries_of was.node.index) head.index
  listed =
      let e = entry-there head.index (entries_of was.node.index) (heads was.below) (b.offset, b.node) head.rest stands.1.offsets head.at in
      record { reads = key-looked h was.offset was.node stands.0.reads; subkeys = branch-subkeys h root was stands; within = e.0; offset = e.1 }

  pub parent-is : b.node.key.fields.parent ≡ was.offset
  parent-is = all-there (λ (e : ℕ × Node). e.1.key.fields.parent ≡ was.offset) head.index (heads was.below) (b.offset, b.node) head.rest stands.1.parents head.at
