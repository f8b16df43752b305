-- The cells of keys that are made: only those come that were carved for them, and each holds as many bytes as it did then.
use Rattle.std.proofs.Common.{◌≡◌, ℕ, suc, ◌+◌, ◌-◌, ◌<◌, eqb, cond, Bool, true, false, Option, Some, None, IsSome, is_some}
use Rattle.std.proofs.Common.{List, [], ◌∷◌, ◌++◌, map, length, get_or, replicate, refl, sym, ap, ◌∙◌, subst, arith, inl, inr}
use Rattle.std.specs.Prelude.{unwrap_or}
use Rattle.std.specs.Option.{option_and_then}
use Rattle.std.proofs.lemmas.Bool.{cases_lt, eqb-true, eqb-false, false≢true}
use Rattle.reg_arena.proofs.FreeList.ThreadLinks.{times-append}
use Rattle.reg_arena.specs.Arena.{Bins, heap_of}
use Rattle.reg_arena.specs.Cells.{cell_at}
use Rattle.reg_arena.specs.NewCells.{AreSizes}
use Rattle.reg_heap.specs.Heaps.{Heap, CellFrame, allocated}
use Rattle.reg_heap.specs.Kinds.{times}
use Rattle.reg_heap.specs.Paths.{Path}
use Rattle.reg_index.specs.declared.Place.{Place}
use Rattle.reg_index.specs.Subkeys.{KeepsCells, Moves, own}
use Rattle.reg_index.proofs.KeptCells.{kept-then}
use Rattle.reg_records.specs.KeyNodes.{KeyRecord, key_at}
use Rattle.reg_records.specs.KeySecurities.{KeySecurityRecord, security_at}
use Rattle.reg_records.specs.RecordCells.{held, WritesCell, WritesPart}
use Rattle.reg_records.specs.declared.nk.KeyFields.{KeyFields}
use Rattle.reg_shape.proofs.Wholeness.ShapeRecords.{at-most-one, is-allocated, allocated-is}
use Rattle.reg_values.specs.ValueLists.{KeepsSizes, Makes}
use Rattle.reg_values.specs.ValueSizes.{set_sizes}
use Rattle.reg_tree.specs.TreeKeys.{Keys, IsAt}
use Rattle.reg_tree.specs.declared.node.Node.{Node}
use Rattle.reg_tree.specs.CellSizes.{set_sizes_by, value_sizes, value_sizes_at}
use Rattle.reg_tree.specs.Internal.KeyNodeChanges.{HasList, SameSizes, LeavesOthers}
use Rattle.reg_tree.specs.Internal.SpareCells.{planned, own_sizes, sizes_of, IsSpared}
use Rattle.reg_tree.proofs.Invariant.CellReadings.{some_of, security-exists}
use Rattle.reg_tree.proofs.Invariant.UntouchedCells.{times-one}

-- ---- cells written over

pub sizes-then : (h i j : Heap) → SameSizes h i → SameSizes i j → SameSizes h j
sizes-then h i j a b z = ((b z).0 ∙ (a z).0, (b z).1 ∙ (a z).1)

size-of : (old new : Option (List ℕ)) → new ≡ old → length (unwrap_or new []) ≡ length (unwrap_or old [])
size-of old new e = ap (λ (o : Option (List ℕ)). length (unwrap_or o [])) e

pub written_sizes : (old new : Bins) (cell : ℕ) (content : List ℕ) → IsSome (heap_of old cell) → WritesCell old new cell content → SameSizes (heap_of old) (heap_of new)
written_sizes old new cell content there w z = by (eqb z cell) refl
  where
    by : (b : Bool) → eqb z cell ≡ b → (is_some (heap_of new z) ≡ is_some (heap_of old z)) × (length (held (heap_of new) z) ≡ length (held (heap_of old) z))
    by true e =
        subst (λ c. (is_some (heap_of new c) ≡ is_some (heap_of old c)) × (length (held (heap_of new) c) ≡ length (held (heap_of old) c))) (sym (eqb-true z cell e))
        (ap is_some w.here ∙ sym there, ap (λ (o : Option (List ℕ)). length (unwrap_or o [])) w.here ∙ w.as_many)
    by false e =
        let same = w.others z (eqb-false z cell e) in
        (ap is_some same, size-of (heap_of old z) (heap_of new z) same)

-- a security counts one key more
pub shared_sizes : (old new : Bins) (cell : ℕ) (count : KeySecurityRecord → List ℕ) → IsSome (security_at (heap_of old) cell) →
    ((s : KeySecurityRecord) → security_at (heap_of old) cell ≡ Some s → WritesPart old new cell 12 (count s)) → SameSizes (heap_of old) (heap_of new)
shared_sizes old new cell count there w =
    let s = some_of (security_at (heap_of old) cell) there in
    written_sizes old new cell _ (security-exists (heap_of old) cell there) (w s.0 s.1)

still : (old new : Bins) (cell : ℕ) (content : List ℕ) → WritesCell old new cell content → IsSome (heap_of new cell)
still old new cell content w = ap is_some w.here

pub four_written : (a b c d e : Bins) (cell : ℕ) (p q r s : List ℕ) → IsSome (heap_of a cell) → WritesCell a b cell p → WritesCell b c cell q → WritesCell c d cell r → WritesCell d e cell s →
    SameSizes (heap_of a) (heap_of e)
four_written a b c d e cell p q r s there w x y z =
    sizes-then (heap_of a) (heap_of b) (heap_of e) (written_sizes a b cell p there w)
    (sizes-then (heap_of b) (heap_of c) (heap_of e) (written_sizes b c cell q (still a b cell p w) x)
    (sizes-then (heap_of c) (heap_of d) (heap_of e) (written_sizes c d cell r (still b c cell q x) y) (written_sizes d e cell s (still c d cell r y) z)))

-- ---- a key made

pub same-kept : (h i : Heap) → SameSizes h i → KeepsCells h i
same-kept h i a z some = (sym (a z).0 ∙ some, (a z).1)

-- the cells of a key's index gave way, but those that were carved for it stay, and so do all others
pub moved-leaves : (h k : Heap) (before carved after : List ℕ) → Moves h k (before ++ carved) after → ((z : ℕ) → 0 < times z carved → IsSome (k z)) → LeavesOthers h k before
moved-leaves h k before carved after moves stay z there none = elim (cases_lt 0 (times z carved)) [
  | inl l ↦ stay z l
  | inr l ↦
      let c = moves.count z in
      let t = times-append z before carved in
      let here = allocated-is h z there in
      is-allocated k z (omega (arith, c, t, here, none, l))
]

module _ (h h1 h2 h3 h4 : Heap) (one : SameSizes h h1) (two : KeepsCells h1 h2) (three : SameSizes h2 h3) (four : SameSizes h3 h4) where
  pub made_keeps : KeepsCells h h4
  made_keeps = kept-then h h1 h4 (same-kept h h1 one) (kept-then h1 h2 h4 two (kept-then h2 h3 h4 (same-kept h2 h3 three) (same-kept h3 h4 four)))

  pub made_leaves : (parent : ℕ) (fields : KeyFields) → ((k : KeyRecord) → key_at h parent ≡ Some k → fields ≡ k.fields) →
      own h1 fields.subkeys fields.subkeys_list ≡ own h fields.subkeys fields.subkeys_list → (carved after : List ℕ) →
      Moves h1 h2 (own h1 fields.subkeys fields.subkeys_list ++ carved) after → ((z : ℕ) → 0 < times z carved → IsSome (h2 z)) →
      (k : KeyRecord) → key_at h parent ≡ Some k → LeavesOthers h h4 (own h k.fields.subkeys k.fields.subkeys_list)
  made_leaves parent fields are owned carved after moves stay k reads z there none =
      let same : times z (own h1 fields.subkeys fields.subkeys_list) ≡ 0 =
      ap (times z) owned ∙ (ap (λ (f : KeyFields). times z (own h f.subkeys f.subkeys_list)) (are k reads) ∙ none) in
      let in2 = moved-leaves h1 h2 (own h1 fields.subkeys fields.subkeys_list) carved after moves stay z ((one z).0 ∙ there) same in
      (four z).0 ∙ ((three z).0 ∙ in2)

-- ---- all of them made

more-times : (z x : ℕ) (xs : List ℕ) → 0 < times z xs → 0 < times z (x ∷ xs)
more-times z x xs l = omega (arith, l)

head-times : (x : ℕ) (xs : List ℕ) → 0 < times x (x ∷ xs)
head-times x xs = let one = times-one x in omega (arith, one)

cons-same : {A : Type 0} {x y : A} {xs ys : List A} → x ≡ y → xs ≡ ys → x ∷ xs ≡ y ∷ ys
cons-same {A} {x} {y} {xs} {ys} e f = ap (λ a. a ∷ xs) e ∙ ap (λ rest. y ∷ rest) f

map-same : (f g : ℕ → ℕ) (xs : List ℕ) → ((z : ℕ) → 0 < times z xs → f z ≡ g z) → map f xs ≡ map g xs
map-same f g [] e = refl
map-same f g (x ∷ xs) e = cons-same (e x (head-times x xs)) (map-same f g xs (λ z l. e z (more-times z x xs l)))

module _ (old mid new : List ℕ) (key : ℕ) (place : Place) (names : List (List ℕ)) (more left spare : List ℕ)
    (s : IsSpared old mid key place names more left spare) (keeps : KeepsCells (cell_at mid) (cell_at new))
    (stay : (z : ℕ) → 0 < times z spare → IsSome (cell_at new z)) where
  came : (z : ℕ) → 0 < times z spare → cell_at old z ≡ None
  came z l =
      let c = s.come.count z in
      let a = at-most-one (cell_at mid) z in
      by (cell_at old z) (omega (arith, c, a, l))
    where
      by : (o : Option (List ℕ)) → allocated (λ z. o) z ≡ 0 → o ≡ None
      by None e = refl
      by (Some content) e = absurd (omega (arith, e))

  alone : (z : ℕ) → cell_at old z ≡ None → IsSome (cell_at new z) → 0 < times z spare
  alone z none there =
      let c = s.come.count z in
      let a = allocated-is (cell_at mid) z (keeps z there).0 in
      let n : allocated (cell_at old) z ≡ 0 = ap (λ (o : Option (List ℕ)). cond (is_some o) 1 0) none in
      omega (arith, c, a, n)

  pub made_makes : Makes (cell_at old) (cell_at new) (sizes_of (planned (cell_at old) key place) (map own_sizes names) ++ more)
  made_makes = record {
    offsets = spare;
    sizes_are = map-same (λ z. length (held (cell_at new) z) + 4) (λ z. length (held (cell_at mid) z) + 4) spare (λ z l. ap (λ n. n + 4) (keeps z (stay z l)).1) ∙ s.sizes;
    once = λ z. (let c = s.come.count z in let a = at-most-one (cell_at mid) z in omega (arith, c, a));
    fresh = came;
    only = alone;
  }

-- ---- the sizes of cells that stay

-- where cells came, and then none more, each cell that was there before has its size
pub kept_sizes : (h k j : Heap) (came : ℕ → ℕ) → CellFrame h k (λ z. 0) came → KeepsCells k j → KeepsSizes h j
kept_sizes h k j came come keeps z there now =
    let c = come.count z in
    let t = allocated-is h z there in
    let o = at-most-one k z in
    (keeps z now).1 ∙ size-of (h z) (k z) (come.same z refl (omega (arith, c, t, o)))

-- ---- the sizes of cells carved

pub carved_sizes : (h : Heap) (cells sizes : List ℕ) → AreSizes sizes → length cells ≡ length sizes →
    ((index : ℕ) → index < length sizes → h (get_or cells index 0) ≡ Some (replicate (get_or sizes index 0 - 4) 0)) →
    ((size : ℕ) → length (replicate {A = ℕ} size 0) ≡ size) → map (λ z. length (held h z) + 4) cells ≡ sizes
carved_sizes h [] [] good n zeros long = refl
carved_sizes h [] (size ∷ sizes) good n zeros long = absurd (omega (arith, n))
carved_sizes h (cell ∷ cells) [] good n zeros long = absurd (omega (arith, n))
carved_sizes h (cell ∷ cells) (size ∷ sizes) good n zeros long =
    let first = ap (λ (o : Option (List ℕ)). length (unwrap_or o [])) (zeros 0 (omega arith)) ∙ long (size - 4) in
    let p = good.0.0 in
    let e = good.0.1 in
    cons-same (omega (arith, first, p, e)) (carved_sizes h cells sizes good.1 (omega (arith, n)) (λ i l. zeros (suc i) (omega (arith, l))) long)

-- ---- what came keeps its size where cells are only written over

still-there : (a b : Option (List ℕ)) → is_some b ≡ is_some a → IsSome b → IsSome a
still-there a b e there = sym e ∙ there

pub makes_after : (h h1 h2 : Heap) (sizes : List ℕ) → Makes h h1 sizes → SameSizes h1 h2 → Makes h h2 sizes
makes_after h h1 h2 sizes m same = record {
  offsets = m.offsets;
  sizes_are = map-same (λ z. length (held h2 z) + 4) (λ z. length (held h1 z) + 4) m.offsets (λ z l. ap (λ n. n + 4) (same z).1) ∙ m.sizes_are;
  once = m.once;
  fresh = m.fresh;
  only = λ z none there. m.only z none (still-there (h1 z) (h2 z) (same z).0 there);
}

-- what came stays where none comes, and only cells of a ring go that was there
pub makes-leaving : (h h1 h2 : Heap) (ring sizes : List ℕ) → Makes h h1 sizes → KeepsCells h1 h2 → LeavesOthers h1 h2 ring →
    ((z : ℕ) → 0 < times z ring → IsSome (h z)) → Makes h h2 sizes
makes-leaving h h1 h2 ring sizes m keeps leaves there = record {
  offsets = m.offsets;
  sizes_are = map-same (λ z. length (held h2 z) + 4) (λ z. length (held h1 z) + 4) m.offsets (λ z l. ap (λ n. n + 4) (long z l)) ∙ m.sizes_are;
  once = m.once;
  fresh = m.fresh;
  only = λ z none now. m.only z none (keeps z now).0;
}
  where
    apart : (z : ℕ) → 0 < times z m.offsets → times z ring ≡ 0
    apart z l = elim (cases_lt 0 (times z ring)) [
      | inl some ↦ absurd (false≢true (sym (ap is_some (m.fresh z l)) ∙ there z some))
      | inr none ↦ omega (arith, none)
    ]

    long : (z : ℕ) → 0 < times z m.offsets → length (held h2 z) ≡ length (held h1 z)
    long z l = by (h1 z) (h2 z) refl refl
      where
        by : (a b : Option (List ℕ)) → h1 z ≡ a → h2 z ≡ b → length (held h2 z) ≡ length (held h1 z)
        by None None e f = size-of (h1 z) (h2 z) (f ∙ sym e)
        by None (Some content) e f = absurd (false≢true (sym (ap is_some e) ∙ (keeps z (ap is_some f)).0))
        by (Some content) b e f = (keeps z (leaves z (ap is_some e) (apart z l))).1

-- and what was there keeps its size
pub stay-keeping : (h k j : Heap) → KeepsSizes h k → KeepsCells k j → KeepsSizes h j
stay-keeping h k j stay keeps z there now = (keeps z now).1 ∙ stay z there (keeps z now).0

-- the sizes of a set, by the list that the key node names
pub sizes_of_key : (h : Heap) (key count offset : ℕ) (name : List ℕ) (size : ℕ) → IsSome (key_at h key) → HasList h key count offset →
    set_sizes h count offset name size ≡ value_sizes h key name size
unfolding value_sizes
sizes_of_key h key count offset name size there list = by (key_at h key) there list
  where
    by : (o : Option KeyRecord) → IsSome o → ((k : KeyRecord) → o ≡ Some k → (count ≡ k.fields.values) × (offset ≡ k.fields.values_list)) →
        set_sizes h count offset name size ≡ set_sizes_by h name size o
    by None e list = absurd (cc)
    by (Some k) e list =
        ap (λ n. set_sizes h n offset name size) (list k refl).0 ∙ ap (λ p. set_sizes h k.fields.values p name size) (list k refl).1

-- and by the path of the key
pub sizes_by_path : (keys : Keys) (path : Path) (node : Node) → IsAt keys path node → (name : List ℕ) (size : ℕ) →
    value_sizes (heap_of keys.bins) node.offset name size ≡ value_sizes_at keys path name size
unfolding value_sizes
sizes_by_path keys path node at name size = ap (λ o. set_sizes_by (heap_of keys.bins) name size (option_and_then (key_at (heap_of keys.bins)) o)) (sym at.offset)

-- the cells of a set, by the list that the key node names
pub set_of_key : (h h1 : Heap) (key count offset : ℕ) (name : List ℕ) (size : ℕ) → IsSome (key_at h key) → HasList h key count offset →
    Makes h h1 (set_sizes h count offset name size) → Makes h h1 (value_sizes h key name size)
set_of_key h h1 key count offset name size there list makes = subst (Makes h h1) (sizes_of_key h key count offset name size there list) makes
