-- The sizes of new cells, one by one and together.
use Rattle.std.proofs.Common.{◌≡◌, ℕ, zero, suc, ◌+◌, ◌-◌, ◌*◌, ◌/◌, ◌%◌, ◌<◌, ◌≤◌, nat_le, min, cond, Bool, true, false, Option, Some, None, List, [], ◌∷◌, ◌++◌, length, map, is_some, get_or}
use Rattle.std.proofs.Common.{refl, sym, ap, ◌∙◌, arith}
use Rattle.std.specs.List.{AllByRecursion, list_all}
use Rattle.std.proofs.lemmas.Bool.{and_parts, leb-true}
use Rattle.reg_names.specs.Names.{is_value_name, is_value_name_byte}
use Rattle.std.proofs.lemmas.List.{length-replicate}
use Rattle.reg_names.specs.declared.TheConstants.{VALUE_NAME_LIMIT}
use Rattle.reg_heap.specs.declared.limits.TheConstants.{BINS_LIMIT, GROWTH_BOUND, VALUES_LIMIT, DATA_LIMIT}
use Rattle.reg_arena.specs.NewCells.{total_of, AreSizes}
use Rattle.reg_arena.specs.NewBin.{PassesLimit}
use Rattle.reg_heap.specs.Heaps.{Heap, AreNew, allocated}
use Rattle.reg_heap.specs.Kinds.{times}
use Rattle.reg_records.specs.RecordCells.{held}
use Rattle.reg_records.specs.declared.db.TheConstants.{SEGMENT_SIZE}
use Rattle.reg_records.specs.BigData.{segment_size, segments_for}
use Rattle.reg_values.specs.ValueLists.{Makes}
use Rattle.reg_arena.specs.NewCells.{cell_size}
use Rattle.reg_values.specs.ValueSizes.{segment_sizes, data_sizes, room_for, list_sizes, sizes_by, has_room, stays, new_data_sizes}
use Rattle.reg_records.specs.KeyValues.{KeyValueRecord}
use Rattle.reg_values.proofs.ValueListing.FoundValues.{held-is}
use Rattle.reg_values.proofs.ValueFreeing.FrameChains.{allocated-le, none-there, there-one, times-same}
use Rattle.reg_values.proofs.ValueData.StoredData.{few-segments}
use Rattle.reg_values.proofs.ValueChanges.PlannedSizes.{big-sizes}

pub cell-ok : (n : ℕ) → (0 < cell_size n) × (cell_size n % 8 ≡ 0)
cell-ok n = (omega arith, omega arith)

segments-ok : (n size : ℕ) → AreSizes (segment_sizes n size)
segments-ok zero size = tt
segments-ok (suc n) size = (cell-ok (min segment_size size), segments-ok n (size - segment_size))

segments-total : (n size : ℕ) → total_of (segment_sizes n size) ≤ size + 12 * n
segments-total zero size = omega arith
segments-total (suc n) size = let k = segments-total n (size - segment_size) in omega (arith, k)

pub data-ok : (size : ℕ) → AreSizes (data_sizes size)
unfolding data_sizes
data-ok size = by (nat_le size 4) (nat_le size segment_size)
  where
    by : (a b : Bool) → AreSizes (cond a [] (cond b (cell_size size ∷ []) (cell_size 8 ∷ cell_size (4 * segments_for size) ∷ segment_sizes (segments_for size) size)))
    by true b = tt
    by false true = (cell-ok size, tt)
    by false false = (cell-ok 8, (cell-ok (4 * segments_for size), segments-ok (segments_for size) size))

pub data-total : (size : ℕ) → size ≤ DATA_LIMIT → total_of (data_sizes size) ≤ 1049672
unfolding data_sizes
data-total size l = by (nat_le size 4) (nat_le size segment_size)
  where
    by : (a b : Bool) → total_of (cond a [] (cond b (cell_size size ∷ []) (cell_size 8 ∷ cell_size (4 * segments_for size) ∷ segment_sizes (segments_for size) size))) ≤ 1049672
    by true b = omega arith
    by false true = omega (arith, l)
    by false false = let f = few-segments size l in let k = segments-total (segments_for size) size in omega (arith, f, k, l)

-- so many full segments and the last
segments-exact : (full size : ℕ) → SEGMENT_SIZE * full < size → size ≤ SEGMENT_SIZE * full + SEGMENT_SIZE →
    total_of (segment_sizes (suc full) size) ≡ cell_size SEGMENT_SIZE * full + cell_size (size - SEGMENT_SIZE * full)
unfolding segment_size
segments-exact zero size l m =
    let e : min SEGMENT_SIZE size ≡ size = omega (arith, m) in
    let f : size ≡ size - SEGMENT_SIZE * zero = omega arith in
    ap (λ n. cell_size n + 0) (e ∙ f) ∙ omega arith
segments-exact (suc n) size l m =
    let k = segments-exact n (size - SEGMENT_SIZE) (omega (arith, l)) (omega (arith, l, m)) in
    let e : min SEGMENT_SIZE size ≡ SEGMENT_SIZE = omega (arith, l) in
    let f : size - SEGMENT_SIZE - SEGMENT_SIZE * n ≡ size - SEGMENT_SIZE * suc n = omega arith in
    let g = ap cell_size f in
    let h = ap cell_size e in
    omega (arith, k, g, h)

pub big-exact : (size count last : ℕ) → SEGMENT_SIZE < size → count ≡ segments_for size → last ≡ size - SEGMENT_SIZE * (count - 1) →
    total_of (data_sizes size) ≡ cell_size 8 + cell_size (4 * count) + cell_size SEGMENT_SIZE * (count - 1) + cell_size last
unfolding segment_size
big-exact size zero last l e f = absurd (omega (arith, l, e))
big-exact size (suc full) last l e f =
    let s = segments-exact full size (omega (arith, l, e)) (omega (arith, l, e)) in
    let d = ap total_of (big-sizes size l ∙ ap (λ n. cell_size 8 ∷ cell_size (4 * n) ∷ segment_sizes n size) (sym e)) in
    let g = ap cell_size f in
    omega (arith, s, d, g)

pub all-app : (P : ℕ → Type 0) (xs ys : List ℕ) → AllByRecursion P xs → AllByRecursion P ys → AllByRecursion P (xs ++ ys)
all-app P [] ys a b = b
all-app P (x ∷ xs) ys a b = (a.0, all-app P xs ys a.1 b)

pub total-append : (xs ys : List ℕ) → total_of (xs ++ ys) ≡ total_of xs + total_of ys
total-append [] ys = omega arith
total-append (x ∷ xs) ys = let k = total-append xs ys in omega (arith, k)

-- a list that moves is made for as many values as it then holds, at least
pub room-least : (n : ℕ) → n ≤ VALUES_LIMIT → n ≤ room_for n
unfolding room_for
room-least n l = by (nat_le n 64)
  where
    by : (b : Bool) → n ≤ cond b n (min (n + n / 4) VALUES_LIMIT)
    by true = omega arith
    by false = omega (arith, l)

room-most : (n : ℕ) → n ≤ VALUES_LIMIT + 1 → room_for n ≤ VALUES_LIMIT + 1
unfolding room_for
room-most n l = by (nat_le n 64)
  where
    by : (b : Bool) → cond b n (min (n + n / 4) VALUES_LIMIT) ≤ VALUES_LIMIT + 1
    by true = omega (arith, l)
    by false = omega arith

list-ok : (h : Heap) (count offset : ℕ) → AreSizes (list_sizes h count offset)
unfolding list_sizes
list-ok h count offset = by (has_room h count offset)
  where
    by : (b : Bool) → AreSizes (cond b [] (cell_size (4 * room_for (count + 1)) ∷ []))
    by true = tt
    by false = (cell-ok (4 * room_for (count + 1)), tt)

list-total : (h : Heap) (count offset : ℕ) → count ≤ VALUES_LIMIT → total_of (list_sizes h count offset) ≤ 65560
unfolding list_sizes
list-total h count offset l = by (has_room h count offset)
  where
    by : (b : Bool) → total_of (cond b [] (cell_size (4 * room_for (count + 1)) ∷ [])) ≤ 65560
    by true = omega arith
    by false = let m = room-most (count + 1) (omega (arith, l)) in omega (arith, m)

pub add-ok : (h : Heap) (count offset name size : ℕ) → AreSizes (sizes_by h count offset name size None)
add-ok h count offset name size = (cell-ok (20 + name), all-app _ (list_sizes h count offset) (data_sizes size) (list-ok h count offset) (data-ok size))

pub add-total : (h : Heap) (count offset name size : ℕ) → count ≤ VALUES_LIMIT → name ≤ VALUE_NAME_LIMIT → size ≤ DATA_LIMIT → total_of (sizes_by h count offset name size None) ≤ 1306592
add-total h count offset name size c n s =
    let a = list-total h count offset c in
    let d = data-total size s in
    omega (arith, a, d, n, total-append (list_sizes h count offset) (data_sizes size))

-- ---- near the limit

pub near : (bytes : List ℕ) (total : ℕ) → total ≤ 1306592 → PassesLimit bytes total → BINS_LIMIT < length bytes + GROWTH_BOUND
near bytes total l p = let s = p.least.least GROWTH_BOUND (omega arith) (omega (arith, l)) in let q = p.passes in omega (arith, s, q)

-- ---- the cells that were made

sizes-at : (sizes : List ℕ) (i : ℕ) → AreSizes sizes → i < length sizes → 8 ≤ get_or sizes i 0
sizes-at [] i a l = absurd (omega arith)
sizes-at (s ∷ sizes) zero a l = let p = a.0.0 in let q = a.0.1 in omega (arith, p, q)
sizes-at (s ∷ sizes) (suc i) a l = sizes-at sizes i a.1 (omega arith)

mapped : (f : ℕ → ℕ) (xs ys : List ℕ) → length xs ≡ length ys → ((i : ℕ) → i < length ys → f (get_or xs i 0) ≡ get_or ys i 0) → map f xs ≡ ys
mapped f [] [] n e = refl
mapped f [] (y ∷ ys) n e = absurd (omega arith)
mapped f (x ∷ xs) [] n e = absurd (omega arith)
mapped f (x ∷ xs) (y ∷ ys) n e = ap (λ z. z ∷ map f xs) (e 0 (omega arith)) ∙ ap (λ zs. y ∷ zs) (mapped f xs ys (omega arith) (λ i l. e (suc i) (omega arith)))

times-in : (os : List ℕ) (i : ℕ) → i < length os → 0 < times (get_or os i 0) os
times-in [] i l = absurd (omega arith)
times-in (o ∷ os) zero l = let s = times-same o in omega (arith, s)
times-in (o ∷ os) (suc i) l = let k = times-in os i (omega arith) in omega (arith, k)

pub makes : (h0 h1 h : Heap) (offsets sizes : List ℕ) → AreNew h0 h1 offsets sizes → AreSizes sizes → ((z : ℕ) → allocated h z ≤ allocated h1 z) →
    ((z : ℕ) → 0 < times z offsets → length (held h z) ≡ length (held h1 z)) → Makes h0 h sizes
makes h0 h1 h offsets sizes a s less same = record {
  offsets = offsets;
  sizes_are = mapped (λ o. length (held h o) + 4) offsets sizes a.as_many (λ i l.
      let n = a.as_many in
      let z = a.zeros i l in
      let k = ap length (held-is h1 (get_or offsets i 0) _ z) in
      let e = same (get_or offsets i 0) (times-in offsets i (omega (arith, n, l))) in
      let eight = sizes-at sizes i s l in
      omega (arith, k, e, eight, length-replicate {A = ℕ} (get_or sizes i 0 - 4) 0));
  once = λ z. (let c = a.come.count z in let b = allocated-le h1 z in omega (arith, c, b));
  fresh = λ z l. none-there (h0 z) (let c = a.come.count z in let b = allocated-le h1 z in omega (arith, c, b, l));
  only = λ z e s. (let c = a.come.count z in let b = less z in let t = there-one h z s in
      let n : allocated h0 z ≡ 0 = ap (λ (o : Option (List ℕ)). cond (is_some o) 1 0) e in omega (arith, c, b, t, n));
}

pub value-name : (name : List ℕ) → is_value_name name ≡ true → length name ≤ VALUE_NAME_LIMIT
value-name name e = leb-true _ _ (and_parts (list_all is_value_name_byte name) (nat_le (length name) VALUE_NAME_LIMIT) e).1

-- a set's sizes are few enough
pub replace-total : (h : Heap) (size : ℕ) (v : Option KeyValueRecord) → size ≤ DATA_LIMIT → total_of (new_data_sizes h size v) ≤ 1306592
replace-total h size None l = omega arith
replace-total h size (Some old) l = by (stays h old.fields size)
  where
    by : (b : Bool) → total_of (cond b [] (data_sizes size)) ≤ 1306592
    by true = omega arith
    by false = let t = data-total size l in omega (arith, t)
