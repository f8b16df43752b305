-- What is met in reading a key's class and values is no key, no list of keys and no security.
use Rattle.std.proofs.Common.{◌≡◌, ℕ, zero, suc, ◌-◌, Bool, true, false, nat_le, Option, Some, List, [], ◌∷◌, ◌++◌, length, take, refl, sym, ap, subst}
use Rattle.std.specs.List.{AllByRecursion, concat}
use Rattle.std.specs.Result.{result_ok}
use Rattle.std.proofs.lemmas.Option.{same_Some}
use Rattle.byteorder.specs.Endian.{little_bytes}
use Rattle.reg_heap.specs.Paths.{Member}
use Rattle.reg_heap.specs.Heaps.{Heap}
use Rattle.reg_heap.specs.Kinds.{Kind, Found}
use Rattle.reg_heap.specs.Kinds.Kind.{Key, Class, SubList, Leaf, ValueList, Value, Data, BigHead, BigList, Segment, Security}
use Rattle.reg_shape.specs.Readings.{Reading, ◌>>=◌, give, given, cell, guard, each}
use Rattle.reg_shape.proofs.Walking.ReadingParts.{bind-open, guard-open, given-open, cell-open, each-open}
use Rattle.reg_records.specs.KeyValues.{vk_of}
use Rattle.reg_records.specs.OffsetRows.{row_in}
use Rattle.reg_records.specs.BigData.{Named, if_any, segment_size, is_inline, inline_size, BigData, segments_for, segments, db_of}
use Rattle.reg_shape.specs.Nodes.{bytes_at, pieces_at, row_at, big_in, big_at, data_by, data_at, member_of, member_at, members_at}
use Rattle.reg_arena.proofs.Contents.CellWrites.{all-append}

-- a record of a class or of values
abbrev pub is_inner : Kind → Bool
is_inner Key = false
is_inner Class = true
is_inner SubList = false
is_inner Leaf = false
is_inner ValueList = true
is_inner Value = true
is_inner Data = true
is_inner BigHead = true
is_inner BigList = true
is_inner Segment = true
is_inner Security = false

abbrev pub AreInner : List Found → Type 0
AreInner found = AllByRecursion (λ (f : Found). is_inner f.kind ≡ true) found

joins : (xs ys : List Found) → AreInner xs → AreInner ys → AreInner (xs ++ ys)
joins xs ys a b = all-append (λ (f : Found). is_inner f.kind ≡ true) xs ys a b

bound : {A B : Type 0} (r : Reading A) (f : A → Reading B) (heap : Heap) → ((x : A) (zs : List Found) → r heap ≡ Some (x, zs) → AreInner zs) →
    ((x : A) (y : B × List Found) → f x heap ≡ Some y → AreInner y.1) → (y : B × List Found) → ◌>>=◌ r f heap ≡ Some y → AreInner y.1
bound r f heap h k y e =
    let o = bind-open r f heap y e in subst AreInner o.all (joins o.before o.then.1 (h o.first o.before o.first_is) (k o.first o.then o.then_is))

gives : {A : Type 0} (x : A) (heap : Heap) (y : A × List Found) → give x heap ≡ Some y → AreInner y.1
gives {A} x heap y e = subst AreInner (ap (λ (p : A × List Found). p.1) (same_Some _ _ e)) tt

givens : {A : Type 0} (x : Option A) (heap : Heap) (y : A × List Found) → given x heap ≡ Some y → AreInner y.1
givens x heap y e = let g = given-open x heap y e in subst AreInner (sym g.1) tt

cells : (kind : Kind) → is_inner kind ≡ true → (offset : ℕ) (heap : Heap) (content : List ℕ) (zs : List Found) → cell kind offset heap ≡ Some (content, zs) → AreInner zs
cells kind k offset heap content zs e = let c = cell-open kind offset heap content zs e in subst AreInner (sym c.1) (k, tt)

pub eaches : {A B : Type 0} (P : A → Type 0) (r : A → Reading B) (heap : Heap) → ((x : A) (y : B × List Found) → P x → r x heap ≡ Some y →
    AreInner y.1) → (xs : List A) → AllByRecursion P xs → (y : List B × List Found) → each r xs heap ≡ Some y → AreInner y.1
eaches {A} {B} P r heap h [] a y e = subst AreInner (ap (λ (p : List B × List Found). p.1) (same_Some _ _ e)) tt
eaches P r heap h (x ∷ xs) a y e =
    let o = each-open r heap x xs y.0 y.1 e in
    subst AreInner o.all (joins o.head_cells o.tail_cells (h x (o.head, o.head_cells) a.0 o.head_is) (eaches P r heap h xs a.1 (o.tail, o.tail_cells) o.tail_is))

-- ---- bytes

abbrev AreBytes : List Named → Type 0
AreBytes names = AllByRecursion (λ (n : Named). is_inner n.kind ≡ true) names

bytes-inner : (heap : Heap) (n : Named) (y : List ℕ × List Found) → is_inner n.kind ≡ true → bytes_at n heap ≡ Some y → AreInner y.1
bytes-inner heap n y k e =
    bound (cell n.kind n.offset) (λ content. guard (nat_le n.size (length content)) (give (take n.size content))) heap
    (λ content zs c. cells n.kind k n.offset heap content zs c)
    (λ content y g. gives (take n.size content) heap y (guard-open (nat_le n.size (length content)) (give (take n.size content)) heap y g).1) y e

pieces-inner : (heap : Heap) (names : List Named) → AreBytes names → (y : List ℕ × List Found) → pieces_at names heap ≡ Some y → AreInner y.1
pieces-inner heap names a y e =
    bound (each bytes_at names) (λ pieces. give (concat pieces)) heap
    (λ pieces zs c. eaches (λ (n : Named). is_inner n.kind ≡ true) bytes_at heap (λ n y k c. bytes-inner heap n y k c) names a (pieces, zs) c)
    (λ pieces y g. gives (concat pieces) heap y g) y e

any-bytes : (kind : Kind) → is_inner kind ≡ true → (size offset : ℕ) → AreBytes (if_any kind size offset)
any-bytes kind k zero offset = tt
any-bytes kind k (suc n) offset = (k, tt)

segments-bytes : (size : ℕ) (offsets : List ℕ) → AreBytes (segments size offsets)
segments-bytes size [] = tt
segments-bytes size (o ∷ offsets) = (refl, segments-bytes (size - segment_size) offsets)

pub class-inner : (heap : Heap) (size offset : ℕ) (y : List ℕ × List Found) → pieces_at (if_any Class size offset) heap ≡ Some y → AreInner y.1
class-inner heap size offset y e = pieces-inner heap (if_any Class size offset) (any-bytes Class refl size offset) y e

-- ---- values

row-inner : (heap : Heap) (kind : Kind) → is_inner kind ≡ true → (count offset : ℕ) (row : List ℕ) (zs : List Found) → row_at kind count offset heap ≡ Some (row, zs) → AreInner zs
row-inner heap kind k count offset row zs e =
    bound (cell kind offset) (λ content. given (row_in count content)) heap (λ content zs c. cells kind k offset heap content zs c) (λ content y g. givens (row_in count content) heap y g) (row, zs) e

big-inner : (heap : Heap) (size offset : ℕ) (y : List ℕ × List Found) → big_at size offset heap ≡ Some y → AreInner y.1
big-inner heap size offset y e =
    bound (cell BigHead offset) (λ content. given (db_of content) >>= (λ big. guard (nat_le (segments_for size) big.count) (big_in size big))) heap
    (λ content zs c. cells BigHead refl offset heap content zs c)
    (λ content y g. bound (given (db_of content)) (λ big. guard (nat_le (segments_for size) big.count) (big_in size big)) heap
    (λ big zs c. givens (db_of content) heap (big, zs) c)
    (λ big y g. list big y (guard-open (nat_le (segments_for size) big.count) (big_in size big) heap y g).1) y g) y e
  where
    list : (big : BigData) (y : List ℕ × List Found) → big_in size big heap ≡ Some y → AreInner y.1
    list big y e =
        bound (row_at BigList (segments_for size) big.list) (λ row. pieces_at (segments size row)) heap
        (λ row zs c. row-inner heap BigList refl (segments_for size) big.list row zs c)
        (λ row y g. pieces-inner heap (segments size row) (segments-bytes size row) y g) y e

pub data-inner : (heap : Heap) (inline small : Bool) (size offset : ℕ) (y : List ℕ × List Found) → data_by inline small size offset heap ≡ Some y → AreInner y.1
data-inner heap true small size offset y e =
    gives (take (inline_size size) (little_bytes 4 offset)) heap y (guard-open (nat_le (inline_size size) 4) (give (take (inline_size size) (little_bytes 4 offset))) heap y e).1
data-inner heap false true size offset y e = pieces-inner heap (if_any Data size offset) (any-bytes Data refl size offset) y e
data-inner heap false false size offset y e = big-inner heap size offset y e

pub member-inner : (heap : Heap) (offset : ℕ) (y : Member × List Found) → member_at offset heap ≡ Some y → AreInner y.1
member-inner heap offset y e =
    bound (cell Value offset) (λ content. given (result_ok (vk_of content)) >>= (λ value. data_at value.fields >>= (λ bytes. give (member_of value bytes)))) heap
    (λ content zs c. cells Value refl offset heap content zs c)
    (λ content y g. bound (given (result_ok (vk_of content))) (λ value. data_at value.fields >>= (λ bytes. give (member_of value bytes))) heap
    (λ value zs c. givens (result_ok (vk_of content)) heap (value, zs) c)
    (λ value y g. bound (data_at value.fields) (λ bytes. give (member_of value bytes)) heap
    (λ bytes zs c. data-inner heap (is_inline value.fields.size) (nat_le value.fields.size segment_size) value.fields.size value.fields.offset (bytes, zs) c)
    (λ bytes y g. gives (member_of value bytes) heap y g) y g) y g) y e

all-of : {A : Type 0} (xs : List A) → AllByRecursion (λ (x : A). Unit {0}) xs
all-of [] = tt
all-of (x ∷ xs) = (tt, all-of xs)

pub members-inner : (heap : Heap) (count offset : ℕ) (y : List Member × List Found) → members_at count offset heap ≡ Some y → AreInner y.1
members-inner heap zero offset y e = gives [] heap y e
members-inner heap (suc n) offset y e =
    bound (row_at ValueList (suc n) offset) (λ row. each member_at row) heap
    (λ row zs c. row-inner heap ValueList refl (suc n) offset row zs c)
    (λ row y g. eaches (λ offset. Unit {0}) member_at heap (λ offset y k c. member-inner heap offset y c) row (all-of row) y g) y e
