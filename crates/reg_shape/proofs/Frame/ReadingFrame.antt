-- A change outside what a reading meets keeps the reading.
use Rattle.std.proofs.Common.{◌≡◌, ℕ, zero, suc, Bool, true, false, nat_le, Option, Some, List, [], ◌∷◌, ◌++◌, length, take, sym, ap, ◌∙◌, subst}
use Rattle.std.specs.List.{AllByRecursion, concat}
use Rattle.std.specs.Result.{result_ok}
use Rattle.byteorder.specs.Endian.{little_bytes}
use Rattle.reg_heap.specs.Heaps.{Heap}
use Rattle.reg_heap.specs.Kinds.{Kind, Found}
use Rattle.reg_heap.specs.Kinds.Kind.{ValueList, Value, Data, BigHead, BigList}
use Rattle.reg_shape.specs.Readings.{Reading, ◌>>=◌, give, given, cell, guard, each}
use Rattle.reg_shape.proofs.Walking.ReadingParts.{bind-open, bind-made, guard-open, guard-made, cell-open, cell-made}
use Rattle.reg_records.specs.KeyValues.{vk_of}
use Rattle.reg_records.specs.OffsetRows.{row_in}
use Rattle.reg_records.specs.BigData.{Named, if_any, segment_size, is_inline, inline_size, BigData, segments_for, segments, db_of}
use Rattle.reg_shape.specs.Nodes.{bytes_at, pieces_at, row_at, big_in, big_at, data_by, data_at, member_of, member_at, members_at}

-- the cells that are met hold the same
abbrev pub Agree : Heap → Heap → List Found → Type 0
Agree h k found = AllByRecursion (λ (f : Found). k f.offset ≡ h f.offset) found

pub all-front : {A : Type 0} (P : A → Type 0) (xs ys : List A) → AllByRecursion P (xs ++ ys) → AllByRecursion P xs
all-front P [] ys a = tt
all-front P (x ∷ xs) ys a = (a.0, all-front P xs ys a.1)

pub all-back : {A : Type 0} (P : A → Type 0) (xs ys : List A) → AllByRecursion P (xs ++ ys) → AllByRecursion P ys
all-back P [] ys a = a
all-back P (x ∷ xs) ys a = all-back P xs ys a.1

-- a reading gives the same where the cells that it meets hold the same
abbrev pub IsLocal : {A : Type 0} → Reading A → Type 0
IsLocal {A} r = (h k : Heap) (y : A × List Found) → r h ≡ Some y → Agree h k y.1 → r k ≡ Some y

-- ---- combinators

bound : {A B : Type 0} (r : Reading A) (f : A → Reading B) → IsLocal r → ((x : A) → IsLocal (f x)) → IsLocal (r >>= f)
bound {A} {B} r f p q h k y e a =
    let o = bind-open r f h y e in
    let b = subst (Agree h k) (sym o.all) a in
    let same : ◌≡◌ {A = B × List Found} (o.then.0, o.before ++ o.then.1) y = λ i. (o.result i, o.all i) in
    bind-made r f k o.first o.before o.then
    (p h k (o.first, o.before) o.first_is (all-front (λ (f : Found). k f.offset ≡ h f.offset) o.before o.then.1 b))
    (q o.first h k o.then o.then_is (all-back (λ (f : Found). k f.offset ≡ h f.offset) o.before o.then.1 b))
    ∙ ap Some same

gives : {A : Type 0} (x : A) → IsLocal (give x)
gives x h k y e a = e

givens : {A : Type 0} (x : Option A) → IsLocal (given x)
givens x h k y e a = e

guards : {A : Type 0} (b : Bool) (r : Reading A) → IsLocal r → IsLocal (guard b r)
guards b r p h k y e a = let g = guard-open b r h y e in guard-made b r k y g.0 (p h k y g.1 a)

cells : (kind : Kind) (offset : ℕ) → IsLocal (cell kind offset)
cells kind offset h k y e a =
    let c = cell-open kind offset h y.0 y.1 e in
    let same = (subst (Agree h k) c.1 a).0 in
    cell-made kind offset k y.0 (same ∙ c.0) ∙ ap (λ zs. Some (y.0, zs)) (sym c.1)

pub eaches : {A B : Type 0} (r : A → Reading B) → ((x : A) → IsLocal (r x)) → (xs : List A) → IsLocal (each r xs)
eaches r p [] = gives []
eaches r p (x ∷ xs) = bound (r x) (λ y. each r xs >>= (λ ys. give (y ∷ ys))) (p x) (λ y. bound (each r xs) (λ ys. give (y ∷ ys)) (eaches r p xs) (λ ys. gives (y ∷ ys)))

-- ---- a key's class and values

bytes-local : (n : Named) → IsLocal (bytes_at n)
bytes-local n = bound (cell n.kind n.offset) (λ content. guard (nat_le n.size (length content)) (give (take n.size content))) (cells n.kind n.offset)
    (λ content. guards (nat_le n.size (length content)) (give (take n.size content)) (gives (take n.size content)))

pub pieces-local : (names : List Named) → IsLocal (pieces_at names)
pieces-local names = bound (each bytes_at names) (λ pieces. give (concat pieces)) (eaches bytes_at bytes-local names) (λ pieces. gives (concat pieces))

pub row-local : (kind : Kind) (count offset : ℕ) → IsLocal (row_at kind count offset)
row-local kind count offset = bound (cell kind offset) (λ content. given (row_in count content)) (cells kind offset) (λ content. givens (row_in count content))

pub big-local : (size : ℕ) (big : BigData) → IsLocal (big_in size big)
big-local size big = bound (row_at BigList (segments_for size) big.list) (λ row. pieces_at (segments size row))
    (row-local BigList (segments_for size) big.list) (λ row. pieces-local (segments size row))

pub far-local : (size offset : ℕ) → IsLocal (big_at size offset)
far-local size offset =
    bound (cell BigHead offset) (λ content. given (db_of content) >>= (λ big. guard (nat_le (segments_for size) big.count) (big_in size big))) (cells BigHead offset) (λ content.
    bound (given (db_of content)) (λ big. guard (nat_le (segments_for size) big.count) (big_in size big)) (givens (db_of content)) (λ big.
    guards (nat_le (segments_for size) big.count) (big_in size big) (big-local size big)))

pub data-local : (inline small : Bool) (size offset : ℕ) → IsLocal (data_by inline small size offset)
data-local true small size offset = guards (nat_le (inline_size size) 4) (give (take (inline_size size) (little_bytes 4 offset))) (gives (take (inline_size size) (little_bytes 4 offset)))
data-local false true size offset = pieces-local (if_any Data size offset)
data-local false false size offset = far-local size offset

pub member-local : (offset : ℕ) → IsLocal (member_at offset)
member-local offset =
    bound (cell Value offset) (λ content. given (result_ok (vk_of content)) >>= (λ value. data_at value.fields >>= (λ bytes. give (member_of value bytes)))) (cells Value offset) (λ content.
    bound (given (result_ok (vk_of content))) (λ value. data_at value.fields >>= (λ bytes. give (member_of value bytes))) (givens (result_ok (vk_of content))) (λ value.
    bound (data_at value.fields) (λ bytes. give (member_of value bytes)) (data-local (is_inline value.fields.size)
    (nat_le value.fields.size segment_size) value.fields.size value.fields.offset) (λ bytes.
    gives (member_of value bytes))))

pub members-local : (count offset : ℕ) → IsLocal (members_at count offset)
members-local zero offset = gives []
members-local (suc n) offset = bound (row_at ValueList (suc n) offset) (λ row. each member_at row) (row-local ValueList (suc n) offset) (λ row. eaches member_at member-local row)
