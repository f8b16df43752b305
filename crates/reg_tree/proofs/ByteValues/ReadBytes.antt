-- What is read of a heap whose cells hold bytes: pieces of bytes, and values that hold bytes.
use Rattle.std.proofs.Common.{ℕ, zero, suc, Bool, true, false, cond, Option, Some, None, List, [], ◌∷◌, ◌+◌, ◌-◌, ◌<◌, take, drop, length}
use Rattle.std.specs.Prelude.{IfSome, nat_le, nat_lt, not, ◌&&◌, ◌==◌, ⊤, Result, Err}
use Rattle.std.specs.Result.{result_ok}
use Rattle.std.specs.Option.{option_map, option_and_then}
use Rattle.std.specs.List.{AllByRecursion, concat}
use Rattle.byteorder.specs.Endian.{little_bytes}
use Rattle.reg_heap.specs.Heaps.{Heap}
use Rattle.reg_heap.specs.Kinds.{Kind, Found}
use Rattle.reg_heap.specs.Kinds.Kind.{Value, ValueList, BigHead, BigList, Data}
use Rattle.reg_arena.specs.declared.Cell.{Cell}
use Rattle.reg_arena.specs.Cells.{content_in, content_of, cells_of, cell_at}
use Rattle.reg_records.specs.KeyValues.{KeyValueRecord, vk_of}
use Rattle.reg_records.specs.BigData.{Named, BigData, if_any, segments, segments_for, segment_size, is_inline, inline_size, db_of}
use Rattle.reg_records.specs.declared.RecordFault.{RecordFault}
use Rattle.reg_records.specs.declared.RecordFault.TheVariants.{Short, Signature, Length}
use Rattle.reg_records.specs.Letters.{is_signed}
use Rattle.reg_heap.specs.ByteWords.{half}
use Rattle.reg_shape.specs.Readings.{Reading, ◌>>=◌, noted, give, given, cell, guard, each}
use Rattle.reg_shape.specs.Nodes.{bytes_at, pieces_at, row_at, big_in, big_at, data_by, data_at, member_of, member_at, members_at}
use Rattle.reg_tree.specs.ValueBytes.{AreBytes, HoldsBytes}
use Rattle.reg_tree.proofs.ByteValues.BytePieces.{bytes-take, bytes-drop, bytes-concat, bytes-number, word-small}

-- ---- a heap of bytes

abbrev pub IsOfCells : Heap → Type 0
IsOfCells heap = (offset : ℕ) → IfSome (heap offset) AreBytes

pub some-either : {A : Type 0} (P : A → Type 0) (test : Bool) (x y : Option A) → IfSome x P → IfSome y P → IfSome (cond test x y) P
some-either P true x y p q = p
some-either P false x y p q = q

in-cells : (bytes : List ℕ) → AreBytes bytes → (cells : List Cell) (offset : ℕ) → IfSome (content_in bytes cells offset) AreBytes
in-cells bytes a [] offset = tt
in-cells bytes a (c ∷ cells) offset =
    some-either AreBytes ((c.offset == offset) && c.allocated) (Some (take (c.size - 4) (drop (c.offset + 4) bytes))) (content_in bytes cells offset)
    (bytes-take (c.size - 4) (drop (c.offset + 4) bytes) (bytes-drop (c.offset + 4) bytes a)) (in-cells bytes a cells offset)

of-cells : (bytes : List ℕ) → AreBytes bytes → (cells : Option (List Cell)) (offset : ℕ) → IfSome (content_of bytes cells offset) AreBytes
of-cells bytes a None offset = tt
of-cells bytes a (Some cells) offset = in-cells bytes a cells offset

pub cells-bytes : (bytes : List ℕ) → AreBytes bytes → IsOfCells (cell_at bytes)
unfolding cell_at
cells-bytes bytes a offset = of-cells bytes a (cells_of bytes) offset

-- ---- readings, of which each result has a property

abbrev pub Gives : {A : Type 0} → (A → Type 0) → Reading A → Heap → Type 0
Gives {A} P r heap = IfSome (r heap) (λ (x : A × List Found). P x.0)

gives-noted : {B : Type 0} (Q : B → Type 0) (before : List Found) (o : Option (B × List Found)) → IfSome o (λ (y : B × List Found). Q y.0) →
    IfSome (option_map (noted before) o) (λ (y : B × List Found). Q y.0)
gives-noted Q before None q = tt
gives-noted Q before (Some y) q = q

gives-bind : {A B : Type 0} (P : A → Type 0) (Q : B → Type 0) (r : Reading A) (f : A → Reading B) (heap : Heap) → Gives P r heap →
    ((a : A) → P a → Gives Q (f a) heap) → Gives Q (r >>= f) heap
gives-bind {A} {B} P Q r f heap p q = by (r heap) p
  where
    by : (o : Option (A × List Found)) → IfSome o (λ (x : A × List Found). P x.0) →
        IfSome (option_and_then (λ (x : A × List Found). option_map (noted x.1) (f x.0 heap)) o) (λ (y : B × List Found). Q y.0)
    by None h = tt
    by (Some x) h = gives-noted Q x.1 (f x.0 heap) (q x.0 h)

gives-given : {A : Type 0} (P : A → Type 0) (o : Option A) (heap : Heap) → IfSome o P → Gives P (given o) heap
gives-given P None heap p = tt
gives-given P (Some a) heap p = p

gives-cell : (kind : Kind) (offset : ℕ) (heap : Heap) → IsOfCells heap → Gives AreBytes (cell kind offset) heap
gives-cell kind offset heap h = by (heap offset) (h offset)
  where
    by : (o : Option (List ℕ)) → IfSome o AreBytes →
        IfSome (option_map (λ (c : List ℕ). (c, record { kind = kind; offset = offset } ∷ [])) o) (λ (x : List ℕ × List Found). AreBytes x.0)
    by None p = tt
    by (Some c) p = p

gives-guard : {A : Type 0} (P : A → Type 0) (test : Bool) (r : Reading A) (heap : Heap) → Gives P r heap → Gives P (guard test r) heap
gives-guard P true r heap p = p
gives-guard P false r heap p = tt

-- what is read of anything
anything : {A : Type 0} (r : Reading A) (heap : Heap) → Gives (λ _. ⊤) r heap
anything r heap = by (r heap)
  where
    by : {A : Type 0} → (o : Option (A × List Found)) → IfSome o (λ _. ⊤)
    by None = tt
    by (Some x) = tt

gives-each : {A B : Type 0} (P : B → Type 0) (r : A → Reading B) (heap : Heap) → ((x : A) → Gives P (r x) heap) → (xs : List A) →
    Gives (AllByRecursion P) (each r xs) heap
gives-each P r heap h [] = tt
gives-each P r heap h (x ∷ xs) =
    gives-bind P (AllByRecursion P) (r x) (λ y. each r xs >>= (λ ys. give (y ∷ ys))) heap (h x)
    (λ y p. gives-bind (AllByRecursion P) (AllByRecursion P) (each r xs) (λ ys. give (y ∷ ys)) heap (gives-each P r heap h xs) (λ ys ps. (p, ps)))

-- ---- a value's type

abbrev IsOfKind : KeyValueRecord → Type 0
IsOfKind value = value.fields.kind < 4294967296

ok-either : (test : Bool) (fault : RecordFault) (r : Result KeyValueRecord RecordFault) → IfSome (result_ok r) IsOfKind →
    IfSome (result_ok (cond test (Err fault) r)) IsOfKind
ok-either true fault r p = tt
ok-either false fault r p = p

value-kind : (content : List ℕ) → AreBytes content → IfSome (result_ok (vk_of content)) IsOfKind
unfolding vk_of
value-kind content a =
    ok-either (nat_lt (length content) 20) Short _
    (ok-either (not (is_signed 118 107 content)) Signature _
    (ok-either (nat_lt (length content) (20 + half content 2)) Length _ (word-small content 12 a)))

-- ---- the data of values

module _ (heap : Heap) (h : IsOfCells heap) where
  piece-bytes : (n : Named) → Gives AreBytes (bytes_at n) heap
  piece-bytes n =
      gives-bind AreBytes AreBytes (cell n.kind n.offset) (λ content. guard (nat_le n.size (length content)) (give (take n.size content))) heap
      (gives-cell n.kind n.offset heap h)
      (λ content a. gives-guard AreBytes (nat_le n.size (length content)) (give (take n.size content)) heap (bytes-take n.size content a))

  pieces-bytes : (names : List Named) → Gives AreBytes (pieces_at names) heap
  pieces-bytes names =
      gives-bind (AllByRecursion AreBytes) AreBytes (each bytes_at names) (λ pieces. give (concat pieces)) heap
      (gives-each AreBytes bytes_at heap piece-bytes names) (λ pieces a. bytes-concat pieces a)

  big-bytes : (size : ℕ) (big : BigData) → Gives AreBytes (big_in size big) heap
  big-bytes size big =
      gives-bind (λ _. ⊤) AreBytes (row_at BigList (segments_for size) big.list) (λ row. pieces_at (segments size row)) heap
      (anything (row_at BigList (segments_for size) big.list) heap) (λ row a. pieces-bytes (segments size row))

  big-at : (size offset : ℕ) → Gives AreBytes (big_at size offset) heap
  big-at size offset =
      gives-bind (λ _. ⊤) AreBytes (cell BigHead offset)
      (λ content. given (db_of content) >>= (λ big. guard (nat_le (segments_for size) big.count) (big_in size big))) heap
      (anything (cell BigHead offset) heap)
      (λ content a. gives-bind (λ _. ⊤) AreBytes (given (db_of content))
      (λ big. guard (nat_le (segments_for size) big.count) (big_in size big)) heap (anything (given (db_of content)) heap)
      (λ big b. gives-guard AreBytes (nat_le (segments_for size) big.count) (big_in size big) heap (big-bytes size big)))

  data-bytes : (inline small : Bool) (size offset : ℕ) → Gives AreBytes (data_by inline small size offset) heap
  data-bytes true small size offset =
      gives-guard AreBytes (nat_le (inline_size size) 4) (give (take (inline_size size) (little_bytes 4 offset))) heap
      (bytes-take (inline_size size) (little_bytes 4 offset) (bytes-number 0 4 offset))
  data-bytes false true size offset = pieces-bytes (if_any Data size offset)
  data-bytes false false size offset = big-at size offset

  -- ---- values

  member-bytes : (offset : ℕ) → Gives HoldsBytes (member_at offset) heap
  member-bytes offset =
      gives-bind AreBytes HoldsBytes (cell Value offset)
      (λ content. given (result_ok (vk_of content)) >>= (λ value. data_at value.fields >>= (λ bytes. give (member_of value bytes)))) heap
      (gives-cell Value offset heap h)
      (λ content a. gives-bind IsOfKind HoldsBytes (given (result_ok (vk_of content)))
      (λ value. data_at value.fields >>= (λ bytes. give (member_of value bytes))) heap
      (gives-given IsOfKind (result_ok (vk_of content)) heap (value-kind content a))
      (λ value k. gives-bind AreBytes HoldsBytes (data_at value.fields) (λ bytes. give (member_of value bytes)) heap
      (data-bytes (is_inline value.fields.size) (nat_le value.fields.size segment_size) value.fields.size value.fields.offset)
      (λ bytes b. (k, b))))

  pub members-bytes : (count offset : ℕ) → Gives (AllByRecursion HoldsBytes) (members_at count offset) heap
  members-bytes zero offset = tt
  members-bytes (suc n) offset =
      gives-bind (λ _. ⊤) (AllByRecursion HoldsBytes) (row_at ValueList (suc n) offset) (λ row. each member_at row) heap
      (anything (row_at ValueList (suc n) offset) heap) (λ row a. gives-each HoldsBytes member_at heap member-bytes row)
