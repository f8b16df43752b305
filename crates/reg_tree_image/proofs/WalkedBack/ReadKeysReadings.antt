-- Readings of a hive's records put together, whatever they meet.
use Rattle.std.proofs.Common.{◌≡◌, ℕ, suc, nat_le, Bool, true, Option, Some, Result, Ok, List, [], ◌∷◌, ◌++◌, length, take, refl, ap, ◌∙◌}
use Rattle.std.specs.List.{concat}
use Rattle.std.specs.Option.{option_map, option_and_then}
use Rattle.std.specs.Result.{result_ok}
use Rattle.reg_heap.specs.Heaps.{Heap}
use Rattle.reg_heap.specs.Paths.{Member}
use Rattle.reg_heap.specs.Kinds.{Kind, Found}
use Rattle.reg_heap.specs.Kinds.Kind.{Class, ValueList, Value, BigHead, BigList}
use Rattle.reg_records.specs.KeyNodes.{KeyRecord, nk_of, key_at}
use Rattle.reg_records.specs.KeyValues.{KeyValueRecord, vk_of}
use Rattle.reg_records.specs.OffsetRows.{row_in}
use Rattle.reg_records.specs.BigData.{Named, if_any, BigData, segments_for, segments, db_of}
use Rattle.reg_shape.specs.Readings.{Reading, ◌>>=◌, give, given, cell, guard, each}
use Rattle.reg_shape.specs.Nodes.{bytes_at, pieces_at, row_at, big_in, big_at, data_at, member_of, member_at, members_at, Index, index_at, node_of, node_in, look}
use Rattle.reg_shape.proofs.Walking.ReadingParts.{bind-made, guard-made, given-made, cell-made}

-- a reading gives this
abbrev pub Reads : {A : Type 0} → Reading A → Heap → A → Type 0
Reads r heap x = (met : List Found) × (r heap ≡ Some (x, met))

pub reads-bind : {A B : Type 0} (r : Reading A) (f : A → Reading B) (heap : Heap) (x : A) (y : B) → Reads r heap x → Reads (f x) heap y → Reads (r >>= f) heap y
reads-bind r f heap x y a b = (a.0 ++ b.0, bind-made r f heap x a.0 (y, b.0) a.1 b.1)

pub reads-give : {A : Type 0} (x : A) (heap : Heap) → Reads (give x) heap x
reads-give x heap = ([], refl)

pub reads-given : {A : Type 0} (o : Option A) (x : A) (heap : Heap) → o ≡ Some x → Reads (given o) heap x
reads-given o x heap e = ([], given-made o x heap e)

pub reads-cell : (kind : Kind) (offset : ℕ) (heap : Heap) (content : List ℕ) → heap offset ≡ Some content → Reads (cell kind offset) heap content
reads-cell kind offset heap content e = (record { kind = kind; offset = offset } ∷ [], cell-made kind offset heap content e)

pub reads-guard : {A : Type 0} (test : Bool) (r : Reading A) (heap : Heap) (x : A) → test ≡ true → Reads r heap x → Reads (guard test r) heap x
reads-guard test r heap x t a = (a.0, guard-made test r heap (x, a.0) t a.1)

pub reads-as : {A : Type 0} (r : Reading A) (heap : Heap) (x y : A) → x ≡ y → Reads r heap x → Reads r heap y
reads-as {A} r heap x y e a = (a.0, a.1 ∙ ap (λ (z : A). Some (z, a.0)) e)

pub reads-cons : {A B : Type 0} (r : A → Reading B) (heap : Heap) (x : A) (xs : List A) (y : B) (ys : List B) → Reads (r x) heap y → Reads (each r xs) heap ys →
    Reads (each r (x ∷ xs)) heap (y ∷ ys)
reads-cons {A} {B} r heap x xs y ys a b =
    reads-bind (r x) (λ (z : B). each r xs >>= (λ (zs : List B). give (z ∷ zs))) heap y (y ∷ ys) a
    (reads-bind (each r xs) (λ (zs : List B). give (y ∷ zs)) heap ys (y ∷ ys) b (reads-give (y ∷ ys) heap))

module _ (heap : Heap) where
  -- ---- bytes

  pub bytes-made : (n : Named) (content : List ℕ) → heap n.offset ≡ Some content → nat_le n.size (length content) ≡ true → Reads (bytes_at n) heap (take n.size content)
  bytes-made n content here long =
      reads-bind (cell n.kind n.offset) (λ (c : List ℕ). guard (nat_le n.size (length c)) (give (take n.size c))) heap content (take n.size content)
      (reads-cell n.kind n.offset heap content here)
      (reads-guard (nat_le n.size (length content)) (give (take n.size content)) heap (take n.size content) long (reads-give (take n.size content) heap))

  pub pieces-made : (names : List Named) (pieces : List (List ℕ)) → Reads (each bytes_at names) heap pieces → Reads (pieces_at names) heap (concat pieces)
  pieces-made names pieces a =
      reads-bind (each bytes_at names) (λ (ps : List (List ℕ)). give (concat ps)) heap pieces (concat pieces) a (reads-give (concat pieces) heap)

  pub row-made : (kind : Kind) (count offset : ℕ) (content row : List ℕ) → heap offset ≡ Some content → row_in count content ≡ Some row → Reads (row_at kind count offset) heap row
  row-made kind count offset content row here is =
      reads-bind (cell kind offset) (λ (c : List ℕ). given (row_in count c)) heap content row (reads-cell kind offset heap content here) (reads-given (row_in count content) row heap is)

  pub big-made : (size offset : ℕ) (content : List ℕ) (big : BigData) (row bytes : List ℕ) → heap offset ≡ Some content → db_of content ≡ Some big →
      nat_le (segments_for size) big.count ≡ true → Reads (row_at BigList (segments_for size) big.list) heap row → Reads (pieces_at (segments size row)) heap bytes →
      Reads (big_at size offset) heap bytes
  big-made size offset content big row bytes here is enough list pieces =
      let tested = λ (b : BigData). guard (nat_le (segments_for size) b.count) (big_in size b) in
      reads-bind (cell BigHead offset) (λ (c : List ℕ). given (db_of c) >>= tested) heap content bytes (reads-cell BigHead offset heap content here)
      (reads-bind (given (db_of content)) tested heap big bytes (reads-given (db_of content) big heap is)
      (reads-guard (nat_le (segments_for size) big.count) (big_in size big) heap bytes enough
      (reads-bind (row_at BigList (segments_for size) big.list) (λ (r : List ℕ). pieces_at (segments size r)) heap row bytes list pieces)))

  -- ---- values

  pub member-made : (offset : ℕ) (content : List ℕ) (value : KeyValueRecord) (bytes : List ℕ) → heap offset ≡ Some content → vk_of content ≡ Ok value →
      Reads (data_at value.fields) heap bytes → Reads (member_at offset) heap (member_of value bytes)
  member-made offset content value bytes here is data_is =
      let made = λ (v : KeyValueRecord) (b : List ℕ). give (member_of v b) in
      let held = λ (v : KeyValueRecord). data_at v.fields >>= made v in
      let m = member_of value bytes in
      reads-bind (cell Value offset) (λ (c : List ℕ). given (result_ok (vk_of c)) >>= held) heap content m (reads-cell Value offset heap content here)
      (reads-bind (given (result_ok (vk_of content))) held heap value m (reads-given (result_ok (vk_of content)) value heap (ap result_ok is))
      (reads-bind (data_at value.fields) (made value) heap bytes m data_is (reads-give m heap)))

  pub members-made : (n offset : ℕ) (row : List ℕ) (members : List Member) → Reads (row_at ValueList (suc n) offset) heap row → Reads (each member_at row) heap members →
      Reads (members_at (suc n) offset) heap members
  members-made n offset row members list each_is = reads-bind (row_at ValueList (suc n) offset) (λ (r : List ℕ). each member_at r) heap row members list each_is

  -- ---- a key

  pub look-made : (offset : ℕ) (content : List ℕ) (key : KeyRecord) (class : List ℕ × List Found) (values : List Member × List Found) (index : Index) → heap offset ≡ Some content →
      nk_of content ≡ Ok key → pieces_at (if_any Class key.fields.class_length key.fields.class) heap ≡ Some class →
      members_at key.fields.values key.fields.values_list heap ≡ Some values → index_at heap key.fields.subkeys key.fields.subkeys_list ≡ Some index →
      look heap offset ≡ Some (node_of offset key class values index)
  unfolding look key_at
  look-made offset content key class values index here is c v i =
      let below = λ (cs : List ℕ × List Found) (vs : List Member × List Found). option_map (node_of offset key cs vs) (index_at heap key.fields.subkeys key.fields.subkeys_list) in
      let valued = λ (cs : List ℕ × List Found). option_and_then (below cs) (members_at key.fields.values key.fields.values_list heap) in
      ap (λ (o : Option (List ℕ)). option_and_then (node_in heap offset) (option_and_then (λ (held : List ℕ). result_ok (nk_of held)) o)) here
      ∙ (ap (λ (r : Result KeyRecord _). option_and_then (node_in heap offset) (result_ok r)) is
      ∙ (ap (option_and_then valued) c ∙ (ap (option_and_then (below class)) v ∙ ap (option_map (node_of offset key class values)) i)))
