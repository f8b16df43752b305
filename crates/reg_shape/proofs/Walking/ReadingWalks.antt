-- What a reading meets is what the walk meets.
use Rattle.std.proofs.Common.{◌≡◌, ℕ, zero, suc, ◌-◌, Bool, true, false, take, nat_le, cond, Some, None, List, [], ◌∷◌, ◌++◌, map, length, refl, sym, ap, ◌∙◌, subst}
use Rattle.std.specs.List.{AllByRecursion, concat}
use Rattle.std.specs.Option.{option_map, option_and_then}
use Rattle.std.specs.Result.{result_ok}
use Rattle.byteorder.specs.Endian.{little_bytes}
use Rattle.std.proofs.lemmas.Option.{same_Some}
use Rattle.std.proofs.lemmas.List.{append-nil}
use Rattle.reg_heap.specs.Paths.{Member}
use Rattle.reg_heap.specs.Heaps.{Heap}
use Rattle.reg_heap.specs.Kinds.{Kind, Found}
use Rattle.reg_heap.specs.Kinds.Kind.{Class, ValueList, Value, Data, BigHead, BigList, Segment}
use Rattle.reg_shape.specs.Readings.{Reading, ◌>>=◌, give, given, cell, guard, each}
use Rattle.reg_shape.proofs.Walking.ReadingParts.{bind-open, guard-open, given-open, cell-open, each-open}
use Rattle.reg_records.specs.KeyValues.{KeyValueRecord, vk_of}
use Rattle.reg_records.specs.OffsetRows.{row_in}
use Rattle.reg_records.specs.BigData.{Named, named, plainly, if_any, segment_size, is_inline, inline_size, BigData, segments_for, segments, db_of}
use Rattle.reg_shape.specs.Walk.{enough, names_of, value_names, big_names, kind_met}
use Rattle.reg_shape.specs.Nodes.{bytes_at, pieces_at, row_at, big_in, big_at, data_by, data_at, member_of, member_at, members_at}
use Rattle.reg_shape.proofs.Walking.WalkParts.{Walks, walks-none, walks-join, walks-met}

-- ---- bytes

-- a record of which so many bytes are read
pub record IsBytes (kind : Kind) : Type 0 where
  pub met : (content : List ℕ) → kind_met kind content ≡ kind
  pub names : (size : ℕ) (content : List ℕ) → names_of kind size content ≡ enough size content

class-bytes : IsBytes Class
class-bytes = record { met = λ content. refl; names = λ size content. refl }

data-bytes : IsBytes Data
data-bytes = record { met = λ content. refl; names = λ size content. refl }

segment-bytes : IsBytes Segment
segment-bytes = record { met = λ content. refl; names = λ size content. refl }

bytes-walks : (heap : Heap) (n : Named) → IsBytes n.kind → (y : List ℕ × List Found) → bytes_at n heap ≡ Some y → Walks heap (n ∷ []) y.1
bytes-walks heap n k y e =
    let o = bind-open (cell n.kind n.offset) (λ content. guard (nat_le n.size (length content)) (give (take n.size content))) heap y e in
    let c = cell-open n.kind n.offset heap o.first o.before o.first_is in
    let g = guard-open (nat_le n.size (length o.first)) (give (take n.size o.first)) heap o.then o.then_is in
    let p : ◌≡◌ {A = List ℕ × List Found} (take n.size o.first, []) o.then = same_Some _ _ g.1 in
    let w = walks-met heap n o.first [] [] c.0 (ap (λ kind. names_of kind n.size o.first) (k.met o.first) ∙ (k.names n.size o.first ∙ ap (λ b. cond b (Some []) None) g.0)) (walks-none heap) in
    subst (λ zs. Walks heap (n ∷ []) zs)
    (ap (λ kind. record { kind = kind; offset = n.offset } ∷ []) (k.met o.first) ∙ (sym c.1 ∙ (sym (append-nil o.before) ∙ (ap (λ (p : List ℕ × List Found). o.before ++ p.1) p ∙ o.all))))
    w

each-bytes : (heap : Heap) (names : List Named) → AllByRecursion (λ (n : Named). IsBytes n.kind) names → (ys : List (List ℕ)) (zs : List Found) →
    each bytes_at names heap ≡ Some (ys, zs) → Walks heap names zs
each-bytes heap [] a ys zs e = subst (λ zs. Walks heap [] zs) (ap (λ (p : List (List ℕ) × List Found). p.1) (same_Some _ _ e)) (walks-none heap)
each-bytes heap (n ∷ names) a ys zs e =
    let o = each-open bytes_at heap n names ys zs e in
    subst (λ zs. Walks heap (n ∷ names) zs) o.all
    (walks-join heap (n ∷ []) names o.head_cells o.tail_cells (bytes-walks heap n a.0 (o.head, o.head_cells) o.head_is) (each-bytes heap names a.1 o.tail o.tail_cells o.tail_is))

-- what is met is all that the first reading met, where the second only makes something of its result
made-open : {A B : Type 0} (r : Reading A) (f : A → B) (heap : Heap) (y : B × List Found) → ◌>>=◌ r (λ x. give (f x)) heap ≡ Some y → (x : A) × (r heap ≡ Some (x, y.1))
made-open {A} {B} r f heap y e =
    let o = bind-open r (λ x. give (f x)) heap y e in
    let p : ◌≡◌ {A = B × List Found} (f o.first, []) o.then = same_Some _ _ o.then_is in
    (o.first, o.first_is ∙ ap (λ zs. Some (o.first, zs)) (sym (append-nil o.before) ∙ (ap (λ (p : B × List Found). o.before ++ p.1) p ∙ o.all)))

pub pieces-walk : (heap : Heap) (names : List Named) → AllByRecursion (λ (n : Named). IsBytes n.kind) names → (y : List ℕ × List Found) → pieces_at names heap ≡ Some y → Walks heap names y.1
pieces-walk heap names a y e =
    let o = made-open (each bytes_at names) concat heap y e in each-bytes heap names a o.0 y.1 o.1

if_any-bytes : (kind : Kind) → IsBytes kind → (size offset : ℕ) → AllByRecursion (λ (n : Named). IsBytes n.kind) (if_any kind size offset)
if_any-bytes kind k zero offset = tt
if_any-bytes kind k (suc n) offset = (k, tt)

segments-bytes : (size : ℕ) (offsets : List ℕ) → AllByRecursion (λ (n : Named). IsBytes n.kind) (segments size offsets)
segments-bytes size [] = tt
segments-bytes size (o ∷ offsets) = (segment-bytes, segments-bytes (size - segment_size) offsets)

pub class-walks : (heap : Heap) (size offset : ℕ) (y : List ℕ × List Found) → pieces_at (if_any Class size offset) heap ≡ Some y → Walks heap (if_any Class size offset) y.1
class-walks heap size offset y e = pieces-walk heap (if_any Class size offset) (if_any-bytes Class class-bytes size offset) y e

-- ---- rows of offsets

pub record IsRow (heap : Heap) (kind : Kind) (count offset : ℕ) (row : List ℕ) (zs : List Found) : Type 0 where
  pub content : List ℕ
  pub here : heap offset ≡ Some content
  pub row_is : row_in count content ≡ Some row
  pub met : zs ≡ record { kind = kind; offset = offset } ∷ []

pub row-open : (heap : Heap) (kind : Kind) (count offset : ℕ) (row : List ℕ) (zs : List Found) → row_at kind count offset heap ≡ Some (row, zs) → IsRow heap kind count offset row zs
row-open heap kind count offset row zs e =
    let o = bind-open (cell kind offset) (λ content. given (row_in count content)) heap (row, zs) e in
    let c = cell-open kind offset heap o.first o.before o.first_is in
    let g = given-open (row_in count o.first) heap o.then o.then_is in
    record {
      content = o.first;
      here = c.0;
      row_is = g.0 ∙ ap Some o.result;
      met = sym o.all ∙ (ap (λ xs. o.before ++ xs) g.1 ∙ (append-nil o.before ∙ c.1));
    }

-- ---- data

big-list : (heap : Heap) (size : ℕ) (big : BigData) (y : List ℕ × List Found) → big_in size big heap ≡ Some y → Walks heap (named BigList size big.list ∷ []) y.1
big-list heap size big y e =
    let o = bind-open (row_at BigList (segments_for size) big.list) (λ row. pieces_at (segments size row)) heap y e in
    let r = row-open heap BigList (segments_for size) big.list o.first o.before o.first_is in
    let below = pieces-walk heap (segments size o.first) (segments-bytes size o.first) o.then o.then_is in
    let w = walks-met heap (named BigList size big.list) r.content (segments size o.first) o.then.1 r.here (ap (option_map (segments size)) r.row_is) below in
    subst (λ zs. Walks heap (named BigList size big.list ∷ []) zs) (ap (λ zs. zs ++ o.then.1) (sym r.met) ∙ o.all) w

big-head : (heap : Heap) (size offset : ℕ) (y : List ℕ × List Found) → big_at size offset heap ≡ Some y → Walks heap (named BigHead size offset ∷ []) y.1
big-head heap size offset y e =
    let o = bind-open (cell BigHead offset) (λ content. given (db_of content) >>= (λ big. guard (nat_le (segments_for size) big.count) (big_in size big))) heap y e in
    let c = cell-open BigHead offset heap o.first o.before o.first_is in
    let t = bind-open (given (db_of o.first)) (λ big. guard (nat_le (segments_for size) big.count) (big_in size big)) heap o.then o.then_is in
    let d = given-open (db_of o.first) heap (t.first, t.before) t.first_is in
    let g = guard-open (nat_le (segments_for size) t.first.count) (big_in size t.first) heap t.then t.then_is in
    let below = big-list heap size t.first t.then g.1 in
    let names = ap (option_and_then (big_names size)) d.0 ∙ ap (λ b. cond b (Some (named BigList size t.first.list ∷ [])) None) g.0 in
    let w = walks-met heap (named BigHead size offset) o.first (named BigList size t.first.list ∷ []) t.then.1 c.0 names below in
    subst (λ zs. Walks heap (named BigHead size offset ∷ []) zs)
    (ap (λ zs. zs ++ t.then.1) (sym c.1) ∙ (ap (λ zs. o.before ++ zs) (ap (λ zs. zs ++ t.then.1) (sym d.1) ∙ t.all) ∙ o.all))
    w

-- a value's data is walked as what the value names
record IsNamed (heap : Heap) (value : KeyValueRecord) (zs : List Found) : Type 0 where
  names : List Named
  names_are : value_names value ≡ Some names
  walks : Walks heap names zs

data-walks : (heap : Heap) (value : KeyValueRecord) (y : List ℕ × List Found) → data_at value.fields heap ≡ Some y → IsNamed heap value y.1
data-walks heap value y e = by (is_inline value.fields.size) refl (nat_le value.fields.size segment_size) refl e
  where
    by : (inline : Bool) → is_inline value.fields.size ≡ inline → (small : Bool) → nat_le value.fields.size segment_size ≡ small →
        data_by inline small value.fields.size value.fields.offset heap ≡ Some y → IsNamed heap value y.1
    by true i small s e =
        let g = guard-open (nat_le (inline_size value.fields.size) 4) (give (take (inline_size value.fields.size) (little_bytes 4 value.fields.offset))) heap y e in
        let p : ◌≡◌ {A = List ℕ × List Found} (take (inline_size value.fields.size) (little_bytes 4 value.fields.offset), []) y = same_Some _ _ g.1 in
        record {
          names = [];
          names_are = ap (λ b. cond b (cond (nat_le (inline_size value.fields.size) 4) (Some []) None) (cond (nat_le value.fields.size segment_size)
              (Some (if_any Data value.fields.size value.fields.offset)) (Some (named BigHead value.fields.size value.fields.offset ∷ [])))) i
              ∙ ap (λ b. cond b (Some []) None) g.0;
          walks = subst (λ zs. Walks heap [] zs) (ap (λ (p : List ℕ × List Found). p.1) p) (walks-none heap);
        }
    by false i true s e = record {
      names = if_any Data value.fields.size value.fields.offset;
      names_are = ap (λ b. cond b (cond (nat_le (inline_size value.fields.size) 4) (Some []) None) (cond (nat_le value.fields.size segment_size)
          (Some (if_any Data value.fields.size value.fields.offset)) (Some (named BigHead value.fields.size value.fields.offset ∷ [])))) i
          ∙ ap (λ b. cond b (Some (if_any Data value.fields.size value.fields.offset)) (Some (named BigHead value.fields.size value.fields.offset ∷ []))) s;
      walks = pieces-walk heap (if_any Data value.fields.size value.fields.offset) (if_any-bytes Data data-bytes value.fields.size value.fields.offset) y e;
    }
    by false i false s e = record {
      names = named BigHead value.fields.size value.fields.offset ∷ [];
      names_are = ap (λ b. cond b (cond (nat_le (inline_size value.fields.size) 4) (Some []) None) (cond (nat_le value.fields.size segment_size)
          (Some (if_any Data value.fields.size value.fields.offset)) (Some (named BigHead value.fields.size value.fields.offset ∷ [])))) i
          ∙ ap (λ b. cond b (Some (if_any Data value.fields.size value.fields.offset)) (Some (named BigHead value.fields.size value.fields.offset ∷ []))) s;
      walks = big-head heap value.fields.size value.fields.offset y e;
    }

-- ---- values

pub member-walks : (heap : Heap) (offset : ℕ) (y : Member × List Found) → member_at offset heap ≡ Some y → Walks heap (plainly Value offset ∷ []) y.1
member-walks heap offset y e =
    let o = bind-open (cell Value offset) (λ content. given (result_ok (vk_of content)) >>= (λ value. data_at value.fields >>= (λ bytes. give (member_of value bytes)))) heap y e in
    let c = cell-open Value offset heap o.first o.before o.first_is in
    let t = bind-open (given (result_ok (vk_of o.first))) (λ value. data_at value.fields >>= (λ bytes. give (member_of value bytes))) heap o.then o.then_is in
    let v = given-open (result_ok (vk_of o.first)) heap (t.first, t.before) t.first_is in
    let d = made-open (data_at t.first.fields) (λ bytes. member_of t.first bytes) heap t.then t.then_is in
    let n = data-walks heap t.first (d.0, t.then.1) d.1 in
    let w = walks-met heap (plainly Value offset) o.first n.names t.then.1 c.0 (ap (option_and_then value_names) v.0 ∙ n.names_are) n.walks in
    subst (λ zs. Walks heap (plainly Value offset ∷ []) zs)
    (ap (λ zs. zs ++ t.then.1) (sym c.1) ∙ (ap (λ zs. o.before ++ zs) (ap (λ zs. zs ++ t.then.1) (sym v.1) ∙ t.all) ∙ o.all))
    w

each-member : (heap : Heap) (row : List ℕ) (y : List Member × List Found) → each member_at row heap ≡ Some y → Walks heap (map (plainly Value) row) y.1
each-member heap [] y e = subst (λ zs. Walks heap [] zs) (ap (λ (p : List Member × List Found). p.1) (same_Some _ _ e)) (walks-none heap)
each-member heap (offset ∷ row) y e =
    let o = each-open member_at heap offset row y.0 y.1 e in
    subst (λ zs. Walks heap (plainly Value offset ∷ map (plainly Value) row) zs) o.all
    (walks-join heap (plainly Value offset ∷ []) (map (plainly Value) row) o.head_cells o.tail_cells
    (member-walks heap offset (o.head, o.head_cells) o.head_is) (each-member heap row (o.tail, o.tail_cells) o.tail_is))

pub members-walks : (heap : Heap) (count offset : ℕ) (y : List Member × List Found) → members_at count offset heap ≡ Some y → Walks heap (if_any ValueList count offset) y.1
members-walks heap zero offset y e = subst (λ zs. Walks heap [] zs) (ap (λ (p : List Member × List Found). p.1) (same_Some _ _ e)) (walks-none heap)
members-walks heap (suc n) offset y e =
    let o = bind-open (row_at ValueList (suc n) offset) (λ row. each member_at row) heap y e in
    let r = row-open heap ValueList (suc n) offset o.first o.before o.first_is in
    let below = each-member heap o.first o.then o.then_is in
    let w = walks-met heap (named ValueList (suc n) offset) r.content (map (plainly Value) o.first) o.then.1 r.here (ap (option_map (map (plainly Value))) r.row_is) below in
    subst (λ zs. Walks heap (named ValueList (suc n) offset ∷ []) zs) (ap (λ zs. zs ++ o.then.1) (sym r.met) ∙ o.all) w
