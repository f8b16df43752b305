-- A change outside a key's own cells keeps it as it is written.
use Rattle.std.proofs.Common.{◌≡◌, ℕ, zero, suc, ◌*◌, Bool, true, false, cond, nat_le, Option, Some, None, List, [], ◌∷◌, length, sym, ap, ◌∙◌, subst, arith}
use Rattle.std.specs.Prelude.{unwrap_or}
use Rattle.std.specs.List.{AllByRecursion}
use Rattle.std.specs.Option.{option_and_then}
use Rattle.std.specs.Result.{result_ok}
use Rattle.std.proofs.lemmas.Option.{none-some, same_Some}
use Rattle.std.proofs.lemmas.Bool.{false≢true}
use Rattle.std.proofs.lemmas.Bool.Decides.{nat_tests}
use Rattle.reg_heap.specs.Paths.{Member}
use Rattle.reg_heap.specs.Heaps.{Heap}
use Rattle.reg_heap.specs.Kinds.{Found}
use Rattle.reg_heap.specs.Kinds.Kind.{ValueList, Value, BigHead}
use Rattle.reg_shape.specs.Readings.{◌>>=◌, give, given, cell, guard, each}
use Rattle.reg_shape.proofs.Walking.ReadingParts.{bind-open, given-open, cell-open, each-open}
use Rattle.reg_records.specs.declared.vk.ValueFields.{ValueFields}
use Rattle.reg_records.specs.RecordCells.{held}
use Rattle.reg_records.specs.KeyNodes.{IsPlainKey}
use Rattle.reg_records.specs.KeyValues.{KeyValueRecord, vk_of, value_record_at, IsPlainValue}
use Rattle.reg_records.specs.OffsetRows.{row_in, offsets_at}
use Rattle.reg_records.specs.BigData.{segment_size, is_inline, segments_for, db_of}
use Rattle.reg_shape.specs.Nodes.{Node, row_at, big_in, data_by, data_at, member_of, member_at, members_at}
use Rattle.reg_shape.specs.Written.{IsWrittenData, IsWrittenValue, AreWritten}
use Rattle.reg_shape.specs.Internal.Shapes.{cells_of, IsSeen}
use Rattle.reg_shape.proofs.Walking.InnerReadings.{members-inner}
use Rattle.reg_shape.proofs.Walking.ReadingWalks.{row-open}
use Rattle.reg_shape.proofs.Walking.WalkRefinement.{look-open}
use Rattle.reg_shape.proofs.Frame.ReadingFrame.{Agree, all-front, all-back}
use Rattle.reg_shape.proofs.Frame.KeyFrame.{Keeps, agree-inner, parts, look-local}

pub same-held : (h k : Heap) (o : ℕ) → k o ≡ h o → held k o ≡ held h o
same-held h k o e = ap (λ (c : Option (List ℕ)). unwrap_or c []) e

-- ---- one value

-- the big data record of data that is in no single cell is among what is met
big-met : (h k : Heap) (size offset : ℕ) (inline small : Bool) → inline ≡ false → small ≡ false → (y : List ℕ × List Found) →
    data_by inline small size offset h ≡ Some y → Agree h k y.1 → k offset ≡ h offset
big-met h k size offset true small i s y e a = absurd (false≢true (sym i))
big-met h k size offset false true i s y e a = absurd (false≢true (sym s))
big-met h k size offset false false i s y e a =
    let o = bind-open (cell BigHead offset) (λ content. given (db_of content) >>= (λ big. guard (nat_le (segments_for size) big.count) (big_in size big))) h y e in
    let c = cell-open BigHead offset h o.first o.before o.first_is in
    (subst (Agree h k) c.1 (all-front (λ (f : Found). k f.offset ≡ h f.offset) o.before o.then.1 (subst (Agree h k) (sym o.all) a))).0

pub data-kept : (h k : Heap) (v : ValueFields) (y : List ℕ × List Found) → data_at v h ≡ Some y → Agree h k y.1 → IsWrittenData h v → IsWrittenData k v
data-kept h k v y e a w = record {
  inline = w.inline;
  far = w.far;
  big = λ i l. (
      let same = big-met h k v.size v.offset (is_inline v.size) (nat_le v.size segment_size) i (grind (arith, nat_tests)) y e a in
      let b = w.big i l in
      (b.0, ap db_of (same-held h k v.offset same) ∙ b.1, b.2));
}

pub value-kept : (h k : Heap) (offset : ℕ) (y : Member × List Found) → member_at offset h ≡ Some y → Agree h k y.1 → IsWrittenValue h offset → IsWrittenValue k offset
unfolding value_record_at
value-kept h k offset y e a w =
    let o = bind-open (cell Value offset) (λ content. given (result_ok (vk_of content)) >>= (λ value. data_at value.fields >>= (λ bytes. give (member_of value bytes)))) h y e in
    let c = cell-open Value offset h o.first o.before o.first_is in
    let t = bind-open (given (result_ok (vk_of o.first))) (λ value. data_at value.fields >>= (λ bytes. give (member_of value bytes))) h o.then o.then_is in
    let v = given-open (result_ok (vk_of o.first)) h (t.first, t.before) t.first_is in
    let d = bind-open (data_at t.first.fields) (λ bytes. give (member_of t.first bytes)) h t.then t.then_is in
    let b = subst (Agree h k) (sym o.all) a in
    let front = all-front (λ (f : Found). k f.offset ≡ h f.offset) o.before o.then.1 b in
    let back = all-back (λ (f : Found). k f.offset ≡ h f.offset) o.before o.then.1 b in
    let then = all-back (λ (f : Found). k f.offset ≡ h f.offset) t.before t.then.1 (subst (Agree h k) (sym t.all) back) in
    let cells = all-front (λ (f : Found). k f.offset ≡ h f.offset) d.before d.then.1 (subst (Agree h k) (sym d.all) then) in
    let same : k offset ≡ h offset = (subst (Agree h k) c.1 front).0 in
    let reads : option_and_then (λ content. result_ok (vk_of content)) (h offset) ≡ Some t.first = ap (option_and_then (λ content. result_ok (vk_of content))) c.0 ∙ v.0 in
    let value : t.first ≡ w.value = same_Some _ _ (sym reads ∙ w.reads) in
    record {
      value = w.value;
      reads = ap (option_and_then (λ content. result_ok (vk_of content))) same ∙ w.reads;
      plain = subst IsPlainValue (sym (same-held h k offset same)) w.plain;
      flags = w.flags;
      data_is = data-kept h k w.value.fields (d.first, d.before) (ap (λ (r : KeyValueRecord). data_at r.fields h) (sym value) ∙ d.first_is) cells w.data_is;
    }

-- ---- all values

pub each-kept : (h k : Heap) (row : List ℕ) (y : List Member × List Found) → each member_at row h ≡ Some y → Agree h k y.1 →
    AllByRecursion (IsWrittenValue h) row → AllByRecursion (IsWrittenValue k) row
each-kept h k [] y e a w = tt
each-kept h k (offset ∷ row) y e a w =
    let o = each-open member_at h offset row y.0 y.1 e in
    let b = subst (Agree h k) (sym o.all) a in (
      value-kept h k offset (o.head, o.head_cells) o.head_is (all-front (λ (f : Found). k f.offset ≡ h f.offset) o.head_cells o.tail_cells b) w.0,
      each-kept h k row (o.tail, o.tail_cells) o.tail_is (all-back (λ (f : Found). k f.offset ≡ h f.offset) o.head_cells o.tail_cells b) w.1,
    )

pub row-is : (count : ℕ) (content row : List ℕ) → row_in count content ≡ Some row → offsets_at count 0 content ≡ row
unfolding row_in
row-is count content row e = by (nat_le (4 * count) (length content)) e
  where
    by : (b : Bool) → cond b (Some (offsets_at count 0 content)) None ≡ Some row → offsets_at count 0 content ≡ row
    by true e = same_Some _ _ e
    by false e = absurd (none-some _ e)

values-kept : (h k : Heap) (count list : ℕ) (y : List Member × List Found) → members_at count list h ≡ Some y → Agree h k y.1 →
    AllByRecursion (IsWrittenValue h) (offsets_at count 0 (held h list)) → AllByRecursion (IsWrittenValue k) (offsets_at count 0 (held k list))
unfolding offsets_at
values-kept h k zero list y e a w = tt
values-kept h k (suc n) list y e a w =
    let o = bind-open (row_at ValueList (suc n) list) (λ row. each member_at row) h y e in
    let r = row-open h ValueList (suc n) list o.first o.before o.first_is in
    let b = subst (Agree h k) (sym o.all) a in
    let front = all-front (λ (f : Found). k f.offset ≡ h f.offset) o.before o.then.1 b in
    let back = all-back (λ (f : Found). k f.offset ≡ h f.offset) o.before o.then.1 b in
    let same : k list ≡ h list = (subst (Agree h k) r.met front).0 in
    let content : held h list ≡ r.content = ap (λ (c : Option (List ℕ)). unwrap_or c []) r.here in
    let row : offsets_at (suc n) 0 (held h list) ≡ o.first = ap (offsets_at (suc n) 0) content ∙ row-is (suc n) r.content o.first r.row_is in
    subst (λ c. AllByRecursion (IsWrittenValue k) (offsets_at (suc n) 0 c)) (sym (same-held h k list same))
    (subst (AllByRecursion (IsWrittenValue k)) (sym row) (each-kept h k o.first o.then o.then_is back (subst (AllByRecursion (IsWrittenValue h)) row w)))

pub list-kept : (h k : Heap) (count list : ℕ) (members : List Member) (zs : List Found) → members_at count list h ≡ Some (members, zs) →
    Agree h k zs → AreWritten h count list members → AreWritten k count list members
list-kept h k count list members zs e a w =
    record { few = w.few; none = w.none; each = values-kept h k count list (members, zs) e a w.each; names = w.names; apart = w.apart; sizes = w.sizes }

-- ---- a key

pub seen-kept : (h k : Heap) (root offset : ℕ) (node : Node) → IsSeen h root offset node → Keeps h k (cells_of node) → IsSeen k root offset node
seen-kept h k root offset node w s =
    let l = look-open h offset node w.reads in
    let p = parts h k offset node l s in
    let key = node.key in
    let i = w.written in
    let v = i.values in
    let cells = agree-inner h k l.value_cells (members-inner h key.fields.values key.fields.values_list (node.values, l.value_cells) l.values_are) p.values_same in
    record {
      reads = look-local h k offset node w.reads s;
      written = record {
        plain = subst IsPlainKey (sym (same-held h k offset p.here)) i.plain;
        flags = i.flags;
        name = i.name;
        parent = i.parent;
        class = i.class;
        values = record {
          list = list-kept h k key.fields.values key.fields.values_list node.values l.value_cells l.values_are cells v.list;
          longest_name = v.longest_name;
          largest = v.largest;
        };
        subkeys = i.subkeys;
        few = i.few;
        none = i.none;
        upper = i.upper;
        index = i.index;
      };
    }
