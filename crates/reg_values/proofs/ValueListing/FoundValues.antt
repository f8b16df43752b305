-- Values that are read from a list.
use Rattle.std.proofs.Common.{◌≡◌, ℕ, zero, suc, ◌+◌, ◌*◌, ◌<◌, ◌≤◌, nat_le, ◌==◌, not, cond, Bool, true, false, Option, Some, None, IsSome, List, [], ◌∷◌, ◌++◌, length, drop, get_or}
use Rattle.std.proofs.Common.{slice_get, is_some, refl, sym, ap, ◌∙◌, subst, arith, unwrap_or}
use Rattle.std.specs.Prelude.{bit_and}
use Rattle.std.specs.List.{AllByRecursion}
use Rattle.std.specs.Result.{result_ok}
use Rattle.std.specs.Option.{option_map, option_and_then}
use Rattle.std.proofs.lemmas.Option.{none-some, same_Some}
use Rattle.std.proofs.lemmas.Bool.{leb-true, le-leb, false≢true, ne_eqb}
use Rattle.std.proofs.lemmas.List.{append-nil}
use Rattle.std.specs.Prelude.{Result, Ok, Err, IfOk, OnErr, ◌↔◌}
use Rattle.std.proofs.Common.{add-one}
use Rattle.std.specs.Ordering.{nat_cmp, is_eq}
use Rattle.std.specs.declared.cmp.Ordering.{Ordering}
use Rattle.std.specs.declared.cmp.Ordering.TheVariants.{Less, Equal, Greater}
use Rattle.std.proofs.lemmas.Cmp.{tied_itself}
use Rattle.std.specs.Cmp.Lexicographic.{slice_cmp, nat_list_cmp_total}
use Rattle.std.specs.FinMap.{slice_cmp-IsAntisymmetric, nat_cmp-IsAntisymmetric}
use Rattle.reg_names.specs.Names.{folded, name_cmp}
use Rattle.reg_records.specs.declared.RecordFault.{RecordFault}
use Rattle.reg_heap.specs.ByteWords.{word}
use Rattle.reg_heap.specs.Paths.{Member}
use Rattle.reg_heap.specs.Members.{same_name, index_named}
use Rattle.reg_heap.specs.Heaps.{Heap}
use Rattle.reg_heap.specs.Kinds.{Found}
use Rattle.reg_heap.specs.Kinds.Kind.{Value, ValueList}
use Rattle.reg_shape.specs.Readings.{◌>>=◌, give, given, cell, each}
use Rattle.reg_shape.proofs.Walking.ReadingParts.{bind-open, bind-made, given-open, given-made, cell-open, cell-made, each-open}
use Rattle.reg_records.specs.RecordCells.{held}
use Rattle.reg_records.specs.KeyValues.{KeyValueRecord, vk_of, value_record_at}
use Rattle.reg_records.specs.OffsetRows.{row_in, offsets_at, offset_in}
use Rattle.reg_shape.specs.Nodes.{row_at, data_at, letters, member_of, member_at, members_at}
use Rattle.reg_shape.specs.Written.{IsWrittenValue}
use Rattle.reg_shape.proofs.Walking.ReadingWalks.{row-open}
use Rattle.reg_shape.proofs.Frame.WrittenFrame.{row-is}
use Rattle.reg_records.proofs.KeyValueCodec.{value_record_at-open}
use Rattle.reg_values.specs.ValueLists.{AreValues}
use Rattle.reg_values.proofs.ValueListing.ValueListOpening.{length-offsets, members-length}

pub is-some : {A : Type 0} (o : Option A) (x : A) → o ≡ Some x → IsSome o
is-some o x e = ap is_some e

pub some-of : {A : Type 0} (o : Option A) → IsSome o → (x : A) × (o ≡ Some x)
some-of None e = absurd (false≢true e)
some-of (Some x) e = (x, refl)

pub held-is : (heap : Heap) (offset : ℕ) (content : List ℕ) → heap offset ≡ Some content → held heap offset ≡ content
held-is heap offset content e = ap (λ (o : Option (List ℕ)). unwrap_or o []) e

pub here-held : (heap : Heap) (offset : ℕ) → IsSome (heap offset) → heap offset ≡ Some (held heap offset)
here-held heap offset s = let c = some-of (heap offset) s in c.1 ∙ ap Some (sym (held-is heap offset c.0 c.1))

-- ---- rows

pub word-at : (count at : ℕ) (content : List ℕ) (index : ℕ) → index < count → get_or (offsets_at count at content) index 0 ≡ word content (at + 4 * index)
unfolding offsets_at
word-at zero at content index l = absurd (omega arith)
word-at (suc n) at content zero l = ap (word content) (omega arith)
word-at (suc n) at content (suc i) l = word-at n (at + 4) content i (omega arith) ∙ ap (word content) (omega arith)

pub offset-at : (count : ℕ) (content : List ℕ) (index : ℕ) → index < count → get_or (offsets_at count 0 content) index 0 ≡ offset_in content index
unfolding offset_in
offset-at count content index l = word-at count 0 content index l ∙ ap (word content) (omega arith)

pub row-long : (count : ℕ) (content row : List ℕ) → row_in count content ≡ Some row → 4 * count ≤ length content
unfolding row_in
row-long count content row e = by (nat_le (4 * count) (length content)) refl e
  where
    by : (b : Bool) → nat_le (4 * count) (length content) ≡ b → cond b (Some (offsets_at count 0 content)) None ≡ Some row → 4 * count ≤ length content
    by true i e = leb-true _ _ i
    by false i e = absurd (none-some _ e)

pub row-in : (count : ℕ) (content : List ℕ) → 4 * count ≤ length content → row_in count content ≡ Some (offsets_at count 0 content)
unfolding row_in
row-in count content l = ap (λ b. cond b (Some (offsets_at count 0 content)) None) (le-leb _ _ l)

-- ---- one value

-- a value in its parts
pub record IsMember (heap : Heap) (offset : ℕ) (m : Member) (zs : List Found) : Type 0 where
  pub value : KeyValueRecord
  pub cells : List Found
  pub here : IsSome (heap offset)
  pub reads : value_record_at heap offset ≡ Some value
  pub data_is : data_at value.fields heap ≡ Some (m.bytes, cells)
  pub is : m ≡ member_of value m.bytes
  pub met : zs ≡ record { kind = Value; offset = offset } ∷ cells

pub member-open : (heap : Heap) (offset : ℕ) (m : Member) (zs : List Found) → member_at offset heap ≡ Some (m, zs) → IsMember heap offset m zs
unfolding value_record_at
member-open heap offset m zs e =
    let o = bind-open (cell Value offset) (λ content. given (result_ok (vk_of content)) >>= (λ value. data_at value.fields >>= (λ bytes. give (member_of value bytes)))) heap (m, zs) e in
    let c = cell-open Value offset heap o.first o.before o.first_is in
    let t = bind-open (given (result_ok (vk_of o.first))) (λ value. data_at value.fields >>= (λ bytes. give (member_of value bytes))) heap o.then o.then_is in
    let v = given-open (result_ok (vk_of o.first)) heap (t.first, t.before) t.first_is in
    let d = bind-open (data_at t.first.fields) (λ bytes. give (member_of t.first bytes)) heap t.then t.then_is in
    let p : ◌≡◌ {A = Member × List Found} (member_of t.first d.first, []) d.then = same_Some _ _ d.then_is in
    let whole : member_of t.first d.first ≡ m = ap (λ (p : Member × List Found). p.0) p ∙ (d.result ∙ (t.result ∙ o.result)) in
    let bytes : d.first ≡ m.bytes = ap (λ (m : Member). m.bytes) whole in
    let rest : d.before ≡ t.then.1 = sym (append-nil d.before) ∙ (ap (λ (p : Member × List Found). d.before ++ p.1) p ∙ d.all) in
    let later : d.before ≡ o.then.1 = rest ∙ (ap (λ xs. xs ++ t.then.1) (sym v.1) ∙ t.all) in
    record {
      value = t.first;
      cells = d.before;
      here = is-some _ o.first c.0;
      reads = ap (option_and_then (λ content. result_ok (vk_of content))) c.0 ∙ v.0;
      data_is = d.first_is ∙ ap (λ bytes. Some (bytes, d.before)) bytes;
      is = sym whole ∙ ap (member_of t.first) bytes;
      met = sym o.all ∙ (ap (λ xs. xs ++ o.then.1) c.1 ∙ ap (λ xs. record { kind = Value; offset = offset } ∷ xs) (sym later));
    }

pub member-made : (heap : Heap) (offset : ℕ) (value : KeyValueRecord) (bytes : List ℕ) (cells : List Found) → value_record_at heap offset ≡ Some value → data_at value.fields heap ≡ Some (bytes, cells)
    → member_at offset heap ≡ Some (member_of value bytes, record { kind = Value; offset = offset } ∷ cells)
member-made heap offset value bytes cells r d =
    let o = value_record_at-open heap offset value r in
    let last : ◌>>=◌ (data_at value.fields) (λ bytes. give (member_of value bytes)) heap ≡ Some (member_of value bytes, cells ++ []) =
    bind-made (data_at value.fields) (λ bytes. give (member_of value bytes)) heap bytes cells (member_of value bytes, []) d refl in
    let then : ◌>>=◌ (given (result_ok (vk_of o.0))) (λ value. data_at value.fields >>= (λ bytes. give (member_of value bytes))) heap ≡ Some (member_of value bytes, cells ++ []) =
    bind-made (given (result_ok (vk_of o.0))) (λ value. data_at value.fields >>= (λ bytes. give (member_of value bytes))) heap value []
    (member_of value bytes, cells ++ []) (given-made (result_ok (vk_of o.0)) value heap (ap result_ok o.2)) last in
    bind-made (cell Value offset) (λ content. given (result_ok (vk_of content)) >>=
    (λ value. data_at value.fields >>= (λ bytes. give (member_of value bytes)))) heap o.0 _ (member_of value bytes, cells ++ [])
    (cell-made Value offset heap o.0 o.1) then
    ∙ ap (λ xs. Some (member_of value bytes, record { kind = Value; offset = offset } ∷ xs)) (append-nil cells)

-- the name that is told is the record's
pub name-told : (flags : ℕ) (name : List ℕ) → flags ≡ cond (length name == 0) 0 1 → letters (not (bit_and flags 1 == 0)) name ≡ name
name-told flags [] e = by (not (bit_and flags 1 == 0))
  where
    by : (b : Bool) → letters b [] ≡ []
    by true = refl
    by false = refl
name-told flags (x ∷ xs) e =
    let one : flags ≡ 1 = e ∙ ap (λ b. cond b 0 1) (ne_eqb (length (x ∷ xs)) 0 (λ z. omega arith)) in
    ap (λ f. letters (not (bit_and f 1 == 0)) (x ∷ xs)) one

-- ---- a value at its index

pub record At (heap : Heap) (row : List ℕ) (members : List Member) (index : ℕ) : Type 0 where
  pub member : Member
  pub cells : List Found
  pub reads : member_at (get_or row index 0) heap ≡ Some (member, cells)
  pub at : slice_get members index ≡ Some member
  pub rest : drop index members ≡ member ∷ drop (suc index) members

pub each-at : (heap : Heap) (row : List ℕ) (members : List Member) (zs : List Found) (index : ℕ) → each member_at row heap ≡ Some (members, zs) → index < length row → At heap row members index
each-at heap [] members zs index e l = absurd (omega arith)
each-at heap (o ∷ row) members zs zero e l =
    let p = each-open member_at heap o row members zs e in
    subst (λ ms. At heap (o ∷ row) ms 0) p.result (record { member = p.head; cells = p.head_cells; reads = p.head_is; at = refl; rest = refl })
each-at heap (o ∷ row) members zs (suc i) e l =
    let p = each-open member_at heap o row members zs e in
    let k = each-at heap row p.tail p.tail_cells i p.tail_is (omega arith) in
    subst (λ ms. At heap (o ∷ row) ms (suc i)) p.result (record { member = k.member; cells = k.cells; reads = k.reads; at = k.at; rest = k.rest })

pub all-at : (P : ℕ → Type 0) (row : List ℕ) (index : ℕ) → AllByRecursion P row → index < length row → P (get_or row index 0)
all-at P [] index a l = absurd (omega arith)
all-at P (o ∷ row) zero a l = a.0
all-at P (o ∷ row) (suc i) a l = all-at P row i a.1 (omega arith)

-- what a loop over a list knows of the value at an index
pub record Stands (heap : Heap) (offset : ℕ) (members : List Member) (index : ℕ) : Type 0 where
  pub list_here : IsSome (heap offset)
  pub long : 4 * index + 4 ≤ length (held heap offset)
  pub member : Member
  pub cells : List Found
  pub reads : member_at (offset_in (held heap offset) index) heap ≡ Some (member, cells)
  pub written : IsWrittenValue heap (offset_in (held heap offset) index)
  pub at : slice_get members index ≡ Some member
  pub rest : drop index members ≡ member ∷ drop (suc index) members

pub stands : (heap : Heap) (count list_offset : ℕ) (members : List Member) (met : List Found) (index : ℕ) →
    members_at count list_offset heap ≡ Some (members, met) → AllByRecursion (IsWrittenValue heap) (offsets_at count 0 (held heap list_offset)) → index < count →
    Stands heap list_offset members index
stands heap zero list_offset members met index e w l = absurd (omega arith)
stands heap (suc n) list_offset members met index e w l =
    let o = bind-open (row_at ValueList (suc n) list_offset) (λ row. each member_at row) heap (members, met) e in
    let r = row-open heap ValueList (suc n) list_offset o.first o.before o.first_is in
    let h : held heap list_offset ≡ r.content = held-is heap list_offset r.content r.here in
    let row : offsets_at (suc n) 0 (held heap list_offset) ≡ o.first = ap (offsets_at (suc n) 0) h ∙ row-is (suc n) r.content o.first r.row_is in
    let many : length o.first ≡ suc n = ap length (sym row) ∙ length-offsets (suc n) 0 (held heap list_offset) in
    let a = each-at heap o.first o.then.0 o.then.1 index o.then_is (omega (arith, many)) in
    let offset : get_or o.first index 0 ≡ offset_in (held heap list_offset) index = ap (λ row. get_or row index 0) (sym row) ∙ offset-at (suc n) (held heap list_offset) index l in
    let long = row-long (suc n) r.content o.first r.row_is in
    let size = ap length h in
    record {
      list_here = is-some _ r.content r.here;
      long = omega (arith, long, size);
      member = a.member;
      cells = a.cells;
      reads = ap (λ o. member_at o heap) (sym offset) ∙ a.reads;
      written = subst (IsWrittenValue heap) offset (all-at (IsWrittenValue heap) o.first index (subst (AllByRecursion (IsWrittenValue heap)) row w) (omega (arith, many)));
      at = ap (λ ms. slice_get ms index) (sym o.result) ∙ a.at;
      rest = ap (drop index) (sym o.result) ∙ (a.rest ∙ ap (λ ms. a.member ∷ drop (suc index) ms) o.result);
    }

-- a list of values reads as one list of members
pub same-read : (heap : Heap) (count offset : ℕ) (values : AreValues heap count offset) (members : List Member) (met : List Found) →
    members_at count offset heap ≡ Some (members, met) → (values.members ≡ members) × (values.met ≡ met)
same-read heap count offset values members met e =
    let p : ◌≡◌ {A = List Member × List Found} (values.members, values.met) (members, met) = same_Some _ _ (sym values.reads ∙ e) in
    (ap (λ (p : List Member × List Found). p.0) p, ap (λ (p : List Member × List Found). p.1) p)

-- ---- a record, read

pub no-fault : (heap : Heap) (offset : ℕ) (content : List ℕ) (fault : RecordFault) → heap offset ≡ Some content → vk_of content ≡ Err fault → IsSome (value_record_at heap offset) → ⊥
no-fault heap offset content fault e f s =
    let r = some-of (value_record_at heap offset) s in
    let o = value_record_at-open heap offset r.0 r.1 in
    let same : o.0 ≡ content = same_Some _ _ (sym o.1 ∙ e) in
    let ok : vk_of content ≡ Ok r.0 = ap vk_of (sym same) ∙ o.2 in
    cc

pub record-there : (heap : Heap) (offset : ℕ) → IsSome (value_record_at heap offset) → IsSome (heap offset)
record-there heap offset s =
    let r = some-of (value_record_at heap offset) s in
    let o = value_record_at-open heap offset r.0 r.1 in
    is-some _ o.0 o.1

-- the record that is read in a content
pub record-is : (heap : Heap) (offset : ℕ) (content : List ℕ) (r : KeyValueRecord) → heap offset ≡ Some content → value_record_at heap offset ≡ Some r → vk_of content ≡ Ok r
record-is heap offset content r e reads =
    let o = value_record_at-open heap offset r reads in
    let same : o.0 ≡ content = same_Some _ _ (sym o.1 ∙ e) in
    ap vk_of (sym same) ∙ o.2

pub record-reads : (heap : Heap) (offset : ℕ) (content : List ℕ) → heap offset ≡ Some content → IsSome (value_record_at heap offset) → (r : KeyValueRecord) × (vk_of content ≡ Ok r)
record-reads heap offset content e s = let r = some-of (value_record_at heap offset) s in (r.0, record-is heap offset content r.0 e r.1)

-- ---- the search for a name

pub add-to : ℕ → Option ℕ → Option ℕ
add-to i None = None
add-to i (Some k) = Some (i + k)

add-suc : (i : ℕ) (p : Option ℕ) → add-to i (option_map suc p) ≡ add-to (i + 1) p
unfolding add-to
add-suc i None = refl
add-suc i (Some k) = ap (λ n. Some n) (omega arith)

pub add-none : (p : Option ℕ) → add-to 0 p ≡ p
unfolding add-to
add-none None = refl
add-none (Some k) = ap (λ n. Some n) (omega arith)

-- so many values are passed
pub passed : (name : List ℕ) (members : List Member) (i : ℕ) (m : Member) → drop i members ≡ m ∷ drop (suc i) members →
    same_name m.name name ≡ false → add-to i (index_named name (drop i members)) ≡ add-to (i + 1) (index_named name (drop (i + 1) members))
passed name members i m e s =
    ap (λ ms. add-to i (index_named name ms)) e
    ∙ (ap (λ b. add-to i (cond b (Some 0) (option_map suc (index_named name (drop (suc i) members))))) s
    ∙ (add-suc i (index_named name (drop (suc i) members)) ∙ ap (λ n. add-to (i + 1) (index_named name (drop n members))) (sym (add-one i))))

pub met-here : (name : List ℕ) (members : List Member) (i : ℕ) (m : Member) → drop i members ≡ m ∷ drop (suc i) members →
    same_name m.name name ≡ true → add-to i (index_named name (drop i members)) ≡ Some i
unfolding add-to
met-here name members i m e s =
    ap (λ ms. add-to i (index_named name ms)) e
    ∙ (ap (λ b. add-to i (cond b (Some 0) (option_map suc (index_named name (drop (suc i) members))))) s ∙ ap (λ n. Some n) (omega arith))

pub none-left : (name : List ℕ) (members : List Member) (i : ℕ) → length members ≤ i → add-to i (index_named name (drop i members)) ≡ None
unfolding add-to
none-left name members i l = ap (λ ms. add-to i (index_named name ms)) (drop-past members i l)
  where
    drop-past : (xs : List Member) (i : ℕ) → length xs ≤ i → drop i xs ≡ []
    drop-past [] zero l = refl
    drop-past [] (suc i) l = refl
    drop-past (x ∷ xs) zero l = absurd (omega arith)
    drop-past (x ∷ xs) (suc i) l = drop-past xs i (omega arith)

-- names that fold alike are the same name, and others not
pub same-is : (a b : List ℕ) (r : Bool) → ((r ≡ true) ↔ (folded a ≡ folded b)) → same_name a b ≡ r
same-is a b r f = by (name_cmp a b) refl r f
  where
    by : (o : Ordering) → name_cmp a b ≡ o → (r : Bool) → ((r ≡ true) ↔ (folded a ≡ folded b)) → is_eq o ≡ r
    by o e true f = ap is_eq (sym e) ∙ ap (λ n. is_eq (slice_cmp nat_cmp n (folded b))) (f.0 refl) ∙ ap is_eq (tied_itself nat_list_cmp_total (folded b))
    by Less e false f = refl
    by Greater e false f = refl
    by Equal e false f = absurd (false≢true (f.1 (slice_cmp-IsAntisymmetric nat_cmp-IsAntisymmetric (folded a) (folded b) e)))

-- an offset that is read from a list's content is that of its row
pub offset-of : (heap : Heap) (list count index : ℕ) (content : List ℕ) (offset : ℕ) → heap list ≡ Some content → index < count →
    offset ≡ offset_in content index → offset ≡ get_or (offsets_at count 0 (held heap list)) index 0
offset-of heap list count index content offset e l o = o ∙ (ap (λ c. offset_in c index) (sym (held-is heap list content e)) ∙ sym (offset-at count (held heap list) index l))

pub is-ok : {A E : Type 0} (P Q : A → Type 0) (r : Result A E) → ((x : A) → P x → Q x) → IfOk r P → IfOk r Q
is-ok P Q (Ok x) f p = f x p
is-ok P Q (Err e) f p = p

pub on-err : {A E : Type 0} (P Q : Type 0) (r : Result A E) → (P → Q) → OnErr r P → OnErr r Q
on-err P Q (Ok x) f p = p
on-err P Q (Err e) f p = f p

pub only-err : {A E : Type 0} (Q : Type 0) (r : Result A E) → Q → OnErr r Q
only-err Q (Ok x) q = tt
only-err Q (Err e) q = q

-- ---- a value of a name

pub offset-within : (name : List ℕ) (members : List Member) (index : ℕ) → index_named name members ≡ Some index → index < length members
offset-within name [] index e = absurd (none-some _ e)
offset-within name (m ∷ ms) index e = by (λ i q. offset-within name ms i q) (same_name m.name name) e
  where
    later : ((i : ℕ) → index_named name ms ≡ Some i → i < length ms) → (p : Option ℕ) → index_named name ms ≡ p → option_map suc p ≡ Some index → index < length (m ∷ ms)
    later f None q e = absurd (none-some _ e)
    later f (Some i) q e = let w = f i q in let n = same_Some _ _ e in omega (arith, w, n)

    by : ((i : ℕ) → index_named name ms ≡ Some i → i < length ms) → (b : Bool) → cond b (Some 0) (option_map suc (index_named name ms)) ≡ Some index → index < length (m ∷ ms)
    by f true e = let n = same_Some _ _ e in omega (arith, n)
    by f false e = later f (index_named name ms) refl e

pub named-stands : (heap : Heap) (count offset : ℕ) (values : AreValues heap count offset) (name : List ℕ) (index : ℕ) →
    Some index ≡ index_named name values.members → Stands heap offset values.members index
named-stands heap count offset values name index e =
    let w = offset-within name values.members index (sym e) in
    let n = members-length heap count offset values.members values.met values.reads in
    stands heap count offset values.members values.met index values.reads values.written.each (omega (arith, w, n))

pub list-there : (heap : Heap) (count offset : ℕ) → AreValues heap count offset → 0 < count → IsSome (heap offset)
list-there heap count offset values l = (stands heap count offset values.members values.met 0 values.reads values.written.each l).list_here

-- no values, no index
pub no-index : (name : List ℕ) (members : List Member) → length members ≡ 0 → None ≡ index_named name members
no-index name [] e = refl
no-index name (v ∷ vs) e = absurd (omega (arith, e))
