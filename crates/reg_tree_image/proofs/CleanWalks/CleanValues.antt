-- A key's class and values, read without a fault.
use Rattle.std.proofs.Common.{◌≡◌, ◌≢◌, ℕ, zero, suc, ◌≤◌, ◌%◌, ◌==◌, ◌||◌, ◌&&◌, nat_le, nat_lt, not, Bool, true, false, cond, if◌then◌else◌, Some, None, Result, Ok, Err, List, [], ◌∷◌, ◌++◌}
use Rattle.std.proofs.Common.{append_assoc, length, take, bit_and, unwrap_or, ◌*◌, refl, sym, ap, ◌∙◌, subst, arith}
use Rattle.std.specs.Ordering.{is_eq}
use Rattle.std.specs.declared.cmp.Ordering.{Ordering}
use Rattle.std.specs.declared.cmp.Ordering.TheVariants.{Less, Equal, Greater}
use Rattle.std.specs.List.{AllByRecursion, list_all, list_any, concat}
use Rattle.std.specs.Option.{option_and_then}
use Rattle.std.specs.Result.{result_ok}
use Rattle.reg_records.specs.declared.RecordFault.{RecordFault}
use Rattle.std.proofs.lemmas.Bool.{false≢true, false_from_ne_true, eqb-true}
use Rattle.std.proofs.lemmas.Bool.Decides.{nat_tests}
use Rattle.std.proofs.lemmas.Option.{none-some, same_Some}
use Rattle.std.proofs.lemmas.List.{append-nil}
use Rattle.byteorder.specs.Endian.{little_bytes}
use Rattle.reg_names.specs.Names.{folded, name_cmp, is_value_name, is_value_name_byte}
use Rattle.reg_heap.specs.Heaps.{Heap}
use Rattle.reg_heap.specs.Paths.{Member}
use Rattle.reg_shape.specs.Written.{Pairwise, IsWrittenValue, AreWritten, IsWrittenSecurity}
use Rattle.reg_records.specs.RecordCells.{held}
use Rattle.reg_records.specs.KeySecurities.{sk_of, security_at}
use Rattle.reg_shape.proofs.Walking.IndexWalks.{then-open}
use Rattle.std.specs.FinMap.{slice_cmp-IsAntisymmetric, nat_cmp-IsAntisymmetric}
use Rattle.reg_heap.specs.Members.{same_name}
use Rattle.reg_heap.specs.Kinds.{Kind, Found}
use Rattle.reg_heap.specs.Kinds.Kind.{Class, ValueList, Value, Data, BigHead, BigList, Security}
use Rattle.reg_shape.specs.Readings.{◌>>=◌ as after, give as told, given as given_of, cell as cell_of, guard, each}
use Rattle.reg_shape.proofs.Walking.ReadingParts.{bind-open, guard-open, given-open, cell-open, each-open}
use Rattle.reg_records.specs.KeyValues.{KeyValueRecord, vk_of, value_record_at}
use Rattle.reg_records.specs.OffsetRows.{row_in, offsets_at}
use Rattle.reg_records.specs.BigData.{Named, named, if_any, segment_size, is_inline, inline_size, BigData, segments_for, segments, db_of}
use Rattle.reg_shape.specs.Nodes.{bytes_at, pieces_at, row_at, big_in, big_at, data_by as data_of, data_at, letters, member_of, member_at, members_at}
use Rattle.reg_shape.proofs.Walking.ReadingWalks.{row-open}
use Rattle.reg_values.proofs.ValueData.DataPieces.{data-length}
use Rattle.reg_tree_image.specs.declared.LoadFault.TheVariants.{Record, Twice, NotInProfile, Limit}
use Rattle.reg_tree_image.specs.WalkSteps.{◌>>=◌, ◌>>◌, give, check, given, cell}
use Rattle.reg_tree_image.specs.LoadingWalk.{read, value_name, bytes_from, row_from, pieces_from, class_from, big_from, far_from, data_by, named_value, value_from, values_each, values_from}
use Rattle.reg_tree_image.specs.LoadingWalk.{descriptor_from}
use Rattle.reg_tree_image.proofs.CleanWalks.CleanSteps.{Reads, reads-give, reads-bind, reads-check, reads-given, reads-read, reads-one, reads-as, reads-cell}

zero-small : nat_le 0 segment_size ≡ true
unfolding segment_size
zero-small = refl

-- ---- names that differ

equal-is : (o : Ordering) → is_eq o ≡ true → o ≡ Equal
equal-is Less e = absurd (false≢true e)
equal-is Equal e = refl
equal-is Greater e = absurd (false≢true e)

is-same : (a b : List ℕ) → same_name a b ≡ true → folded a ≡ folded b
is-same a b e = slice_cmp-IsAntisymmetric nat_cmp-IsAntisymmetric (folded a) (folded b) (equal-is (name_cmp a b) e)

not-same : (a b : List ℕ) → folded a ≢ folded b → same_name a b ≡ false
not-same a b n = false_from_ne_true (same_name a b) (λ e. n (is-same a b e))

abbrev Differ : Member → Member → Type 0
Differ a b = folded a.name ≢ folded b.name

mid : {A : Type 0} (P : A → Type 0) (xs : List A) (y : A) (ys : List A) → AllByRecursion P (xs ++ y ∷ ys) → P y
mid P [] y ys a = a.0
mid P (x ∷ xs) y ys a = mid P xs y ys a.1

none-same : (before : List Member) (m : Member) (rest : List Member) → Pairwise Differ (before ++ m ∷ rest) → not (list_any (λ (v : Member). same_name v.name m.name) before) ≡ true
none-same [] m rest p = refl
none-same (v ∷ before) m rest p = rw (not-same v.name m.name (mid (Differ v) before m rest p.0)) (none-same before m rest p.1)

name-parts : (name : List ℕ) → is_value_name name ≡ true → (list_all is_value_name_byte name ≡ true) × (nat_le (length name) 16383 ≡ true)
name-parts name e = both (list_all is_value_name_byte name) (nat_le (length name) 16383) e
  where
    both : (a b : Bool) → (a && b) ≡ true → (a ≡ true) × (b ≡ true)
    both true true e = (refl, refl)
    both true false e = absurd (false≢true e)
    both false b e = absurd (false≢true e)

test-some : {A : Type 0} (b : Bool) (x y : A) → cond b (Some x) None ≡ Some y → x ≡ y
test-some true x y e = same_Some _ _ e
test-some false x y e = absurd (none-some _ e)

pub ok-from : {R : Type 0} (r : Result R RecordFault) (x : R) → result_ok r ≡ Some x → r ≡ Ok x
ok-from (Ok y) x e = ap Ok (same_Some _ _ e)
ok-from (Err f) x e = absurd (none-some _ e)

module _ (heap : Heap) (path : List ℕ) where
  -- ---- bytes

  bytes-clean : (n : Named) (y : List ℕ × List Found) → bytes_at n heap ≡ Some y → Reads path (bytes_from heap path n) y.0 y.1
  bytes-clean n y e =
      let o = bind-open (cell_of n.kind n.offset) (λ content. guard (nat_le n.size (length content)) (told (take n.size content))) heap y e in
      let c = cell-open n.kind n.offset heap o.first o.before o.first_is in
      let g = guard-open (nat_le n.size (length o.first)) (told (take n.size o.first)) heap o.then o.then_is in
      let p : ◌≡◌ {A = List ℕ × List Found} (take n.size o.first, []) o.then = same_Some _ _ g.1 in
      let content = o.first in
      reads-as path (bytes_from heap path n) (take n.size content) y.0 (record { kind = n.kind; offset = n.offset } ∷ []) y.1
      (ap (λ (p : List ℕ × List Found). p.0) p ∙ o.result)
      (sym c.1 ∙ (sym (append-nil o.before) ∙ (ap (λ (p : List ℕ × List Found). o.before ++ p.1) p ∙ o.all)))
      (reads-bind path (cell heap path (λ _. n.kind) n.offset) (λ content. check Record (nat_le n.size (length content)) >> give (take n.size content)) content (take n.size content)
      (record { kind = n.kind; offset = n.offset } ∷ []) []
      (reads-cell heap path (λ _. n.kind) n.offset content c.0)
      (reads-check path Record (nat_le n.size (length content)) (give (take n.size content)) (take n.size content) [] g.0 (reads-give path (take n.size content))))

  pieces-clean : (names : List Named) (so_far : List ℕ) (ps : List (List ℕ)) (zs : List Found) → each bytes_at names heap ≡ Some (ps, zs) →
      Reads path (pieces_from heap path so_far names) (so_far ++ concat ps) zs
  pieces-clean [] so_far ps zs e =
      let p : ◌≡◌ {A = List (List ℕ) × List Found} ([], []) (ps, zs) = same_Some _ _ e in
      reads-as path (give so_far) so_far (so_far ++ concat ps) [] zs
      (sym (append-nil so_far) ∙ ap (λ (p : List (List ℕ) × List Found). so_far ++ concat p.0) p) (ap (λ (p : List (List ℕ) × List Found). p.1) p)
      (reads-give path so_far)
  pieces-clean (n ∷ names) so_far ps zs e =
      let o = each-open bytes_at heap n names ps zs e in
      reads-as path (pieces_from heap path so_far (n ∷ names)) ((so_far ++ o.head) ++ concat o.tail) (so_far ++ concat ps) (o.head_cells ++ o.tail_cells) zs
      (append_assoc so_far o.head (concat o.tail) ∙ ap (λ ps. so_far ++ concat ps) o.result) o.all
      (reads-bind path (bytes_from heap path n) (λ piece. pieces_from heap path (so_far ++ piece) names) o.head _ o.head_cells o.tail_cells
      (bytes-clean n (o.head, o.head_cells) o.head_is)
      (pieces-clean names (so_far ++ o.head) o.tail o.tail_cells o.tail_is))

  -- pieces joined
  joined-clean : (names : List Named) (y : List ℕ × List Found) → pieces_at names heap ≡ Some y → Reads path (pieces_from heap path [] names) y.0 y.1
  joined-clean names y e =
      let o = bind-open (each bytes_at names) (λ pieces. told (concat pieces)) heap y e in
      let p : ◌≡◌ {A = List ℕ × List Found} (concat o.first, []) o.then = same_Some _ _ o.then_is in
      reads-as path (pieces_from heap path [] names) (concat o.first) y.0 o.before y.1
      (ap (λ (p : List ℕ × List Found). p.0) p ∙ o.result)
      (sym (append-nil o.before) ∙ (ap (λ (p : List ℕ × List Found). o.before ++ p.1) p ∙ o.all))
      (pieces-clean names [] o.first o.before o.first_is)

  -- one piece is read as it is
  one-clean : (n : Named) (y : List ℕ × List Found) → pieces_at (n ∷ []) heap ≡ Some y → Reads path (bytes_from heap path n) y.0 y.1
  one-clean n y e =
      let o = bind-open (each bytes_at (n ∷ [])) (λ pieces. told (concat pieces)) heap y e in
      let p : ◌≡◌ {A = List ℕ × List Found} (concat o.first, []) o.then = same_Some _ _ o.then_is in
      let q = each-open bytes_at heap n [] o.first o.before o.first_is in
      let r : ◌≡◌ {A = List (List ℕ) × List Found} ([], []) (q.tail, q.tail_cells) = same_Some _ _ q.tail_is in
      reads-as path (bytes_from heap path n) q.head y.0 q.head_cells y.1
      (sym (append-nil q.head) ∙ (ap (λ (p : List (List ℕ) × List Found). q.head ++ concat p.0) r ∙ (ap concat q.result ∙ (ap (λ (p : List ℕ × List Found). p.0) p ∙ o.result))))
      (sym (append-nil q.head_cells) ∙ (ap (λ (p : List (List ℕ) × List Found). q.head_cells ++ p.1) r
      ∙ (q.all ∙ (sym (append-nil o.before) ∙ (ap (λ (p : List ℕ × List Found). o.before ++ p.1) p ∙ o.all)))))
      (bytes-clean n (q.head, q.head_cells) q.head_is)

  none-clean : (y : List ℕ × List Found) → pieces_at [] heap ≡ Some y → Reads path (give []) y.0 y.1
  none-clean y e = joined-clean [] y e

  pub class-clean : (size offset : ℕ) (y : List ℕ × List Found) → pieces_at (if_any Class size offset) heap ≡ Some y → Reads path (class_from heap path size offset) y.0 y.1
  class-clean zero offset y e = none-clean y e
  class-clean (suc n) offset y e = one-clean (named Class (suc n) offset) y e

  -- ---- rows

  row-clean : (kind : Kind) (count offset : ℕ) (row : List ℕ) (zs : List Found) → row_at kind count offset heap ≡ Some (row, zs) → Reads path (row_from heap path kind count offset) row zs
  row-clean kind count offset row zs e =
      let r = row-open heap kind count offset row zs e in
      reads-as path (row_from heap path kind count offset) row row (record { kind = kind; offset = offset } ∷ []) zs refl (sym r.met)
      (reads-bind path (cell heap path (λ _. kind) offset) (λ content. given Record (row_in count content)) r.content row (record { kind = kind; offset = offset } ∷ []) []
      (reads-cell heap path (λ _. kind) offset r.content r.here)
      (reads-one path Record (row_in count r.content) row r.row_is))

  -- ---- data

  big-clean : (size offset : ℕ) (y : List ℕ × List Found) → big_at size offset heap ≡ Some y → Reads path (big_from heap path size offset) y.0 y.1
  big-clean size offset y e =
      let o = bind-open (cell_of BigHead offset) (λ content. after (given_of (db_of content)) (λ big. guard (nat_le (segments_for size) big.count) (big_in size big))) heap y e in
      let c = cell-open BigHead offset heap o.first o.before o.first_is in
      let t = bind-open (given_of (db_of o.first)) (λ big. guard (nat_le (segments_for size) big.count) (big_in size big)) heap o.then o.then_is in
      let d = given-open (db_of o.first) heap (t.first, t.before) t.first_is in
      let g = guard-open (nat_le (segments_for size) t.first.count) (big_in size t.first) heap t.then t.then_is in
      let q = bind-open (row_at BigList (segments_for size) t.first.list) (λ row. pieces_at (segments size row)) heap t.then g.1 in
      let rest = λ (big : BigData). row_from heap path BigList (segments_for size) big.list >>= (λ row. pieces_from heap path [] (segments size row)) in
      reads-as path (big_from heap path size offset) q.then.0 y.0 (record { kind = BigHead; offset = offset } ∷ (q.before ++ q.then.1)) y.1
      (q.result ∙ (t.result ∙ o.result))
      (ap (λ zs. zs ++ (q.before ++ q.then.1)) (sym c.1) ∙ (ap (λ zs. o.before ++ zs) (q.all ∙ (ap (λ zs. zs ++ t.then.1) (sym d.1) ∙ t.all)) ∙ o.all))
      (reads-bind path (cell heap path (λ _. BigHead) offset) (λ content. given Record (db_of content) >>= (λ big. check Record (nat_le (segments_for size) big.count) >> rest big)) o.first q.then.0
      (record { kind = BigHead; offset = offset } ∷ []) (q.before ++ q.then.1)
      (reads-cell heap path (λ _. BigHead) offset o.first c.0)
      (reads-given path Record (db_of o.first) (λ big. check Record (nat_le (segments_for size) big.count) >> rest big) t.first q.then.0 (q.before ++ q.then.1) d.0
      (reads-check path Record (nat_le (segments_for size) t.first.count) (rest t.first) q.then.0 (q.before ++ q.then.1) g.0
      (reads-bind path (row_from heap path BigList (segments_for size) t.first.list) (λ row. pieces_from heap path [] (segments size row)) q.first q.then.0 q.before q.then.1
      (row-clean BigList (segments_for size) t.first.list q.first q.before q.first_is)
      (joined-clean (segments size q.first) q.then q.then_is)))))

  far-clean : (small : Bool) (size place : ℕ) (y : List ℕ × List Found) → nat_le size segment_size ≡ small → data_of false small size place heap ≡ Some y →
      Reads path (far_from heap path (small || false) size place) y.0 y.1
  far-clean true zero place y s e = none-clean y e
  far-clean true (suc n) place y s e = one-clean (named Data (suc n) place) y e
  far-clean false zero place y s e = absurd (false≢true (sym s ∙ zero-small))
  far-clean false (suc n) place y s e = big-clean (suc n) place y e

  data-clean : (inline : Bool) (size place : ℕ) (y : List ℕ × List Found) → (inline ≡ false → size ≤ 1048576) → data_of inline (nat_le size segment_size) size place heap ≡ Some y →
      Reads path (data_by heap 5 path inline size place) y.0 y.1
  data-clean true size place y l e =
      let g = guard-open (nat_le (inline_size size) 4) (told (take (inline_size size) (little_bytes 4 place))) heap y e in
      let p : ◌≡◌ {A = List ℕ × List Found} (take (inline_size size) (little_bytes 4 place), []) y = same_Some _ _ g.1 in
      reads-as path (data_by heap 5 path true size place) (take (inline_size size) (little_bytes 4 place)) y.0 [] y.1 (ap (λ (p : List ℕ × List Found). p.0) p)
      (ap (λ (p : List ℕ × List Found). p.1) p)
      (reads-check path Record (nat_le (inline_size size) 4) (give (take (inline_size size) (little_bytes 4 place))) _ [] g.0 (reads-give path (take (inline_size size) (little_bytes 4 place))))
  data-clean false size place y l e =
      let few : nat_le size 1048576 ≡ true = (let h = l refl in fits size h) in
      reads-check path Limit (nat_le size 1048576) (far_from heap path (nat_le size segment_size || false) size place) y.0 y.1 few
      (far-clean (nat_le size segment_size) size place y refl e)
    where
      fits : (n : ℕ) → n ≤ 1048576 → nat_le n 1048576 ≡ true
      fits n h = grind (arith, nat_tests)

  -- ---- values

  -- a value as it is written: its name is of one byte a character or empty
  record IsNamedWell (value : KeyValueRecord) : Type 0 where
    even : (not (bit_and value.fields.flags 1 == 0) || (length value.name % 2 == 0)) ≡ true

  well-by : (value : KeyValueRecord) → value.fields.flags ≡ (if length value.name == 0 then 0 else 1) → IsNamedWell value
  well-by value e = by (length value.name == 0) refl e
    where
      by : (b : Bool) → (length value.name == 0) ≡ b → value.fields.flags ≡ (if b then 0 else 1) → IsNamedWell value
      by true l f = record { even = rw f (ap (λ n. n % 2 == 0) (eqb-true _ _ l)) }
      by false l f = record { even = rw f refl }

  name-clean : (value : KeyValueRecord) → IsNamedWell value → is_value_name (letters (not (bit_and value.fields.flags 1 == 0)) value.name) ≡ true →
      Reads path (value_name value) (letters (not (bit_and value.fields.flags 1 == 0)) value.name) []
  name-clean value w n =
      let single = not (bit_and value.fields.flags 1 == 0) in
      let name = letters single value.name in
      let p = name-parts name n in
      reads-check path Record _ (check Limit (nat_le (length name) 16383) >> (check NotInProfile (list_all is_value_name_byte name) >> give name)) name [] w.even
      (reads-check path Limit (nat_le (length name) 16383) (check NotInProfile (list_all is_value_name_byte name) >> give name) name [] p.1
      (reads-check path NotInProfile (list_all is_value_name_byte name) (give name) name [] p.0
      (reads-give path name)))

  value-clean : (offset : ℕ) (before : List Member) (y : Member × List Found) → member_at offset heap ≡ Some y → IsWrittenValue heap offset → is_value_name y.0.name ≡ true →
      length y.0.bytes ≤ 1048576 → not (list_any (λ (v : Member). same_name v.name y.0.name) before) ≡ true → Reads path (value_from heap 5 path before offset) y.0 y.1
  unfolding value_record_at
  value-clean offset before y e written named-well small differs =
      let next = λ (value : KeyValueRecord). after (data_at value.fields) (λ bytes. told (member_of value bytes)) in
      let o = bind-open (cell_of Value offset) (λ content. after (given_of (result_ok (vk_of content))) next) heap y e in
      let c = cell-open Value offset heap o.first o.before o.first_is in
      let t = bind-open (given_of (result_ok (vk_of o.first))) next heap o.then o.then_is in
      let v = given-open (result_ok (vk_of o.first)) heap (t.first, t.before) t.first_is in
      let d = bind-open (data_at t.first.fields) (λ bytes. told (member_of t.first bytes)) heap t.then t.then_is in
      let value = t.first in
      let p : ◌≡◌ {A = Member × List Found} (member_of value d.first, []) d.then = same_Some _ _ d.then_is in
      let member : member_of value d.first ≡ y.0 = ap (λ (p : Member × List Found). p.0) p ∙ (d.result ∙ (t.result ∙ o.result)) in
      let same : written.value ≡ value = same_Some _ _ (sym written.reads ∙ (ap (option_and_then (λ content. result_ok (vk_of content))) c.0 ∙ v.0)) in
      let single = not (bit_and value.fields.flags 1 == 0) in
      let name = letters single value.name in
      let name_is : name ≡ y.0.name = ap (λ (m : Member). m.name) member in
      let well = well-by value (subst (λ (w : KeyValueRecord). w.fields.flags ≡ (if length w.name == 0 then 0 else 1)) same written.flags) in
      let bytes_is : d.first ≡ y.0.bytes = ap (λ (m : Member). m.bytes) member in
      let rest = λ (v : KeyValueRecord × List ℕ). check Twice (not (list_any (λ (m : Member). same_name m.name v.1) before)) >>
      (data_by heap 5 path (is_inline v.0.fields.size) v.0.fields.size v.0.fields.offset >>= (λ bytes. give (member_of v.0 bytes))) in
      let read_value = λ (value : KeyValueRecord). value_name value >>= (λ name. give (value, name)) in
      let size : is_inline value.fields.size ≡ false → value.fields.size ≤ 1048576 = λ i.
      (let l = data-length heap (is_inline value.fields.size) (nat_le value.fields.size segment_size) value.fields.size value.fields.offset d.first d.before d.first_is in
      let m : length d.first ≡ value.fields.size = l ∙ ap (λ b. cond b (inline_size value.fields.size) value.fields.size) i in
      let n : length d.first ≡ length y.0.bytes = ap length bytes_is in
      omega (arith, m, n, small)) in
      reads-as path (value_from heap 5 path before offset) (member_of value d.first) y.0 (record { kind = Value; offset = offset } ∷ ([] ++ (d.before ++ []))) y.1
      member
      (ap (λ zs. zs ++ ([] ++ (d.before ++ []))) (sym c.1) ∙ (ap (λ zs. o.before ++ zs) (ap (λ (p : Member × List Found). d.before ++ p.1) p ∙ (d.all ∙ (ap (λ zs. zs ++ t.then.1) (sym v.1) ∙ t.all)))
      ∙ o.all))
      (reads-bind path (named_value heap path offset) rest (value, name) (member_of value d.first) (record { kind = Value; offset = offset } ∷ []) (d.before ++ [])
      (reads-bind path (cell heap path (λ _. Value) offset) (λ content. read (vk_of content) >>= read_value) o.first (value, name)
      (record { kind = Value; offset = offset } ∷ []) [] (reads-cell heap path (λ _. Value) offset o.first c.0)
      (reads-read path (vk_of o.first) read_value value (value, name) [] (ok-from (vk_of o.first) value v.0)
      (reads-bind path (value_name value) (λ name. give (value, name)) name (value, name) [] []
      (name-clean value well (subst (λ n. is_value_name n ≡ true) (sym name_is) named-well)) (reads-give path (value, name)))))
      (reads-check path Twice _ (data_by heap 5 path (is_inline value.fields.size) value.fields.size value.fields.offset >>= (λ bytes. give (member_of value bytes))) (member_of value d.first)
      (d.before ++ [])
      (subst (λ n. not (list_any (λ (v : Member). same_name v.name n) before) ≡ true) (sym name_is) differs)
      (reads-bind path (data_by heap 5 path (is_inline value.fields.size) value.fields.size value.fields.offset) (λ bytes. give (member_of value bytes)) d.first (member_of value d.first) d.before []
      (data-clean (is_inline value.fields.size) value.fields.size value.fields.offset (d.first, d.before) size d.first_is)
      (reads-give path (member_of value d.first)))))

  values-each : (offsets : List ℕ) (before members : List Member) (zs : List Found) → each member_at offsets heap ≡ Some (members, zs) → AllByRecursion (IsWrittenValue heap) offsets →
      AllByRecursion (λ (m : Member). is_value_name m.name ≡ true) members → AllByRecursion (λ (m : Member). length m.bytes ≤ 1048576) members → Pairwise Differ (before ++ members) →
      Reads path (values_each heap 5 path before offsets) (before ++ members) zs
  values-each [] before members zs e w n s p =
      let q : ◌≡◌ {A = List Member × List Found} ([], []) (members, zs) = same_Some _ _ e in
      reads-as path (give before) before (before ++ members) [] zs (sym (append-nil before) ∙ ap (λ (q : List Member × List Found). before ++ q.0) q) (ap (λ (q : List Member × List Found). q.1) q)
      (reads-give path before)
  values-each (offset ∷ offsets) before members zs e w n s p =
      let o = each-open member_at heap offset offsets members zs e in
      let n' = subst (AllByRecursion (λ (m : Member). is_value_name m.name ≡ true)) (sym o.result) n in
      let s' = subst (AllByRecursion (λ (m : Member). length m.bytes ≤ 1048576)) (sym o.result) s in
      let p' : Pairwise Differ (before ++ o.head ∷ o.tail) = subst (λ ms. Pairwise Differ (before ++ ms)) (sym o.result) p in
      reads-as path (values_each heap 5 path before (offset ∷ offsets)) ((before ++ o.head ∷ []) ++ o.tail) (before ++ members) (o.head_cells ++ o.tail_cells) zs
      (append_assoc before (o.head ∷ []) o.tail ∙ ap (λ ms. before ++ ms) o.result) o.all
      (reads-bind path (value_from heap 5 path before offset) (λ member. values_each heap 5 path (before ++ member ∷ []) offsets) o.head _ o.head_cells o.tail_cells
      (value-clean offset before (o.head, o.head_cells) o.head_is w.0 n'.0 s'.0 (none-same before o.head o.tail p'))
      (values-each offsets (before ++ o.head ∷ []) o.tail o.tail_cells o.tail_is w.1 n'.1 s'.1 (subst (Pairwise Differ) (sym (append_assoc before (o.head ∷ []) o.tail)) p')))

  row-is : (count : ℕ) (content row : List ℕ) → row_in count content ≡ Some row → row ≡ offsets_at count 0 content
  unfolding row_in
  row-is count content row e = sym (test-some (nat_le (4 * count) (length content)) (offsets_at count 0 content) row e)

  pub values-clean : (count offset : ℕ) (y : List Member × List Found) → members_at count offset heap ≡ Some y → AreWritten heap count offset y.0 →
      Reads path (values_from heap 5 path count offset) y.0 y.1
  values-clean zero offset y e w =
      let q : ◌≡◌ {A = List Member × List Found} ([], []) y = same_Some _ _ e in
      reads-as path (give []) [] y.0 [] y.1 (ap (λ (q : List Member × List Found). q.0) q) (ap (λ (q : List Member × List Found). q.1) q) (reads-give path [])
  values-clean (suc n) offset y e w =
      let o = bind-open (row_at ValueList (suc n) offset) (λ row. each member_at row) heap y e in
      let r = row-open heap ValueList (suc n) offset o.first o.before o.first_is in
      let held-is : held heap offset ≡ r.content = ap (λ h. unwrap_or h []) r.here in
      let offsets : offsets_at (suc n) 0 (held heap offset) ≡ o.first = ap (λ c. offsets_at (suc n) 0 c) held-is ∙ sym (row-is (suc n) r.content o.first r.row_is) in
      let few : nat_le (suc n) 16384 ≡ true = at-most (suc n) w.few in
      let values = values-each o.first [] o.then.0 o.then.1 o.then_is (subst (AllByRecursion (IsWrittenValue heap)) offsets w.each)
      (subst (AllByRecursion (λ (m : Member). is_value_name m.name ≡ true)) (sym o.result) w.names)
      (subst (AllByRecursion (λ (m : Member). length m.bytes ≤ 1048576)) (sym o.result) w.sizes)
      (subst (Pairwise Differ) (sym o.result) w.apart) in
      reads-as path (values_from heap 5 path (suc n) offset) o.then.0 y.0 (o.before ++ o.then.1) y.1 o.result o.all
      (reads-check path Limit (nat_le (suc n) 16384) (row_from heap path ValueList (suc n) offset >>= (λ row. values_each heap 5 path [] row)) o.then.0 (o.before ++ o.then.1) few
      (reads-bind path (row_from heap path ValueList (suc n) offset) (λ row. values_each heap 5 path [] row) o.first o.then.0 o.before o.then.1
      (row-clean ValueList (suc n) offset o.first o.before o.first_is) values))
    where
      at-most : (n : ℕ) → n ≤ 16384 → nat_le n 16384 ≡ true
      at-most n h = grind (arith, nat_tests)

  -- ---- a security

  pub descriptor-clean : (offset : ℕ) (s : IsWrittenSecurity heap offset) → Reads path (descriptor_from heap path offset) s.security.descriptor (record { kind = Security; offset = offset } ∷ [])
  unfolding security_at
  descriptor-clean offset s =
      let r = then-open (λ content. result_ok (sk_of content)) (heap offset) s.security s.reads in
      let d = s.security.descriptor in
      reads-bind path (cell heap path (λ _. Security) offset) (λ content. read (sk_of content) >>= (λ security. check Record (nat_lt 0 (length security.descriptor)) >>
      (check Limit (nat_le (length security.descriptor) 65535) >> give security.descriptor))) r.0 d (record { kind = Security; offset = offset } ∷ []) []
      (reads-cell heap path (λ _. Security) offset r.0 r.1)
      (reads-read path (sk_of r.0) (λ security. check Record (nat_lt 0 (length security.descriptor)) >>
      (check Limit (nat_le (length security.descriptor) 65535) >> give security.descriptor)) s.security d [] (ok-from (sk_of r.0) s.security r.2)
      (reads-check path Record (nat_lt 0 (length d)) (check Limit (nat_le (length d) 65535) >> give d) d [] (some (length d) s.some)
      (reads-check path Limit (nat_le (length d) 65535) (give d) d [] (short (length d) s.short)
      (reads-give path d))))
    where
      some : (n : ℕ) → 1 ≤ n → nat_lt 0 n ≡ true
      some n h = grind (arith, nat_tests)

      short : (n : ℕ) → n ≤ 65535 → nat_le n 65535 ≡ true
      short n h = grind (arith, nat_tests)
