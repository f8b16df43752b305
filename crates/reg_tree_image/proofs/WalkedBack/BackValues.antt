-- A key's class, security and values, as they were named.
use Rattle.std.proofs.Common.{◌≡◌, ℕ, zero, suc, ◌%◌, ◌==◌, ◌||◌, nat_le, nat_lt, not, ◌-◌, min, Bool, true, false, cond, Option, Some, None, Result, Ok, List, [], ◌∷◌, ◌++◌, length, map, take, bit_and, refl, sym, ap, ◌∙◌, subst, arith}
use Rattle.std.specs.List.{list_all, list_any}
use Rattle.std.specs.Option.{option_map, option_and_then}
use Rattle.std.specs.Result.{result_ok}
use Rattle.std.proofs.lemmas.Bool.{false≢true}
use Rattle.std.proofs.lemmas.Bool.Decides.{nat_tests}
use Rattle.byteorder.specs.Endian.{little_bytes}
use Rattle.reg_heap.specs.Heaps.{Heap}
use Rattle.reg_heap.specs.Paths.{Member}
use Rattle.reg_heap.specs.Members.{same_name}
use Rattle.reg_heap.specs.Kinds.{Kind}
use Rattle.reg_heap.specs.Kinds.Kind.{Class, ValueList, Value, Data, BigHead, BigList, Segment, Security}
use Rattle.reg_records.specs.declared.nk.KeyFields.{KeyFields}
use Rattle.reg_records.specs.KeyValues.{KeyValueRecord, vk_of}
use Rattle.reg_records.specs.KeySecurities.{KeySecurityRecord, sk_of}
use Rattle.reg_records.specs.OffsetRows.{row_in}
use Rattle.reg_records.specs.BigData.{Named, named, plainly, if_any, BigData, segment_size, is_inline, inline_size, segments_for, segments, db_of}
use Rattle.reg_shape.specs.Nodes.{letters, member_of}
use Rattle.reg_shape.specs.Walk.{kind_met, names_of, big_names, value_names, security_names, enough}
use Rattle.reg_tree_image.specs.declared.LoadFault.TheVariants.{Record, Twice, NotInProfile, Limit}
use Rattle.reg_tree_image.specs.WalkSteps.{Seen, ◌>>=◌, ◌>>◌, give, check, given, cell, is_new}
use Rattle.reg_tree_image.specs.LoadingWalk.{read, name_in, value_name, bytes_from, row_from, pieces_from, class_from, descriptor_from, big_from, far_from, data_by, named_value, value_from, values_each, values_from, parts_from}
use Rattle.reg_tree_image.proofs.WalkedBack.BackSteps.{IsNamed, Went, bind-back, check-back, given-back, read-back, give-back, last-back, cell-back, went-none, went-join, went-met, went-on}

-- a name that is read names nothing
pub name-back : (single : Bool) (most : ℕ) (is_allowed : ℕ → Bool) (name : List ℕ) (seen : Seen) (y : List ℕ) (after : Seen) →
    name_in single most is_allowed name seen ≡ Ok (y, after) → seen ≡ after
name-back single most is_allowed name seen y after e =
    let text = letters single name in
    let a = check-back Record (single || (length name % 2 == 0)) (check Limit (nat_le (length text) most) >> (check NotInProfile (list_all is_allowed text) >> give text)) seen y after e in
    let b = check-back Limit (nat_le (length text) most) (check NotInProfile (list_all is_allowed text) >> give text) seen y after a.1 in
    let c = check-back NotInProfile (list_all is_allowed text) (give text) seen y after b.1 in
    (give-back text seen y after c.1).1

pub same-found : (a b : Seen) → a ≡ b → b.found ≡ a.found
same-found a b e = sym (ap (λ (s : Seen). s.found) e)

zero-small : nat_le 0 segment_size ≡ true
unfolding segment_size
zero-small = refl

module _ (heap : Heap) (path : List ℕ) where
  -- ---- bytes

  bytes-back : (kind : Kind) (size offset : ℕ) (seen : Seen) (y : List ℕ) (after : Seen) → ((content : List ℕ) → kind_met kind content ≡ kind) →
      ((content : List ℕ) → names_of kind size content ≡ enough size content) → bytes_from heap path (named kind size offset) seen ≡ Ok (y, after) →
      Went heap (named kind size offset ∷ []) seen after
  bytes-back kind size offset seen y after met same e =
      let o = bind-back (cell heap path (λ _. kind) offset) (λ content. check Record (nat_le size (length content)) >> give (take size content)) seen y after e in
      let c = cell-back heap path (λ _. kind) offset seen o.first o.mid o.first_is in
      let k = check-back Record (nat_le size (length o.first)) (give (take size o.first)) o.mid y after o.then_is in
      let g = give-back (take size o.first) o.mid y after k.1 in
      went-met heap (named kind size offset) o.first [] seen o.mid after
      (record { here = c.here; is_fresh = ap (λ (l : Kind). is_new l offset seen.found) (met o.first) ∙ c.is_fresh; found = c.found ∙ ap (λ (l : Kind). seen.found ++ record { kind = l; offset = offset } ∷ []) (sym (met o.first)) })
      (ap (λ (l : Kind). names_of l size o.first) (met o.first) ∙ (same o.first ∙ ap (λ (b : Bool). cond b (Some []) None) k.0))
      (went-none heap o.mid after (same-found o.mid after g.1))

  pub class-back : (size offset : ℕ) (seen : Seen) (y : List ℕ) (after : Seen) → class_from heap path size offset seen ≡ Ok (y, after) → Went heap (if_any Class size offset) seen after
  class-back zero offset seen y after e = went-none heap seen after (same-found seen after (give-back [] seen y after e).1)
  class-back (suc n) offset seen y after e = bytes-back Class (suc n) offset seen y after (λ content. refl) (λ content. refl) e

  pieces-back : (offsets : List ℕ) (size : ℕ) (so_far : List ℕ) (seen : Seen) (y : List ℕ) (after : Seen) → pieces_from heap path so_far (segments size offsets) seen ≡ Ok (y, after) →
      Went heap (segments size offsets) seen after
  pieces-back [] size so_far seen y after e = went-none heap seen after (same-found seen after (give-back so_far seen y after e).1)
  pieces-back (offset ∷ offsets) size so_far seen y after e =
      let rest = segments (size - segment_size) offsets in
      let first = named Segment (min segment_size size) offset in
      let o = bind-back (bytes_from heap path first) (λ piece. pieces_from heap path (so_far ++ piece) rest) seen y after e in
      went-join heap (first ∷ []) rest seen o.mid after
      (bytes-back Segment (min segment_size size) offset seen o.first o.mid (λ content. refl) (λ content. refl) o.first_is)
      (pieces-back offsets (size - segment_size) (so_far ++ o.first) o.mid y after o.then_is)

  -- ---- rows

  record IsRow (kind : Kind) (count offset : ℕ) (seen : Seen) (row : List ℕ) (after : Seen) : Type 0 where
    content : List ℕ
    named_so : IsNamed heap (λ _. kind) offset seen content after
    row_is : row_in count content ≡ Some row

  row-back : (kind : Kind) (count offset : ℕ) (seen : Seen) (row : List ℕ) (after : Seen) → row_from heap path kind count offset seen ≡ Ok (row, after) →
      IsRow kind count offset seen row after
  row-back kind count offset seen row after e =
      let o = bind-back (cell heap path (λ _. kind) offset) (λ content. given Record (row_in count content)) seen row after e in
      let c = cell-back heap path (λ _. kind) offset seen o.first o.mid o.first_is in
      let l = last-back Record (row_in count o.first) o.mid row after o.then_is in
      record { content = o.first; named_so = subst (λ (s : Seen). IsNamed heap (λ _. kind) offset seen o.first s) l.1 c; row_is = l.0 }

  -- ---- data

  big-back : (size offset : ℕ) (seen : Seen) (y : List ℕ) (after : Seen) → big_from heap path size offset seen ≡ Ok (y, after) → Went heap (named BigHead size offset ∷ []) seen after
  big-back size offset seen y after e =
      let pieces = λ (row : List ℕ). pieces_from heap path [] (segments size row) in
      let third = λ (big : BigData). row_from heap path BigList (segments_for size) big.list >>= pieces in
      let second = λ (big : BigData). check Record (nat_le (segments_for size) big.count) >> third big in
      let o = bind-back (cell heap path (λ _. BigHead) offset) (λ content. given Record (db_of content) >>= second) seen y after e in
      let c = cell-back heap path (λ _. BigHead) offset seen o.first o.mid o.first_is in
      let b = given-back Record (db_of o.first) second o.mid y after o.then_is in
      let big = b.0 in
      let k = check-back Record (nat_le (segments_for size) big.count) (third big) o.mid y after b.2 in
      let r = bind-back (row_from heap path BigList (segments_for size) big.list) pieces o.mid y after k.1 in
      let row = row-back BigList (segments_for size) big.list o.mid r.first r.mid r.first_is in
      let list = went-met heap (named BigList size big.list) row.content (segments size r.first) o.mid r.mid after row.named_so
      (ap (option_map (segments size)) row.row_is) (pieces-back r.first size [] r.mid y after r.then_is) in
      went-met heap (named BigHead size offset) o.first (named BigList size big.list ∷ []) seen o.mid after c
      (ap (option_and_then (big_names size)) b.1 ∙ ap (λ (t : Bool). cond t (Some (named BigList size big.list ∷ [])) None) k.0) list

  -- what a value's data is named by, in one cell or behind a big data record
  abbrev far_names : Bool → ℕ → ℕ → List Named
  far_names true size offset = if_any Data size offset
  far_names false size offset = named BigHead size offset ∷ []

  far-back : (single : Bool) (size offset : ℕ) (seen : Seen) (y : List ℕ) (after : Seen) → nat_le size segment_size ≡ single → far_from heap path single size offset seen ≡ Ok (y, after) →
      Went heap (far_names single size offset) seen after
  far-back true zero offset seen y after s e = went-none heap seen after (same-found seen after (give-back [] seen y after e).1)
  far-back true (suc n) offset seen y after s e = bytes-back Data (suc n) offset seen y after (λ content. refl) (λ content. refl) e
  far-back false zero offset seen y after s e = absurd (false≢true (sym s ∙ zero-small))
  far-back false (suc n) offset seen y after s e = big-back (suc n) offset seen y after e

module _ (heap : Heap) (minor : ℕ) (new : (minor == 3) ≡ false) (path : List ℕ) where
  -- how a value names its data, by whether it stands in the value and whether it is small
  abbrev data_names : Bool → Bool → ℕ → ℕ → Option (List Named)
  data_names true small size offset = cond (nat_le (inline_size size) 4) (Some []) None
  data_names false small size offset = Some (far_names heap path small size offset)

  data-back : (inline : Bool) (size offset : ℕ) (seen : Seen) (y : List ℕ) (after : Seen) → data_by heap minor path inline size offset seen ≡ Ok (y, after) →
      (names : List Named) × (data_names inline (nat_le size segment_size) size offset ≡ Some names) × Went heap names seen after
  data-back true size offset seen y after e =
      let bytes = take (inline_size size) (little_bytes 4 offset) in
      let k = check-back Record (nat_le (inline_size size) 4) (give bytes) seen y after e in
      ([], ap (λ (b : Bool). cond b (Some []) None) k.0, went-none heap seen after (same-found seen after (give-back bytes seen y after k.1).1))
  data-back false size offset seen y after e =
      let single = nat_le size segment_size in
      let k = check-back Limit (nat_le size 1048576) (far_from heap path (single || (minor == 3)) size offset) seen y after e in
      let one : (single || (minor == 3)) ≡ single = ap (λ (b : Bool). single || b) new ∙ or-false single in (
        far_names heap path single size offset,
        refl,
        far-back heap path single size offset seen y after refl (subst (λ (b : Bool). far_from heap path b size offset seen ≡ Ok (y, after)) one k.1),
      )
    where
      or-false : (b : Bool) → (b || false) ≡ b
      or-false true = refl
      or-false false = refl

  -- the same, as the walk says it
  names-are : (value : KeyValueRecord) → data_names (is_inline value.fields.size) (nat_le value.fields.size segment_size) value.fields.size value.fields.offset ≡ value_names value
  names-are value = by (is_inline value.fields.size) (nat_le value.fields.size segment_size)
    where
      by : (a b : Bool) → data_names a b value.fields.size value.fields.offset ≡
          cond a (cond (nat_le (inline_size value.fields.size) 4) (Some []) None) (cond b (Some (if_any Data value.fields.size value.fields.offset)) (Some (named BigHead value.fields.size value.fields.offset ∷ [])))
      by true b = refl
      by false true = refl
      by false false = refl

  -- ---- values

  value-back : (offset : ℕ) (before : List Member) (seen : Seen) (y : Member) (after : Seen) → value_from heap minor path before offset seen ≡ Ok (y, after) →
      Went heap (plainly Value offset ∷ []) seen after
  value-back offset before seen y after e =
      let bytes = λ (v : KeyValueRecord × List ℕ). data_by heap minor path (is_inline v.0.fields.size) v.0.fields.size v.0.fields.offset in
      let made = λ (v : KeyValueRecord × List ℕ) (held : List ℕ). give (member_of v.0 held) in
      let rest = λ (v : KeyValueRecord × List ℕ). check Twice (not (list_any (λ (m : Member). same_name m.name v.1) before)) >> (bytes v >>= made v) in
      let with_name = λ (value : KeyValueRecord). value_name value >>= (λ name. give (value, name)) in
      let o = bind-back (named_value heap path offset) rest seen y after e in
      let n = bind-back (cell heap path (λ _. Value) offset) (λ content. read (vk_of content) >>= with_name) seen o.first o.mid o.first_is in
      let c = cell-back heap path (λ _. Value) offset seen n.first n.mid n.first_is in
      let r = read-back (vk_of n.first) with_name n.mid o.first o.mid n.then_is in
      let value = r.0 in
      let w = bind-back (value_name value) (λ name. give (value, name)) n.mid o.first o.mid r.2 in
      let g = give-back (value, w.first) w.mid o.first o.mid w.then_is in
      let same : n.mid ≡ o.mid = name-back (not (bit_and value.fields.flags 1 == 0)) 16383 _ value.name n.mid w.first w.mid w.first_is ∙ g.1 in
      let is : value ≡ o.first.0 = ap (λ (v : KeyValueRecord × List ℕ). v.0) g.0 in
      let k = check-back Twice (not (list_any (λ (m : Member). same_name m.name o.first.1) before)) (bytes o.first >>= made o.first) o.mid y after o.then_is in
      let d = bind-back (bytes o.first) (made o.first) o.mid y after k.1 in
      let f = give-back (member_of o.first.0 d.first) d.mid y after d.then_is in
      let placed = data-back (is_inline o.first.0.fields.size) o.first.0.fields.size o.first.0.fields.offset o.mid d.first d.mid d.first_is in
      went-met heap (plainly Value offset) n.first placed.0 seen n.mid after c
      (ap (λ (x : Result KeyValueRecord _). option_and_then value_names (result_ok x)) r.1 ∙ (ap value_names is ∙ (sym (names-are o.first.0) ∙ placed.1)))
      (went-on heap placed.0 n.mid d.mid after (subst (λ (s : Seen). Went heap placed.0 s d.mid) (sym same) placed.2) (same-found d.mid after f.1))

  values-each-back : (offsets : List ℕ) (before : List Member) (seen : Seen) (y : List Member) (after : Seen) → values_each heap minor path before offsets seen ≡ Ok (y, after) →
      Went heap (map (plainly Value) offsets) seen after
  values-each-back [] before seen y after e = went-none heap seen after (same-found seen after (give-back before seen y after e).1)
  values-each-back (offset ∷ offsets) before seen y after e =
      let o = bind-back (value_from heap minor path before offset) (λ member. values_each heap minor path (before ++ member ∷ []) offsets) seen y after e in
      went-join heap (plainly Value offset ∷ []) (map (plainly Value) offsets) seen o.mid after (value-back offset before seen o.first o.mid o.first_is)
      (values-each-back offsets (before ++ o.first ∷ []) o.mid y after o.then_is)

  pub values-back : (count offset : ℕ) (seen : Seen) (y : List Member) (after : Seen) → values_from heap minor path count offset seen ≡ Ok (y, after) →
      Went heap (if_any ValueList count offset) seen after
  values-back zero offset seen y after e = went-none heap seen after (same-found seen after (give-back [] seen y after e).1)
  values-back (suc n) offset seen y after e =
      let each = λ (row : List ℕ). values_each heap minor path [] row in
      let k = check-back Limit (nat_le (suc n) 16384) (row_from heap path ValueList (suc n) offset >>= each) seen y after e in
      let o = bind-back (row_from heap path ValueList (suc n) offset) each seen y after k.1 in
      let row = row-back heap path ValueList (suc n) offset seen o.first o.mid o.first_is in
      went-met heap (named ValueList (suc n) offset) row.content (map (plainly Value) o.first) seen o.mid after row.named_so
      (ap (option_map (map (plainly Value))) row.row_is) (values-each-back o.first [] o.mid y after o.then_is)

  -- ---- a security

  pub descriptor-back : (offset : ℕ) (seen : Seen) (y : List ℕ) (after : Seen) → descriptor_from heap path offset seen ≡ Ok (y, after) → Went heap (plainly Security offset ∷ []) seen after
  descriptor-back offset seen y after e =
      let tests = λ (security : KeySecurityRecord). check Record (nat_lt 0 (length security.descriptor)) >>
      (check Limit (nat_le (length security.descriptor) 65535) >> give security.descriptor) in
      let o = bind-back (cell heap path (λ _. Security) offset) (λ content. read (sk_of content) >>= tests) seen y after e in
      let c = cell-back heap path (λ _. Security) offset seen o.first o.mid o.first_is in
      let r = read-back (sk_of o.first) tests o.mid y after o.then_is in
      let d = r.0.descriptor in
      let a = check-back Record (nat_lt 0 (length d)) (check Limit (nat_le (length d) 65535) >> give d) o.mid y after r.2 in
      let b = check-back Limit (nat_le (length d) 65535) (give d) o.mid y after a.1 in
      went-met heap (plainly Security offset) o.first [] seen o.mid after c
      (ap (λ (x : Result KeySecurityRecord _). option_and_then security_names (result_ok x)) r.1 ∙ ap (λ (t : Bool). cond t None (Some [])) (some (length d) a.0))
      (went-none heap o.mid after (same-found o.mid after (give-back d o.mid y after b.1).1))
    where
      some : (n : ℕ) → nat_lt 0 n ≡ true → (n == 0) ≡ false
      some n h = grind (arith, nat_tests)

  -- ---- a key's parts

  pub parts-back : (fields : KeyFields) (seen : Seen) (y : List ℕ × List ℕ × List Member) (after : Seen) → parts_from heap minor path fields seen ≡ Ok (y, after) →
      Went heap (if_any Class fields.class_length fields.class ++ (plainly Security fields.security ∷ if_any ValueList fields.values fields.values_list)) seen after
  parts-back fields seen y after e =
      let whole = λ (class : List ℕ) (descriptor : List ℕ) (values : List Member). give (class, descriptor, values) in
      let third = λ (class : List ℕ) (descriptor : List ℕ). values_from heap minor path fields.values fields.values_list >>= whole class descriptor in
      let second = λ (class : List ℕ). descriptor_from heap path fields.security >>= third class in
      let a = bind-back (class_from heap path fields.class_length fields.class) second seen y after e in
      let b = bind-back (descriptor_from heap path fields.security) (third a.first) a.mid y after a.then_is in
      let c = bind-back (values_from heap minor path fields.values fields.values_list) (whole a.first b.first) b.mid y after b.then_is in
      let g = give-back (a.first, b.first, c.first) c.mid y after c.then_is in
      went-join heap (if_any Class fields.class_length fields.class) (plainly Security fields.security ∷ if_any ValueList fields.values fields.values_list) seen a.mid after
      (class-back heap path fields.class_length fields.class seen a.first a.mid a.first_is)
      (went-join heap (plainly Security fields.security ∷ []) (if_any ValueList fields.values fields.values_list) a.mid b.mid after
      (descriptor-back fields.security a.mid b.first b.mid b.first_is)
      (went-on heap (if_any ValueList fields.values fields.values_list) b.mid c.mid after (values-back fields.values fields.values_list b.mid c.first c.mid c.first_is)
      (same-found c.mid after g.1)))
