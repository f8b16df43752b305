-- What the steps that met no fault read of a key's class, security and values.
use Rattle.std.proofs.Common.{◌≡◌, ◌≢◌, ℕ, zero, suc, ◌≤◌, ◌%◌, ◌==◌, ◌&&◌, ◌||◌, nat_le, nat_lt, not, Bool, true, false, Option, Some, Result, Ok, List, [], ◌∷◌, ◌++◌, append_assoc, length, take, bit_and}
use Rattle.std.proofs.Common.{refl, sym, ap, ◌∙◌, subst, arith}
use Rattle.std.specs.Prelude.{IsSome, is_some}
use Rattle.std.specs.List.{AllByRecursion, list_all, list_any, concat}
use Rattle.std.specs.Option.{option_and_then}
use Rattle.std.specs.Result.{result_ok}
use Rattle.std.proofs.lemmas.Bool.{false≢true, leb-true}
use Rattle.std.proofs.lemmas.List.{append-nil}
use Rattle.byteorder.specs.Endian.{little_bytes}
use Rattle.reg_names.specs.Names.{folded, is_value_name, is_value_name_byte}
use Rattle.reg_names.proofs.NameOrders.{eq_from_same}
use Rattle.reg_heap.specs.declared.limits.TheConstants.{DATA_LIMIT, VALUES_LIMIT}
use Rattle.reg_heap.specs.Heaps.{Heap}
use Rattle.reg_heap.specs.Paths.{Member}
use Rattle.reg_heap.specs.Members.{same_name}
use Rattle.reg_heap.specs.Kinds.{Kind}
use Rattle.reg_heap.specs.Kinds.Kind.{Class, ValueList, Value, Data, BigHead, BigList, Security}
use Rattle.reg_records.specs.declared.nk.KeyFields.{KeyFields}
use Rattle.reg_records.specs.KeyValues.{KeyValueRecord, vk_of}
use Rattle.reg_records.specs.KeySecurities.{KeySecurityRecord, sk_of, security_at}
use Rattle.reg_records.specs.OffsetRows.{row_in}
use Rattle.reg_records.specs.BigData.{Named, named, if_any, BigData, segment_size, is_inline, inline_size, segments_for, segments, db_of}
use Rattle.reg_shape.specs.Readings.{give as told, each}
use Rattle.reg_shape.specs.Nodes.{bytes_at, pieces_at, row_at, big_at, data_by as data_of, letters, member_of, member_at, members_at}
use Rattle.reg_shape.specs.Written.{Pairwise}
use Rattle.reg_values.proofs.ValueData.DataPieces.{data-length}
use Rattle.reg_tree_image.specs.declared.LoadFault.TheVariants.{Record, Twice, NotInProfile, Limit}
use Rattle.reg_tree_image.specs.WalkSteps.{Seen, ◌>>=◌, ◌>>◌, give, check, given, cell}
use Rattle.reg_tree_image.specs.LoadingWalk.{read, name_in, value_name, bytes_from, row_from, pieces_from, class_from, descriptor_from, big_from, far_from, data_by, named_value, value_from, values_each, values_from, parts_from}
use Rattle.reg_tree_image.proofs.WalkedBack.BackSteps.{bind-back, check-back, given-back, read-back, give-back, last-back, cell-back, all-both}
use Rattle.reg_tree_image.proofs.WalkedBack.ReadKeysReadings.{Reads, reads-give, reads-guard, reads-as, reads-cons, bytes-made, pieces-made, row-made, big-made, member-made, members-made}

-- ---- names

-- a name's characters, with what was tested of them
pub record IsName (single : Bool) (most : ℕ) (is_allowed : ℕ → Bool) (name text : List ℕ) : Type 0 where
  pub is : letters single name ≡ text
  pub short : nat_le (length text) most ≡ true
  pub allowed : list_all is_allowed text ≡ true

pub name-read : (single : Bool) (most : ℕ) (is_allowed : ℕ → Bool) (name : List ℕ) (seen : Seen) (y : List ℕ) (after : Seen) →
    name_in single most is_allowed name seen ≡ Ok (y, after) → IsName single most is_allowed name y
name-read single most is_allowed name seen y after e =
    let text = letters single name in
    let a = check-back Record (single || (length name % 2 == 0)) (check Limit (nat_le (length text) most) >> (check NotInProfile (list_all is_allowed text) >> give text)) seen y after e in
    let b = check-back Limit (nat_le (length text) most) (check NotInProfile (list_all is_allowed text) >> give text) seen y after a.1 in
    let c = check-back NotInProfile (list_all is_allowed text) (give text) seen y after b.1 in
    let g = give-back text seen y after c.1 in
    record { is = g.0; short = subst (λ (t : List ℕ). nat_le (length t) most ≡ true) g.0 b.0; allowed = subst (λ (t : List ℕ). list_all is_allowed t ≡ true) g.0 c.0 }

abbrev pub Differ : Member → Member → Type 0
Differ a b = folded a.name ≢ folded b.name

-- a name that none before has, after folding
none-before : (before : List Member) (m : Member) → not (list_any (λ (b : Member). same_name b.name m.name) before) ≡ true → AllByRecursion (λ (b : Member). Differ b m) before
none-before [] m e = tt
none-before (b ∷ before) m e = by (none-before before m) (same_name b.name m.name) refl e
  where
    by : (not (list_any (λ (c : Member). same_name c.name m.name) before) ≡ true → AllByRecursion (λ (c : Member). Differ c m) before) → (t : Bool) → same_name b.name m.name ≡ t →
        not (t || list_any (λ (c : Member). same_name c.name m.name) before) ≡ true → AllByRecursion (λ (c : Member). Differ c m) (b ∷ before)
    by later true s n = absurd (false≢true n)
    by later false s n = ((λ same. false≢true (sym s ∙ eq_from_same (folded b.name) (folded m.name) same)), later n)

-- one more, which differs from all before it
differ-more : (xs : List Member) (x : Member) → Pairwise Differ xs → AllByRecursion (λ (y : Member). Differ y x) xs → Pairwise Differ (xs ++ x ∷ [])
differ-more [] x p a = (tt, tt)
differ-more (y ∷ xs) x p a = (all-both (Differ y) xs (x ∷ []) p.0 (a.0, tt), differ-more xs x p.1 a.1)

module _ (heap : Heap) (path : List ℕ) where
  -- ---- bytes

  bytes-read : (n : Named) (seen : Seen) (y : List ℕ) (after : Seen) → bytes_from heap path n seen ≡ Ok (y, after) → Reads (bytes_at n) heap y
  bytes-read n seen y after e =
      let o = bind-back (cell heap path (λ _. n.kind) n.offset) (λ content. check Record (nat_le n.size (length content)) >> give (take n.size content)) seen y after e in
      let c = cell-back heap path (λ _. n.kind) n.offset seen o.first o.mid o.first_is in
      let k = check-back Record (nat_le n.size (length o.first)) (give (take n.size o.first)) o.mid y after o.then_is in
      let g = give-back (take n.size o.first) o.mid y after k.1 in
      reads-as (bytes_at n) heap (take n.size o.first) y g.0 (bytes-made heap n o.first c.here k.0)

  pieces-read : (names : List Named) (so_far : List ℕ) (seen : Seen) (y : List ℕ) (after : Seen) → pieces_from heap path so_far names seen ≡ Ok (y, after) →
      (pieces : List (List ℕ)) × Reads (each bytes_at names) heap pieces × (so_far ++ concat pieces ≡ y)
  pieces-read [] so_far seen y after e = ([], ([], refl), append-nil so_far ∙ (give-back so_far seen y after e).0)
  pieces-read (n ∷ names) so_far seen y after e =
      let o = bind-back (bytes_from heap path n) (λ piece. pieces_from heap path (so_far ++ piece) names) seen y after e in
      let r = pieces-read names (so_far ++ o.first) o.mid y after o.then_is in
      (o.first ∷ r.0, reads-cons bytes_at heap n names o.first r.0 (bytes-read n seen o.first o.mid o.first_is) r.1, sym (append_assoc so_far o.first (concat r.0)) ∙ r.2)

  one-read : (n : Named) (seen : Seen) (y : List ℕ) (after : Seen) → bytes_from heap path n seen ≡ Ok (y, after) → Reads (pieces_at (n ∷ [])) heap y
  one-read n seen y after e =
      reads-as (pieces_at (n ∷ [])) heap (y ++ []) y (append-nil y)
      (pieces-made heap (n ∷ []) (y ∷ []) (reads-cons bytes_at heap n [] y [] (bytes-read n seen y after e) ([], refl)))

  none-read : (seen : Seen) (y : List ℕ) (after : Seen) → give [] seen ≡ Ok (y, after) → Reads (pieces_at []) heap y
  none-read seen y after e = reads-as (pieces_at []) heap [] y (give-back [] seen y after e).0 ([], refl)

  pub class-read : (size offset : ℕ) (seen : Seen) (y : List ℕ) (after : Seen) → class_from heap path size offset seen ≡ Ok (y, after) → Reads (pieces_at (if_any Class size offset)) heap y
  class-read zero offset seen y after e = none-read seen y after e
  class-read (suc n) offset seen y after e = one-read (named Class (suc n) offset) seen y after e

  -- ---- rows

  row-read : (kind : Kind) (count offset : ℕ) (seen : Seen) (row : List ℕ) (after : Seen) → row_from heap path kind count offset seen ≡ Ok (row, after) →
      Reads (row_at kind count offset) heap row
  row-read kind count offset seen row after e =
      let o = bind-back (cell heap path (λ _. kind) offset) (λ content. given Record (row_in count content)) seen row after e in
      let c = cell-back heap path (λ _. kind) offset seen o.first o.mid o.first_is in
      let l = last-back Record (row_in count o.first) o.mid row after o.then_is in
      row-made heap kind count offset o.first row c.here l.0

  -- ---- data

  big-read : (size offset : ℕ) (seen : Seen) (y : List ℕ) (after : Seen) → big_from heap path size offset seen ≡ Ok (y, after) → Reads (big_at size offset) heap y
  big-read size offset seen y after e =
      let pieces = λ (row : List ℕ). pieces_from heap path [] (segments size row) in
      let third = λ (big : BigData). row_from heap path BigList (segments_for size) big.list >>= pieces in
      let second = λ (big : BigData). check Record (nat_le (segments_for size) big.count) >> third big in
      let o = bind-back (cell heap path (λ _. BigHead) offset) (λ content. given Record (db_of content) >>= second) seen y after e in
      let c = cell-back heap path (λ _. BigHead) offset seen o.first o.mid o.first_is in
      let b = given-back Record (db_of o.first) second o.mid y after o.then_is in
      let k = check-back Record (nat_le (segments_for size) b.0.count) (third b.0) o.mid y after b.2 in
      let r = bind-back (row_from heap path BigList (segments_for size) b.0.list) pieces o.mid y after k.1 in
      let p = pieces-read (segments size r.first) [] r.mid y after r.then_is in
      big-made heap size offset o.first b.0 r.first y c.here b.1 k.0 (row-read BigList (segments_for size) b.0.list o.mid r.first r.mid r.first_is)
      (reads-as (pieces_at (segments size r.first)) heap (concat p.0) y p.2 (pieces-made heap (segments size r.first) p.0 p.1))

  zero-small : nat_le 0 segment_size ≡ true
  unfolding segment_size
  zero-small = refl

  far-read : (single : Bool) (size offset : ℕ) (seen : Seen) (y : List ℕ) (after : Seen) → nat_le size segment_size ≡ single → far_from heap path single size offset seen ≡ Ok (y, after) →
      Reads (data_of false single size offset) heap y
  far-read true zero offset seen y after s e = none-read seen y after e
  far-read true (suc n) offset seen y after s e = one-read (named Data (suc n) offset) seen y after e
  far-read false zero offset seen y after s e = absurd (false≢true (sym s ∙ zero-small))
  far-read false (suc n) offset seen y after s e = big-read (suc n) offset seen y after e

  -- ---- a value's record

  pub record IsValueNamed (offset : ℕ) (v : KeyValueRecord × List ℕ) : Type 0 where
    pub content : List ℕ
    pub here : heap offset ≡ Some content
    pub value_is : vk_of content ≡ Ok v.0
    pub name : IsName (not (bit_and v.0.fields.flags 1 == 0)) 16383 is_value_name_byte v.0.name v.1

  named-read : (offset : ℕ) (seen : Seen) (v : KeyValueRecord × List ℕ) (after : Seen) → named_value heap path offset seen ≡ Ok (v, after) → IsValueNamed offset v
  named-read offset seen v after e =
      let with_name = λ (value : KeyValueRecord). value_name value >>= (λ name. give (value, name)) in
      let n = bind-back (cell heap path (λ _. Value) offset) (λ content. read (vk_of content) >>= with_name) seen v after e in
      let c = cell-back heap path (λ _. Value) offset seen n.first n.mid n.first_is in
      let r = read-back (vk_of n.first) with_name n.mid v after n.then_is in
      let w = bind-back (value_name r.0) (λ name. give (r.0, name)) n.mid v after r.2 in
      let g = give-back (r.0, w.first) w.mid v after w.then_is in
      subst (IsValueNamed offset) {x = (r.0, w.first)} g.0
      (record { content = n.first; here = c.here; value_is = r.1; name = name-read (not (bit_and r.0.fields.flags 1 == 0)) 16383 is_value_name_byte r.0.name n.mid w.first w.mid w.first_is })

  -- ---- a security

  pub descriptor-read : (offset : ℕ) (seen : Seen) (y : List ℕ) (after : Seen) → descriptor_from heap path offset seen ≡ Ok (y, after) → IsSome (security_at heap offset)
  unfolding security_at
  descriptor-read offset seen y after e =
      let tests = λ (security : KeySecurityRecord). check Record (nat_lt 0 (length security.descriptor)) >>
      (check Limit (nat_le (length security.descriptor) 65535) >> give security.descriptor) in
      let o = bind-back (cell heap path (λ _. Security) offset) (λ content. read (sk_of content) >>= tests) seen y after e in
      let c = cell-back heap path (λ _. Security) offset seen o.first o.mid o.first_is in
      let r = read-back (sk_of o.first) tests o.mid y after o.then_is in
      ap (λ (o : Option (List ℕ)). is_some (option_and_then (λ (content : List ℕ). result_ok (sk_of content)) o)) c.here ∙ ap (λ (s : Result KeySecurityRecord _). is_some (result_ok s)) r.1

-- ---- values

-- a value's name is of the profile, and its data isn't long
abbrev pub IsProper : Member → Type 0
IsProper m = is_value_name m.name ≡ true

abbrev pub IsShort : Member → Type 0
IsShort m = length m.bytes ≤ DATA_LIMIT

-- a key's values: they read, there are few of them, and each was tested
pub record AreTested (heap : Heap) (count offset : ℕ) (members : List Member) : Type 0 where
  pub few : count ≤ VALUES_LIMIT
  pub reads : Reads (members_at count offset) heap members
  pub names : AllByRecursion IsProper members
  pub apart : Pairwise Differ members
  pub sizes : AllByRecursion IsShort members

-- what a key says of its own
pub record ArePartsRead (heap : Heap) (fields : KeyFields) : Type 0 where
  pub class : List ℕ
  pub members : List Member
  pub class_is : Reads (pieces_at (if_any Class fields.class_length fields.class)) heap class
  pub values : AreTested heap fields.values fields.values_list members
  pub secured : IsSome (security_at heap fields.security)

module _ (heap : Heap) (minor : ℕ) (new : (minor == 3) ≡ false) (path : List ℕ) where
  data-read : (inline : Bool) (size offset : ℕ) (seen : Seen) (y : List ℕ) (after : Seen) → data_by heap minor path inline size offset seen ≡ Ok (y, after) →
      Reads (data_of inline (nat_le size segment_size) size offset) heap y × (length y ≤ DATA_LIMIT)
  data-read true size offset seen y after e =
      let bytes = take (inline_size size) (little_bytes 4 offset) in
      let k = check-back Record (nat_le (inline_size size) 4) (give bytes) seen y after e in
      let r = reads-as (data_of true true size offset) heap bytes y (give-back bytes seen y after k.1).0
      (reads-guard (nat_le (inline_size size) 4) (told bytes) heap bytes k.0 (reads-give bytes heap)) in
      let long = data-length heap true true size offset y r.0 r.1 in
      let few = leb-true (inline_size size) 4 k.0 in
      (r, omega (arith, long, few))
  data-read false size offset seen y after e =
      let single = nat_le size segment_size in
      let k = check-back Limit (nat_le size 1048576) (far_from heap path (single || (minor == 3)) size offset) seen y after e in
      let one : (single || (minor == 3)) ≡ single = ap (λ (b : Bool). single || b) new ∙ or-false single in
      let r = far-read heap path single size offset seen y after refl (subst (λ (b : Bool). far_from heap path b size offset seen ≡ Ok (y, after)) one k.1) in
      let long = data-length heap false single size offset y r.0 r.1 in
      let few = leb-true size 1048576 k.0 in
      (r, omega (arith, long, few))
    where
      or-false : (b : Bool) → (b || false) ≡ b
      or-false true = refl
      or-false false = refl

  record IsTested (offset : ℕ) (before : List Member) (m : Member) : Type 0 where
    reads : Reads (member_at offset) heap m
    name : IsProper m
    apart : AllByRecursion (λ (b : Member). Differ b m) before
    size : IsShort m

  value-read : (offset : ℕ) (before : List Member) (seen : Seen) (y : Member) (after : Seen) → value_from heap minor path before offset seen ≡ Ok (y, after) → IsTested offset before y
  value-read offset before seen y after e =
      let bytes = λ (v : KeyValueRecord × List ℕ). data_by heap minor path (is_inline v.0.fields.size) v.0.fields.size v.0.fields.offset in
      let made = λ (v : KeyValueRecord × List ℕ) (held : List ℕ). give (member_of v.0 held) in
      let rest = λ (v : KeyValueRecord × List ℕ). check Twice (not (list_any (λ (m : Member). same_name m.name v.1) before)) >> (bytes v >>= made v) in
      let o = bind-back (named_value heap path offset) rest seen y after e in
      let n = named-read heap path offset seen o.first o.mid o.first_is in
      let k = check-back Twice (not (list_any (λ (m : Member). same_name m.name o.first.1) before)) (bytes o.first >>= made o.first) o.mid y after o.then_is in
      let d = bind-back (bytes o.first) (made o.first) o.mid y after k.1 in
      let f = give-back (member_of o.first.0 d.first) d.mid y after d.then_is in
      let held = data-read (is_inline o.first.0.fields.size) o.first.0.fields.size o.first.0.fields.offset o.mid d.first d.mid d.first_is in
      let text = λ (t : List ℕ). not (list_any (λ (m : Member). same_name m.name t) before) ≡ true in
      subst (IsTested offset before) {x = member_of o.first.0 d.first} f.0
      (record {
        reads = member-made heap offset n.content o.first.0 d.first n.here n.value_is held.0;
        name = subst (λ (t : List ℕ). is_value_name t ≡ true) (sym n.name.is) (both n.name.allowed n.name.short);
        apart = none-before before (member_of o.first.0 d.first) (subst text (sym n.name.is) k.0);
        size = held.1;
      })
    where
      both : {a b : Bool} → a ≡ true → b ≡ true → (a && b) ≡ true
      both {a} {b} p q = ap (λ (x : Bool). x && b) p ∙ q

  record AreEach (offsets : List ℕ) (before y : List Member) : Type 0 where
    more : List Member
    is : before ++ more ≡ y
    reads : Reads (each member_at offsets) heap more
    names : AllByRecursion IsProper more
    sizes : AllByRecursion IsShort more
    apart : Pairwise Differ before → Pairwise Differ y

  values-each-read : (offsets : List ℕ) (before : List Member) (seen : Seen) (y : List Member) (after : Seen) → values_each heap minor path before offsets seen ≡ Ok (y, after) →
      AreEach offsets before y
  values-each-read [] before seen y after e =
      let g = give-back before seen y after e in
      record { more = []; is = append-nil before ∙ g.0; reads = ([], refl); names = tt; sizes = tt; apart = λ p. subst (Pairwise Differ) g.0 p }
  values-each-read (offset ∷ offsets) before seen y after e =
      let o = bind-back (value_from heap minor path before offset) (λ member. values_each heap minor path (before ++ member ∷ []) offsets) seen y after e in
      let v = value-read offset before seen o.first o.mid o.first_is in
      let r = values-each-read offsets (before ++ o.first ∷ []) o.mid y after o.then_is in
      record {
        more = o.first ∷ r.more;
        is = sym (append_assoc before (o.first ∷ []) r.more) ∙ r.is;
        reads = reads-cons member_at heap offset offsets o.first r.more v.reads r.reads;
        names = (v.name, r.names);
        sizes = (v.size, r.sizes);
        apart = λ p. r.apart (differ-more before o.first p v.apart);
      }

  pub values-read : (count offset : ℕ) (seen : Seen) (y : List Member) (after : Seen) → values_from heap minor path count offset seen ≡ Ok (y, after) → AreTested heap count offset y
  values-read zero offset seen y after e =
      subst (AreTested heap 0 offset) (give-back [] seen y after e).0 (record { few = omega arith; reads = ([], refl); names = tt; apart = tt; sizes = tt })
  values-read (suc n) offset seen y after e =
      let each_of = λ (row : List ℕ). values_each heap minor path [] row in
      let k = check-back Limit (nat_le (suc n) 16384) (row_from heap path ValueList (suc n) offset >>= each_of) seen y after e in
      let o = bind-back (row_from heap path ValueList (suc n) offset) each_of seen y after k.1 in
      let row = row-read heap path ValueList (suc n) offset seen o.first o.mid o.first_is in
      let v = values-each-read o.first [] o.mid y after o.then_is in
      let few = leb-true (suc n) 16384 k.0 in
      record {
        few = omega (arith, few);
        reads = members-made heap n offset o.first y row (reads-as (each member_at o.first) heap v.more y v.is v.reads);
        names = subst (AllByRecursion IsProper) v.is v.names;
        apart = v.apart tt;
        sizes = subst (AllByRecursion IsShort) v.is v.sizes;
      }

  -- ---- a key's parts

  pub parts-read : (fields : KeyFields) (seen : Seen) (y : List ℕ × List ℕ × List Member) (after : Seen) → parts_from heap minor path fields seen ≡ Ok (y, after) → ArePartsRead heap fields
  parts-read fields seen y after e =
      let whole = λ (class : List ℕ) (descriptor : List ℕ) (values : List Member). give (class, descriptor, values) in
      let third = λ (class : List ℕ) (descriptor : List ℕ). values_from heap minor path fields.values fields.values_list >>= whole class descriptor in
      let second = λ (class : List ℕ). descriptor_from heap path fields.security >>= third class in
      let a = bind-back (class_from heap path fields.class_length fields.class) second seen y after e in
      let b = bind-back (descriptor_from heap path fields.security) (third a.first) a.mid y after a.then_is in
      let c = bind-back (values_from heap minor path fields.values fields.values_list) (whole a.first b.first) b.mid y after b.then_is in
      record {
        class = a.first;
        members = c.first;
        class_is = class-read heap path fields.class_length fields.class seen a.first a.mid a.first_is;
        values = values-read fields.values fields.values_list b.mid c.first c.mid c.first_is;
        secured = descriptor-read heap path fields.security a.mid b.first b.mid b.first_is;
      }
