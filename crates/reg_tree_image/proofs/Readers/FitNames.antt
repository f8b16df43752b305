-- Names that were read are within the limits.
use Rattle.std.proofs.Common.{◌≡◌, ℕ, ◌%◌, ◌<◌, ◌==◌, ◌&&◌, ◌||◌, nat_le, nat_lt, not, bit_and, Bool, true, false, Ok, List, length}
use Rattle.std.proofs.Common.{refl, sym, ap, ◌∙◌, subst, arith}
use Rattle.std.specs.List.{list_all}
use Rattle.std.proofs.lemmas.Bool.{eqb-true}
use Rattle.std.proofs.lemmas.Bool.Decides.{nat_tests}
use Rattle.std.specs.Cow.{cow_slice_items}
use Rattle.reg_names.specs.declared.TheConstants.{KEY_NAME_LIMIT, VALUE_NAME_LIMIT}
use Rattle.reg_names.specs.Names.{is_key_name_byte, is_value_name_byte, is_key_name, is_value_name}
use Rattle.reg_records.specs.KeyNodes.{KeyRecord, nk_of, is_in_profile}
use Rattle.reg_records.specs.KeyValues.{KeyValueRecord}
use Rattle.reg_records.proofs.KeyNodeCodec.{nk-open}
use Rattle.reg_shape.specs.Nodes.{letters}
use Rattle.reg_tree_image.specs.declared.LoadFault.{LoadFault}
use Rattle.reg_tree_image.specs.declared.LoadFault.TheVariants.{Record, NotInProfile, Limit}
use Rattle.reg_tree_image.specs.declared.keys.NamedKey.{NamedKey}
use Rattle.reg_tree_image.specs.declared.values.NamedValue.{NamedValue}
use Rattle.reg_tree_image.specs.WalkSteps.{Seen, Step, ◌>>◌, give, check}
use Rattle.reg_tree_image.specs.LoadingWalk.{name_in, key_name, value_name}
use Rattle.reg_tree_image.specs.Images.{nothing}
use Rattle.reg_tree_image.specs.Internal.NamedRecords.{key_of, value_of}
use Rattle.reg_tree_image.specs.Internal.FitKeys.{IsFitName}
use Rattle.reg_tree_image.proofs.Readers.ValueReadings.{check-open, name-open}
use Rattle.reg_tree_image.proofs.Readers.LetterReadings.{wide-length}

-- a test that holds
check-holds : {A : Type 0} (fault : LoadFault) (test : Bool) (t : Step A) (seen : Seen) (y : A) (after : Seen) →
    (check fault test >> t) seen ≡ Ok (y, after) → test ≡ true
check-holds fault true t seen y after e = refl
check-holds fault false t seen y after e = absurd (cc)

-- a name that was read
record IsNameRead (single : Bool) (most : ℕ) (ok : ℕ → Bool) (name read : List ℕ) : Type 0 where
  is : letters single name ≡ read
  even : (single || (length name % 2 == 0)) ≡ true
  short : nat_le (length read) most ≡ true
  good : list_all ok read ≡ true

name-read : (single : Bool) (most : ℕ) (ok : ℕ → Bool) (name read : List ℕ) (seen after : Seen) →
    name_in single most ok name seen ≡ Ok (read, after) → IsNameRead single most ok name read
name-read single most ok name read seen after e =
    let chars = letters single name in
    let last : Step (List ℕ) = check NotInProfile (list_all ok chars) >> give chars in
    let short : Step (List ℕ) = check Limit (nat_le (length chars) most) >> last in
    let is = name-open single most ok name read seen after e in
    let o1 = check-open Record (single || (length name % 2 == 0)) short seen read after e in
    let o2 = check-open Limit (nat_le (length chars) most) last seen read after o1 in
    record {
      is = is;
      even = check-holds Record (single || (length name % 2 == 0)) short seen read after e;
      short = ap (λ n. nat_le (length n) most) (sym is) ∙ check-holds Limit (nat_le (length chars) most) last seen read after o1;
      good = ap (list_all ok) (sym is) ∙ check-holds NotInProfile (list_all ok chars) (give chars) seen read after o2;
    }

-- a name of some bytes has some characters
some-letters : (single : Bool) (name : List ℕ) → (single || (length name % 2 == 0)) ≡ true → 0 < length name →
    0 < length (letters single name)
some-letters true name e l = l
some-letters false name e l =
    let z : length name % 2 ≡ 0 = eqb-true (length name % 2) 0 e in
    let w = wide-length name z in
    omega (arith, z, w, l)

three : (a b c : Bool) → a ≡ true → b ≡ true → c ≡ true → (a && b && c) ≡ true
three a b c p q r = rw (p, q, r) refl

two : (a b : Bool) → a ≡ true → b ≡ true → (a && b) ≡ true
two a b p q = rw (p, q) refl

pos-is : (n : ℕ) → nat_lt 0 n ≡ true → 0 < n
pos-is n e = grind (arith, nat_tests)

is-pos : (n : ℕ) → 0 < n → nat_lt 0 n ≡ true
is-pos n l = grind (arith, nat_tests)

key-name-fit : (key : KeyRecord) (name : List ℕ) (seen after : Seen) → key_name key seen ≡ Ok (name, after) → is_key_name name ≡ true
key-name-fit key name seen after e =
    let single = not (bit_and key.fields.flags 32 == 0) in
    let then : Step (List ℕ) = name_in single KEY_NAME_LIMIT is_key_name_byte key.name in
    let some = pos-is (length key.name) (check-holds Record (nat_lt 0 (length key.name)) then seen name after e) in
    let r = name-read single KEY_NAME_LIMIT is_key_name_byte key.name name seen after
    (check-open Record (nat_lt 0 (length key.name)) then seen name after e) in
    let l : 0 < length name = subst (λ (n : List ℕ). 0 < length n) r.is (some-letters single key.name r.even some) in
    three (list_all is_key_name_byte name) (nat_lt 0 (length name)) (nat_le (length name) KEY_NAME_LIMIT) r.good
    (is-pos (length name) l) r.short

value-name-fit : (value : KeyValueRecord) (name : List ℕ) (seen after : Seen) → value_name value seen ≡ Ok (name, after) →
    is_value_name name ≡ true
value-name-fit value name seen after e =
    let r = name-read (not (bit_and value.fields.flags 1 == 0)) VALUE_NAME_LIMIT is_value_name_byte value.name name seen after e in
    two (list_all is_value_name_byte name) (nat_le (length name) VALUE_NAME_LIMIT) r.good r.short

-- ---- records

profile : (content : List ℕ) (r : KeyRecord) → nk_of content ≡ Ok r → is_in_profile r.fields.flags ≡ true
profile content r e = let is = nk-open content r e in ap (λ (k : KeyRecord). is_in_profile k.fields.flags) is.same ∙ is.profile

pub key-fit : (content : List ℕ) (k : NamedKey) → nk_of content ≡ Ok (key_of k).0 →
    ((seen : Seen) → key_name (key_of k).0 seen ≡ Ok (cow_slice_items k.name, seen)) → IsFitName k
key-fit content k e g = record {
  name = key-name-fit (key_of k).0 (cow_slice_items k.name) nothing nothing (g nothing);
  profile = eqb-true _ 0 (profile content (key_of k).0 e);
}

pub value-fit : (v : NamedValue) → ((seen : Seen) → value_name (value_of v).0 seen ≡ Ok (cow_slice_items v.name, seen)) →
    is_value_name (cow_slice_items v.name) ≡ true
value-fit v g = value-name-fit (value_of v).0 (cow_slice_items v.name) nothing nothing (g nothing)
