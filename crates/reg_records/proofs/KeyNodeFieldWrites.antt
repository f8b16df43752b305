-- A part of a key node written over: a field that stands in the part reads as what was written there, each other field as before.
use Rattle.std.proofs.Common.{◌≡◌, ℕ, ◌+◌, ◌-◌, ◌^◌, ◌<◌, ◌≤◌, ◌&&◌, not, Bool, true, false, List, [], ◌∷◌, ◌++◌, length, drop, lit≤, refl, sym, ap, ◌∙◌, arith}
use Rattle.std.specs.Prelude.{Ok, nat_lt, if◌then◌else◌}
use Rattle.std.specs.List.{list_all}
use Rattle.std.proofs.lemmas.Bool.{and_parts, ltb-false, not-true}
use Rattle.byteorder.specs.Endian.{little_bytes, little_number}
use Rattle.byteorder.specs.Numbers.{little_number-reads_back}
use Rattle.reg_heap.specs.ByteWords.{half, word, long, splice}
use Rattle.reg_records.specs.declared.nk.KeyFields.{KeyFields}
use Rattle.reg_records.proofs.SplicedNumbers.{number-below, number-above, drop-within}
use Rattle.reg_records.specs.KeyNodes.{KeyRecord, nk_fields_of, nk_of}
use Rattle.reg_records.proofs.KeyNodeCodec.{nk-open, fits, nk-spliced}

-- ---- one field, of a width at a place

-- whether a part of that size reaches into the field, and whether it holds all of it
abbrev is_met : (at size width place : ℕ) → Bool
is_met at size width place = nat_lt at (place + width) && nat_lt place (at + size)

abbrev is_held : (at size width place : ℕ) → Bool
is_held at size width place = not (nat_lt place at) && not (nat_lt (at + size) (place + width))

-- the part leaves the field alone, or holds it whole
abbrev is_clear : (at size width place : ℕ) → Bool
is_clear at size width place = if is_met at size width place then is_held at size width place else true

-- the number that a field then has
abbrev number_after : (at : ℕ) (piece content : List ℕ) (width place : ℕ) → ℕ
number_after at piece content width place =
    if is_met at (length piece) width place then little_number width (drop (place - at) piece ++ drop (at + length piece) content)
    else little_number width (drop place content)

module _ (at : ℕ) (piece content : List ℕ) (f : at + length piece ≤ length content) where
  held : (width place : ℕ) → is_held at (length piece) width place ≡ true →
      little_number width (drop place (splice at piece content)) ≡ little_number width (drop (place - at) piece ++ drop (at + length piece) content)
  held width place is =
      let h = and_parts _ _ is in
      let low : at ≤ place = ltb-false _ _ (not-true _ h.0) in
      let high : place + width ≤ at + length piece = ltb-false _ _ (not-true _ h.1) in
      ap (λ k. little_number width (drop k (splice at piece content))) (omega arith)
      ∙ ap (little_number width) (drop-within at piece content f (place - at) (omega arith))

  below_or_above : (width place : ℕ) (above : Bool) → nat_lt at (place + width) ≡ above → nat_lt at (place + width) && nat_lt place (at + length piece) ≡ false →
      little_number width (drop place (splice at piece content)) ≡ little_number width (drop place content)
  below_or_above width place false reaches apart = number-below at piece content f width place (ltb-false _ _ reaches)
  below_or_above width place true reaches apart =
      number-above at piece content f width place (ltb-false _ _ (sym (ap (λ b. b && nat_lt place (at + length piece)) reaches) ∙ apart))

  by_meeting : (width place : ℕ) (meets : Bool) → is_met at (length piece) width place ≡ meets →
      (if meets then is_held at (length piece) width place else true) ≡ true → little_number width (drop place (splice at piece content))
      ≡ (if meets then little_number width (drop (place - at) piece ++ drop (at + length piece) content) else little_number width (drop place content))
  by_meeting width place true is clear = held width place clear
  by_meeting width place false is clear = below_or_above width place (nat_lt at (place + width)) refl is

  field : (width place : ℕ) → is_clear at (length piece) width place ≡ true → little_number width (drop place (splice at piece content)) ≡ number_after at piece content width place
  field width place clear = by_meeting width place (is_met at (length piece) width place) refl clear

-- ---- all fields

-- the fields, where the number of each width and place is known
abbrev fields_by : (ℕ → ℕ → ℕ) → KeyFields
fields_by number = record {
  flags = number 2 2;
  time = number 8 4;
  parent = number 4 16;
  subkeys = number 4 20;
  subkeys_list = number 4 28;
  values = number 4 36;
  values_list = number 4 40;
  security = number 4 44;
  class = number 4 48;
  class_length = number 2 74;
  largest_subkey_name = number 4 52;
  largest_subkey_class = number 4 56;
  largest_value_name = number 4 60;
  largest_value_data = number 4 64;
}

-- the width and the place of each field, and whether the part leaves each alone, or holds it whole
abbrev places : List (ℕ × ℕ)
places =
    (2, 2) ∷ (8, 4) ∷ (4, 16) ∷ (4, 20) ∷ (4, 28) ∷ (4, 36) ∷ (4, 40) ∷ (4, 44) ∷ (4, 48)
    ∷ (2, 74) ∷ (4, 52) ∷ (4, 56) ∷ (4, 60) ∷ (4, 64) ∷ []

abbrev are_clear : (at size : ℕ) → Bool
are_clear at size = list_all (λ (field : ℕ × ℕ). is_clear at size field.0 field.1) places

-- a key node of which a part between its signature and the length of its name was written over
written : (at : ℕ) (piece content : List ℕ) (r : KeyRecord) → 4 ≤ at → at + length piece ≤ 72 → are_clear at (length piece) ≡ true → nk_of content ≡ Ok r
    → nk_of (splice at piece content) ≡ Ok (record { fields = fields_by (number_after at piece content); name = r.name })
unfolding half word long
written at piece content r low high clear is =
    let f : at + length piece ≤ length content = fits at piece content r low high is in
    let h0 = and_parts _ _ clear in
    let h1 = and_parts _ _ h0.1 in
    let h2 = and_parts _ _ h1.1 in
    let h3 = and_parts _ _ h2.1 in
    let h4 = and_parts _ _ h3.1 in
    let h5 = and_parts _ _ h4.1 in
    let h6 = and_parts _ _ h5.1 in
    let h7 = and_parts _ _ h6.1 in
    let h8 = and_parts _ _ h7.1 in
    let h9 = and_parts _ _ h8.1 in
    let h10 = and_parts _ _ h9.1 in
    let h11 = and_parts _ _ h10.1 in
    let h12 = and_parts _ _ h11.1 in
    let h13 = and_parts _ _ h12.1 in
    nk-spliced at piece content r low high is (fields_by (number_after at piece content)) (λ i. record {
      flags = field at piece content f 2 2 h0.0 i;
      time = field at piece content f 8 4 h1.0 i;
      parent = field at piece content f 4 16 h2.0 i;
      subkeys = field at piece content f 4 20 h3.0 i;
      subkeys_list = field at piece content f 4 28 h4.0 i;
      values = field at piece content f 4 36 h5.0 i;
      values_list = field at piece content f 4 40 h6.0 i;
      security = field at piece content f 4 44 h7.0 i;
      class = field at piece content f 4 48 h8.0 i;
      class_length = field at piece content f 2 74 h9.0 i;
      largest_subkey_name = field at piece content f 4 52 h10.0 i;
      largest_subkey_class = field at piece content f 4 56 h11.0 i;
      largest_value_name = field at piece content f 4 60 h12.0 i;
      largest_value_data = field at piece content f 4 64 h13.0 i;
    })

-- ---- each writer

-- the fields of a key node are those of its content
read : (content : List ℕ) (r : KeyRecord) → nk_of content ≡ Ok r → r.fields ≡ nk_fields_of content
read content r is = ap (λ (k : KeyRecord). k.fields) (nk-open content r is).same

-- another last write time
pub nk-timed : (time : ℕ) → time < 2 ^ 64 → (content : List ℕ) (r : KeyRecord) → nk_of content ≡ Ok r
    → nk_of (splice 4 (little_bytes 8 time) content) ≡ Ok (record r { fields = record r.fields { time = time } })
unfolding half word long
nk-timed time fit content r is =
    written 4 (little_bytes 8 time) content r (lit≤ tt) (lit≤ tt) refl is
    ∙ (ap (λ (n : ℕ). Ok (record { fields = record (nk_fields_of content) { time = n }; name = r.name })) (little_number-reads_back 8 time (drop (4 + 8) content) fit)
    ∙ ap (λ (fields : KeyFields). Ok (record { fields = record fields { time = time }; name = r.name })) (sym (read content r is)))

-- another number of subkeys
pub nk-counted : (subkeys : ℕ) → subkeys < 2 ^ 32 → (content : List ℕ) (r : KeyRecord) → nk_of content ≡ Ok r
    → nk_of (splice 20 (little_bytes 4 subkeys) content) ≡ Ok (record r { fields = record r.fields { subkeys = subkeys } })
unfolding half word long
nk-counted subkeys fit content r is =
    written 20 (little_bytes 4 subkeys) content r (lit≤ tt) (lit≤ tt) refl is
    ∙ (ap (λ (n : ℕ). Ok (record { fields = record (nk_fields_of content) { subkeys = n }; name = r.name })) (little_number-reads_back 4 subkeys (drop (20 + 4) content) fit)
    ∙ ap (λ (fields : KeyFields). Ok (record { fields = record fields { subkeys = subkeys }; name = r.name })) (sym (read content r is)))

-- another list of subkeys
pub nk-listed : (list : ℕ) → list < 2 ^ 32 → (content : List ℕ) (r : KeyRecord) → nk_of content ≡ Ok r
    → nk_of (splice 28 (little_bytes 4 list) content) ≡ Ok (record r { fields = record r.fields { subkeys_list = list } })
unfolding half word long
nk-listed list fit content r is =
    written 28 (little_bytes 4 list) content r (lit≤ tt) (lit≤ tt) refl is
    ∙ (ap (λ (n : ℕ). Ok (record { fields = record (nk_fields_of content) { subkeys_list = n }; name = r.name })) (little_number-reads_back 4 list (drop (28 + 4) content) fit)
    ∙ ap (λ (fields : KeyFields). Ok (record { fields = record fields { subkeys_list = list }; name = r.name })) (sym (read content r is)))

-- another largest length of a subkey's name
pub nk-widened : (largest : ℕ) → largest < 2 ^ 32 → (content : List ℕ) (r : KeyRecord) → nk_of content ≡ Ok r
    → nk_of (splice 52 (little_bytes 4 largest) content) ≡ Ok (record r { fields = record r.fields { largest_subkey_name = largest } })
unfolding half word long
nk-widened largest fit content r is =
    written 52 (little_bytes 4 largest) content r (lit≤ tt) (lit≤ tt) refl is
    ∙ (ap (λ (n : ℕ). Ok (record { fields = record (nk_fields_of content) { largest_subkey_name = n }; name = r.name })) (little_number-reads_back 4 largest (drop (52 + 4) content) fit)
    ∙ ap (λ (fields : KeyFields). Ok (record { fields = record fields { largest_subkey_name = largest }; name = r.name })) (sym (read content r is)))

-- another number and list of values
pub nk-valued : (values : ℕ) → values < 2 ^ 32 → (list : ℕ) → list < 2 ^ 32 → (content : List ℕ) (r : KeyRecord) → nk_of content ≡ Ok r
    → nk_of (splice 36 (little_bytes 4 values ++ little_bytes 4 list) content) ≡ Ok (record r { fields = record r.fields { values = values; values_list = list } })
unfolding half word long
nk-valued values fit list fits_too content r is =
    let rest : List ℕ = drop (36 + 8) content in
    let number : little_number 4 (little_bytes 4 values ++ (little_bytes 4 list ++ rest)) ≡ values =
    little_number-reads_back 4 values (little_bytes 4 list ++ rest) fit in
    let offset : little_number 4 (little_bytes 4 list ++ rest) ≡ list = little_number-reads_back 4 list rest fits_too in
    written 36 (little_bytes 4 values ++ little_bytes 4 list) content r (lit≤ tt) (lit≤ tt) refl is
    ∙ ((λ i. Ok (record { fields = record (nk_fields_of content) { values = number i; values_list = offset i }; name = r.name }))
    ∙ ap (λ (fields : KeyFields). Ok (record { fields = record fields { values = values; values_list = list }; name = r.name })) (sym (read content r is)))

-- another largest length of a value's name
pub nk-named : (largest : ℕ) → largest < 2 ^ 32 → (content : List ℕ) (r : KeyRecord) → nk_of content ≡ Ok r
    → nk_of (splice 60 (little_bytes 4 largest) content) ≡ Ok (record r { fields = record r.fields { largest_value_name = largest } })
unfolding half word long
nk-named largest fit content r is =
    written 60 (little_bytes 4 largest) content r (lit≤ tt) (lit≤ tt) refl is
    ∙ (ap (λ (n : ℕ). Ok (record { fields = record (nk_fields_of content) { largest_value_name = n }; name = r.name })) (little_number-reads_back 4 largest (drop (60 + 4) content) fit)
    ∙ ap (λ (fields : KeyFields). Ok (record { fields = record fields { largest_value_name = largest }; name = r.name })) (sym (read content r is)))

-- another largest size of a value's data
pub nk-sized : (largest : ℕ) → largest < 2 ^ 32 → (content : List ℕ) (r : KeyRecord) → nk_of content ≡ Ok r
    → nk_of (splice 64 (little_bytes 4 largest) content) ≡ Ok (record r { fields = record r.fields { largest_value_data = largest } })
unfolding half word long
nk-sized largest fit content r is =
    written 64 (little_bytes 4 largest) content r (lit≤ tt) (lit≤ tt) refl is
    ∙ (ap (λ (n : ℕ). Ok (record { fields = record (nk_fields_of content) { largest_value_data = n }; name = r.name })) (little_number-reads_back 4 largest (drop (64 + 4) content) fit)
    ∙ ap (λ (fields : KeyFields). Ok (record { fields = record fields { largest_value_data = largest }; name = r.name })) (sym (read content r is)))

-- another security
pub nk-secured : (security : ℕ) → security < 2 ^ 32 → (content : List ℕ) (r : KeyRecord) → nk_of content ≡ Ok r
    → nk_of (splice 44 (little_bytes 4 security) content) ≡ Ok (record r { fields = record r.fields { security = security } })
unfolding half word long
nk-secured security fit content r is =
    written 44 (little_bytes 4 security) content r (lit≤ tt) (lit≤ tt) refl is
    ∙ (ap (λ (n : ℕ). Ok (record { fields = record (nk_fields_of content) { security = n }; name = r.name })) (little_number-reads_back 4 security (drop (44 + 4) content) fit)
    ∙ ap (λ (fields : KeyFields). Ok (record { fields = record fields { security = security }; name = r.name })) (sym (read content r is)))
