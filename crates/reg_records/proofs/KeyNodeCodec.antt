-- Key nodes, written and read back.
use Rattle.std.proofs.Common.{◌≡◌, ℕ, ◌+◌, ◌^◌, ◌<◌, ◌≤◌, true, not, List, [], ◌++◌, length, get_or, take, drop, ◌==◌, ◌&&◌, refl, sym, ap, ◌∙◌, arith, length-append}
use Rattle.std.proofs.lemmas.Bool.{le-ltb, ltb-false, not-false, cond-false}
use Rattle.std.proofs.lemmas.List.{length-drop, length-take-le}
use Rattle.std.proofs.Math.Seq.{take-append_seam}
use Rattle.std.specs.Prelude.{Ok, Some, IsSome}
use Rattle.byteorder.specs.Numbers.{little_number-reads_back}
use Rattle.reg_heap.specs.ByteWords.{half, word, long, splice}
use Rattle.reg_records.specs.declared.nk.KeyFields.{KeyFields}
use Rattle.reg_arena.specs.Arena.{Bins, heap_of}
use Rattle.reg_records.specs.Letters.{is_signed}
use Rattle.reg_records.specs.RecordCells.{Heap, HasRoom, WritesCell, held}
use Rattle.reg_records.proofs.RecordWriting.{read_at-same, read_at-open, read_at-made, read_at-room, read_at-changed, no_fault, same_ok}
use Rattle.reg_records.proofs.SplicedNumbers.{length-splice, get_or-below, number-below, number-above, drop-above}
use Rattle.reg_records.specs.KeyNodes.{KeyRecord, FitKey, is_in_profile, nk_fields_of, nk_of, nk_bytes, key_at}

nk-made : (content : List ℕ) → 76 ≤ length content → is_signed 110 107 content ≡ true → 76 + half content 72 ≤ length content → is_in_profile (half content 2) ≡ true
    → nk_of content ≡ Ok (record { fields = nk_fields_of content; name = take (half content 72) (drop 76 content) })
unfolding nk_of
nk-made content long signed enough profile =
    cond-false _ _ _ (le-ltb _ _ long) ∙ (cond-false _ _ _ (ap not signed) ∙ (cond-false _ _ _ (le-ltb _ _ enough) ∙ cond-false _ _ _ (ap not profile)))

nk-reads_back : (fields : KeyFields) (name rest : List ℕ) → FitKey fields → length name < 2 ^ 16 → is_in_profile fields.flags ≡ true
    → nk_of (nk_bytes fields name ++ rest) ≡ Ok (record { fields = fields; name = name })
unfolding nk_bytes half word long
nk-reads_back fields name rest fit size profile =
    let content : List ℕ = nk_bytes fields name ++ rest in
    let at_72 : half content 72 ≡ length name = little_number-reads_back 2 (length name) [] size in
    let at_2 : half content 2 ≡ fields.flags = little_number-reads_back 2 fields.flags [] fit.flags in
    let at_4 : long content 4 ≡ fields.time = little_number-reads_back 8 fields.time [] fit.time in
    let at_16 : word content 16 ≡ fields.parent = little_number-reads_back 4 fields.parent [] fit.parent in
    let at_20 : word content 20 ≡ fields.subkeys = little_number-reads_back 4 fields.subkeys [] fit.subkeys in
    let at_28 : word content 28 ≡ fields.subkeys_list = little_number-reads_back 4 fields.subkeys_list [] fit.subkeys_list in
    let at_36 : word content 36 ≡ fields.values = little_number-reads_back 4 fields.values [] fit.values in
    let at_40 : word content 40 ≡ fields.values_list = little_number-reads_back 4 fields.values_list [] fit.values_list in
    let at_44 : word content 44 ≡ fields.security = little_number-reads_back 4 fields.security [] fit.security in
    let at_48 : word content 48 ≡ fields.class = little_number-reads_back 4 fields.class [] fit.class in
    let at_74 : half content 74 ≡ fields.class_length = little_number-reads_back 2 fields.class_length [] fit.class_length in
    let at_52 : word content 52 ≡ fields.largest_subkey_name = little_number-reads_back 4 fields.largest_subkey_name [] fit.largest_subkey_name in
    let at_56 : word content 56 ≡ fields.largest_subkey_class = little_number-reads_back 4 fields.largest_subkey_class [] fit.largest_subkey_class in
    let at_60 : word content 60 ≡ fields.largest_value_name = little_number-reads_back 4 fields.largest_value_name [] fit.largest_value_name in
    let at_64 : word content 64 ≡ fields.largest_value_data = little_number-reads_back 4 fields.largest_value_data [] fit.largest_value_data in
    let all : length content ≡ 76 + (length name + length rest) = omega (arith, length-append name rest) in
    let text : take (half content 72) (drop 76 content) ≡ name = ap (λ n. take n (name ++ rest)) at_72 ∙ take-append_seam name rest in
    nk-made content (omega (arith, all)) refl (omega (arith, all, at_72)) (ap is_in_profile at_2 ∙ profile)
    ∙ (λ i. Ok (record {
      fields = record {
        flags = at_2 i;
        time = at_4 i;
        parent = at_16 i;
        subkeys = at_20 i;
        subkeys_list = at_28 i;
        values =
            at_36 i;
        values_list = at_40 i;
        security = at_44 i;
        class = at_48 i;
        class_length = at_74 i;
        largest_subkey_name = at_52 i;
        largest_subkey_class = at_56 i;
        largest_value_name = at_60 i;
        largest_value_data = at_64 i;
      };
      name = text i;
    }))

-- a cell that a key node was written into reads as it
pub key_at-written : (old new : Bins) (cell : ℕ) (fields : KeyFields) (name rest : List ℕ)
    → WritesCell old new cell (nk_bytes fields name ++ rest) → FitKey fields → length name < 2 ^ 16 → is_in_profile fields.flags ≡ true
    → key_at (heap_of new) cell ≡ Some (record { fields = fields; name = name })
unfolding key_at
key_at-written old new cell fields name rest written fit size profile =
    read_at-made nk_of (heap_of new) cell _ _ written.here (nk-reads_back fields name rest fit size profile)

-- what a content that is a key node is like
pub record IsKey (content : List ℕ) (r : KeyRecord) : Type 0 where
  pub long : 76 ≤ length content
  pub signed : is_signed 110 107 content ≡ true
  pub enough : 76 + half content 72 ≤ length content
  pub profile : is_in_profile (half content 2) ≡ true
  pub same : r ≡ record { fields = nk_fields_of content; name = take (half content 72) (drop 76 content) }

pub nk-open : (content : List ℕ) (r : KeyRecord) → nk_of content ≡ Ok r → IsKey content r
unfolding nk_of
nk-open content r e =
    let a = no_fault _ _ _ r e in
    let b = no_fault _ _ _ r a.1 in
    let d = no_fault _ _ _ r b.1 in
    let f = no_fault _ _ _ r d.1 in
    record {
      long = ltb-false _ _ a.0;
      signed = not-false _ b.0;
      enough = ltb-false _ _ d.0;
      profile = not-false _ f.0;
      same = same_ok _ _ (sym f.1);
    }

-- a record's name is as long as its field says
pub nk-name-long : (content : List ℕ) (r : KeyRecord) → nk_of content ≡ Ok r → length r.name ≡ half content 72
nk-name-long content r e =
    let v = nk-open content r e in
    ap (λ (r : KeyRecord). length r.name) v.same ∙ length-take-le (half content 72) (drop 76 content) (omega (arith, v.enough, length-drop 76 content))

-- a part between the signature and the name's length written over
module _ (at : ℕ) (piece content : List ℕ) (r : KeyRecord) (low : 4 ≤ at) (high : at + length piece ≤ 72) (is : nk_of content ≡ Ok r) where
  key : IsKey content r
  key = nk-open content r is

  pub fits : at + length piece ≤ length content
  fits = let l = key.long in omega arith

  pub nk-spliced : (fields : KeyFields) → nk_fields_of (splice at piece content) ≡ fields → nk_of (splice at piece content) ≡ Ok (record { fields = fields; name = r.name })
  unfolding half
  nk-spliced fields e =
      let new : List ℕ = splice at piece content in
      let same_length : length new ≡ length content = length-splice at piece content fits in
      let flags : half new 2 ≡ half content 2 = number-below at piece content fits 2 2 (omega arith) in
      let name_length : half new 72 ≡ half content 72 = number-above at piece content fits 2 72 (omega arith) in
      let first : get_or new 0 0 ≡ get_or content 0 0 = get_or-below at piece content fits 0 (omega arith) in
      let second : get_or new 1 0 ≡ get_or content 1 0 = get_or-below at piece content fits 1 (omega arith) in
      let signed : is_signed 110 107 new ≡ true = ap (λ x. (x == 110) && (get_or new 1 0 == 107)) first ∙ ap (λ x. (get_or content 0 0 == 110) && (x == 107)) second ∙ key.signed in
      let behind : drop 76 new ≡ drop 76 content = drop-above at piece content fits 76 (omega arith) in
      let name : take (half new 72) (drop 76 new) ≡ r.name = ap (λ n. take n (drop 76 new)) name_length ∙ ap (take (half content 72)) behind ∙ sym (ap (λ (k : KeyRecord). k.name) key.same) in
      let long = key.long in
      let enough = key.enough in
      nk-made new (omega arith) signed (omega arith) (ap is_in_profile flags ∙ key.profile)
      ∙ (λ i. Ok (record { fields = e i; name = name i }))

-- a key node has room for its fixed part
pub key-room : (heap : Heap) (cell size : ℕ) → size ≤ 76 → IsSome (key_at heap cell) → HasRoom heap cell size
unfolding key_at
key-room heap cell size small some = read_at-room nk_of 76 (λ content r is. (nk-open content r is).long) heap cell size small some

-- what a part written over does to a key node
pub key-changed : (at : ℕ) (piece : List ℕ) (change : KeyRecord → KeyRecord) → ((content : List ℕ) (r : KeyRecord) → nk_of content ≡ Ok r → nk_of (splice at piece content) ≡ Ok (change r))
    → (old new : Bins) (cell : ℕ) → WritesCell old new cell (splice at piece (held (heap_of old) cell))
    → (r : KeyRecord) → key_at (heap_of old) cell ≡ Some r → key_at (heap_of new) cell ≡ Some (change r)
unfolding key_at
key-changed at piece change changes old new cell written r e = read_at-changed nk_of at piece change changes old new cell written r e

-- a key node stands in one cell
pub key_at-same : (old new : Heap) (cell : ℕ) → new cell ≡ old cell → key_at new cell ≡ key_at old cell
unfolding key_at
key_at-same old new cell same = read_at-same nk_of old new cell same

-- what a reader of the cell's content answers
pub key_at-made : (heap : Heap) (cell : ℕ) (content : List ℕ) (r : KeyRecord) → heap cell ≡ Some content → nk_of content ≡ Ok r → key_at heap cell ≡ Some r
unfolding key_at
key_at-made heap cell content r here reads = read_at-made nk_of heap cell content r here reads

-- the content of a cell that holds a key node
pub key_at-open : (heap : Heap) (cell : ℕ) (r : KeyRecord) → key_at heap cell ≡ Some r → (content : List ℕ) × (heap cell ≡ Some content) × (nk_of content ≡ Ok r)
unfolding key_at
key_at-open heap cell r e = read_at-open nk_of heap cell r e

-- a key node that was read has flags that can be written
pub key-profile : (heap : Heap) (cell : ℕ) (r : KeyRecord) → key_at heap cell ≡ Some r → is_in_profile r.fields.flags ≡ true
key-profile heap cell r e =
    let opened = key_at-open heap cell r e in
    let is = nk-open opened.0 r opened.2 in
    ap (λ (k : KeyRecord). is_in_profile k.fields.flags) is.same ∙ is.profile
