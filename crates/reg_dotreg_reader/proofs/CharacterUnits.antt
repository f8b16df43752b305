-- The units of bytes and of characters, one after another.
use Rattle.std.proofs.Common.{◌≡◌, ℕ, suc, ◌+◌, ◌*◌, ◌/◌, ◌%◌, ◌≢◌, ◌<◌, Bool, true, false, cond, List, [], ◌∷◌, ◌++◌, length, get_or, take, drop}
use Rattle.std.proofs.Common.{Option, Some, None, chars, IsUtf8, refl, sym, ap, subst, ◌∙◌, arith, append_assoc, append-nil}
use Rattle.std.specs.Prelude.{option_map, flat_map}
use Rattle.std.specs.Str.{is_utf8}
use Rattle.std.specs.Char.Escape.{encode_utf16}
use Rattle.byteorder.specs.Endian.{IsRead, little_number}
use Rattle.std.proofs.lemmas.List.{take_all, drop_all}
use Rattle.std.proofs.lemmas.Bool.Decides.{nat_tests}
use Rattle.std.proofs.lemmas.Str.{is_utf8-from_IsUtf8, IsUtf8-from_is_utf8, IsUtf8-from_ascii, chars-IsAscii}
use Rattle.std.specs.Str.{IsAscii}
use Rattle.reg_dotreg_reader.specs.EntryWords.{behind_word}
use Rattle.reg_dotreg_reader.specs.FileUnits.{wide_mark, narrow_mark, wide_units, narrow_units, units_of}

-- ---- two bytes each

-- units that are read at every second place
pub wide_is : (bytes units : List ℕ) → length bytes ≡ 2 * length units →
    ((k : ℕ) → k < length units → get_or units k 0 ≡ get_or (drop (2 * k) bytes) 0 0 + 256 * get_or (drop (2 * k) bytes) 1 0) → Some units ≡ wide_units bytes
unfolding wide_units
wide_is [] [] long read = refl
wide_is [] (unit ∷ units) long read = absurd (omega (arith, long))
wide_is (low ∷ bytes) [] long read = absurd (omega (arith, long))
wide_is (low ∷ []) (unit ∷ units) long read = absurd (omega (arith, long))
wide_is (low ∷ high ∷ bytes) (unit ∷ units) long read =
    let behind : (k : ℕ) → k < length units → get_or units k 0 ≡ get_or (drop (2 * k) bytes) 0 0 + 256 * get_or (drop (2 * k) bytes) 1 0 =
    λ k below.
    let at : 2 * (suc k) ≡ suc (suc (2 * k)) = omega arith in
    subst (λ (n : ℕ). get_or units k 0 ≡ get_or (drop n (low ∷ high ∷ bytes)) 0 0 + 256 * get_or (drop n (low ∷ high ∷ bytes)) 1 0) at
    (read (suc k) (omega (arith, below))) in
    let here : unit ≡ low + 256 * high = read 0 (omega arith) in
    ap (λ (o : Option (List ℕ)). option_map (λ more. unit ∷ more) o) (wide_is bytes units (omega (arith, long)) behind)
    ∙ ap (λ (u : ℕ). option_map (λ more. u ∷ more) (wide_units bytes)) here

-- a last byte is alone
pub wide_odd : (bytes : List ℕ) → length bytes % 2 ≢ 0 → None ≡ wide_units bytes
unfolding wide_units
wide_odd [] odd = absurd (odd refl)
wide_odd (low ∷ []) odd = refl
wide_odd (low ∷ high ∷ bytes) odd =
    ap (λ (o : Option (List ℕ)). option_map (λ units. (low + 256 * high) ∷ units) o)
    (wide_odd bytes (λ even. odd (let e : length (low ∷ high ∷ bytes) ≡ length bytes + 2 = omega arith in omega (arith, even, e))))

-- what a vector holds of which each unit was read
pub wide_read : (bytes read items : List ℕ) (count : ℕ) → length read ≡ length items → length items ≡ count → count ≡ length bytes / 2 →
    length bytes % 2 ≡ 0 → IsRead little_number 2 bytes read → Some (take count (read ++ drop (length read) items)) ≡ wide_units bytes
wide_read bytes read items count same counted half even is =
    let whole : take count (read ++ drop (length read) items) ≡ read =
    ap (λ (rest : List ℕ). take count (read ++ rest)) (drop_all (length read) items (omega (arith, same)))
    ∙ ap (take count) (append-nil read) ∙ take_all count read (omega (arith, same, counted)) in
    ap (λ (w : List ℕ). Some w) whole
    ∙ wide_is bytes read (omega (arith, same, half, even)) (λ k below. is k below ∙ omega arith)

-- ---- characters

pub character_more : (units new : List ℕ) (c : ℕ) (all rest later : List ℕ) → units ++ flat_map encode_utf16 rest ≡ all → rest ≡ c ∷ later →
    new ≡ units ++ encode_utf16 c → new ++ flat_map encode_utf16 later ≡ all
character_more units new c all rest later so_far e n =
    ap (λ (w : List ℕ). w ++ flat_map encode_utf16 later) n
    ∙ (append_assoc units (encode_utf16 c) (flat_map encode_utf16 later)
    ∙ (ap (λ (w : List ℕ). units ++ flat_map encode_utf16 w) (sym e) ∙ so_far))

pub character_end : (units all rest : List ℕ) → units ++ flat_map encode_utf16 rest ≡ all → rest ≡ [] → units ≡ all
character_end units all rest so_far e =
    sym (append-nil units) ∙ (ap (λ (w : List ℕ). units ++ flat_map encode_utf16 w) (sym e) ∙ so_far)

-- ---- UTF-8 or not

pub narrow_some : (bytes units : List ℕ) → IsUtf8 bytes → units ≡ flat_map encode_utf16 (chars bytes) → Some units ≡ narrow_units bytes
unfolding narrow_units
narrow_some bytes units is e =
    ap (λ (w : List ℕ). Some w) e ∙ ap (λ (b : Bool). cond b (Some (flat_map encode_utf16 (chars bytes))) None) (sym (is_utf8-from_IsUtf8 bytes is))

-- ASCII is UTF-8, and of one unit for each byte
plain_unit : (c : ℕ) → c < 128 → encode_utf16 c ≡ c ∷ []
plain_unit c below = grind (arith, nat_tests, below)

plain_units : (bytes : List ℕ) → IsAscii bytes → flat_map encode_utf16 bytes ≡ bytes
plain_units [] is = refl
plain_units (byte ∷ bytes) is = ap (λ (w : List ℕ). w ++ flat_map encode_utf16 bytes) (plain_unit byte (is 0))
    ∙ ap (λ (w : List ℕ). byte ∷ w) (plain_units bytes (λ i. is (suc i)))

pub narrow_plain : (bytes units : List ℕ) → IsAscii bytes → units ≡ bytes → Some units ≡ narrow_units bytes
narrow_plain bytes units is e =
    narrow_some bytes units (IsUtf8-from_ascii bytes is)
    (e ∙ sym (plain_units bytes is) ∙ ap (flat_map encode_utf16) (sym (chars-IsAscii bytes is)))

not_true : (b : Bool) → (b ≡ true → ⊥) → b ≡ false
not_true true n = absurd (n refl)
not_true false n = refl

pub narrow_none : (bytes : List ℕ) → ¬ (IsUtf8 bytes) → None ≡ narrow_units bytes
unfolding narrow_units
narrow_none bytes not =
    ap (λ (b : Bool). cond b (Some (flat_map encode_utf16 (chars bytes))) None) (sym (not_true (is_utf8 bytes) (λ e. not (IsUtf8-from_is_utf8 bytes e))))

-- ---- marks

pub marked_wide : (bytes rest : List ℕ) → behind_word wide_mark bytes ≡ Some rest → units_of bytes ≡ wide_units rest
unfolding units_of
marked_wide bytes rest e = rw e refl

pub marked_narrow : (bytes rest : List ℕ) → behind_word wide_mark bytes ≡ None → behind_word narrow_mark bytes ≡ Some rest →
    units_of bytes ≡ narrow_units rest
unfolding units_of
marked_narrow bytes rest e f = rw (e, f) refl

pub not_marked : (bytes : List ℕ) → behind_word wide_mark bytes ≡ None → behind_word narrow_mark bytes ≡ None →
    units_of bytes ≡ narrow_units bytes
unfolding units_of
not_marked bytes e f = rw (e, f) refl

pub ruleset marks = (marked_wide, marked_narrow, not_marked)
