-- The units of a file's bytes are those of the text that it was written of.
use Rattle.std.proofs.Common.{◌≡◌, ℕ, ◌+◌, ◌-◌, ◌*◌, ◌/◌, ◌%◌, ◌<◌, ◌≤◌, ◌&&◌, not, Bool, true, false, cond, List, [], ◌∷◌, ◌++◌}
use Rattle.std.proofs.Common.{map, is_some, Option, Some, None, refl, sym, ap, ◌∙◌, subst, arith}
use Rattle.std.specs.Prelude.{flat_map, nat_lt, nat_le, encode_utf8_all, option_map}
use Rattle.std.specs.List.{list_all}
use Rattle.std.specs.Option.{unwrap_or}
use Rattle.std.specs.Str.{all_scalars}
use Rattle.std.specs.Char.Escape.{encode_utf16}
use Rattle.std.specs.Char.Utf16.{utf16_chars, utf16_lossy_chars, is_high_surrogate, is_low_surrogate, lone_unit_char, surrogate_pair_char}
use Rattle.std.proofs.lemmas.Bool.{and_parts, and_from}
use Rattle.std.proofs.lemmas.Bool.Decides.{nat_tests}
use Rattle.std.proofs.lemmas.Str.{chars-encodes}
use Rattle.reg_dotreg_writer.specs.Entries.{unit_bytes, encoded, file_bytes, heading}
use Rattle.reg_dotreg_writer.proofs.EncodedTexts.{IsWell, ascii-before, well-pair, well-lone, well-last, well-unpaired}
use Rattle.reg_dotreg_writer.proofs.EntryUnits.{chars-no_pair, chars-pair}
use Rattle.reg_dotreg_reader.specs.EntryWords.{behind_word}
use Rattle.reg_dotreg_reader.specs.FileUnits.{wide_mark, narrow_mark, wide_units, narrow_units, units_of}
use Rattle.reg_dotreg_reader.proofs.CharacterUnits.{not_marked, narrow_some}

-- ---- two bytes each

wide-back : (units : List ℕ) → wide_units (flat_map unit_bytes units) ≡ Some units
unfolding wide_units
wide-back [] = refl
wide-back (u ∷ units) =
    let same : u % 256 + 256 * (u / 256) ≡ u = omega arith in
    ap (λ (o : Option (List ℕ)). option_map (λ more. (u % 256 + 256 * (u / 256)) ∷ more) o) (wide-back units)
    ∙ ap (λ (n : ℕ). Some (n ∷ units)) same

wide-file : (units : List ℕ) → units_of (file_bytes false units) ≡ Some units
unfolding units_of file_bytes encoded behind_word
wide-file units = wide-back units

-- ---- characters

-- units of 16 bits
abbrev pub is_short : ℕ → Bool
is_short unit = nat_lt unit 65536

-- the characters of well-formed units are such that UTF-8 has, and their units are those
record AreBack (units : List ℕ) (found : List (Option ℕ)) : Type 0 where
  scalars : all_scalars (map (λ (o : Option ℕ). unwrap_or o 65533) found) ≡ true
  same : flat_map encode_utf16 (map (λ (o : Option ℕ). unwrap_or o 65533) found) ≡ units

none-back : AreBack [] (utf16_chars [])
unfolding utf16_chars
none-back = record { scalars = refl; same = refl }

abbrev is_scalar : ℕ → Bool
is_scalar c = cond (nat_lt c 55296) true (nat_le 57344 c && nat_lt c 1114112)

lone-is : (u : ℕ) → not (is_some (lone_unit_char u)) ≡ false → (lone_unit_char u ≡ Some u) × ((nat_le 55296 u && nat_lt u 57344) ≡ false)
lone-is u e = by (nat_le 55296 u && nat_lt u 57344) e
  where
    by : (b : Bool) → not (is_some (cond b None (Some u))) ≡ false → (cond b None (Some u) ≡ Some u) × (b ≡ false)
    by true f = absurd (cc)
    by false f = (refl, refl)

lone-scalar : (u : ℕ) → (nat_le 55296 u && nat_lt u 57344) ≡ false → u < 65536 → is_scalar u ≡ true
lone-scalar u e s = grind (arith, nat_tests)

first-some : (u : ℕ) (rest : List ℕ) (found : List (Option ℕ)) → is_short u ≡ true → is_scalar u ≡ true → AreBack rest found →
    AreBack (u ∷ rest) (Some u ∷ found)
first-some u rest found s c b = record {
  scalars = and_from (is_scalar u) (all_scalars (map (λ (o : Option ℕ). unwrap_or o 65533) found)) c b.scalars;
  same =
      ap (λ (t : Bool). cond t (u ∷ []) ((55296 + (u - 65536) / 1024) ∷ (56320 + (u - 65536) % 1024) ∷ [])
      ++ flat_map encode_utf16 (map (λ (o : Option ℕ). unwrap_or o 65533) found)) s
      ∙ ap (λ (w : List ℕ). u ∷ w) b.same;
}

first-back : (u : ℕ) (rest : List ℕ) (found : List (Option ℕ)) → is_short u ≡ true → not (is_some (lone_unit_char u)) ≡ false → AreBack rest found →
    AreBack (u ∷ rest) (lone_unit_char u ∷ found)
first-back u rest found s e b =
    let l = lone-is u e in
    let small : u < 65536 = grind (arith, nat_tests, s) in
    subst (λ (o : Option ℕ). AreBack (u ∷ rest) (o ∷ found)) (sym l.0) (first-some u rest found s (lone-scalar u l.1 small) b)

-- the character of a pair
record IsOfPair (u v c : ℕ) : Type 0 where
  large : 65536 ≤ c
  below : c < 1114112
  high : 55296 + (c - 65536) / 1024 ≡ u
  low : 56320 + (c - 65536) % 1024 ≡ v

of-pair : (u v : ℕ) → 55296 ≤ u → u < 56320 → 56320 ≤ v → v < 57344 → IsOfPair u v (surrogate_pair_char u v)
of-pair u v a b c d =
    let n : ℕ = (u - 55296) * 1024 + (v - 56320) in
    let left : surrogate_pair_char u v - 65536 ≡ n = omega arith in
    let high : n / 1024 ≡ u - 55296 = omega arith in
    let low : n % 1024 ≡ v - 56320 = omega arith in
    record {
      large = omega arith;
      below = omega arith;
      high = ap (λ (m : ℕ). 55296 + m / 1024) left ∙ (ap (λ (m : ℕ). 55296 + m) high ∙ omega arith);
      low = ap (λ (m : ℕ). 56320 + m % 1024) left ∙ (ap (λ (m : ℕ). 56320 + m) low ∙ omega arith);
    }

pair-by : (u v c : ℕ) (rest : List ℕ) (found : List (Option ℕ)) → IsOfPair u v c → AreBack rest found → AreBack (u ∷ v ∷ rest) (Some c ∷ found)
pair-by u v c rest found p b =
    let large = p.large in
    let below = p.below in
    let good : is_scalar c ≡ true = grind (arith, nat_tests, large, below) in
    let long : nat_lt c 65536 ≡ false = grind (arith, nat_tests, large) in
    let behind : List ℕ = flat_map encode_utf16 (map (λ (o : Option ℕ). unwrap_or o 65533) found) in
    record {
      scalars = and_from (is_scalar c) (all_scalars (map (λ (o : Option ℕ). unwrap_or o 65533) found)) good b.scalars;
      same =
          ap (λ (t : Bool). cond t (c ∷ []) ((55296 + (c - 65536) / 1024) ∷ (56320 + (c - 65536) % 1024) ∷ []) ++ behind) long
          ∙ (ap (λ (m : ℕ). m ∷ (56320 + (c - 65536) % 1024) ∷ behind) p.high
          ∙ (ap (λ (m : ℕ). u ∷ m ∷ behind) p.low ∙ ap (λ (w : List ℕ). u ∷ v ∷ w) b.same));
    }

pair-back : (u v : ℕ) (rest : List ℕ) (found : List (Option ℕ)) → (is_high_surrogate u && is_low_surrogate v) ≡ true → AreBack rest found →
    AreBack (u ∷ v ∷ rest) (Some (surrogate_pair_char u v) ∷ found)
pair-back u v rest found p b =
    let both = and_parts (is_high_surrogate u) (is_low_surrogate v) p in
    let h = and_parts (nat_le 55296 u) (nat_lt u 56320) both.0 in
    let l = and_parts (nat_le 56320 v) (nat_lt v 57344) both.1 in
    pair-by u v (surrogate_pair_char u v) rest found
    (of-pair u v (grind (arith, nat_tests, h.0)) (grind (arith, nat_tests, h.1)) (grind (arith, nat_tests, l.0)) (grind (arith, nat_tests, l.1))) b

chars-by : (u v : ℕ) (rest : List ℕ) (t : Bool) → (is_high_surrogate u && is_low_surrogate v) ≡ t → IsWell (u ∷ v ∷ rest) →
    list_all is_short (u ∷ v ∷ rest) ≡ true → (IsWell rest → list_all is_short rest ≡ true → AreBack rest (utf16_chars rest)) →
    (IsWell (v ∷ rest) → list_all is_short (v ∷ rest) ≡ true → AreBack (v ∷ rest) (utf16_chars (v ∷ rest))) →
    AreBack (u ∷ v ∷ rest) (utf16_chars (u ∷ v ∷ rest))
chars-by u v rest true p w s behind next =
    let all = and_parts (is_short u) (list_all is_short (v ∷ rest)) s in
    let more = and_parts (is_short v) (list_all is_short rest) all.1 in
    subst (AreBack (u ∷ v ∷ rest)) (sym (chars-pair u v rest p)) (pair-back u v rest (utf16_chars rest) p (behind (well-pair u v rest p w) more.1))
chars-by u v rest false n w s behind next =
    let all = and_parts (is_short u) (list_all is_short (v ∷ rest)) s in
    subst (AreBack (u ∷ v ∷ rest)) (sym (chars-no_pair u v rest n))
    (first-back u (v ∷ rest) (utf16_chars (v ∷ rest)) all.0 (well-unpaired u v rest n w) (next (well-lone u v rest n w) all.1))

chars-alone : (u : ℕ) → utf16_chars (u ∷ []) ≡ lone_unit_char u ∷ utf16_chars []
unfolding utf16_chars
chars-alone u = refl

chars-back : (units : List ℕ) → IsWell units → list_all is_short units ≡ true → AreBack units (utf16_chars units)
chars-back [] w s = none-back
chars-back (u ∷ []) w s =
    subst (AreBack (u ∷ [])) (sym (chars-alone u))
    (first-back u [] (utf16_chars []) (and_parts (is_short u) true s).0 (well-last u w) none-back)
chars-back (u ∷ v ∷ rest) w s =
    chars-by u v rest (is_high_surrogate u && is_low_surrogate v) refl w s (λ (x : IsWell rest) y. chars-back rest x y)
    (λ (x : IsWell (v ∷ rest)) y. chars-back (v ∷ rest) x y)

-- ---- UTF-8

abbrev spelt : List ℕ → List ℕ
spelt units = encode_utf8_all (utf16_lossy_chars units)

narrow-back : (units : List ℕ) → IsWell units → list_all is_short units ≡ true → narrow_units (spelt units) ≡ Some units
narrow-back units w s =
    let b = chars-back units w s in
    sym (narrow_some (spelt units) units (utf16_lossy_chars units, (b.scalars, refl))
    (sym (ap (flat_map encode_utf16) (chars-encodes (utf16_lossy_chars units) b.scalars) ∙ b.same)))

-- a text that begins with the heading begins with no mark
headed-bytes : (blocks : List ℕ) → encoded true (heading ++ blocks) ≡ heading ++ encoded true blocks
unfolding heading
headed-bytes blocks = ascii-before true heading blocks refl

not-wide : (rest : List ℕ) → behind_word wide_mark (heading ++ rest) ≡ None
unfolding heading behind_word
not-wide rest = refl

not-narrow : (rest : List ℕ) → behind_word narrow_mark (heading ++ rest) ≡ None
unfolding heading behind_word
not-narrow rest = refl

narrow-file : (blocks : List ℕ) → IsWell (heading ++ blocks) → list_all is_short (heading ++ blocks) ≡ true →
    units_of (file_bytes true (heading ++ blocks)) ≡ Some (heading ++ blocks)
unfolding file_bytes encoded
narrow-file blocks w s =
    let front = headed-bytes blocks in
    not_marked (spelt (heading ++ blocks)) (ap (behind_word wide_mark) front ∙ not-wide (encoded true blocks))
    (ap (behind_word narrow_mark) front ∙ not-narrow (encoded true blocks))
    ∙ narrow-back (heading ++ blocks) w s

pub file-back : (is_utf8 : Bool) (blocks : List ℕ) → IsWell (heading ++ blocks) → list_all is_short (heading ++ blocks) ≡ true →
    units_of (file_bytes is_utf8 (heading ++ blocks)) ≡ Some (heading ++ blocks)
file-back true blocks w s = narrow-file blocks w s
file-back false blocks w s = wide-file (heading ++ blocks)
