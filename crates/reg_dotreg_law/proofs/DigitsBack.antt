-- Digits of bytes and of numbers, read back.
use Rattle.std.proofs.Common.{◌≡◌, ℕ, zero, suc, ◌+◌, ◌*◌, ◌/◌, ◌%◌, ◌^◌, ◌<◌, ◌≤◌, ◌==◌, ◌&&◌, not, Bool, true, false, cond, List, [], ◌∷◌}
use Rattle.std.proofs.Common.{length, get_or, reverse, slice_index, Option, Some, None, refl, ap, ◌∙◌, arith, inl, inr}
use Rattle.std.specs.Prelude.{option_map, option_and_then}
use Rattle.std.specs.Option.{unwrap_or}
use Rattle.std.specs.List.{AllByRecursion, list_all}
use Rattle.std.specs.Int.{to_le_bytes, from_le_bytes, w32}
use Rattle.std.specs.Fmt.{digits, digits_onto, digit_glyph}
use Rattle.std.proofs.Math.Nat.{pow-succ'}
use Rattle.std.proofs.lemmas.Bool.{and_parts, and_from, cases_lt}
use Rattle.std.proofs.lemmas.Bool.Decides.{nat_tests}
use Rattle.std.proofs.lemmas.Nat.{le_bytes_4}
use Rattle.hex.specs.Hex.{hex_digit_value, encode_with, lower_digits}
use Rattle.reg_text.specs.Texts.{digits_text}
use Rattle.reg_dotreg_reader.specs.EntryWords.{number_after, number_of, is_comma}
use Rattle.reg_dotreg_reader.specs.EntryMeanings.{is_close, number_data}
use Rattle.reg_dotreg_law.proofs.LineEnds.{is_solid, is_inline}

-- ---- one digit

-- a unit that parts nothing
abbrev pub is_within : ℕ → Bool
is_within unit = is_solid unit && (is_inline unit && (not (is_comma unit) && not (is_close unit)))

abbrev reads_digit : (ℕ → ℕ) → ℕ → Bool
reads_digit f d = (unwrap_or (hex_digit_value (f d)) 99 == d) && is_within (f d)

abbrev read_all : (ℕ → ℕ) → ℕ → Bool
read_all f zero = true
read_all f (suc n) = reads_digit f n && read_all f n

read-at : (f : ℕ → ℕ) (n d : ℕ) → read_all f n ≡ true → d < n → reads_digit f d ≡ true
read-at f zero d e l = absurd (omega arith)
read-at f (suc n) d e l =
    let both = and_parts (reads_digit f n) (read_all f n) e in
    elim (cases_lt d n) [
      | inl below ↦ read-at f n d both.1 below
      | inr top ↦ let same : d ≡ n = omega arith in rw same both.0
    ]

some-value : (o : Option ℕ) (d : ℕ) → d < 16 → (unwrap_or o 99 == d) ≡ true → o ≡ Some d
some-value (Some v) d l e = let same : v ≡ d = grind (arith, nat_tests, e) in ap Some same
some-value None d l e = absurd (let same : 99 ≡ d = grind (arith, nat_tests, e) in omega arith)

module _ (f : ℕ → ℕ) (good : read_all f 16 ≡ true) where
  pub digit-value : (d : ℕ) → d < 16 → hex_digit_value (f d) ≡ Some d
  digit-value d l =
      some-value (hex_digit_value (f d)) d l
      (and_parts (unwrap_or (hex_digit_value (f d)) 99 == d) (is_within (f d)) (read-at f 16 d good l)).0

  pub digit-within : (d : ℕ) → d < 16 → is_within (f d) ≡ true
  digit-within d l = (and_parts (unwrap_or (hex_digit_value (f d)) 99 == d) (is_within (f d)) (read-at f 16 d good l)).1

  pub digit-first : (n d : ℕ) (rest : List ℕ) → d < 16 → number_after n (f d ∷ rest) ≡ number_after (n * 16 + d) rest
  unfolding number_after
  digit-first n d rest l = ap (λ (o : Option ℕ). option_and_then (λ v. number_after (n * 16 + v) rest) o) (digit-value d l)

abbrev pub low : ℕ → ℕ
low d = slice_index lower_digits d

abbrev pub glyph : ℕ → ℕ
glyph d = digit_glyph false d

pub low-good : read_all low 16 ≡ true
low-good = refl

pub glyph-good : read_all glyph 16 ≡ true
glyph-good = refl

-- ---- a byte

abbrev pub two : ℕ → List ℕ
two b = low (b / 16) ∷ low (b % 16) ∷ []

pub digits-two : (b : ℕ) → digits_text (b ∷ []) ≡ two b
unfolding encode_with
digits-two b = refl

halves : (b : ℕ) → b < 256 → (b / 16 < 16) × (b % 16 < 16)
halves b l = (omega (arith, l), omega (arith, l))

pub high-within : (b : ℕ) → b < 256 → is_within (low (b / 16)) ≡ true
high-within b l = digit-within low low-good (b / 16) (halves b l).0

pub low-within : (b : ℕ) → b < 256 → is_within (low (b % 16)) ≡ true
low-within b l = digit-within low low-good (b % 16) (halves b l).1

none-left : (n : ℕ) → number_after n [] ≡ Some n
unfolding number_after
none-left n = refl

pub two-after : (n b : ℕ) (rest : List ℕ) → b < 256 → number_after n (low (b / 16) ∷ low (b % 16) ∷ rest) ≡ number_after (n * 256 + b) rest
two-after n b rest l =
    let h = halves b l in
    let same : (n * 16 + b / 16) * 16 + b % 16 ≡ n * 256 + b = omega (arith, l) in
    digit-first low low-good n (b / 16) (low (b % 16) ∷ rest) h.0
    ∙ (digit-first low low-good (n * 16 + b / 16) (b % 16) rest h.1 ∙ ap (λ (m : ℕ). number_after m rest) same)

pub byte-back : (b : ℕ) → b < 256 → number_of 2 (two b) ≡ Some b
unfolding number_of
byte-back b l =
    let same : 0 * 256 + b ≡ b = omega arith in
    two-after 0 b [] l ∙ (none-left (0 * 256 + b) ∙ ap Some same)

-- ---- a number of 4 bytes

small-at : (a b c d : ℕ) → a < 256 → b < 256 → c < 256 → d < 256 → (i : ℕ) → get_or (a ∷ b ∷ c ∷ d ∷ []) i 0 < 256
small-at a b c d p q r s zero = p
small-at a b c d p q r s (suc zero) = q
small-at a b c d p q r s (suc (suc zero)) = r
small-at a b c d p q r s (suc (suc (suc zero))) = s
small-at a b c d p q r s (suc (suc (suc (suc i)))) = omega arith

four-back : (a b c d : ℕ) → a < 256 → b < 256 → c < 256 → d < 256 →
    number_data (digits_text (reverse (a ∷ b ∷ c ∷ d ∷ []))) ≡ Some (4, a ∷ b ∷ c ∷ d ∷ [])
unfolding number_data number_of encode_with
four-back a b c d p q r s =
    let n : ℕ = ((((0 * 256 + d) * 256 + c) * 256 + b) * 256) + a in
    let read : number_after 0 (digits_text (reverse (a ∷ b ∷ c ∷ d ∷ []))) ≡ Some n =
    two-after 0 d (low (c / 16) ∷ low (c % 16) ∷ low (b / 16) ∷ low (b % 16) ∷ two a) s
    ∙ (two-after (0 * 256 + d) c (low (b / 16) ∷ low (b % 16) ∷ two a) r
    ∙ (two-after ((0 * 256 + d) * 256 + c) b (two a) q
    ∙ (two-after (((0 * 256 + d) * 256 + c) * 256 + b) a [] p ∙ none-left n))) in
    let whole : n ≡ from_le_bytes w32 (a ∷ b ∷ c ∷ d ∷ []) = omega arith in
    ap (λ (o : Option ℕ). option_map (λ number. (4, to_le_bytes w32 number)) o) read
    ∙ ap (λ (w : List ℕ). Some (4, w)) (le_bytes_4 (a ∷ b ∷ c ∷ d ∷ []) n refl (small-at a b c d p q r s) whole)

pub number-back : (bytes : List ℕ) → AllByRecursion (λ (b : ℕ). b < 256) bytes → length bytes ≡ 4 →
    number_data (digits_text (reverse bytes)) ≡ Some (4, bytes)
number-back [] a l = absurd (omega (arith, l))
number-back (x ∷ []) a l = absurd (omega (arith, l))
number-back (x ∷ y ∷ []) a l = absurd (omega (arith, l))
number-back (x ∷ y ∷ z ∷ []) a l = absurd (omega (arith, l))
number-back (x ∷ y ∷ z ∷ v ∷ []) a l = four-back x y z v a.0 a.1.0 a.1.1.0 a.1.1.1.0
number-back (x ∷ y ∷ z ∷ v ∷ w ∷ bytes) a l = absurd (omega (arith, l))

-- ---- the digits of a type

module _ (p : ℕ → Bool) (each : (d : ℕ) → d < 16 → p (glyph d) ≡ true) where
  pub onto-all : (k n : ℕ) (acc : List ℕ) → list_all p acc ≡ true → list_all p (digits_onto k 16 false n acc) ≡ true
  onto-all zero n acc e = e
  onto-all (suc k) n acc e =
      let more : list_all p (glyph (n % 16) ∷ acc) ≡ true = and_from (p (glyph (n % 16))) (list_all p acc) (each (n % 16) (omega arith)) e in
      by (n / 16 == 0) more (onto-all k (n / 16) (glyph (n % 16) ∷ acc) more)
    where
      by : (b : Bool) → list_all p (glyph (n % 16) ∷ acc) ≡ true →
          list_all p (digits_onto k 16 false (n / 16) (glyph (n % 16) ∷ acc)) ≡ true →
          list_all p (cond b (glyph (n % 16) ∷ acc) (digits_onto k 16 false (n / 16) (glyph (n % 16) ∷ acc))) ≡ true
      by true one rest = one
      by false one rest = rest

-- what the digits of a number are, before some others
pub record IsOnto (n j : ℕ) (acc all : List ℕ) : Type 0 where
  pub value : number_after 0 all ≡ number_after n acc
  pub some : 0 < length all
  pub few : length all ≤ j + length acc

onto-by : (k j n : ℕ) (acc : List ℕ) (b : Bool) → (n / 16 == 0) ≡ b →
    ((n / 16 == 0) ≡ false → IsOnto (n / 16) j (glyph (n % 16) ∷ acc) (digits_onto k 16 false (n / 16) (glyph (n % 16) ∷ acc))) →
    IsOnto n (suc j) acc (cond b (glyph (n % 16) ∷ acc) (digits_onto k 16 false (n / 16) (glyph (n % 16) ∷ acc)))
onto-by k j n acc true e rest =
    let none : n / 16 ≡ 0 = grind (arith, nat_tests, e) in
    let same : 0 * 16 + n % 16 ≡ n = omega (arith, none) in
    record {
      value = digit-first glyph glyph-good 0 (n % 16) acc (omega arith) ∙ ap (λ (m : ℕ). number_after m acc) same;
      some = omega arith;
      few = omega arith;
    }
onto-by k j n acc false e rest =
    let r = rest e in
    let same : n / 16 * 16 + n % 16 ≡ n = omega arith in
    record {
      value =
          r.value
          ∙ (digit-first glyph glyph-good (n / 16) (n % 16) acc (omega arith) ∙ ap (λ (m : ℕ). number_after m acc) same);
      some = r.some;
      few = let f = r.few in omega (arith, f);
    }

onto-is : (k j n : ℕ) (acc : List ℕ) → suc j ≤ k → n < 16 ^ (suc j) → IsOnto n (suc j) acc (digits_onto k 16 false n acc)
onto-is zero j n acc l b = absurd (omega (arith, l))
onto-is (suc k) zero n acc l b =
    onto-by k zero n acc (n / 16 == 0) refl
    (λ e. absurd (let m : n < 16 = b in let z : n / 16 ≡ 0 = omega (arith, m) in let t = ap (λ (x : ℕ). x == 0) z in cc))
onto-is (suc k) (suc j) n acc l b =
    let m : n < 16 * 16 ^ (suc j) = rw pow-succ' at b in
    onto-by k (suc j) n acc (n / 16 == 0) refl
    (λ e. onto-is k j (n / 16) (glyph (n % 16) ∷ acc) (omega (arith, l)) (omega (arith, m)))

pub kind-back : (kind : ℕ) → kind < 4294967296 → number_of 8 (digits 16 false kind) ≡ Some kind
unfolding digits number_of
kind-back kind l =
    let i = onto-is 64 7 kind [] (omega arith) l in
    by (digits_onto 64 16 false kind []) i.value i.some i.few
  where
    by : (ds : List ℕ) → number_after 0 ds ≡ number_after kind [] → 0 < length ds → length ds ≤ 8 + length {A = ℕ} [] →
        number_of 8 ds ≡ Some kind
    by ds v s f =
        let test : number_of 8 ds ≡ number_after 0 ds = grind (arith, nat_tests) in
        test ∙ (v ∙ none-left kind)

pub kind-within : (kind : ℕ) → list_all is_within (digits 16 false kind) ≡ true
unfolding digits
kind-within kind = onto-all is_within (digit-within glyph glyph-good) 64 kind [] refl
