-- Digits and lists of bytes, read one after another.
use Rattle.std.proofs.Common.{◌≡◌, ℕ, ◌+◌, ◌-◌, ◌*◌, ◌<◌, ◌≤◌, ◌^◌, ◌==◌, Bool, false, cond, nat_lt, List, [], ◌∷◌, ◌++◌, length, get_or}
use Rattle.std.proofs.Common.{take, drop, length-drop, Option, Some, None, refl, sym, ap, ◌∙◌, arith, add-one, drop-cons, append_assoc}
use Rattle.std.proofs.Common.{append-nil}
use Rattle.std.specs.Prelude.{option_map, option_and_then}
use Rattle.std.specs.List.{slice_split, position, position_or_len}
use Rattle.std.proofs.Math.Nat.{pow-succ', pow-le-pow_right}
use Rattle.std.proofs.lemmas.Bool.Decides.{nat_tests}
use Rattle.std.proofs.lemmas.List.{drop_all}
use Rattle.std.proofs.lemmas.List.Elements.{All-from_get_or}
use Rattle.std.proofs.lemmas.List.Splits.{slice_split_first, slice_split_none, length-slice_split}
use Rattle.std.proofs.lemmas.List.Sums.{fails_before_first}
use Rattle.hex.specs.Hex.{hex_digit_value}
use Rattle.reg_text.proofs.AppendedBytes.{rest_is}
use Rattle.reg_dotreg_reader.specs.EntryWords.{trimmed, number_after, number_of, byte_of, pieces_bytes, is_comma, list_bytes}

-- ---- numbers

pub number_empty : (limit : ℕ) (digits : List ℕ) → length digits ≡ 0 → number_of limit digits ≡ None
unfolding number_of
number_empty limit digits e = rw e refl

pub number_long : (limit : ℕ) (digits : List ℕ) → limit < length digits → number_of limit digits ≡ None
unfolding number_of
number_long limit digits past = grind (arith, nat_tests)

-- a number of digits that are not too many is that of all of them
number_is : (limit : ℕ) (digits : List ℕ) → 0 < length digits → length digits ≤ limit → number_of limit digits ≡ number_after 0 digits
unfolding number_of
number_is limit digits some within = grind (arith, nat_tests)

digit_step : (digits : List ℕ) (i n : ℕ) → i < length digits →
    number_after n (drop i digits) ≡ option_and_then (λ v. number_after (n * 16 + v) (drop (i + 1) digits)) (hex_digit_value (get_or digits i 0))
unfolding number_after
digit_step digits i n below = rw (add-one, drop-cons digits i 0) refl

pub digit_next : (found : Option ℕ) (digits : List ℕ) (i n v : ℕ) → found ≡ number_after n (drop i digits) → i < length digits →
    hex_digit_value (get_or digits i 0) ≡ Some v → found ≡ number_after (n * 16 + v) (drop (i + 1) digits)
digit_next found digits i n v so_far below is =
    so_far ∙ (digit_step digits i n below ∙
    ap (λ (o : Option ℕ). option_and_then (λ w. number_after (n * 16 + w) (drop (i + 1) digits)) o) is)

pub digit_none : (limit : ℕ) (digits : List ℕ) (i n : ℕ) → number_after 0 digits ≡ number_after n (drop i digits) → i < length digits →
    length digits ≤ limit → hex_digit_value (get_or digits i 0) ≡ None → number_of limit digits ≡ None
digit_none limit digits i n so_far below within is =
    number_is limit digits (omega (arith, below)) within ∙ (so_far ∙ (digit_step digits i n below ∙
    ap (λ (o : Option ℕ). option_and_then (λ w. number_after (n * 16 + w) (drop (i + 1) digits)) o) is))

pub digits_end : (limit : ℕ) (digits : List ℕ) (i n : ℕ) → number_after 0 digits ≡ number_after n (drop i digits) → 0 < length digits →
    length digits ≤ limit → length digits ≤ i → number_of limit digits ≡ Some n
unfolding number_after
digits_end limit digits i n so_far some within past =
    number_is limit digits some within ∙ (so_far ∙ ap (number_after n) (drop_all i digits past))

-- ---- how large they are

pub digit_below : (d v : ℕ) → hex_digit_value d ≡ Some v → v < 16
digit_below d v is = grind (arith, nat_tests)

-- a digit more
pub digits_grow : (i n v : ℕ) → n < 16 ^ i → v < 16 → n * 16 + v < 16 ^ (i + 1)
digits_grow i n v below digit = rw (add-one, pow-succ') (omega arith)

pub digits_within : (i limit n : ℕ) → n < 16 ^ i → i ≤ limit → n < 16 ^ limit
digits_within i limit n below within = let more = pow-le-pow_right {n = 16} (omega arith) within in omega (arith, more)

-- fewer than eight digits leave room for one more
pub digits_fit : (i n : ℕ) → n < 16 ^ i → i < 8 → n * 16 + 15 < 4294967296
digits_fit i n below few =
    let more : n < 16 ^ 7 = digits_within i 7 n below (omega arith) in
    let all : n < 268435456 = more in
    omega arith

-- ---- lists of bytes

pub index_is : (p n index : ℕ) → cond (nat_lt p n) (Some p) None ≡ Some index → (index ≡ p) × (p < n)
index_is p n index e = grind (arith, nat_tests)

pub no_index : (p n : ℕ) → cond (nat_lt p n) (Some p) None ≡ None → n ≤ p
no_index p n e = grind (arith, nat_tests)

-- what stands behind it is shorter
pub behind_shorter : (p : ℕ → Bool) (list : List ℕ) (index : ℕ) → position p list ≡ Some index →
    length (take (length list - (index + 1)) (drop (index + 1) list)) < length list
behind_shorter p list index e =
    let found = index_is (position_or_len p list) (length list) index e in
    let same = ap (λ (w : List ℕ). length w) (rest_is (index + 1) list) in
    let left = length-drop (index + 1) list in
    omega (arith, found.0, found.1, same, left)

-- what stands before the first unit that parts a list, and what behind it
pub split_first : (p : ℕ → Bool) (list : List ℕ) (index : ℕ) → position p list ≡ Some index →
    slice_split p list ≡ take index list ∷ slice_split p (drop (index + 1) list)
split_first p list index e =
    let found = index_is (position_or_len p list) (length list) index e in
    rw (found.0) (slice_split_first p list 0 found.1)

pub split_last : (p : ℕ → Bool) (list : List ℕ) → position p list ≡ None → slice_split p list ≡ list ∷ []
split_last p list e =
    let past = no_index (position_or_len p list) (length list) e in
    slice_split_none p list
    (All-from_get_or (λ x. p x ≡ false) list 0 (λ i below. fails_before_first p list i 0 (omega (arith, past, below))))

pub split_some : (p : ℕ → Bool) (list : List ℕ) → slice_split p list ≡ [] → ⊥
split_some p list e =
    let long = length-slice_split p list in
    omega (arith, long, ap (λ (w : List (List ℕ)). length w) e)

-- a byte, and then those of the pieces behind it
abbrev bytes_then : Option ℕ → Option (List ℕ) → Option (List ℕ)
bytes_then first others = option_and_then (λ byte. option_map (λ bytes. byte ∷ bytes) others) first

pieces_more : (piece : List ℕ) (pieces : List (List ℕ)) → (pieces ≡ [] → ⊥) →
    pieces_bytes (piece ∷ pieces) ≡ bytes_then (byte_of piece) (pieces_bytes pieces)
unfolding pieces_bytes
pieces_more piece [] some = absurd (some refl)
pieces_more piece (next ∷ pieces) some = refl

-- the bytes so far, and then the others
abbrev pub bytes_before : List ℕ → Option (List ℕ) → Option (List ℕ)
bytes_before bytes others = option_map (λ more. bytes ++ more) others

pub bytes_start : (others : Option (List ℕ)) → others ≡ bytes_before [] others
bytes_start None = refl
bytes_start (Some others) = refl

one_more : (bytes : List ℕ) (byte : ℕ) (others : Option (List ℕ)) →
    bytes_before bytes (bytes_then (Some byte) others) ≡ bytes_before (bytes ++ byte ∷ []) others
one_more bytes byte None = refl
one_more bytes byte (Some others) = ap (λ (w : List ℕ). Some w) (sym (append_assoc bytes (byte ∷ []) others))

pub list_start : (list empty : List ℕ) → empty ≡ [] → list_bytes list ≡ bytes_before empty (pieces_bytes (slice_split is_comma list))
unfolding list_bytes
list_start list empty e =
    bytes_start (pieces_bytes (slice_split is_comma list))
    ∙ ap (λ (w : List ℕ). bytes_before w (pieces_bytes (slice_split is_comma list))) (sym e)

split_here : (list bytes rest : List ℕ) (comma : ℕ) → list_bytes list ≡ bytes_before bytes (pieces_bytes (slice_split is_comma rest)) →
    position is_comma rest ≡ Some comma →
    list_bytes list ≡ bytes_before bytes (bytes_then (byte_of (take comma rest)) (pieces_bytes (slice_split is_comma (drop (comma + 1) rest))))
split_here list bytes rest comma so_far at =
    so_far ∙ ap (λ (o : Option (List ℕ)). bytes_before bytes o)
    (ap pieces_bytes (split_first is_comma rest comma at)
    ∙ pieces_more (take comma rest) (slice_split is_comma (drop (comma + 1) rest)) (split_some is_comma (drop (comma + 1) rest)))

pub list_next : (list bytes more rest others : List ℕ) (comma byte : ℕ) →
    list_bytes list ≡ bytes_before bytes (pieces_bytes (slice_split is_comma rest)) → position is_comma rest ≡ Some comma →
    byte_of (take comma rest) ≡ Some byte → others ≡ take (length rest - (comma + 1)) (drop (comma + 1) rest) → more ≡ bytes ++ byte ∷ [] →
    list_bytes list ≡ bytes_before more (pieces_bytes (slice_split is_comma others))
list_next list bytes more rest others comma byte so_far at is left new =
    split_here list bytes rest comma so_far at
    ∙ (ap (λ (o : Option ℕ). bytes_before bytes (bytes_then o (pieces_bytes (slice_split is_comma (drop (comma + 1) rest))))) is
    ∙ (one_more bytes byte (pieces_bytes (slice_split is_comma (drop (comma + 1) rest)))
    ∙ (ap (λ (w : List ℕ). bytes_before w (pieces_bytes (slice_split is_comma (drop (comma + 1) rest)))) (sym new)
    ∙ ap (λ (w : List ℕ). bytes_before more (pieces_bytes (slice_split is_comma w))) (sym (left ∙ rest_is (comma + 1) rest)))))

pub list_none : (list bytes rest : List ℕ) (comma : ℕ) →
    list_bytes list ≡ bytes_before bytes (pieces_bytes (slice_split is_comma rest)) → position is_comma rest ≡ Some comma →
    byte_of (take comma rest) ≡ None → list_bytes list ≡ None
list_none list bytes rest comma so_far at is =
    split_here list bytes rest comma so_far at
    ∙ ap (λ (o : Option ℕ). bytes_before bytes (bytes_then o (pieces_bytes (slice_split is_comma (drop (comma + 1) rest))))) is

-- the last piece
last_piece : (list bytes rest : List ℕ) → list_bytes list ≡ bytes_before bytes (pieces_bytes (slice_split is_comma rest)) →
    position is_comma rest ≡ None → list_bytes list ≡ bytes_before bytes (pieces_bytes (rest ∷ []))
last_piece list bytes rest so_far none =
    so_far ∙ ap (λ (w : List (List ℕ)). bytes_before bytes (pieces_bytes w)) (split_last is_comma rest none)

pub list_blank : (list bytes rest : List ℕ) → list_bytes list ≡ bytes_before bytes (pieces_bytes (slice_split is_comma rest)) →
    position is_comma rest ≡ None → length (trimmed rest) ≡ 0 → list_bytes list ≡ Some bytes
unfolding pieces_bytes
list_blank list bytes rest so_far none blank =
    last_piece list bytes rest so_far none
    ∙ (ap (λ (n : ℕ). bytes_before bytes (cond (n == 0) (Some []) (option_map (λ byte. byte ∷ []) (byte_of rest)))) blank
    ∙ ap (λ (w : List ℕ). Some w) (append-nil bytes))

last_some : (n : ℕ) (bytes : List ℕ) (byte : Option ℕ) → 0 < n →
    bytes_before bytes (cond (n == 0) (Some []) (option_map (λ b. b ∷ []) byte)) ≡ bytes_before bytes (option_map (λ b. b ∷ []) byte)
last_some n bytes byte some =
    let not_zero : (n == 0) ≡ false = grind (arith, nat_tests, some) in
    ap (λ (b : Bool). bytes_before bytes (cond b (Some []) (option_map (λ b. b ∷ []) byte))) not_zero

pub list_last : (list bytes more rest : List ℕ) (byte : ℕ) →
    list_bytes list ≡ bytes_before bytes (pieces_bytes (slice_split is_comma rest)) → position is_comma rest ≡ None →
    0 < length (trimmed rest) → byte_of rest ≡ Some byte → more ≡ bytes ++ byte ∷ [] → list_bytes list ≡ Some more
unfolding pieces_bytes
list_last list bytes more rest byte so_far none some is new =
    last_piece list bytes rest so_far none
    ∙ (last_some (length (trimmed rest)) bytes (byte_of rest) some
    ∙ (ap (λ (o : Option ℕ). bytes_before bytes (option_map (λ b. b ∷ []) o)) is ∙ ap (λ (w : List ℕ). Some w) (sym new)))

-- what isn't empty
pub some_left : (n m : ℕ) (b : Bool) → b ≡ (n == 0) → b ≡ false → n ≡ m → 0 < m
some_left n m b test not same = grind (arith, nat_tests)

pub list_bad : (list bytes rest : List ℕ) → list_bytes list ≡ bytes_before bytes (pieces_bytes (slice_split is_comma rest)) →
    position is_comma rest ≡ None → 0 < length (trimmed rest) → byte_of rest ≡ None → list_bytes list ≡ None
unfolding pieces_bytes
list_bad list bytes rest so_far none some is =
    last_piece list bytes rest so_far none
    ∙ (last_some (length (trimmed rest)) bytes (byte_of rest) some
    ∙ ap (λ (o : Option ℕ). bytes_before bytes (option_map (λ b. b ∷ []) o)) is)

pub ruleset numbers = (number_empty, number_long, digit_none, digit_next, digits_end)

pub ruleset lists = (list_start, list_next, list_none, list_blank, list_last, list_bad)
