-- Lists of bytes in digits, parted by commas and joined from rows, read back.
use Rattle.std.proofs.Common.{◌≡◌, ℕ, zero, suc, ◌+◌, ◌/◌, ◌%◌, ◌<◌, ◌==◌, ◌&&◌, not, Bool, true, false, cond, List, [], ◌∷◌, ◌++◌}
use Rattle.std.proofs.Common.{length, drop, Option, Some, refl, sym, ap, ◌∙◌, append_assoc}
use Rattle.std.specs.Prelude.{option_map, option_and_then}
use Rattle.std.specs.List.{All, AllByRecursion, slice_split, prefix_len}
use Rattle.std.proofs.lemmas.Bool.{and_parts, not-true}
use Rattle.std.proofs.lemmas.List.Elements.{All-nil, All-cons}
use Rattle.std.proofs.lemmas.List.Splits.{slice_split_at, slice_split_none}
use Rattle.reg_dotreg_reader.specs.EntryWords.{is_blank, behind_blanks, before_blanks, trimmed, number_of, byte_of, pieces_bytes, is_comma, list_bytes}
use Rattle.reg_dotreg_reader.specs.EntryMeanings.{is_close}
use Rattle.reg_dotreg_reader.proofs.DigitLists.{split_some}
use Rattle.reg_dotreg_law.proofs.LineEnds.{is_solid, is_inline, Ends, ends-one, ends-behind, ends-blanks}
use Rattle.reg_dotreg_law.proofs.DigitsBack.{is_within, low, two, high-within, low-within, byte-back}

-- ---- a piece

pub within-solid : (u : ℕ) → is_within u ≡ true → is_solid u ≡ true
within-solid u e = (and_parts (is_solid u) (is_inline u && (not (is_comma u) && not (is_close u))) e).0

pub solid-not_blank : (u : ℕ) → is_solid u ≡ true → is_blank u ≡ false
solid-not_blank u e = not-true (is_blank u) (and_parts (not (is_blank u)) (not (u == 92)) e).0

pub within-inline : (u : ℕ) → is_within u ≡ true → is_inline u ≡ true
within-inline u e =
    (and_parts (is_inline u) (not (is_comma u) && not (is_close u))
    (and_parts (is_solid u) (is_inline u && (not (is_comma u) && not (is_close u))) e).1).0

within-not_comma : (u : ℕ) → is_within u ≡ true → is_comma u ≡ false
within-not_comma u e =
    not-true (is_comma u)
    (and_parts (not (is_comma u)) (not (is_close u))
    (and_parts (is_inline u) (not (is_comma u) && not (is_close u))
    (and_parts (is_solid u) (is_inline u && (not (is_comma u) && not (is_close u))) e).1).1).0

-- what stands before a piece: nothing, or what is left of the end of a row and the blanks of the next
abbrev pub gap : Bool → List ℕ
gap false = []
gap true = 10 ∷ 32 ∷ 32 ∷ []

pub gap-passed : (g : Bool) (u : ℕ) (rest : List ℕ) → is_blank u ≡ false → behind_blanks (gap g ++ u ∷ rest) ≡ u ∷ rest
unfolding behind_blanks
gap-passed false u rest e = ap (λ (b : Bool). drop (cond b (1 + prefix_len is_blank rest) 0) (u ∷ rest)) e
gap-passed true u rest e =
    ap (λ (b : Bool). drop (1 + (1 + (1 + cond b (1 + prefix_len is_blank rest) 0))) (10 ∷ 32 ∷ 32 ∷ u ∷ rest)) e

two-ends : (b : ℕ) → b < 256 → Ends (two b)
two-ends b l = ends-behind (low (b / 16) ∷ []) (low (b % 16) ∷ []) (ends-one (low (b % 16)) (within-solid (low (b % 16)) (low-within b l)))

piece-trimmed : (g : Bool) (b : ℕ) → b < 256 → trimmed (gap g ++ two b) ≡ two b
piece-trimmed g b l =
    ap before_blanks
    (gap-passed g (low (b / 16)) (low (b % 16) ∷ []) (solid-not_blank (low (b / 16)) (within-solid (low (b / 16)) (high-within b l))))
    ∙ ends-blanks (two b) (two-ends b l)

piece-byte : (g : Bool) (b : ℕ) → b < 256 → byte_of (gap g ++ two b) ≡ Some b
piece-byte g b l = ap (number_of 2) (piece-trimmed g b l) ∙ byte-back b l

abbrev NoComma : List ℕ → Type 0
NoComma units = All (λ u. is_comma u ≡ false) units

two-whole : (b : ℕ) → b < 256 → NoComma (two b)
two-whole b l =
    All-cons (λ u. is_comma u ≡ false) (low (b / 16)) (low (b % 16) ∷ []) (within-not_comma (low (b / 16)) (high-within b l))
    (All-cons (λ u. is_comma u ≡ false) (low (b % 16)) [] (within-not_comma (low (b % 16)) (low-within b l)) (All-nil (λ u. is_comma u ≡ false)))

piece-whole : (g : Bool) (b : ℕ) → b < 256 → NoComma (gap g ++ two b)
piece-whole false b l = two-whole b l
piece-whole true b l =
    All-cons (λ u. is_comma u ≡ false) 10 (32 ∷ 32 ∷ two b) refl
    (All-cons (λ u. is_comma u ≡ false) 32 (32 ∷ two b) refl
    (All-cons (λ u. is_comma u ≡ false) 32 (two b) refl (two-whole b l)))

-- ---- pieces

-- the bytes of a list in rows that are joined: LF and two blanks stand where a row ended
abbrev pub list_from : (room : ℕ) → List ℕ → List ℕ
list_from room [] = []
list_from room (b ∷ []) = two b
list_from zero (b ∷ next ∷ bytes) = two b ++ (44 ∷ (gap true ++ list_from 24 (next ∷ bytes)))
list_from (suc room) (b ∷ next ∷ bytes) = two b ++ (44 ∷ list_from room (next ∷ bytes))

pieces-more : (piece : List ℕ) (pieces : List (List ℕ)) → (pieces ≡ [] → ⊥) → pieces_bytes (piece ∷ pieces) ≡
    option_and_then (λ byte. option_map (λ bytes. byte ∷ bytes) (pieces_bytes pieces)) (byte_of piece)
unfolding pieces_bytes
pieces-more piece [] some = absurd (some refl)
pieces-more piece (next ∷ pieces) some = refl

last-piece : (piece : List ℕ) (b : ℕ) → trimmed piece ≡ two b → b < 256 → pieces_bytes (piece ∷ []) ≡ Some (b ∷ [])
unfolding pieces_bytes
last-piece piece b e l =
    ap (λ (w : List ℕ). cond (length w == 0) (Some []) (option_map (λ byte. byte ∷ []) (number_of 2 w))) e
    ∙ ap (λ (o : Option ℕ). option_map (λ byte. byte ∷ []) o) (byte-back b l)

one-back : (g : Bool) (b : ℕ) → b < 256 → list_bytes (gap g ++ two b) ≡ Some (b ∷ [])
unfolding list_bytes
one-back g b l =
    ap pieces_bytes (slice_split_none is_comma (gap g ++ two b) (piece-whole g b l))
    ∙ last-piece (gap g ++ two b) b (piece-trimmed g b l) l

more-back : (g : Bool) (b : ℕ) (others bytes : List ℕ) → b < 256 → list_bytes others ≡ Some bytes →
    list_bytes (gap g ++ (two b ++ 44 ∷ others)) ≡ Some (b ∷ bytes)
unfolding list_bytes
more-back g b others bytes l e =
    ap pieces_bytes
    (ap (slice_split is_comma) (sym (append_assoc (gap g) (two b) (44 ∷ others)))
    ∙ slice_split_at is_comma (gap g ++ two b) 44 others (piece-whole g b l) refl)
    ∙ (pieces-more (gap g ++ two b) (slice_split is_comma others) (split_some is_comma others)
    ∙ (ap (λ (o : Option ℕ). option_and_then (λ byte. option_map (λ bytes. byte ∷ bytes) (pieces_bytes (slice_split is_comma others))) o)
    (piece-byte g b l)
    ∙ ap (λ (o : Option (List ℕ)). option_map (λ bytes. b ∷ bytes) o) e))

abbrev pub AreBytes : List ℕ → Type 0
AreBytes bytes = AllByRecursion (λ (b : ℕ). b < 256) bytes

list-back : (g : Bool) (room b : ℕ) (bytes : List ℕ) → AreBytes (b ∷ bytes) → list_bytes (gap g ++ list_from room (b ∷ bytes)) ≡ Some (b ∷ bytes)
list-back g room b [] a = one-back g b a.0
list-back g zero b (next ∷ bytes) a =
    more-back g b (gap true ++ list_from 24 (next ∷ bytes)) (next ∷ bytes) a.0 (list-back true 24 next bytes a.1)
list-back g (suc room) b (next ∷ bytes) a =
    more-back g b (list_from room (next ∷ bytes)) (next ∷ bytes) a.0 (list-back false room next bytes a.1)

none-back : list_bytes [] ≡ Some []
unfolding list_bytes pieces_bytes behind_blanks before_blanks
none-back = refl

pub bytes-back : (bytes : List ℕ) → AreBytes bytes → list_bytes (list_from 24 bytes) ≡ Some bytes
bytes-back [] a = none-back
bytes-back (b ∷ bytes) a = list-back false 24 b bytes a

-- they end in a digit
pub list-ends : (room b : ℕ) (bytes : List ℕ) → AreBytes (b ∷ bytes) → Ends (list_from room (b ∷ bytes))
list-ends room b [] a = two-ends b a.0
list-ends zero b (next ∷ bytes) a =
    ends-behind (two b) (44 ∷ (gap true ++ list_from 24 (next ∷ bytes)))
    (ends-behind (44 ∷ gap true) (list_from 24 (next ∷ bytes)) (list-ends 24 next bytes a.1))
list-ends (suc room) b (next ∷ bytes) a =
    ends-behind (two b) (44 ∷ list_from room (next ∷ bytes))
    (ends-behind (44 ∷ []) (list_from room (next ∷ bytes)) (list-ends room next bytes a.1))
