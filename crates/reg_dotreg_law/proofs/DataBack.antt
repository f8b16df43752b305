-- The name and the data of a value's line, read back.
use Rattle.std.proofs.Common.{◌≡◌, ℕ, suc, ◌+◌, ◌<◌, ◌==◌, ◌&&◌, not, Bool, true, false, cond, List, [], ◌∷◌, ◌++◌, length}
use Rattle.std.proofs.Common.{take, drop, Option, Some, None, refl, ap, ◌∙◌, arith, append_assoc}
use Rattle.std.specs.Prelude.{flat_map, codes, option_map, option_and_then}
use Rattle.std.specs.List.{list_all, before_first, after_first, position_or_len}
use Rattle.std.specs.Fmt.{digits}
use Rattle.std.specs.Str.{bytes_eq}
use Rattle.std.proofs.lemmas.Bool.{and_parts, and_from, not-true}
use Rattle.reg_names.specs.Names.{is_value_name}
use Rattle.reg_dotreg_writer.specs.EntryTexts.{quoted_unit, name_told}
use Rattle.reg_dotreg_writer.specs.EntryTexts.{quoted as between}
use Rattle.reg_dotreg_writer.specs.Entries.{unit_bytes}
use Rattle.reg_dotreg_reader.specs.declared.entry.Entry.TheVariants.{Value, GoneValue}
use Rattle.reg_dotreg_reader.specs.EntryWords.{behind_blanks, behind_word, quoted, number_of, is_comma}
use Rattle.reg_dotreg_reader.specs.EntryWords.{unit_bytes as bytes_of_units}
use Rattle.reg_dotreg_reader.specs.EntryMeanings.{if_name, name_read, text_data, number_data, kind_data, bytes_data}
use Rattle.reg_dotreg_reader.specs.EntryMeanings.{data_of, valued, value_said, typed_bytes, stored}
use Rattle.reg_dotreg_reader.specs.EntryMeanings.{is_close}
use Rattle.reg_dotreg_law.proofs.LineEnds.{is_solid, is_inline, are_inline}
use Rattle.reg_dotreg_law.proofs.QuotesBack.{quotes-back}
use Rattle.reg_dotreg_law.proofs.DigitsBack.{is_within, kind-back, kind-within}
use Rattle.reg_dotreg_law.proofs.ListsBack.{AreBytes, list_from, bytes-back, gap-passed, solid-not_blank}

-- ---- the name

if-named : (name rest : List ℕ) → is_value_name name ≡ true → are_inline name ≡ true → if_name (name, rest) ≡ Some (name, rest)
if-named name rest e i = ap (λ (b : Bool). cond b (Some (name, rest)) None) (and_from (is_value_name name) (are_inline name) e i)

pub name-back : (name rest : List ℕ) → is_value_name name ≡ true → are_inline name ≡ true → name_read (name_told name ++ rest) ≡ Some (name, rest)
unfolding name_read behind_word between
name-back [] rest e i = refl
name-back (b ∷ name) rest e i =
    ap (λ (w : List ℕ). option_and_then if_name (quoted w)) (append_assoc (flat_map quoted_unit (b ∷ name)) (34 ∷ []) rest)
    ∙ (ap (λ (o : Option (List ℕ × List ℕ)). option_and_then if_name o) (quotes-back (b ∷ name) rest) ∙ if-named (b ∷ name) rest e i)

-- ---- the whole line

not-dash : (u : ℕ) (given : List ℕ) → (u == 45) ≡ false → bytes_eq (u ∷ given) (codes "-") ≡ false
not-dash u given e = ap (λ (b : Bool). b && bytes_eq given []) e

pub said-back : (name given : List ℕ) (u kind : ℕ) (bytes : List ℕ) → is_value_name name ≡ true → are_inline name ≡ true → is_solid u ≡ true →
    (u == 45) ≡ false → data_of false (u ∷ given) ≡ Some (kind, bytes) → value_said false (name_told name ++ 61 ∷ u ∷ given) ≡ Some (Value name kind bytes)
unfolding value_said behind_blanks behind_word valued
said-back name given u kind bytes e i s n d =
    ap (λ (o : Option (List ℕ × List ℕ)). option_and_then (λ (read : List ℕ × List ℕ).
    option_and_then (λ rest. valued false read.0 (behind_blanks rest)) (behind_word (codes "=") (behind_blanks read.1))) o)
    (name-back name (61 ∷ u ∷ given) e i)
    ∙ (ap (valued false name) (gap-passed false u given (solid-not_blank u s))
    ∙ (ap (λ (b : Bool). cond b (Some (GoneValue name)) (option_map (λ (d : ℕ × List ℕ). Value name d.0 d.1) (data_of false (u ∷ given))))
    (not-dash u given n)
    ∙ ap (λ (o : Option (ℕ × List ℕ)). option_map (λ (d : ℕ × List ℕ). Value name d.0 d.1) o) d))

-- ---- a text

pub units-same : (units : List ℕ) → bytes_of_units units ≡ flat_map unit_bytes units
unfolding bytes_of_units
units-same [] = refl
units-same (u ∷ units) = ap (λ (w : List ℕ). unit_bytes u ++ w) (units-same units)

text-data : (text : List ℕ) → text_data (flat_map quoted_unit text ++ 34 ∷ []) ≡ Some (1, bytes_of_units (text ++ 0 ∷ []))
unfolding text_data
text-data text =
    ap (λ (o : Option (List ℕ × List ℕ)).
    option_and_then (λ read. cond (length read.1 == 0) (Some (1, bytes_of_units (read.0 ++ 0 ∷ []))) None) o) (quotes-back text [])

pub text-back : (text bytes : List ℕ) → flat_map unit_bytes (text ++ 0 ∷ []) ≡ bytes →
    data_of false (34 ∷ (flat_map quoted_unit text ++ 34 ∷ [])) ≡ Some (1, bytes)
unfolding data_of behind_word
text-back text bytes e = text-data text ∙ ap (λ (w : List ℕ). Some (1, w)) (units-same (text ++ 0 ∷ []) ∙ e)

-- ---- a number, and bytes

pub dword-back : (ds : List ℕ) (read : ℕ × List ℕ) → number_data ds ≡ Some read → data_of false (codes "dword:" ++ ds) ≡ Some read
unfolding data_of behind_word
dword-back ds read e = e

typed-back : (kind : ℕ) (bytes : List ℕ) → AreBytes bytes → typed_bytes false kind (list_from 24 bytes) ≡ Some (kind, bytes)
typed-back kind bytes a = ap (λ (o : Option (List ℕ)). option_map (λ bytes. (kind, bytes)) (option_and_then (stored false kind) o)) (bytes-back bytes a)

pub binary-back : (bytes : List ℕ) → AreBytes bytes → data_of false (codes "hex:" ++ list_from 24 bytes) ≡ Some (3, bytes)
unfolding data_of behind_word bytes_data
binary-back bytes a = typed-back 3 bytes a

within-open : (u : ℕ) → is_within u ≡ true → is_close u ≡ false
within-open u e =
    not-true (is_close u)
    (and_parts (not (is_comma u)) (not (is_close u))
    (and_parts (is_inline u) (not (is_comma u) && not (is_close u))
    (and_parts (is_solid u) (is_inline u && (not (is_comma u) && not (is_close u))) e).1).1).1

close-at : (ds rest : List ℕ) → list_all is_within ds ≡ true → position_or_len is_close (ds ++ 41 ∷ rest) ≡ length ds
close-at [] rest e = refl
close-at (d ∷ ds) rest e =
    let both = and_parts (is_within d) (list_all is_within ds) e in
    let next : 1 + position_or_len is_close (ds ++ 41 ∷ rest) ≡ length (d ∷ ds) = let n = close-at ds rest both.1 in omega (arith, n) in
    ap (λ (b : Bool). cond (not b) (1 + position_or_len is_close (ds ++ 41 ∷ rest)) 0) (within-open d both.0) ∙ next

front-of : (ds rest : List ℕ) → take (length ds) (ds ++ rest) ≡ ds
front-of [] [] = refl
front-of [] (r ∷ rest) = refl
front-of (d ∷ ds) rest = ap (λ (w : List ℕ). d ∷ w) (front-of ds rest)

behind-of : (ds rest : List ℕ) (u : ℕ) → drop (length ds + 1) (ds ++ u ∷ rest) ≡ rest
behind-of [] rest u = refl
behind-of (d ∷ ds) rest u =
    let one : length (d ∷ ds) + 1 ≡ suc (length ds + 1) = omega arith in
    ap (λ (n : ℕ). drop n (d ∷ (ds ++ u ∷ rest))) one ∙ behind-of ds rest u

kind-data : (ds : List ℕ) (kind : ℕ) (bytes : List ℕ) → list_all is_within ds ≡ true → number_of 8 ds ≡ Some kind → AreBytes bytes →
    kind_data false (ds ++ 41 ∷ 58 ∷ list_from 24 bytes) ≡ Some (kind, bytes)
unfolding kind_data behind_word
kind-data ds kind bytes w n a =
    let text : List ℕ = ds ++ 41 ∷ 58 ∷ list_from 24 bytes in
    let at = close-at ds (58 ∷ list_from 24 bytes) w in
    let first : before_first is_close text ≡ ds = ap (λ (k : ℕ). take k text) at ∙ front-of ds (41 ∷ 58 ∷ list_from 24 bytes) in
    let after : after_first is_close text ≡ 58 ∷ list_from 24 bytes =
    ap (λ (k : ℕ). drop (k + 1) text) at ∙ behind-of ds (58 ∷ list_from 24 bytes) 41 in
    rw (first, after, n) (typed-back kind bytes a)

pub kinded-back : (kind : ℕ) (bytes : List ℕ) → kind < 4294967296 → AreBytes bytes →
    data_of false (codes "hex(" ++ (digits 16 false kind ++ (codes "):" ++ list_from 24 bytes))) ≡ Some (kind, bytes)
unfolding data_of behind_word bytes_data
kinded-back kind bytes l a = kind-data (digits 16 false kind) kind bytes (kind-within kind) (kind-back kind l) a
