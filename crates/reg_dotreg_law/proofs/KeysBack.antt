-- The line of a key, read as that key.
use Rattle.std.proofs.Common.{◌≡◌, ◌≢◌, ℕ, ◌==◌, ◌&&◌, not, Bool, true, false, cond, List, [], ◌∷◌, ◌++◌, length}
use Rattle.std.proofs.Common.{Option, Some, None, refl, sym, ap, ◌∙◌, arith, append_assoc, append-nil}
use Rattle.std.specs.Prelude.{nat_lt, nat_le, option_map, option_and_then}
use Rattle.std.specs.List.{list_all}
use Rattle.std.specs.Option.{option_or, unwrap_or}
use Rattle.std.proofs.lemmas.Bool.{and_parts, and_from}
use Rattle.std.proofs.lemmas.Bool.Decides.{nat_tests}
use Rattle.std.proofs.lemmas.List.Folds.{list_all-append}
use Rattle.reg_names.specs.declared.TheConstants.{KEY_NAME_LIMIT, PATH_LIMIT}
use Rattle.reg_names.specs.Names.{fold, folded, text_of, is_path, is_key_name, is_key_name_byte, is_value_name_byte, are_key_names}
use Rattle.reg_dotreg_writer.specs.EntryTexts.{line_end}
use Rattle.reg_dotreg_writer.specs.Entries.{is_line_name, key_line}
use Rattle.reg_dotreg_writer.proofs.WritableNames.{text-lines}
use Rattle.reg_diff.proofs.ToldPaths.{text-path}
use Rattle.reg_dotreg_reader.specs.declared.entry.Entry.TheVariants.{Key, GoneKey}
use Rattle.reg_dotreg_reader.specs.EntryWords.{behind_blanks, before_mark}
use Rattle.reg_dotreg_reader.specs.EntryLines.{lines_of, is_value_line}
use Rattle.reg_dotreg_reader.specs.EntryMeanings.{behind_name, long_form, is_way, way_behind, path_behind, way_below, path_below, gone_below}
use Rattle.reg_dotreg_reader.specs.EntryMeanings.{bracketed, key_said, said, said_by}
use Rattle.reg_dotreg_reader.proofs.WordEnds.{mark_is, mark_not}
use Rattle.reg_dotreg_reader.proofs.ValueRows.{whole_other}
use Rattle.reg_dotreg_law.specs.ReadBack.{Says}
use Rattle.reg_dotreg_law.proofs.LineEnds.{are_inline, inline-append, Ends, ends-one, ends-behind, ends-blanks, line-back}
use Rattle.reg_dotreg_law.proofs.PlacesBack.{returned, bare-line}
use Rattle.reg_dotreg_law.proofs.RootsBack.{long-before}
use Rattle.reg_dotreg_law.proofs.ValuesBack.{line-inline}
use Rattle.reg_dotreg_law.proofs.ReadingOn.{goes-lines}

-- ---- the names of a path

bytes-plain : (name : List ℕ) → list_all is_key_name_byte name ≡ true → list_all is_value_name_byte name ≡ true
bytes-plain [] e = refl
bytes-plain (b ∷ name) e =
    let both = and_parts (is_key_name_byte b) (list_all is_key_name_byte name) e in
    and_from (is_value_name_byte b) (list_all is_value_name_byte name) (and_parts (is_value_name_byte b) (not (b == 92)) both.0).0
    (bytes-plain name both.1)

name-parts : (name : List ℕ) → is_key_name name ≡ true → (list_all is_value_name_byte name ≡ true) × (nat_lt 0 (length name) ≡ true)
name-parts name e =
    let front = and_parts (list_all is_key_name_byte name && nat_lt 0 (length name)) (nat_le (length name) KEY_NAME_LIMIT) e in
    let both = and_parts (list_all is_key_name_byte name) (nat_lt 0 (length name)) front.0 in
    (bytes-plain name both.0, both.1)

path-plain : (names : List (List ℕ)) → list_all is_key_name names ≡ true → list_all is_value_name_byte (text_of names) ≡ true
path-plain [] e = refl
path-plain (n ∷ []) e = (name-parts n (and_parts (is_key_name n) true e).0).0
path-plain (n ∷ m ∷ names) e =
    let both = and_parts (is_key_name n) (list_all is_key_name (m ∷ names)) e in
    list_all-append is_value_name_byte n (92 ∷ text_of (m ∷ names))
    ∙ and_from (list_all is_value_name_byte n) (list_all is_value_name_byte (text_of (m ∷ names))) (name-parts n both.0).0
    (path-plain (m ∷ names) both.1)

longer : (a b : List ℕ) → nat_lt 0 (length a) ≡ true → nat_lt 0 (length (a ++ b)) ≡ true
longer [] b e = absurd (cc)
longer (x ∷ a) b e = grind (arith, nat_tests)

path-some : (n : List ℕ) (names : List (List ℕ)) → is_key_name n ≡ true → nat_lt 0 (length (text_of (n ∷ names))) ≡ true
path-some n [] e = (name-parts n e).1
path-some n (m ∷ names) e = longer n (92 ∷ text_of (m ∷ names)) (name-parts n e).1

path-way : (n : List ℕ) (names : List (List ℕ)) → are_key_names PATH_LIMIT (n ∷ names) ≡ true → is_way (text_of (n ∷ names)) ≡ true
unfolding are_key_names
path-way n names e =
    let both = and_parts (list_all is_key_name (n ∷ names)) (nat_le (length (n ∷ names)) PATH_LIMIT) e in
    let first = and_parts (is_key_name n) (list_all is_key_name names) both.0 in
    and_from (nat_lt 0 (length (text_of (n ∷ names)))) (list_all is_value_name_byte (text_of (n ∷ names)) && is_path (text_of (n ∷ names)))
    (path-some n names first.0)
    (and_from (list_all is_value_name_byte (text_of (n ∷ names))) (is_path (text_of (n ∷ names))) (path-plain (n ∷ names) both.0)
    (text-path (n ∷ names) (text_of (n ∷ names)) refl e))

-- ---- the end of a path

-- a text ends in another unit than a backslash
record IsOther (units : List ℕ) : Type 0 where
  front : List ℕ
  last : ℕ
  is : units ≡ front ++ last ∷ []
  other : last ≢ 92

other-behind : (before units : List ℕ) → IsOther units → IsOther (before ++ units)
other-behind before units o = record {
  front = before ++ o.front;
  last = o.last;
  is = ap (λ (w : List ℕ). before ++ w) o.is ∙ sym (append_assoc before o.front (o.last ∷ []));
  other = o.other;
}

byte-other : (b : ℕ) → is_key_name_byte b ≡ true → b ≢ 92
byte-other b e = grind (arith, nat_tests)

bytes-end : (b : ℕ) (name : List ℕ) → list_all is_key_name_byte (b ∷ name) ≡ true → IsOther (b ∷ name)
bytes-end b [] e = record {
  front = [];
  last = b;
  is = refl;
  other = byte-other b (and_parts (is_key_name_byte b) true e).0;
}
bytes-end b (c ∷ name) e =
    other-behind (b ∷ []) (c ∷ name) (bytes-end c name (and_parts (is_key_name_byte b) (list_all is_key_name_byte (c ∷ name)) e).1)

name-end : (name : List ℕ) → is_key_name name ≡ true → IsOther name
name-end [] e = absurd (cc)
name-end (b ∷ name) e =
    let front = and_parts (list_all is_key_name_byte (b ∷ name) && nat_lt 0 (length (b ∷ name))) (nat_le (length (b ∷ name)) KEY_NAME_LIMIT) e in
    bytes-end b name (and_parts (list_all is_key_name_byte (b ∷ name)) (nat_lt 0 (length (b ∷ name))) front.0).0

path-end : (n : List ℕ) (names : List (List ℕ)) → list_all is_key_name (n ∷ names) ≡ true → IsOther (text_of (n ∷ names))
path-end n [] e = name-end n (and_parts (is_key_name n) true e).0
path-end n (m ∷ names) e =
    let rest = path-end m names (and_parts (is_key_name n) (list_all is_key_name (m ∷ names)) e).1 in
    other-behind n (92 ∷ text_of (m ∷ names)) (other-behind (92 ∷ []) (text_of (m ∷ names)) rest)

way-back : (n : List ℕ) (names : List (List ℕ)) → are_key_names PATH_LIMIT (n ∷ names) ≡ true →
    path_behind (92 ∷ text_of (n ∷ names)) ≡ Some (text_of (n ∷ names))
unfolding are_key_names
way-back n names e =
    let text : List ℕ = 92 ∷ text_of (n ∷ names) in
    let both = and_parts (list_all is_key_name (n ∷ names)) (nat_le (length (n ∷ names)) PATH_LIMIT) e in
    let o = other-behind (92 ∷ []) (text_of (n ∷ names)) (path-end n names both.0) in
    ap (λ (p : Option (List ℕ)). way_behind (unwrap_or p text)) (mark_not 92 o.last text o.front o.is o.other)
    ∙ ap (λ (b : Bool). cond b (Some (text_of (n ∷ names))) None) (path-way n names e)

none-back : path_behind [] ≡ Some []
unfolding before_mark
none-back = refl

-- ---- the root's name

same-letter : (a b : ℕ) → a ≡ b → (b == a) ≡ true
same-letter a b e = grind (arith, nat_tests)

both-same : (a b : ℕ) (xs ys : List ℕ) → a ∷ xs ≡ b ∷ ys → (a ≡ b) × (xs ≡ ys)
both-same a b xs ys e = (cc, cc)

-- a name that begins as another, letters of either case
behind-root : (name root rest : List ℕ) → folded name ≡ folded root → behind_name name (root ++ rest) ≡ Some rest
unfolding behind_name
behind-root [] [] rest e = refl
behind-root [] (u ∷ root) rest e = absurd (cc)
behind-root (c ∷ name) [] rest e = absurd (cc)
behind-root (c ∷ name) (u ∷ root) rest e =
    let both = both-same (fold c) (fold u) (folded name) (folded root) e in
    ap (λ (b : Bool). cond b (behind_name name (root ++ rest)) None) (same-letter (fold c) (fold u) both.0) ∙ behind-root name root rest both.1

pub below-root : (name root : List ℕ) (names : List (List ℕ)) → folded name ≡ folded (long_form root) → are_key_names PATH_LIMIT names ≡ true →
    path_below name (text_of (root ∷ names)) ≡ Some (text_of names)
unfolding way_below
below-root name root [] f e =
    ap (λ (w : List ℕ). option_and_then path_behind (behind_name name w)) (sym (append-nil (long_form root)))
    ∙ (ap (λ (o : Option (List ℕ)). option_and_then path_behind o) (behind-root name (long_form root) [] f) ∙ none-back)
below-root name root (n ∷ names) f e =
    ap (λ (w : List ℕ). option_and_then path_behind (behind_name name w)) (long-before root (text_of (n ∷ names)))
    ∙ (ap (λ (o : Option (List ℕ)). option_and_then path_behind o) (behind-root name (long_form root) (92 ∷ text_of (n ∷ names)) f)
    ∙ way-back n names e)

bracketed-key : (root text path : List ℕ) → path_below root text ≡ Some path → bracketed root text ≡ Some (Key path)
unfolding bracketed
bracketed-key root text path e = ap (λ (o : Option (List ℕ)). option_or (option_map Key o) (option_map GoneKey (gone_below root text))) e

-- ---- the line

pub said-bracket : (root us : List ℕ) → Ends (91 ∷ us) → said root false (91 ∷ us) ≡ option_map Some (key_said root us)
unfolding said behind_blanks
said-bracket root us e = ap (said_by root false) (ends-blanks (91 ∷ us) e)

pub bracket-value : (us : List ℕ) → is_value_line (91 ∷ us) ≡ false
unfolding behind_blanks
bracket-value us = refl

key-said : (name root : List ℕ) (names : List (List ℕ)) → folded name ≡ folded (long_form root) → are_key_names PATH_LIMIT names ≡ true →
    said name false (91 ∷ (text_of (root ∷ names) ++ 93 ∷ [])) ≡ Some (Some (Key (text_of names)))
key-said name root names f e =
    let text : List ℕ = text_of (root ∷ names) in
    said-bracket name (text ++ 93 ∷ []) (ends-behind (91 ∷ text) (93 ∷ []) (ends-one 93 refl))
    ∙ (ap (λ (o : Option (List ℕ)). option_map Some (option_and_then (bracketed name) o)) (mark_is 93 93 (text ++ 93 ∷ []) text refl refl)
    ∙ ap (option_map Some) (bracketed-key name text (text_of names) (below-root name root names f e)))

-- a key's line says that key
pub key-says : (name root : List ℕ) (is_open : Bool) (names : List (List ℕ)) → folded name ≡ folded (long_form root) →
    are_key_names PATH_LIMIT names ≡ true → list_all is_line_name (root ∷ names) ≡ true →
    Says name is_open (key_line (text_of (root ∷ names))) (Key (text_of names) ∷ []) true
unfolding key_line
key-says name root is_open names f good lines number rest =
    let text : List ℕ = text_of (root ∷ names) in
    let line : List ℕ = 91 ∷ (text ++ 93 ∷ []) in
    let fine : are_inline line ≡ true =
    inline-append (91 ∷ text) (93 ∷ []) (line-inline text (text-lines (root ∷ names) ∙ lines)) refl in
    let whole : (91 ∷ (text ++ 93 ∷ line_end)) ++ rest ≡ line ++ 13 ∷ 10 ∷ rest =
    ap (λ (w : List ℕ). 91 ∷ w) (append_assoc text (93 ∷ line_end) rest ∙ sym (append_assoc text (93 ∷ []) (13 ∷ 10 ∷ rest))) in
    goes-lines name is_open number ((91 ∷ (text ++ 93 ∷ line_end)) ++ rest) (returned line) line [] (Key (text_of names)) rest
    (ap lines_of whole ∙ line-back line rest fine)
    (whole_other (returned line) (lines_of rest) (bracket-value ((text ++ 93 ∷ []) ++ 13 ∷ [])) ∙ ap (λ (w : List ℕ). (w, 0)) (bare-line line))
    (key-said name root names f good) refl
