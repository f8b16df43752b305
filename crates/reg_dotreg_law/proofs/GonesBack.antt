-- The entry of a value that is gone, and the line of a key that is, read as these.
use Rattle.std.proofs.Common.{◌≡◌, ℕ, suc, ◌+◌, ◌==◌, ◌&&◌, Bool, true, false, cond, List, [], ◌∷◌, ◌++◌, take, drop}
use Rattle.std.proofs.Common.{Option, Some, None, refl, sym, ap, ◌∙◌, arith, append_assoc, append-nil}
use Rattle.std.specs.Prelude.{codes, option_map, option_and_then}
use Rattle.std.specs.List.{list_all, position_or_len}
use Rattle.std.specs.Option.{option_or, unwrap_or}
use Rattle.std.specs.Str.{bytes_eq}
use Rattle.std.proofs.lemmas.Bool.Decides.{nat_tests}
use Rattle.reg_names.specs.declared.TheConstants.{PATH_LIMIT}
use Rattle.reg_names.specs.Names.{fold, folded, text_of, is_value_name, is_backslash, are_key_names}
use Rattle.reg_dotreg_writer.specs.EntryTexts.{line_end, name_told}
use Rattle.reg_dotreg_writer.specs.Entries.{is_line_name}
use Rattle.reg_dotreg_writer.specs.Changes.{gone_line}
use Rattle.reg_dotreg_writer.proofs.WritableNames.{text-lines}
use Rattle.reg_dotreg_reader.specs.declared.entry.Entry.TheVariants.{Key, GoneKey, GoneValue}
use Rattle.reg_dotreg_reader.specs.declared.rows.Place.TheVariants.{Outside}
use Rattle.reg_dotreg_reader.specs.EntryWords.{behind_blanks, behind_word, before_mark}
use Rattle.reg_dotreg_reader.specs.EntryLines.{lines_of, is_value_line}
use Rattle.reg_dotreg_reader.specs.EntryMeanings.{valued, value_said, said, bracketed, behind_name, path_behind, way_behind, way_below, path_below}
use Rattle.reg_dotreg_reader.specs.EntryMeanings.{is_way, long_of, long_name, long_form}
use Rattle.reg_dotreg_reader.proofs.RootNames.{front_is, front_not}
use Rattle.reg_dotreg_reader.proofs.WordEnds.{mark_is}
use Rattle.reg_dotreg_reader.proofs.ValueRows.{whole_joined, whole_other}
use Rattle.reg_dotreg_law.specs.ReadBack.{Says}
use Rattle.reg_dotreg_law.proofs.LineEnds.{are_inline, inline-append, Ends, ends-one, ends-behind, line-back}
use Rattle.reg_dotreg_law.proofs.PlacesBack.{Passes, passes-both, bare-passes, name-passes, returned, bare-line}
use Rattle.reg_dotreg_law.proofs.RowsBack.{row-alone}
use Rattle.reg_dotreg_law.proofs.DataBack.{name-back}
use Rattle.reg_dotreg_law.proofs.ValuesBack.{line-inline, name-inline, begins-value, said-line}
use Rattle.reg_dotreg_law.proofs.KeysBack.{said-bracket, bracket-value, below-root}
use Rattle.reg_dotreg_law.proofs.ReadingOn.{goes-lines}

-- ---- a value

said-gone : (name : List ℕ) → is_value_name name ≡ true → are_inline name ≡ true →
    value_said false (name_told name ++ 61 ∷ 45 ∷ []) ≡ Some (GoneValue name)
unfolding value_said behind_blanks behind_word valued
said-gone name e i =
    ap (λ (o : Option (List ℕ × List ℕ)). option_and_then (λ (read : List ℕ × List ℕ).
    option_and_then (λ rest. valued false read.0 (behind_blanks rest)) (behind_word (codes "=") (behind_blanks read.1))) o)
    (name-back name (61 ∷ 45 ∷ []) e i)

pub gone-value-says : (root name : List ℕ) → is_value_name name ≡ true → are_inline name ≡ true →
    Says root true (name_told name ++ (61 ∷ 45 ∷ line_end)) (GoneValue name ∷ []) true
gone-value-says root name named inline number rest =
    let told : List ℕ = name_told name in
    let start : List ℕ = told ++ 61 ∷ [] in
    let fine : are_inline (start ++ 45 ∷ []) ≡ true =
    inline-append start (45 ∷ []) (inline-append told (61 ∷ []) (name-inline name inline) refl) refl in
    let ends : Ends (start ++ 45 ∷ []) = ends-behind start (45 ∷ []) (ends-one 45 refl) in
    let passes : Passes Outside (start ++ 45 ∷ []) Outside =
    passes-both Outside Outside Outside start (45 ∷ [])
    (passes-both Outside Outside Outside told (61 ∷ []) (name-passes name) (bare-passes (61 ∷ []) refl)) (bare-passes (45 ∷ []) refl) in
    let r = row-alone start (45 ∷ []) rest fine ends passes in
    let whole : List ℕ = (told ++ (61 ∷ 45 ∷ line_end)) ++ rest in
    let parts : whole ≡ start ++ (45 ∷ 13 ∷ 10 ∷ rest) =
    append_assoc told (61 ∷ 45 ∷ line_end) rest ∙ sym (append_assoc told (61 ∷ []) (45 ∷ 13 ∷ 10 ∷ rest)) in
    let begins : is_value_line r.line ≡ true =
    ap is_value_line (r.begins ∙ append_assoc told (61 ∷ []) r.tail) ∙ begins-value name (61 ∷ r.tail) in
    let read : said root false (start ++ 45 ∷ []) ≡ Some (Some (GoneValue name)) =
    ap (said root false) (append_assoc told (61 ∷ []) (45 ∷ []))
    ∙ (said-line root name (61 ∷ 45 ∷ []) (ends-behind told (61 ∷ 45 ∷ []) (ends-behind (61 ∷ []) (45 ∷ []) (ends-one 45 refl)))
    ∙ ap (option_map Some) (said-gone name named inline)) in
    goes-lines root true number whole r.line (start ++ 45 ∷ []) r.more (GoneValue name) rest (ap lines_of parts ∙ r.lines)
    (whole_joined r.line (r.more ++ lines_of rest) begins ∙ r.joins) read refl

-- ---- a dash is in no root's name before it ends

-- the long forms of short names begin with an H
long-H : (name long : List ℕ) → long_of name ≡ Some long → (rest : List ℕ) × (long ≡ 72 ∷ rest)
long-H name long e =
    by (bytes_eq name (codes "HKLM")) (bytes_eq name (codes "HKCU")) (bytes_eq name (codes "HKCR")) (bytes_eq name (codes "HKU"))
    (bytes_eq name (codes "HKCC")) e
  where
    one : (text : List ℕ) (rest : List ℕ) → text ≡ 72 ∷ rest → Some text ≡ Some long → (rest : List ℕ) × (long ≡ 72 ∷ rest)
    one text rest t s = (rest, let same : text ≡ long = cc in sym same ∙ t)

    by : (a b c d f : Bool) →
        cond a (Some (codes "HKEY_LOCAL_MACHINE")) (cond b (Some (codes "HKEY_CURRENT_USER")) (cond c (Some (codes "HKEY_CLASSES_ROOT"))
        (cond d (Some (codes "HKEY_USERS")) (cond f (Some (codes "HKEY_CURRENT_CONFIG")) None)))) ≡ Some long →
        (rest : List ℕ) × (long ≡ 72 ∷ rest)
    by true b c d f s = one (codes "HKEY_LOCAL_MACHINE") (codes "KEY_LOCAL_MACHINE") refl s
    by false true c d f s = one (codes "HKEY_CURRENT_USER") (codes "KEY_CURRENT_USER") refl s
    by false false true d f s = one (codes "HKEY_CLASSES_ROOT") (codes "KEY_CLASSES_ROOT") refl s
    by false false false true f s = one (codes "HKEY_USERS") (codes "KEY_USERS") refl s
    by false false false false true s = one (codes "HKEY_CURRENT_CONFIG") (codes "KEY_CURRENT_CONFIG") refl s
    by false false false false false s = absurd (cc)

-- a text that begins with a dash has no longer form
dash-long : (text : List ℕ) → long_form (45 ∷ text) ≡ 45 ∷ text
dash-long text =
    ap (λ (o : Option (List ℕ)). unwrap_or o (45 ∷ text)) (front_not (45 ∷ text) (position_or_len is_backslash (45 ∷ text)) refl none)
  where
    front : take (position_or_len is_backslash (45 ∷ text)) (45 ∷ text) ≡ 45 ∷ take (position_or_len is_backslash text) text
    front =
        let one : 1 + position_or_len is_backslash text ≡ suc (position_or_len is_backslash text) = omega arith in
        ap (λ (k : ℕ). take k (45 ∷ text)) one

    none : long_name (take (position_or_len is_backslash (45 ∷ text)) (45 ∷ text)) ≡ None
    none = ap long_name front

-- a unit that begins no path behind a root's name
dashed : (u : ℕ) → fold u ≡ 45 → (u == 92) ≡ false
dashed u e = by (u == 92) refl
  where
    by : (b : Bool) → (u == 92) ≡ b → (u == 92) ≡ false
    by true s = absurd (let same : u ≡ 92 = grind (arith, nat_tests, s) in let f : fold u ≡ 92 = ap fold same in omega (arith, e, f))
    by false s = s

no-way : (u : ℕ) (rest : List ℕ) → fold u ≡ 45 → path_behind (u ∷ rest) ≡ None
unfolding before_mark
no-way u [] e =
    ap (λ (b : Bool). way_behind (unwrap_or (cond b (Some []) None) (u ∷ []))) (dashed u e)
    ∙ ap (λ (b : Bool). cond (b && is_way []) (Some []) None) (dashed u e)
no-way u (v ∷ rest) e = by (before_mark 92 (v ∷ rest))
  where
    first : (us : List ℕ) → way_behind (u ∷ us) ≡ None
    first us = ap (λ (b : Bool). cond (b && is_way us) (Some us) None) (dashed u e)

    by : (o : Option (List ℕ)) → way_behind (unwrap_or (option_map (λ front. u ∷ front) o) (u ∷ v ∷ rest)) ≡ None
    by None = first (v ∷ rest)
    by (Some us) = first us

both-same : (a b : ℕ) (xs ys : List ℕ) → a ∷ xs ≡ b ∷ ys → (a ≡ b) × (xs ≡ ys)
both-same a b xs ys e = (cc, cc)

-- behind a name, read in a text of a dash and that name, nothing stands, or a dash
dash-behind : (name root rest : List ℕ) (u : ℕ) → fold u ≡ 45 → folded name ≡ folded root →
    option_and_then path_behind (behind_name name (u ∷ (root ++ rest))) ≡ None
unfolding behind_name
dash-behind [] [] rest u d e = no-way u rest d
dash-behind [] (r ∷ root) rest u d e = absurd (cc)
dash-behind (c ∷ name) [] rest u d e = absurd (cc)
dash-behind (c ∷ name) (r ∷ root) rest u d e =
    by (fold u == fold c) refl (λ (k : fold r ≡ 45). dash-behind name root rest r k both.1)
  where
    both : (fold c ≡ fold r) × (folded name ≡ folded root)
    both = both-same (fold c) (fold r) (folded name) (folded root) e

    by : (b : Bool) → (fold u == fold c) ≡ b →
        (fold r ≡ 45 → option_and_then path_behind (behind_name name (r ∷ (root ++ rest))) ≡ None) →
        option_and_then path_behind (cond b (behind_name name (r ∷ (root ++ rest))) None) ≡ None
    by true s next = let same : fold u ≡ fold c = grind (arith, nat_tests, s) in next (sym both.0 ∙ (sym same ∙ d))
    by false s next = refl

-- where the name is that of a root in its long form
no-key : (name root rest : List ℕ) → folded name ≡ folded (long_form root) → path_below name (45 ∷ (root ++ rest)) ≡ None
unfolding way_below behind_name
no-key name root rest f =
    ap (λ (w : List ℕ). option_and_then path_behind (behind_name name w)) (dash-long (root ++ rest))
    ∙ by (long_name (take (position_or_len is_backslash root) root)) refl
  where
    head : (n : List ℕ) (h : List ℕ) → folded n ≡ 72 ∷ h → option_and_then path_behind (behind_name n (45 ∷ (root ++ rest))) ≡ None
    head [] h e = absurd (cc)
    head (c ∷ n) h e =
        let same : fold c ≡ 72 = (both-same (fold c) 72 (folded n) h e).0 in
        ap (λ (k : ℕ). option_and_then path_behind (cond (45 == k) (behind_name n (root ++ rest)) None)) same

    by : (o : Option (List ℕ)) → long_name (take (position_or_len is_backslash root) root) ≡ o →
        option_and_then path_behind (behind_name name (45 ∷ (root ++ rest))) ≡ None
    by None is =
        let plain : long_form root ≡ root =
        ap (λ (o : Option (List ℕ)). unwrap_or o root) (front_not root (position_or_len is_backslash root) refl is) in
        dash-behind name root rest 45 refl (f ∙ ap folded plain)
    by (Some long) is =
        let h = long-H (folded (take (position_or_len is_backslash root) root)) long is in
        let whole : long_form root ≡ long ++ drop (position_or_len is_backslash root) root =
        ap (λ (o : Option (List ℕ)). unwrap_or o root) (front_is root long (position_or_len is_backslash root) refl is) in
        head name (folded (h.0 ++ drop (position_or_len is_backslash root) root))
        (f ∙ (ap folded whole ∙ ap (λ (w : List ℕ). folded (w ++ drop (position_or_len is_backslash root) root)) h.1))

-- ---- a key

bracketed-gone : (root text path : List ℕ) → path_below root (45 ∷ text) ≡ None → path_below root text ≡ Some path →
    bracketed root (45 ∷ text) ≡ Some (GoneKey path)
unfolding bracketed behind_word
bracketed-gone root text path n e =
    ap (λ (o : Option (List ℕ)). option_or (option_map Key o) (option_map GoneKey (path_below root text))) n
    ∙ ap (λ (o : Option (List ℕ)). option_map GoneKey o) e

abbrev tail-of : List (List ℕ) → List ℕ
tail-of [] = []
tail-of (n ∷ names) = 92 ∷ text_of (n ∷ names)

text-parts : (root : List ℕ) (names : List (List ℕ)) → text_of (root ∷ names) ≡ root ++ tail-of names
text-parts root [] = sym (append-nil root)
text-parts root (n ∷ names) = refl

gone-said : (name root : List ℕ) (names : List (List ℕ)) → folded name ≡ folded (long_form root) → are_key_names PATH_LIMIT names ≡ true →
    said name false (91 ∷ 45 ∷ (text_of (root ∷ names) ++ 93 ∷ [])) ≡ Some (Some (GoneKey (text_of names)))
gone-said name root names f e =
    let text : List ℕ = text_of (root ∷ names) in
    said-bracket name (45 ∷ (text ++ 93 ∷ [])) (ends-behind (91 ∷ 45 ∷ text) (93 ∷ []) (ends-one 93 refl))
    ∙ (ap (λ (o : Option (List ℕ)). option_map Some (option_and_then (bracketed name) o))
    (mark_is 93 93 (45 ∷ (text ++ 93 ∷ [])) (45 ∷ text) refl refl)
    ∙ ap (option_map Some) (bracketed-gone name text (text_of names)
    (ap (λ (w : List ℕ). path_below name (45 ∷ w)) (text-parts root names) ∙ no-key name root (tail-of names) f)
    (below-root name root names f e)))

-- the line of a key that is gone says that
pub gone-says : (name root : List ℕ) (is_open : Bool) (names : List (List ℕ)) → folded name ≡ folded (long_form root) →
    are_key_names PATH_LIMIT names ≡ true → list_all is_line_name (root ∷ names) ≡ true →
    Says name is_open (gone_line (text_of (root ∷ names))) (GoneKey (text_of names) ∷ []) false
unfolding gone_line
gone-says name root is_open names f good lines number rest =
    let text : List ℕ = text_of (root ∷ names) in
    let line : List ℕ = 91 ∷ 45 ∷ (text ++ 93 ∷ []) in
    let fine : are_inline line ≡ true =
    inline-append (91 ∷ 45 ∷ text) (93 ∷ []) (line-inline text (text-lines (root ∷ names) ∙ lines)) refl in
    let whole : (91 ∷ 45 ∷ (text ++ 93 ∷ line_end)) ++ rest ≡ line ++ 13 ∷ 10 ∷ rest =
    ap (λ (w : List ℕ). 91 ∷ 45 ∷ w) (append_assoc text (93 ∷ line_end) rest ∙ sym (append_assoc text (93 ∷ []) (13 ∷ 10 ∷ rest))) in
    goes-lines name is_open number ((91 ∷ 45 ∷ (text ++ 93 ∷ line_end)) ++ rest) (returned line) line [] (GoneKey (text_of names)) rest
    (ap lines_of whole ∙ line-back line rest fine)
    (whole_other (returned line) (lines_of rest) (bracket-value ((45 ∷ (text ++ 93 ∷ [])) ++ 13 ∷ []))
    ∙ ap (λ (w : List ℕ). (w, 0)) (bare-line line))
    (gone-said name root names f good) refl
