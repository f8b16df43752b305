-- Blanks, marks and words at the ends of some units.
use Rattle.std.proofs.Common.{◌≡◌, ◌≢◌, ℕ, suc, ◌+◌, ◌-◌, ◌<◌, ◌≤◌, ◌==◌, ◌&&◌, Bool, true, false, cond, List, [], ◌∷◌, ◌++◌, length}
use Rattle.std.proofs.Common.{get_or, take, drop, length-drop, Option, Some, None, refl, sym, ap, ◌∙◌, arith, add-one, drop-cons}
use Rattle.std.specs.Prelude.{option_map}
use Rattle.std.specs.List.{suffix_len}
use Rattle.std.specs.Str.{bytes_eq}
use Rattle.std.proofs.lemmas.List.{drop_all, take_all}
use Rattle.std.proofs.lemmas.List.Sums.{prefix_len_is, suffix_len_is}
use Rattle.std.proofs.lemmas.Bool.Decides.{nat_tests}
use Rattle.reg_names.specs.Names.{fold}
use Rattle.reg_dotreg_reader.specs.EntryWords.{is_blank, behind_blanks, before_blanks, before_mark, behind_word}
use Rattle.reg_dotreg_reader.specs.EntryLines.{without_return}
use Rattle.reg_dotreg_reader.specs.EntryMeanings.{behind_name, is_narrow_by, untitled}

-- ---- blanks

-- so many at the start, and no more
pub behind_is : (units : List ℕ) (n : ℕ) → n ≤ length units → ((k : ℕ) → k < n → is_blank (get_or units k 0) ≡ true) →
    (n < length units → is_blank (get_or units n 0) ≡ false) → take (length units - n) (drop n units) ≡ behind_blanks units
unfolding behind_blanks
behind_is units n within here stops =
    let left = length-drop n units in
    take_all (length units - n) (drop n units) (omega (arith, left))
    ∙ ap (λ k. drop k units) (sym (prefix_len_is is_blank units n 0 within here stops))

-- all from here on, and no more
pub before_is : (units : List ℕ) (n : ℕ) → n ≤ length units → ((k : ℕ) → n ≤ k → k < length units → is_blank (get_or units k 0) ≡ true) →
    (0 < n → is_blank (get_or units (n - 1) 0) ≡ false) → take n units ≡ before_blanks units
unfolding before_blanks
before_is units n within here stops =
    let count = suffix_len_is is_blank units n 0 within here stops in
    let left : n ≡ length units - suffix_len is_blank units = omega (arith, count) in
    ap (λ k. take k units) left

-- ---- marks

mapped : (b : Bool) (v : ℕ) (front : List ℕ) → option_map (λ f. v ∷ f) (cond b (Some front) None) ≡ cond b (Some (v ∷ front)) None
mapped true v front = refl
mapped false v front = refl

before_mark-last : (mark u : ℕ) (front : List ℕ) → before_mark mark (front ++ u ∷ []) ≡ cond (u == mark) (Some front) None
unfolding before_mark
before_mark-last mark u [] = refl
before_mark-last mark u (v ∷ []) = mapped (u == mark) v []
before_mark-last mark u (v ∷ w ∷ front) =
    ap (λ (o : Option (List ℕ)). option_map (λ f. v ∷ f) o) (before_mark-last mark u (w ∷ front)) ∙ mapped (u == mark) v (w ∷ front)

pub mark_none : (mark : ℕ) (units : List ℕ) → length units ≡ 0 → before_mark mark units ≡ None
unfolding before_mark
mark_none mark [] e = refl
mark_none mark (u ∷ us) e = absurd (omega (arith, e))

decided : (b : Bool) (front : List ℕ) → b ≡ true → cond b (Some front) None ≡ Some front
decided true front e = refl
decided false front e = absurd cc

undecided : (b : Bool) (front : List ℕ) → b ≡ false → cond b (Some front) None ≡ None
undecided true front e = absurd cc
undecided false front e = refl

pub mark_is : (mark u : ℕ) (units front : List ℕ) → units ≡ front ++ u ∷ [] → u ≡ mark → before_mark mark units ≡ Some front
mark_is mark u units front e same =
    ap (before_mark mark) e ∙ (before_mark-last mark u front ∙ decided (u == mark) front (grind (arith, nat_tests, same)))

pub mark_not : (mark u : ℕ) (units front : List ℕ) → units ≡ front ++ u ∷ [] → u ≢ mark → before_mark mark units ≡ None
mark_not mark u units front e other =
    ap (before_mark mark) e ∙ (before_mark-last mark u front ∙ undecided (u == mark) front (grind (arith, nat_tests, other)))

-- ---- words

-- one more letter of a word
pub word_step : (word rest : List ℕ) (i u : ℕ) → i < length word →
    behind_word (drop i word) (u ∷ rest) ≡ cond (u == get_or word i 0) (behind_word (drop (i + 1) word) rest) None
unfolding behind_word
word_step word rest i u below = rw (add-one, drop-cons word i 0) refl

pub word_short : (word units : List ℕ) (i : ℕ) → i < length word → length units ≡ 0 → behind_word (drop i word) units ≡ None
unfolding behind_word
word_short word [] i below e = rw (drop-cons word i 0) refl
word_short word (u ∷ us) i below e = absurd (omega (arith, e))

pub word_end : (word units : List ℕ) (i : ℕ) → length word ≤ i → behind_word (drop i word) units ≡ Some units
unfolding behind_word
word_end word units i past = rw (drop_all i word past) refl

pub word_next : (found : Option (List ℕ)) (word units rest : List ℕ) (i u : ℕ) → found ≡ behind_word (drop i word) units → i < length word →
    units ≡ u ∷ rest → u ≡ get_or word i 0 → found ≡ behind_word (drop (i + 1) word) rest
word_next found word units rest i u so_far below e same =
    let alike : (u == get_or word i 0) ≡ true = grind (arith, nat_tests, same) in
    so_far ∙ (ap (behind_word (drop i word)) e ∙ (word_step word rest i u below ∙
    ap (λ b. cond b (behind_word (drop (i + 1) word) rest) None) alike))

pub word_other : (found : Option (List ℕ)) (word units rest : List ℕ) (i u : ℕ) → found ≡ behind_word (drop i word) units → i < length word →
    units ≡ u ∷ rest → u ≢ get_or word i 0 → found ≡ None
word_other found word units rest i u so_far below e other =
    let differs : (u == get_or word i 0) ≡ false = grind (arith, nat_tests, other) in
    so_far ∙ (ap (behind_word (drop i word)) e ∙ (word_step word rest i u below ∙
    ap (λ b. cond b (behind_word (drop (i + 1) word) rest) None) differs))

-- ---- names

pub name_step : (name rest : List ℕ) (i u : ℕ) → i < length name →
    behind_name (drop i name) (u ∷ rest) ≡ cond (fold u == fold (get_or name i 0)) (behind_name (drop (i + 1) name) rest) None
unfolding behind_name
name_step name rest i u below = rw (add-one, drop-cons name i 0) refl

pub name_short : (name units : List ℕ) (i : ℕ) → i < length name → length units ≡ 0 → behind_name (drop i name) units ≡ None
unfolding behind_name
name_short name [] i below e = rw (drop-cons name i 0) refl
name_short name (u ∷ us) i below e = absurd (omega (arith, e))

pub name_end : (name units : List ℕ) (i : ℕ) → length name ≤ i → behind_name (drop i name) units ≡ Some units
unfolding behind_name
name_end name units i past = rw (drop_all i name past) refl

pub name_next : (found : Option (List ℕ)) (name units rest : List ℕ) (i u : ℕ) → found ≡ behind_name (drop i name) units → i < length name →
    units ≡ u ∷ rest → fold u ≡ fold (get_or name i 0) → found ≡ behind_name (drop (i + 1) name) rest
name_next found name units rest i u so_far below e same =
    let alike : (fold u == fold (get_or name i 0)) ≡ true = same_test (fold u) (fold (get_or name i 0)) same in
    so_far ∙ (ap (behind_name (drop i name)) e ∙ (name_step name rest i u below ∙
    ap (λ b. cond b (behind_name (drop (i + 1) name) rest) None) alike))
  where
    same_test : (a b : ℕ) → a ≡ b → (a == b) ≡ true
    same_test a b e = grind (arith, nat_tests)

pub name_other : (found : Option (List ℕ)) (name units rest : List ℕ) (i u : ℕ) → found ≡ behind_name (drop i name) units → i < length name →
    units ≡ u ∷ rest → fold u ≢ fold (get_or name i 0) → found ≡ None
name_other found name units rest i u so_far below e other =
    let differs : (fold u == fold (get_or name i 0)) ≡ false = other_test (fold u) (fold (get_or name i 0)) other in
    so_far ∙ (ap (behind_name (drop i name)) e ∙ (name_step name rest i u below ∙
    ap (λ b. cond b (behind_name (drop (i + 1) name) rest) None) differs))
  where
    other_test : (a b : ℕ) → a ≢ b → (a == b) ≡ false
    other_test a b e = grind (arith, nat_tests)

-- ---- a word and no more

abbrev is_all : Option (List ℕ) → Bool
is_all None = false
is_all (Some rest) = length rest == 0

all_by : (b same : Bool) (left : Option (List ℕ)) → same ≡ is_all left → (b && same) ≡ is_all (cond b left None)
all_by true same left e = e
all_by false same left e = refl

is_word : (word units : List ℕ) → bytes_eq units word ≡ is_all (behind_word word units)
unfolding behind_word
is_word [] [] = refl
is_word [] (u ∷ us) = sym (long_not (suc (length us)) (omega arith))
  where
    long_not : (n : ℕ) → 0 < n → (n == 0) ≡ false
    long_not n some = grind (arith, nat_tests)
is_word (c ∷ word) [] = refl
is_word (c ∷ word) (u ∷ us) = all_by (u == c) (bytes_eq us word) (behind_word word us) (is_word word us)

pub word_whole : (word units rest : List ℕ) → behind_word word units ≡ Some rest → bytes_eq units word ≡ (length rest == 0)
word_whole word units rest e = is_word word units ∙ ap is_all e

pub word_not : (word units : List ℕ) → behind_word word units ≡ None → bytes_eq units word ≡ false
word_not word units e = is_word word units ∙ ap is_all e

pub is_title : (lines rest : List (List ℕ)) (line left : List ℕ) (narrow : Bool) → lines ≡ line ∷ rest → left ≡ before_blanks (without_return line) →
    is_narrow_by left ≡ Some narrow → untitled lines ≡ Some (narrow, rest)
is_title lines rest line left narrow e is by =
    ap untitled e ∙ ap (λ (o : Option Bool). option_map (λ is_narrow. (is_narrow, rest)) o) (ap is_narrow_by (sym is) ∙ by)

pub other_title : (lines rest : List (List ℕ)) (line left : List ℕ) → lines ≡ line ∷ rest → left ≡ before_blanks (without_return line) →
    is_narrow_by left ≡ None → untitled lines ≡ None
other_title lines rest line left e is by =
    ap untitled e ∙ ap (λ (o : Option Bool). option_map (λ is_narrow. (is_narrow, rest)) o) (ap is_narrow_by (sym is) ∙ by)

pub no_title : (lines : List (List ℕ)) → lines ≡ [] → untitled lines ≡ None
no_title lines e = ap untitled e

pub ruleset words = (word_short, word_next, word_other, word_end)

pub ruleset names = (name_short, name_next, name_other, name_end)

pub ruleset titles = (is_title, other_title, no_title)
