-- Names of roots, and their long forms.
use Rattle.std.proofs.Common.{◌≡◌, ℕ, suc, ◌+◌, ◌<◌, ◌≤◌, ◌==◌, ◌&&◌, not, Bool, true, false, cond, List, [], ◌∷◌, ◌++◌, length, take, drop}
use Rattle.std.proofs.Common.{Option, Some, None, refl, sym, ap, ◌∙◌, arith}
use Rattle.std.specs.Prelude.{option_map}
use Rattle.std.specs.List.{position, position_or_len}
use Rattle.std.specs.Str.{bytes_eq}
use Rattle.std.proofs.lemmas.Bool.Decides.{nat_tests}
use Rattle.reg_names.specs.Names.{fold, folded, is_backslash}
use Rattle.reg_dotreg_reader.specs.EntryMeanings.{behind_name, long_name, lengthened}
use Rattle.reg_dotreg_reader.proofs.DigitLists.{index_is, no_index}

abbrev is_all : Option (List ℕ) → Bool
is_all None = false
is_all (Some rest) = length rest == 0

all_by : (b same : Bool) (left : Option (List ℕ)) → same ≡ is_all left → (b && same) ≡ is_all (cond b left None)
all_by true same left e = e
all_by false same left e = refl

is_name : (name units : List ℕ) → bytes_eq (folded units) (folded name) ≡ is_all (behind_name name units)
unfolding behind_name
is_name [] [] = refl
is_name [] (u ∷ us) = sym (long_not (suc (length us)) (omega arith))
  where
    long_not : (n : ℕ) → 0 < n → (n == 0) ≡ false
    long_not n some = grind (arith, nat_tests)
is_name (c ∷ name) [] = refl
is_name (c ∷ name) (u ∷ us) = all_by (fold u == fold c) (bytes_eq (folded us) (folded name)) (behind_name name us) (is_name name us)

pub name_whole : (name units rest : List ℕ) → behind_name name units ≡ Some rest → bytes_eq (folded units) (folded name) ≡ (length rest == 0)
name_whole name units rest e = is_name name units ∙ ap is_all e

pub name_not : (name units : List ℕ) → behind_name name units ≡ None → bytes_eq (folded units) (folded name) ≡ false
name_not name units e = is_name name units ∙ ap is_all e

-- ---- the first name

pub end_within : (text : List ℕ) → position_or_len is_backslash text ≤ length text
end_within [] = omega arith
end_within (u ∷ us) = by (u == 92) (end_within us)
  where
    by : (b : Bool) → position_or_len is_backslash us ≤ length us → cond (not b) (1 + position_or_len is_backslash us) 0 ≤ length (u ∷ us)
    by true h = omega arith
    by false h = omega (arith, h)

pub end_at : (text : List ℕ) (end : ℕ) → position is_backslash text ≡ Some end →
    (end ≡ position_or_len is_backslash text) × (end ≤ length text)
end_at text end e =
    let found = index_is (position_or_len is_backslash text) (length text) end e in
    (found.0, let f = found.0 in let w = end_within text in omega (arith, f, w))

pub end_none : (text : List ℕ) → position is_backslash text ≡ None → length text ≡ position_or_len is_backslash text
end_none text e =
    let past = no_index (position_or_len is_backslash text) (length text) e in
    let w = end_within text in
    omega (arith, past, w)

pub front_is : (text long : List ℕ) (end : ℕ) → end ≡ position_or_len is_backslash text → long_name (take end text) ≡ Some long →
    lengthened text ≡ Some (long ++ drop end text)
unfolding lengthened
front_is text long end e is =
    ap (λ (n : ℕ). option_map (λ l. l ++ drop n text) (long_name (take n text))) (sym e)
    ∙ ap (λ (o : Option (List ℕ)). option_map (λ l. l ++ drop end text) o) is

pub front_not : (text : List ℕ) (end : ℕ) → end ≡ position_or_len is_backslash text → long_name (take end text) ≡ None →
    lengthened text ≡ None
unfolding lengthened
front_not text end e is =
    ap (λ (n : ℕ). option_map (λ l. l ++ drop n text) (long_name (take n text))) (sym e)
    ∙ ap (λ (o : Option (List ℕ)). option_map (λ l. l ++ drop end text) o) is

pub ruleset ends = (end_at, end_none)

pub ruleset fronts = (front_is, front_not)
