-- The path of the key above, found from the end.
use Rattle.std.proofs.Common.{◌≡◌, ◌∙◌, ℕ, ◌≢◌, ◌<◌, Bool, true, false, cond, List, [], ◌∷◌, ◌++◌, length, length-append, ap, sym, refl, arith}
use Rattle.std.specs.Prelude.{◌||◌}
use Rattle.std.specs.List.{list_any}
use Rattle.std.proofs.lemmas.Bool.Decides.{nat_tests}
use Rattle.reg_edits.specs.KeyChanges.{is_backslash, parent_of}

any_last : (front : List ℕ) (b : ℕ) → is_backslash b ≡ true → list_any is_backslash (front ++ b ∷ []) ≡ true
any_last [] b is = ap (λ (t : Bool). t || false) is
any_last (f ∷ front) b is = or_true (is_backslash f) (list_any is_backslash (front ++ b ∷ [])) (any_last front b is)
  where
    or_true : (a c : Bool) → c ≡ true → (a || c) ≡ true
    or_true true c e = refl
    or_true false c e = e

any_plain : (front : List ℕ) (b : ℕ) → is_backslash b ≡ false → list_any is_backslash (front ++ b ∷ []) ≡ list_any is_backslash front
any_plain [] b not = ap (λ (t : Bool). t || false) not
any_plain (f ∷ front) b not = ap (λ (t : Bool). is_backslash f || t) (any_plain front b not)

-- the last byte is the backslash
pub parent_here : (front : List ℕ) (b : ℕ) → is_backslash b ≡ true → parent_of (front ++ b ∷ []) ≡ front
parent_here [] b is = refl
parent_here (f ∷ front) b is =
    ap (λ (t : Bool). cond t (f ∷ parent_of (front ++ b ∷ [])) []) (any_last front b is) ∙ ap (λ (w : List ℕ). f ∷ w) (parent_here front b is)

-- it is another
pub parent_before : (front : List ℕ) (b : ℕ) → is_backslash b ≡ false → parent_of (front ++ b ∷ []) ≡ parent_of front
parent_before [] b not = refl
parent_before (f ∷ front) b not =
    ap (λ (t : Bool). cond t (f ∷ parent_of (front ++ b ∷ [])) []) (any_plain front b not)
    ∙ ap (λ (w : List ℕ). cond (list_any is_backslash front) (f ∷ w) []) (parent_before front b not)

-- ---- a step from the end

is_backslash_at : (b : ℕ) → b ≡ 92 → is_backslash b ≡ true
is_backslash_at b e = grind (arith, nat_tests, e)

is_other_at : (b : ℕ) → b ≢ 92 → is_backslash b ≡ false
is_other_at b e = grind (arith, nat_tests, e)

pub found_here : (path rest front : List ℕ) (b : ℕ) → parent_of path ≡ parent_of rest → rest ≡ front ++ b ∷ [] → b ≡ 92 →
    front ≡ parent_of path
found_here path rest front b so_far is e = sym (so_far ∙ (ap parent_of is ∙ parent_here front b (is_backslash_at b e)))

pub goes_before : (path rest front : List ℕ) (b : ℕ) → parent_of path ≡ parent_of rest → rest ≡ front ++ b ∷ [] → b ≢ 92 →
    parent_of path ≡ parent_of front
goes_before path rest front b so_far is e = so_far ∙ (ap parent_of is ∙ parent_before front b (is_other_at b e))

pub found_nowhere : (path rest : List ℕ) → parent_of path ≡ parent_of rest → length rest ≡ 0 → rest ≡ parent_of path
found_nowhere path [] so_far none = sym so_far
found_nowhere path (b ∷ rest) so_far none = absurd (omega (arith, none))

pub shorter : (rest front : List ℕ) (b : ℕ) → rest ≡ front ++ b ∷ [] → length front < length rest
shorter rest front b is = rw (is, length-append) (omega arith)

pub ruleset parents = (found_here, goes_before, found_nowhere, shorter)
