-- Units of UTF-16, read from bytes and spelt.
use Rattle.std.proofs.Common.{◌≡◌, ℕ, ◌+◌, ◌-◌, ◌*◌, ◌<◌, ◌≤◌, Bool, true, false, cond, ◌==◌, List, [], ◌∷◌, ◌++◌, length, get_or, take, drop, Option, Some, None, refl, sym, ap, ◌∙◌, arith, append_assoc, append-nil}
use Rattle.std.specs.Prelude.{if◌then◌else◌}
use Rattle.std.specs.Option.{option_map}
use Rattle.std.proofs.lemmas.Bool.Decides.{nat_tests}
use Rattle.std.proofs.lemmas.List.{take_all}
use Rattle.reg_tree_text.specs.ValueTexts.{units_of, unended}

-- ---- units read so far

pub units_start : (units : Option (List ℕ)) (empty : List ℕ) → empty ≡ [] → units ≡ option_map (λ more. empty ++ more) units
units_start None empty e = refl
units_start (Some units) empty e = ap (λ (x : List ℕ). Some (x ++ units)) (sym e)

-- a unit more
more : (units : Option (List ℕ)) (taken : List ℕ) (unit : ℕ) →
    option_map (λ behind. taken ++ behind) (option_map (λ behind. unit ∷ behind) units) ≡ option_map (λ behind. (taken ++ unit ∷ []) ++ behind) units
more None taken unit = refl
more (Some units) taken unit = ap (λ (x : List ℕ). Some x) (sym (append_assoc taken (unit ∷ []) units))

pub units_more : (bytes taken new rest behind : List ℕ) (unit : ℕ) → units_of bytes ≡ option_map (λ more. taken ++ more) (units_of rest) →
    2 ≤ length rest → behind ≡ take (length rest - 2) (drop 2 rest) → unit ≡ get_or rest 0 0 + 256 * get_or rest 1 0 →
    new ≡ taken ++ unit ∷ [] → units_of bytes ≡ option_map (λ more. new ++ more) (units_of behind)
units_more bytes taken new [] behind unit so_far two b u n = absurd (omega (arith, two))
units_more bytes taken new (low ∷ []) behind unit so_far two b u n = absurd (omega (arith, two))
units_more bytes taken new (low ∷ high ∷ rest) behind unit so_far two b u n =
    let all : behind ≡ rest = b ∙ take_all (length (low ∷ high ∷ rest) - 2) rest (omega arith) in
    so_far
    ∙ (ap (λ (x : ℕ). option_map (λ more. taken ++ more) (option_map (λ units. x ∷ units) (units_of rest))) (sym u)
    ∙ (more (units_of rest) taken unit
    ∙ (ap (λ (x : List ℕ). option_map (λ more. x ++ more) (units_of rest)) (sym n)
    ∙ ap (λ (x : List ℕ). option_map (λ more. new ++ more) (units_of x)) (sym all))))

-- a last byte is alone
pub units_none : (bytes taken rest : List ℕ) → units_of bytes ≡ option_map (λ more. taken ++ more) (units_of rest) → length rest < 2 →
    0 < length rest → None ≡ units_of bytes
units_none bytes taken [] so_far one some = absurd (omega (arith, some))
units_none bytes taken (low ∷ []) so_far one some = sym so_far
units_none bytes taken (low ∷ high ∷ rest) so_far one some = absurd (omega (arith, one))

-- nothing is left
pub units_all : (bytes taken rest : List ℕ) → units_of bytes ≡ option_map (λ more. taken ++ more) (units_of rest) → length rest ≡ 0 →
    Some taken ≡ units_of bytes
units_all bytes taken [] so_far e = ap (λ (x : List ℕ). Some x) (sym (append-nil taken)) ∙ sym so_far
units_all bytes taken (x ∷ rest) so_far e = absurd (omega (arith, e))

-- ---- the zero at the end

onto : (b : Bool) (x : ℕ) (xs ys : List ℕ) → x ∷ cond b xs ys ≡ cond b (x ∷ xs) (x ∷ ys)
onto true x xs ys = refl
onto false x xs ys = refl

last : (front : List ℕ) (unit : ℕ) → unended (front ++ unit ∷ []) ≡ (if unit == 0 then front else front ++ unit ∷ [])
last [] unit = refl
last (x ∷ []) unit = onto (unit == 0) x [] (unit ∷ [])
last (x ∷ y ∷ front) unit = ap (λ (w : List ℕ). x ∷ w) (last (y ∷ front) unit) ∙ onto (unit == 0) x (y ∷ front) (y ∷ front ++ unit ∷ [])

pub ended : (units front : List ℕ) (unit : ℕ) → units ≡ front ++ unit ∷ [] → unit ≡ 0 → front ≡ unended units
ended units front unit e z =
    sym (ap unended e ∙ (last front unit ∙ ap (λ (u : ℕ). if u == 0 then front else front ++ unit ∷ []) z))

pub not_ended : (units front : List ℕ) (unit : ℕ) → units ≡ front ++ unit ∷ [] → ¬ (unit ≡ 0) → units ≡ unended units
not_ended units front unit e n =
    let other : (unit == 0) ≡ false = grind (arith, nat_tests, n) in
    e ∙ sym (ap unended e ∙ (last front unit ∙ ap (λ (b : Bool). if b then front else front ++ unit ∷ []) other))

pub none_ended : (units : List ℕ) → length units ≡ 0 → units ≡ unended units
none_ended [] e = refl
none_ended (x ∷ units) e = absurd (omega (arith, e))
