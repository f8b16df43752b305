-- Whether keys to be made are too many, as a test. The limits are variables, so that nothing counts up to them.
use Rattle.std.proofs.Common.{◌≡◌, ◌≢◌, ◌⊎◌, inl, inr, ◌↔◌, ℕ, ◌+◌, ◌≤◌, ◌<◌, Bool, true, false, ◌||◌, nat_lt, nat_le, List, [], ◌∷◌, length, refl, sym, ap, ◌∙◌, arith}
use Rattle.std.proofs.lemmas.Bool.{and_parts, and_from, or_cases, or_left, or_right, ltb-true, leb-true, lt-ltb, le-leb, false≢true, false_from_ne_true}
use Rattle.reg_names.specs.declared.TheConstants.{PATH_LIMIT}
use Rattle.reg_heap.specs.declared.limits.TheConstants.{SUBKEYS_LIMIT, MADE_LIMIT}
use Rattle.reg_heap.specs.Paths.{Path, Tree, children_of}
use Rattle.reg_heap.specs.Edits.{missing, last_there, are_too_many}
use Rattle.reg_tree.specs.Internal.KeyCreation.{AreTooMany}

-- ---- three numbers and their limits

module _ (most deep full made long below : ℕ) where
  abbrev Over : Type 0
  Over = (most < made) ⊎ ((deep < long) ⊎ (full ≤ below))

  abbrev is_over : Bool
  is_over = nat_lt most made || nat_lt deep long || nat_le full below

  over-told : is_over ≡ true → Over
  over-told e = by (or_cases (nat_lt most made || nat_lt deep long) (nat_le full below) e)
    where
      first : (nat_lt most made ≡ true) ⊎ (nat_lt deep long ≡ true) → Over
      first (inl m) = inl (ltb-true most made m)
      first (inr d) = inr (inl (ltb-true deep long d))

      by : ((nat_lt most made || nat_lt deep long) ≡ true) ⊎ (nat_le full below ≡ true) → Over
      by (inl e) = first (or_cases (nat_lt most made) (nat_lt deep long) e)
      by (inr f) = inr (inr (leb-true full below f))

  told-over : Over → is_over ≡ true
  told-over (inl m) = or_left (nat_lt most made || nat_lt deep long) (nat_le full below) (or_left (nat_lt most made) (nat_lt deep long) (lt-ltb most made m))
  told-over (inr (inl d)) = or_left (nat_lt most made || nat_lt deep long) (nat_le full below) (or_right (nat_lt most made) (nat_lt deep long) (lt-ltb deep long d))
  told-over (inr (inr f)) = or_right (nat_lt most made || nat_lt deep long) (nat_le full below) (le-leb full below f)

-- ---- names that are missing

some-are : (names : List (List ℕ)) → names ≢ [] → nat_lt 0 (length names) ≡ true
some-are [] some = absurd (some refl)
some-are (name ∷ names) some = lt-ltb 0 (length (name ∷ names)) (omega arith)

are-some : (names : List (List ℕ)) → nat_lt 0 (length names) ≡ true → names ≢ []
are-some names t e = let l = ltb-true 0 (length names) t in let n = ap length e in absurd (omega (arith, l, n))

-- ---- the record and the test

module _ (t : Tree) (p : Path) (names : List (List ℕ)) where
  abbrev left : List (List ℕ)
  left = missing t p names

  abbrev below : ℕ
  below = length (children_of t (last_there t p names))

  pub too_many-test : AreTooMany t p names → are_too_many t p names ≡ true
  too_many-test m =
      and_from (nat_lt 0 (length left)) (is_over MADE_LIMIT PATH_LIMIT SUBKEYS_LIMIT (length left) (length p + length names) below) (some-are left m.some)
      (told-over MADE_LIMIT PATH_LIMIT SUBKEYS_LIMIT (length left) (length p + length names) below m.many)

  pub test-too_many : are_too_many t p names ≡ true → AreTooMany t p names
  test-too_many e =
      let both = and_parts (nat_lt 0 (length left)) (is_over MADE_LIMIT PATH_LIMIT SUBKEYS_LIMIT (length left) (length p + length names) below) e in
      record { some = are-some left both.0; many = over-told MADE_LIMIT PATH_LIMIT SUBKEYS_LIMIT (length left) (length p + length names) below both.1 }

  -- a fact that is told by the record is told by the test
  pub by_test : {A : Type 0} → A ↔ AreTooMany t p names → A ↔ (are_too_many t p names ≡ true)
  by_test h = ((λ a. too_many-test (h.0 a)), λ e. h.1 (test-too_many e))

  -- an answer that is told by the record is the test
  pub test-is : (b : Bool) → (b ≡ true) ↔ AreTooMany t p names → b ≡ are_too_many t p names
  test-is true h = sym (too_many-test (h.0 refl))
  test-is false h = sym (false_from_ne_true (are_too_many t p names) (λ e. false≢true (h.1 (test-too_many e))))

  pub test-false : (AreTooMany t p names → ⊥) → false ≡ are_too_many t p names
  test-false none = test-is false ((λ e. absurd (false≢true e)), λ m. absurd (none m))

  -- where the test says no, they aren't
  pub not_many : are_too_many t p names ≡ false → AreTooMany t p names → ⊥
  not_many e m = absurd (false≢true (sym e ∙ too_many-test m))
