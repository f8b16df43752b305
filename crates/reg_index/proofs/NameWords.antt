-- Names compared by several bytes at once.
use Rattle.std.proofs.Common.{◌≡◌, ℕ, zero, suc, ◌+◌, ◌≤◌, List, [], ◌∷◌, length, take, drop, refl, sym, ap, ◌∙◌, subst, arith}
use Rattle.std.specs.Int.{w64, to_le_bytes}
use Rattle.std.specs.Ordering.{nat_cmp, ordering_then}
use Rattle.std.specs.Cmp.{nat_cmp_is}
use Rattle.std.specs.declared.cmp.Ordering.{Ordering}
use Rattle.std.specs.declared.cmp.Ordering.TheVariants.{Less, Equal, Greater}
use Rattle.reg_names.specs.Names.{fold, name_cmp}

then-grouped : (o p q : Ordering) → ordering_then o (ordering_then p q) ≡ ordering_then (ordering_then o p) q
then-grouped Less p q = refl
then-grouped Equal p q = refl
then-grouped Greater p q = refl

-- the order of two names is that of fronts of one length, and else that of what is behind
parted : (n : ℕ) (a b : List ℕ) → n ≤ length a → n ≤ length b →
    name_cmp a b ≡ ordering_then (name_cmp (take n a) (take n b)) (name_cmp (drop n a) (drop n b))
parted zero a b l k = refl
parted (suc n) [] b l k = absurd (omega (arith, l))
parted (suc n) (x ∷ a) [] l k = absurd (omega (arith, k))
parted (suc n) (x ∷ a) (y ∷ b) l k =
    ap (λ o. ordering_then (nat_cmp (fold x) (fold y)) o) (parted n a b (omega (arith, l)) (omega (arith, k)))
    ∙ then-grouped (nat_cmp (fold x) (fold y)) (name_cmp (take n a) (take n b)) (name_cmp (drop n a) (drop n b))

pub same-name : (a : List ℕ) → name_cmp a a ≡ Equal
same-name [] = refl
same-name (x ∷ a) = ap (λ o. ordering_then o (name_cmp a a)) (sym (nat_cmp_is (fold x) (fold x) Equal refl)) ∙ same-name a

-- bytes that make one number are the same
pub same-words : (x y : ℕ) (a b : List ℕ) → to_le_bytes w64 x ≡ a → to_le_bytes w64 y ≡ b → x ≡ y → Equal ≡ name_cmp a b
same-words x y a b e f s =
    let same : a ≡ b = sym e ∙ (ap (λ n. to_le_bytes w64 n) s ∙ f) in
    sym (subst (λ c. name_cmp a c ≡ Equal) same (same-name a))

-- two names, each parted into a front of one length and what is behind
module _ (n : ℕ) (one other first second rest behind : List ℕ) (f : first ≡ take n one) (r : rest ≡ drop n one) (l : length rest + n ≡ length one)
    (s : second ≡ take n other) (b : behind ≡ drop n other) (k : length behind + n ≡ length other) where
  by-fronts : (o : Ordering) → name_cmp first second ≡ o → name_cmp one other ≡ ordering_then o (name_cmp rest behind)
  by-fronts o e =
      parted n one other (omega (arith, l)) (omega (arith, k))
      ∙ (ap (λ xs. ordering_then (name_cmp xs (take n other)) (name_cmp (drop n one) (drop n other))) (sym f)
      ∙ (ap (λ xs. ordering_then (name_cmp first xs) (name_cmp (drop n one) (drop n other))) (sym s)
      ∙ (ap (λ xs. ordering_then (name_cmp first second) (name_cmp xs (drop n other))) (sym r)
      ∙ (ap (λ xs. ordering_then (name_cmp first second) (name_cmp rest xs)) (sym b)
      ∙ ap (λ o. ordering_then o (name_cmp rest behind)) e))))

  pub goes-on : name_cmp first second ≡ Equal → name_cmp one other ≡ name_cmp rest behind
  goes-on e = by-fronts Equal e
