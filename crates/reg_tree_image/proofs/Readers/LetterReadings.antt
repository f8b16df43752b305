-- A name's characters, one by one.
use Rattle.std.proofs.Common.{◌≡◌, ℕ, zero, suc, ◌+◌, ◌*◌, ◌/◌, ◌%◌, ◌<◌, ◌≤◌, ◌==◌, ◌&&◌, ◌||◌, nat_le, nat_lt, Bool}
use Rattle.std.proofs.Common.{true, false, Some, Result, Ok, Err, List, [], ◌∷◌, ◌++◌, length, take, get_or, slice_get}
use Rattle.std.proofs.Common.{refl, sym, ap, ◌∙◌, arith}
use Rattle.std.specs.List.{list_all}
use Rattle.std.proofs.lemmas.Bool.{false≢true, ne_eqb}
use Rattle.std.proofs.lemmas.Bool.Decides.{nat_tests}
use Rattle.std.proofs.lemmas.Option.{none-some, same_Some}
use Rattle.reg_shape.specs.Nodes.{letters}
use Rattle.reg_tree_image.specs.declared.LoadFault.{LoadFault}
use Rattle.reg_tree_image.specs.declared.LoadFault.TheVariants.{Record, Limit, NotInProfile}
use Rattle.reg_tree_image.specs.WalkSteps.{Seen}
use Rattle.reg_tree_image.specs.LoadingWalk.{name_in}
use Rattle.reg_tree_image.specs.Internal.NameReadings.{letters_in}
use Rattle.reg_tree_image.specs.Internal.ReaderOutcomes.{Gives}
use Rattle.reg_tree_image.proofs.Readers.ReaderSteps.{check-gives}

-- ---- of two bytes each

pub wide-length : (name : List ℕ) → length name % 2 ≡ 0 → length (letters false name) ≡ length name / 2
wide-length [] e = refl
wide-length (low ∷ []) e = absurd (omega (arith, e))
wide-length (low ∷ high ∷ rest) e = let r = wide-length rest (omega (arith, e)) in omega (arith, r)

pub wide-letter : (name : List ℕ) → length name % 2 ≡ 0 → (index : ℕ) → index < length (letters false name) →
    slice_get (letters false name) index ≡ Some (get_or name (2 * index) 0 + 256 * get_or name (2 * index + 1) 0)
wide-letter [] e index l = absurd (omega (arith, l))
wide-letter (low ∷ []) e index l = absurd (omega (arith, e))
wide-letter (low ∷ high ∷ rest) e zero l = refl
wide-letter (low ∷ high ∷ rest) e (suc n) l =
    let one : 2 * suc n ≡ suc (suc (2 * n)) = omega arith in
    let two : 2 * suc n + 1 ≡ suc (suc (2 * n + 1)) = omega arith in
    wide-letter rest (omega (arith, e)) n (omega (arith, l))
    ∙ ap (λ k. Some (get_or (low ∷ high ∷ rest) k 0 + 256 * get_or rest (2 * n + 1) 0)) (sym one)
    ∙ ap (λ k. Some (get_or (low ∷ high ∷ rest) (2 * suc n) 0 + 256 * get_or (low ∷ high ∷ rest) k 0)) (sym two)

-- as one asks who doesn't know yet how wide the characters are
pub letter-count : (single : Bool) (name : List ℕ) → single ≡ false → (single ≡ false → length name % 2 ≡ 0) → length name / 2 ≡ length (letters single name)
letter-count single name s e = sym (wide-length name (e s)) ∙ ap (λ b. length (letters b name)) (sym s)

pub letter-within : (name : List ℕ) (index : ℕ) → length name % 2 ≡ 0 → index < length (letters false name) → 2 * index + 1 < length name
letter-within name index e l = let n = wide-length name e in omega (arith, n, l, e)

-- ---- so many were read

-- each of the first characters is allowed, and they were copied
pub record AreRead (letters : List ℕ) (ok : ℕ → Bool) (index : ℕ) (read : List ℕ) : Type 0 where
  pub read_is : read ≡ take index letters
  pub good : list_all ok (take index letters) ≡ true

pub none-read : (letters : List ℕ) (ok : ℕ → Bool) → AreRead letters ok 0 []
none-read letters ok = record { read_is = refl; good = refl }

take-next : (xs : List ℕ) (i x : ℕ) → slice_get xs i ≡ Some x → take (suc i) xs ≡ take i xs ++ x ∷ []
take-next [] i x e = absurd (none-some _ e)
take-next (y ∷ ys) zero x e = ap (λ z. z ∷ []) (same_Some _ _ e)
take-next (y ∷ ys) (suc i) x e = ap (λ zs. y ∷ zs) (take-next ys i x e)

all-next : (ok : ℕ → Bool) (xs : List ℕ) (x : ℕ) → list_all ok xs ≡ true → list_all ok (xs ++ x ∷ []) ≡ ok x
all-next ok [] x e = by (ok x)
  where
    by : (b : Bool) → (b && true) ≡ b
    by true = refl
    by false = refl
all-next ok (y ∷ ys) x e = by (ok y) (list_all ok ys) e (λ r. all-next ok ys x r)
  where
    by : (a b : Bool) → (a && b) ≡ true → (b ≡ true → list_all ok (ys ++ x ∷ []) ≡ ok x) → (a && list_all ok (ys ++ x ∷ [])) ≡ ok x
    by true true e h = h refl
    by true false e h = h e
    by false b e h = absurd (cc)

pub more-read : (letters : List ℕ) (ok : ℕ → Bool) (index : ℕ) (read : List ℕ) (x : ℕ) → AreRead letters ok index read → slice_get letters index ≡ Some x →
    ok x ≡ true → AreRead letters ok (index + 1) (read ++ x ∷ [])
more-read letters ok index read x a e o =
    let next : take (index + 1) letters ≡ take index letters ++ x ∷ [] = ap (λ k. take k letters) (let p : index + 1 ≡ suc index = omega arith in p) ∙ take-next letters index x e in
    record {
      read_is = ap (λ xs. xs ++ x ∷ []) a.read_is ∙ sym next;
      good = ap (list_all ok) next ∙ (all-next ok (take index letters) x a.good ∙ o);
    }

all-front : (ok : ℕ → Bool) (n : ℕ) (xs : List ℕ) → list_all ok xs ≡ true → list_all ok (take n xs) ≡ true
all-front ok zero xs e = refl
all-front ok (suc n) [] e = refl
all-front ok (suc n) (x ∷ xs) e = by (ok x) (list_all ok xs) e (λ r. all-front ok n xs r)
  where
    by : (a b : Bool) → (a && b) ≡ true → (b ≡ true → list_all ok (take n xs) ≡ true) → (a && list_all ok (take n xs)) ≡ true
    by true true e h = h refl
    by true false e h = h e
    by false b e h = absurd (cc)

take-all : (xs : List ℕ) (n : ℕ) → length xs ≤ n → take n xs ≡ xs
take-all [] zero l = refl
take-all [] (suc n) l = refl
take-all (x ∷ xs) zero l = absurd (omega (arith, l))
take-all (x ∷ xs) (suc n) l = ap (λ zs. x ∷ zs) (take-all xs n (omega (arith, l)))

-- ---- the step

pub some-name : (n : ℕ) → (n ≡ 0 → ⊥) → nat_lt 0 n ≡ true
some-name zero h = absurd (h refl)
some-name (suc n) h = grind (arith, nat_tests)

pub odd-test : (n : ℕ) → (n % 2 ≡ 0 → ⊥) → (n % 2 == 0) ≡ false
odd-test n h = ne_eqb (n % 2) 0 h

module _ (letters : List ℕ) (ok : ℕ → Bool) (index : ℕ) (read : List ℕ) (a : AreRead letters ok index read) where
  pub bad-letter : (x : ℕ) → slice_get letters index ≡ Some x → ok x ≡ false → (seen : Seen) → letters_in ok letters seen ≡ Err NotInProfile
  bad-letter x g o seen = let b = bad (list_all ok letters) refl in rw b refl
    where
      bad : (b : Bool) → list_all ok letters ≡ b → list_all ok letters ≡ false
      bad false k = k
      bad true k =
          let front = all-front ok (suc index) letters k in
          let last = ap (list_all ok) (take-next letters index x g) ∙ all-next ok (take index letters) x a.good in
          absurd (false≢true (sym o ∙ (sym last ∙ front)))

  pub good-letters : length letters ≤ index → (seen : Seen) → letters_in ok letters seen ≡ Ok (read, seen)
  good-letters past seen =
      let all = take-all letters index past in
      let b : list_all ok letters ≡ true = ap (list_all ok) (sym all) ∙ a.good in
      let r : letters ≡ read = sym (a.read_is ∙ all) in
      rw b (ap (λ n. Ok (n, seen)) r)

-- of one byte each
pub odd-single : (single : Bool) (ok : ℕ → Bool) (name : List ℕ) → single ≡ true → list_all ok name ≡ false → (seen : Seen) →
    letters_in ok (letters single name) seen ≡ Err NotInProfile
odd-single single ok name s e seen = rw (s, e) refl

pub good-single : (single : Bool) (ok : ℕ → Bool) (name : List ℕ) → single ≡ true → list_all ok name ≡ true → (seen : Seen) →
    letters_in ok (letters single name) seen ≡ Ok (name, seen)
good-single single ok name s e seen = rw (s, e) refl

module _ (single : Bool) (most : ℕ) (ok : ℕ → Bool) (name : List ℕ) where
  pub odd-name : single ≡ false → (length name % 2 == 0) ≡ false → (seen : Seen) → name_in single most ok name seen ≡ Err Record
  odd-name s e seen = let b : (single || (length name % 2 == 0)) ≡ false = ap (λ b. b || (length name % 2 == 0)) s ∙ e in rw b refl

  even-by : (b : Bool) → single ≡ b → (single ≡ false → length name % 2 ≡ 0) → (single || (length name % 2 == 0)) ≡ true
  even-by true s e = ap (λ b. b || (length name % 2 == 0)) s
  even-by false s e = ap (λ b. b || (length name % 2 == 0)) s ∙ ap (λ n. n == 0) (e s)

  pub long-name : (single ≡ false → length name % 2 ≡ 0) → most < length (letters single name) → (seen : Seen) → name_in single most ok name seen ≡ Err Limit
  long-name e l seen =
      let a = even-by single refl e in
      let b : nat_le (length (letters single name)) most ≡ false = more (length (letters single name)) most l in
      rw (a, b) refl
    where
      more : (n m : ℕ) → m < n → nat_le n m ≡ false
      more n m l = grind (arith, nat_tests)

  few-by : length (letters single name) ≤ most → nat_le (length (letters single name)) most ≡ true
  few-by l = less (length (letters single name)) most l
    where
      less : (n m : ℕ) → n ≤ m → nat_le n m ≡ true
      less n m l = grind (arith, nat_tests)

  -- what is left of the step where the name is of whole characters, and not too many
  pub letters-left : {X : Type 0} (view : X → List ℕ) (r : Result X LoadFault) → (single ≡ false → length name % 2 ≡ 0) →
      length (letters single name) ≤ most → Gives view (letters_in ok (letters single name)) r → Gives view (name_in single most ok name) r
  letters-left view r e l g = check-gives view Record _ _ r (even-by single refl e) (check-gives view Limit _ _ r (few-by l) g)
