-- Keys that a walk told, as they are looked up.
use Rattle.std.proofs.Common.{◌≡◌, ◌≢◌, ℕ, ◌||◌, not, cond, Bool, true, false, Some, None, List, [], ◌∷◌, ◌++◌, append_assoc, refl, sym, ap, ◌∙◌}
use Rattle.std.specs.List.{AllByRecursion, list_any}
use Rattle.std.specs.FinMap.{find}
use Rattle.std.specs.Ordering.{eq_by_cmp, is_eq, nat_cmp}
use Rattle.std.specs.Cmp.Lexicographic.{slice_cmp}
use Rattle.std.proofs.lemmas.Bool.{false≢true}
use Rattle.std.proofs.lemmas.List.{append-nil, append_cancel_left}
use Rattle.std.proofs.lemmas.List.Folds.{list_any-append}
use Rattle.reg_names.specs.Names.{folded}
use Rattle.reg_heap.specs.Paths.{Path, Rec, path_cmp}
use Rattle.reg_heap.specs.Members.{same_name}
use Rattle.reg_heap.proofs.ChildrenOfPath.{path-is}
use Rattle.reg_shape.proofs.Refinement.RefinementAfterEdit.{name-is, name-self}
use Rattle.reg_tree.proofs.InsertKey.PathGrowth.{path-self}
use Rattle.reg_tree_image.specs.LoadingWalk.{is_free}

abbrev pub Told : Type 0
Told = List (Path × Rec)

-- ---- looked up

pub find-later : (q : Path) (xs ys : Told) → find path_cmp q xs ≡ None → find path_cmp q (xs ++ ys) ≡ find path_cmp q ys
find-later q [] ys e = refl
find-later q (x ∷ xs) ys e = by (find-later q xs ys) (eq_by_cmp path_cmp q x.0) e
  where
    by : (find path_cmp q xs ≡ None → find path_cmp q (xs ++ ys) ≡ find path_cmp q ys) → (b : Bool) → cond b (Some x.1) (find path_cmp q xs) ≡ None →
        cond b (Some x.1) (find path_cmp q (xs ++ ys)) ≡ find path_cmp q ys
    by rest true e = absurd (cc)
    by rest false e = rest e

pub find-first : (q : Path) (xs ys : Told) → find path_cmp q ys ≡ None → find path_cmp q (xs ++ ys) ≡ find path_cmp q xs
find-first q [] ys e = e
find-first q (x ∷ xs) ys e = ap (cond (eq_by_cmp path_cmp q x.0) (Some x.1)) (find-first q xs ys e)

pub find-none : (q : Path) (xs : Told) → AllByRecursion (λ (e : Path × Rec). e.0 ≢ q) xs → find path_cmp q xs ≡ None
find-none q [] a = refl
find-none q (x ∷ xs) a = by (eq_by_cmp path_cmp q x.0) refl (find-none q xs a.1)
  where
    by : (b : Bool) → eq_by_cmp path_cmp q x.0 ≡ b → find path_cmp q xs ≡ None → cond b (Some x.1) (find path_cmp q xs) ≡ None
    by true t e = absurd (a.0 (sym (path-is q x.0 t)))
    by false t e = e

pub find-here : (q : Path) (r : Rec) (xs : Told) → find path_cmp q ((q, r) ∷ xs) ≡ Some r
find-here q r xs = ap (λ (b : Bool). cond b (Some r) (find path_cmp q xs)) (path-self q)

pub find-other : (q p : Path) (r : Rec) (xs : Told) → p ≢ q → find path_cmp q ((p, r) ∷ xs) ≡ find path_cmp q xs
find-other q p r xs n = by (eq_by_cmp path_cmp q p) refl
  where
    by : (b : Bool) → eq_by_cmp path_cmp q p ≡ b → cond b (Some r) (find path_cmp q xs) ≡ find path_cmp q xs
    by true t = absurd (n (sym (path-is q p t)))
    by false t = refl

-- ---- below a path

abbrev pub IsUnder : Path → Path × Rec → Type 0
IsUnder p e = (c : List ℕ) × (rest : Path) × (e.0 ≡ p ++ c ∷ rest)

abbrev pub IsUnderOther : Path → List ℕ → Path × Rec → Type 0
IsUnderOther p d e = (c : List ℕ) × (rest : Path) × (e.0 ≡ p ++ c ∷ rest) × (c ≢ d)

pub all-as : {A : Type 0} (P Q : A → Type 0) → ((x : A) → P x → Q x) → (xs : List A) → AllByRecursion P xs → AllByRecursion Q xs
all-as P Q f [] a = tt
all-as P Q f (x ∷ xs) a = (f x a.0, all-as P Q f xs a.1)

pub child-under : (p : Path) (c : List ℕ) (rest : Path) → (p ++ c ∷ []) ++ rest ≡ p ++ c ∷ rest
child-under p c rest = append_assoc p (c ∷ []) rest

pub not-under : (p : Path) (c : List ℕ) (rest : Path) → p ≢ p ++ c ∷ rest
not-under p c rest e = let n = append_cancel_left p (c ∷ rest) [] (sym e ∙ sym (append-nil p)) in absurd (cc (n))

same-first : (p : Path) (c d : List ℕ) (q r : Path) → p ++ c ∷ q ≡ p ++ d ∷ r → c ≡ d
same-first p c d q r e = let n = append_cancel_left p (c ∷ q) (d ∷ r) e in cc (n)

pub other-none : (p : Path) (c : List ℕ) (rest : Path) (xs : Told) → AllByRecursion (IsUnderOther p c) xs → find path_cmp (p ++ c ∷ rest) xs ≡ None
other-none p c rest xs a =
    find-none (p ++ c ∷ rest) xs
    (all-as (IsUnderOther p c) (λ e. e.0 ≢ p ++ c ∷ rest) (λ e u same. u.3 (same-first p u.0 c u.1 rest (sym u.2 ∙ same))) xs a)

-- ---- free paths

pub taken-more : (p : Path) (xs ys : Told) → is_free p xs ≡ false → is_free p (xs ++ ys) ≡ false
taken-more p xs ys e = ap not (list_any-append (λ (e : Path × Rec). eq_by_cmp path_cmp e.0 p) xs ys) ∙ by (list_any (λ (e : Path × Rec). eq_by_cmp path_cmp e.0 p) xs) e
  where
    by : (b : Bool) → not b ≡ false → not (b || list_any (λ (e : Path × Rec). eq_by_cmp path_cmp e.0 p) ys) ≡ false
    by true e = refl
    by false e = absurd (cc)

pub taken-here : (p : Path) (r : Rec) (xs ys : Told) → is_free p (xs ++ (p, r) ∷ ys) ≡ false
taken-here p r xs ys =
    ap not (list_any-append (λ (e : Path × Rec). eq_by_cmp path_cmp e.0 p) xs ((p, r) ∷ ys))
    ∙ (ap (λ (b : Bool). not (list_any (λ (e : Path × Rec). eq_by_cmp path_cmp e.0 p) xs || (b || list_any (λ (e : Path × Rec). eq_by_cmp path_cmp e.0 p) ys))) (path-self p)
    ∙ by (list_any (λ (e : Path × Rec). eq_by_cmp path_cmp e.0 p) xs))
  where
    by : (b : Bool) → not (b || true) ≡ false
    by true = refl
    by false = refl

pub free-other : (p : Path) (c d : List ℕ) (xs : Told) → is_free (p ++ c ∷ []) xs ≡ true → is_free (p ++ d ∷ []) xs ≡ false → c ≢ d
free-other p c d xs f t e = absurd (false≢true (sym t ∙ (ap (λ (z : List ℕ). is_free (p ++ z ∷ []) xs) (sym e) ∙ f)))

-- a key that is found was told
found-there : (q : Path) (r : Rec) (xs : Told) → find path_cmp q xs ≡ Some r → list_any (λ (e : Path × Rec). eq_by_cmp path_cmp e.0 q) xs ≡ true
found-there q r [] e = absurd (cc)
found-there q r (x ∷ xs) e = by (found-there q r xs) (eq_by_cmp path_cmp q x.0) refl e
  where
    last : (b : Bool) → (b || true) ≡ true
    last true = refl
    last false = refl

    by : (find path_cmp q xs ≡ Some r → list_any (λ (e : Path × Rec). eq_by_cmp path_cmp e.0 q) xs ≡ true) → (b : Bool) → eq_by_cmp path_cmp q x.0 ≡ b →
        cond b (Some x.1) (find path_cmp q xs) ≡ Some r → (eq_by_cmp path_cmp x.0 q || list_any (λ (e : Path × Rec). eq_by_cmp path_cmp e.0 q) xs) ≡ true
    by rest true t f = ap (λ (k : Path). eq_by_cmp path_cmp k q || list_any (λ (e : Path × Rec). eq_by_cmp path_cmp e.0 q) xs) (sym (path-is q x.0 t))
        ∙ ap (λ (b : Bool). b || list_any (λ (e : Path × Rec). eq_by_cmp path_cmp e.0 q) xs) (path-self q)
    by rest false t f = ap (λ (b : Bool). eq_by_cmp path_cmp x.0 q || b) (rest f) ∙ last (eq_by_cmp path_cmp x.0 q)

pub found-taken : (q : Path) (r : Rec) (xs ys : Told) → find path_cmp q ys ≡ Some r → is_free q (xs ++ ys) ≡ false
found-taken q r xs ys e =
    ap not (list_any-append (λ (e : Path × Rec). eq_by_cmp path_cmp e.0 q) xs ys)
    ∙ (ap (λ (b : Bool). not (list_any (λ (e : Path × Rec). eq_by_cmp path_cmp e.0 q) xs || b)) (found-there q r ys e)
    ∙ by (list_any (λ (e : Path × Rec). eq_by_cmp path_cmp e.0 q) xs))
  where
    by : (b : Bool) → not (b || true) ≡ false
    by true = refl
    by false = refl

-- no key below a child is right below the path
pub none-deeper : (p : Path) (c d : List ℕ) (xs : Told) → AllByRecursion (IsUnder (p ++ c ∷ [])) xs → find path_cmp (p ++ d ∷ []) xs ≡ None
none-deeper p c d xs a =
    find-none (p ++ d ∷ []) xs
    (all-as (IsUnder (p ++ c ∷ [])) (λ e. e.0 ≢ p ++ d ∷ []) (λ e u same. deeper u.0 u.1 (sym (u.2 ∙ child-under p c (u.0 ∷ u.1)) ∙ same)) xs a)
  where
    deeper : (b : List ℕ) (rest : Path) → p ++ c ∷ b ∷ rest ≡ p ++ d ∷ [] → ⊥
    deeper b rest e = let n = append_cancel_left p (c ∷ b ∷ rest) (d ∷ []) e in absurd (cc (n))

-- ---- names

pub fold-same : (a b : List ℕ) → same_name a b ≡ true → folded a ≡ folded b
fold-same a b e = name-is (folded a) (folded b) e

pub fold-other : (a b : List ℕ) → same_name a b ≡ false → folded a ≢ folded b
fold-other a b e same = absurd (false≢true (sym e ∙ (ap (λ (z : List ℕ). is_eq (slice_cmp nat_cmp z (folded b))) same ∙ name-self (folded b))))
