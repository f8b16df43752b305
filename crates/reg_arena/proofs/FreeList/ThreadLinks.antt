-- A list's links, and what an insert or a removal makes of them.
use Rattle.std.proofs.Common.{◌≡◌, ℕ, zero, suc, ◌+◌, ◌*◌, ◌/◌, ◌%◌, ◌<◌, ◌≤◌, Bool, true, false, cond, ◌⊎◌, inl, inr, List, [], ◌∷◌, ◌++◌, length, refl, sym, ap, ◌∙◌, subst, arith, eqb}
use Rattle.std.proofs.lemmas.Bool.{eqb-true, eq-eqb, ne_eqb, cases_eq, cases_lt}
use Rattle.reg_heap.specs.Kinds.{times}
use Rattle.reg_arena.specs.Internal.CellThreads.{Linked}

pub times-here : (x : ℕ) (xs : List ℕ) → 0 < times x (x ∷ xs)
times-here x xs = let e : eqb x x ≡ true = eq-eqb x x refl in rw e (omega arith)

pub times-there : (x y : ℕ) (xs : List ℕ) → 0 < times x xs → 0 < times x (y ∷ xs)
times-there x y xs h = omega arith

-- where a member stands
pub times-cases : (x y : ℕ) (xs : List ℕ) → 0 < times x (y ∷ xs) → (x ≡ y) ⊎ (0 < times x xs)
times-cases x y xs h = by (eqb y x) refl h
  where
    by : (b : Bool) → eqb y x ≡ b → 0 < cond b 1 0 + times x xs → (x ≡ y) ⊎ (0 < times x xs)
    by true e h = inl (sym (eqb-true y x e))
    by false e h = inr (omega arith)

-- what is no member
pub times-none : (c x : ℕ) (xs : List ℕ) → times c (x ∷ xs) ≡ 0 → (x ≡ c → ⊥) × (times c xs ≡ 0)
times-none c x xs h = ((λ e. let t : eqb x c ≡ true = eq-eqb x c e in let z = rw t at h in omega arith), omega arith)

-- the links and backs of the members stay
pub frame : (L B L' B' : ℕ → ℕ) (prev : ℕ) (xs : List ℕ) → L' prev ≡ L prev → ((x : ℕ) → 0 < times x xs → (L' x ≡ L x) × (B' x ≡ B x)) → Linked L B prev xs → Linked L' B' prev xs
frame L B L' B' prev [] e h l = e ∙ l
frame L B L' B' prev (x ∷ xs) e h l =
    let hx = h x (times-here x xs) in
    (e ∙ l.0, hx.1 ∙ l.1, frame L B L' B' x xs hx.0 (λ y m. h y (times-there y x xs m)) l.2)

-- links to c and backs to c change, and c is no member
pub frame_other : (L B L' B' : ℕ → ℕ) (c prev : ℕ) (xs : List ℕ) → (c ≡ 4294967295 → ⊥) → times c (prev ∷ xs) ≡ 0
    → ((x : ℕ) → 0 < times x (prev ∷ xs) → (L x ≡ c → ⊥) → L' x ≡ L x) → ((x : ℕ) → 0 < times x xs → (B x ≡ c → ⊥) → B' x ≡ B x)
    → Linked L B prev xs → Linked L' B' prev xs
frame_other L B L' B' c prev [] some away hL hB l = hL prev (times-here prev []) (λ e. some (sym e ∙ l)) ∙ l
frame_other L B L' B' c prev (x ∷ xs) some away hL hB l =
    let n = times-none c prev (x ∷ xs) away in
    let m = times-none c x xs n.1 in (
      hL prev (times-here prev (x ∷ xs)) (λ e. m.0 (sym l.0 ∙ e)) ∙ l.0,
      hB x (times-here x xs) (λ e. n.0 (sym l.1 ∙ e)) ∙ l.1,
      frame_other L B L' B' c x xs some n.1 (λ y i. hL y (times-there y prev (x ∷ xs) i)) (λ y i. hB y (times-there y x xs i)) l.2,
    )

-- a list with c taken out
abbrev pub without : ℕ → List ℕ → List ℕ
without c [] = []
without c (x ∷ xs) = cond (eqb x c) xs (x ∷ without c xs)

without-times : (c y x : ℕ) (xs : List ℕ) (b : Bool) → eqb x c ≡ b → (b ≡ false → times y (without c xs) + cond (eqb c y) 1 0 ≡ times y xs) →
    times y (cond b xs (x ∷ without c xs)) + cond (eqb c y) 1 0 ≡ times y (x ∷ xs)
without-times c y x xs true e h = let s : x ≡ c = eqb-true x c e in rw s (omega arith)
without-times c y x xs false e h = let i = h refl in omega arith

pub times-without : (c y : ℕ) (xs : List ℕ) → 0 < times c xs → times y (without c xs) + cond (eqb c y) 1 0 ≡ times y xs
times-without c y [] h = absurd (omega arith)
times-without c y (x ∷ xs) h = without-times c y x xs (eqb x c) refl (λ e. times-without c y xs (let z = rw e at h in omega arith))

unlink-here : (L B L' B' : ℕ → ℕ) (c prev : ℕ) (xs : List ℕ) → (c ≡ 4294967295 → ⊥) → times c xs ≡ 0
    → ((x : ℕ) → 0 < times x xs → (L x ≡ c → ⊥) → L' x ≡ L x) → ((x : ℕ) → 0 < times x xs → (B x ≡ c → ⊥) → B' x ≡ B x)
    → L' (B c) ≡ L c → ((L c ≡ 4294967295 → ⊥) → B' (L c) ≡ B c) → (0 < times 4294967295 xs → ⊥) → Linked L B prev (c ∷ xs) → Linked L' B' prev xs
unlink-here L B L' B' c prev [] some away hL hB u v w l = subst (λ p. L' p ≡ 4294967295) l.1 (u ∙ l.2)
unlink-here L B L' B' c prev (y ∷ ys) some away hL hB u v w l =
    let m = times-none c y ys away in (
      subst (λ p. L' p ≡ y) l.1 (u ∙ l.2.0),
      subst (λ n. B' n ≡ prev) l.2.0 (v (λ e. w (subst (λ n. 0 < times n (y ∷ ys)) (sym l.2.0 ∙ e) (times-here y ys))) ∙ l.1),
      frame_other L B L' B' c y ys some away hL (λ x i. hB x (times-there x y ys i)) l.2.2,
    )

-- c taken out of its list: the link to it and the back to it pass over it
pub unlink : (L B L' B' : ℕ → ℕ) (c prev : ℕ) (xs : List ℕ) → (c ≡ 4294967295 → ⊥) → (prev ≡ c → ⊥) → times c xs ≡ 1
    → ((x : ℕ) → 0 < times x (prev ∷ xs) → (L x ≡ c → ⊥) → L' x ≡ L x) → ((x : ℕ) → 0 < times x xs → (B x ≡ c → ⊥) → (x ≡ c → ⊥) → B' x ≡ B x)
    → L' (B c) ≡ L c → ((L c ≡ 4294967295 → ⊥) → B' (L c) ≡ B c) → (0 < times 4294967295 xs → ⊥) → Linked L B prev xs → Linked L' B' prev (without c xs)
unlink L B L' B' c prev [] some other once hL hB u v w l = absurd (omega arith)
unlink L B L' B' c prev (x ∷ xs) some other once hL hB u v w l = elim (cases_eq x c) [
  | inl e ↦
      let t : eqb x c ≡ true = eq-eqb x c e in
      let z = rw t at once in
      rw t (unlink-here L B L' B' c prev xs some (omega arith) (λ y i. hL y (times-there y prev (x ∷ xs) (times-there y x xs i)))
      (λ y i b. hB y (times-there y x xs i) b (λ q. (let g = subst (λ v. 0 < times v xs) q i in omega arith))) u v
      (λ i. w (times-there 4294967295 x xs i)) (subst (λ y. Linked L B prev (y ∷ xs)) e l))
  | inr n ↦
      let t : eqb x c ≡ false = ne_eqb x c n in
      let z = rw t at once in
      rw t (
        hL prev (times-here prev (x ∷ xs)) (λ e. n (sym l.0 ∙ e)) ∙ l.0,
        hB x (times-here x xs) (λ e. other (sym l.1 ∙ e)) n ∙ l.1,
        unlink L B L' B' c x xs some n (omega arith) (λ y i. hL y (times-there y prev (x ∷ xs) i)) (λ y i. hB y (times-there y x xs i)) u v (λ i. w (times-there 4294967295 x xs i)) l.2,
      )
]

-- a list that begins behind prev, with c put behind p
abbrev pub with_behind : ℕ → ℕ → ℕ → List ℕ → List ℕ
with_behind p c prev [] = cond (eqb prev p) (c ∷ []) []
with_behind p c prev (x ∷ xs) = cond (eqb prev p) (c ∷ (x ∷ xs)) (x ∷ with_behind p c x xs)

pub times-with : (p c y prev : ℕ) (xs : List ℕ) → 0 < times p (prev ∷ xs) → times y (with_behind p c prev xs) ≡ cond (eqb c y) 1 0 + times y xs
times-with p c y prev [] h = by (eqb prev p) refl h
  where
    by : (b : Bool) → eqb prev p ≡ b → 0 < cond b 1 0 + 0 → times y (cond b (c ∷ []) []) ≡ cond (eqb c y) 1 0 + 0
    by true e h = refl
    by false e h = absurd (omega arith)
times-with p c y prev (x ∷ xs) h = by (eqb prev p) h (λ i. times-with p c y x xs i)
  where
    by : (b : Bool) → 0 < cond b 1 0 + times p (x ∷ xs) → (0 < times p (x ∷ xs) → times y (with_behind p c x xs) ≡ cond (eqb c y) 1 0 + times y xs) →
        times y (cond b (c ∷ (x ∷ xs)) (x ∷ with_behind p c x xs)) ≡ cond (eqb c y) 1 0 + times y (x ∷ xs)
    by true h r = refl
    by false h r = let i = r (omega arith) in omega arith

-- neither p nor c is a member
frame_beside : (L B L' B' : ℕ → ℕ) (p c prev : ℕ) (xs : List ℕ) → times p (prev ∷ xs) ≡ 0 → times c (prev ∷ xs) ≡ 0
    → ((x : ℕ) → 0 < times x (prev ∷ xs) → (x ≡ p → ⊥) → (x ≡ c → ⊥) → L' x ≡ L x) → ((x : ℕ) → 0 < times x xs → (B x ≡ p → ⊥) → (x ≡ c → ⊥) → B' x ≡ B x)
    → Linked L B prev xs → Linked L' B' prev xs
frame_beside L B L' B' p c prev [] np nc hL hB l =
    hL prev (times-here prev []) (times-none p prev [] np).0 (times-none c prev [] nc).0 ∙ l
frame_beside L B L' B' p c prev (x ∷ xs) np nc hL hB l =
    let mp = times-none p prev (x ∷ xs) np in
    let mc = times-none c prev (x ∷ xs) nc in (
      hL prev (times-here prev (x ∷ xs)) mp.0 mc.0 ∙ l.0,
      hB x (times-here x xs) (λ e. mp.0 (sym l.1 ∙ e)) (times-none c x xs mc.1).0 ∙ l.1,
      frame_beside L B L' B' p c x xs mp.1 mc.1 (λ y i. hL y (times-there y prev (x ∷ xs) i)) (λ y i. hB y (times-there y x xs i)) l.2,
    )

link_in-here : (L B L' B' : ℕ → ℕ) (p c : ℕ) (xs : List ℕ) → L' p ≡ c → L' c ≡ L p → B' c ≡ p → ((L p ≡ 4294967295 → ⊥) → B' (L p) ≡ c)
    → ((x : ℕ) → 0 < times x xs → (x ≡ p → ⊥) → (x ≡ c → ⊥) → L' x ≡ L x) → ((x : ℕ) → 0 < times x xs → (B x ≡ p → ⊥) → (x ≡ c → ⊥) → B' x ≡ B x)
    → times p xs ≡ 0 → times c xs ≡ 0 → (0 < times 4294967295 xs → ⊥) → Linked L B p xs → Linked L' B' p (c ∷ xs)
link_in-here L B L' B' p c [] a b d e hL hB np nc w l = (a, d, b ∙ l)
link_in-here L B L' B' p c (x ∷ xs) a b d e hL hB np nc w l = (
  a,
  d,
  (
    b ∙ l.0,
    subst (λ n. B' n ≡ c) l.0 (e (λ z. w (subst (λ n. 0 < times n (x ∷ xs)) (sym l.0 ∙ z) (times-here x xs)))),
    frame_beside L B L' B' p c x xs np nc hL (λ y i. hB y (times-there y x xs i)) l.2,
  ),
)

-- c put behind p
pub link_in : (L B L' B' : ℕ → ℕ) (p c prev : ℕ) (xs : List ℕ) → L' p ≡ c → L' c ≡ L p → B' c ≡ p → ((L p ≡ 4294967295 → ⊥) → B' (L p) ≡ c)
    → ((x : ℕ) → 0 < times x (prev ∷ xs) → (x ≡ p → ⊥) → (x ≡ c → ⊥) → L' x ≡ L x) → ((x : ℕ) → 0 < times x xs → (B x ≡ p → ⊥) → (x ≡ c → ⊥) → B' x ≡ B x)
    → times p (prev ∷ xs) ≡ 1 → times c (prev ∷ xs) ≡ 0 → (0 < times 4294967295 xs → ⊥) → Linked L B prev xs → Linked L' B' prev (with_behind p c prev xs)
link_in L B L' B' p c prev [] a b d e hL hB np nc w l =
    let t : eqb prev p ≡ true = once (eqb prev p) np in
    let s : prev ≡ p = eqb-true prev p t in
    rw t (subst (λ q. Linked L' B' q (c ∷ [])) (sym s) (link_in-here L B L' B' p c [] a b d e (λ x i. absurd (omega arith)) (λ x i. absurd (omega arith)) refl refl w
    (subst (λ q. Linked L B q []) s l)))
  where
    once : (t : Bool) → cond t 1 0 + 0 ≡ 1 → t ≡ true
    once true h = refl
    once false h = absurd (omega arith)
link_in L B L' B' p c prev (x ∷ xs) a b d e hL hB np nc w l = elim (cases_eq prev p) [
  | inl s ↦
      let t : eqb prev p ≡ true = eq-eqb prev p s in
      let z = rw t at np in
      rw t (subst (λ q. Linked L' B' q (c ∷ (x ∷ xs))) (sym s) (link_in-here L B L' B' p c (x ∷ xs) a b d e (λ y i. hL y (times-there y prev (x ∷ xs) i)) hB (omega arith)
      (times-none c prev (x ∷ xs) nc).1 w (subst (λ q. Linked L B q (x ∷ xs)) s l)))
  | inr s ↦
      let t : eqb prev p ≡ false = ne_eqb prev p s in
      let z = rw t at np in
      let m = times-none c prev (x ∷ xs) nc in
      rw t (
        hL prev (times-here prev (x ∷ xs)) s m.0 ∙ l.0,
        hB x (times-here x xs) (λ q. s (sym l.1 ∙ q)) (times-none c x xs m.1).0 ∙ l.1,
        link_in L B L' B' p c x xs a b d e (λ y i. hL y (times-there y prev (x ∷ xs) i)) (λ y i. hB y (times-there y x xs i)) (omega arith) m.1 (λ i. w (times-there 4294967295 x xs i)) l.2,
      )
]

-- the cell behind one
pub behind : (L B : ℕ → ℕ) (p prev : ℕ) (xs : List ℕ) → Linked L B prev xs → 0 < times p (prev ∷ xs) → (L p ≡ 4294967295 → ⊥) → (B (L p) ≡ p) × (0 < times (L p) xs)
behind L B p prev [] l h some = by (times-cases p prev [] h)
  where
    by : (p ≡ prev) ⊎ (0 < 0) → (B (L p) ≡ p) × (0 < 0)
    by (inl e) = absurd (some (subst (λ q. L q ≡ 4294967295) (sym e) l))
    by (inr z) = absurd (omega arith)
behind L B p prev (x ∷ xs) l h some = elim (times-cases p prev (x ∷ xs) h) [
  | inl e ↦
      let n : L p ≡ x = subst (λ q. L q ≡ x) (sym e) l.0 in
      (subst (λ q. B q ≡ p) (sym n) (l.1 ∙ sym e), subst (λ q. 0 < times q (x ∷ xs)) (sym n) (times-here x xs))
  | inr m ↦ let r = behind L B p x xs l.2 m some in (r.0, times-there (L p) x xs r.1)
]

-- the cell before one
pub before : (L B : ℕ → ℕ) (c prev : ℕ) (xs : List ℕ) → Linked L B prev xs → 0 < times c xs → (L (B c) ≡ c) × (0 < times (B c) (prev ∷ xs))
before L B c prev [] l h = absurd (omega arith)
before L B c prev (x ∷ xs) l h = elim (times-cases c x xs h) [
  | inl e ↦
      let n : B c ≡ prev = ap B e ∙ l.1 in
      (ap L n ∙ l.0 ∙ sym e, subst (λ q. 0 < times q (prev ∷ (x ∷ xs))) (sym n) (times-here prev (x ∷ xs)))
  | inr m ↦ let r = before L B c x xs l.2 m in (r.0, times-there (B c) prev (x ∷ xs) r.1)
]

-- where each cell of a list that does not follow one of its size is the first of it, a size's first is there if any is
pub first-there : (S L B F : ℕ → ℕ) (m s x prev : ℕ) (xs : List ℕ) → Linked L B prev xs
    → ((y : ℕ) → 0 < times y xs → S y < m → (S (B y) ≡ S y → ⊥) → F (S y) ≡ y) → s < m → (S prev ≡ s → ⊥) → 0 < times x xs → S x ≡ s → 0 < times (F s) xs
first-there S L B F m s x prev [] l runs low other h e = absurd (omega arith)
first-there S L B F m s x prev (y ∷ ys) l runs low other h e = elim (cases_eq (S y) s) [
  | inl q ↦
      let f : F (S y) ≡ y = runs y (times-here y ys) (omega arith) (λ z. other (ap S (sym l.1) ∙ z ∙ q)) in
      subst (λ v. 0 < times v (y ∷ ys)) (sym f ∙ ap F q) (times-here y ys)
  | inr n ↦ elim (times-cases x y ys h) [
    | inl q ↦ absurd (n (ap S (sym q) ∙ e))
    | inr i ↦ times-there (F s) y ys (first-there S L B F m s x y ys l.2 (λ z j. runs z (times-there z y ys j)) low n i e)
  ]
]

-- no member stands before itself
pub back-other : (L B : ℕ → ℕ) (c prev : ℕ) (xs : List ℕ) → Linked L B prev xs → (prev ≡ c → ⊥) → 0 < times c xs → B c ≡ c → ⊥
back-other L B c prev [] l other h e = absurd (omega arith)
back-other L B c prev (x ∷ xs) l other h e = elim (cases_eq x c) [
  | inl q ↦ other (sym l.1 ∙ ap B q ∙ e)
  | inr q ↦ elim (times-cases c x xs h) [ inl z ↦ absurd (q (sym z)) | inr i ↦ back-other L B c x xs l.2 q i e ]
]

pub length-without : (c : ℕ) (xs : List ℕ) → 0 < times c xs → suc (length (without c xs)) ≡ length xs
length-without c [] h = absurd (omega arith)
length-without c (x ∷ xs) h = by (eqb x c) h (λ i. length-without c xs i)
  where
    by : (b : Bool) → 0 < cond b 1 0 + times c xs → (0 < times c xs → suc (length (without c xs)) ≡ length xs) → suc (length (cond b xs (x ∷ without c xs))) ≡ suc (length xs)
    by true h r = refl
    by false h r = ap suc (r (omega arith))

pub length-with : (p c prev : ℕ) (xs : List ℕ) → 0 < times p (prev ∷ xs) → length (with_behind p c prev xs) ≡ suc (length xs)
length-with p c prev [] h = by (eqb prev p) h
  where
    by : (b : Bool) → 0 < cond b 1 0 + 0 → length (cond b (c ∷ []) []) ≡ 1
    by true h = refl
    by false h = absurd (omega arith)
length-with p c prev (x ∷ xs) h = by (eqb prev p) h (λ i. length-with p c x xs i)
  where
    by : (b : Bool) → 0 < cond b 1 0 + times p (x ∷ xs) → (0 < times p (x ∷ xs) → length (with_behind p c x xs) ≡ suc (length xs)) →
        length (cond b (c ∷ (x ∷ xs)) (x ∷ with_behind p c x xs)) ≡ suc (suc (length xs))
    by true h r = refl
    by false h r = ap suc (r (omega arith))

-- eights below a limit, each at most once, are no more than the limit
pub pigeon : (n : ℕ) (xs : List ℕ) → ((x : ℕ) → times x xs ≤ 1) → ((x : ℕ) → 0 < times x xs → (x % 8 ≡ 0) × (x / 8 < n)) → length xs ≤ n
pigeon zero [] once in_range = omega arith
pigeon zero (x ∷ xs) once in_range = absurd (let z = in_range x (times-here x xs) in omega (arith, z.1))
pigeon (suc n) xs once in_range = elim (cases_lt 0 (times (8 * n) xs)) [
  | inl h ↦ (
      let w = λ (y : ℕ). times-without (8 * n) y xs h in
      let same : eqb (8 * n) (8 * n) ≡ true = eq-eqb (8 * n) (8 * n) refl in
      let gone : times (8 * n) (without (8 * n) xs) ≡ 0 = (let z = rw same at (w (8 * n)) in omega (arith, z, once (8 * n))) in
      let r = pigeon n (without (8 * n) xs) (λ y. omega (arith, w y, once y)) (λ y i.
      let z = in_range y (omega (arith, w y)) in
      let other : y ≡ 8 * n → ⊥ = λ e. (let g = subst (λ v. times v (without (8 * n) xs) ≡ 0) (sym e) gone in omega arith) in
      (z.0, omega (arith, z.0, z.1, other))) in
      omega (arith, r, length-without (8 * n) xs h))
  | inr g ↦ (
      let r = pigeon n xs once (λ y i.
      let z = in_range y i in
      let other : y ≡ 8 * n → ⊥ = λ e. (let q = subst (λ v. times v xs ≤ 0) (sym e) g in omega arith) in
      (z.0, omega (arith, z.0, z.1, other))) in
      omega arith)
]

pub times-append : (o : ℕ) (xs ys : List ℕ) → times o (xs ++ ys) ≡ times o xs + times o ys
times-append o [] ys = omega arith
times-append o (x ∷ xs) ys = omega (arith, times-append o xs ys)
