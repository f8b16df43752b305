-- Reads of the tables after an edit.
use Rattle.std.proofs.Common.{◌≡◌, ℕ, ◌+◌, ◌-◌, ◌/◌, ◌%◌, ◌<◌, ◌&&◌, Bool, true, false, cond, inl, inr, List, set, get_or, length, refl, sym, ap, ◌∙◌, arith, eqb}
use Rattle.std.proofs.Common.{get_or-set_other, get_or-set_same, length-set}
use Rattle.std.proofs.lemmas.Bool.{eq-eqb, ne_eqb, cases_eq, cases_lt, lt-ltb, le-ltb, and_right}
use Rattle.std.proofs.lemmas.List.{get_or_past}
use lib.Dec.{ltb}
use Rattle.reg_arena.specs.Internal.SizeTables.{at_eight, head_at, marked, ended, tagged, untagged, head_linked, first_put, first_taken}

pub at-get : (t : List ℕ) (d x : ℕ) → x % 8 ≡ 0 → at_eight t d x ≡ get_or t (x / 8) d
at-get t d x e = let q : eqb (x % 8) 0 ≡ true = eq-eqb (x % 8) 0 e in rw q refl

pub at-else : (t : List ℕ) (d x : ℕ) → (x % 8 ≡ 0 → ⊥) → at_eight t d x ≡ d
at-else t d x o = let q : eqb (x % 8) 0 ≡ false = ne_eqb (x % 8) 0 o in rw q refl

pub at-same : (t : List ℕ) (d c v : ℕ) → c % 8 ≡ 0 → c / 8 < length t → at_eight (set t (c / 8) v) d c ≡ v
at-same t d c v e l = at-get (set t (c / 8) v) d c e ∙ get_or-set_same t (c / 8) v d l

pub at-other : (t : List ℕ) (d c v x : ℕ) → c % 8 ≡ 0 → (x ≡ c → ⊥) → at_eight (set t (c / 8) v) d x ≡ at_eight t d x
at-other t d c v x e o = elim (cases_eq (x % 8) 0) [
  | inl q ↦ at-get (set t (c / 8) v) d x q ∙ get_or-set_other t (c / 8) (x / 8) v d (λ z. o (omega arith)) ∙ sym (at-get t d x q)
  | inr q ↦ at-else (set t (c / 8) v) d x q ∙ sym (at-else t d x q)
]

-- where a table has a number, there is a place
pub at-some : (t : List ℕ) (x : ℕ) → 0 < at_eight t 0 x → (x % 8 ≡ 0) × (x / 8 < length t)
at-some t x h = elim (cases_eq (x % 8) 0) [
  | inl q ↦ (
    q,
    elim (cases_lt (x / 8) (length t)) [
      | inl l ↦ l
      | inr g ↦ absurd (let z : at_eight t 0 x ≡ 0 = at-get t 0 x q ∙ get_or_past t (x / 8) 0 g in omega arith)
    ],
  )
  | inr q ↦ absurd (let z : at_eight t 0 x ≡ 0 = at-else t 0 x q in omega arith)
]

-- where a cell is one, it has a place in a table
abbrev pub IsPlace : List ℕ → ℕ → Type 0
IsPlace t x = (x ≡ 4294967295 → ⊥) → (x % 8 ≡ 0) × (x / 8 < length t)

pub marked-same : (t : List ℕ) (d c v : ℕ) → IsPlace t c → (c ≡ 4294967295 → ⊥) → at_eight (marked c v t) d c ≡ v
marked-same t d c v h some =
    let q : eqb c 4294967295 ≡ false = ne_eqb c 4294967295 some in
    let p = h some in
    rw q (at-same t d c v p.0 p.1)

pub marked-other : (t : List ℕ) (d c v x : ℕ) → IsPlace t c → (x ≡ c → ⊥) → at_eight (marked c v t) d x ≡ at_eight t d x
marked-other t d c v x h o = elim (cases_eq c 4294967295) [
  | inl e ↦ (let q : eqb c 4294967295 ≡ true = eq-eqb c 4294967295 e in rw q refl)
  | inr some ↦ (let q : eqb c 4294967295 ≡ false = ne_eqb c 4294967295 some in rw q (at-other t d c v x (h some).0 o))
]

pub length-marked : (c v : ℕ) (t : List ℕ) → length (marked c v t) ≡ length t
length-marked c v t = by (eqb c 4294967295)
  where
    by : (b : Bool) → length (cond b t (set t (c / 8) v)) ≡ length t
    by true = refl
    by false = length-set t (c / 8) v

-- ---- the marks

pub ended-last : (t : List ℕ) (d c s v : ℕ) → 8 < s → (c + s - 8) % 8 ≡ 0 → (c + s - 8) / 8 < length t → at_eight (ended c s v t) d (c + s - 8) ≡ v
ended-last t d c s v l e r = let q : ltb 8 s ≡ true = lt-ltb 8 s l in rw q (at-same t d (c + s - 8) v e r)

pub ended-other : (t : List ℕ) (d c s v x : ℕ) → (c + s - 8) % 8 ≡ 0 → (8 < s → x ≡ c + s - 8 → ⊥) → at_eight (ended c s v t) d x ≡ at_eight t d x
ended-other t d c s v x e o = elim (cases_lt 8 s) [
  | inl l ↦ (let q : ltb 8 s ≡ true = lt-ltb 8 s l in rw q (at-other t d (c + s - 8) v x e (o l)))
  | inr g ↦ (let q : ltb 8 s ≡ false = le-ltb 8 s g in rw q refl)
]

pub length-ended : (c s v : ℕ) (t : List ℕ) → length (ended c s v t) ≡ length t
length-ended c s v t = by (ltb 8 s)
  where
    by : (b : Bool) → length (cond b (set t ((c + s - 8) / 8) v) t) ≡ length t
    by true = length-set t ((c + s - 8) / 8) v
    by false = refl

-- a link is none, or a cell's offset
abbrev pub IsLink : ℕ → Type 0
IsLink x = (x ≡ 4294967295 → ⊥) → x % 8 ≡ 0

pub untagged-tagged : (x : ℕ) → IsLink x → untagged (tagged x) ≡ x
untagged-tagged x h = elim (cases_eq x 4294967295) [
  | inl e ↦ (let q : eqb x 4294967295 ≡ true = eq-eqb x 4294967295 e in rw q (sym e))
  | inr o ↦ (
      let q : eqb x 4294967295 ≡ false = ne_eqb x 4294967295 o in
      let r : eqb (x + 1) 4294967295 ≡ false = ne_eqb (x + 1) 4294967295 (λ e. omega (arith, h o)) in
      rw q (rw r (omega (arith, h o))))
]

pub tagged-odd : (x : ℕ) → IsLink x → tagged x % 2 ≡ 1
tagged-odd x h = elim (cases_eq x 4294967295) [
  | inl e ↦ (let q : eqb x 4294967295 ≡ true = eq-eqb x 4294967295 e in rw q (omega arith))
  | inr o ↦ (let q : eqb x 4294967295 ≡ false = ne_eqb x 4294967295 o in rw q (omega (arith, h o)))
]

pub length-head_linked : (k c v : ℕ) (t : List ℕ) → length (head_linked k c v t) ≡ length t
length-head_linked k c v t = by (eqb c 4294967295)
  where
    by : (b : Bool) → length (cond b (set t k v) t) ≡ length t
    by true = length-set t k v
    by false = refl

pub head_linked-is : (k c v : ℕ) (t : List ℕ) → k < length t → c ≡ 4294967295 → head_at (head_linked k c v t) k ≡ v
head_linked-is k c v t l e = let q : eqb c 4294967295 ≡ true = eq-eqb c 4294967295 e in rw q (get_or-set_same t k v 4294967295 l)

pub head_linked-kept : (k c v j : ℕ) (t : List ℕ) → (c ≡ 4294967295 → ⊥) → head_at (head_linked k c v t) j ≡ head_at t j
head_linked-kept k c v j t o = let q : eqb c 4294967295 ≡ false = ne_eqb c 4294967295 o in rw q refl

pub head_linked-other : (k c v j : ℕ) (t : List ℕ) → (j ≡ k → ⊥) → head_at (head_linked k c v t) j ≡ head_at t j
head_linked-other k c v j t o = by (eqb c 4294967295)
  where
    by : (b : Bool) → get_or (cond b (set t k v) t) j 4294967295 ≡ get_or t j 4294967295
    by true = get_or-set_other t k j v 4294967295 o
    by false = refl

-- ---- the first cells

pub first_put-is : (p c s : ℕ) (t : List ℕ) → s % 8 ≡ 0 → s / 8 < length t → p ≡ 4294967295 → s < 16384 → at_eight (first_put p c s t) 4294967295 s ≡ c
first_put-is p c s t e l z low =
    let a : ltb s 16384 ≡ true = lt-ltb s 16384 low in
    let b : eqb p 4294967295 ≡ true = eq-eqb p 4294967295 z in
    rw (a, b) (at-same t 4294967295 s c e l)

pub first_put-kept : (p c s x : ℕ) (t : List ℕ) → (p ≡ 4294967295 → ⊥) → at_eight (first_put p c s t) 4294967295 x ≡ at_eight t 4294967295 x
first_put-kept p c s x t o =
    let b : eqb p 4294967295 ≡ false = ne_eqb p 4294967295 o in
    ap (λ q. at_eight (cond q (set t (s / 8) c) t) 4294967295 x) (and_right (ltb s 16384) (eqb p 4294967295) b)

pub first_put-other : (p c s x : ℕ) (t : List ℕ) → s % 8 ≡ 0 → (x ≡ s → ⊥) → at_eight (first_put p c s t) 4294967295 x ≡ at_eight t 4294967295 x
first_put-other p c s x t e o = by (ltb s 16384 && eqb p 4294967295)
  where
    by : (b : Bool) → at_eight (cond b (set t (s / 8) c) t) 4294967295 x ≡ at_eight t 4294967295 x
    by true = at-other t 4294967295 s c x e o
    by false = refl

pub length-first_put : (p c s : ℕ) (t : List ℕ) → length (first_put p c s t) ≡ length t
length-first_put p c s t = by (ltb s 16384 && eqb p 4294967295)
  where
    by : (b : Bool) → length (cond b (set t (s / 8) c) t) ≡ length t
    by true = length-set t (s / 8) c
    by false = refl

module _ (c s n m : ℕ) (t : List ℕ) (eight : s % 8 ≡ 0) where
  pub first_taken-kept : s < 16384 → (at_eight t 4294967295 s ≡ c → ⊥) → at_eight (first_taken c s n m t) 4294967295 s ≡ at_eight t 4294967295 s
  first_taken-kept low o =
      let b : eqb (get_or t (s / 8) 4294967295) c ≡ false = ne_eqb (get_or t (s / 8) 4294967295) c (λ e. o (at-get t 4294967295 s eight ∙ e)) in
      ap (λ q. at_eight (cond q (set t (s / 8) (cond (eqb m s) n 4294967295)) t) 4294967295 s) (and_right (ltb s 16384) (eqb (get_or t (s / 8) 4294967295) c) b)

  pub first_taken-is : s < 16384 → s / 8 < length t → at_eight t 4294967295 s ≡ c → at_eight (first_taken c s n m t) 4294967295 s ≡ cond (eqb m s) n 4294967295
  first_taken-is low l e =
      let a : ltb s 16384 ≡ true = lt-ltb s 16384 low in
      let b : eqb (get_or t (s / 8) 4294967295) c ≡ true = eq-eqb (get_or t (s / 8) 4294967295) c (sym (at-get t 4294967295 s eight) ∙ e) in
      rw (a, b) (at-same t 4294967295 s (cond (eqb m s) n 4294967295) eight l)

  pub first_taken-other : (x : ℕ) → (x ≡ s → ⊥) → at_eight (first_taken c s n m t) 4294967295 x ≡ at_eight t 4294967295 x
  first_taken-other x o = by (ltb s 16384 && eqb (get_or t (s / 8) 4294967295) c)
    where
      by : (b : Bool) → at_eight (cond b (set t (s / 8) (cond (eqb m s) n 4294967295)) t) 4294967295 x ≡ at_eight t 4294967295 x
      by true = at-other t 4294967295 s (cond (eqb m s) n 4294967295) x eight o
      by false = refl

  pub length-first_taken : length (first_taken c s n m t) ≡ length t
  length-first_taken = by (ltb s 16384 && eqb (get_or t (s / 8) 4294967295) c)
    where
      by : (b : Bool) → length (cond b (set t (s / 8) (cond (eqb m s) n 4294967295)) t) ≡ length t
      by true = length-set t (s / 8) (cond (eqb m s) n 4294967295)
      by false = refl
