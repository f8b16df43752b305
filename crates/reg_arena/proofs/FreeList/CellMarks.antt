-- The marks of the free cells: what they tell, and how they stay right as cells come and go.
use Rattle.std.proofs.Common.{◌≡◌, ℕ, ◌+◌, ◌-◌, ◌/◌, ◌%◌, ◌<◌, ◌≤◌, ◌⊎◌, Bool, true, false, cond, inl, inr, List, get_or, refl, sym, ap, ◌∙◌, subst, arith, eqb}
use Rattle.std.proofs.lemmas.Bool.{eqb-true, eqb-false, eq-eqb, ne_eqb, cases_eq, cases_lt}
use Rattle.reg_arena.specs.Internal.SizeTables.{at_eight, marked, start_in}
use Rattle.reg_arena.specs.Internal.ListedCells.{IsPiece, IsFreeOf, AreMarks, HasMarks, AreTables, sized}
use Rattle.reg_arena.proofs.FreeList.TableReads.{IsPlace, at-get, marked-same, marked-other}
use Rattle.reg_arena.proofs.FreeList.ListedSpots.{sized-here, sized-other}

pub opened : (S : ℕ → ℕ) (t : List ℕ) → HasMarks S t → AreMarks S (at_eight t 0)
unfolding HasMarks
opened S t a = a

pub closed : (S : ℕ → ℕ) (t : List ℕ) → AreMarks S (at_eight t 0) → HasMarks S t
unfolding HasMarks
closed S t a = a

module _ (bytes : List ℕ) (S M : ℕ → ℕ) (pieces : (x : ℕ) → 0 < S x → IsPiece bytes x (S x)) (a : AreMarks S M) where
  -- what the mark of eight bytes tells where a cell ends with them
  pub start-there : (y v size : ℕ) → M y ≡ v → 0 < size → IsFreeOf S (y + 8) size → 0 < cond (eqb (v % 2) 1) y v →
      (0 < S (cond (eqb (v % 2) 1) y v)) × (cond (eqb (v % 2) 1) y v + S (cond (eqb (v % 2) 1) y v) ≡ y + 8)
  start-there y v size e some free = by (eqb (v % 2) 1) refl
    where
      by : (b : Bool) → eqb (v % 2) 1 ≡ b → 0 < cond b y v → (0 < S (cond b y v)) × (cond b y v + S (cond b y v) ≡ y + 8)
      by true q h =
          let o = a.odd y (ap (λ n. n % 2) e ∙ eqb-true (v % 2) 1 q) in
          let z = pieces y o in
          elim (free y o) [ inl l ↦ (o, omega (arith, z.size_eights)) | inr l ↦ absurd (omega arith) ]
      by false q h =
          let o : v % 2 ≡ 1 → ⊥ = eqb-false (v % 2) 1 q in
          let m : M y % 2 ≡ 0 = ap (λ n. n % 2) e ∙ even v o in
          subst (λ n. (0 < S n) × (n + S n ≡ y + 8)) e (a.even y m (omega arith))
        where
          even : (n : ℕ) → (n % 2 ≡ 1 → ⊥) → n % 2 ≡ 0
          even n o = omega arith

  -- a free cell that ends with eight bytes is what their mark tells
  pub start-is : (y v x : ℕ) → M y ≡ v → 0 < S x → x + S x ≡ y + 8 → cond (eqb (v % 2) 1) y v ≡ x
  start-is y v x e some end =
      let z = pieces x some in
      elim (cases_lt 8 (S x)) [
        | inl l ↦ (
            let place : x + S x - 8 ≡ y = omega arith in
            let m : v ≡ x = sym e ∙ ap M (sym place) ∙ a.ends x l in
            let q : eqb (v % 2) 1 ≡ false = ne_eqb (v % 2) 1 (λ o. omega (arith, z.eights)) in
            rw q m)
        | inr g ↦ (
            let place : x ≡ y = omega (arith, z.size_eights) in
            let m : M x ≡ v = ap M place ∙ e in
            let q : eqb (v % 2) 1 ≡ true = eq-eqb (v % 2) 1 (ap (λ n. n % 2) (sym m) ∙ a.begins x some) in
            rw q (sym place))
      ]

  module _ (apart : (x y : ℕ) → 0 < S x → 0 < S y → x < y → x + S x ≤ y) where
    -- another odd number where a free cell begins
    relabelled : (M' : ℕ → ℕ) (c : ℕ) → 0 < S c → M' c % 2 ≡ 1 → ((x : ℕ) → (x ≡ c → ⊥) → M' x ≡ M x) → AreMarks S M'
    relabelled M' c some tag same = record {
      begins = λ x h. elim (cases_eq x c) [
        | inl e ↦ subst (λ v. M' v % 2 ≡ 1) (sym e) tag
        | inr o ↦ ap (λ n. n % 2) (same x o) ∙ a.begins x h
      ];
      ends = λ x h. same (x + S x - 8) (λ e. (let q = apart x c (omega arith) some (omega arith) in omega arith)) ∙ a.ends x h;
      odd = λ x h. elim (cases_eq x c) [
        | inl e ↦ subst (λ v. 0 < S v) (sym e) some
        | inr o ↦ a.odd x (ap (λ n. n % 2) (sym (same x o)) ∙ h)
      ];
      even = λ x h g. elim (cases_eq x c) [
        | inl e ↦ absurd (let z : M' x ≡ M' c = ap M' e in omega arith)
        | inr o ↦ (
            let z = same x o in
            subst (λ v. (0 < S v) × (v + S v ≡ x + 8)) (sym z) (a.even x (ap (λ n. n % 2) (sym z) ∙ h) (omega arith)))
      ];
    }

    -- a free cell went
    pub marks-taken : (M' : ℕ → ℕ) (c s : ℕ) → S c ≡ s → 0 < s → M' c ≡ 0 → M' (c + s - 8) ≡ 0 →
        ((x : ℕ) → (x ≡ c → ⊥) → (x ≡ c + s - 8 → ⊥) → M' x ≡ M x) → AreMarks (sized c 0 S) M'
    marks-taken M' c s there some first last same = record {
      begins = λ x h.
          let o = gone x h in
          let v = sized-other c 0 S x o in
          let g : 0 < S x = omega arith in
          ap (λ n. n % 2) (same x o (λ e. elim (beside x g o) [ inl l ↦ omega (arith, eights) | inr l ↦ omega (arith, eights) ])) ∙ a.begins x g;
      ends = λ x h.
          let o = gone x (omega arith) in
          let v = sized-other c 0 S x o in
          let g : 8 < S x = omega arith in
          subst (λ y. M' (x + y - 8) ≡ x) (sym v) (same (x + S x - 8)
          (λ e. elim (beside x (omega arith) o) [ inl l ↦ omega arith | inr l ↦ omega arith ])
          (λ e. elim (beside x (omega arith) o) [ inl l ↦ omega arith | inr l ↦ omega arith ]) ∙ a.ends x g);
      odd = λ x h. elim (cases_eq x c) [
        | inl e ↦ absurd (let z : M' x ≡ 0 = ap M' e ∙ first in omega arith)
        | inr o ↦ elim (cases_eq x (c + s - 8)) [
          | inl e ↦ absurd (let z : M' x ≡ 0 = ap M' e ∙ last in omega arith)
          | inr d ↦ (
              let v = sized-other c 0 S x o in
              let g = a.odd x (ap (λ n. n % 2) (sym (same x o d)) ∙ h) in omega arith)
        ]
      ];
      even = λ x h g. elim (cases_eq x c) [
        | inl e ↦ absurd (let z : M' x ≡ 0 = ap M' e ∙ first in omega arith)
        | inr o ↦ elim (cases_eq x (c + s - 8)) [
          | inl e ↦ absurd (let z : M' x ≡ 0 = ap M' e ∙ last in omega arith)
          | inr d ↦ (
              let z = same x o d in
              let y = a.even x (ap (λ n. n % 2) (sym z) ∙ h) (omega arith) in
              let away : M x ≡ c → ⊥ = λ e. (let q : S (M x) ≡ s = ap S e ∙ there in d (omega (arith, y.1))) in
              let v = sized-other c 0 S (M x) away in
              subst (λ m. (0 < sized c 0 S m) × (m + sized c 0 S m ≡ x + 8)) (sym z) (omega (arith, y.0), omega (arith, y.1)))
        ]
      ];
    }
      where
        eights : s % 8 ≡ 0
        eights = omega (arith, there, (pieces c (omega arith)).size_eights)

        gone : (x : ℕ) → 0 < sized c 0 S x → x ≡ c → ⊥
        gone x h e = let v = sized-here c 0 S x e in omega arith

        beside : (x : ℕ) → 0 < S x → (x ≡ c → ⊥) → (x + S x ≤ c) ⊎ (c + s ≤ x)
        beside x h o = elim (cases_lt x c) [
          | inl l ↦ inl (apart x c h (omega arith) l)
          | inr g ↦ inr (let q = apart c x (omega arith) h (omega arith) in omega arith)
        ]

  -- a free cell came
  pub marks-put : (M' : ℕ → ℕ) (c s : ℕ) → IsPiece bytes c s → 0 < s → IsFreeOf S c s → M' c % 2 ≡ 1 → (8 < s → M' (c + s - 8) ≡ c) →
      ((x : ℕ) → (x ≡ c → ⊥) → (x ≡ c + s - 8 → ⊥) → M' x ≡ M x) → AreMarks (sized c s S) M'
  marks-put M' c s piece some free first last same = record {
    begins = λ x h. elim (cases_eq x c) [
      | inl e ↦ subst (λ v. M' v % 2 ≡ 1) (sym e) first
      | inr o ↦ (
          let v = sized-other c s S x o in
          let g : 0 < S x = omega arith in
          ap (λ n. n % 2) (same x o (λ e. elim (free x g) [ inl l ↦ omega (arith, piece.size_eights) | inr l ↦ omega (arith, piece.size_eights) ])) ∙ a.begins x g)
    ];
    ends = λ x h. elim (cases_eq x c) [
      | inl e ↦ (
          let v = sized-here c s S x e in
          subst (λ y. M' (x + y - 8) ≡ x) (sym v) (subst (λ y. M' (y + s - 8) ≡ y) (sym e) (last (omega arith))))
      | inr o ↦ (
          let v = sized-other c s S x o in
          let g : 8 < S x = omega arith in
          subst (λ y. M' (x + y - 8) ≡ x) (sym v) (same (x + S x - 8)
          (λ e. elim (free x (omega arith)) [ inl l ↦ omega arith | inr l ↦ omega arith ])
          (λ e. elim (free x (omega arith)) [ inl l ↦ omega arith | inr l ↦ omega arith ]) ∙ a.ends x g))
    ];
    odd = λ x h. elim (cases_eq x c) [
      | inl e ↦ (let v = sized-here c s S x e in omega arith)
      | inr o ↦ elim (cases_eq x (c + s - 8)) [
        | inl e ↦ absurd (let z : M' x ≡ c = ap M' e ∙ last (wide x o e) in omega (arith, piece.eights))
        | inr d ↦ (
            let v = sized-other c s S x o in
            let g = a.odd x (ap (λ n. n % 2) (sym (same x o d)) ∙ h) in omega arith)
      ]
    ];
    even = λ x h g. elim (cases_eq x c) [
      | inl e ↦ absurd (let z : M' x ≡ M' c = ap M' e in omega arith)
      | inr o ↦ elim (cases_eq x (c + s - 8)) [
        | inl e ↦ (
            let w = wide x o e in
            let z : M' x ≡ c = ap M' e ∙ last w in
            let v = sized-here c s S (M' x) z in
            (omega arith, omega arith))
        | inr d ↦ (
            let z = same x o d in
            let y = a.even x (ap (λ n. n % 2) (sym z) ∙ h) (omega arith) in
            let v = sized-other c s S (M x) (other (M x) y.0) in
            subst (λ m. (0 < sized c s S m) × (m + sized c s S m ≡ x + 8)) (sym z) (omega (arith, y.0), omega (arith, y.1)))
      ]
    ];
  }
    where
      wide : (x : ℕ) → (x ≡ c → ⊥) → x ≡ c + s - 8 → 8 < s
      wide x o e = elim (cases_lt 8 s) [ inl l ↦ l | inr g ↦ absurd (o (omega (arith, piece.size_eights))) ]

      other : (x : ℕ) → 0 < S x → x ≡ c → ⊥
      other x h e = elim (free x h) [ inl l ↦ omega arith | inr l ↦ omega arith ]

-- another link back was noted, or none
pub marks-linked : (bytes : List ℕ) (S : ℕ → ℕ) (t : List ℕ) (n v : ℕ) → ((x : ℕ) → 0 < S x → IsPiece bytes x (S x)) →
    ((x y : ℕ) → 0 < S x → 0 < S y → x < y → x + S x ≤ y) → AreMarks S (at_eight t 0) → IsPlace t n → ((n ≡ 4294967295 → ⊥) → 0 < S n) → v % 2 ≡ 1 →
    AreMarks S (at_eight (marked n v t) 0)
marks-linked bytes S t n v pieces apart a place some tag = elim (cases_eq n 4294967295) [
  | inl e ↦ (let q : eqb n 4294967295 ≡ true = eq-eqb n 4294967295 e in rw q a)
  | inr o ↦ relabelled bytes S (at_eight t 0) pieces a apart (at_eight (marked n v t) 0) n (some o)
      (ap (λ m. m % 2) (marked-same t 0 n v place o) ∙ tag) (λ x d. marked-other t 0 n v x place d)
]

-- the free cell that ends where another one begins, or 0
pub record EndsAt (S : ℕ → ℕ) (cell left : ℕ) : Type 0 where
  pub some : 0 < left → (0 < S left) × (left + S left ≡ cell)
  pub none : (x : ℕ) → 0 < S x → x + S x ≡ cell → left ≡ x

-- it is what the mark before a cell tells
pub ends-at : (bytes : List ℕ) (S : ℕ → ℕ) (heads firsts words marks : List ℕ) (large top : ℕ) → AreTables bytes S heads firsts words marks large top →
    (cell size left : ℕ) → cell % 8 ≡ 0 → 8 ≤ cell → 0 < size → IsFreeOf S cell size → left ≡ start_in marks (cell - 8) → EndsAt S cell left
ends-at bytes S heads firsts words marks large top w cell size left eights low some free e =
    let v : ℕ = get_or marks ((cell - 8) / 8) 0 in
    let a = opened S marks w.marks_are in
    let m : at_eight marks 0 (cell - 8) ≡ v = at-get marks 0 (cell - 8) (omega arith) in
    let place : cell - 8 + 8 ≡ cell = omega arith in
    let there = start-there bytes S (at_eight marks 0) w.pieces a (cell - 8) v size m some (subst (λ k. IsFreeOf S k size) (sym place) free) in
    record {
      some = λ h. subst (λ k. (0 < S left) × (left + S left ≡ k)) place
          (subst (λ k. (0 < S k) × (k + S k ≡ cell - 8 + 8)) (sym e) (there (subst (λ k. 0 < k) e h)));
      none = λ x h end. e ∙ start-is bytes S (at_eight marks 0) w.pieces a (cell - 8) v x m h (end ∙ sym place);
    }
