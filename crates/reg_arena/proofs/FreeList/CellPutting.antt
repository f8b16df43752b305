-- A free cell was put into its list.
use Rattle.std.proofs.Common.{◌≡◌, ℕ, suc, ◌+◌, ◌<◌, ◌≤◌, true, false, cond, inl, inr, List, ◌∷◌, length, refl, sym, ap, ◌∙◌, subst, arith, eqb}
use Rattle.std.proofs.lemmas.Bool.{eqb-true, eqb-false, eq-eqb, ne_eqb, cases_eq, cond_both, cond-true, cond-false, cases_lt}
use Rattle.reg_heap.specs.Kinds.{times}
use Rattle.reg_arena.specs.Internal.CellThreads.{Linked, link, is_of, AreThreads}
use Rattle.reg_arena.specs.Internal.CellThreads.{Puts}
use Rattle.reg_arena.proofs.FreeList.ThreadLinks.{times-cases, frame, with_behind, times-with, length-with, link_in, behind, before}
use Rattle.reg_arena.proofs.FreeList.ClassMembers.{link-some, link-none, of-some, of-zero, of-other, of-same, of-member}

module _ (class_of : ℕ → ℕ) (m : ℕ) (S N B H F : ℕ → ℕ) (k c s p n : ℕ) (t : AreThreads class_of m S N B H F)
    (some : 0 < s) (cell : c ≡ 4294967295 → ⊥) (new : S c ≡ 0) (class : class_of s ≡ k) (low : s < m → p ≡ F s) (high : m ≤ s → p ≡ 4294967295) (n_is : n ≡ link N (H k) p) where
  -- where p is a cell, it has the same size
  pub p-size : (p ≡ 4294967295 → ⊥) → (s < m) × (S p ≡ s)
  p-size some_p = elim (cases_lt s m) [
    | inl l ↦ (l, ap S (low l) ∙ t.firsts s some l (λ e. some_p (low l ∙ e)))
    | inr g ↦ absurd (some_p (high g))
  ]

  pub member : (j x : ℕ) → 0 < times x (t.lists j) → (0 < S x) × (class_of (S x) ≡ j)
  member j x h = of-member class_of S j x (subst (λ v. 0 < v) (t.exact j x) h)

  is-cell : (x : ℕ) → 0 < S x → (x ≡ 4294967295 → ⊥) × (x ≡ c → ⊥)
  is-cell x h = ((λ e. let z : S x ≡ 0 = ap S e ∙ t.none in omega arith), λ e. let z : S x ≡ 0 = ap S e ∙ new in omega arith)

  no-cell : (j : ℕ) → 0 < times 4294967295 (t.lists j) → ⊥
  no-cell j h = (is-cell 4294967295 (member j 4294967295 h).0).0 refl

  p-once : times p (4294967295 ∷ t.lists k) ≡ 1
  p-once = elim (cases_eq p 4294967295) [
    | inl e ↦ subst (λ q. times q (4294967295 ∷ t.lists k) ≡ 1) (sym e) (let z : times 4294967295 (t.lists k) ≡ 0 = t.exact k 4294967295 ∙ of-zero class_of S k 4294967295 t.none in omega arith)
    | inr o ↦ (
        let w = p-size o in
        let z : times p (t.lists k) ≡ 1 = t.exact k p ∙ of-some class_of S k p (omega arith) (ap class_of w.1 ∙ class) in
        let f : eqb 4294967295 p ≡ false = ne_eqb 4294967295 p (λ e. o (sym e)) in
        rw f (omega arith))
  ]

  c-never : (j : ℕ) → times c (t.lists j) ≡ 0
  c-never j = t.exact j c ∙ of-zero class_of S j c new

  c-none : times c (4294967295 ∷ t.lists k) ≡ 0
  c-none = let f : eqb 4294967295 c ≡ false = ne_eqb 4294967295 c (λ e. cell (sym e)) in let z = c-never k in rw f (omega arith)

  -- what stands behind p
  pub n-behind : (n ≡ 4294967295 → ⊥) → (B n ≡ p) × (0 < times n (t.lists k))
  n-behind o =
      let b = behind (link N (H k)) B p 4294967295 (t.lists k) (t.linked k) (let z = p-once in omega arith) (λ e. o (n_is ∙ e)) in
      (ap B n_is ∙ b.0, subst (λ q. 0 < times q (t.lists k)) (sym n_is) b.1)

  module _ (S' N' B' H' F' : ℕ → ℕ) (u : Puts m S N B H F S' N' B' H' F' k c s p n) where
    abbrev lists' : ℕ → List ℕ
    lists' j = cond (eqb j k) (with_behind p c 4294967295 (t.lists k)) (t.lists j)

    same-link : (x : ℕ) → 0 < times x (4294967295 ∷ t.lists k) → (x ≡ p → ⊥) → (x ≡ c → ⊥) → link N' (H' k) x ≡ link N (H k) x
    same-link x h op oc = elim (cases_eq x 4294967295) [
      | inl e ↦ link-none N' (H' k) x e ∙ u.head_kept (λ q. op (e ∙ sym q)) ∙ sym (link-none N (H k) x e)
      | inr o ↦ elim (times-cases x 4294967295 (t.lists k) h) [
        | inl e ↦ absurd (o e)
        | inr i ↦ link-some N' (H' k) x o ∙ u.nexts x (member k x i).0 op oc ∙ sym (link-some N (H k) x o)
      ]
    ]

    same-back : (x : ℕ) → 0 < S x → (B x ≡ p → ⊥) → (x ≡ c → ⊥) → B' x ≡ B x
    same-back x h op oc = u.backs x h (λ e. op (ap B e ∙ (n-behind (λ q. (is-cell x h).0 (e ∙ q))).0)) oc

    linked-here : Linked (link N' (H' k)) B' 4294967295 (with_behind p c 4294967295 (t.lists k))
    linked-here =
        let first : link N' (H' k) p ≡ c = elim (cases_eq p 4294967295) [
          | inl e ↦ link-none N' (H' k) p e ∙ u.head_is e
          | inr o ↦ link-some N' (H' k) p o ∙ u.next_before o
        ] in
        link_in (link N (H k)) B (link N' (H' k)) B' p c 4294967295 (t.lists k) first (link-some N' (H' k) c cell ∙ u.next_is ∙ n_is) u.back_is
        (λ o. ap B' (sym n_is) ∙ u.back_behind (λ e. o (sym n_is ∙ e)))
        same-link (λ x i. same-back x (member k x i).0) p-once c-none (no-cell k) (t.linked k)

    linked-other : (j : ℕ) → (j ≡ k → ⊥) → Linked (link N' (H' j)) B' 4294967295 (t.lists j)
    linked-other j o = frame (link N (H j)) B (link N' (H' j)) B' 4294967295 (t.lists j) (u.heads j o) same (t.linked j)
      where
        same : (x : ℕ) → 0 < times x (t.lists j) → (link N' (H' j) x ≡ link N (H j) x) × (B' x ≡ B x)
        same x i =
            let w = member j x i in
            let q = is-cell x w.0 in
            let away_p : x ≡ p → ⊥ = λ e. (let g = p-size (λ z. q.0 (e ∙ z)) in o (sym w.1 ∙ ap class_of (ap S e ∙ g.1) ∙ class)) in
            let away_n : x ≡ n → ⊥ = λ e. (let g = n-behind (λ z. q.0 (e ∙ z)) in o (sym w.1 ∙ ap (λ v. class_of (S v)) e ∙ (member k n g.1).1)) in
            (link-some N' (H' j) x q.0 ∙ u.nexts x w.0 away_p q.1 ∙ sym (link-some N (H j) x q.0), u.backs x w.0 away_n q.1)

    linked' : (j : ℕ) → Linked (link N' (H' j)) B' 4294967295 (lists' j)
    linked' j = cond_both (eqb j k) (with_behind p c 4294967295 (t.lists k)) (t.lists j) (λ l. Linked (link N' (H' j)) B' 4294967295 l)
        (λ e. subst (λ i. Linked (link N' (H' i)) B' 4294967295 (with_behind p c 4294967295 (t.lists k))) (sym (eqb-true j k e)) linked-here)
        (λ e. linked-other j (eqb-false j k e))

    exact' : (j x : ℕ) → times x (lists' j) ≡ is_of class_of S' j x
    exact' j x = cond_both (eqb j k) (with_behind p c 4294967295 (t.lists k)) (t.lists j) (λ l. times x l ≡ is_of class_of S' j x)
        (λ e. let q = eqb-true j k e in times-with p c x 4294967295 (t.lists k) (let z = p-once in omega arith) ∙
        subst (λ i. cond (eqb c x) 1 0 + times x (t.lists k) ≡ is_of class_of S' i x) (sym q) here)
        (λ e. other (eqb-false j k e))
      where
        here : cond (eqb c x) 1 0 + times x (t.lists k) ≡ is_of class_of S' k x
        here = elim (cases_eq c x) [
          | inl e ↦ (
              let f : eqb c x ≡ true = eq-eqb c x e in
              let z : times x (t.lists k) ≡ 0 = subst (λ v. times v (t.lists k) ≡ 0) e (c-never k) in
              let y : S' x ≡ s = subst (λ v. S' v ≡ s) e u.size_is in
              let w : is_of class_of S' k x ≡ 1 = of-some class_of S' k x (omega arith) (ap class_of y ∙ class) in
              rw f (omega arith))
          | inr o ↦ (
              let f : eqb c x ≡ false = ne_eqb c x o in
              let w : is_of class_of S' k x ≡ is_of class_of S k x = of-same class_of S S' k x (u.sizes x (λ e. o (sym e))) in
              rw f (omega (arith, w, t.exact k x)))
        ]

        other : (j ≡ k → ⊥) → times x (t.lists j) ≡ is_of class_of S' j x
        other q = elim (cases_eq x c) [
          | inl e ↦ ap (λ v. times v (t.lists j)) e ∙ c-never j ∙ sym (of-other class_of S' j x (λ z. q (sym z ∙ ap class_of (ap S' e ∙ u.size_is) ∙ class)))
          | inr o ↦ t.exact j x ∙ sym (of-same class_of S S' j x (u.sizes x o))
        ]

    firsts' : (v : ℕ) → 0 < v → v < m → (F' v ≡ 4294967295 → ⊥) → S' (F' v) ≡ v
    firsts' v pos l o = elim (cases_eq v s) [
      | inl e ↦ elim (cases_eq p 4294967295) [
        | inl z ↦ ap S' (ap F' e ∙ u.first_is z (omega arith)) ∙ u.size_is ∙ sym e
        | inr q ↦ (
            let g = p-size q in
            let f : F' v ≡ p = ap F' e ∙ u.first_kept q ∙ sym (low g.0) in
            ap S' f ∙ u.sizes p (is-cell p (omega (arith, g.1))).1 ∙ g.1 ∙ sym e)
      ]
      | inr d ↦ (
          let f : F' v ≡ F v = u.firsts v d in
          let g : S (F v) ≡ v = t.firsts v pos l (λ e. o (f ∙ e)) in
          ap S' f ∙ u.sizes (F v) (is-cell (F v) (omega arith)).1 ∙ g)
    ]

    back-cell : (x : ℕ) → 0 < S x → B x ≡ c → ⊥
    back-cell x h e =
        let j : ℕ = class_of (S x) in
        let b = before (link N (H j)) B x 4294967295 (t.lists j) (t.linked j) (let z = t.exact j x ∙ of-some class_of S j x h refl in omega arith) in
        elim (times-cases (B x) 4294967295 (t.lists j) b.1) [
          | inl z ↦ cell (sym e ∙ z)
          | inr i ↦ (is-cell (B x) (member j (B x) i).0).1 e
        ]

    run-before : (x : ℕ) → 0 < S x → S x < m → (S (B x) ≡ S x → ⊥) → F' (S x) ≡ x
    run-before x h l o =
        let f : F (S x) ≡ x = t.runs x h l o in
        elim (cases_eq (S x) s) [
          | inl e ↦ (
              let q : p ≡ x = low (omega arith) ∙ ap F (sym e) ∙ f in
              ap F' e ∙ u.first_kept (λ z. (is-cell x h).0 (sym q ∙ z)) ∙ ap F (sym e) ∙ f)
          | inr d ↦ u.firsts (S x) d ∙ f
        ]

    runs' : (x : ℕ) → 0 < S' x → S' x < m → (S' (B' x) ≡ S' x → ⊥) → F' (S' x) ≡ x
    runs' x h l o = elim (cases_eq x c) [
      | inl e ↦ (
          let y : S' x ≡ s = ap S' e ∙ u.size_is in
          let b : B' x ≡ p = ap B' e ∙ u.back_is in
          elim (cases_eq p 4294967295) [
            | inl z ↦ ap F' y ∙ u.first_is z (omega arith) ∙ sym e
            | inr q ↦ (
                let g = p-size q in
                absurd (o (ap S' b ∙ u.sizes p (is-cell p (omega (arith, g.1))).1 ∙ g.1 ∙ sym y)))
          ])
      | inr d ↦ (
          let y : S' x ≡ S x = u.sizes x d in
          let h' : 0 < S x = omega arith in
          let l' : S x < m = omega arith in
          ap F' y ∙ run-before x h' l' (elim (cases_eq x n) [
            | inl e ↦ (
                let b : B' x ≡ c = ap B' e ∙ u.back_behind (λ z. (is-cell x h').0 (e ∙ z)) in
                let w : B x ≡ p = ap B e ∙ (n-behind (λ z. (is-cell x h').0 (e ∙ z))).0 in
                let o' : s ≡ S x → ⊥ = λ z. o (ap S' b ∙ u.size_is ∙ z ∙ sym y) in
                λ z. elim (cases_eq p 4294967295) [
                  | inl r ↦ (let v : S (B x) ≡ 0 = ap S (w ∙ r) ∙ t.none in omega arith)
                  | inr q ↦ o' (sym (p-size q).1 ∙ ap S (sym w) ∙ z)
                ])
            | inr e ↦ (λ z. o (ap S' (u.backs x h' e d) ∙ u.sizes (B x) (back-cell x h') ∙ z ∙ sym y))
          ]))
    ]

    pub put : AreThreads class_of m S' N' B' H' F'
    put = record { lists = lists'; linked = linked'; exact = exact'; runs = runs'; firsts = firsts'; none = u.sizes 4294967295 (λ e. cell (sym e)) ∙ t.none }

    pub put-here : length (put.lists k) ≡ suc (length (t.lists k))
    unfolding put
    put-here = let e : eqb k k ≡ true = eq-eqb k k refl in subst (λ l. length l ≡ suc (length (t.lists k))) (sym (cond-true (eqb k k) (with_behind p c 4294967295 (t.lists k)) (t.lists k) e))
        (length-with p c 4294967295 (t.lists k) (let z = p-once in omega arith))

    pub put-other : (j : ℕ) → (j ≡ k → ⊥) → length (put.lists j) ≡ length (t.lists j)
    unfolding put
    put-other j o = let e : eqb j k ≡ false = ne_eqb j k o in ap length (cond-false (eqb j k) (with_behind p c 4294967295 (t.lists k)) (t.lists j) e)
