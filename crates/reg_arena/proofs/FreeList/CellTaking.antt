-- A free cell was taken out of its list.
use Rattle.std.proofs.Common.{◌≡◌, ℕ, suc, ◌+◌, ◌<◌, true, false, cond, inl, inr, List, ◌∷◌, length, refl, sym, ap, ◌∙◌, subst, arith, eqb}
use Rattle.std.proofs.lemmas.Bool.{eqb-true, eqb-false, eq-eqb, ne_eqb, cases_eq, cond_both, cond-true, cond-false}
use Rattle.reg_heap.specs.Kinds.{times}
use Rattle.reg_arena.specs.Internal.CellThreads.{Linked, link, is_of, AreThreads}
use Rattle.reg_arena.specs.Internal.CellThreads.{Takes}
use Rattle.reg_arena.proofs.FreeList.ThreadLinks.{times-cases, frame_other, without, times-without, length-without, unlink, behind, before, back-other}
use Rattle.reg_arena.proofs.FreeList.ClassMembers.{link-some, link-none, of-some, of-zero, of-other, of-same, of-member}

module _ (class_of : ℕ → ℕ) (m : ℕ) (S N B H F : ℕ → ℕ) (k c s p n : ℕ) (t : AreThreads class_of m S N B H F)
    (some : 0 < s) (size : S c ≡ s) (class : class_of s ≡ k) (p_is : p ≡ B c) (n_is : n ≡ N c) where
  pub member : (j x : ℕ) → 0 < times x (t.lists j) → (0 < S x) × (class_of (S x) ≡ j)
  member j x h = of-member class_of S j x (subst (λ v. 0 < v) (t.exact j x) h)

  is-cell : (x : ℕ) → 0 < S x → x ≡ 4294967295 → ⊥
  is-cell x h e = let z : S x ≡ 0 = ap S e ∙ t.none in omega arith

  cell : c ≡ 4294967295 → ⊥
  cell = is-cell c (omega (arith, size))

  no-cell : (j : ℕ) → 0 < times 4294967295 (t.lists j) → ⊥
  no-cell j h = is-cell 4294967295 (member j 4294967295 h).0 refl

  c-once : times c (t.lists k) ≡ 1
  c-once = t.exact k c ∙ of-some class_of S k c (omega (arith, size)) (ap class_of size ∙ class)

  c-other : (j : ℕ) → (j ≡ k → ⊥) → times c (t.lists j) ≡ 0
  c-other j o = t.exact j c ∙ of-other class_of S j c (λ e. o (sym e ∙ ap class_of size ∙ class))

  -- what stands behind c, and before it
  pub behind-c : (n ≡ 4294967295 → ⊥) → (B n ≡ c) × (0 < times n (t.lists k))
  behind-c o =
      let l : link N (H k) c ≡ n = link-some N (H k) c cell ∙ sym n_is in
      let b = behind (link N (H k)) B c 4294967295 (t.lists k) (t.linked k) (let z = c-once in omega arith) (λ e. o (sym l ∙ e)) in
      (ap B (sym l) ∙ b.0, subst (λ q. 0 < times q (t.lists k)) l b.1)

  n-behind : (n ≡ 4294967295 → ⊥) → B n ≡ c
  n-behind o = (behind-c o).0

  pub p-before : (link N (H k) p ≡ c) × (0 < times p (4294967295 ∷ t.lists k))
  p-before =
      let b = before (link N (H k)) B c 4294967295 (t.lists k) (t.linked k) (let z = c-once in omega arith) in
      (ap (link N (H k)) p_is ∙ b.0, subst (λ q. 0 < times q (4294967295 ∷ t.lists k)) (sym p_is) b.1)

  back-self : B c ≡ c → ⊥
  back-self = back-other (link N (H k)) B c 4294967295 (t.lists k) (t.linked k) (λ e. cell (sym e)) (let z = c-once in omega arith)

  pub n-other : (n ≡ 4294967295 → ⊥) → n ≡ c → ⊥
  n-other o e = back-self (ap B (sym e) ∙ n-behind o)

  module _ (S' N' B' H' F' : ℕ → ℕ) (u : Takes m S N B H F S' N' B' H' F' k c s p n) where
    abbrev lists' : ℕ → List ℕ
    lists' j = cond (eqb j k) (without c (t.lists k)) (t.lists j)

    -- the cell before c in its list, elsewhere the same
    same-link : (j x : ℕ) → 0 < times x (4294967295 ∷ t.lists j) → (link N (H j) x ≡ c → ⊥) → link N' (H' j) x ≡ link N (H j) x
    same-link j x h o = elim (cases_eq x 4294967295) [
      | inl e ↦ link-none N' (H' j) x e ∙ head (sym (link-none N (H j) x e)) e ∙ sym (link-none N (H j) x e)
      | inr q ↦ elim (times-cases x 4294967295 (t.lists j) h) [
        | inl e ↦ absurd (q e)
        | inr i ↦ link-some N' (H' j) x q ∙ u.nexts x (member j x i).0 (λ e. o (link-some N (H j) x q ∙ ap N e ∙ sym (link-some N (H k) p (λ z. q (e ∙ z))) ∙ p-before.0)) ∙ sym (link-some N (H j) x q)
      ]
    ]
      where
        head : H j ≡ link N (H j) x → x ≡ 4294967295 → H' j ≡ H j
        head l e = elim (cases_eq j k) [
          | inl a ↦ ap H' a ∙ u.head_kept (λ z. o (sym l ∙ ap H a ∙ sym (link-none N (H k) p z) ∙ p-before.0)) ∙ ap H (sym a)
          | inr a ↦ u.heads j a
        ]

    same-back : (x : ℕ) → 0 < S x → (B x ≡ c → ⊥) → (x ≡ c → ⊥) → B' x ≡ B x
    same-back x h o d = u.backs x h (λ e. o (ap B e ∙ n-behind (λ q. is-cell x h (e ∙ q)))) d

    linked-here : Linked (link N' (H' k)) B' 4294967295 (without c (t.lists k))
    linked-here =
        let l : link N (H k) c ≡ n = link-some N (H k) c cell ∙ sym n_is in
        let to : link N' (H' k) p ≡ n = elim (cases_eq p 4294967295) [
          | inl e ↦ link-none N' (H' k) p e ∙ u.head_is e
          | inr o ↦ link-some N' (H' k) p o ∙ u.next_before o
        ] in
        unlink (link N (H k)) B (link N' (H' k)) B' c 4294967295 (t.lists k) cell (λ e. cell (sym e)) c-once (same-link k) (λ x i. same-back x (member k x i).0)
        (ap (link N' (H' k)) (sym p_is) ∙ to ∙ sym l) (λ o. ap B' l ∙ u.back_behind (λ e. o (l ∙ e)) ∙ p_is) (no-cell k) (t.linked k)

    linked-other : (j : ℕ) → (j ≡ k → ⊥) → Linked (link N' (H' j)) B' 4294967295 (t.lists j)
    linked-other j o =
        let f : eqb 4294967295 c ≡ false = ne_eqb 4294967295 c (λ e. cell (sym e)) in
        let z = c-other j o in
        frame_other (link N (H j)) B (link N' (H' j)) B' c 4294967295 (t.lists j) cell (rw f (omega arith)) (same-link j)
        (λ x i b. same-back x (member j x i).0 b (λ q. (let g = subst (λ v. 0 < times v (t.lists j)) q i in omega arith))) (t.linked j)

    linked' : (j : ℕ) → Linked (link N' (H' j)) B' 4294967295 (lists' j)
    linked' j = cond_both (eqb j k) (without c (t.lists k)) (t.lists j) (λ l. Linked (link N' (H' j)) B' 4294967295 l)
        (λ e. subst (λ i. Linked (link N' (H' i)) B' 4294967295 (without c (t.lists k))) (sym (eqb-true j k e)) linked-here)
        (λ e. linked-other j (eqb-false j k e))

    exact' : (j x : ℕ) → times x (lists' j) ≡ is_of class_of S' j x
    exact' j x = cond_both (eqb j k) (without c (t.lists k)) (t.lists j) (λ l. times x l ≡ is_of class_of S' j x)
        (λ e. let q = eqb-true j k e in subst (λ i. times x (without c (t.lists k)) ≡ is_of class_of S' i x) (sym q) here)
        (λ e. other (eqb-false j k e))
      where
        here : times x (without c (t.lists k)) ≡ is_of class_of S' k x
        here =
            let w : times x (without c (t.lists k)) + cond (eqb c x) 1 0 ≡ times x (t.lists k) = times-without c x (t.lists k) (let z = c-once in omega arith) in
            elim (cases_eq x c) [
              | inl e ↦ (
                  let f : eqb c x ≡ true = eq-eqb c x (sym e) in
                  let w' = rw f at w in
                  let z : times x (t.lists k) ≡ 1 = ap (λ v. times v (t.lists k)) e ∙ c-once in
                  let y : is_of class_of S' k x ≡ 0 = of-zero class_of S' k x (ap S' e ∙ u.size_is) in
                  omega arith)
              | inr o ↦ (
                  let f : eqb c x ≡ false = ne_eqb c x (λ e. o (sym e)) in
                  let w' = rw f at w in
                  let y : is_of class_of S' k x ≡ is_of class_of S k x = of-same class_of S S' k x (u.sizes x o) in
                  omega (arith, y, t.exact k x))
            ]

        other : (j ≡ k → ⊥) → times x (t.lists j) ≡ is_of class_of S' j x
        other q = elim (cases_eq x c) [
          | inl e ↦ ap (λ v. times v (t.lists j)) e ∙ c-other j q ∙ sym (of-zero class_of S' j x (ap S' e ∙ u.size_is))
          | inr o ↦ t.exact j x ∙ sym (of-same class_of S S' j x (u.sizes x o))
        ]

    first-cell : (v : ℕ) → 0 < v → v < m → (F v ≡ 4294967295 → ⊥) → (F v ≡ c → ⊥) → S' (F v) ≡ v
    first-cell v pos l o d = u.sizes (F v) d ∙ t.firsts v pos l o

    firsts' : (v : ℕ) → 0 < v → v < m → (F' v ≡ 4294967295 → ⊥) → S' (F' v) ≡ v
    firsts' v pos l o = elim (cases_eq v s) [
      | inl e ↦ (
          let l' : s < m = omega arith in
          elim (cases_eq (F s) c) [
            | inl a ↦ elim (cases_eq (S n) s) [
              | inl b ↦ (
                  let f : F' v ≡ n = ap F' e ∙ u.first_next l' a b in
                  let away : n ≡ c → ⊥ = λ z. (let y : B n ≡ c = n-behind (λ w. is-cell n (omega arith) w) in self z y) in
                  ap S' f ∙ u.sizes n away ∙ b ∙ sym e)
              | inr b ↦ absurd (o (ap F' e ∙ u.first_none l' a b))
            ]
            | inr a ↦ (
                let f : F' v ≡ F v = ap F' e ∙ u.first_kept l' a ∙ ap F (sym e) in
                ap S' f ∙ first-cell v pos l (λ z. o (f ∙ z)) (λ z. a (ap F (sym e) ∙ z)))
          ])
      | inr d ↦ (
          let f : F' v ≡ F v = u.firsts v d in
          let g : S (F v) ≡ v = t.firsts v pos l (λ z. o (f ∙ z)) in
          ap S' f ∙ first-cell v pos l (λ z. o (f ∙ z)) (λ z. d (sym g ∙ ap S z ∙ size)))
    ]
      where
        self : n ≡ c → B n ≡ c → ⊥
        self z y = back-self (ap B (sym z) ∙ y)

    runs' : (x : ℕ) → 0 < S' x → S' x < m → (S' (B' x) ≡ S' x → ⊥) → F' (S' x) ≡ x
    runs' x h l o =
        let d : x ≡ c → ⊥ = λ e. (let y : S' x ≡ 0 = ap S' e ∙ u.size_is in omega arith) in
        let y : S' x ≡ S x = u.sizes x d in
        let h' : 0 < S x = omega arith in
        let l' : S x < m = omega arith in
        let some_x = is-cell x h' in
        elim (cases_eq x n) [
          | inl e ↦ (
              let b : B' x ≡ p = ap B' e ∙ u.back_behind (λ z. some_x (e ∙ z)) in
              let w : B x ≡ c = ap B e ∙ n-behind (λ z. some_x (e ∙ z)) in
              let away : p ≡ c → ⊥ = λ z. back-self (sym p_is ∙ z) in
              elim (cases_eq (S x) s) [
                | inl q ↦ (
                    let f : F s ≡ c = sym (ap F size) ∙ t.runs c (omega arith) (omega arith) (λ z. o (ap S' (b) ∙ u.sizes p away ∙ ap S p_is ∙ z ∙ size ∙ sym q ∙ sym y)) in
                    ap F' (y ∙ q) ∙ u.first_next (omega arith) f (ap S (sym e) ∙ q) ∙ sym e)
                | inr q ↦ ap F' y ∙ u.firsts (S x) q ∙ t.runs x h' l' (λ z. q (sym z ∙ ap S w ∙ size))
              ])
          | inr e ↦ (
              let j : ℕ = class_of (S x) in
              let b = before (link N (H j)) B x 4294967295 (t.lists j) (t.linked j) (let z = t.exact j x ∙ of-some class_of S j x h' refl in omega arith) in
              let away : B x ≡ c → ⊥ = λ z. e (sym b.0 ∙ ap (link N (H j)) z ∙ link-some N (H j) c cell ∙ sym n_is) in
              let f : F (S x) ≡ x = t.runs x h' l' (λ z. o (ap S' (same-back x h' away d) ∙ u.sizes (B x) away ∙ z ∙ sym y)) in
              elim (cases_eq (S x) s) [
                | inl q ↦ ap F' (y ∙ q) ∙ u.first_kept (omega arith) (λ z. d (sym f ∙ ap F q ∙ z)) ∙ ap F (sym q) ∙ f
                | inr q ↦ ap F' y ∙ u.firsts (S x) q ∙ f
              ])
        ]

    pub taken : AreThreads class_of m S' N' B' H' F'
    taken = record { lists = lists'; linked = linked'; exact = exact'; runs = runs'; firsts = firsts'; none = u.sizes 4294967295 (λ e. cell (sym e)) ∙ t.none }

    pub taken-here : suc (length (taken.lists k)) ≡ length (t.lists k)
    unfolding taken
    taken-here = let e : eqb k k ≡ true = eq-eqb k k refl in subst (λ l. suc (length l) ≡ length (t.lists k)) (sym (cond-true (eqb k k) (without c (t.lists k)) (t.lists k) e))
        (length-without c (t.lists k) (let z = c-once in omega arith))

    pub taken-other : (j : ℕ) → (j ≡ k → ⊥) → length (taken.lists j) ≡ length (t.lists j)
    unfolding taken
    taken-other j o = let e : eqb j k ≡ false = ne_eqb j k o in ap length (cond-false (eqb j k) (without c (t.lists k)) (t.lists j) e)
