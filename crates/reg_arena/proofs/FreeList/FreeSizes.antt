-- The sizes of the free cells by their offsets.
use Rattle.std.proofs.Common.{◌≡◌, ℕ, zero, suc, ◌+◌, ◌-◌, ◌<◌, ◌≤◌, Bool, true, false, not, cond, ◌&&◌, ◌⊎◌, inl, inr, List, [], ◌∷◌, ◌++◌, refl, sym, ap, ◌∙◌, subst, arith, eqb}
use Rattle.std.proofs.lemmas.Bool.{eqb-true, eq-eqb, ne_eqb, cases_eq, cases_lt, lt-ltb, le-ltb}
use Rattle.std.specs.List.{AllByRecursion}
use lib.Dec.{ltb}
use Rattle.reg_arena.specs.declared.Cell.{Cell}
use Rattle.reg_arena.specs.Internal.ListedCells.{free_size, sized, added, IsFreeOf}
use Rattle.reg_arena.specs.NewCells.{used, unused, carved, total_of}
use Rattle.reg_arena.specs.Carves.{rest_of}
use Rattle.reg_arena.specs.Frees.{IsFreePiece}
use Rattle.reg_arena.proofs.Contents.CellContents.{IsBeside, AreOrdered}
use Rattle.reg_arena.proofs.FreeList.ListedSpots.{sized-here, sized-other}

-- no cell begins there
abbrev pub AreAway : ℕ → List Cell → Type 0
AreAway x cells = AllByRecursion (λ (c : Cell). c.offset ≡ x → ⊥) cells

cell-away : (c : Cell) (x n : ℕ) → (c.offset ≡ x → ⊥) → cond (not c.allocated && eqb c.offset x) c.size n ≡ n
cell-away c x n o = by c.allocated (ne_eqb c.offset x o)
  where
    by : (b : Bool) → eqb c.offset x ≡ false → cond (not b && eqb c.offset x) c.size n ≡ n
    by true e = refl
    by false e = rw e refl

pub size-after : (x : ℕ) (xs ys : List Cell) → AreAway x xs → free_size (xs ++ ys) x ≡ free_size ys x
size-after x [] ys a = refl
size-after x (c ∷ xs) ys a = cell-away c x (free_size (xs ++ ys) x) a.0 ∙ size-after x xs ys a.1

pub size-none : (x : ℕ) (xs : List Cell) → AreAway x xs → free_size xs x ≡ 0
size-none x [] a = refl
size-none x (c ∷ xs) a = cell-away c x (free_size xs x) a.0 ∙ size-none x xs a.1

pub size-before : (x : ℕ) (xs ys : List Cell) → AreAway x ys → free_size (xs ++ ys) x ≡ free_size xs x
size-before x [] ys a = size-none x ys a
size-before x (c ∷ xs) ys a = ap (λ n. cond (not c.allocated && eqb c.offset x) c.size n) (size-before x xs ys a)

pub both-away : (x : ℕ) (xs ys : List Cell) → AreAway x xs → AreAway x ys → AreAway x (xs ++ ys)
both-away x [] ys a b = b
both-away x (c ∷ xs) ys a b = (a.0, both-away x xs ys a.1 b)

-- outside a middle part, and inside it
pub size-outside : (x : ℕ) (xs mid ys : List Cell) → AreAway x mid → free_size (xs ++ (mid ++ ys)) x ≡ free_size (xs ++ ys) x
size-outside x [] mid ys a = size-after x mid ys a
size-outside x (c ∷ xs) mid ys a = ap (λ n. cond (not c.allocated && eqb c.offset x) c.size n) (size-outside x xs mid ys a)

pub size-inside : (x : ℕ) (xs mid ys : List Cell) → AreAway x xs → AreAway x ys → free_size (xs ++ (mid ++ ys)) x ≡ free_size mid x
size-inside x xs mid ys a b = size-after x xs (mid ++ ys) a ∙ size-before x mid ys b

pub beside-away : (lo hi x : ℕ) (cells : List Cell) → lo ≤ x → x < hi → AllByRecursion (IsBeside lo hi) cells → AreAway x cells
beside-away lo hi x [] l h b = tt
beside-away lo hi x (c ∷ cells) l h b = (one b.0, beside-away lo hi x cells l h b.1)
  where
    one : IsBeside lo hi c → c.offset ≡ x → ⊥
    one (e, inl q) f = omega arith
    one (e, inr q) f = omega arith

-- free cells beside some bytes leave them alone
pub beside-free : (lo hi : ℕ) (cells : List Cell) → AllByRecursion (IsBeside lo hi) cells → (x : ℕ) → 0 < free_size cells x → (x + free_size cells x ≤ lo) ⊎ (hi ≤ x)
beside-free lo hi [] b x h = absurd (omega arith)
beside-free lo hi (c ∷ cells) b x h = by (λ g. beside-free lo hi cells b.1 x g) c.allocated refl (eqb c.offset x) refl b.0
  where
    by : (0 < free_size cells x → (x + free_size cells x ≤ lo) ⊎ (hi ≤ x)) → (a : Bool) → c.allocated ≡ a → (e : Bool) → eqb c.offset x ≡ e → IsBeside lo hi c →
        (x + free_size (c ∷ cells) x ≤ lo) ⊎ (hi ≤ x)
    by more true p e q z = rw p (more (rw p at h))
    by more false p false q z = rw (p, q) (more (rw (p, q) at h))
    by more false p true q (z, inl l) = (let f = eqb-true c.offset x q in rw (p, q) (inl (omega arith)))
    by more false p true q (z, inr l) = (let f = eqb-true c.offset x q in inr (omega arith))

-- where there is a size, there is a free cell
pub record FreeAt (cells : List Cell) (x : ℕ) : Type 0 where
  pub xs : List Cell
  pub c : Cell
  pub ys : List Cell
  pub cells_are : cells ≡ xs ++ c ∷ ys
  pub offset_is : c.offset ≡ x
  pub free : c.allocated ≡ false
  pub size_is : c.size ≡ free_size cells x

pub free_at : (cells : List Cell) (x : ℕ) → 0 < free_size cells x → FreeAt cells x
free_at [] x h = absurd (omega arith)
free_at (c ∷ cells) x h = by (λ g. free_at cells x g) c.allocated refl (eqb c.offset x) refl
  where
    more : (0 < free_size cells x → FreeAt cells x) → free_size (c ∷ cells) x ≡ free_size cells x → FreeAt (c ∷ cells) x
    more f e =
        let r = f (subst (λ n. 0 < n) e h) in
        record { xs = c ∷ r.xs; c = r.c; ys = r.ys; cells_are = ap (λ t. c ∷ t) r.cells_are; offset_is = r.offset_is; free = r.free; size_is = r.size_is ∙ sym e }

    by : (0 < free_size cells x → FreeAt cells x) → (a : Bool) → c.allocated ≡ a → (e : Bool) → eqb c.offset x ≡ e → FreeAt (c ∷ cells) x
    by f true p e q = more f (rw p refl)
    by f false p false q = more f (rw (p, q) refl)
    by f false p true q = record { xs = []; c = c; ys = cells; cells_are = refl; offset_is = eqb-true c.offset x q; free = p; size_is = rw (p, q) refl }

-- a free cell among ordered cells
pub ordered-away : (at x : ℕ) (cells : List Cell) → x < at → AreOrdered at cells → AreAway x cells
ordered-away at x [] l o = tt
ordered-away at x (c ∷ cells) l o = ((λ e. omega (arith, o.0)), ordered-away (c.offset + c.size) x cells (omega (arith, o.0)) o.2)

pub size-here : (c : Cell) (x : ℕ) → c.allocated ≡ false → c.offset ≡ x → (cells : List Cell) → free_size (c ∷ cells) x ≡ c.size
size-here c x f e cells = (let q : eqb c.offset x ≡ true = eq-eqb c.offset x e in rw (f, q) refl)

size-past : (at : ℕ) (ss : List ℕ) (ys : List Cell) (x : ℕ) → free_size (carved at ss ++ ys) x ≡ free_size ys x
size-past at [] ys x = refl
size-past at (s ∷ ss) ys x = size-past (at + s) ss ys x

-- of a rest
size-rest : (r n x : ℕ) → free_size (rest_of r n) x ≡ cond (eqb x r && ltb 0 n) n 0
size-rest r zero x = by (eqb x r)
  where
    by : (b : Bool) → ◌≡◌ {A = ℕ} 0 (cond {A = ℕ} (b && false) 0 0)
    by true = refl
    by false = refl
size-rest r (suc n) x = elim (cases_eq x r) [
  | inl e ↦ (let q : eqb x r ≡ true = eq-eqb x r e in let p : eqb r x ≡ true = eq-eqb r x (sym e) in let l : ltb 0 (suc n) ≡ true = lt-ltb 0 (suc n) (omega arith) in rw (q, p, l) refl)
  | inr o ↦ (let q : eqb x r ≡ false = ne_eqb x r o in let p : eqb r x ≡ false = ne_eqb r x (λ e. o (sym e)) in rw (q, p) refl)
]

-- ---- the sizes after a carve

module _ (xs : List Cell) (c size : ℕ) (ys : List Cell) (ss : List ℕ) (n : ℕ) (some : 0 < total_of ss) (fits : total_of ss + n ≡ size)
    (before : AllByRecursion (IsBeside c (c + size)) xs) (after : AllByRecursion (IsBeside c (c + size)) ys) where
  abbrev r : ℕ
  r = c + total_of ss

  abbrev old : ℕ → ℕ
  old = free_size (xs ++ unused c size ∷ ys)

  one-away : (x : ℕ) → (x ≡ c → ⊥) → AreAway x (unused c size ∷ [])
  one-away x o = ((λ e. o (sym e)), tt)

  added-here : (x : ℕ) → cond (eqb x r && ltb 0 n) n 0 ≡ added r n (sized c 0 old) x → free_size (xs ++ ((carved c ss ++ rest_of r n) ++ ys)) x ≡ free_size (carved c ss ++ rest_of r n) x →
      free_size (xs ++ ((carved c ss ++ rest_of r n) ++ ys)) x ≡ added r n (sized c 0 old) x
  added-here x e f = f ∙ size-past c ss (rest_of r n) x ∙ size-rest r n x ∙ e

  -- within the cell
  within : (x : ℕ) → c ≤ x → x < c + size → sized c 0 old x ≡ 0
  within x l h = elim (cases_eq x c) [
    | inl e ↦ sized-here c 0 old x e
    | inr o ↦ sized-other c 0 old x o ∙ size-inside x xs (unused c size ∷ []) ys (beside-away c (c + size) x xs l h before) (beside-away c (c + size) x ys l h after) ∙
        size-none x (unused c size ∷ []) (one-away x o)
  ]

  -- elsewhere
  mid-out : (x : ℕ) → (x < c) ⊎ (c + size ≤ x) → free_size (xs ++ ((carved c ss ++ rest_of r n) ++ ys)) x ≡ free_size (xs ++ ys) x
  mid-out x h = go xs
    where
      rest-away : (m : ℕ) → total_of ss + m ≡ size → AreAway x (rest_of r m)
      rest-away zero f = tt
      rest-away (suc m) f = ((λ e. elim h [ inl l ↦ omega arith | inr l ↦ omega arith ]), tt)

      inner : free_size ((carved c ss ++ rest_of r n) ++ ys) x ≡ free_size ys x
      inner = subst (λ t. free_size t x ≡ free_size ys x) (sym (assoc (carved c ss) (rest_of r n) ys)) (size-past c ss (rest_of r n ++ ys) x ∙ size-after x (rest_of r n) ys (rest-away n fits))
        where
          assoc : (a b d : List Cell) → (a ++ b) ++ d ≡ a ++ (b ++ d)
          assoc [] b d = refl
          assoc (z ∷ a) b d = ap (λ t. z ∷ t) (assoc a b d)

      go : (zs : List Cell) → free_size (zs ++ ((carved c ss ++ rest_of r n) ++ ys)) x ≡ free_size (zs ++ ys) x
      go [] = inner
      go (z ∷ zs) = ap (λ m. cond (not z.allocated && eqb z.offset x) z.size m) (go zs)

  added-out : (x : ℕ) → (x < c) ⊎ (c + size ≤ x) → added r n (sized c 0 old) x ≡ free_size (xs ++ ys) x
  added-out x h = elim (cases_eq x c) [
    | inl e ↦ absurd (elim h [ inl l ↦ omega (arith, some) | inr l ↦ omega (arith, some) ])
    | inr o ↦ first (cases_eq x r) ∙ sized-other c 0 old x o ∙ size-outside x xs (unused c size ∷ []) ys (one-away x o)
  ]
    where
      first : (x ≡ r) ⊎ (x ≡ r → ⊥) → added r n (sized c 0 old) x ≡ sized c 0 old x
      first (inl e) = (let z : n ≡ 0 = elim h [ inl l ↦ absurd (omega arith) | inr l ↦ omega arith ] in let l : ltb 0 n ≡ false = le-ltb 0 n (omega arith) in rw l (by (eqb x r)))
        where
          by : (b : Bool) → cond (b && false) n (sized c 0 old x) ≡ sized c 0 old x
          by true = refl
          by false = refl
      first (inr o) = (let q : eqb x r ≡ false = ne_eqb x r o in rw q refl)

  pub carved-sizes : (x : ℕ) → added r n (sized c 0 old) x ≡ free_size (xs ++ ((carved c ss ++ rest_of r n) ++ ys)) x
  carved-sizes x = elim (cases_lt x c) [
    | inl l ↦ added-out x (inl l) ∙ sym (mid-out x (inl l))
    | inr g ↦ elim (cases_lt x (c + size)) [
      | inr h ↦ added-out x (inr h) ∙ sym (mid-out x (inr h))
      | inl h ↦ sym (added-here x (ap (λ v. cond (eqb x r && ltb 0 n) n v) (sym (within x g h)))
          (size-inside x xs (carved c ss ++ rest_of r n) ys (beside-away c (c + size) x xs g h before) (beside-away c (c + size) x ys g h after)))
    ]
  ]

-- ---- the sizes after a cell was freed

pub piece-away : (lo hi x : ℕ) (cells : List Cell) → IsFreePiece lo hi cells → (x ≡ lo → ⊥) → AreAway x cells
piece-away lo hi x [] p o = tt
piece-away lo hi x (c ∷ []) p o = ((λ e. o (sym e ∙ ap (λ (d : Cell). d.offset) p.0)), tt)
piece-away lo hi x (c ∷ (d ∷ cells)) p o = absurd p

module _ (xs ls : List Cell) (cell size : ℕ) (rs ys : List Cell) (lo hi : ℕ) (left : IsFreePiece lo cell ls) (right : IsFreePiece (cell + size) hi rs)
    (less : lo < hi) (in_lo : lo ≤ cell) (in_hi : cell + size ≤ hi) (some : 0 < size)
    (before : AllByRecursion (IsBeside lo hi) xs) (after : AllByRecursion (IsBeside lo hi) ys) where
  abbrev was : ℕ → ℕ
  was = free_size (xs ++ ((ls ++ used cell size ∷ rs) ++ ys))

  abbrev gone : ℕ → ℕ
  gone = sized lo 0 (sized (cell + size) 0 was)

  mid-size : (x : ℕ) → (x ≡ lo → ⊥) → (x ≡ cell + size → ⊥) → free_size (ls ++ used cell size ∷ rs) x ≡ 0
  mid-size x o p = size-after x ls (used cell size ∷ rs) (piece-away lo cell x ls left o) ∙ size-none x rs (piece-away (cell + size) hi x rs right p)

  mid-outside : (x : ℕ) → (x < lo) ⊎ (hi ≤ x) → (x ≡ cell + size → ⊥) → was x ≡ free_size (xs ++ ys) x
  mid-outside x h p =
      let o : x ≡ lo → ⊥ = λ e. elim h [ inl l ↦ omega arith | inr l ↦ omega arith ] in
      size-outside x xs (ls ++ used cell size ∷ rs) ys (both-away x ls (used cell size ∷ rs) (piece-away lo cell x ls left o)
      ((λ e. elim h [ inl l ↦ omega arith | inr l ↦ omega arith ]), piece-away (cell + size) hi x rs right p))

  -- where nothing is on the right, no free cell stands there
  end-none : hi ≡ cell + size → was (cell + size) ≡ free_size (xs ++ ys) (cell + size)
  end-none e = size-outside (cell + size) xs (ls ++ used cell size ∷ rs) ys (both-away (cell + size) ls (used cell size ∷ rs) (piece-away lo cell (cell + size) ls left (λ f. omega arith))
      ((λ f. omega arith), none rs right))
    where
      none : (bs : List Cell) → IsFreePiece (cell + size) hi bs → AreAway (cell + size) bs
      none [] p = tt
      none (c ∷ []) p = absurd (let l = p.1 in omega arith)
      none (c ∷ (d ∷ bs)) p = absurd p

  pub freed-sizes : (was (cell + size) ≡ hi - (cell + size)) → (x : ℕ) → added lo (hi - lo) gone x ≡ free_size (xs ++ unused lo (hi - lo) ∷ ys) x
  freed-sizes right_size x = elim (cases_eq x lo) [
    | inl e ↦ (
        let q : eqb x lo ≡ true = eq-eqb x lo e in
        let l : ltb 0 (hi - lo) ≡ true = lt-ltb 0 (hi - lo) (omega arith) in
        let a : added lo (hi - lo) gone x ≡ hi - lo = rw (q, l) refl in
        a ∙ sym (size-inside x xs (unused lo (hi - lo) ∷ []) ys (beside-away lo hi x xs (omega arith) (omega arith) before) (beside-away lo hi x ys (omega arith) (omega arith) after) ∙
        size-here (unused lo (hi - lo)) x refl (sym e) []))
    | inr o ↦ (
        let q : eqb x lo ≡ false = ne_eqb x lo o in
        let a : added lo (hi - lo) gone x ≡ sized (cell + size) 0 was x = rw q refl in
        let b : free_size (xs ++ unused lo (hi - lo) ∷ ys) x ≡ free_size (xs ++ ys) x = size-outside x xs (unused lo (hi - lo) ∷ []) ys ((λ e. o (sym e)), tt) in
        a ∙ rest o (cases_eq x (cell + size)) (cases_lt x lo) (cases_lt x hi) ∙ sym b)
  ]
    where
      away : lo ≤ x → x < hi → free_size (xs ++ ys) x ≡ 0
      away l h = size-inside x xs [] ys (beside-away lo hi x xs l h before) (beside-away lo hi x ys l h after)

      rest : (x ≡ lo → ⊥) → (x ≡ cell + size) ⊎ (x ≡ cell + size → ⊥) → (x < lo) ⊎ (lo ≤ x) → (x < hi) ⊎ (hi ≤ x) → sized (cell + size) 0 was x ≡ free_size (xs ++ ys) x
      rest o (inl e) (inl l) d = absurd (omega arith)
      rest o (inl e) (inr g) (inl l) = sized-here (cell + size) 0 was x e ∙ sym (away g l)
      rest o (inl e) (inr g) (inr h) = (
          let f : hi ≡ cell + size = omega arith in
          let z : was (cell + size) ≡ 0 = right_size ∙ omega arith in
          sized-here (cell + size) 0 was x e ∙ sym (ap (λ v. free_size (xs ++ ys) v) e ∙ sym (end-none f) ∙ z))
      rest o (inr p) (inl l) d = sized-other (cell + size) 0 was x p ∙ mid-outside x (inl l) p
      rest o (inr p) (inr g) (inr h) = sized-other (cell + size) 0 was x p ∙ mid-outside x (inr h) p
      rest o (inr p) (inr g) (inl l) = sized-other (cell + size) 0 was x p ∙
          size-inside x xs (ls ++ used cell size ∷ rs) ys (beside-away lo hi x xs g l before) (beside-away lo hi x ys g l after) ∙ mid-size x o p ∙ sym (away g l)

-- an allocated cell's bytes are free of free cells
pub used-free : (c : Cell) → c.allocated ≡ true → (xs ys : List Cell) → AllByRecursion (IsBeside c.offset (c.offset + c.size)) xs → AllByRecursion (IsBeside c.offset (c.offset + c.size)) ys →
    (cells : List Cell) → cells ≡ xs ++ c ∷ ys → IsFreeOf (free_size cells) c.offset c.size
used-free c used xs ys before after cells e = subst (λ cs. IsFreeOf (free_size cs) c.offset c.size) (sym e) free
  where
    none : (x : ℕ) → free_size (c ∷ ys) x ≡ free_size ys x
    none x = rw used refl

    same : (zs : List Cell) (x : ℕ) → free_size (zs ++ c ∷ ys) x ≡ free_size (zs ++ ys) x
    same [] x = none x
    same (z ∷ zs) x = ap (λ n. cond (not z.allocated && eqb z.offset x) z.size n) (same zs x)

    both : (zs : List Cell) → AllByRecursion (IsBeside c.offset (c.offset + c.size)) zs → AllByRecursion (IsBeside c.offset (c.offset + c.size)) (zs ++ ys)
    both [] a = after
    both (z ∷ zs) a = (a.0, both zs a.1)

    free : IsFreeOf (free_size (xs ++ c ∷ ys)) c.offset c.size
    free x h = (let q = same xs x in subst (λ n. (x + n ≤ c.offset) ⊎ (c.offset + c.size ≤ x)) (sym q)
        (beside-free c.offset (c.offset + c.size) (xs ++ ys) (both xs before) x (subst (λ n. 0 < n) q h)))
