-- Free cells threaded in lists, one list for each class of sizes.
-- A cell is its offset. `size` gives a free cell's size, and 0 where there is none; `next` and `back` give the cell behind and
-- before one in its list, and NONE where there is none.
use Rattle.std.specs.Prelude.{◌≡◌, ℕ, ◌<◌, ◌&&◌, ◌==◌, nat_lt, cond, List, [], ◌∷◌}
use Rattle.reg_heap.specs.declared.limits.TheConstants.{NONE}
use Rattle.reg_heap.specs.Kinds.{times}

-- the link behind a cell, or the list's head where there is no cell
abbrev pub link : (ℕ → ℕ) → ℕ → ℕ → ℕ
link next head x = cond (x == NONE) head (next x)

-- the links behind prev lead through these cells, and each has the one before it
abbrev pub Linked : (ℕ → ℕ) → (ℕ → ℕ) → ℕ → List ℕ → Type 0
Linked link back prev [] = link prev ≡ NONE
Linked link back prev (x ∷ xs) = (link prev ≡ x) × (back x ≡ prev) × Linked link back x xs

-- 1 for a free cell of a class
abbrev pub is_of : (ℕ → ℕ) → (ℕ → ℕ) → ℕ → ℕ → ℕ
is_of class_of size class x = cond (nat_lt 0 (size x) && (class_of (size x) == class)) 1 0

-- Each list leads through the cells of its class, each once. The cells of one size below `limit` stand side by side: such
-- a cell is the first of its size, which `first` names, or stands behind another of its size.
pub record AreThreads (class_of : ℕ → ℕ) (limit : ℕ) (size next back head first : ℕ → ℕ) : Type 0 where
  pub lists : ℕ → List ℕ
  pub linked : (class : ℕ) → Linked (link next (head class)) back NONE (lists class)
  pub exact : (class x : ℕ) → times x (lists class) ≡ is_of class_of size class x
  pub runs : (x : ℕ) → 0 < size x → size x < limit → (size (back x) ≡ size x → ⊥) → first (size x) ≡ x
  pub firsts : (s : ℕ) → 0 < s → s < limit → (first s ≡ NONE → ⊥) → size (first s) ≡ s
  pub none : size NONE ≡ 0

-- a free cell of a class was put behind p and before n; where p is none, at the list's head, and it is the first of its size
pub record Puts (limit : ℕ) (size next back head first size' next' back' head' first' : ℕ → ℕ) (class c s p n : ℕ) : Type 0 where
  pub size_is : size' c ≡ s
  pub sizes : (x : ℕ) → (x ≡ c → ⊥) → size' x ≡ size x
  pub next_is : next' c ≡ n
  pub next_before : (p ≡ NONE → ⊥) → next' p ≡ c
  pub nexts : (x : ℕ) → 0 < size x → (x ≡ p → ⊥) → (x ≡ c → ⊥) → next' x ≡ next x
  pub back_is : back' c ≡ p
  pub back_behind : (n ≡ NONE → ⊥) → back' n ≡ c
  pub backs : (x : ℕ) → 0 < size x → (x ≡ n → ⊥) → (x ≡ c → ⊥) → back' x ≡ back x
  pub head_is : p ≡ NONE → head' class ≡ c
  pub head_kept : (p ≡ NONE → ⊥) → head' class ≡ head class
  pub heads : (k : ℕ) → (k ≡ class → ⊥) → head' k ≡ head k
  pub first_is : p ≡ NONE → s < limit → first' s ≡ c
  pub first_kept : (p ≡ NONE → ⊥) → first' s ≡ first s
  pub firsts : (t : ℕ) → (t ≡ s → ⊥) → first' t ≡ first t

-- a free cell of a class was taken out from between p and n; where it was the first of its size, the first is the one behind it
-- or there is none
pub record Takes (limit : ℕ) (size next back head first size' next' back' head' first' : ℕ → ℕ) (class c s p n : ℕ) : Type 0 where
  pub size_is : size' c ≡ 0
  pub sizes : (x : ℕ) → (x ≡ c → ⊥) → size' x ≡ size x
  pub next_before : (p ≡ NONE → ⊥) → next' p ≡ n
  pub nexts : (x : ℕ) → 0 < size x → (x ≡ p → ⊥) → next' x ≡ next x
  pub back_behind : (n ≡ NONE → ⊥) → back' n ≡ p
  pub backs : (x : ℕ) → 0 < size x → (x ≡ n → ⊥) → (x ≡ c → ⊥) → back' x ≡ back x
  pub head_is : p ≡ NONE → head' class ≡ n
  pub head_kept : (p ≡ NONE → ⊥) → head' class ≡ head class
  pub heads : (k : ℕ) → (k ≡ class → ⊥) → head' k ≡ head k
  pub first_kept : s < limit → (first s ≡ c → ⊥) → first' s ≡ first s
  pub first_next : s < limit → first s ≡ c → size n ≡ s → first' s ≡ n
  pub first_none : s < limit → first s ≡ c → (size n ≡ s → ⊥) → first' s ≡ NONE
  pub firsts : (t : ℕ) → (t ≡ s → ⊥) → first' t ≡ first t
