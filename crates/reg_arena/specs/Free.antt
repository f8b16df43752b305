-- The lists of free cells. A link stands behind a free cell's size field; the format leaves those bytes open.
-- The lists are as many as there are classes of sizes: `class_of` gives a size's class, and class k has the k-th head.
use Rattle.std.specs.Prelude.{◌≡◌, ℕ, ◌+◌, ◌<◌, Bool, false, not, ◌&&◌, ◌==◌, List, [], ◌∷◌, ◌++◌, zero, ◌≤◌, length, map, filter}
use Rattle.std.specs.Prelude.{⊤, suc}
use Rattle.std.specs.List.{AllByRecursion}
use Rattle.reg_heap.specs.declared.limits.TheConstants.{NONE}
use Rattle.reg_heap.specs.ByteWords.{word}
use Rattle.reg_heap.specs.Kinds.{times}
use Rattle.reg_arena.specs.declared.Cell.{Cell}

-- the offsets met by following the links from a head to 0xFFFFFFFF
abbrev pub Follows : List ℕ → ℕ → List ℕ → Type 0
Follows bins head [] = head ≡ NONE
Follows bins head (offset ∷ offsets) = (head ≡ offset) × Follows bins (word bins (offset + 4)) offsets

-- the first offsets that the links from a cell lead through
abbrev pub chain : ℕ → List ℕ → ℕ → List ℕ
chain zero bins cell = []
chain (suc count) bins cell = cell ∷ chain count bins (word bins (cell + 4))

-- a free cell of the list that has room
pub record IsFit (bins : List ℕ) (total : ℕ) (offsets : List ℕ) (cell : ℕ) : Type 0 where
  pub front : List ℕ
  pub back : List ℕ
  pub split : offsets ≡ front ++ cell ∷ back
  pub fits : total ≤ word bins cell

-- the free cells of a class
abbrev pub is_free_of : (ℕ → ℕ) → ℕ → Cell → Bool
is_free_of class_of class cell = not cell.allocated && (class_of cell.size == class)

-- the offsets of the free cells of a class
abbrev pub free_of : (ℕ → ℕ) → ℕ → List Cell → List ℕ
free_of class_of class cells = map (λ (cell : Cell). cell.offset) (filter (is_free_of class_of class) cells)

-- two free cells touch
pub record Touch (x y : Cell) : Type 0 where
  pub first : x.allocated ≡ false
  pub second : y.allocated ≡ false
  pub ends : x.offset + x.size ≡ y.offset

-- no free cell touches a later one
abbrev pub AreApart : List Cell → Type 0
AreApart [] = ⊤
AreApart (x ∷ cells) = AllByRecursion (λ y. Touch x y → ⊥) cells × AreApart cells

-- a list leads through the free cells of its class, each once
pub record IsFreeList (class_of : ℕ → ℕ) (class : ℕ) (bins : List ℕ) (head : ℕ) (cells : List Cell) (offsets : List ℕ) : Type 0 where
  pub follows : Follows bins head offsets
  pub exact : (offset : ℕ) → times offset offsets ≡ times offset (free_of class_of class cells)

-- so do the lists of the classes from one on
abbrev pub AreLists : (ℕ → ℕ) → ℕ → List ℕ → List ℕ → List Cell → List (List ℕ) → Type 0
AreLists class_of class bins [] cells [] = ⊤
AreLists class_of class bins (head ∷ heads) cells (offsets ∷ lists) =
    IsFreeList class_of class bins head cells offsets × AreLists class_of (suc class) bins heads cells lists
AreLists class_of class bins heads cells lists = ⊥

-- the free lists hold precisely the free cells
pub record AreFreeLists (class_of : ℕ → ℕ) (bins heads : List ℕ) (cells : List Cell) (lists : List (List ℕ)) : Type 0 where
  pub each : AreLists class_of 0 bins heads cells lists
  pub classes : AllByRecursion (λ cell. class_of cell.size < length heads) cells
  pub apart : AreApart cells
