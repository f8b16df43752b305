-- Forests of keys: a key with the keys below it and those beside it. What is known of a key is left open.
use Rattle.std.specs.Prelude.{ℕ, ◌+◌, List, [], ◌∷◌}

-- the first key, at an offset, those below it and those beside it
pub data Forest (N : Type 0) : Type 0 where
  End : Forest N
  Rooted : (offset : ℕ) (node : N) (below beside : Forest N) → Forest N

-- one key with all below it
pub record Branch (N : Type 0) : Type 0 where
  pub offset : ℕ
  pub node : N
  pub below : Forest N

-- the offsets of the keys side by side
abbrev pub offsets : {N : Type 0} → Forest N → List ℕ
offsets End = []
offsets (Rooted offset node below beside) = offset ∷ offsets beside

-- a number of each key, added up
abbrev pub total : {N : Type 0} → (ℕ → N → ℕ) → Forest N → ℕ
total m End = 0
total m (Rooted offset node below beside) = m offset node + (total m below + total m beside)

abbrev pub total_of : {N : Type 0} → (ℕ → N → ℕ) → Branch N → ℕ
total_of m branch = m branch.offset branch.node + total m branch.below

-- the keys side by side, without those below them
abbrev pub heads : {N : Type 0} → Forest N → List (ℕ × N)
heads End = []
heads (Rooted offset node below beside) = (offset, node) ∷ heads beside

-- each key reads as its node, and fits those right below it
module _ {N : Type 0} (Sees : ℕ → N → Type 0) (Fits : ℕ → N → List (ℕ × N) → Type 0) where
  abbrev pub Stand : Forest N → Type 0
  Stand End = Unit {0}
  Stand (Rooted offset node below beside) = (Sees offset node × Fits offset node (heads below) × Stand below) × Stand beside

  abbrev pub Stands : Branch N → Type 0
  Stands branch = Sees branch.offset branch.node × Fits branch.offset branch.node (heads branch.below) × Stand branch.below
