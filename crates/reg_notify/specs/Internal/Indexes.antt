-- What a change of one number by its text leaves.
use Rattle.std.specs.Prelude.{◌≡◌, ℕ, List, Option, if◌then◌else◌, bytes_eq}

-- at a text there is that, and at each other text what there was
abbrev pub UpdatesText : (List ℕ → Option ℕ) → List ℕ → Option ℕ → (List ℕ → Option ℕ) → Type 0
UpdatesText before text number after = (other : List ℕ) → after other ≡ (if bytes_eq text other then number else before other)
