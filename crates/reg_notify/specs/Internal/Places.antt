-- The text of a place.
use Rattle.std.specs.Prelude.{◌≡◌, ℕ, ◌+◌, ◌≤◌, List, [], ◌∷◌, Vec, vec_len, vec_capacity}
use Rattle.reg_names.specs.Names.{path_of}
use Rattle.reg_notify.specs.Internal.Keys.{lead_of, IsClean}

abbrev pub behind_first : List ℕ → List ℕ
behind_first [] = []
behind_first (b ∷ bs) = bs

-- a path's text behind a backslash; the root's is empty
abbrev pub led : List ℕ → List ℕ
led [] = []
led (b ∷ bs) = 92 ∷ b ∷ bs

-- it is a path's, with room for ten bytes more
pub record IsPlace {Y : Type 0} (text : Vec ℕ Y) : Type 0 where
  pub lead : text.items ≡ lead_of (path_of (behind_first text.items))
  pub clean : IsClean (path_of (behind_first text.items))
  pub room : vec_len text + 10 ≤ vec_capacity text
