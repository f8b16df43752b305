-- Segments of big data, read one by one.
use Rattle.std.specs.Prelude.{ℕ, List, ◌++◌}
use Rattle.reg_tree_image.specs.WalkSteps.{Step, ◌>>=◌, give}

-- what a step gives, behind these bytes
abbrev pub appended : List ℕ → Step (List ℕ) → Step (List ℕ)
appended bytes step = step >>= (λ piece. give (bytes ++ piece))
