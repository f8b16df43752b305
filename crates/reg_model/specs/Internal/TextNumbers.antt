-- Numbers by texts, as a map of std's keeps them: the tables of open keys and of pending watches stand on it.
use Rattle.std.specs.Prelude.{ℕ, ◌&&◌, Bool, List, length, Option, nat_eq, nat_lt, Vec}
use Rattle.std.specs.Ordering.{nat_cmp}
use Rattle.std.specs.Cmp.Lexicographic.{slice_cmp}
use Rattle.std.specs.BTreeMap.{is_at}
use Rattle.std.specs.List.{starts_with}
use Rattle.std.specs.Map.{lookup}

-- the number at a text
abbrev pub number_at : {Y : Type 0} → List (Vec ℕ Y × ℕ) → List ℕ → Option ℕ
number_at es text = lookup (is_at (λ k. slice_cmp nat_cmp text k.items)) es

-- whether a text begins with another and is longer
abbrev pub goes_on : List ℕ → List ℕ → Bool
goes_on start text = starts_with nat_eq text start && nat_lt (length start) (length text)
