-- The types of values, told.
use Rattle.std.proofs.Common.{◌≡◌, ℕ, List, Option, Some, None, ap}
use Rattle.std.specs.Fmt.{decimal}
use Rattle.std.specs.Option.{unwrap_or}
use Rattle.reg_tables.specs.TypedValues.{type_word, type_text}

pub type-named : (kind : ℕ) (word : List ℕ) → Some word ≡ type_word kind → word ≡ type_text kind
unfolding type_text
type-named kind word e = ap (λ (o : Option (List ℕ)). unwrap_or o (decimal kind)) e

pub type-numbered : (kind : ℕ) → None ≡ type_word kind → decimal kind ≡ type_text kind
unfolding type_text
type-numbered kind e = ap (λ (o : Option (List ℕ)). unwrap_or o (decimal kind)) e
