-- What `run`, `dump` and `check` ask for of the standard streams (this project's own).
use Rattle.std.specs.Prelude.{ℕ, ◌<◌, ◌≤◌, ◌≡◌, List, codes, Option, Some, None}
use Rattle.std.specs.Str.Parse.{IsNumeral, digits_value, without_leading_plus}
use Rattle.clap.specs.Words.{Row, Text, all_of, first_of, one_of}
use Rattle.reg_words.specs.declared.request.StreamRequest.{StreamRequest}
use Rattle.reg_words.specs.declared.request.StreamRequest.TheVariants.{Run, Image, Workers, Dump, Check}

-- a text writes this number of 32 bits in decimal digits
pub record IsNumber (text : List ℕ) (number : ℕ) : Type 0 where
  pub numeral : IsNumeral 10 (without_leading_plus text)
  pub small : digits_value 10 (without_leading_plus text) < 4294967296
  pub value : number ≡ digits_value 10 (without_leading_plus text)

-- a text writes this number in decimal digits, and it is one from 1 to 16
pub record IsHiveCount (text : List ℕ) (number : ℕ) : Type 0 where
  pub numeral : IsNumeral 10 (without_leading_plus text)
  pub value : number ≡ digits_value 10 (without_leading_plus text)
  pub some : 1 ≤ number
  pub few : number ≤ 16

-- the flag of that name was given
abbrev pub IsSet : Text → List Row → Type 0
IsSet name rows = first_of name rows ≡ Some (codes "true")

-- the option of that name was given
abbrev pub IsGiven : Text → List Row → Type 0
IsGiven name rows = (text : Text) × (one_of name rows ≡ Some text)

-- the subcommand is `run`, and both its options were given
abbrev pub AreBothGiven : Text × List Row → Type 0
AreBothGiven found = (found.0 ≡ codes "run") × IsGiven (codes "image") found.1 × IsGiven (codes "workers") found.1

-- a subcommand was found, of which that is so
abbrev pub GivesBoth : Option (Text × List Row) → Type 0
GivesBoth (Some found) = AreBothGiven found
GivesBoth None = ⊥

-- what a subcommand with its matches asks for of the standard streams: `run` for the replies; or for the image with the sequence number
-- that its one option gives; or for as many hives as its other option gives, and their sessions' replies; never for both. `dump` and
-- `check` ask for something where they name no file, and not for one that wasn't written to its end, nor for more of it than how many keys
-- and values it has
abbrev pub AsksOfStream : Text × List Row → StreamRequest → Type 0
AsksOfStream found Run =
    (found.0 ≡ codes "run") × (one_of (codes "image") found.1 ≡ None) × (one_of (codes "workers") found.1 ≡ None)
AsksOfStream found (Image sequence) =
    (found.0 ≡ codes "run") × ((text : Text) × (one_of (codes "image") found.1 ≡ Some text) × IsNumber text sequence)
    × (one_of (codes "workers") found.1 ≡ None)
AsksOfStream found (Workers count) =
    (found.0 ≡ codes "run") × (one_of (codes "image") found.1 ≡ None)
    × ((text : Text) × (one_of (codes "workers") found.1 ≡ Some text) × IsHiveCount text count.number)
AsksOfStream found Dump = (found.0 ≡ codes "dump") × (first_of (codes "file") found.1 ≡ None) × (IsSet (codes "dirty") found.1 → ⊥)
AsksOfStream found Check =
    (found.0 ≡ codes "check") × (all_of (codes "files") found.1 ≡ None) × (IsSet (codes "dirty") found.1 → ⊥)
    × (IsSet (codes "verbose") found.1 → ⊥)
