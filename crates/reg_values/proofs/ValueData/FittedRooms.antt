-- Rooms that have place for bytes, or not.
use Rattle.std.proofs.Common.{◌≡◌, ℕ, ◌<◌, ◌≤◌, ◌++◌, List, length, drop, nat_lt, true, false, refl, arith}
use Rattle.std.proofs.lemmas.Bool.Decides.{nat_tests}
use Rattle.reg_values.specs.ValueLists.{fitted}

pub fits : (bytes room : List ℕ) → length bytes ≤ length room → fitted bytes room ≡ bytes ++ drop (length bytes) room
fits bytes room l = let b : nat_lt (length room) (length bytes) ≡ false = grind (arith, nat_tests, l) in rw b refl

pub fits-not : (bytes room : List ℕ) → length room < length bytes → fitted bytes room ≡ room
fits-not bytes room l = let b : nat_lt (length room) (length bytes) ≡ true = grind (arith, nat_tests, l) in rw b refl
