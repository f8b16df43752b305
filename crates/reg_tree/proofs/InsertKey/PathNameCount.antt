-- The names of a path counted.
use Rattle.std.proofs.Common.{◌≡◌, ℕ, ◌+◌, ◌≤◌, true, nat_le, List, length, ap, arith}
use Rattle.std.specs.List.{list_all}
use Rattle.std.proofs.lemmas.Bool.{and_parts}
use Rattle.std.proofs.lemmas.Bool.Decides.{nat_tests}
use Rattle.reg_names.specs.declared.TheConstants.{PATH_LIMIT}
use Rattle.reg_names.specs.Names.{is_key_name, are_key_names, is_path, path_of, IsFirst}

are-few : (limit : ℕ) (names : List (List ℕ)) → are_key_names limit names ≡ true → length names ≤ limit
unfolding are_key_names
are-few limit names e = let l = (and_parts (list_all is_key_name names) (nat_le (length names) limit) e).1 in grind (arith, nat_tests)

-- a path has at most 512 names
pub path-few : (path : List ℕ) → is_path path ≡ true → length (path_of path) ≤ PATH_LIMIT
path-few path valid = are-few PATH_LIMIT (path_of path) valid

-- one name more was counted
pub counts-on : (count : ℕ) (path rest name behind : List ℕ) → is_path path ≡ true → count + length (path_of rest) ≡ length (path_of path) → IsFirst rest name behind → count + 1 ≤ PATH_LIMIT
counts-on count path rest name behind valid counted first = let few = path-few path valid in let one = ap length first.names in omega (arith, few, counted, one)
