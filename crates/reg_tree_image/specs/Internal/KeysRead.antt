-- A key that the walk along a path came to, read.
use Rattle.std.specs.Prelude.{◌≡◌, ℕ, Option, Ok, List}
use Rattle.std.specs.Option.{option_map}
use Rattle.reg_tree_image.specs.declared.path_listing.ReadKey.{ReadKey}
use Rattle.reg_tree_image.specs.Images.{nothing}
use Rattle.reg_tree_image.specs.KeyListing.{KeyRead, Listing, IsListed}
use Rattle.reg_tree_image.specs.PathLoads.{bins_path, key_walk, result_in}
use Rattle.reg_tree_image.specs.KeysAtPaths.{names_in}
use Rattle.reg_tree_image.specs.Internal.NamedRecords.{members_in}

abbrev pub read_in : ReadKey → KeyRead
read_in key = record { values = members_in key.values.items; subkeys = names_in key.subkeys.items }

abbrev pub reading_in : Option ReadKey → Option KeyRead
reading_in found = option_map read_in found

-- of the key that bins have at a path this is listed
abbrev pub HasListing : List ℕ → ℕ → ℕ → List (List ℕ) → Option Listing → Type 0
HasListing bins minor root names listing =
    (read : Option KeyRead) × (result_in (bins_path (key_walk names) bins minor root nothing) ≡ Ok read) × IsListed read listing
