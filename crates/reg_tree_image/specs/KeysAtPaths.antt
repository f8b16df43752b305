-- What was found at a path, as a key of a tree is listed.
use Rattle.std.specs.Prelude.{ℕ, Option, Some, None, List, map, Vec}
use Rattle.reg_tree_image.specs.declared.path_listing.ListedValue.{ListedValue}
use Rattle.reg_tree_image.specs.declared.path_listing.KeyAtPath.{KeyAtPath}
use Rattle.reg_tree_image.specs.declared.path_listing.KeyAtPath.TheVariants.{NoKey, Key}
use Rattle.reg_tree_image.specs.KeyListing.{ListedMember, Listing}

abbrev pub listed_in : ListedValue → ListedMember
listed_in value = record { name = value.name.items; kind = value.kind; size = value.size }

-- names, in their order
abbrev pub names_in : {Y : Type 0} → List (Vec ℕ Y) → List (List ℕ)
names_in {Y} names = map (λ (name : Vec ℕ Y). name.items) names

-- nothing where there is no key
abbrev pub listing_there : KeyAtPath → Option Listing
listing_there NoKey = None
listing_there (Key values subkeys) = Some (record { values = map listed_in values.items; subkeys = names_in subkeys.items })
