use Rattle.std.proofs.Common.{◌≡◌, map, take}
use Rattle.reg_tree_image.specs.KeyListing.{listed_member}
use Rattle.reg_tree_image.specs.KeysAtPaths.{listed_in}
use Rattle.reg_tree_image.specs.Internal.NamedRecords.{members_in}
use Rattle.reg_tree_image.proofs.path_listing.listed_values.Given as goal

abbrev pub invariant-loop-value : goal.invariant-loop-value
invariant-loop-value l = map listed_in l.listed.items ≡ map listed_member (members_in (take l.value-index l.values))
