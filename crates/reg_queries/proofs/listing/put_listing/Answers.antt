use Rattle.std.proofs.Common.{map}
use Rattle.std.specs.Prelude.{flat_map}
use Rattle.reg_tree_image.specs.KeysAtPaths.{listed_in, names_in}
use Rattle.reg_tree_text.specs.Listings.{key_line}
use Rattle.reg_tree_text.proofs.SentTexts.{opened, exits}
use Rattle.reg_queries.specs.KeyQueries.{member_line}
use Rattle.reg_queries.proofs.listing.put_listing.Goals as goal

pub returns-in_err-put_values : goal.returns-in_err-put_values
returns-in_err-put_values g c =
    λ begin whole left s.
    exits _ _ _ _ c.from_residual.ensures.1
    (c.in_err-put_values.ensures begin whole _
    (opened begin _ whole (flat_map member_line (map listed_in c.args.values.now)) (flat_map key_line (names_in c.args.subkeys.now)) left _ _ s))

pub returns : goal.returns
returns g c =
    λ begin whole left s.
    c.put_subkeys.ensures begin whole left
    (c.in_ok-put_values.ensures begin whole _
    (opened begin _ whole (flat_map member_line (map listed_in c.args.values.now)) (flat_map key_line (names_in c.args.subkeys.now)) left _ _ s))
