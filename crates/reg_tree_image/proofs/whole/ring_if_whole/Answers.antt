use Rattle.std.proofs.Common.{◌∙◌, sym, arith}
use Rattle.std.proofs.lemmas.Bool.{false≢true}
use Rattle.reg_tree_image.proofs.WalkedBack.WholeBins.{keys-read, whole-keys}
use Rattle.reg_tree_image.proofs.WalkedBack.RingsFound.{found-ring, found-tree}
use Rattle.reg_tree_image.proofs.whole.ring_if_whole.Goals as goal

pub are_written-requires : goal.are_written-requires
are_written-requires c = keys-read c.args.bins.now c.args.root c.args.keys.now c.requires

pub returns-then-not-are_written-clause-ok : goal.returns-then-not-are_written-clause-ok
returns-then-not-are_written-clause-ok c = λ w. absurd (false≢true (sym c.if-not-are_written.true ∙ c.are_written.ensures.1 (whole-keys c.args.bins.now c.args.root c.args.keys.now c.requires w)))

pub returns-clause-ok : goal.returns-clause-ok
returns-clause-ok c =
    found-ring c.args.bins.now c.args.root c.args.keys.now c.requires (c.are_written.ensures.0 c.if-not-are_written.false) (λ v. v.items) (λ i. let h = c.type_inv.bins i in omega (arith, h))
    c.ring_of_keys.result c.ring_of_keys.ensures.ok

pub returns-clause-tree : goal.returns-clause-tree
returns-clause-tree c =
    found-tree c.args.bins.now c.args.root c.args.keys.now c.requires (c.are_written.ensures.0 c.if-not-are_written.false) (λ v. v.items) c.ring_of_keys.result c.ring_of_keys.ensures.ok
