use Rattle.std.proofs.Common.{map, ap}
use Rattle.reg_tree_image.specs.KeysAtPaths.{listed_in}
use Rattle.reg_tree_image.proofs.Readers.KeysRead.{small-one, value-listed, values-listed}
use Rattle.reg_tree_image.proofs.path_listing.listed_values.Goals as goal

pub loop-value-init : goal.loop-value-init
loop-value-init c = ap (map listed_in) c.new-listed.ensures.items

pub push_value-requires : goal.push_value-requires
push_value-requires c = small-one c.args.values.now c.loop-value.value-index c.value-item.result _ c.requires c.loop-value-test.true c.value-item.is

pub loop-value-preserved : goal.loop-value-preserved
loop-value-preserved c =
    value-listed c.args.values.now c.loop-value.value-index c.value-item.result _ (map listed_in c.loop-value.listed.items) (map listed_in c.push_value.new.listed.items)
    c.loop-value-test.true c.value-item.is c.loop-value.invariant c.in_ok-push_value.ensures.ok

pub returns-clause-ok : goal.returns-clause-ok
returns-clause-ok c = values-listed c.args.values.now c.loop-value.value-index (map listed_in c.loop-value.listed.items) c.loop-value-test.false c.loop-value.invariant
