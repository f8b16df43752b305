use Rattle.reg_calls.proofs.LargestNumbers.{info-is}
use Rattle.reg_calls.proofs.query_info.info.Goals as goal

pub returns : goal.returns
returns c = λ p at.
    info-is c.args.tree.now.tree p (c.name.ensures.key p at) _ _ _ _ _ _ c.descriptor.result.now (c.subkeys.ensures p at) (c.longest_subkey_name.ensures p at) (c.values.ensures p at)
    (c.largest_values-largest.ensures.name p at) (c.largest_values-largest.ensures.size p at) (c.descriptor.ensures.told p at) (c.time.ensures p at)
