use Rattle.std.proofs.Common.{sym, ap, ◌∙◌}
use Rattle.reg_heap.specs.Members.{same_name}
use Rattle.reg_values.proofs.ValueListing.FoundValues.{same-is}
use Rattle.reg_tree_image.proofs.path_walk.is_key_named.Goals as goal

pub returns : goal.returns
returns c =
    sym (same-is c.as_slice.result.now c.args.name.now c.same_name.result c.same_name.ensures)
    ∙ ap (λ name. same_name name c.args.name.now) c.as_slice.ensures.value
