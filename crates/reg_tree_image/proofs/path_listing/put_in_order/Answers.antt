use Rattle.std.proofs.Common.{rules}
use Rattle.std.specs.Ordering.{is_lt}
use Rattle.std.specs.Cmp.Lexicographic.{nat_list_cmp_total}
use Rattle.std.proofs.lemmas.List.Sorted.{ranks_by, answers_always}
use Rattle.reg_names.specs.Names.{folded, name_cmp}
use Rattle.reg_tree_image.proofs.Readers.KeysRead.{in-order}
use Rattle.reg_tree_image.proofs.path_listing.put_in_order.Goals as goal

pub returns : goal.returns
returns c =
    in-order c.args.names.now.items c.sort_unstable_by.new.self.items c.sort_unstable_by.ensures.permutation
    (c.sort_unstable_by.ensures.sorted (λ one other. is_lt (name_cmp one.items other.items)) (ranks_by nat_list_cmp_total (λ name. folded name.items))
    (answers_always _ _ _ (λ f a r q k. search rules)))
