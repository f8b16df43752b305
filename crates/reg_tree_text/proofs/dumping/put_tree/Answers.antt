use Rattle.std.proofs.Common.{◌++◌}
use Rattle.std.specs.Prelude.{flat_map}
use Rattle.reg_tree_text.specs.DumpTexts.{root_line, key_lines, keys_told, counts_text, dump_text}
use Rattle.reg_tree_text.proofs.SentTexts.{swapped, opened, exits}
use Rattle.reg_tree_text.proofs.CheckTexts.{counts-same}
use Rattle.reg_tree_text.proofs.dumping.put_tree.Goals as goal

pub returns-in_err-put_root : goal.returns-in_err-put_root
unfolding dump_text
returns-in_err-put_root g c =
    λ begin whole left s.
    exits _ _ _ _ c.from_residual.ensures.1
    (c.in_err-put_root.ensures begin whole _
    (opened begin _ whole (root_line c.args.tree.now.tree)
    (flat_map key_lines (keys_told c.args.tree.now.tree) ++ counts_text (keys_told c.args.tree.now.tree)) left _ _ s))

pub returns-in_err-counts : goal.returns-in_err-counts
unfolding dump_text
returns-in_err-counts g c =
    λ begin whole left s.
    exits _ _ _ _ c.from_residual-in_err-counts.ensures.1
    (c.in_err-counts.ensures.puts begin whole _
    (opened begin _ whole (flat_map key_lines (keys_told c.args.tree.now.tree)) (counts_text (keys_told c.args.tree.now.tree)) left _ _
    (c.in_ok-put_root.ensures begin whole _
    (opened begin _ whole (root_line c.args.tree.now.tree)
    (flat_map key_lines (keys_told c.args.tree.now.tree) ++ counts_text (keys_told c.args.tree.now.tree)) left _ _ s))))

pub returns : goal.returns
unfolding dump_text
returns g c =
    λ begin whole left s.
    c.put_counts.ensures begin whole left
    (swapped begin _ whole _ _ left _ _
    (c.in_ok-counts.ensures.puts begin whole _
    (opened begin _ whole (flat_map key_lines (keys_told c.args.tree.now.tree)) (counts_text (keys_told c.args.tree.now.tree)) left _ _
    (c.in_ok-put_root.ensures begin whole _
    (opened begin _ whole (root_line c.args.tree.now.tree)
    (flat_map key_lines (keys_told c.args.tree.now.tree) ++ counts_text (keys_told c.args.tree.now.tree)) left _ _ s))))
    (counts-same c.args.tree.now.tree _ c.in_ok-counts.ensures.counts))
