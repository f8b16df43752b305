use Rattle.reg_tree_text.specs.DumpTexts.{counts_line}
use Rattle.reg_tree_text.proofs.SentTexts.{gathers, stops_full, exits}
use Rattle.reg_tree_text.proofs.dump_line.put_counts.Goals as goal

pub returns-in_err-write_counts : goal.returns-in_err-write_counts
returns-in_err-write_counts g c = λ begin whole left s. exits _ _ _ _ c.from_residual.ensures.1 (stops_full begin _ whole _ _ _ (s))

pub returns : goal.returns
returns g c =
    λ begin whole left s. c.settle.ensures.tells begin whole left
    (gathers begin _ whole (counts_line c.args.counts.keys c.args.counts.values) left _ _ _ (s) c.in_ok-write_counts.ensures)
