use Rattle.reg_tree_text.proofs.CheckTexts.{checked}
use Rattle.reg_tree_text.proofs.counting.check_line.Goals as goal

pub returns : goal.returns
returns c = λ tree n. checked tree _ n _ _ _ c.new-text.ensures.bytes c.in_ok-push_str.ensures.bytes c.in_ok-write_counts.ensures
