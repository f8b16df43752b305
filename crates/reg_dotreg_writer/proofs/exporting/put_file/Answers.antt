use Rattle.reg_heap.specs.Edits.{folded_path}
use Rattle.reg_tree_text.proofs.SentTexts.{stops_full, exits}
use Rattle.reg_dotreg_writer.specs.Entries.{keys_from}
use Rattle.reg_dotreg_writer.proofs.FileSteps.{blocks_start}
use Rattle.reg_dotreg_writer.proofs.exporting.put_file.Goals as goal

pub returns-in_err-push_heading : goal.returns-in_err-push_heading
returns-in_err-push_heading g c = λ begin whole left s. exits _ _ _ _ c.from_residual.ensures.1 (stops_full begin _ whole _ _ _ s)

pub returns-in_err-walk : goal.returns-in_err-walk
returns-in_err-walk g c =
    λ begin whole left s.
    exits _ _ _ _ c.from_residual-in_err-walk.ensures.1
    (stops_full begin _ whole _ _ _
    (blocks_start begin _ whole c.args.is_utf8 c.args.root.now c.args.tree.now.tree (folded_path c.args.path.now) left _ _ _ s c.in_ok-push_heading.ensures))

pub put_blocks-requires : goal.put_blocks-requires
put_blocks-requires g c = (keys_from c.args.root.now c.args.tree.now.tree (folded_path c.args.path.now), c.in_ok-walk.ensures)

pub returns : goal.returns
returns g c =
    λ begin whole left s.
    c.put_blocks.ensures (keys_from c.args.root.now c.args.tree.now.tree (folded_path c.args.path.now)) c.in_ok-walk.ensures begin whole left
    (blocks_start begin _ whole c.args.is_utf8 c.args.root.now c.args.tree.now.tree (folded_path c.args.path.now) left _ _ _ s c.in_ok-push_heading.ensures)
