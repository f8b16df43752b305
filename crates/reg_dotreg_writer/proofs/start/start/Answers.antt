use Rattle.reg_heap.specs.Edits.{folded_path}
use Rattle.reg_dotreg_writer.proofs.NamesOnWay.{start_goes}
use Rattle.reg_dotreg_writer.proofs.start.start.Goals as goal

pub returns : goal.returns
returns c =
    start_goes c.args.tree.now c.args.root.now (folded_path c.args.path.now) _ c.args.node c.requires.root c.requires.at c.requires.there
    c.new-walk.ensures.node c.new-walk.ensures.pending c.in_ok-walk.ensures
