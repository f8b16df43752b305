use Rattle.reg_records.proofs.SubkeyListReading.{plainly-at, hintedly-at}
use Rattle.reg_records.proofs.lists.entry_at.Goals as goal

pub returns-in-IndexRoot : goal.returns-in-IndexRoot
returns-in-IndexRoot c = plainly-at c.args.form c.in-IndexRoot.is c.args.content.now c.entry_size.result c.args.index c.from.result
    c.word_at-offset.result c.entry_size.ensures c.from.ensures c.word_at-offset.ensures

pub returns-in-FastLeaf : goal.returns-in-FastLeaf
returns-in-FastLeaf c =
    hintedly-at c.args.form c.in-FastLeaf.is c.args.content.now c.entry_size.result c.args.index c.from.result c.word_at-offset.result
    c.word_at-hint.result c.entry_size.ensures c.from.ensures c.word_at-offset.ensures c.word_at-hint.ensures
