use Rattle.reg_index.proofs.ListsRead.{leaf-room, leaf-entry}
use Rattle.reg_index.proofs.finding.entry_in.Goals as goal

pub entry_at-requires : goal.entry_at-requires
entry_at-requires c = let s = c.requires.leaf in leaf-room s.0 s.1 c.args.index c.args.leaf.now (s.2, s.3, s.5) s.4

pub returns : goal.returns
returns c = λ heap offset entries is here l. leaf-entry heap offset c.args.index c.args.leaf.now c.entry_at.result here c.entry_at.ensures entries is l
