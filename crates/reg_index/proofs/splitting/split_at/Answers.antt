use Rattle.std.proofs.Common.{◌∷◌, []}
use Rattle.reg_index.proofs.CellCounts.{once-apart}
use Rattle.reg_index.proofs.splitting.split_at.Goals as goal

pub copy_entries-requires-clause-apart : goal.copy_entries-requires-clause-apart
copy_entries-requires-clause-apart c = once-apart c.args.cell c.args.first (c.args.second ∷ []) c.requires.once
