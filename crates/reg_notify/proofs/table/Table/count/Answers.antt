use Rattle.std.proofs.Common.{◌∙◌, subst, sym, ◌<◌}
use Rattle.reg_notify.proofs.Added.{rows-counted}
use Rattle.reg_notify.proofs.table.Table.count.Goals as goal

pub pending_in-requires : goal.pending_in-requires
pending_in-requires c = let settled = c.requires.settled in subst (λ n. c.args.session < n) (sym settled.long) c.requires.session

pub returns : goal.returns
returns c = let settled = c.requires.settled in c.pending_in.ensures ∙ settled.counts c.args.session ∙ rows-counted c.args.session c.args.self.now.rows.entries
