use Rattle.reg_notify.proofs.Removals.{gone-below}
use Rattle.reg_notify.proofs.table.Table.end_under.Goals as goal

pub returns : goal.returns
returns c =
    gone-below c.args.place c.args.by c.into_text-text.result.items c.args.self.now c.end_gone.new.self c.requires
    c.into_text-text.ensures.clean c.into_text-text.ensures.text c.end_gone.ensures.ends
