use Rattle.std.proofs.Common.{◌∙◌}
use Rattle.reg_notify.proofs.Removals.{gone-there, gone-below, gone-within}
use Rattle.reg_notify.proofs.table.Table.end_within.Goals as goal

pub returns : goal.returns
returns c =
    let first = c.end_gone.ensures.ends in
    let clean = c.into_text-text.ensures.clean in
    gone-within c.args.place c.args.by c.args.self.now c.end_gone.new.self c.end_gone-2.new.self
    (gone-there c.args.place c.args.by c.into_text-text.result.items c.args.self.now c.end_gone.new.self c.requires clean c.into_text-text.ensures.text first)
    (gone-below c.args.place c.args.by c.end_gone.new.text.items c.end_gone.new.self c.end_gone-2.new.self first.ready clean
    (c.end_gone.ensures.text ∙ c.into_text-text.ensures.text) c.end_gone-2.ensures.ends)
