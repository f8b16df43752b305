use Rattle.std.proofs.Common.{◌%◌, arith, sym, ◌∙◌}
use Rattle.std.proofs.lemmas.List.{get_or_read_under}
use Rattle.reg_calls.specs.Internal.QuietKeys.{nothing}
use Rattle.reg_calls.proofs.RememberedEvents.{remembered-at}
use Rattle.reg_calls.proofs.quiet.Quiet.has.Goals as goal

pub returns : goal.returns
returns c =
    let long = c.requires in
    remembered-at c.args.self.now c.args.event.handle c.args.event.bits (c.args.event.handle % 1024) c.index-row.result.now
    (get_or_read_under c.args.self.now.rows.items (c.args.event.handle % 1024) 1024 c.index-row.result.now nothing c.index-row.ensures (omega arith) (sym long ∙ c.args.self.now.rows.ok.0))
