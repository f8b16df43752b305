use Rattle.std.proofs.Common.{Some, ap, sym, ◌∙◌}
use Rattle.reg_arena.proofs.Tiling.BinStretches.{stretched}
use Rattle.reg_arena.proofs.arena.Arena.content_by.Goals as goal

pub content_of-requires-clause-eight : goal.content_of-requires-clause-eight
content_of-requires-clause-eight c =
    let s = c.stretch_for-stretch.ensures in (stretched _ _ c.args.cell _ s.stretch c.requires.cell s.from s.to).eight

pub content_of-requires-clause-within : goal.content_of-requires-clause-within
content_of-requires-clause-within c =
    let s = c.stretch_for-stretch.ensures in (stretched _ _ c.args.cell _ s.stretch c.requires.cell s.from s.to).within

pub returns-clause-content : goal.returns-clause-content
returns-clause-content c =
    let s = c.stretch_for-stretch.ensures in (stretched _ _ c.args.cell _ s.stretch c.requires.cell s.from s.to).content ∙ ap Some (sym c.content_of.ensures)
