use Rattle.std.proofs.Common.{ap, arith, ◌∙◌}
use Rattle.reg_arena.specs.Cells.{size_in, is_allocated_in}
use Rattle.reg_tree_image.proofs.Anew.FreeSums.{field-length, field-word}
use Rattle.reg_tree_image.proofs.free_cells.cell_from.Goals as goal

pub size_at-requires : goal.size_at-requires
size_at-requires c = let long = field-length _ _ c.requires c.bytes-field.result.now c.bytes-field.ensures in omega (arith, long)

pub word_at-requires : goal.word_at-requires
word_at-requires c = let long = field-length _ _ c.requires c.bytes-field.result.now c.bytes-field.ensures in omega (arith, long)

pub returns-clause-size : goal.returns-clause-size
returns-clause-size c =
    c.size_at.ensures ∙ ap size_in (field-word _ _ c.requires c.bytes-field.result.now c.bytes-field.ensures)

pub returns-clause-allocated : goal.returns-clause-allocated
returns-clause-allocated c =
    ap is_allocated_in (c.word_at.ensures ∙ field-word _ _ c.requires c.bytes-field.result.now c.bytes-field.ensures)
