use Rattle.std.proofs.Common.{sym, ◌∙◌}
use Rattle.reg_arena.specs.Arena.{heap_of}
use Rattle.reg_values.proofs.ValueChanges.ValueSetAgain.{has-space}
use Rattle.reg_values.proofs.setting.set.Goals as goal

pub set_at-requires-clause-room : goal.set_at-requires-clause-room
set_at-requires-clause-room c = λ none.
    has-space (heap_of c.args.arena.now) c.args.list.count c.args.list.offset c.args.name.now c.requires.room
    (λ members met e. sym (sym (c.find-place.ensures members met e) ∙ none))
