use Rattle.std.proofs.Common.{[], refl, sym, ◌∙◌}
use Rattle.reg_calls.proofs.RefusalTests.{root-mask, root-full, root-none, root-refused}
use Rattle.reg_calls.proofs.open_root.OpenRoot.admit.Goals as goal

pub returns-then-mask-ne0-clause-refused : goal.returns-then-mask-ne0-clause-refused
returns-then-mask-ne0-clause-refused g c = root-mask _ _ _ _ c.if-mask-ne0.true

pub returns-then-has_no_handle_room-clause-refused : goal.returns-then-has_no_handle_room-clause-refused
returns-then-has_no_handle_room-clause-refused g c = root-full _ _ _ _ c.if-mask-ne0.false (sym c.has_no_handle_room.ensures ∙ c.if-has_no_handle_room.true)

pub returns-clause-clear : goal.returns-clause-clear
returns-clause-clear g c = root-none _ _ _ c.if-mask-ne0.false (sym c.has_no_handle_room.ensures ∙ c.if-has_no_handle_room.false)

pub returns-in-Err-clause-refused : goal.returns-in-Err-clause-refused
returns-in-Err-clause-refused g c =
    root-refused _ _ _ _ _ c.if-mask-ne0.false (sym c.has_no_handle_room.ensures ∙ c.if-has_no_handle_room.false) (c.in-Err.ensures.err [] refl)

pub returns-clause-asked : goal.returns-clause-asked
returns-clause-asked g c = c.in-Ok.ensures.ok [] refl
