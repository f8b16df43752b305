use Rattle.std.proofs.Common.{ℕ, List, [], Bor, refl}
use Rattle.reg_heap.specs.Kinds.Kind.{Value}
use Rattle.reg_tree_image.specs.Internal.NameReadings.{value_in}
use Rattle.reg_tree_image.specs.Internal.NamedRecords.{value_of}
use Rattle.reg_tree_image.proofs.Readers.ReaderSteps.{exit-follows, cell-gives}
use Rattle.reg_tree_image.proofs.values.named_value.Goals as goal

pub returns-in_err-content-clause-follows : goal.returns-in_err-content-clause-follows
returns-in_err-content-clause-follows c path =
    exit-follows _ path (λ (x : Bor (List ℕ)). x.now) value_of _ value_in _ [] _ _ _ c.from_residual.ensures.1
    (c.in_err-content.ensures.follows path (λ _. Value) (λ _. refl))

pub returns-clause-follows : goal.returns-clause-follows
returns-clause-follows c path =
    cell-gives _ path (λ (x : Bor (List ℕ)). x.now) value_of _ value_in _ _ c.in_ok-content.content _
    (c.in_ok-content.ensures.follows path (λ _. Value) (λ _. refl)) c.read_value.ensures.gives
