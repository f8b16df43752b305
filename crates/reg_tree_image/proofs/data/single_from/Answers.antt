use Rattle.std.proofs.Common.{ℕ, List, Bor, refl}
use Rattle.reg_heap.specs.Kinds.Kind.{Data}
use Rattle.reg_tree_image.proofs.Readers.FirstBytes.{data-none, data-some}
use Rattle.reg_tree_image.proofs.data.single_from.Goals as goal

pub returns-then-size-eq0-clause-follows : goal.returns-then-size-eq0-clause-follows
returns-then-size-eq0-clause-follows c path = data-none _ path c.args.offset _ c.args.size c.if-size-eq0.true

pub returns-clause-follows : goal.returns-clause-follows
returns-clause-follows c path =
    data-some _ path (λ (x : Bor (List ℕ)). x.now) c.args.offset _ _ c.args.size _ _ c.if-size-eq0.false refl
    (c.bytes_from.ensures.follows path Data refl)
