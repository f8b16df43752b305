use Rattle.std.proofs.Common.{ℕ, List, Bor, refl}
use Rattle.reg_heap.specs.Kinds.Kind.{Class}
use Rattle.reg_tree_image.proofs.Readers.FirstBytes.{class-none, class-some}
use Rattle.reg_tree_image.proofs.data.class_from.Goals as goal

pub returns-then-length-eq0-clause-follows : goal.returns-then-length-eq0-clause-follows
returns-then-length-eq0-clause-follows c path = class-none _ path c.args.offset _ c.args.length c.if-length-eq0.true

pub returns-clause-follows : goal.returns-clause-follows
returns-clause-follows c path =
    class-some _ path (λ (x : Bor (List ℕ)). x.now) c.args.offset _ _ c.args.length _ _ c.if-length-eq0.false c.from.ensures
    (c.bytes_from.ensures.follows path Class refl)
