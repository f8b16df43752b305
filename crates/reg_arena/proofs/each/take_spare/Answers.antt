use Rattle.std.proofs.Common.{arith, subst, sym}
use Rattle.std.specs.Prelude.{MatchOption, vec_capacity}
use Rattle.reg_heap.specs.declared.limits.TheConstants.{NONE}
use Rattle.reg_arena.specs.declared.each.Spare.{Spare}
use Rattle.reg_arena.specs.Internal.Reserved.{IsRoomFor}
use Rattle.reg_arena.proofs.Carving.SpareBins.{spare-skip, spare-set}
use Rattle.reg_arena.proofs.each.take_spare.Goals as goal

pub returns-then-place-len-clause-taken : goal.returns-then-place-len-clause-taken
returns-then-place-len-clause-taken c = λ size spare. (let there = spare.there in absurd (omega (arith, there, c.if-place-len.true, c.len.ensures, c.args.spares.now.ok.0)))

pub returns-then-place-len-clause-left : goal.returns-then-place-len-clause-left
returns-then-place-len-clause-left c = λ sizes offsets offset spares differs. spare-skip NONE sizes offsets _ c.args.place offset spares differs

pub returns-clause-taken : goal.returns-clause-taken
returns-clause-taken c = λ size spare.
    let Fits : Spare → Type 0 = λ x. MatchOption x.memory ⊥ (λ memory. IsRoomFor memory.items (vec_capacity memory) size) in
    rw c.take.ensures.value (subst Fits (sym c.index_mut.ensures.value) (spare.room c.index_mut.result.now))

pub returns-clause-left : goal.returns-clause-left
returns-clause-left c = λ sizes offsets offset spares differs. spare-set NONE sizes offsets _ c.args.place offset _ spares differs
