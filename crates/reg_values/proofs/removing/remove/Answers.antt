use Rattle.std.proofs.Common.{arith, subst, sym, ◌∙◌}
use Rattle.reg_arena.specs.Arena.{heap_of}
use Rattle.reg_values.specs.ValueLists.{Became}
use Rattle.reg_values.proofs.ValueListing.ValueListOpening.{members-length}
use Rattle.reg_values.proofs.ValueListing.FoundValues.{offset-within}
use Rattle.reg_values.proofs.ValueListing.NamedValues.{named-index, without-index}
use Rattle.reg_values.proofs.removing.remove.Goals as goal

pub unreachable-requires : goal.unreachable-requires
unreachable-requires c =
    let n = c.requires.named in
    named-index c.args.name.now n.members n.there (sym (c.find.ensures n.members n.met n.reads) ∙ c.in_default.is)

pub remove_at-requires-clause-index : goal.remove_at-requires-clause-index
remove_at-requires-clause-index c =
    let v = c.requires.values in
    let w = offset-within c.args.name.now v.members c.in-Some.index (sym (c.in-Some.ensures v.members v.met v.reads)) in
    let n = members-length (heap_of c.args.arena.now) c.args.list.count c.args.list.offset v.members v.met v.reads in
    omega (arith, w, n)

pub returns-clause-list : goal.returns-clause-list
returns-clause-list c = λ members met e.
    let h = heap_of c.args.arena.now in
    let k = heap_of c.remove_at.new.arena in
    let left = without-index c.args.name.now members c.in-Some.index (sym (c.in-Some.ensures members met e)) in
    subst (Became h k met c.remove_at.result.count c.remove_at.result.offset) (sym left) (c.remove_at.ensures.list members met e)
