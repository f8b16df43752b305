use Rattle.std.proofs.Common.{None, refl, sym, ◌∙◌}
use Rattle.reg_security.specs.Rings.{cell_of}
use Rattle.reg_security.proofs.HashedDescriptors.{found, none-not-this, taken}
use Rattle.reg_security.proofs.TableCells.{notes-same}
use Rattle.reg_security.proofs.hashed.HashedCells.remove.Goals as goal

pub returns-then-is_here : goal.returns-then-is_here
returns-then-is_here c =
    taken c.self.inside.by_hash c.take.new.by_hash c.args.self.now c.args.descriptor.now c.hash_of-hash.result c.self.view_is c.self.invariant
    c.hash_of-hash.ensures c.take.ensures.updates c.take.ensures.ordered c.if-is_here.ensures

pub returns-else-is_here : goal.returns-else-is_here
returns-else-is_here c =
    notes-same (cell_of c.args.self.now) c.args.descriptor.now None
    (sym (found c.self.inside.by_hash.entries c.args.self.now c.args.descriptor.now c.hash_of-hash.result _ c.self.view_is c.self.invariant
    c.hash_of-hash.ensures refl) ∙ none-not-this c.args.descriptor.now _ c.if-is_here.ensures)
