use Rattle.std.proofs.Common.{◌≡◌, ◌++◌, ◌*◌, take}
use Rattle.reg_tree_image.proofs.writing.push_bins.Given as goal

abbrev pub invariant-loop-page : goal.invariant-loop-page
invariant-loop-page l = l.out.items ≡ l.initial.out.items ++ take (4096 * l.page) l.arena.bytes
