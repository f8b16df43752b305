-- Which fault of a tree an arena's is.
use Rattle.reg_arena.specs.declared.ArenaFault.{ArenaFault}
use Rattle.reg_arena.specs.declared.ArenaFault.TheVariants as arena
use Rattle.reg_tree.specs.declared.fault.TreeFault.{TreeFault}
use Rattle.reg_tree.specs.declared.fault.TreeFault.TheVariants.{Full, Memory}

abbrev pub of_arena : ArenaFault → TreeFault
of_arena arena.Full = Full
of_arena arena.Memory = Memory
