-- Whether the writer failed of something that is looked up and told (this project's own).
use Rattle.std.specs.Prelude.{ℕ, Option}
use Rattle.reg_text.specs.Failures.{Stays}
use Rattle.reg_tree_text.specs.DumpFronts.{IsBlamed}
use Rattle.reg_tree_text.specs.declared.path_fault.PathFault.{PathFault}
use Rattle.reg_tree_text.specs.declared.path_fault.PathFault.TheVariants.{NoKey, NoValue, Stopped}

-- where a write stopped it, just once, and else never
abbrev pub PathBlames : PathFault → Option ℕ → Option ℕ → Type 0
PathBlames (Stopped fault) before after = IsBlamed fault before after
PathBlames NoKey before after = Stays before after
PathBlames NoValue before after = Stays before after
