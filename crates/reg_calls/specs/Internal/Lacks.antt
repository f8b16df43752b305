-- What a fault of the arena tells of a change.
use Rattle.reg_arena.specs.declared.ArenaFault.{ArenaFault}
use Rattle.reg_arena.specs.declared.ArenaFault.TheVariants.{Full, Memory as NoMemory}
use Rattle.reg_calls.specs.declared.lack.Lack.{Lack}
use Rattle.reg_calls.specs.declared.lack.Lack.TheVariants.{Space, Memory}

-- the bins have no space, or a growth was refused
abbrev pub lack_of : ArenaFault → Lack
lack_of Full = Space
lack_of NoMemory = Memory
