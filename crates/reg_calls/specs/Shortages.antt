-- Which changes may want memory, and when one may want space in the bins (this project's own).
use Rattle.std.specs.Prelude.{ℕ, ◌+◌, ◌<◌, Bool, true, false, List, length, if◌then◌else◌}
use Rattle.reg_names.specs.Names.{path_of}
use Rattle.reg_heap.specs.declared.limits.TheConstants.{BINS_LIMIT, GROWTH_BOUND}
use Rattle.reg_model.specs.Worlds.{Handle, path_at}
use Rattle.reg_model.specs.Causes.{AskedOf, Root, KeyOf, HandleAlone, rule_of}
use Rattle.reg_model.specs.declared.call.Change.{Change}
use Rattle.reg_model.specs.declared.call.Change.TheVariants.{CreateKey, SetValue, SetSecurity}
use Rattle.reg_index.specs.declared.Place.{Place}
use Rattle.reg_tree.specs.CellSizes.{BelongsThere, create_sizes, value_sizes_at, security_sizes, LacksRoom}
use Rattle.reg_tree.specs.TreeKeys.{Keys}

-- a handle alone is asked only to be closed
abbrev pub is_alone : AskedOf → Bool
is_alone Root = false
is_alone (KeyOf h) = false
is_alone (HandleAlone h) = true

-- a Close takes no memory
abbrev pub is_closing : Change → Bool
is_closing change = is_alone (rule_of change).of

-- the bins may have no space for a change that takes some: they are within 1,310,720 bytes of their limit
abbrev pub LacksFor : Bool → Keys → Type 0
LacksFor true keys = BINS_LIMIT < length keys.bins.bytes + GROWTH_BOUND
LacksFor false keys = ⊥

-- they have no room side by side for the cells of the keys that a change makes, the first at a place where it belongs, with the
-- descriptor that is given; or for those of the value that it sets, or of the descriptor
abbrev pub LacksCells : Keys → List Handle → ℕ → Change → Type 0
LacksCells keys handles session (CreateKey h path mask given) =
    (place : Place) × BelongsThere keys (path_at session h handles) (path_of path) place
    × LacksRoom keys.bins (create_sizes keys (path_at session h handles) (path_of path) place given)
LacksCells keys handles session (SetValue h name kind bytes) = LacksRoom keys.bins (value_sizes_at keys (path_at session h handles) name (length bytes))
LacksCells keys handles session (SetSecurity h descriptor) = LacksRoom keys.bins (security_sizes keys.tree descriptor)
LacksCells keys handles session change = ⊥

-- the bins have no space for a change: they are near their limit, and have no room for its cells side by side
abbrev pub LacksSpace : Keys → List Handle → ℕ → Change → Type 0
LacksSpace keys handles session change = LacksFor (rule_of change).takes_space keys × LacksCells keys handles session change

-- by how many bytes at most a change lets the bins grow: none but one that takes space
abbrev pub growth_of : Change → ℕ
growth_of change = if (rule_of change).takes_space then GROWTH_BOUND else 0
