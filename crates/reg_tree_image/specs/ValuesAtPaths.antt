-- What was found at a path, as a value of a tree.
use Rattle.std.specs.Prelude.{Option, Some, None}
use Rattle.reg_heap.specs.Paths.{Member}
use Rattle.reg_tree_image.specs.declared.path_loading.ValueAtPath.{ValueAtPath}
use Rattle.reg_tree_image.specs.declared.path_loading.ValueAtPath.TheVariants.{NoKey, NoValue, Value}

-- nothing where there is no key, or else the key's value, if it has one
abbrev pub value_there : ValueAtPath → Option (Option Member)
value_there NoKey = None
value_there NoValue = Some None
value_there (Value name kind bytes) = Some (Some (record { name = name.items; kind = kind; bytes = bytes.items }))
