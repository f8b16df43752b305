-- The keys among the records that a walk named.
use Rattle.std.specs.Prelude.{ℕ, Bool, true, false, cond, List, [], ◌∷◌}
use Rattle.reg_heap.specs.Kinds.{Kind, Found}
use Rattle.reg_heap.specs.Kinds.Kind.{Key, Class, SubList, Leaf, ValueList, Value, Data, BigHead, BigList, Segment, Security}

abbrev pub is_key : Kind → Bool
is_key Key = true
is_key Class = false
is_key SubList = false
is_key Leaf = false
is_key ValueList = false
is_key Value = false
is_key Data = false
is_key BigHead = false
is_key BigList = false
is_key Segment = false
is_key Security = false

-- the offsets of the keys, in the order in which they were named
abbrev pub key_offsets : List Found → List ℕ
key_offsets [] = []
key_offsets (f ∷ found) = cond (is_key f.kind) (f.offset ∷ key_offsets found) (key_offsets found)
