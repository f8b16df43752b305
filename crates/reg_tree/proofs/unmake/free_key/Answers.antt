use Rattle.reg_arena.specs.Arena.{heap_of}
use Rattle.reg_tree.proofs.DeleteKey.DeletedKeyCells.{sole-there, sole-values, sole-class, sole-left, sole-gone}
use Rattle.reg_tree.proofs.unmake.free_key.Goals as goal

pub fields-head-requires : goal.fields-head-requires
fields-head-requires c = sole-there _ _ c.requires

pub values_list-values-requires : goal.values_list-values-requires
values_list-values-requires c = sole-there _ _ c.requires

pub clear-requires : goal.clear-requires
clear-requires c = sole-values _ _ c.requires _ _ c.values_list-values.ensures

pub free_class-requires : goal.free_class-requires
free_class-requires c = sole-class _ _ c.requires _ _ c.values_list-values.ensures (heap_of c.clear.new.arena) c.clear.ensures.gone c.fields-head.result c.fields-head.ensures

pub free-requires : goal.free-requires
free-requires c =
    sole-left _ _ c.requires _ _ c.values_list-values.ensures (heap_of c.clear.new.arena) c.clear.ensures.gone c.fields-head.result
    c.fields-head.ensures (heap_of c.free_class.new.arena) c.free_class.ensures.gone

pub returns-clause-gone : goal.returns-clause-gone
returns-clause-gone c =
    sole-gone _ _ c.requires _ _ c.values_list-values.ensures (heap_of c.clear.new.arena) c.clear.ensures.gone c.fields-head.result
    c.fields-head.ensures (heap_of c.free_class.new.arena) c.free_class.ensures.gone (heap_of c.free.new.self) c.free.ensures.gone
