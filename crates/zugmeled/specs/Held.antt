-- What a word of C's owns.
use Rattle.std.specs.Prelude.{Option, Some, None}
use base.Fml.{Fml, ftrue}
use base.Stored.{Coded}
use denote.RattleType.{RattleType}
use denote.RawPtr.{Ptr}
use Rattle.std.specs.Coded.{coded_option}
use Rattle.std.specs.Box.Ownership.{box_owns}
use Rattle.std.specs.Global.{Global}
use Rattle.std.specs.contracts.impls.GlobalAllocator.TheImpl.{ghosts}
use Rattle.reg_calls.specs.declared.seated.SeatedHive.{SeatedHive}
use Rattle.reg_calls.specs.contracts.seated.SeatedHive.{the_row as seated_row_of}
use Rattle.reg_callbacks.specs.declared.callback.NoCallback.{NoCallback}
use Rattle.reg_callbacks.specs.contracts.callback.NoCallback.{the_row as no_callback_row}

-- a hive with the shares of its sessions, on which no callback is registered
abbrev pub HeldHive : Type 0
HeldHive = SeatedHive NoCallback

abbrev pub hive_row : RattleType
hive_row = seated_row_of no_callback_row

abbrev pub coded_held : Coded (Option HeldHive)
coded_held = coded_option hive_row.coded

-- nothing, or a hive in a block of its own that may be freed
abbrev pub held_owns : Global → Ptr → Option HeldHive → Fml
held_owns alloc at None = ftrue
held_owns alloc at (Some hive) = box_owns (ghosts.dealloc_token alloc) hive_row at hive
