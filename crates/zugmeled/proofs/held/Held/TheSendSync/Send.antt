-- A hive in its block may cross to another thread, as the hive may.
use mir.Raw.{raw}
use base.Fraction.{full_share}
use base.Shift.{Keyless}
use denote.Exit.{Exit, unchanged, leaves, hidden, under}
use denote.Memory.{lone}
use denote.RattleType.{RattleType}
use denote.RawPtr.{Ptr, block_ptr, null_ptr, lies_at}
use denote.Param.Send.{IsSend, Quiet, part_keyless, owning_send, struct_send, sendable}
use denote.Builtin.{RawPtr}
use denote.Struct.Struct.{exits_of}
use denote.Struct.Owning.{shape, fields, to}
use Rattle.std.specs.Prelude.{Option, Some, None}
use Rattle.std.specs.Global.{Global}
use Rattle.std.specs.contracts.alloc.Global as heap
use Rattle.std.proofs.Crossing
use Rattle.std.proofs.MapsCrossing
use Rattle.reg_model.specs.contracts.bytes.Bytes as Bytes
use Rattle.zugmeled.specs.Held.{HeldHive, hive_row, held_owns}
use Rattle.zugmeled.specs.contracts.held.Held.{the_row, the_type}

quiet : {D X : Type 0} (to : D → X) (e : Exit X) → Quiet e → Quiet (hidden (under to e))
quiet to unchanged q = λ x w. tt
quiet to (leaves L l S s r₀) q = λ d. q (to d)

lies : (R : RattleType) → IsSend R → (p : Ptr) (x : R.Denot) → Keyless (lies_at R full_share p x)
lies R s (block_ptr b o) x = part_keyless R s full_share x b o
lies R s null_ptr x = tt

-- names and data may cross: those of the journal's changes
bytes : IsSend Bytes.the_row
bytes = search (Crossing.crosses, sendable) depth 60 fits 20000

sends : IsSend hive_row
sends = let b = bytes in search (MapsCrossing.crosses, Crossing.crosses, sendable) depth 60 fits 20000

owned : (a : Global) (p : Ptr) (o : Option HeldHive) → Keyless (held_owns a p o)
owned a p None = tt
owned a p (Some h) = (lies hive_row sends p h, (Crossing.frees).frees a (raw (lone hive_row.mir)) p)

pub send : IsSend the_row
send = let O = the_type in let ps : IsSend RawPtr = search sendable in let sa : IsSend (heap.the_field).row = search sendable in
    owning_send O (ps, (sa, tt)) (λ d. owned d.alloc d.at d.value)
    (λ k. quiet (to O) (exits_of k (fields O)) ((struct_send (shape O) (ps, (sa, tt))).leaving k))
