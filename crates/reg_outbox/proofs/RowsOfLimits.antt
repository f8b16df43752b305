-- For how many notices a ring has room, in digits.
use Rattle.std.proofs.Common.{◌≡◌, refl}
use Rattle.reg_outbox.specs.declared.ends.TheConstants.{RING_ROOM}

ring_room_is : RING_ROOM ≡ 64
ring_room_is = refl
