-- For how many values lists are made that move, worked out by hand.
use Rattle.std.proofs.Common.{◌≡◌, refl}
use Rattle.reg_values.specs.ValueSizes.{room_for}

room-one : room_for 1 ≡ 1
unfolding room_for
room-one = refl

-- the last that is exact, and the first that isn't
room-exact : room_for 64 ≡ 64
unfolding room_for
room-exact = refl

room-more : room_for 65 ≡ 81
unfolding room_for
room-more = refl

-- the last that the limit doesn't cut, and the first that it does
room-below : room_for 13107 ≡ 16383
unfolding room_for
room-below = refl

room-cut : room_for 13108 ≡ 16384
unfolding room_for
room-cut = refl

room-most : room_for 16384 ≡ 16384
unfolding room_for
room-most = refl
