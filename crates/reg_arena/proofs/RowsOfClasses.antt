-- The list of each size: the one size of lists 0 to 15, the least and the largest size of the others.
use Rattle.std.specs.Prelude.{◌≡◌, refl}
use Rattle.reg_arena.specs.Classes.{class_of}

size-8 : class_of 8 ≡ 0
unfolding class_of
size-8 = refl

size-16 : class_of 16 ≡ 1
unfolding class_of
size-16 = refl

size-24 : class_of 24 ≡ 2
unfolding class_of
size-24 = refl

size-32 : class_of 32 ≡ 3
unfolding class_of
size-32 = refl

size-40 : class_of 40 ≡ 4
unfolding class_of
size-40 = refl

size-48 : class_of 48 ≡ 5
unfolding class_of
size-48 = refl

size-56 : class_of 56 ≡ 6
unfolding class_of
size-56 = refl

size-64 : class_of 64 ≡ 7
unfolding class_of
size-64 = refl

size-72 : class_of 72 ≡ 8
unfolding class_of
size-72 = refl

size-80 : class_of 80 ≡ 9
unfolding class_of
size-80 = refl

size-88 : class_of 88 ≡ 10
unfolding class_of
size-88 = refl

size-96 : class_of 96 ≡ 11
unfolding class_of
size-96 = refl

size-104 : class_of 104 ≡ 12
unfolding class_of
size-104 = refl

size-112 : class_of 112 ≡ 13
unfolding class_of
size-112 = refl

size-120 : class_of 120 ≡ 14
unfolding class_of
size-120 = refl

size-128 : class_of 128 ≡ 15
unfolding class_of
size-128 = refl

size-136 : class_of 136 ≡ 16
unfolding class_of
size-136 = refl

size-248 : class_of 248 ≡ 16
unfolding class_of
size-248 = refl

size-256 : class_of 256 ≡ 17
unfolding class_of
size-256 = refl

size-504 : class_of 504 ≡ 17
unfolding class_of
size-504 = refl

size-512 : class_of 512 ≡ 18
unfolding class_of
size-512 = refl

size-1016 : class_of 1016 ≡ 18
unfolding class_of
size-1016 = refl

size-1024 : class_of 1024 ≡ 19
unfolding class_of
size-1024 = refl

size-2040 : class_of 2040 ≡ 19
unfolding class_of
size-2040 = refl

size-2048 : class_of 2048 ≡ 20
unfolding class_of
size-2048 = refl

size-4088 : class_of 4088 ≡ 20
unfolding class_of
size-4088 = refl

size-4096 : class_of 4096 ≡ 21
unfolding class_of
size-4096 = refl

size-8184 : class_of 8184 ≡ 21
unfolding class_of
size-8184 = refl

size-8192 : class_of 8192 ≡ 22
unfolding class_of
size-8192 = refl

size-16376 : class_of 16376 ≡ 22
unfolding class_of
size-16376 = refl

size-16384 : class_of 16384 ≡ 23
unfolding class_of
size-16384 = refl

size-268435424 : class_of 268435424 ≡ 23
unfolding class_of
size-268435424 = refl
