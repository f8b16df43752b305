-- The lists of the free cells, by size.
use Rattle.std.specs.Prelude.{ℕ, ◌-◌, ◌/◌, if◌then◌else◌, nat_le}

-- the list of the free cells of a size. Lists 0 to 15 have one size each: 8, 16, 24, .. 128. The others have the sizes up to
-- a largest one each, but the last, which has all that are above
unfoldable pub class_of : ℕ → ℕ
class_of size =
    if nat_le size 128 then size / 8 - 1
    else if nat_le size 248 then 16
    else if nat_le size 504 then 17
    else if nat_le size 1016 then 18
    else if nat_le size 2040 then 19
    else if nat_le size 4088 then 20
    else if nat_le size 8184 then 21
    else if nat_le size 16376 then 22
    else 23
