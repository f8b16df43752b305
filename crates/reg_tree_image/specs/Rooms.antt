-- Rooms that take bytes.
use Rattle.std.specs.Prelude.{ℕ, List, ◌++◌, length, take, drop}

-- a room with bytes over its front, as many as it has place for; the rest of it is as it was
abbrev pub filled : List ℕ → List ℕ → List ℕ
filled bytes room = take (length room) bytes ++ drop (length bytes) room
