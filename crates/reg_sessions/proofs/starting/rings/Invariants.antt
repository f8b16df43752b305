use Rattle.std.proofs.Common.{◌≡◌, ◌+◌, ◌≤◌, drop, length, map, vec_len}
use Rattle.std.specs.List.{range_with_len}
use Rattle.std.specs.Vec.Iter.{into_iter_items, into_iter_len}
use Rattle.reg_journal.specs.Kept.{seat}
use Rattle.reg_sessions.specs.Sessions.{AreFresh}
use Rattle.reg_sessions.specs.Internal.Moved.{AreSilent}
use Rattle.reg_sessions.proofs.starting.rings.Given as goal

abbrev pub invariant-loop-share : goal.invariant-loop-share
invariant-loop-share l =
    goal.iterator-loop-share.can_next l.share-iterator
    × goal.iterator-loop-share.is_finite l.share-iterator
    × (into_iter_items l.share-iterator ≡ drop l.at (map (λ s. seat s 0) (range_with_len 0 l.n)))
    × (vec_len l.sessions ≡ l.n)
    × (l.at ≤ l.n)
    × AreFresh l.number l.at l.sessions.items
    × (into_iter_len l.share-iterator + l.at ≡ l.n)
    × (length l.lines.items ≡ l.at)
    × AreSilent l.lines.items
