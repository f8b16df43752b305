use Rattle.std.proofs.Common.{◌≡◌, ◌<◌, ◌++◌, ℕ, Some, codes, take}
use Rattle.std.specs.Prelude.{string_bytes, slice_get}
use Rattle.reg_sessions.specs.Locked.{Held, book_of, IsAdmitted}
use Rattle.reg_workers.specs.Texts.{numbers_text}
use Rattle.reg_workers.specs.Workers.{entries_of}
use Rattle.reg_workers.proofs.replies.write_entries.Given as goal

abbrev pub invariant-loop-hive : goal.invariant-loop-hive
invariant-loop-hive g l =
    (string_bytes l.text ≡ string_bytes l.fn.text ++ (codes "entries" ++ numbers_text (take l.hive (entries_of l.audit))))
    × ((k : ℕ) (b : Held) → k < l.hive → slice_get l.audit k ≡ Some b → IsAdmitted (book_of b))
