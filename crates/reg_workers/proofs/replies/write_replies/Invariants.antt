use Rattle.std.proofs.Common.{◌≡◌, ◌+◌, ◌++◌, true, drop, length}
use Rattle.std.specs.Prelude.{string_bytes}
use Rattle.reg_sessions.specs.Jobs.{are_of_kinds}
use Rattle.reg_workers.specs.Internal.Working.{works_among, replies_by}
use Rattle.reg_workers.proofs.replies.write_replies.Given as goal

abbrev pub invariant-loop-reply : goal.invariant-loop-reply
invariant-loop-reply l = record {
  text : string_bytes l.text ++ replies_by (drop l.reply-index l.replies) (drop l.at l.work) (drop l.at l.done)
      ≡ string_bytes l.fn.text ++ replies_by l.replies l.work l.done;
  kinds : are_of_kinds (drop l.at l.work) (drop l.at l.done) ≡ true;
  count : l.at + works_among (drop l.reply-index l.replies) ≡ length l.work;
}
