use Rattle.std.proofs.Common.{◌<◌, ◌≤◌, ◌∙◌, length, ap, arith}
use Rattle.reg_sessions.specs.Locked.{Held, book_of, IsAdmitted}
use Rattle.reg_workers.proofs.WrittenReplies.{numbers_next, kept_at, each_next, each_all}
use Rattle.reg_workers.proofs.replies.write_entries.Goals as goal

pub loop-hive-preserved : goal.loop-hive-preserved
loop-hive-preserved g c =
    let below : c.loop-hive.hive < length c.args.audit.now = omega arith in
    let entries = ap (λ es. length es) c.entries-entries.ensures ∙ kept_at c.args.audit.now c.loop-hive.hive _ c.hive.ensures.hive in (
      numbers_next c.args.audit.now c.loop-hive.hive _ _ _ _ below entries c.loop-hive.invariant.0 c.in_ok-write_number.ensures,
      each_next (λ (x : Held). IsAdmitted (book_of x)) c.args.audit.now c.loop-hive.hive _ c.loop-hive.invariant.1 c.hive.ensures.hive c.hive.ensures.admitted,
    )

pub returns-clause-admitted : goal.returns-clause-admitted
returns-clause-admitted g c =
    let whole : length c.args.audit.now ≤ c.loop-hive.hive = omega arith in
    each_all (λ (x : Held). IsAdmitted (book_of x)) c.args.audit.now c.loop-hive.hive whole c.loop-hive.invariant.1
