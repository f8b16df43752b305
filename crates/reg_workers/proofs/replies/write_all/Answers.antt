use Rattle.reg_workers.proofs.WrittenTexts.{in_order}
use Rattle.reg_workers.proofs.replies.write_all.Goals as goal

pub write_gathered-requires : goal.write_gathered-requires
write_gathered-requires g c = record {
  order = in_order c.args.registry.sessions c.args.jobs.items c.in_ok-sessions.sessions.items c.in_ok-sessions.ensures c.requires.count c.requires.numbers;
}
