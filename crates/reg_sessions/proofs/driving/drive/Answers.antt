use Rattle.std.proofs.Common.{◌<◌, length, arith}
use Rattle.reg_sessions.proofs.ReadyJobs.{still_ready}
use Rattle.reg_sessions.proofs.driving.drive.Goals as goal

pub run_jobs-requires-clause-ready : goal.run_jobs-requires-clause-ready
run_jobs-requires-clause-ready g c κs within = λ i d below.
    let long = c.make_rooms.auto.jobs in
    let there : i < length c.args.jobs.now = omega (arith, below, long) in
    (still_ready c.args.registry.now.hives (c.make_rooms.ensures.same i d there) (c.requires.ready i d there), c.in_ok-make_rooms.ensures.room i d there)
