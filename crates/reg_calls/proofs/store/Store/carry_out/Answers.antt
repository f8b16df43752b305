use Rattle.std.proofs.Common.{refl}
use Rattle.reg_calls.proofs.KnownKeys.{unchanged}
use Rattle.reg_calls.proofs.QuietChanges.{quiet-follows}
use Rattle.reg_calls.proofs.ToldWatches.{carried-out}
use Rattle.reg_calls.proofs.store.Store.carry_out.Goals as goal

pub returns-in-Err-clause-carried : goal.returns-in-Err-clause-carried
returns-in-Err-clause-carried c = λ change a. (unchanged c.args.self.now c.args.self.now c.requires.ready.known refl, c.in-Err.ensures.err c.args.end change a)

pub tell-requires : goal.tell-requires
tell-requires c = (c.in-Ok.ensures.ok c.args.end c.requires.admitted.0 c.requires.admitted.1 c.requires.unhit).kinds

pub returns-in-Ok-commit-clause-carried : goal.returns-in-Ok-commit-clause-carried
returns-in-Ok-commit-clause-carried c = λ change a.
    carried-out c.args.self.now c.commit.new.self c.tell.new.self c.args.session c.args.moment c.args.end change c.in-Ok-commit.reply c.in-Ok.announced
    (c.in-Ok-commit.ensures change a) (c.in-Ok.ensures.ok c.args.end change a c.requires.unhit) c.tell.ensures.tree c.tell.ensures.handles c.tell.ensures.watches

pub returns-in-Ok-commit-clause-unhit : goal.returns-in-Ok-commit-clause-unhit
returns-in-Ok-commit-clause-unhit c =
    let change = c.requires.admitted.0 in
    let a = c.requires.admitted.1 in
    let done = carried-out c.args.self.now c.commit.new.self c.tell.new.self c.args.session c.args.moment c.args.end change c.in-Ok-commit.reply c.in-Ok.announced
    (c.in-Ok-commit.ensures change a) (c.in-Ok.ensures.ok c.args.end change a c.requires.unhit) c.tell.ensures.tree c.tell.ensures.handles c.tell.ensures.watches in
    quiet-follows c.args.end c.args.self.now c.tell.new.self c.args.session c.args.moment change c.in-Ok-commit.reply c.requires.ready done c.args.quiet.now c.follow.new.self
    c.own_event-event.result c.len-before.result c.len.result c.requires.unhit (λ some. c.own_event-event.ensures c.args.end c.args.session c.args.self.now change a some)
    c.len-before.ensures c.len.ensures c.follow.ensures.follows
