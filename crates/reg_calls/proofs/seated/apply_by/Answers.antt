use Rattle.std.proofs.Common.{ℕ, List, set, subst, sym, ◌∙◌}
use Rattle.reg_journal.specs.Kept.{IsCurrent}
use Rattle.reg_calls.specs.HiveView.{view_of, noted_of, asks_of}
use Rattle.reg_calls.specs.Seats.{AreSeated}
use Rattle.reg_calls.specs.Views.{IsApplied}
use Rattle.reg_calls.proofs.SharesOfHives.{all-seated, counted-applied, seat-found}
use Rattle.reg_calls.proofs.seated.apply_by.Goals as goal

pub returns-clause-applied : goal.returns-clause-applied
returns-clause-applied g c =
    let hive = c.args.hive.now in
    let found = seat-found (noted_of hive) (view_of hive).journal c.args.shares.now.items c.args.session c.index_mut.result.now
    (c.requires.seated.all c.args.session c.requires.session) c.index_mut.ensures.value in
    subst (λ (n : ℕ). IsApplied (asks_of g.C.Callback.answers hive) (view_of hive) (view_of c.apply.new.self) n c.args.moment c.args.change c.apply.result) found.0
    (c.apply.ensures.applied found.1)

pub returns-clause-seated : goal.returns-clause-seated
returns-clause-seated g c =
    let hive = c.args.hive.now in
    let new = c.apply.new.self in
    let shares = c.args.shares.now.items in
    let was = c.requires.seated.all c.args.session c.requires.session in
    let found = seat-found (noted_of hive) (view_of hive).journal shares c.args.session c.index_mut.result.now was c.index_mut.ensures.value in
    let current = subst (λ (l : List ℕ). IsCurrent l (view_of new).journal c.apply.new.share) c.apply.ensures.noted (c.apply.ensures.current found.1) in
    let counted = counted-applied (asks_of g.C.Callback.answers hive) (noted_of hive) (view_of hive) (view_of new) c.args.session c.args.moment c.args.change c.apply.result
    shares c.apply.new.share was (returns-clause-applied g c) current (c.apply.ensures.session ∙ found.0) in
    subst (λ (l : List ℕ). AreSeated l (view_of new).journal (set shares c.args.session c.apply.new.share)) (sym c.apply.ensures.noted)
    (all-seated (noted_of hive) (view_of hive).journal (view_of new).journal shares (set shares c.args.session c.apply.new.share) counted c.requires.seated)
