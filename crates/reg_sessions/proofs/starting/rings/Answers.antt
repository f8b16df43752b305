use Rattle.std.proofs.Common.{◌≡◌, ◌<◌, ◌∙◌, List, sym, ap, arith, rules, length}
use Rattle.std.specs.Vec.Iter.{into_iter_items}
use Rattle.reg_journal.specs.Kept.{Seat}
use Rattle.reg_sessions.specs.Sessions.{PlaceState}
use Rattle.reg_sessions.proofs.Rings.{silent_none, silent_more}
use Rattle.reg_sessions.proofs.Starts.{share_next, fresh_all, same_number, seated_more, shares_long}
use Rattle.reg_sessions.proofs.starting.rings.Goals as goal

pub new-requires : goal.new-requires
new-requires c =
    let is = sym c.in-Some.ensures.steps.0 ∙ c.loop-share.invariant.2 in
    let next = share_next c.args.n c.loop-share.at c.in-Some.share (into_iter_items c.next.new.self) is in
    record { count = ap (λ (y : Seat). y.count) next.0; empty = c.in_ok-line.ensures.inbox }

pub add-requires : goal.add-requires
add-requires c =
    let is = sym c.in-Some.ensures.steps.0 ∙ c.loop-share.invariant.2 in
    let len : length c.loop-share.sessions.items ≡ c.args.n = search (rules, c.loop-share.invariant.3) in
    ap (λ (p : PlaceState). p.seat.session) c.new.ensures
    ∙ same_number c.args.n c.args.number c.loop-share.at c.loop-share.sessions.items c.in-Some.share (into_iter_items c.next.new.self) c.index_mut.result.now len
    c.loop-share.invariant.5 is (search rules)

pub loop-share-init : goal.loop-share-init
loop-share-init c =
    let len = ap (λ (l : List Seat). length l) c.requires.shares ∙ shares_long c.args.n in
    (tt, tt, search rules, search rules, omega arith, search rules, search (rules, len), search rules, search (rules, silent_none))

pub loop-share-preserved : goal.loop-share-preserved
loop-share-preserved c =
    let is = sym c.in-Some.ensures.steps.0 ∙ c.loop-share.invariant.2 in
    let next = share_next c.args.n c.loop-share.at c.in-Some.share (into_iter_items c.next.new.self) is in
    let len : length c.loop-share.sessions.items ≡ c.args.n = search (rules, c.loop-share.invariant.3) in
    let below : c.loop-share.at < length c.loop-share.sessions.items = omega (arith, next.1, len) in (
      tt,
      tt,
      next.2,
      search rules,
      omega (arith, next.1),
      seated_more c.args.number c.loop-share.at c.loop-share.sessions.items c.in-Some.share c.index_mut.result.now c.new.result c.add.new.self below c.loop-share.invariant.5
          (search rules) next.0 c.new.ensures (search rules),
      omega (arith, c.in-Some.ensures.steps.1, c.loop-share.invariant.6),
      search rules,
      search (rules, silent_more),
    )

pub returns-clause-fresh : goal.returns-clause-fresh
returns-clause-fresh c =
    let whole : c.loop-share.at ≡ c.args.n = omega (arith, c.in-None.ensures.steps.0, c.loop-share.invariant.6) in
    let len : length c.loop-share.sessions.items ≡ c.args.n = search (rules, c.loop-share.invariant.3) in
    fresh_all c.args.number c.loop-share.at c.loop-share.sessions.items (omega (arith, whole, len)) c.loop-share.invariant.5
