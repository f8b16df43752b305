use Rattle.std.proofs.Common.{◌∙◌, refl}
use Rattle.reg_model.specs.Internal.TextNumbers.{number_at}
use Rattle.reg_notify.specs.Internal.Rows.{holder_of}
use Rattle.reg_notify.proofs.Firings.{part-none}
use Rattle.reg_notify.proofs.TableSteps.{one-past, none-past}
use Rattle.reg_notify.proofs.table.Table.end_past_handle.Goals as goal

pub loop-number-init : goal.loop-number-init
loop-number-init c = record { ready = c.requires; part = part-none _ _ _ _; queues = refl }

pub end-requires-clause-found : goal.end-requires-clause-found
end-requires-clause-found c =
    let ready = c.loop-number.invariant.ready in
    let table = ready.table in
    let index = table.by_handle in
    let first = c.in-Some.ensures.some in
    let l = index.listed first.0 c.in-Some.number first.2 in
    (l.0, l.1)

pub loop-number-preserved : goal.loop-number-preserved
loop-number-preserved c =
    let was = c.loop-number.self in
    let ready = c.loop-number.invariant.ready in
    let table = ready.table in
    let first = c.in-Some.ensures.some in
    record {
      ready = c.end.ensures.ready;
      part = one-past holder_of c.args.start.now.items c.args.by c.args.reason c.args.self.now.rows.entries c.args.self.now.sent.items was c.end.new.self
          (number_at was.handles.by_text.entries) table.by_handle c.loop-number.invariant.part c.in-Some.number first.0 first.1 first.2 c.end.ensures.gone;
      queues = c.end.ensures.queues ∙ c.loop-number.invariant.queues;
    }

pub returns : goal.returns
returns c =
    let now = c.loop-number.self in
    let ready = c.loop-number.invariant.ready in
    let table = ready.table in
    record {
      ready = ready;
      ended = none-past holder_of c.args.start.now.items c.args.by c.args.reason c.args.self.now.rows.entries c.args.self.now.sent.items now.rows.entries now.sent.items
          (number_at now.handles.by_text.entries) table.rising table.by_handle c.loop-number.invariant.part c.in_default.ensures.none;
      queues = c.loop-number.invariant.queues;
    }
