use Rattle.std.proofs.Common.{sym, ◌∙◌, arith}
use Rattle.reg_arena.specs.Cells.{cell_at}
use Rattle.reg_records.specs.SubkeyLists.{Entry}
use Rattle.reg_tree_image.specs.Internal.ListParts.{entries_in}
use Rattle.reg_tree_image.proofs.Readers.PathSteps.{key-exit, key-found, key-passed, none-left}
use Rattle.reg_tree_image.proofs.path_walk.key_among.Goals as goal

pub returns-in_err-named-clause-follows : goal.returns-in_err-named-clause-follows
returns-in_err-named-clause-follows c path =
    let entry : Entry = record { offset = c.in-Some.offset; hint = c.in-Some.ensures.next.0 } in
    key-exit (cell_at c.args.bins.now) path c.args.name.now (entries_in c.args.list) _ (entries_in c.loop-offset.rest) _ (c.loop-offset.invariant.0 path) entry
    (entries_in c.take.new.self) c.in-Some.ensures.next.1 _ _ _ c.from_residual.ensures.1 (c.in_err-named.ensures.follows path)

pub returns-then-is_key_named-clause-follows : goal.returns-then-is_key_named-clause-follows
returns-then-is_key_named-clause-follows c path =
    let entry : Entry = record { offset = c.in-Some.offset; hint = c.in-Some.ensures.next.0 } in
    key-found (cell_at c.args.bins.now) path c.args.name.now (entries_in c.args.list) _ (entries_in c.loop-offset.rest) _ (c.loop-offset.invariant.0 path) entry
    (entries_in c.take.new.self) c.in-Some.ensures.next.1 _ c.in_ok-named.named (c.in_ok-named.ensures.follows path)
    (sym c.is_key_named.ensures ∙ c.if-is_key_named.true)

pub loop-offset-preserved-else-is_key_named : goal.loop-offset-preserved-else-is_key_named
loop-offset-preserved-else-is_key_named c =
    let entry : Entry = record { offset = c.in-Some.offset; hint = c.in-Some.ensures.next.0 } in (
      λ path.
          key-passed (cell_at c.args.bins.now) path c.args.name.now (entries_in c.args.list) _ (entries_in c.loop-offset.rest) _
          (c.loop-offset.invariant.0 path) entry
          (entries_in c.take.new.self) c.in-Some.ensures.next.1 _ c.in_ok-named.named (c.in_ok-named.ensures.follows path)
          (sym c.is_key_named.ensures ∙ c.if-is_key_named.false),
      let l = c.named_key.ensures.no_more in let m = c.loop-offset.invariant.1 in omega (arith, l, m),
    )

pub loop-offset-preserved : goal.loop-offset-preserved
loop-offset-preserved c =
    let entry : Entry = record { offset = c.in-Some.offset; hint = c.in-Some.ensures.next.0 } in (
      λ path.
          key-passed (cell_at c.args.bins.now) path c.args.name.now (entries_in c.args.list) _ (entries_in c.loop-offset.rest) _
          (c.loop-offset.invariant.0 path) entry
          (entries_in c.take.new.self) c.in-Some.ensures.next.1 _ c.in_ok-named.named (c.in_ok-named.ensures.follows path)
          (sym c.is_key_named.ensures ∙ c.if-is_key_named.false),
      let l = c.named_key.ensures.no_more in let m = c.loop-offset.invariant.1 in omega (arith, l, m),
    )

pub returns-clause-follows : goal.returns-clause-follows
returns-clause-follows c path =
    none-left (cell_at c.args.bins.now) path c.args.name.now (entries_in c.args.list) _ (entries_in c.loop-offset.rest) _ (c.loop-offset.invariant.0 path)
    c.in_default.ensures.next
