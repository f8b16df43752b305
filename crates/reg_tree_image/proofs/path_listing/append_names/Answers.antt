use Rattle.std.proofs.Common.{List, ℕ, [], ◌∷◌, ◌++◌, ap, ◌∙◌, arith}
use Rattle.reg_arena.specs.Cells.{cell_at}
use Rattle.reg_records.specs.SubkeyLists.{Entry}
use Rattle.reg_tree_image.specs.KeysAtPaths.{names_in}
use Rattle.reg_tree_image.specs.Internal.ListParts.{entries_in}
use Rattle.reg_tree_image.proofs.Readers.NamesListed.{key-exit, key-listed, none-left}
use Rattle.reg_tree_image.proofs.path_listing.append_names.Goals as goal

pub returns-in_err-named-clause-follows : goal.returns-in_err-named-clause-follows
returns-in_err-named-clause-follows c path =
    let entry : Entry = record { offset = c.in-Some.offset; hint = c.in-Some.ensures.next.0 } in
    key-exit (cell_at c.args.bins.now) path (names_in c.args.names.now.items) (entries_in c.args.list) _ (names_in c.loop-offset.names.items)
    (entries_in c.loop-offset.rest) _ (c.loop-offset.invariant.0 path) entry
    (entries_in c.take.new.self) c.in-Some.ensures.next.1 _ _ _ _ c.from_residual.ensures.1 (c.in_err-named.ensures.follows path)

pub loop-offset-preserved-in_ok-push_name : goal.loop-offset-preserved-in_ok-push_name
loop-offset-preserved-in_ok-push_name c =
    let entry : Entry = record { offset = c.in-Some.offset; hint = c.in-Some.ensures.next.0 } in (
      λ path.
          key-listed (cell_at c.args.bins.now) path (names_in c.args.names.now.items) (entries_in c.args.list) _ (names_in c.loop-offset.names.items)
          (entries_in c.loop-offset.rest) _ (c.loop-offset.invariant.0 path) entry
          (entries_in c.take.new.self) c.in-Some.ensures.next.1 _ c.in_ok-named.named (c.in_ok-named.ensures.follows path) (names_in c.push_name.new.names.items)
          (c.in_ok-push_name.ensures.ok ∙ ap (λ (name : List ℕ). names_in c.loop-offset.names.items ++ name ∷ []) c.as_slice.ensures.value),
      let l = c.named_key.ensures.no_more in let m = c.loop-offset.invariant.1 in omega (arith, l, m),
    )

pub loop-offset-preserved : goal.loop-offset-preserved
loop-offset-preserved c =
    let entry : Entry = record { offset = c.in-Some.offset; hint = c.in-Some.ensures.next.0 } in (
      λ path.
          key-listed (cell_at c.args.bins.now) path (names_in c.args.names.now.items) (entries_in c.args.list) _ (names_in c.loop-offset.names.items)
          (entries_in c.loop-offset.rest) _ (c.loop-offset.invariant.0 path) entry
          (entries_in c.take.new.self) c.in-Some.ensures.next.1 _ c.in_ok-named.named (c.in_ok-named.ensures.follows path) (names_in c.push_name.new.names.items)
          (c.in_ok-push_name.ensures.ok ∙ ap (λ (name : List ℕ). names_in c.loop-offset.names.items ++ name ∷ []) c.as_slice.ensures.value),
      let l = c.named_key.ensures.no_more in let m = c.loop-offset.invariant.1 in omega (arith, l, m),
    )

pub returns-clause-follows : goal.returns-clause-follows
returns-clause-follows c path =
    none-left (cell_at c.args.bins.now) path (names_in c.args.names.now.items) (entries_in c.args.list) _ (names_in c.loop-offset.names.items)
    (entries_in c.loop-offset.rest) _ (c.loop-offset.invariant.0 path)
    c.in_default.ensures.next
