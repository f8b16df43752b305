use Rattle.std.proofs.Common.{◌≡◌, None}
use Rattle.reg_names.specs.Names.{path_of}
use Rattle.reg_heap.specs.Edits.{is_under}
use Rattle.reg_calls.proofs.KeysBelow.{contents-happen}
use Rattle.reg_calls.proofs.delete_tree.announce_contents.Goals as goal

pub returns-clause-ends : goal.returns-clause-ends
returns-clause-ends c = λ by.
    let p = path_of c.args.path.now in
    let happens = contents-happen c.args.tree.now.tree c.root.ensures.tree p c.in_ok-events.events.items c.push_if.new.events.items c.push_if-2.new.events.items
    c.subkeys.result c.values.result c.in_ok-events.ensures.items (c.subkeys.ensures p c.requires.there) (c.values.ensures p c.requires.there)
    c.in_ok-push_if.ensures c.in_ok-push_if-2.ensures in
    let under : c.in_ok-new.field-0 ≡ p = c.in_ok-new.ensures in
    λ i. record { by = by; events = happens i; removes = is_under (under i); closed = None }
