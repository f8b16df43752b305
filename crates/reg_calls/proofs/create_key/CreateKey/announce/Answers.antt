use Rattle.std.proofs.Common.{sym, ap, ◌∙◌}
use Rattle.std.specs.Option.{option_copied}
use Rattle.reg_names.specs.Names.{path_of}
use Rattle.reg_calls.proofs.FoundPaths.{is-empty, not-empty}
use Rattle.reg_calls.proofs.AnnouncedChanges.{there-announced, made-announced, last-at, some-lost}
use Rattle.reg_calls.proofs.create_key.CreateKey.announce.Goals as goal

pub returns-then-is_empty : goal.returns-then-is_empty
returns-then-is_empty c = λ end session handle path a.
    let none = is-empty _ c.is_empty.result c.is_empty.ensures c.if-is_empty.true in
    there-announced end c.args.store.now session handle path c.args.self.now.mask (option_copied c.args.self.now.descriptor) (sym a.missing ∙ ap path_of none)

pub returns : goal.returns
returns c = λ end session handle path a.
    let some = not-empty _ c.is_empty.result c.is_empty.ensures c.if-is_empty.false in
    let text = c.as_slice.ensures.value in
    let last = last-at end c.args.store.now session handle path c.args.self.now.mask (option_copied c.args.self.now.descriptor) c.as_slice.result.now
    c.args.self.now.reached.missing.now (ap path_of text ∙ a.text.names) a.missing (path_of c.without_names.result.now) c.without_names.ensures.front in
    made-announced end c.args.store.now session handle path c.args.self.now.mask (option_copied c.args.self.now.descriptor)
    (some-lost c.args.self.now.reached.missing.now _ a.missing some) c.in_ok-above.above (c.in_ok-above.ensures ∙ last) c.one_event.result c.one_event.ensures.kinds c.one_event.ensures.ends
