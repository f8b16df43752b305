use Rattle.std.proofs.Common.{ap, ◌∙◌}
use Rattle.reg_names.specs.Names.{path_of}
use Rattle.reg_heap.specs.Edits.{above}
use Rattle.reg_calls.proofs.AnnouncedChanges.{delete-announced}
use Rattle.reg_calls.proofs.delete_key.DeleteKey.announce.Goals as goal

pub returns : goal.returns
returns c = λ end session handle path a.
    let key = c.in_ok-key.ensures ∙ ap path_of c.as_slice.ensures.value ∙ a.text.names in
    let front = c.in_ok-above.ensures ∙ c.without_last.ensures.names ∙ ap (λ t. above (path_of t)) c.as_slice-2.ensures.value ∙ ap above a.text.names in
    delete-announced end c.args.store.now session handle path c.in_ok-above.above c.in_ok-key.key front key c.one_event.result c.one_event.ensures.kinds c.one_event.ensures.ends
