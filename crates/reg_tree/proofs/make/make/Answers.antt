use Rattle.std.proofs.Common.{◌∙◌}
use Rattle.reg_tree.proofs.Invariant.CellReadings.{is_some_of}
use Rattle.reg_tree.proofs.InsertKey.InsertKeyObligations.{key_there, few_subkeys, inserts, within1, once1, own_same, ready1, parent2, security3, users_few3, grown}
use Rattle.reg_tree.proofs.InsertKey.MadeCells.{written_sizes, shared_sizes, made_keeps, made_leaves}
use Rattle.reg_tree.proofs.make.make.Goals as goal

pub fields-above-requires : goal.fields-above-requires
fields-above-requires c = key_there _ _ _ _ _ _ c.requires.grow.1

pub insert-list-requires-clause-subkeys : goal.insert-list-requires-clause-subkeys
insert-list-requires-clause-subkeys c =
    inserts _ _ _ _ _ _ c.requires.grow.1 _ c.fields-above.ensures _ c.put_nk.ensures.written.others
    (is_some_of _ _ c.put_nk.ensures.written.here) _ c.put_nk.ensures.reads c.args.place c.requires.place

pub insert-list-requires-clause-place : goal.insert-list-requires-clause-place
insert-list-requires-clause-place c =
    within1 _ _ _ _ _ _ c.requires.grow.1 _ c.fields-above.ensures _ c.put_nk.ensures.written.others
    (is_some_of _ _ c.put_nk.ensures.written.here) _ c.put_nk.ensures.reads c.args.place c.requires.place

pub insert-list-requires-clause-once : goal.insert-list-requires-clause-once
insert-list-requires-clause-once c =
    once1 _ _ _ _ _ _ c.requires.grow.1 _ c.fields-above.ensures _ c.put_nk.ensures.written.others
    (is_some_of _ _ c.put_nk.ensures.written.here) _ c.put_nk.ensures.reads

pub insert-list-requires-clause-few : goal.insert-list-requires-clause-few
insert-list-requires-clause-few c = few_subkeys _ _ _ _ _ _ c.requires.grow.1 _ c.fields-above.ensures

pub insert-list-requires-clause-ready : goal.insert-list-requires-clause-ready
insert-list-requires-clause-ready c =
    ready1 _ _ _ _ _ _ c.requires.grow.1 _ c.fields-above.ensures _ c.put_nk.ensures.written.others (is_some_of _ _ c.put_nk.ensures.written.here) _ c.put_nk.ensures.reads
    c.args.place c.requires.place c.requires.ready

pub note_subkeys-requires-clause-exists : goal.note_subkeys-requires-clause-exists
note_subkeys-requires-clause-exists c =
    parent2 _ _ _ _ _ _ c.requires.grow.1 _ c.fields-above.ensures _ c.put_nk.ensures.written.others (is_some_of _ _ c.put_nk.ensures.written.here) _ c.put_nk.ensures.reads
    _ c.insert-list.result.count c.insert-list.result.offset c.insert-list.ensures.moves

pub share-requires-clause-there : goal.share-requires-clause-there
share-requires-clause-there c =
    security3 _ _ _ _ _ _ c.requires.grow.1 _ c.fields-above.ensures _ c.put_nk.ensures.written.others (is_some_of _ _ c.put_nk.ensures.written.here) _ c.put_nk.ensures.reads
    _ c.insert-list.result.count c.insert-list.result.offset c.insert-list.ensures.moves _ c.args.moment c.note_subkeys.ensures.notes

pub share-requires-clause-few : goal.share-requires-clause-few
share-requires-clause-few c =
    users_few3 _ _ _ _ _ _ c.requires.grow.1 _ c.fields-above.ensures _ c.put_nk.ensures.written.others (is_some_of _ _ c.put_nk.ensures.written.here) _ c.put_nk.ensures.reads
    _ c.insert-list.result.count c.insert-list.result.offset c.insert-list.ensures.moves _ c.args.moment c.note_subkeys.ensures.notes
    _ (c.note_subkeys.ensures.long ∙ (c.insert-list.ensures.long ∙ c.put_nk.ensures.written.long))

pub returns-clause-grows : goal.returns-clause-grows
returns-clause-grows c = λ left m.
    grown _ _ _ _ _ _ m _ c.fields-above.ensures _ c.put_nk.ensures.written.others (is_some_of _ _ c.put_nk.ensures.written.here) _ c.put_nk.ensures.reads
    _ c.insert-list.result.count c.insert-list.result.offset c.insert-list.ensures.moves _ c.args.moment c.note_subkeys.ensures.notes
    _ c.requires.name.0 c.requires.name.1 c.new_key.ensures c.put_nk.ensures.plain c.args.place c.requires.place
    c.insert-list.ensures.subkeys c.insert-list.ensures.count
    c.share.ensures.recounts

pub returns-clause-keeps : goal.returns-clause-keeps
returns-clause-keeps c =
    let there = security3 _ _ _ _ _ _ c.requires.grow.1 _ c.fields-above.ensures _ c.put_nk.ensures.written.others (is_some_of _ _ c.put_nk.ensures.written.here) _ c.put_nk.ensures.reads
    _ c.insert-list.result.count c.insert-list.result.offset c.insert-list.ensures.moves _ c.args.moment c.note_subkeys.ensures.notes in
    made_keeps _ _ _ _ _ (written_sizes _ _ c.args.key _ c.requires.room.exists c.put_nk.ensures.written) c.insert-list.ensures.keeps c.note_subkeys.ensures.sizes
    (shared_sizes _ _ c.fields-above.result.security _ there c.share.ensures.written)

pub returns-clause-leaves : goal.returns-clause-leaves
returns-clause-leaves c =
    let owned = own_same _ _ _ _ _ _ c.requires.grow.1 _ c.fields-above.ensures _ c.put_nk.ensures.written.others
    (is_some_of _ _ c.put_nk.ensures.written.here) _ c.put_nk.ensures.reads in
    let there = security3 _ _ _ _ _ _ c.requires.grow.1 _ c.fields-above.ensures _ c.put_nk.ensures.written.others (is_some_of _ _ c.put_nk.ensures.written.here) _ c.put_nk.ensures.reads
    _ c.insert-list.result.count c.insert-list.result.offset c.insert-list.ensures.moves _ c.args.moment c.note_subkeys.ensures.notes in
    made_leaves _ _ _ _ _ (written_sizes _ _ c.args.key _ c.requires.room.exists c.put_nk.ensures.written) c.insert-list.ensures.keeps c.note_subkeys.ensures.sizes
    (shared_sizes _ _ c.fields-above.result.security _ there c.share.ensures.written)
    c.args.parent _ c.fields-above.ensures owned _ _ c.insert-list.ensures.moves c.insert-list.ensures.stay
