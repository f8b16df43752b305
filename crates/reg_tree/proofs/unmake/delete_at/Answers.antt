use Rattle.std.proofs.Common.{subst}
use Rattle.reg_arena.specs.Arena.{heap_of}
use Rattle.reg_tree.specs.Internal.LengthChanges.{LengthsStay}
use Rattle.reg_tree.proofs.DeleteKey.SubkeyUnlinked.{listed_by, unlinked_as}
use Rattle.reg_tree.proofs.DeleteKey.DeleteKeyObligations.{free-ready, release-ring, release-some, is-deleted, lengths-stay}
use Rattle.reg_tree.proofs.DeleteKey.DeleteKeyFaults.{childless_by}
use Rattle.reg_tree.proofs.DeleteKey.KeyAbove.{same_root}
use Rattle.reg_tree.proofs.Invariant.KeyOfTree.{key_there}
use Rattle.reg_tree.proofs.unmake.delete_at.Goals as goal

pub fields-head-requires : goal.fields-head-requires
fields-head-requires c = key_there _ _ c.requires.here.0

pub unlink-requires : goal.unlink-requires
unlink-requires c =
    (c.args.key, c.requires.place.above, c.requires.place.entries, listed_by _ _ _ c.requires.place _ c.fields-head.ensures, c.requires.place.stands)

pub free_key-requires : goal.free_key-requires
free_key-requires c =
    let t = c.requires.here.0 in
    let goes = c.requires.here.2 in
    free-ready _ _ t (childless_by _ _ t goes.1) goes.0 c.fields-head.result c.fields-head.ensures (heap_of c.unlink.new.arena) c.args.moment
    (unlinked_as _ _ _ c.requires.place c.fields-head.result c.fields-head.ensures _ c.args.moment c.unlink.ensures.unlinks)

pub release-requires-clause-ring : goal.release-requires-clause-ring
release-requires-clause-ring c =
    let t = c.requires.here.0 in
    let goes = c.requires.here.2 in
    release-ring _ _ t (childless_by _ _ t goes.1) goes.0 c.fields-head.result c.fields-head.ensures (heap_of c.unlink.new.arena) c.args.moment
    (unlinked_as _ _ _ c.requires.place c.fields-head.result c.fields-head.ensures _ c.args.moment c.unlink.ensures.unlinks)
    (heap_of c.free_key.new.arena) c.free_key.ensures.gone _ c.requires.here.1

pub release-requires-clause-some : goal.release-requires-clause-some
release-requires-clause-some c =
    let t = c.requires.here.0 in
    let goes = c.requires.here.2 in
    release-some _ _ t (childless_by _ _ t goes.1) goes.0 c.fields-head.result c.fields-head.ensures (heap_of c.unlink.new.arena) c.args.moment
    (unlinked_as _ _ _ c.requires.place c.fields-head.result c.fields-head.ensures _ c.args.moment c.unlink.ensures.unlinks)
    (heap_of c.free_key.new.arena) c.free_key.ensures.gone

pub returns-clause-deleted : goal.returns-clause-deleted
returns-clause-deleted c = λ t same goes.
    is-deleted _ _ t (childless_by _ _ t goes.1) goes.0 c.fields-head.result c.fields-head.ensures (heap_of c.unlink.new.arena) c.args.moment
    (unlinked_as _ _ _ c.requires.place c.fields-head.result c.fields-head.ensures _ c.args.moment c.unlink.ensures.unlinks)
    (heap_of c.free_key.new.arena) c.free_key.ensures.gone c.release.new.arena.bytes _ _ same c.release.ensures.fewer c.release.ensures.last

pub returns-clause-lengths : goal.returns-clause-lengths
returns-clause-lengths c = λ t none.
    let u = c.requires.here.0 in
    let goes = c.requires.here.2 in
    subst (LengthsStay (heap_of c.args.arena.now) (heap_of c.release.new.arena)) (same_root _ _ u t)
    (lengths-stay _ _ u (childless_by _ _ u goes.1) goes.0 c.fields-head.result c.fields-head.ensures (heap_of c.unlink.new.arena) c.args.moment
    (unlinked_as _ _ _ c.requires.place c.fields-head.result c.fields-head.ensures _ c.args.moment c.unlink.ensures.unlinks)
    (heap_of c.free_key.new.arena) c.free_key.ensures.gone c.release.new.arena.bytes _ _ c.requires.here.1 c.release.ensures.fewer c.release.ensures.last)
