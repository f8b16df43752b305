use Rattle.reg_tree.proofs.DescribeKey.DescribeKeyObligations.{key-there, join-ready, note-ready, release-ring, release-some, is-described}
use Rattle.reg_tree.proofs.DescribeKey.ReleaseKept.{release-kept, sizes-kept}
use Rattle.reg_tree.proofs.security.describe.Goals as goal

pub fields-before-requires : goal.fields-before-requires
fields-before-requires c = key-there _ c.args.key _ _ _ c.requires.here

pub join-security-requires-clause-ring : goal.join-security-requires-clause-ring
join-security-requires-clause-ring c =
    (c.args.key, c.requires.here, join-ready _ c.args.key _ _ _ c.requires.here c.fields-before.result c.fields-before.ensures)

pub note_security-requires : goal.note_security-requires
note_security-requires c =
    note-ready _ c.args.key _ _ _ c.requires.here c.fields-before.result c.fields-before.ensures _ _ _ c.join-security.ensures.joins

pub release-requires-clause-ring : goal.release-requires-clause-ring
release-requires-clause-ring c =
    release-ring _ c.args.key _ _ _ c.requires.here c.fields-before.result c.fields-before.ensures _ _ _ c.join-security.ensures.joins
    _ _ c.note_security.ensures.notes

pub release-requires-clause-some : goal.release-requires-clause-some
release-requires-clause-some c =
    release-some _ c.args.key _ _ _ c.requires.here c.fields-before.result c.fields-before.ensures _ _ _ c.join-security.ensures.joins
    _ _ c.note_security.ensures.notes

pub returns-clause-described : goal.returns-clause-described
returns-clause-described c = λ d.
    is-described _ c.args.key _ _ _ d c.fields-before.result c.fields-before.ensures _ _ _ c.join-security.ensures.joins
    _ _ c.note_security.ensures.notes c.release.new.arena.bytes _ c.release.ensures.fewer c.release.ensures.last
    (sizes-kept _ _ c.join-security.ensures.sizes) (sizes-kept _ _ c.note_security.ensures.sizes)
    (release-kept _ _ c.fields-before.result.security _ _ _
    (release-some _ c.args.key _ _ _ c.requires.here c.fields-before.result c.fields-before.ensures _ _ _ c.join-security.ensures.joins
    _ _ c.note_security.ensures.notes)
    c.release.ensures.last c.release.ensures.written c.release.ensures.beside
    (release-ring _ c.args.key _ _ _ c.requires.here c.fields-before.result c.fields-before.ensures _ _ _ c.join-security.ensures.joins
    _ _ c.note_security.ensures.notes))
