use Rattle.reg_shape.specs.Nodes.{lists_of}
use Rattle.reg_index.proofs.SubkeysBehind.{place-is}
use Rattle.reg_index.proofs.SubkeysOpening.{lists-has, lists-long}
use Rattle.reg_index.proofs.finding.place_at.Goals as goal

pub place_of-requires : goal.place_of-requires
place_of-requires c =
    let s = c.requires.subkeys.1 in
    (lists_of s.index, lists-has _ _ _ _ s, lists-long _ _ _ _ s c.args.index c.requires.index)

pub returns : goal.returns
returns c =
    let s = c.requires.subkeys.1 in
    let p = c.place_of.ensures (lists_of s.index) (lists-has _ _ _ _ s) (lists-long _ _ _ _ s c.args.index c.requires.index) in
    place-is _ c.args.list.count c.args.list.offset _ s c.place_of.result c.args.index p.0 p.1
