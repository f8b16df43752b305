use Rattle.std.proofs.Common.{subst}
use Rattle.reg_tree.specs.Internal.DescriptorChange.{IsLike}
use Rattle.reg_tree.proofs.Invariant.KeyOfTree.{key_there}
use Rattle.reg_tree.proofs.DescribeKey.SecurityShared.{like-there, noted-there}
use Rattle.reg_tree.proofs.security.security_like.Goals as goal

pub fields-requires : goal.fields-requires
fields-requires c =
    let r = c.requires in
    let l = subst (IsLike c.args.arena.now.bytes r.0 r.3) c.in-Some.is r.4 in
    key_there _ _ (like-there _ _ _ r.2 c.in-Some.node l.0 l.1)

pub returns-in-Some : goal.returns-in-Some
returns-in-Some c = λ root table t descriptor like.
    let l = subst (IsLike c.args.arena.now.bytes root descriptor) c.in-Some.is like in
    noted-there _ root table t l.0 c.in-Some.node.offset l.1 descriptor l.2 c.fields.result c.fields.ensures
