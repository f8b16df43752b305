use Rattle.std.proofs.Common.{sym, ap, not, ◌∙◌}
use Rattle.std.specs.Prelude.{Some, None}
use Rattle.reg_heap.specs.Edits.{values_at}
use Rattle.reg_heap.specs.Paths.{Member}
use Rattle.reg_tree.proofs.ValueChange.ValueAtPlace.{index_within, unnamed}
use Rattle.reg_diff.specs.Internal.Parts.{member_of}
use Rattle.reg_diff.proofs.ValueLines.{named-found}
use Rattle.reg_diff.proofs.SideSteps.{resolved-some}
use Rattle.reg_dotreg_writer.specs.Changes.{is_kept}
use Rattle.reg_dotreg_writer.proofs.ToldValues.{none-told, there-told}
use Rattle.reg_dotreg_writer.proofs.telling.is_told.Goals as goal

pub returns-in_default : goal.returns-in_default
returns-in_default c = λ q r. none-told _ q c.args.found c.args.side (member_of c.args.value.now) _ r c.in_default.is c.is_new.ensures

pub index_near-requires : goal.index_near-requires
index_near-requires c =
    let r = resolved-some _ c.requires.0 _ _ c.requires.1 c.in-Some.is in (c.requires.0, r.0)

pub returns-in_default-index_near : goal.returns-in_default-index_near
returns-in_default-index_near c =
    λ q r.
    (let s = resolved-some _ q _ _ r c.in-Some.is in
    there-told _ c.args.side (member_of c.args.value.now) None s.1
    (unnamed c.args.value.now.name.now (values_at c.args.other.now.tree q)
    (sym (c.index_near.ensures q s.0) ∙ c.in_default-index_near.is)))

pub read_value-requires : goal.read_value-requires
read_value-requires c =
    let r = resolved-some _ c.requires.0 _ _ c.requires.1 c.in-Some.is in
    (c.requires.0, r.0, index_within _ _ _ (sym (c.index_near.ensures c.requires.0 r.0) ∙ c.in-Some-index_near.is))

pub returns : goal.returns
returns c =
    λ q r.
    (let s = resolved-some _ q _ _ r c.in-Some.is in
    let f = named-found c.args.value.now.name.now (values_at c.args.other.now.tree q) _ (sym (c.index_near.ensures q s.0) ∙ c.in-Some-index_near.is) in
    ap not (c.is_kept.ensures ∙ ap (λ (m : Member). is_kept (Some m) c.args.side (member_of c.args.value.now)) (c.in_ok-like.ensures q s.0 f.0 f.1))
    ∙ there-told _ c.args.side (member_of c.args.value.now) (Some f.0) s.1 f.2)
