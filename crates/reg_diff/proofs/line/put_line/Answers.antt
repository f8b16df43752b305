use Rattle.std.proofs.Common.{ap, []}
use Rattle.std.specs.Prelude.{flat_map}
use Rattle.std.proofs.lemmas.List.{drop_all}
use Rattle.reg_tree_text.proofs.SentTexts.{ends, exits}
use Rattle.reg_diff.specs.declared.line.Part.{Part}
use Rattle.reg_diff.specs.declared.line.Part.TheVariants.{Word}
use Rattle.reg_diff.specs.Internal.Parts.{part_text}
use Rattle.reg_diff.proofs.ChangeLines.{part-next}
use Rattle.reg_diff.proofs.line.put_line.Goals as goal

pub returns-in_err-put_part : goal.returns-in_err-put_part
returns-in_err-put_part g c =
    λ begin whole left s.
    (let blank : Part = Word (record { ref_ptr = (0, 0); now = [] }) in
    exits _ _ _ _ c.from_residual.ensures.1
    (c.in_err-put_part.ensures begin whole _
    (part-next begin _ whole c.args.parts.now c.loop-part.part-index blank left _ _ c.loop-part-test.true
    (c.loop-part.invariant begin whole left s))))

pub returns : goal.returns
returns g c =
    λ begin whole left s.
    c.settle.ensures.tells begin whole left
    (ends begin _ whole _ left _ _ (c.loop-part.invariant begin whole left s)
    (ap (flat_map part_text) (drop_all c.loop-part.part-index c.args.parts.now c.loop-part-test.false)))
