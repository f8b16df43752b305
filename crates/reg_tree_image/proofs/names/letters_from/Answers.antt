use Rattle.std.proofs.Common.{sym, ◌∙◌, subst}
use Rattle.std.specs.Cow.{cow_slice_items}
use Rattle.reg_shape.specs.Nodes.{letters}
use Rattle.reg_tree_image.specs.Internal.NameReadings.{is_allowed_in, letters_in}
use Rattle.reg_tree_image.specs.Internal.ReaderOutcomes.{Gives}
use Rattle.reg_tree_image.proofs.Readers.LetterReadings.{odd-single, good-single}
use Rattle.reg_tree_image.proofs.names.letters_from.Goals as goal

pub returns-then-not-single : goal.returns-then-not-single
returns-then-not-single c =
    subst (λ b. Gives cow_slice_items (letters_in (is_allowed_in c.args.key) (letters b c.args.name.now)) c.wide_letters.result)
    (sym c.if-not-single.true) c.wide_letters.ensures

pub returns-then-not-are_allowed : goal.returns-then-not-are_allowed
returns-then-not-are_allowed c =
    odd-single c.args.single (is_allowed_in c.args.key) c.args.name.now c.if-not-single.false
    (sym c.are_allowed.ensures ∙ c.if-not-are_allowed.true)

pub returns : goal.returns
returns c =
    good-single c.args.single (is_allowed_in c.args.key) c.args.name.now c.if-not-single.false
    (sym c.are_allowed.ensures ∙ c.if-not-are_allowed.false)
