use Rattle.std.proofs.Common.{length, sym, ◌∙◌, arith}
use Rattle.std.specs.Cow.{cow_slice_items}
use Rattle.reg_tree_image.specs.Internal.NameReadings.{is_allowed_in}
use Rattle.reg_tree_image.proofs.Readers.LetterReadings.{odd-name, long-name, letters-left, odd-test}
use Rattle.reg_tree_image.proofs.names.name_from.Goals as goal
use Rattle.reg_tree_image.proofs.names.name_from.Goals.{else-not-single-via-then-not-single+else-name-ne0, else-not-single-via-else-not-single}
use Rattle.std.proofs.lemmas.Bool.{false≢true}

pub returns-then-name-ne0 : goal.returns-then-name-ne0
returns-then-name-ne0 c =
    odd-name c.args.single c.args.most (is_allowed_in c.args.key) c.args.name.now c.if-not-single.true (odd-test (length c.args.name.now) c.if-name-ne0.true)

pub returns-then-count-most : goal.returns-then-count-most
returns-then-count-most c =
    long-name c.args.single c.args.most (is_allowed_in c.args.key) c.args.name.now
    (elim c.else-not-single.branch [
      | else-not-single-via-then-not-single+else-name-ne0 w ↦ (λ _. w.if-name-ne0.false)
      | else-not-single-via-else-not-single w ↦ (λ s. absurd (false≢true (sym s ∙ w.if-not-single.false)))
    ])
    (let n = c.letter_count-count.ensures in let m = c.if-count-most.true in omega (arith, n, m))

pub returns : goal.returns
returns c =
    letters-left c.args.single c.args.most (is_allowed_in c.args.key) c.args.name.now cow_slice_items c.letters_from.result
    (elim c.else-not-single.branch [
      | else-not-single-via-then-not-single+else-name-ne0 w ↦ (λ _. w.if-name-ne0.false)
      | else-not-single-via-else-not-single w ↦ (λ s. absurd (false≢true (sym s ∙ w.if-not-single.false)))
    ])
    (let n = c.letter_count-count.ensures in let m = c.if-count-most.false in omega (arith, n, m))
    c.letters_from.ensures
