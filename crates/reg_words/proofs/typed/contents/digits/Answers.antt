use Rattle.std.proofs.Common.{[], ◌∙◌, ◌++◌, ap, sym, append-nil}
use Rattle.reg_words.specs.ChangeWords.{digits_of}
use Rattle.reg_words.proofs.Pieces.{piece_more, piece_none, pieces_end, none_read, some_read}
use Rattle.reg_words.proofs.typed.contents.digits.Goals as goal

pub returns-in_default : goal.returns-in_default
returns-in_default c =
    sym (piece_none (λ w. w.now) c.args.words.now c.loop-word.word-index _ digits_of [] _ _ c.loop-word.invariant c.loop-word-test.true
    (none_read (λ v. v.items) c.in_ok-part.field-0 _ c.in_ok-part.ensures c.in_default.is))

pub loop-word-preserved : goal.loop-word-preserved
loop-word-preserved c =
    piece_more (λ w. w.now) c.args.words.now c.loop-word.word-index _ digits_of [] _ _ c.loop-word.invariant _ _
    c.loop-word-test.true
    (some_read (λ v. v.items) c.in_ok-part.field-0 _ c.in_ok-part.ensures c.in-Some.part c.in-Some.is)
    (c.in_ok-extend_from_slice.ensures.items ∙ ap (λ w. c.loop-word.bytes.items ++ w) c.as_slice.ensures.value)

pub returns : goal.returns
returns c =
    sym (pieces_end (λ w. w.now) c.args.words.now c.loop-word.word-index digits_of [] _ _ _ c.loop-word.invariant
    c.loop-word-test.false (sym (append-nil c.loop-word.bytes.items)))
