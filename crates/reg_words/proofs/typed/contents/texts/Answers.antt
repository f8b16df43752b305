use Rattle.std.proofs.Common.{sym}
use Rattle.reg_words.specs.ChangeWords.{listed_text, unit_bytes}
use Rattle.reg_words.proofs.Pieces.{no_text, some_text, piece_more, piece_none, pieces_end}
use Rattle.reg_words.proofs.typed.contents.texts.Goals as goal

pub returns-then-is_empty : goal.returns-then-is_empty
returns-then-is_empty c =
    sym (piece_none (λ w. w.now) c.args.words.now c.loop-word.word-index _ listed_text (unit_bytes 0) _ _ c.loop-word.invariant
    c.loop-word-test.true (no_text _ _ c.is_empty.ensures c.if-is_empty.true))

pub loop-word-preserved : goal.loop-word-preserved
loop-word-preserved c =
    piece_more (λ w. w.now) c.args.words.now c.loop-word.word-index _ listed_text (unit_bytes 0) _ _ c.loop-word.invariant _ _
    c.loop-word-test.true (some_text _ _ c.is_empty.ensures c.if-is_empty.false) c.in_ok-push_text.ensures

pub returns : goal.returns
returns c =
    sym (pieces_end (λ w. w.now) c.args.words.now c.loop-word.word-index listed_text (unit_bytes 0) _ _ _ c.loop-word.invariant
    c.loop-word-test.false c.in_ok-push_unit.ensures)
