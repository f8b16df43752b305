use Rattle.std.proofs.Common.{◌≡◌, [], drop, map}
use Rattle.reg_words.specs.ChangeWords.{digits_of, pieces, digits_in}
use Rattle.reg_words.proofs.Pieces.{onto}
use Rattle.reg_words.proofs.typed.contents.digits.Given as goal

abbrev pub invariant-loop-word : goal.invariant-loop-word
invariant-loop-word l =
    digits_in (map (λ w. w.now) l.words) ≡ onto l.bytes.items (pieces digits_of [] (map (λ w. w.now) (drop l.word-index l.words)))
