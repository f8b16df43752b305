use Rattle.std.proofs.Common.{◌≡◌, drop, map}
use Rattle.reg_words.specs.ChangeWords.{listed_text, pieces, texts_in, unit_bytes}
use Rattle.reg_words.proofs.Pieces.{onto}
use Rattle.reg_words.proofs.typed.contents.texts.Given as goal

abbrev pub invariant-loop-word : goal.invariant-loop-word
invariant-loop-word l =
    texts_in (map (λ w. w.now) l.words) ≡ onto l.bytes.items (pieces listed_text (unit_bytes 0) (map (λ w. w.now) (drop l.word-index l.words)))
