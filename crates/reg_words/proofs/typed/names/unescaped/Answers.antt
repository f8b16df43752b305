use Rattle.reg_words.proofs.EscapedWords.{word_ends}
use Rattle.reg_words.proofs.typed.names.unescaped.Goals as goal

pub returns : goal.returns
returns c = word_ends _ _ c.loop-byte.rest.now c.loop-byte.invariant c.in_default.ensures
