use Rattle.std.proofs.Common.{inr}
use Rattle.clap.specs.Words.{found_of, rows_of}
use Rattle.reg_words.proofs.AskedForms.{unset_so}
use Rattle.reg_words.proofs.AskedNothing.{check_streamed, no_check}
use Rattle.reg_words.proofs.asked.check_of_stream.Goals as goal

pub returns-then-is_set : goal.returns-then-is_set
returns-then-is_set c = no_check (rows_of (found_of c.args.matches.now)) c.requires (inr (c.is_set.ensures.0 c.if-is_set.true))

pub returns : goal.returns
returns c =
    check_streamed (rows_of (found_of c.args.matches.now)) c.stream_asked.result
    (c.requires, unset_so c.is_set.result c.if-is_set.false c.is_set.ensures) c.stream_asked.ensures
