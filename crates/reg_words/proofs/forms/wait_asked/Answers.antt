use Rattle.std.proofs.Common.{ap, ◌∙◌, codes, inr}
use Rattle.std.specs.Prelude.{Ok, Err, Some, None}
use Rattle.std.specs.Str.Parse.{ParsesUnsigned, ExplainsUnsignedError, HasUnsignedDigitsIfOk}
use Rattle.clap.specs.Words.{found_of, rows_of}
use Rattle.reg_words.specs.StreamLines.{IsNumber}
use Rattle.reg_words.proofs.AskedNumbers.{asked_at, number_read, option_asked}
use Rattle.reg_words.proofs.AskedForms.{waits_none, no_wait}
use Rattle.reg_words.proofs.forms.wait_asked.Goals as goal

pub returns-in-Ok-None : goal.returns-in-Ok-None
returns-in-Ok-None c =
    waits_none (rows_of (found_of c.args.matches.now))
    (asked_at (codes "wait") IsNumber _ (rows_of (found_of c.args.matches.now)) c.try_get_one.result (Ok None)
    (c.in-Ok-None.is ∙ ap Ok c.in-Ok-None.field-0-is)
    (option_asked (codes "wait") IsNumber _ (λ bs r. ParsesUnsigned 32 10 bs r × ExplainsUnsignedError 10 bs r × HasUnsignedDigitsIfOk bs r)
    (found_of c.args.matches.now) c.try_get_one.result (λ u x g. number_read _ u x g.0) c.try_get_one.ensures.none c.try_get_one.ensures.value))

pub returns-in-Ok-Some : goal.returns-in-Ok-Some
returns-in-Ok-Some c =
    inr (asked_at (codes "wait") IsNumber _ (rows_of (found_of c.args.matches.now)) c.try_get_one.result (Ok (Some c.in-Ok-Some.seconds))
    (c.in-Ok-Some.is ∙ ap Ok c.in-Ok-Some.field-0-is)
    (option_asked (codes "wait") IsNumber _ (λ bs r. ParsesUnsigned 32 10 bs r × ExplainsUnsignedError 10 bs r × HasUnsignedDigitsIfOk bs r)
    (found_of c.args.matches.now) c.try_get_one.result (λ u x g. number_read _ u x g.0) c.try_get_one.ensures.none c.try_get_one.ensures.value))

pub returns-in-Err : goal.returns-in-Err
returns-in-Err c =
    let asked =
    asked_at (codes "wait") IsNumber _ (rows_of (found_of c.args.matches.now)) c.try_get_one.result (Err c.in-Err.field-0) c.in-Err.is
    (option_asked (codes "wait") IsNumber _ (λ bs r. ParsesUnsigned 32 10 bs r × ExplainsUnsignedError 10 bs r × HasUnsignedDigitsIfOk bs r)
    (found_of c.args.matches.now) c.try_get_one.result (λ u x g. number_read _ u x g.0) c.try_get_one.ensures.none c.try_get_one.ensures.value)
    in no_wait (rows_of (found_of c.args.matches.now)) asked.0 asked.1 asked.2
