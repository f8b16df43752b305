use Rattle.std.proofs.Common.{ap, ◌∙◌, codes, refl}
use Rattle.std.specs.Prelude.{Ok, Err, Some, None}
use Rattle.std.specs.Str.Parse.{ParsesUnsigned, ExplainsUnsignedError, HasUnsignedDigitsIfOk}
use Rattle.clap.specs.Words.{found_of, rows_of}
use Rattle.reg_words.specs.StreamLines.{IsNumber}
use Rattle.reg_words.proofs.AskedNumbers.{asked_at, number_read, option_asked}
use Rattle.reg_words.proofs.AskedNothing.{no_run}
use Rattle.reg_words.proofs.AskedWords.{not_given}
use Rattle.reg_words.proofs.asked.run_asked.Goals as goal

pub returns-in-Ok-None : goal.returns-in-Ok-None
returns-in-Ok-None c = (
  refl,
  asked_at (codes "image") IsNumber _ (rows_of (found_of c.args.matches.now)) c.try_get_one.result (Ok None)
      (c.in-Ok-None.is ∙ ap Ok c.in-Ok-None.field-0-is)
      (option_asked (codes "image") IsNumber _ (λ bs r. ParsesUnsigned 32 10 bs r × ExplainsUnsignedError 10 bs r × HasUnsignedDigitsIfOk bs r)
      (found_of c.args.matches.now) c.try_get_one.result (λ u x g. number_read _ u x g.0) c.try_get_one.ensures.none c.try_get_one.ensures.value),
  not_given (codes "workers") (rows_of (found_of c.args.matches.now)) c.is_given.result c.if-is_given.false c.is_given.ensures,
)

pub returns-in-Ok-Some : goal.returns-in-Ok-Some
returns-in-Ok-Some c = (
  refl,
  asked_at (codes "image") IsNumber _ (rows_of (found_of c.args.matches.now)) c.try_get_one.result (Ok (Some c.in-Ok-Some.sequence))
      (c.in-Ok-Some.is ∙ ap Ok c.in-Ok-Some.field-0-is)
      (option_asked (codes "image") IsNumber _ (λ bs r. ParsesUnsigned 32 10 bs r × ExplainsUnsignedError 10 bs r × HasUnsignedDigitsIfOk bs r)
      (found_of c.args.matches.now) c.try_get_one.result (λ u x g. number_read _ u x g.0) c.try_get_one.ensures.none c.try_get_one.ensures.value),
  not_given (codes "workers") (rows_of (found_of c.args.matches.now)) c.is_given.result c.if-is_given.false c.is_given.ensures,
)

pub returns-in-Err : goal.returns-in-Err
returns-in-Err c =
    let asked =
    asked_at (codes "image") IsNumber _ (rows_of (found_of c.args.matches.now)) c.try_get_one.result (Err c.in-Err.field-0) c.in-Err.is
    (option_asked (codes "image") IsNumber _ (λ bs r. ParsesUnsigned 32 10 bs r × ExplainsUnsignedError 10 bs r × HasUnsignedDigitsIfOk bs r)
    (found_of c.args.matches.now) c.try_get_one.result (λ u x g. number_read _ u x g.0) c.try_get_one.ensures.none c.try_get_one.ensures.value)
    in no_run (rows_of (found_of c.args.matches.now)) asked.0 asked.1 asked.2
