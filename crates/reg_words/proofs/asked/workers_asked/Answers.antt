use Rattle.std.proofs.Common.{ap, ◌∙◌, codes, refl}
use Rattle.std.specs.Prelude.{Ok, Err, Some, None}
use Rattle.std.specs.Str.Parse.{ParsesUnsigned, ExplainsUnsignedError, HasUnsignedDigitsIfOk}
use Rattle.clap.specs.Words.{found_of, rows_of}
use Rattle.reg_words.proofs.AskedNumbers.{IsByte, asked_at, count_read, inside, outside, no_byte, option_asked}
use Rattle.reg_words.proofs.AskedNothing.{no_workers, none_of_both}
use Rattle.reg_words.proofs.AskedWords.{none_given, not_given}
use Rattle.reg_words.proofs.asked.workers_asked.Goals as goal

pub returns-then-is_given : goal.returns-then-is_given
returns-then-is_given c =
    none_of_both (codes "run", rows_of (found_of c.args.matches.now)) (refl, c.is_given.ensures.0 c.if-is_given.true, c.requires)

pub returns-in-Some : goal.returns-in-Some
returns-in-Some c =
    let asked =
    asked_at (codes "workers") IsByte _ (rows_of (found_of c.args.matches.now)) c.try_get_one.result (Ok (Some c.in-Ok-Some.number))
    (c.in-Ok-Some.is ∙ ap Ok c.in-Ok-Some.field-0-is)
    (option_asked (codes "workers") IsByte _ (λ bs r. ParsesUnsigned 8 10 bs r × ExplainsUnsignedError 10 bs r × HasUnsignedDigitsIfOk bs r)
    (found_of c.args.matches.now) c.try_get_one.result (λ u x g. count_read _ u x g.0) c.try_get_one.ensures.none c.try_get_one.ensures.value)
    in (
      refl,
      not_given (codes "image") (rows_of (found_of c.args.matches.now)) c.is_given.result c.if-is_given.false c.is_given.ensures,
      (
        asked.0,
        asked.1,
        inside asked.0 c.in-Ok-Some.number c.in-Some.count.number asked.2 c.in-Some.ensures c.in-Some.count.some
            c.in-Some.count.few,
      ),
    )

pub returns-in-None : goal.returns-in-None
returns-in-None c =
    let asked =
    asked_at (codes "workers") IsByte _ (rows_of (found_of c.args.matches.now)) c.try_get_one.result (Ok (Some c.in-Ok-Some.number))
    (c.in-Ok-Some.is ∙ ap Ok c.in-Ok-Some.field-0-is)
    (option_asked (codes "workers") IsByte _ (λ bs r. ParsesUnsigned 8 10 bs r × ExplainsUnsignedError 10 bs r × HasUnsignedDigitsIfOk bs r)
    (found_of c.args.matches.now) c.try_get_one.result (λ u x g. count_read _ u x g.0) c.try_get_one.ensures.none c.try_get_one.ensures.value)
    in no_workers (rows_of (found_of c.args.matches.now)) asked.0 asked.1 (outside asked.0 c.in-Ok-Some.number asked.2 c.in-None.ensures)

pub returns-in-Ok-None : goal.returns-in-Ok-None
returns-in-Ok-None c =
    let asked =
    asked_at (codes "workers") IsByte _ (rows_of (found_of c.args.matches.now)) c.try_get_one.result (Ok None)
    (c.in-Ok-None.is ∙ ap Ok c.in-Ok-None.field-0-is)
    (option_asked (codes "workers") IsByte _ (λ bs r. ParsesUnsigned 8 10 bs r × ExplainsUnsignedError 10 bs r × HasUnsignedDigitsIfOk bs r)
    (found_of c.args.matches.now) c.try_get_one.result (λ u x g. count_read _ u x g.0) c.try_get_one.ensures.none c.try_get_one.ensures.value)
    in absurd (none_given (codes "workers") (rows_of (found_of c.args.matches.now)) c.requires asked)

pub returns-in-Err : goal.returns-in-Err
returns-in-Err c =
    let asked =
    asked_at (codes "workers") IsByte _ (rows_of (found_of c.args.matches.now)) c.try_get_one.result (Err c.in-Err.field-0) c.in-Err.is
    (option_asked (codes "workers") IsByte _ (λ bs r. ParsesUnsigned 8 10 bs r × ExplainsUnsignedError 10 bs r × HasUnsignedDigitsIfOk bs r)
    (found_of c.args.matches.now) c.try_get_one.result (λ u x g. count_read _ u x g.0) c.try_get_one.ensures.none c.try_get_one.ensures.value)
    in no_workers (rows_of (found_of c.args.matches.now)) asked.0 asked.1 (no_byte asked.0 asked.2)
