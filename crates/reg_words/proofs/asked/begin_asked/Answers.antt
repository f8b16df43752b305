use Rattle.std.proofs.Common.{◌≡◌, ap, ◌∙◌, codes, true, rules}
use Rattle.std.specs.Prelude.{Ok, Err, Some, None}
use Rattle.std.specs.Str.Parse.{ParsesUnsigned, ExplainsUnsignedError, HasUnsignedDigitsIfOk}
use Rattle.clap.specs.Words.{found_of, rows_of}
use Rattle.reg_words.specs.Moments.{IsMoment}
use Rattle.reg_words.proofs.AskedNumbers.{asked_at, moment_read, option_asked, two_moments, no_moment}
use Rattle.reg_words.proofs.asked.begin_asked.Goals as goal

pub returns-in-Ok-None : goal.returns-in-Ok-None
returns-in-Ok-None c =
    asked_at (codes "at") IsMoment _ (rows_of (found_of c.args.matches.now)) c.try_get_one.result (Ok None)
    (c.in-Ok-None.is ∙ ap Ok c.in-Ok-None.field-0-is)
    (option_asked (codes "at") IsMoment _ (λ bs r. ParsesUnsigned 64 10 bs r × ExplainsUnsignedError 10 bs r × HasUnsignedDigitsIfOk bs r)
    (found_of c.args.matches.now) c.try_get_one.result (λ u x g. moment_read _ u x g.0) c.try_get_one.ensures.none c.try_get_one.ensures.value)

pub returns-in-Ok-Some : goal.returns-in-Ok-Some
returns-in-Ok-Some c = (
  (λ set. let bad : c.is_set-is_now.result ≡ true = c.is_set-is_now.ensures.1 set in search (rules, bad)),
  asked_at (codes "at") IsMoment _ (rows_of (found_of c.args.matches.now))
      c.try_get_one.result (Ok (Some c.in-Ok-Some.moment))
      (c.in-Ok-Some.is ∙ ap Ok (c.in-Ok-Some.field-0-is ∙ ap Some c.in-Ok-Some.moment-is))
      (option_asked (codes "at") IsMoment _ (λ bs r. ParsesUnsigned 64 10 bs r × ExplainsUnsignedError 10 bs r × HasUnsignedDigitsIfOk bs r)
      (found_of c.args.matches.now) c.try_get_one.result (λ u x g. moment_read _ u x g.0) c.try_get_one.ensures.none c.try_get_one.ensures.value),
)

pub returns-in_default : goal.returns-in_default
returns-in_default c =
    let set : c.is_set-is_now.result ≡ true = search rules in
    let asked =
    asked_at (codes "at") IsMoment _ (rows_of (found_of c.args.matches.now))
    c.try_get_one.result (Ok (Some c.in-Ok-Some.moment))
    (c.in-Ok-Some.is ∙ ap Ok (c.in-Ok-Some.field-0-is ∙ ap Some c.in-Ok-Some.moment-is))
    (option_asked (codes "at") IsMoment _ (λ bs r. ParsesUnsigned 64 10 bs r × ExplainsUnsignedError 10 bs r × HasUnsignedDigitsIfOk bs r)
    (found_of c.args.matches.now) c.try_get_one.result (λ u x g. moment_read _ u x g.0) c.try_get_one.ensures.none c.try_get_one.ensures.value)
    in two_moments (rows_of (found_of c.args.matches.now)) asked.0 (c.is_set-is_now.ensures.0 set) asked.1

pub returns-in_default-2 : goal.returns-in_default-2
returns-in_default-2 c =
    let asked =
    asked_at (codes "at") IsMoment _ (rows_of (found_of c.args.matches.now)) c.try_get_one.result (Err c.in_default.field-0) c.in_default.is
    (option_asked (codes "at") IsMoment _ (λ bs r. ParsesUnsigned 64 10 bs r × ExplainsUnsignedError 10 bs r × HasUnsignedDigitsIfOk bs r)
    (found_of c.args.matches.now) c.try_get_one.result (λ u x g. moment_read _ u x g.0) c.try_get_one.ensures.none c.try_get_one.ensures.value)
    in no_moment (rows_of (found_of c.args.matches.now)) asked.0 asked.1 asked.2
