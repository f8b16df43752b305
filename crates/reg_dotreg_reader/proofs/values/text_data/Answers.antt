use Rattle.std.proofs.Common.{[], ◌∷◌, ◌++◌, ap, ◌∙◌, arith}
use Rattle.std.proofs.lemmas.Bool.Decides.{nat_tests}
use Rattle.reg_dotreg_reader.specs.EntryWords.{unit_bytes}
use Rattle.reg_dotreg_reader.proofs.EntryReadings.{text_is}
use Rattle.reg_dotreg_reader.proofs.values.text_data.Goals as goal

pub returns-then-is_empty : goal.returns-then-is_empty
returns-then-is_empty c =
    text_is c.args.rest.now c.in_ok-units.units.items c.in_ok-units.behind.now c.in_ok-ended_bytes.field-0.items c.in_ok-units.ensures
    (grind (arith, nat_tests, c.is_empty.ensures, c.if-is_empty.true))
    (c.in_ok-ended_bytes.ensures ∙ ap (λ w. unit_bytes (w ++ 0 ∷ [])) c.deref.ensures.value)
