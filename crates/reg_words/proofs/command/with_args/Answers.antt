use Rattle.std.proofs.Common.{List, subst, sym}
use Rattle.std.proofs.lemmas.List.Sums.{fold_more}
use Rattle.std.proofs.lemmas.List.{take_all}
use Rattle.clap.specs.Words.{App, with_rule}
use Rattle.reg_words.specs.Internal.Commands.{IsMade}
use Rattle.reg_words.specs.Internal.CommandRows.{rule_in, with_rules}
use Rattle.reg_words.specs.declared.commands.ArgRow.{ArgRow}
use Rattle.reg_words.proofs.command.with_args.Goals as goal

pub loop-row-init : goal.loop-row-init
loop-row-init c = λ app is. is

pub loop-row-preserved : goal.loop-row-preserved
loop-row-preserved c = λ app is.
    let more = fold_more (λ (made : App) row. with_rule made (rule_in row)) app c.args.rows.now c.loop-row.row-index _ c.loop-row-test.true in
    subst (λ (a : App). IsMade a c.arg-command.result) (sym more) (c.arg-command.ensures _ _ (c.loop-row.invariant app is) c.arg_of.ensures)

pub returns : goal.returns
returns c = λ app is.
    subst
    (λ (rows : List ArgRow). IsMade (with_rules app rows) c.loop-row.command)
    (take_all c.loop-row.row-index c.args.rows.now c.loop-row-test.false)
    (c.loop-row.invariant app is)
