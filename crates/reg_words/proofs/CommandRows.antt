-- The table of commands is what the definition says.
use Rattle.std.proofs.Common.{◌≡◌, subst, sym}
use Rattle.clap.specs.declared.builder.arg.Arg.{Arg}
use Rattle.reg_words.specs.Internal.Commands.{IsRule}
use Rattle.reg_words.specs.Internal.CommandRows.{rule_in, rule_of_form}
use Rattle.reg_words.specs.declared.commands.ArgRow.{ArgRow}
use Rattle.reg_words.specs.declared.commands.ArgForm.{ArgForm}

-- an argument of a row's form
pub of_form : (row : ArgRow) (form : ArgForm) (arg : Arg) → row.form ≡ form → IsRule (rule_of_form form row.name.now) arg → IsRule (rule_in row) arg
of_form row form arg is has = subst (λ (f : ArgForm). IsRule (rule_of_form f row.name.now) arg) (sym is) has
