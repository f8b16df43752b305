-- What stands in the table of commands, as `clap` is given it (this project's own).
use Rattle.std.specs.Prelude.{List}
use Rattle.std.specs.List.{fold}
use Rattle.clap.specs.Words.{App, Rule, Text, new_app, with_rule}
use Rattle.reg_words.specs.CommandShapes.{flag_rule, short_rule, valued_rule, half_rule, whole_rule, count_rule, place_rule, many_rule}
use Rattle.reg_words.specs.declared.commands.ArgRow.{ArgRow}
use Rattle.reg_words.specs.declared.commands.CommandRow.{CommandRow}
use Rattle.reg_words.specs.declared.commands.ArgForm.{ArgForm}
use Rattle.reg_words.specs.declared.commands.ArgForm.TheVariants.{Flag, Letter, Valued, Half, Whole, Count, Place, Places}

-- an argument of that form and name
unfoldable pub rule_of_form : ArgForm → Text → Rule
rule_of_form Flag name = flag_rule name
rule_of_form (Letter letter) name = short_rule name letter
rule_of_form (Valued is_required) name = valued_rule name is_required
rule_of_form Half name = half_rule name
rule_of_form Whole name = whole_rule name
rule_of_form Count name = count_rule name
rule_of_form (Place is_required) name = place_rule name is_required
rule_of_form (Places is_required) name = many_rule name is_required

-- the argument of a row
abbrev pub rule_in : ArgRow → Rule
rule_in row = rule_of_form row.form row.name.now

-- a command with the arguments of these rows more
abbrev pub with_rules : App → List ArgRow → App
with_rules app rows = fold (λ made row. with_rule made (rule_in row)) app rows

-- the command of a row
abbrev pub app_in : CommandRow → App
app_in row = with_rules (new_app row.name.now) row.args.now
