use Rattle.std.proofs.Common.{◌∙◌, ap}
use Rattle.std.specs.Prelude.{Some}
use Rattle.clap.specs.Words.{Rule, rule_of}
use Rattle.clap.specs.declared.builder.arg.Arg.{Arg}
use Rattle.reg_words.proofs.command.option_arg.Goals as goal

pub returns : goal.returns
returns c =
    let long_is = ap rule_of c.long.ensures ∙ ap (λ (r : Rule). record r { long = Some c.args.row.name.now }) c.new.ensures.rule in
    let named_is = ap rule_of c.value_name.ensures ∙ ap (λ (r : Rule). record r { value_names = 1 }) long_is in
    record {
      rule_is = ap rule_of c.help.ensures ∙ named_is;
      local =
          ap (λ (a : Arg). a.global) c.help.ensures ∙ (ap (λ (a : Arg). a.global) c.value_name.ensures
          ∙ (ap (λ (a : Arg). a.global) c.long.ensures ∙ c.new.ensures.optional.1));
    }
