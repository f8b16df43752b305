use Rattle.std.proofs.Common.{◌∙◌, ap}
use Rattle.clap.specs.Words.{Rule, rule_of}
use Rattle.clap.specs.declared.builder.arg.Arg.{Arg}
use Rattle.reg_words.proofs.command.valued_arg.Goals as goal

pub returns : goal.returns
returns c = record {
  rule_is = ap rule_of c.required.ensures ∙ ap (λ (r : Rule). record r { required = c.args.is_required }) c.option_arg.ensures.rule_is;
  local = ap (λ (a : Arg). a.global) c.required.ensures ∙ c.option_arg.ensures.local;
}
