use Rattle.std.proofs.Common.{◌∙◌, ap}
use Rattle.std.specs.Prelude.{Some}
use Rattle.clap.specs.Words.{Rule, rule_of}
use Rattle.clap.specs.declared.builder.arg.Arg.{Arg}
use Rattle.reg_words.proofs.command.letter_arg.Goals as goal

pub returns : goal.returns
returns c = record {
  rule_is = ap rule_of c.short.ensures ∙ ap (λ (r : Rule). record r { short = Some c.args.letter }) c.flag_arg.ensures.rule_is;
  local = ap (λ (a : Arg). a.global) c.short.ensures ∙ c.flag_arg.ensures.local;
}
