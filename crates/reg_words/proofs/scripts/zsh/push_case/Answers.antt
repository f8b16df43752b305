use Rattle.std.proofs.Common.{ap, ℕ, List}
use Rattle.std.specs.Borrow.{Bor}
use Rattle.std.specs.Prelude.{flat_map}
use Rattle.std.proofs.lemmas.Result.{on_ok_weaker}
use Rattle.clap.specs.declared.builder.arg.Arg.{Arg}
use Rattle.reg_words.specs.Settings.{name_of, arguments_of}
use Rattle.reg_words.specs.Completions.{zsh_case, zsh_option}
use Rattle.reg_words.specs.declared.scripts.zsh.TheConstants.{CASE, OPTIONS, LAST}
use Rattle.reg_words.proofs.ToldPieces.{five, piece, pushed}
use Rattle.reg_words.proofs.scripts.zsh.push_case.Goals as goal

pub returns : goal.returns
unfolding zsh_case
returns c =
    on_ok_weaker c.push_str-4.result
    (λ n. five CASE.now (name_of c.args.command.now) OPTIONS.now (flat_map zsh_option (arguments_of c.args.command.now)) LAST.now
    _ _ _ _ _ _ c.in_ok-push_str.ensures.bytes (piece _ _ _ _ c.in_ok-push_str-2.ensures.bytes (ap (λ (s : Bor (List ℕ)). s.now) c.get_name.ensures))
    c.in_ok-push_str-3.ensures.bytes
    (piece _ _ _ _ c.in_ok-push_options.ensures (ap (λ (xs : List Arg). flat_map zsh_option xs) c.get_arguments.ensures)) n)
    (pushed c.push_str-4.result _ _ _ c.push_str-4.ensures.bytes)
