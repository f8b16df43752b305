use Rattle.std.proofs.Common.{ap, ℕ, List}
use Rattle.std.specs.Borrow.{Bor}
use Rattle.std.specs.Prelude.{flat_map, codes}
use Rattle.std.proofs.lemmas.Result.{on_ok_weaker}
use Rattle.clap.specs.declared.builder.arg.Arg.{Arg}
use Rattle.reg_words.specs.Settings.{name_of, arguments_of}
use Rattle.reg_words.specs.Manuals.{called_words, paged, place_words}
use Rattle.reg_words.specs.declared.page.TheConstants.{CALL}
use Rattle.reg_words.proofs.ToldPieces.{six, piece}
use Rattle.reg_words.proofs.page.push_called.Goals as goal

pub returns : goal.returns
unfolding called_words
returns c =
    let command = c.args.command.now in
    on_ok_weaker c.push_places.result
    (λ n. six (codes ".SS ") (paged (name_of command)) CALL.now (paged (name_of command)) (codes "\\fR\n")
    (flat_map place_words (arguments_of command)) _ _ _ _ _ _ _
    c.in_ok-push_str.ensures.bytes (piece _ _ _ _ c.in_ok-push_told.ensures (ap (λ (s : Bor (List ℕ)). paged s.now) c.get_name.ensures))
    c.in_ok-push_str-2.ensures.bytes (piece _ _ _ _ c.in_ok-push_told-2.ensures (ap (λ (s : Bor (List ℕ)). paged s.now) c.get_name-2.ensures))
    c.in_ok-push_str-3.ensures.bytes (piece _ _ _ _ n (ap (λ (xs : List Arg). flat_map place_words xs) c.get_arguments.ensures)))
    c.push_places.ensures
