use Rattle.std.proofs.Common.{refl}
use Rattle.clap.specs.Words.{found_of, rows_of}
use Rattle.reg_words.specs.CommandLines.{AsksForName}
use Rattle.reg_words.proofs.AskedChanges.{is_given, not_given, no_delete_of_both}
use Rattle.reg_words.proofs.changes.delete_of.Goals as goal

pub returns-in-None : goal.returns-in-None
returns-in-None c = (
  refl,
  c.requires.path,
  not_given (AsksForName (rows_of (found_of c.args.matches.now))) (λ v. v.items) _ c.args.name c.in-None.is c.requires.name,
  c.is_set-is_tree.ensures,
)

pub returns-then-is_tree : goal.returns-then-is_tree
returns-then-is_tree c =
    no_delete_of_both (rows_of (found_of c.args.matches.now)) c.in-Some.name.items
    (is_given (AsksForName (rows_of (found_of c.args.matches.now))) (λ v. v.items) _ c.args.name c.in-Some.name c.in-Some.is c.requires.name)
    (c.is_set-is_tree.ensures.0 c.if-is_tree.true)
