use Rattle.std.proofs.Common.{◌≤◌, ◌∙◌, List, ℕ, length, subst, sym}
use Rattle.reg_names.specs.declared.TheConstants.{KEY_NAME_LIMIT}
use Rattle.reg_tree.proofs.Invariant.CellReadings.{key-exists, key-reads}
use Rattle.reg_tree.proofs.Invariant.KeyOfTree.{key_there}
use Rattle.reg_tree.proofs.KeyAnswers.RefinementOfKey.{name_told}
use Rattle.reg_tree.proofs.KeyAnswers.AnswerBounds.{name-bound}
use Rattle.reg_tree.proofs.read.name.Goals as goal

pub content-requires : goal.content-requires
content-requires c = key-exists _ _ (key_there _ _ c.requires)

pub nk_name-requires : goal.nk_name-requires
nk_name-requires c = key-reads _ _ _ (key_there _ _ c.requires) c.content.ensures

pub returns-clause-told : goal.returns-clause-told
returns-clause-told c = λ t r e.
    let read = key-reads _ _ _ (key_there _ _ c.requires) c.content.ensures in
    c.nk_name.ensures read.0 read.1 ∙ name_told _ _ t _ _ c.content.ensures read.1 r e

pub returns-clause-short : goal.returns-clause-short
returns-clause-short c =
    let read = key-reads _ _ _ (key_there _ _ c.requires) c.content.ensures in
    subst (λ (name : List ℕ). length name ≤ KEY_NAME_LIMIT) (sym (c.nk_name.ensures read.0 read.1)) (name-bound _ _ c.requires _ _ c.content.ensures read.1)
