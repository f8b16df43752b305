use Rattle.std.proofs.Common.{rules, length, not}
use Rattle.std.proofs.lemmas.Iterator.{YieldsList-from_slice}
use Rattle.std.proofs.lemmas.Iterator.Search.{position_from_yields_List}
use Rattle.std.proofs.lemmas.List.Sums.{prefix_len-le-length}
use Rattle.std.specs.List.{position_or_len}
use Rattle.reg_names.specs.Names.{is_backslash}
use Rattle.reg_names.proofs.PathParts.{unwrapped}
use Rattle.reg_names.proofs.first_length.Goals as goal

pub returns : goal.returns
returns c =
    unwrapped (position_or_len is_backslash c.args.path.now) (length c.args.path.now) _ _ (prefix_len-le-length (λ b. not (is_backslash b)) c.args.path.now)
    (position_from_yields_List is_backslash _ _ _ c.position.ensures.ran (YieldsList-from_slice c.args.path.now (cc)) (λ x b q k. search rules)) c.unwrap_or.ensures
