use Rattle.std.proofs.Common.{rules, length, not}
use Rattle.std.proofs.lemmas.Iterator.{YieldsList-from_slice}
use Rattle.std.proofs.lemmas.Iterator.Search.{position_from_yields_List}
use Rattle.std.proofs.lemmas.List.Sums.{prefix_len-le-length}
use Rattle.std.specs.List.{position_or_len}
use Rattle.reg_script.specs.Internal.Progress.{is_feed}
use Rattle.reg_script.proofs.ScriptParts.{place-is}
use Rattle.reg_script.proofs.engine.first_feed.Goals as goal

pub returns : goal.returns
returns c =
    place-is (position_or_len is_feed c.args.bytes.now) (length c.args.bytes.now) _ _ (prefix_len-le-length (λ b. not (is_feed b)) c.args.bytes.now)
    (position_from_yields_List is_feed _ _ _ c.position.ensures.ran (YieldsList-from_slice c.args.bytes.now (cc)) (λ x b q k. search rules)) c.unwrap_or.ensures
