use Rattle.reg_find.proofs.FoundLines.{data_searched}
use Rattle.reg_find.proofs.search.is_value_match.Goals as goal

pub returns-clause-answer : goal.returns-clause-answer
returns-clause-answer g c =
    λ p at member here t.
    data_searched (g.P.Pattern.matches c.args.pattern.now) c.args.scope member _ _ c.is_match_in.ensures.answer c.if-is_match_in.false t.name_is
    _ c.is_match_in.ensures.same _ (c.is_data_match.ensures.answer p at member here t.kind_is)
