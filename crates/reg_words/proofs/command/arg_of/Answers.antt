use Rattle.reg_words.specs.Internal.CommandRows.{rule_of_form}
use Rattle.reg_words.proofs.CommandRows.{of_form}
use Rattle.reg_words.proofs.command.arg_of.Goals as goal

pub returns-in-Flag : goal.returns-in-Flag
unfolding rule_of_form
returns-in-Flag c = of_form c.args.row _ _ c.in-Flag.is c.flag_arg.ensures

pub returns-in-Letter : goal.returns-in-Letter
unfolding rule_of_form
returns-in-Letter c = of_form c.args.row _ _ c.in-Letter.is c.letter_arg.ensures

pub returns-in-Valued : goal.returns-in-Valued
unfolding rule_of_form
returns-in-Valued c = of_form c.args.row _ _ c.in-Valued.is c.valued_arg.ensures

pub returns-in-Half : goal.returns-in-Half
unfolding rule_of_form
returns-in-Half c = of_form c.args.row _ _ c.in-Half.is c.half_arg.ensures

pub returns-in-Whole : goal.returns-in-Whole
unfolding rule_of_form
returns-in-Whole c = of_form c.args.row _ _ c.in-Whole.is c.whole_arg.ensures

pub returns-in-Count : goal.returns-in-Count
unfolding rule_of_form
returns-in-Count c = of_form c.args.row _ _ c.in-Count.is c.count_arg.ensures

pub returns-in-Place : goal.returns-in-Place
unfolding rule_of_form
returns-in-Place c = of_form c.args.row _ _ c.in-Place.is c.place_arg.ensures

pub returns-in-Places : goal.returns-in-Places
unfolding rule_of_form
returns-in-Places c = of_form c.args.row _ _ c.in-Places.is c.many_arg.ensures
