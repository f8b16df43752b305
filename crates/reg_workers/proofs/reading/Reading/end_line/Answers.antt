use Rattle.std.proofs.Common.{List, ℕ, [], ◌∷◌, ◌++◌, refl, subst}
use Rattle.reg_script.proofs.ScriptHalts.{one_more_line}
use Rattle.reg_workers.specs.Internal.Plans.{IsPlanOf}
use Rattle.reg_workers.proofs.reading.Reading.end_line.Goals as goal

pub returns : goal.returns
returns c = record {
  line = c.clear.ensures.items;
  lines = λ few. one_more_line c.args.self.now.lines c.args.self.now.lines _ few c.saturating_add-self.ensures refl;
  plan = λ hives lines plan.
      subst (λ (w : List ℕ). IsPlanOf hives (lines ++ w ∷ []) c.add_line.new.self) c.as_slice.ensures.value (c.in_ok-add_line.ensures hives lines plan);
}
