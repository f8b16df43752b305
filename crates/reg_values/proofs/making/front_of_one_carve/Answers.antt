use Rattle.std.proofs.Common.{◌+◌, [], length, take, arith}
use Rattle.reg_values.specs.NewValues.{all_told}
use Rattle.reg_values.proofs.ValueChanges.ValuesPlanned.{small-each, some-fit, total-within, total-some, some-taken}
use Rattle.reg_values.proofs.making.front_of_one_carve.Goals as goal

pub front_within-requires : goal.front_within-requires
front_within-requires c = small-each (all_told c.args.values.now) [] c.requires.new

pub returns-clause-fits : goal.returns-clause-fits
returns-clause-fits c =
    let values = c.args.values.now in
    let within = total-within (length values) (take c.front_within.result (all_told values)) in
    let fits = c.front_within.ensures.fits in
    omega (arith, within, fits)

pub returns-clause-longest : goal.returns-clause-longest
returns-clause-longest c = λ l.
    let values = c.args.values.now in
    let whole = total-some (length values) (take (c.front_within.result + 1) (all_told values)) (some-taken values c.front_within.result l) in
    let longest = c.front_within.ensures.longest l in
    omega (arith, whole, longest)

pub returns-clause-some : goal.returns-clause-some
returns-clause-some c = λ l.
    let few = c.requires.few in
    some-fit c.args.values.now c.front_within.result _ (small-each (all_told c.args.values.now) [] c.requires.new) l (omega (arith, few))
    c.front_within.ensures.longest
