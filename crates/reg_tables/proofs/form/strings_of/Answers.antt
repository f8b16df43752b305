use Rattle.std.proofs.Common.{ℕ, String, Vec, Global, sym, ap, ◌∙◌}
use Rattle.std.specs.Option.{option_map}
use Rattle.reg_tables.proofs.UnitParts.{texts_of, strings-formed}
use Rattle.reg_tables.proofs.form.strings_of.Goals as goal

pub returns-in-Some-2 : goal.returns-in-Some-2
returns-in-Some-2 c =
    let units = sym (ap (option_map (λ (v : Vec ℕ Global). v.items)) c.in-Some.is) ∙ c.in_ok-units.ensures in
    let texts = sym (ap (option_map (λ (v : Vec (String Global) Global). texts_of v.items)) c.in-Some-2.is) ∙ c.in_ok-texts.ensures in
    strings-formed c.args.bytes.now c.in-Some.units.items c.deref.result.now c.in-Some-2.texts.items units c.deref.ensures.value texts
