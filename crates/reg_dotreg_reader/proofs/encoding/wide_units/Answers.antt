use Rattle.std.proofs.Common.{length, sym, ap, ◌∙◌}
use Rattle.reg_dotreg_reader.proofs.CharacterUnits.{wide_odd, wide_read}
use Rattle.reg_dotreg_reader.proofs.encoding.wide_units.Goals as goal

pub returns-then-bytes-ne0 : goal.returns-then-bytes-ne0
returns-then-bytes-ne0 c = wide_odd c.args.bytes.now c.if-bytes-ne0.true

pub returns : goal.returns
returns c =
    wide_read c.args.bytes.now c.read_u16_into.new.dst c.in_ok-units.units.items c.in_ok-units.units.len
    (c.read_u16_into.auto.dst ∙ ap length c.as_mut_slice.ensures.value) (sym (ap length c.as_mut_slice.ensures.value) ∙ c.as_mut_slice.ensures.len)
    c.in_ok-units.ensures.len c.if-bytes-ne0.false c.read_u16_into.ensures
