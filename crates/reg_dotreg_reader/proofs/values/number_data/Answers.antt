use Rattle.std.proofs.Common.{◌∙◌}
use Rattle.reg_dotreg_reader.proofs.EntryReadings.{dword_is}
use Rattle.reg_dotreg_reader.proofs.values.number_data.Goals as goal

pub returns : goal.returns
returns c =
    dword_is c.args.digits.now c.in_ok-from_slice.field-0.items c.in_ok-number.number c.in_ok-number.ensures.value
    (c.in_ok-from_slice.ensures.items ∙ c.to_le_bytes.ensures)
