use Rattle.std.proofs.Common.{◌≡◌, ◌<◌, ◌∙◌, sym, false, IsSome, subst}
use Rattle.reg_arena.specs.Cells.{cell_at}
use Rattle.reg_records.specs.KeyValues.{KeyValueRecord}
use Rattle.reg_records.specs.BigData.{is_inline}
use Rattle.reg_records.proofs.KeyValueCodec.{vk-open}
use Rattle.reg_written.proofs.ValuesRead.{same-value, value-at}
use Rattle.reg_written.proofs.values.is_written_at.Goals as goal

pub is_written_value-requires-clause-long : goal.is_written_value-requires-clause-long
is_written_value-requires-clause-long c = (vk-open c.content-cell.result.now _ c.in-Ok.ensures).long

pub is_written_value-requires-clause-big : goal.is_written_value-requires-clause-big
is_written_value-requires-clause-big c =
    let heap = cell_at c.args.bins.now in
    let s = same-value heap c.args.key.now c.args.offset c.requires c.content-cell.result.now c.content-cell.ensures _ c.in-Ok.ensures in
    subst (λ (v : KeyValueRecord). is_inline v.fields.size ≡ false → 16344 < v.fields.size → IsSome (heap v.fields.offset)) s c.requires.big

pub returns-in-Ok : goal.returns-in-Ok
returns-in-Ok c =
    let heap = cell_at c.args.bins.now in
    c.is_written_value.ensures ∙ sym (value-at heap c.args.key.now c.args.offset c.requires c.content-cell.result.now c.content-cell.ensures _ c.in-Ok.ensures)
