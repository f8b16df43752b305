use Rattle.std.proofs.Common.{◌≡◌, ◌∙◌, ap, length, rules}
use Rattle.reg_files.specs.Mended.{is_torn_block, mended_block}
use Rattle.reg_files.proofs.Fronts.{bytes_known, read_mended, opened, written}
use Rattle.reg_files.proofs.images.mended.Goals as goal

pub returns-clause-ok : goal.returns-clause-ok
returns-clause-ok g c =
    let front = c.in-Ok-read_front.front.items in
    let same = c.as_mut_slice.ensures.value in
    let long : length c.mend-is_torn.new.block ≡ length front = search rules in
    let size : c.in-Ok-read_front.front.len ≡ length front = search rules in (
      _,
      c.new.ensures ∙ read_mended _ _ front _ c.in-Ok-read_front.ensures
          (written _ c.mend-is_torn.new.block front size long ∙ (c.mend-is_torn.ensures.mended ∙ ap mended_block same)),
      opened _ _ _ _ _ _ c.args.file.now front c.mend-is_torn.result c.in-Ok-read_front.ensures (c.mend-is_torn.ensures.torn ∙ ap is_torn_block same)
          (c.warn.ensures c.args.file.now (c.as_str.ensures.value ∙ c.in-Ok.ensures)),
      bytes_known _ _ front c.in-Ok-read_front.ensures.consumed,
    )
