use Rattle.std.proofs.Common.{◌≡◌, ◌∙◌, ap, rules, true, false}
use Rattle.byteorder.specs.Endian.{little_bytes}
use Rattle.reg_heap.specs.ByteWords.{splice}
use Rattle.reg_files.specs.Mended.{is_torn_block}
use Rattle.reg_files.proofs.Mending.{stays, is_mended}
use Rattle.reg_files.proofs.images.mend.Goals as goal

pub returns-then-not-is_torn-clause-mended : goal.returns-then-not-is_torn-clause-mended
returns-then-not-is_torn-clause-mended c = let whole : is_torn_block c.args.block.now ≡ false = search rules in stays _ whole

pub returns-clause-mended : goal.returns-clause-mended
returns-clause-mended c =
    let torn : is_torn_block c.args.block.now ≡ true = search rules in
    is_mended _ _ _ torn
    (c.put_number.ensures ∙ ap (λ n. splice 8 (little_bytes 4 n) c.args.block.now) c.number_at-first.ensures) c.sum_up.ensures
