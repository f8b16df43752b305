use Rattle.std.proofs.Common.{arith, ap}
use Rattle.reg_heap.specs.ByteWords.{half}
use Rattle.std.proofs.lemmas.Bool.Decides.{nat_tests}
use Rattle.reg_written.proofs.SecurityReading.{content-long, held-is}
use Rattle.reg_written.proofs.securities.is_plain.Goals as goal

pub half_at-requires : goal.half_at-requires
half_at-requires c = omega (arith, content-long _ _ _ c.requires c.content.ensures)

pub returns : goal.returns
returns c =
    let same = ap (λ bytes. half bytes 2) (held-is _ _ _ c.requires c.content.ensures) in
    grind (arith, nat_tests, same, c.half_at.ensures)
