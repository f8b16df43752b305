use Rattle.std.proofs.Common.{refl, length, arith}
use Rattle.reg_index.proofs.ListsExchanged.{under-fits, under-root}
use Rattle.reg_index.proofs.finding.leaf_in.Goals as goal

pub entry_at-requires : goal.entry_at-requires
entry_at-requires c =
    let s = c.requires.root in
    under-fits s.0 s.1 c.args.number (length s.2) s.2 s.3 s.6 refl (omega (arith, s.5)) c.args.root.now s.4

pub returns : goal.returns
returns c = λ heap offset lists h is several within.
    under-root heap offset c.args.number (length lists) lists h within refl (omega (arith, several)) c.args.root.now is c.entry_at.result c.entry_at.ensures
