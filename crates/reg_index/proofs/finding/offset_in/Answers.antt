use Rattle.std.proofs.Common.{ap}
use Rattle.reg_records.specs.SubkeyLists.{Entry}
use Rattle.reg_index.proofs.finding.offset_in.Goals as goal

pub returns : goal.returns
returns c = λ heap offset entries is here l. ap (λ (e : Entry). e.offset) (c.entry_in.ensures heap offset entries is here l)
