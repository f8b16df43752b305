use Rattle.reg_records.proofs.SubkeyListWriting.{IsListed}
use Rattle.reg_records.proofs.lists.put_list.Given as goal

abbrev pub invariant-loop-index : goal.invariant-loop-index
invariant-loop-index l = IsListed l.fn.arena l.arena l.cell l.form l.entries l.index
