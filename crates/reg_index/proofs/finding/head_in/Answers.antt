use Rattle.reg_index.proofs.ListsRead.{head-count}
use Rattle.reg_index.proofs.finding.head_in.Goals as goal

pub returns-clause-count : goal.returns-clause-count
returns-clause-count c = λ heap cell here. head-count heap cell c.args.content.now here c.in-Ok.head.form c.in-Ok.head.count c.in-Ok.ensures.read
