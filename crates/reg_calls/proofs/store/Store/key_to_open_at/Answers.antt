use Rattle.std.proofs.Common.{arith}
use Rattle.std.proofs.lemmas.Grind.{common_steps}
use Rattle.std.proofs.lemmas.Bool.Decides.{nat_tests}
use Rattle.reg_calls.proofs.RefusalTests.{open-refused, open-causes, create-refused, create-causes}
use Rattle.reg_calls.proofs.store.Store.key_to_open_at.Goals as goal

pub returns-in-Err-clause-open : goal.returns-in-Err-clause-open
returns-in-Err-clause-open c = λ path mask k bad. open-refused c.args.end c.args.self.now c.args.session c.args.handle k path mask c.in-Err.status c.in-Err.ensures

pub returns-in-Err-clause-create : goal.returns-in-Err-clause-create
returns-in-Err-clause-create c = λ path mask k given bad.
    create-refused c.args.end c.args.self.now c.args.session c.args.handle k path mask given c.in-Err.status c.in-Err.ensures

pub returns-then-is_bad-clause-open : goal.returns-then-is_bad-clause-open
returns-then-is_bad-clause-open c = λ path mask k bad.
    let chain = open-causes c.args.end c.args.self.now c.args.session c.args.handle k path mask c.in-Ok.ensures.target in
    grind (arith, nat_tests, common_steps, chain, bad)

pub returns-then-is_bad-clause-create : goal.returns-then-is_bad-clause-create
returns-then-is_bad-clause-create c = λ path mask k given bad.
    let chain = create-causes c.args.end c.args.self.now c.args.session c.args.handle k path mask given c.in-Ok.ensures.target in
    grind (arith, nat_tests, common_steps, chain, bad)

pub returns-then-has_no_handle_room-clause-open : goal.returns-then-has_no_handle_room-clause-open
returns-then-has_no_handle_room-clause-open c = λ path mask k bad.
    let chain = open-causes c.args.end c.args.self.now c.args.session c.args.handle k path mask c.in-Ok.ensures.target in
    grind (arith, nat_tests, common_steps, chain, bad)

pub returns-then-has_no_handle_room-clause-create : goal.returns-then-has_no_handle_room-clause-create
returns-then-has_no_handle_room-clause-create c = λ path mask k given bad.
    let chain = create-causes c.args.end c.args.self.now c.args.session c.args.handle k path mask given c.in-Ok.ensures.target in
    grind (arith, nat_tests, common_steps, chain, bad)
