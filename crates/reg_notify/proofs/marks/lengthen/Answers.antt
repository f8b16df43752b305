use Rattle.std.proofs.Common.{◌≡◌, length, arith}
use Rattle.std.specs.Prelude.{is_ok, vec_len}
use Rattle.reg_notify.specs.declared.marks.TheConstants.{MARKS}
use Rattle.reg_notify.proofs.MarkedTexts.{same-marks}
use Rattle.reg_notify.proofs.marks.lengthen.Goals as goal

pub returns-clause-same : goal.returns-clause-same
returns-clause-same c =
    let ok = c.args.slots.now.ok in
    let long : vec_len c.args.slots.now ≡ length c.args.slots.now.items = ok.0 in
    let e = c.len.ensures in
    let less = c.if-len-ge-MARKS.false in
    same-marks (is_ok c.resize.result) c.args.slots.now.items c.resize.new.self.items MARKS _ (omega (arith, long, e, less)) c.resize.ensures.items
