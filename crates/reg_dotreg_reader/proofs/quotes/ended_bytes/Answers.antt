use Rattle.reg_dotreg_reader.proofs.QuotedUnits.{bytes_end}
use Rattle.reg_dotreg_reader.proofs.quotes.ended_bytes.Goals as goal

pub returns : goal.returns
returns c =
    bytes_end c.args.units.now c.loop-unit.bytes.items c.push-2.new.self.items c.push-3.new.self.items c.loop-unit.unit-index
    c.loop-unit.invariant c.loop-unit-test.false c.in_ok-push-3.ensures.items c.in_ok-push-4.ensures.items
