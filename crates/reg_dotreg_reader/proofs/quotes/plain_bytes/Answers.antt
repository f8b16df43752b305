use Rattle.std.proofs.Common.{get_or, refl, sym, ◌∙◌}
use Rattle.reg_dotreg_reader.specs.EntryWords.{is_plain}
use Rattle.reg_dotreg_reader.proofs.QuotedUnits.{plain_more, good_more}
use Rattle.reg_dotreg_reader.proofs.quotes.plain_bytes.Goals as goal

pub loop-byte-preserved : goal.loop-byte-preserved
loop-byte-preserved c = record {
  taken =
      plain_more c.args.bytes.now c.loop-byte.units.items c.push.new.self.items c.push-in-loop-byte.new.self.items c.loop-byte.byte-index
      (get_or c.args.bytes.now c.loop-byte.byte-index 0) c.loop-byte.invariant.taken c.loop-byte-test.true refl (sym c.is_plain.ensures ∙ c.if-not-is_plain.false)
      c.in_ok-push.ensures.items c.in_ok-push-2.ensures.items;
  good =
      good_more is_plain c.args.bytes.now c.loop-byte.byte-index c.loop-byte.invariant.good c.loop-byte-test.true
      (sym c.is_plain.ensures ∙ c.if-not-is_plain.false);
}
