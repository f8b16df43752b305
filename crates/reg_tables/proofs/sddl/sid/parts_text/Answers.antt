use Rattle.std.proofs.Common.{string_bytes}
use Rattle.reg_tables.proofs.SecurityParts.{parts-more, parts-room}
use Rattle.reg_tables.proofs.sddl.sid.parts_text.Goals as goal

pub loop-part-preserved : goal.loop-part-preserved
loop-part-preserved c = (
  parts-more c.args.count c.loop-part._part c.long_at-part.result c.args.bytes.now c.loop-part.rest.now c.behind-rest.result.now (string_bytes c.loop-part.text)
      (string_bytes c.write.new.self) c.loop-part-test.true c.loop-part.invariant.0 c.long_at-part.ensures c.in_ok-write.ensures.bytes c.behind-rest.ensures,
  parts-room c.args.count c.loop-part._part c.loop-part.rest.now c.behind-rest.result.now c.loop-part-test.true c.loop-part.invariant.1 c.behind-rest.ensures,
)
