use Rattle.std.proofs.Common.{rules, ◌≡◌, ◌++◌, take}
use Rattle.std.proofs.KnownBytes.{Consumes-kept, Consumes-trans}
use Rattle.reg_text.proofs.FailureCounts.{stays-at, stays-then, fails-then}
use Rattle.reg_edits.proofs.InputReads.{read_none, read_more, read_end}
use Rattle.reg_edits.proofs.importing.read_parts.Goals as goal

pub loop-bytes-init : goal.loop-bytes-init
loop-bytes-init g c = record { room = c.requires; read = read_none _ _ c.new-bytes.ensures.items; stays = stays-at _ }

pub returns-in-Ok-eq0-clause-ok : goal.returns-in-Ok-eq0-clause-ok
returns-in-Ok-eq0-clause-ok g c =
    read_end _ _ _ c.loop-bytes.bytes.items c.receive.new.buffer _ (search rules) (search rules) c.loop-bytes.invariant.read c.in-Ok-eq0.ensures.bytes

pub returns-in-Ok-eq0-clause-failures : goal.returns-in-Ok-eq0-clause-failures
returns-in-Ok-eq0-clause-failures g c = stays-then _ _ _ c.loop-bytes.invariant.stays c.in-Ok-eq0.ensures.failures

pub returns-in-Err-clause-err : goal.returns-in-Err-clause-err
returns-in-Err-clause-err g c = (_, Consumes-kept _ _ _ c.loop-bytes.bytes.items c.loop-bytes.invariant.read c.in-Err.ensures.bytes)

pub returns-in-Err-clause-failures : goal.returns-in-Err-clause-failures
returns-in-Err-clause-failures g c = fails-then _ _ _ c.loop-bytes.invariant.stays c.in-Err.ensures.failures

pub returns-then-is_err-clause-err : goal.returns-then-is_err-clause-err
returns-then-is_err-clause-err g c = (_, Consumes-trans _ _ _ c.loop-bytes.bytes.items _ c.loop-bytes.invariant.read c.in-Ok.ensures.bytes.0)

pub returns-then-is_err-clause-failures : goal.returns-then-is_err-clause-failures
returns-then-is_err-clause-failures g c = stays-then _ _ _ c.loop-bytes.invariant.stays c.in-Ok.ensures.failures

pub loop-bytes-preserved : goal.loop-bytes-preserved
loop-bytes-preserved g c =
    let more : c.extend_from_slice.new.self.items ≡ c.loop-bytes.bytes.items ++ take c.in-Ok.count c.receive.new.buffer = search rules in
    record {
      room = search rules;
      read = read_more _ _ _ c.loop-bytes.bytes.items _ _ c.loop-bytes.invariant.read c.in-Ok.ensures.bytes.0 more;
      stays = stays-then _ _ _ c.loop-bytes.invariant.stays c.in-Ok.ensures.failures;
    }
