use Rattle.std.proofs.Common.{◌≡◌, ◌*◌, ◌-◌, ◌≤◌, ◌++◌, length, string_bytes}
use Rattle.reg_tables.specs.SecurityTexts.{parts_text}
use Rattle.reg_tables.proofs.sddl.sid.parts_text.Given as goal

abbrev pub invariant-loop-part : goal.invariant-loop-part
invariant-loop-part l =
    (parts_text l.count l.bytes ≡ string_bytes l.text ++ parts_text (l.count - l._part) l.rest) × (4 * (l.count - l._part) ≤ length l.rest)
