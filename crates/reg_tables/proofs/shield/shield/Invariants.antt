use Rattle.std.proofs.Common.{length, string_bytes}
use denote.Text.{Utf8}
use denote.Shadow.{shadow}
use Rattle.reg_tables.proofs.Shielded.{IsShown}
use Rattle.reg_tables.proofs.shield.shield.Given as goal

abbrev pub invariant-loop-before : goal.invariant-loop-before
invariant-loop-before l = shadow (Utf8 l.rest) × IsShown l.text (string_bytes l.shown) l.rest

abbrev pub decreases-loop-before : goal.decreases-loop-before
decreases-loop-before l = length l.rest
