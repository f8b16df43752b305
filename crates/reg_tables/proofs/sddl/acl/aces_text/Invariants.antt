use Rattle.std.proofs.Common.{◌≡◌, ◌-◌, ◌++◌, string_bytes}
use Rattle.std.specs.Option.{option_map}
use Rattle.reg_tables.specs.SecurityTexts.{aces_of}
use Rattle.reg_tables.proofs.sddl.acl.aces_text.Given as goal

abbrev pub invariant-loop-ace : goal.invariant-loop-ace
invariant-loop-ace l = aces_of l.count l.bytes ≡ option_map (λ more. string_bytes l.text ++ more) (aces_of (l.count - l._ace) l.rest)
