-- The text of a pattern (Rust's regex crate).
use Rattle.std.specs.Prelude.{◌≡◌, ◌≢◌, ◌≤◌, ℕ, List, Bool, false, IsCharBoundary, ⊤}
use Rattle.regex.specs.Patterns.{Config, default_config, Refuses}
use Rattle.regex.specs.Failures.{IsPattern}
use Rattle.regex.specs.Bytes.{regex_source, regex_config, IsReadFromSource}
use Rattle.regex.specs.declared.bytes.regex.Regex.{Regex}
use Rattle.regex_syntax.specs.declared.error.ErrorKind.TheVariants.{OutOfMemory}
use Rattle.reg_find.specs.declared.fault.PatternFault.{PatternFault}
use Rattle.reg_find.specs.declared.fault.PatternFault.TheVariants.{Syntax, TooLarge, Memory}

-- the options with which a pattern is read: those of the regex crate for bytes, with its flag `i` where upper and lower case are the same
abbrev pub options : (ignores_case : Bool) → Config
options ignores_case =
    record default_config { flags = record default_config.flags { case_insensitive = ignores_case }; utf8 = false }

-- the pattern is what the regex crate's grammar reads in the text
pub record IsPatternOf (text : List ℕ) (ignores_case : Bool) (regex : Regex) : Type 0 where
  pub source : regex_source regex ≡ text
  pub config : regex_config regex ≡ options ignores_case
  pub read : IsReadFromSource regex

-- why a text wasn't compiled: it is no pattern or nests too deep, and the fault lies in a part of it; or it is one and too large; or
-- memory was refused
abbrev pub IsRefusedFor : List ℕ → (ignores_case : Bool) → PatternFault → Type 0
IsRefusedFor text ignores_case (Syntax error) =
    Refuses (options ignores_case) text error.kind × (error.kind ≢ OutOfMemory)
    × (error.span.start ≤ error.span.end) × IsCharBoundary text error.span.start × IsCharBoundary text error.span.end
IsRefusedFor text ignores_case TooLarge = IsPattern (options ignores_case) text
IsRefusedFor text ignores_case Memory = ⊤
