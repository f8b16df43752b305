-- Why the regex crate compiles no pattern.
use Rattle.std.proofs.Common.{◌≡◌, ℕ, List, Bool, subst}
use Rattle.regex_syntax.specs.declared.error.Error as parser
use Rattle.regex.specs.Sources.{IsRefusal}
use Rattle.regex.specs.Failures.{IsRightKind, HasSpanIn}
use Rattle.regex.specs.declared.error.Error.{Error}
use Rattle.regex.specs.declared.error.Error.TheVariants as regex
use Rattle.reg_find.specs.declared.fault.PatternFault.TheVariants.{Syntax}
use Rattle.reg_find.specs.PatternTexts.{options, IsRefusedFor}

-- an error of syntax is handed on
pub refused-handed : (text : List ℕ) (ignores_case : Bool) (given : Error) (error : parser.Error) → given ≡ regex.Syntax error →
    IsRefusal (options ignores_case) text given → IsRightKind (options ignores_case) text given → HasSpanIn text given →
    IsRefusedFor text ignores_case (Syntax error)
refused-handed text ignores_case given error e refused kind span =
    let s = span error e in
    (refused error e, subst (λ (g : Error). IsRightKind (options ignores_case) text g) e kind, s.0, s.1, s.2)
