use Rattle.reg_find.proofs.PatternFaults.{refused-handed}
use Rattle.reg_find.proofs.pattern.compile.Goals as goal

pub returns-in-Err-Syntax-clause-err : goal.returns-in-Err-Syntax-clause-err
returns-in-Err-Syntax-clause-err c =
    let e = c.in-Err-Syntax.ensures in
    refused-handed _ _ _ _ c.in-Err-Syntax.field-0-is e.refused e.kind e.span
