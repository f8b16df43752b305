use Rattle.std.proofs.Common.{arith}
use Rattle.reg_arena.proofs.Carving.KeptPages.{more_kept}
use Rattle.reg_arena.proofs.each.keep_page.Goals as goal

pub returns-then-is_page : goal.returns-then-is_page
returns-then-is_page c =
    more_kept _ _ _ c.args.spare c.push.ensures.items (omega (arith, c.if-len-lt-KEPT.true, c.len.ensures, c.args.kept.now.ok.0)) (c.is_page.ensures.0 c.if-is_page.true)
