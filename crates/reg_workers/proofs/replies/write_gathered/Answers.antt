use Rattle.reg_workers.proofs.WrittenTexts.{told_gathered}
use Rattle.reg_workers.proofs.replies.write_gathered.Goals as goal

pub returns-in_ok-write_end-in-Ok : goal.returns-in_ok-write_end-in-Ok
returns-in_ok-write_end-in-Ok g c =
    told_gathered _ _ c.in-Ok.audit c.are_whole.result _ _ c.in-Ok.ensures.ok.0 c.in_ok-write_end-in-Ok.ensures.admitted c.in-Ok.ensures.ok.1 c.are_whole.ensures.0
    c.are_whole.ensures.1 c.in_ok-write_end-in-Ok.ensures.text
