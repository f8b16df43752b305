use Rattle.std.proofs.Common.{◌≡◌, ◌+◌, ◌-◌, ◌==◌, ℕ, take, drop, ap, ◌∙◌, arith}
use Rattle.std.specs.List.{list_all}
use Rattle.reg_written.proofs.arena.is_blank.Goals as goal

pub returns : goal.returns
returns c =
    let long : c.args.at + 32 - (c.args.at + 12) ≡ 20 = omega arith in
    c.are_zero.ensures ∙ ap (λ (n : ℕ). list_all (λ b. b == 0) (take n (drop (c.args.at + 12) c.args.bins.now))) long
