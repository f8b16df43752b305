use Rattle.std.proofs.Common.{ℕ, List, Bor}
use Rattle.reg_tree_image.proofs.Readers.ReaderSteps.{bytes-exit, bytes-short, bytes-done}
use Rattle.reg_tree_image.proofs.cells.bytes_from.Goals as goal

pub returns-in_err-held-clause-follows : goal.returns-in_err-held-clause-follows
returns-in_err-held-clause-follows c path kind k =
    bytes-exit _ path kind c.args.size c.args.offset (λ (x : Bor (List ℕ)). x.now) _ _ (λ (x : Bor (List ℕ)). x.now) _ _ c.from_residual.ensures.1
    (c.in_err-held.ensures.follows path (λ _. kind) (λ _. k))

pub returns-then-held-size-clause-follows : goal.returns-then-held-size-clause-follows
returns-then-held-size-clause-follows c path kind k =
    bytes-short _ path kind c.args.size c.args.offset (λ (x : Bor (List ℕ)). x.now) _ _ c.in_ok-held.held (c.in_ok-held.ensures.follows path (λ _. kind) (λ _. k)) c.if-held-size.true

pub returns-clause-follows : goal.returns-clause-follows
returns-clause-follows c path kind k =
    bytes-done _ path kind c.args.size c.args.offset (λ (x : Bor (List ℕ)). x.now) _ _ c.in_ok-held.held (c.in_ok-held.ensures.follows path (λ _. kind) (λ _. k)) c.if-held-size.false
