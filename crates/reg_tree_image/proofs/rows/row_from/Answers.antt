use Rattle.std.proofs.Common.{ℕ, List, Bor}
use Rattle.reg_records.specs.OffsetRows.{offsets_at}
use Rattle.reg_tree_image.proofs.Readers.OffsetRows.{row-exit, row-short, row-done}
use Rattle.reg_tree_image.proofs.rows.row_from.Goals as goal

pub returns-in_err-held-clause-follows : goal.returns-in_err-held-clause-follows
returns-in_err-held-clause-follows c path kind k =
    row-exit _ path kind c.args.count c.args.offset (λ (x : Bor (List ℕ)). x.now) _ _ (λ (x : Bor (List ℕ)). offsets_at c.args.count 0 x.now) _ _
    c.from_residual.ensures.1 (c.in_err-held.ensures.follows path (λ _. kind) (λ _. k))

pub returns-then-held-count-clause-follows : goal.returns-then-held-count-clause-follows
returns-then-held-count-clause-follows c path kind k =
    row-short _ path kind c.args.count c.args.offset (λ (x : Bor (List ℕ)). x.now) _ _ c.in_ok-held.held
    (c.in_ok-held.ensures.follows path (λ _. kind) (λ _. k)) c.if-held-count.true

pub returns-clause-follows : goal.returns-clause-follows
returns-clause-follows c path kind k =
    row-done _ path kind c.args.count c.args.offset (λ (x : Bor (List ℕ)). x.now) _ _ c.in_ok-held.held
    (c.in_ok-held.ensures.follows path (λ _. kind) (λ _. k)) c.if-held-count.false
