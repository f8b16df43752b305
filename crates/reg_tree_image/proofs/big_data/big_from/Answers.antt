use Rattle.std.proofs.Common.{ℕ, List, [], Bor, Vec, Global, refl, arith}
use Rattle.reg_heap.specs.Kinds.Kind.{BigHead, BigList}
use Rattle.reg_records.specs.BigData.{segments}
use Rattle.reg_records.specs.OffsetRows.{offsets_at}
use Rattle.reg_tree_image.specs.LoadingWalk.{pieces_from}
use Rattle.reg_tree_image.proofs.Readers.BigSegments.{big-exit, big-none, big-few, big-row}
use Rattle.reg_tree_image.proofs.Readers.ReachedSteps.{reaches-exit, reaches-then, reaches-follows}
use Rattle.reg_tree_image.proofs.big_data.big_from.Goals as goal

pub returns-in_err-content-clause-follows : goal.returns-in_err-content-clause-follows
returns-in_err-content-clause-follows c path =
    big-exit _ path c.args.size c.args.offset (λ (x : Bor (List ℕ)). x.now) _ _
    (λ (x : Vec ℕ Global). x.items) _ _ c.from_residual.ensures.1
    (c.in_err-content.ensures.follows path (λ _. BigHead) (λ _. refl))

pub returns-in_default-clause-follows : goal.returns-in_default-clause-follows
returns-in_default-clause-follows c path =
    big-none _ path c.args.size c.args.offset (λ (x : Bor (List ℕ)). x.now) _ _ c.in_ok-content.content
    (c.in_ok-content.ensures.follows path (λ _. BigHead) (λ _. refl)) _ c.in_default.ensures

pub returns-then-from-count-clause-follows : goal.returns-then-from-count-clause-follows
returns-then-from-count-clause-follows c path =
    big-few _ path c.args.size c.args.offset (λ (x : Bor (List ℕ)). x.now) _ _ c.in_ok-content.content
    (c.in_ok-content.ensures.follows path (λ _. BigHead) (λ _. refl))
    c.segments_for-count.result _ c.segments_for-count.ensures c.in-Ok.ensures (omega (arith, c.from.ensures, c.if-from-count.true))

pub returns-in_err-row-clause-follows : goal.returns-in_err-row-clause-follows
returns-in_err-row-clause-follows c path =
    reaches-exit _ path (λ (x : Bor (List ℕ)). offsets_at c.segments_for-count.result 0 x.now) (λ (x : Vec ℕ Global). x.items) _ _
    (λ row. pieces_from _ path [] (segments c.args.size row)) _ _ _ _ _ c.from_residual-in_err-row.ensures.1
    (big-row _ path c.args.size c.args.offset (λ (x : Bor (List ℕ)). x.now) _ _ c.in_ok-content.content
    (c.in_ok-content.ensures.follows path (λ _. BigHead) (λ _. refl))
    c.segments_for-count.result _ c.segments_for-count.ensures c.in-Ok.ensures (omega (arith, c.from.ensures, c.if-from-count.false)))
    (c.in_err-row.ensures.follows path BigList refl)

pub returns-clause-follows : goal.returns-clause-follows
returns-clause-follows c path =
    reaches-follows _ path (λ (x : Vec ℕ Global). x.items) _ _ _ _ _ _
    (reaches-then _ path (λ (x : Bor (List ℕ)). offsets_at c.segments_for-count.result 0 x.now) _ _
    (λ row. pieces_from _ path [] (segments c.args.size row)) _ _ _ c.in_ok-row.row
    (big-row _ path c.args.size c.args.offset (λ (x : Bor (List ℕ)). x.now) _ _ c.in_ok-content.content
    (c.in_ok-content.ensures.follows path (λ _. BigHead) (λ _. refl))
    c.segments_for-count.result _ c.segments_for-count.ensures c.in-Ok.ensures (omega (arith, c.from.ensures, c.if-from-count.false)))
    (c.in_ok-row.ensures.follows path BigList refl))
    (c.pieces_from.ensures.follows path)
