use Rattle.std.proofs.Common.{ℕ, List, Bor, refl, rules}
use Rattle.reg_heap.specs.Kinds.Kind.{Segment}
use Rattle.reg_tree_image.proofs.Readers.BigSegments.{segment-exit, segment-done}
use Rattle.reg_tree_image.proofs.big_data.append_segment.Goals as goal

pub returns-in_err-piece-clause-follows : goal.returns-in_err-piece-clause-follows
returns-in_err-piece-clause-follows c path =
    segment-exit _ path c.args.offset c.args.left _ c.segment_length.ensures c.args.bytes.now.items
    (λ (x : Bor (List ℕ)). x.now) _ _ _ _ _ c.from_residual.ensures.1
    (c.in_err-piece.ensures.follows path Segment refl)

pub returns-clause-follows : goal.returns-clause-follows
returns-clause-follows c path =
    segment-done _ path c.args.offset c.args.left _ c.segment_length.ensures c.args.bytes.now.items
    (λ (x : Bor (List ℕ)). x.now) _ _ c.in_ok-piece.piece
    c.extend_from_slice.new.self.items (search rules) (c.in_ok-piece.ensures.follows path Segment refl)
