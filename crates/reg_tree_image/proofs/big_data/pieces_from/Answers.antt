use Rattle.std.proofs.Common.{◌≡◌, ℕ, ◌+◌, ◌-◌, min, [], length, Vec, Global, arith, sym, ap, subst}
use Rattle.reg_records.specs.BigData.{segment_size}
use Rattle.reg_arena.specs.Cells.{cell_at}
use Rattle.reg_tree_image.proofs.Readers.BigSegments.{AreCopied, none-copied, more-copied, copy-exit, all-copied}
use Rattle.reg_tree_image.proofs.big_data.pieces_from.Goals as goal

kept : (size n left more segment after : ℕ) → n + left ≡ size → more ≡ n + min segment left → after ≡ left - segment → more + after ≡ size
kept size n left more segment after a b d = omega (arith, a, b, d)

pub returns-clause-short : goal.returns-clause-short
returns-clause-short c = let i = c.loop-index.invariant.1 in omega (arith, i)

pub loop-index-init : goal.loop-index-init
loop-index-init c = (
  subst (λ bytes. AreCopied
      (cell_at c.args.bins.now) c.args.row.now c.args.count c.args.size 0 c.args.size bytes c.args.table.now.states.items c.args.table.now.states.items)
      (sym c.in-Ok.ensures.items)
      (none-copied (cell_at c.args.bins.now) c.args.row.now c.args.count c.args.size c.args.table.now.states.items),
  let none = ap length c.in-Ok.ensures.items in omega (arith, none),
)

pub returns-in_err-append_segment-clause-follows :
    goal.returns-in_err-append_segment-clause-follows
returns-in_err-append_segment-clause-follows c path =
    copy-exit _ c.args.row.now c.args.count c.args.size _ {X = Unit {0}} c.loop-index.index c.loop-index.left c.loop-index.bytes.items _ _ c.loop-index-test.true
    (λ (x : Vec ℕ Global). x.items)
    (λ _. []) c.offset_at.result _ _ c.from_residual.ensures.1 c.loop-index.invariant.0 c.offset_at.ensures path
    (c.in_err-append_segment.ensures.follows path)

pub loop-index-preserved : goal.loop-index-preserved
loop-index-preserved c = (
  more-copied _ c.args.row.now c.args.count c.args.size _ c.loop-index.index c.loop-index.left c.loop-index.bytes.items _ _ c.loop-index-test.true
      c.append_segment.new.bytes.items c.left_behind-left.result c.offset_at.result
      (tt {0}) c.loop-index.invariant.0 c.offset_at.ensures c.left_behind-left.ensures
      (λ path. c.in_ok-append_segment.ensures.follows path) c.append_segment.ensures.no_more,
  kept c.args.size _ c.loop-index.left _ segment_size _ c.loop-index.invariant.1 c.in_ok-append_segment.ensures.sized c.left_behind-left.ensures,
)

pub returns-clause-follows : goal.returns-clause-follows
returns-clause-follows c path =
    all-copied _ c.args.row.now c.args.count c.args.size _ c.loop-index.index c.loop-index.left c.loop-index.bytes.items _ c.loop-index.invariant.0
    (let e = c.loop-index.auto.index-end in omega (arith, e, c.loop-index-test.false)) path
