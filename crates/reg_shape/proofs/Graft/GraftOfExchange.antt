-- One key's own cells exchanged, as a graft of the same keys below it.
use Rattle.std.proofs.Common.{◌≡◌, ℕ, ◌+◌, ◌≤◌, Some, List, [], refl, sym, subst, ◌∙◌, arith}
use Rattle.reg_heap.specs.Paths.{Path}
use Rattle.reg_heap.specs.Heaps.{Heap, allocated}
use Rattle.reg_heap.specs.Kinds.{times}
use Rattle.reg_shape.specs.Internal.Forests.{Branch, heads, total_of}
use Rattle.reg_records.specs.KeySecurities.{IsPlainSecurity}
use Rattle.reg_shape.specs.Nodes.{Node}
use Rattle.reg_shape.specs.Written.{IsWrittenSecurity}
use Rattle.reg_shape.specs.Whole.{IsRing}
use Rattle.reg_shape.specs.Internal.Shapes.{owns, shares, StandsIn}
use Rattle.reg_shape.specs.Internal.Exchanges.{IsExchanged}
use Rattle.reg_shape.specs.Internal.Grafts.{IsShape, branch_at, IsRecounted, IsGraftedInRing}
use Rattle.reg_records.proofs.KeySecurityCodec.{security_at-same}
use Rattle.reg_shape.proofs.Wholeness.ShapeRecords.{at-most-one, all-at}
use Rattle.reg_shape.proofs.Frame.WrittenFrame.{same-held}
use Rattle.reg_shape.proofs.Wholeness.WholeAfterExchange.{keep, forest-kept}
use Rattle.reg_shape.proofs.Graft.Branches.{branch-total}

-- what a branch owns, the ring and the spare cells are allocated, each once
pub branch-room : (h : Heap) (root : ℕ) (p : Path) (keys was : Branch Node) (ring spare : List ℕ) → branch_at p keys ≡ Some was →
    IsShape h root keys ring spare → (z : ℕ) → total_of (owns z) was + (times z ring + times z spare) ≤ allocated h z
branch-room h root p keys was ring spare e w z = let t = branch-total (owns z) was p keys e in let x = w.exact z in omega (arith, t, x)

-- a security that stays as it is has the count that it had, where it is named as often
pub recounted-same : (h k : Heap) (was is z : ℕ) → k z ≡ h z → is ≡ was → IsWrittenSecurity h z → IsRecounted h k was is z
recounted-same h k was is z e n s = record {
  security = s.security;
  count = s.security.fields.count;
  reads = s.reads;
  now = security_at-same h k z e ∙ s.reads;
  plain = λ q. subst IsPlainSecurity (sym (same-held h k z e)) q;
  counted = omega (arith, n);
}

module _ (h k : Heap) (root : ℕ) (was : Branch Node) (m : Node) (ring spare : List ℕ) (x : IsExchanged h k root was.offset was.node m)
    (room : (z : ℕ) → total_of (owns z) was + (times z ring + times z spare) ≤ allocated h z) where
  pub exchange-grafts : StandsIn h root was → IsRing h ring → IsGraftedInRing h k root was (record was { node = m }) ring spare spare
  exchange-grafts a r = record {
    offset = refl;
    alike = x.alike;
    stands = (
      x.seen,
      x.fits (heads was.below) a.1,
      forest-kept h k root was.below a.2 (λ z l. (let t = room z in let o = at-most-one h z in keep h k root was.offset was.node m x z (omega (arith, t, o, l)) (omega (arith, t, l)))),
    );
    count = λ z. (let c = x.frame.count z in omega (arith, c));
    same = λ z l n s f. keep h k root was.offset was.node m x z (omega (arith, n)) l;
    securities = λ z. ((λ l. (let t = x.security z in omega (arith, t, l))), λ l. (let t = x.security z in omega (arith, t, l)));
    recounted = λ z l. (
        let t = room z in
        let o = at-most-one h z in
        recounted-same h k (total_of (shares z) was) (total_of (shares z) (record was { node = m })) z (keep h k root was.offset was.node m x z (omega (arith, t, o, l)) (omega (arith, t, l)))
        (let s = x.security z in omega (arith, s)) (all-at (IsWrittenSecurity h) ring z r.written l));
  }

-- the same where no cell is spare
pub exchange-grafts-alone : (h k : Heap) (root : ℕ) (was : Branch Node) (m : Node) (ring : List ℕ) →
    IsExchanged h k root was.offset was.node m → ((z : ℕ) → total_of (owns z) was + times z ring ≤ allocated h z) → StandsIn h root was →
    IsRing h ring → IsGraftedInRing h k root was (record was { node = m }) ring [] []
exchange-grafts-alone h k root was m ring x room = exchange-grafts h k root was m ring [] x (λ z. (let t = room z in omega (arith, t)))
