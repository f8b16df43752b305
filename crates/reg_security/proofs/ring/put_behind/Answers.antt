use Rattle.std.proofs.Common.{ℕ, ◌≢◌, ◌<◌, lit≤, sym, ap, ◌∙◌}
use Rattle.std.specs.Option.{option_map}
use Rattle.reg_heap.specs.Kinds.{times}
use Rattle.reg_records.specs.KeySecurities.{KeySecurityRecord}
use Rattle.reg_security.proofs.RingJoined.{member-there, next-there, before-there, next-here, not-member, joined}
use Rattle.reg_security.proofs.CellsRelinked.{relinked-same, relinked-then, relinked-written}
use Rattle.reg_security.proofs.ring.put_behind.Goals as goal

pub read-after-requires : goal.read-after-requires
read-after-requires c = member-there _ c.requires.ring.0 c.requires.ring.1 c.args.before c.requires.ring.2

pub set_blink-requires : goal.set_blink-requires
set_blink-requires c =
    next-there _ c.requires.ring.0 c.requires.ring.1 c.args.before c.requires.ring.2 _ (ap (option_map (λ (s : KeySecurityRecord). s.fields.flink)) c.read-after.ensures)
    c.args.cell c.requires.ring.3 _ c.put_sk.ensures.written.others

pub set_flink-requires : goal.set_flink-requires
set_flink-requires c =
    before-there _ c.requires.ring.0 c.requires.ring.1 c.args.before c.requires.ring.2 _ (ap (option_map (λ (s : KeySecurityRecord). s.fields.flink)) c.read-after.ensures)
    c.args.cell c.requires.ring.3 _ c.put_sk.ensures.written.others _ c.set_blink.ensures.written.others c.set_blink.ensures.reads c.set_blink.ensures.plain

pub returns-clause-added : goal.returns-clause-added
returns-clause-added c = λ ring r here fresh free.
    joined _ ring r c.args.before here _ (ap (option_map (λ (s : KeySecurityRecord). s.fields.flink)) c.read-after.ensures)
    c.args.cell fresh _ c.put_sk.ensures.written.others _ c.set_blink.ensures.written.others c.set_blink.ensures.reads c.set_blink.ensures.plain
    _ c.set_flink.ensures.written.others c.set_flink.ensures.reads c.set_flink.ensures.plain
    c.args.descriptor.now c.put_sk.ensures.reads c.put_sk.ensures.plain c.requires.descriptor.0 c.requires.descriptor.1 free
    c.put_sk.ensures.written.writes c.set_blink.ensures.written.writes c.set_flink.ensures.written.writes

pub returns-clause-beside : goal.returns-clause-beside
returns-clause-beside c = λ offset n.
    let r = c.requires.ring in
    let leads = ap (option_map (λ (s : KeySecurityRecord). s.fields.flink)) c.read-after.ensures in
    let next = next-there _ r.0 r.1 c.args.before r.2 _ leads c.args.cell r.3 _ c.put_sk.ensures.written.others in
    let before = before-there _ r.0 r.1 c.args.before r.2 _ leads c.args.cell r.3 _ c.put_sk.ensures.written.others
    _ c.set_blink.ensures.written.others c.set_blink.ensures.reads c.set_blink.ensures.plain in
    relinked-then _ _ _ offset
    (relinked-then _ _ _ offset (relinked-same _ _ offset (c.put_sk.ensures.written.others offset n))
    (relinked-written _ _ _ 8 _ next (lit≤ tt) c.set_blink.ensures.written offset))
    (relinked-written _ _ _ 4 _ before (lit≤ tt) c.set_flink.ensures.written offset)

pub returns-clause-put : goal.returns-clause-put
returns-clause-put c =
    let r = c.requires.ring in
    let apart : (z : ℕ) → 0 < times z r.0 → c.args.cell ≢ z = λ z l e. not-member z c.args.cell r.0 l r.3 (sym e) in
    let next = next-here _ r.0 r.1 c.args.before r.2 _ (ap (option_map (λ (s : KeySecurityRecord). s.fields.flink)) c.read-after.ensures) in
    record {
      flink = _;
      blink = c.args.before;
      holds =
          c.set_flink.ensures.written.others c.args.cell (apart c.args.before r.2)
          ∙ (c.set_blink.ensures.written.others c.args.cell (apart _ next) ∙ c.put_sk.ensures.written.here);
    }
