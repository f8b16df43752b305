use Rattle.std.proofs.Common.{◌<◌, ◌≤◌, ◌∙◌, List, length, slice_get, slice_index, sym, ap, rules}
use Rattle.std.proofs.lemmas.List.{get_or_default}
use Rattle.reg_calls.specs.HiveView.{view_of}
use Rattle.reg_model.specs.declared.reply.Receipt.{Receipt}
use Rattle.reg_sessions.specs.Sessions.{SessionState, receipts_at, no_session}
use Rattle.reg_sessions.proofs.Compared.{starts, stray, differs, goes_on, found, denied}
use Rattle.reg_sessions.proofs.compare.first_gap.Goals as goal

pub loop-i-init : goal.loop-i-init
loop-i-init g c = starts _ _ _

pub returns-then-s-sessions-clause-some : goal.returns-then-s-sessions-clause-some
returns-then-s-sessions-clause-some g c =
    let e = c.entry_at-entry.result.now in
    let f = found (view_of c.args.hive.now).journal c.loop-i.i e c.entry_at-entry.ensures in
    let past : length c.args.sessions.now ≤ e.session = search rules in
    stray (view_of c.args.hive.now).journal c.args.number c.args.sessions.now c.loop-i.i c.loop-i.places e c.loop-i.invariant f.0 f.1 past

pub returns-then-not-is_receipt-clause-some : goal.returns-then-not-is_receipt-clause-some
returns-then-not-is_receipt-clause-some g c =
    let e = c.entry_at-entry.result.now in
    let f = found (view_of c.args.hive.now).journal c.loop-i.i e c.entry_at-entry.ensures in
    let known : e.session < length c.args.sessions.now = search rules in
    let own = c.receipts.ensures.receipts
    ∙ ap (λ (s : SessionState). receipts_at c.args.number s) (c.index-sessions-s.is ∙ get_or_default c.args.sessions.now e.session c.index-sessions-s.result no_session known) in
    differs (view_of c.args.hive.now).journal c.args.number c.args.sessions.now c.loop-i.i c.loop-i.places e c.loop-i.invariant f.0 f.1 known
    (λ same. denied c.is_receipt.result (c.is_receipt.ensures.1 (ap (λ (l : List Receipt). slice_get l (slice_index c.loop-i.places e.session)) own ∙ same)) c.if-not-is_receipt.true)

pub loop-i-preserved : goal.loop-i-preserved
loop-i-preserved g c =
    let e = c.entry_at-entry.result.now in
    let f = found (view_of c.args.hive.now).journal c.loop-i.i e c.entry_at-entry.ensures in
    let known : e.session < length c.args.sessions.now = search rules in
    let own = c.receipts.ensures.receipts
    ∙ ap (λ (s : SessionState). receipts_at c.args.number s) (c.index-sessions-s.is ∙ get_or_default c.args.sessions.now e.session c.index-sessions-s.result no_session known) in
    goes_on (view_of c.args.hive.now).journal c.args.number c.args.sessions.now c.loop-i.i c.loop-i.places e c.requires c.loop-i.invariant f.0 f.1 known
    (ap (λ (l : List Receipt). slice_get l (slice_index c.loop-i.places e.session)) (sym own) ∙ c.is_receipt.ensures.0 c.if-not-is_receipt.false)
