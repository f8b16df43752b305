use Rattle.std.proofs.Common.{◌∙◌, sym}
use Rattle.reg_dotreg_writer.proofs.PieceBytes.{on_ok, same_bytes}
use Rattle.reg_dotreg_writer.proofs.EntryPieces.{head_binary, head_other}
use Rattle.reg_dotreg_writer.proofs.value.push_head.Goals as goal

pub returns-then-kind-eq-BINARY : goal.returns-then-kind-eq-BINARY
returns-then-kind-eq-BINARY c =
    on_ok c.push_plain.result
    (same_bytes c.args.is_utf8 c.args.bytes.now.items _ _ _ (head_binary c.args.kind c.if-kind-eq-BINARY.true)) c.push_plain.ensures

pub returns : goal.returns
returns c =
    on_ok c.push_plain-2.result
    (same_bytes c.args.is_utf8 c.args.bytes.now.items _ _ _
    (head_other c.args.kind c.if-kind-eq-BINARY.false ∙ (sym c.in_ok-text.ensures ∙ sym c.as_bytes.ensures.value))) c.push_plain-2.ensures
