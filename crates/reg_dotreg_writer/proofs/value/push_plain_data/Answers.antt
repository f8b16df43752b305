use Rattle.reg_dotreg_writer.proofs.PieceBytes.{on_ok}
use Rattle.reg_dotreg_writer.proofs.EntryPieces.{number_told, rows_told}
use Rattle.reg_dotreg_writer.proofs.value.push_plain_data.Goals as goal

pub returns-then-kind-content : goal.returns-then-kind-content
returns-then-kind-content c =
    on_ok c.push_number.result
    (number_told c.args.is_utf8 c.args.kind c.args.content.now c.args.bytes.now.items _ _ c.if-kind-content.true c.in_ok-push_plain.ensures)
    c.push_number.ensures

pub returns : goal.returns
returns c =
    on_ok c.push_rows.result
    (rows_told c.args.is_utf8 c.args.kind c.args.content.now c.args.bytes.now.items _ _ c.if-kind-content.false c.in_ok-push_head.ensures)
    c.push_rows.ensures
