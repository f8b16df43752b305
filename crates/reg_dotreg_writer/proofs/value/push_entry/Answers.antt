use Rattle.reg_dotreg_writer.proofs.PieceBytes.{on_ok}
use Rattle.reg_dotreg_writer.proofs.EntryPieces.{entry_told}
use Rattle.reg_dotreg_writer.proofs.value.push_entry.Goals as goal

pub returns : goal.returns
returns c =
    on_ok c.push_plain.result
    (entry_told c.args.is_utf8 c.args.name.now c.args.kind c.args.content.now c.args.bytes.now.items _ _ _ _ c.in_ok-push_name.ensures
    c.in_ok-push_character.ensures c.in_ok-push_data.ensures) c.push_plain.ensures
