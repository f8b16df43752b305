use Rattle.std.proofs.Common.{string_bytes}
use Rattle.reg_tables.specs.Internal.Entries.{key_view}
use Rattle.serde_json.proofs.FreeTexts.{text_of_value}
use Rattle.reg_tables.proofs.EntryTexts.{key-whole}
use Rattle.reg_tables.proofs.entry.entry_text.Goals as goal

pub returns-in-Ok : goal.returns-in-Ok
returns-in-Ok c =
    let h = c.in-Ok.ensures.events in
    text_of_value (key_view c.args.entry.now) h.0 (string_bytes c.in-Ok.text) h.1 h.2 (key-whole c.args.entry.now)
