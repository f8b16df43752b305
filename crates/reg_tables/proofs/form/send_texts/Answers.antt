use Rattle.std.proofs.lemmas.Result.{on_ok_weaker}
use Rattle.reg_tables.specs.Internal.Entries.{text_data}
use Rattle.reg_tables.proofs.EntryTexts.{seq-sent}
use Rattle.reg_tables.proofs.form.send_texts.Goals as goal

pub returns : goal.returns
returns g c = on_ok_weaker c.serialize.result (λ e. seq-sent text_data c.args.texts.now.items _ _ e) c.serialize.ensures
