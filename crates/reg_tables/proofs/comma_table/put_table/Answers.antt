use Rattle.std.specs.Prelude.{flat_map}
use Rattle.reg_tree_text.proofs.SentTexts.{opened, stops_full, exits}
use Rattle.reg_tables.specs.Tables.{column_names, line_text, key_rows, keys_from, csv_text}
use Rattle.reg_tables.proofs.comma_table.put_table.Goals as goal

pub returns-in_err-walk : goal.returns-in_err-walk
returns-in_err-walk g c = λ p key begin whole left s. exits _ _ _ _ c.from_residual.ensures.1 (stops_full begin _ whole _ _ _ s)

pub returns-in_err-put_row : goal.returns-in_err-put_row
unfolding csv_text
returns-in_err-put_row g c =
    λ p key begin whole left s.
    exits _ _ _ _ c.from_residual-in_err-put_row.ensures.1
    (c.in_err-put_row.ensures begin whole _
    (opened begin _ whole (line_text column_names) (flat_map key_rows (keys_from c.args.tree.now.tree p)) left _ _ s))

pub put_keys-requires : goal.put_keys-requires
put_keys-requires g c = (_, c.in_ok-walk.ensures c.requires.0 c.requires.1)

pub returns : goal.returns
unfolding csv_text
returns g c =
    λ p key begin whole left s.
    c.put_keys.ensures _ (c.in_ok-walk.ensures p key) begin whole left
    (c.in_ok-put_row.ensures begin whole _
    (opened begin _ whole (line_text column_names) (flat_map key_rows (keys_from c.args.tree.now.tree p)) left _ _ s))
