use Rattle.reg_tables.proofs.GatheredKeys.{key-told}
use Rattle.reg_tables.proofs.gather.key_entry.Goals as goal

pub returns : goal.returns
returns c =
    λ p at told here names.
    key-told c.args.tree.now.tree p told here _ _ c.in_ok-name_text.ensures names _ _ (c.time.ensures p at told.key here) c.in_ok-moment_text.ensures _
    (c.marks.ensures p at told.key here) _ _ (c.class.ensures.told p at told.key here) c.in_ok-encode.ensures _ _
    (c.descriptor.ensures.told p at told.key here) c.in_ok-security_text.ensures _ (c.in_ok-value_entries.ensures p at)
