use Rattle.reg_tree.proofs.ByteValues.SpeltBytes.{tree-bytes}
use Rattle.reg_tree.proofs.held_bytes.bytes_spell_bytes.Goals as goal

pub returns : goal.returns
returns c = tree-bytes
