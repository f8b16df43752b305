-- The line of a key that is gone, has come or changed, gathered.
use Rattle.std.proofs.Common.{◌≡◌, ℕ, ◌<◌, Bool, true, false, List, [], ◌∷◌, ◌++◌, length, arith}
use Rattle.std.specs.Prelude.{if◌then◌else◌}
use Rattle.reg_dotreg_writer.specs.EntryTexts.{line_end}
use Rattle.reg_dotreg_writer.specs.Entries.{key_line}
use Rattle.reg_dotreg_writer.specs.Changes.{rooted, gone_line}
use Rattle.reg_dotreg_writer.specs.Internal.Pieces.{plain}
use Rattle.reg_dotreg_writer.proofs.PieceBytes.{plain_two}

-- the names that lead to a key
pub rooted_none : (u : Bool) (root path old new : List ℕ) → length path ≡ 0 → new ≡ old ++ plain u root → new ≡ old ++ plain u (rooted root path)
rooted_none u root [] old new l e = e
rooted_none u root (b ∷ path) old new l e = absurd (omega (arith, l))

pub rooted_some : (u : Bool) (root path old first second new : List ℕ) → 0 < length path → first ≡ old ++ plain u root →
    second ≡ first ++ plain u (92 ∷ []) → new ≡ second ++ plain u path → new ≡ old ++ plain u (rooted root path)
rooted_some u root [] old first second new l p q r = absurd (omega (arith, l))
rooted_some u root (b ∷ path) old first second new l p q r =
    plain_two u old first new root (92 ∷ b ∷ path) p (plain_two u first second new (92 ∷ []) (b ∷ path) q r)

pub change_line_told : (u gone : Bool) (path old first second new : List ℕ) → first ≡ old ++ plain u (if gone then 91 ∷ 45 ∷ [] else 91 ∷ []) →
    second ≡ first ++ plain u path → new ≡ second ++ plain u (93 ∷ line_end) →
    new ≡ old ++ plain u (if gone then gone_line path else key_line path)
unfolding gone_line key_line
change_line_told u true path old first second new p q r =
    plain_two u old first new (91 ∷ 45 ∷ []) (path ++ 93 ∷ line_end) p (plain_two u first second new path (93 ∷ line_end) q r)
change_line_told u false path old first second new p q r =
    plain_two u old first new (91 ∷ []) (path ++ 93 ∷ line_end) p (plain_two u first second new path (93 ∷ line_end) q r)
