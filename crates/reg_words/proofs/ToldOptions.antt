-- Both options of `run` are told, for the crates above.
use Rattle.std.proofs.Common.{◌≡◌, List, ℕ, refl}
use Rattle.reg_words.specs.CommandLines.{HasBothOptions}
use Rattle.reg_words.specs.WordsFaults.{TellsOptions, WantsMemory}
use Rattle.reg_words.specs.declared.fault.WordsFault.{WordsFault}
use Rattle.reg_words.specs.declared.fault.WordsFault.TheVariants.{Options, Unread}

-- they are the fault of words that have them, where memory isn't wanting
pub is_options : (fault : WordsFault) (words : List (List ℕ)) → TellsOptions fault words → HasBothOptions words → (WantsMemory fault → ⊥) →
    fault ≡ Options
is_options Options words tells both other = refl
is_options (Unread error) words tells both other = absurd (other (tells both))
