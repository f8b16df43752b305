-- What a load did whose hive's sessions were seated, or for which memory lacked.
use Rattle.std.proofs.Common.{◌≡◌, ℕ, ◌+◌, ◌≤◌, List, length, sym, subst}
use Rattle.std.specs.Prelude.{Option}
use Rattle.std.specs.Io.KnownBytes.{Consumes}
use Rattle.reg_heap.specs.ByteWords.{word}
use Rattle.reg_heap.specs.declared.limits.TheConstants.{BINS_LIMIT}
use Rattle.reg_calls.specs.Views.{View}
use Rattle.reg_tree_image.specs.declared.LoadFault.{LoadFault}
use Rattle.reg_tree_image.specs.declared.LoadFault.TheVariants.{Memory}
use Rattle.reg_tree_image.specs.Loads.{MeetsFault, IsRefused}
use Rattle.reg_tree_image.proofs.Devices.ImagesRead.{memory-met}
use Rattle.reg_image.specs.Loads.{IsLoaded}
use Rattle.reg_edits.specs.Edits.{Opens}

-- seats leave the hive as it was loaded
pub opens : (unread left : Option (List ℕ)) (hive seated : View) (sequence : ℕ) → seated ≡ hive →
    ((image : List ℕ) × Consumes unread left image × IsLoaded image hive × (sequence ≡ word image 4)) → Opens unread left seated sequence
opens unread left hive seated sequence same h =
    subst (λ (v : View). Opens unread left v sequence) (sym same) (record { image = h.0; consumed = h.1; loaded = h.2; numbered = h.3 })

pub met : (fault : LoadFault) (unread left : Option (List ℕ)) →
    ((image : List ℕ) × Consumes unread left image × (length image ≤ 4096 + BINS_LIMIT) × IsRefused fault image left) → MeetsFault fault unread left
met fault unread left h = record { image = h.0; consumed = h.1; within = h.2; refused = h.3 }

-- where an image was read, memory may lack for the seats
pub no_seats : (unread left : Option (List ℕ)) (hive : View) (sequence : ℕ) →
    ((image : List ℕ) × Consumes unread left image × IsLoaded image hive × (sequence ≡ word image 4)) → MeetsFault Memory unread left
no_seats unread left hive sequence h =
    memory-met unread left hive.origin (record { image = h.0; consumed = h.1; size = h.2.size; loads = h.2.tree })
