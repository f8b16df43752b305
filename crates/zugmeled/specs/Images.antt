-- The image of the hive that C holds.
use Rattle.std.specs.Prelude.{◌≡◌, ◌≢◌, ◌⊎◌, ℕ, List, length, drop, Option, Some, None}
use Rattle.reg_model.specs.declared.statuses.TheConstants.{INVALID_HANDLE, INVALID_PARAMETER}
use Rattle.reg_calls.specs.Views.{View, next_of}
use Rattle.reg_tree_image.specs.Images.{image_of}
use Rattle.reg_tree_image.specs.Rooms.{filled}
use Rattle.zugmeled.specs.Held.{HeldHive}
use Rattle.zugmeled.specs.Calls.{seen}

-- the image of a hive, with a moment and a sequence number
abbrev pub image_at : View → ℕ → ℕ → List ℕ
image_at v moment sequence = image_of v.keys.bins.bytes v.keys.root moment sequence

-- how many bytes the image has, and how many entries the hive has had; with no hive 6
abbrev pub IsSizeTold : Option HeldHive → (status size entries : ℕ) → Type 0
IsSizeTold None status size entries = (status ≡ INVALID_HANDLE) × (size ≡ 0) × (entries ≡ 0)
IsSizeTold (Some held) status size entries =
    (status ≡ 0) × ((moment sequence : ℕ) → size ≡ length (image_at (seen held) moment sequence)) × (entries ≡ next_of (seen held))

-- the image's bytes from the offset on, over the front of the room; 87 where the hive has had another number of entries; with no hive 6
abbrev pub IsPartTold : Option HeldHive → (moment sequence entries offset status : ℕ) → (old new : List ℕ) → Type 0
IsPartTold None moment sequence entries offset status old new = (status ≡ INVALID_HANDLE) × (new ≡ old)
IsPartTold (Some held) moment sequence entries offset status old new =
    ((entries ≢ next_of (seen held)) × (status ≡ INVALID_PARAMETER) × (new ≡ old))
    ⊎ ((entries ≡ next_of (seen held)) × (status ≡ 0) × (new ≡ filled (drop offset (image_at (seen held) moment sequence)) old))
