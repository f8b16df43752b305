-- What was read of a file ahead (this project's own).
use Rattle.std.specs.Prelude.{◌≡◌, ◌<◌, ◌≤◌, ℕ, Option, Some, List, length}
use Rattle.std.specs.Io.KnownBytes.{Consumes, IsAtEnd}
use Rattle.std.specs.Io.Chain.{chain_remaining}
use Rattle.std.specs.Io.Cursor.{cursor_remaining}
use Rattle.std.specs.declared.vec.Vec.{Vec}
use Rattle.std.specs.declared.alloc.Global.{Global}
use Rattle.reg_files.specs.declared.device.Device.{Device}
use Rattle.reg_files.specs.declared.images.Image.{Image}

-- the bytes that a device has left
abbrev pub device_bytes : {F : Type 0} → (F → Option (List ℕ)) → Device F → Option (List ℕ)
device_bytes remaining reader = remaining reader.device

-- the bytes that a file has left: those read ahead, and then those of its device
abbrev pub bytes_of : {F : Type 0} → (F → Option (List ℕ)) → Image F → Option (List ℕ)
bytes_of remaining image = chain_remaining (cursor_remaining (λ (v : Vec ℕ Global). Some v.items)) (device_bytes remaining) image.bytes

-- bytes are a reader's, where these are known
abbrev pub AreBytesOf : (bytes unread : Option (List ℕ)) → Type 0
AreBytesOf bytes unread = (known : List ℕ) → unread ≡ Some known → bytes ≡ Some known

-- the first bytes of a reader, as many as a base block has, or all
pub record IsFront (unread left : Option (List ℕ)) (front : List ℕ) : Type 0 where
  pub consumed : Consumes unread left front
  pub within : length front ≤ 4096
  pub ends : length front < 4096 → IsAtEnd left
