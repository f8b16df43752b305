-- How often a device failed, and whether devices were used at all, where that is known (this project's own).
use Rattle.std.specs.Prelude.{◌≡◌, ℕ, suc, ⊤, List, Option, None, Some}

-- no call failed
abbrev pub Stays : Option ℕ → Option ℕ → Type 0
Stays None new = ⊤
Stays (Some n) new = new ≡ Some n

-- of the calls just one failed
abbrev pub Fails : Option ℕ → Option ℕ → Type 0
Fails None new = ⊤
Fails (Some n) new = new ≡ Some (suc n)

-- nothing was read, and nothing written
abbrev pub IsUntouched : (unread left before after : Option (List ℕ)) → Type 0
IsUntouched unread left before after = (left ≡ unread) × (after ≡ before)
