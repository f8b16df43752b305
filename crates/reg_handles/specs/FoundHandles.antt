-- What a look-up hands out.
use Rattle.std.specs.Prelude.{◌≡◌, ℕ, List, Option, Some, None, option_map, IfSome}
use Rattle.reg_names.specs.Names.{path_of}
use Rattle.reg_model.specs.Worlds.{Handle, Destination, At, Deleted}
use Rattle.reg_handles.specs.HandleTables.{Table, payload_on}
use Rattle.reg_handles.specs.declared.handles.Found.{Found}
use Rattle.reg_handles.specs.declared.keys.Target.{Target}

-- where a handle leads that was found
abbrev pub destination_shown : {K : Type 0} → Option (Target K) → Destination
destination_shown None = Deleted
destination_shown (Some target) = At (path_of target.path.now)

-- a handle as it is handed out
abbrev pub shown : {K : Type 0} → ℕ → ℕ → Option (Found K) → Option Handle
shown session number found = option_map (λ f. record { number = number; session = session; mask = f.mask; destination = destination_shown f.target }) found

-- where a handle was found and leads to a key, its text is such
abbrev pub IfLeads : {K : Type 0} → Option (Found K) → (List ℕ → Type 0) → Type 0
IfLeads found P = IfSome found (λ f. IfSome f.target (λ target. P target.path.now))

-- where a handle was found and leads to a key, it comes with what is kept for that key's path
abbrev pub HasPayload : {K : Type 0} → Table K → Option (Found K) → Type 0
HasPayload table found = IfSome found (λ f. IfSome f.target (λ target. payload_on table target.path.now ≡ Some target.payload))
