-- The slab of the open keys, and the map from their paths to where they stand.
use Rattle.std.specs.Prelude.{◌≡◌, ◌≢◌, ℕ, ◌+◌, ◌-◌, ◌==◌, ◌&&◌, not, Bool, true, false, List, [], ◌∷◌, ◌++◌, map}
use Rattle.std.specs.Prelude.{Option, Some, None, if◌then◌else◌, bytes_eq, Vec, unwrap_or}
use Rattle.slab.specs.Slab.{Slab, get}
use Rattle.reg_names.specs.Names.{path_of}
use Rattle.reg_model.specs.Internal.TextNumbers.{number_at}
use Rattle.reg_model.specs.Worlds.{Destination, At, Deleted}
use Rattle.reg_handles.specs.declared.keys.OpenKey.{OpenKey}

-- where the key at a path stands that was not deleted, if it has rows
abbrev pub key_at : {Y : Type 0} → List (Vec ℕ Y × ℕ) → List ℕ → Option ℕ
key_at es text = number_at es text

-- how many rows have the key
abbrev pub rows_of : {K : Type 0} → Option (OpenKey K) → ℕ
rows_of None = 0
rows_of (Some k) = k.rows

-- where the key's rows lead
abbrev pub destination_of : {K : Type 0} → Option (OpenKey K) → Destination
destination_of None = Deleted
destination_of (Some k) = if k.is_deleted then Deleted else At (path_of k.path.items)

-- what its caller keeps for the key
abbrev pub payload_of : {K : Type 0} → Option (OpenKey K) → Option K
payload_of None = None
payload_of (Some k) = Some k.payload

-- the same of the key at a path
abbrev pub payload_at : {K : Type 0} → Slab (OpenKey K) → Option ℕ → Option K
payload_at s None = None
payload_at s (Some key) = payload_of (get s key)

-- the paths of the map as texts, each with what is kept for its key
abbrev pub payloads_of : {K Y : Type 0} → Slab (OpenKey K) → List (Vec ℕ Y × ℕ) → List (List ℕ × Option K)
payloads_of {Y = Y} s es = map (λ (e : Vec ℕ Y × ℕ). (e.0.items, payload_of (get s e.1))) es

-- the key stands there, has that text as its path, and was not deleted
abbrev pub IsOpenAt : {K : Type 0} → Option (OpenKey K) → List ℕ → Type 0
IsOpenAt None text = ⊥
IsOpenAt (Some k) text = (k.path.items ≡ text) × (k.is_deleted ≡ false)

-- a key with one row more
abbrev pub with_one_more : {K : Type 0} → OpenKey K → OpenKey K
with_one_more k = record k { rows = k.rows + 1 }

-- a key with one row less; with its last row it goes
abbrev pub with_one_less : {K : Type 0} → Option (OpenKey K) → Option (OpenKey K)
with_one_less None = None
with_one_less (Some k) = if k.rows == 1 then None else Some (record k { rows = k.rows - 1 })

-- a key for which that is kept
abbrev pub with_payload : {K : Type 0} → K → OpenKey K → OpenKey K
with_payload payload k = record k { payload = payload }

-- a key that was deleted
abbrev pub without_key : {K : Type 0} → OpenKey K → OpenKey K
without_key k = record k { is_deleted = true }

-- a key that was deleted if its path passes a test
abbrev pub without_key_past : {K : Type 0} → (List ℕ → Bool) → OpenKey K → OpenKey K
without_key_past gone k = if gone k.path.items then without_key k else k

-- the text with which the paths below a path begin, all of which are longer: that of the root is empty
abbrev pub start_below : List ℕ → List ℕ
start_below [] = []
start_below (b ∷ bs) = (b ∷ bs) ++ 92 ∷ []

-- with the key's last row its path is free, unless it was before
abbrev pub is_freed : {K : Type 0} → Option (OpenKey K) → List ℕ → Bool
is_freed None text = false
is_freed (Some k) text = k.rows == 1 && not k.is_deleted && bytes_eq k.path.items text

abbrev pub leads_to : Option ℕ → ℕ → Bool
leads_to None key = false
leads_to (Some k) key = k == key

-- at a path the map tells that, and at each other path what it told
abbrev pub UpdatesPath : (List ℕ → Option ℕ) → List ℕ → Option ℕ → (List ℕ → Option ℕ) → Type 0
UpdatesPath before text key after = (other : List ℕ) → after other ≡ (if bytes_eq text other then key else before other)

-- a row more has the key at a path: the one that stood there with its payload, or a new one where the path had none
pub record IsHeld {K : Type 0} (s s' : Slab (OpenKey K)) (before after : List ℕ → Option ℕ) (path : List ℕ) (payload : K) (key : ℕ) : Type 0 where
  pub was : (k : OpenKey K) → get s key ≡ Some k → IsOpenAt (get s key) path
  pub alone : (other : ℕ) → before path ≡ Some other → other ≡ key
  pub stands : IsOpenAt (get s' key) path
  pub rows : rows_of (get s' key) ≡ rows_of (get s key) + 1
  pub keeps : payload_of (get s' key) ≡ Some (unwrap_or (payload_of (get s key)) payload)
  pub others : (other : ℕ) → other ≢ key → get s' other ≡ get s other
  pub paths : UpdatesPath before path (Some key) after
