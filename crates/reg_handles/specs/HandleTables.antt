-- What callers see of a table of handles.
use Rattle.std.specs.Prelude.{◌≡◌, ℕ, Bool, true, false, ◌||◌, List, [], ◌∷◌, map, Option, Some, None, refl}
use Rattle.std.specs.Ordering.{nat_cmp}
use Rattle.std.specs.Cmp.Lexicographic.{slice_cmp}
use Rattle.std.specs.BTreeMap.{is_at}
use Rattle.std.specs.Map.{lookup}
use Rattle.std.specs.Coded.{Coded, code_by, coded×, coded_ℕ, coded_list, coded_option}
use Rattle.reg_names.specs.Names.{folded, path_of, is_path}
use Rattle.reg_heap.specs.Paths.{Path, coded_bytes}
use Rattle.reg_model.specs.Worlds.{Handle, Destination, At, Deleted, same_path}

-- the open handles in the order of their numbers; and the paths that they lead to, as texts, each with what its caller keeps for it
pub record Table (K : Type 0) : Type 0 where
  pub handles : List Handle
  pub payloads : List (List ℕ × Option K)

-- what is found, where something is kept there
abbrev pub joined : {K : Type 0} → Option (Option K) → Option K
joined None = None
joined (Some o) = o

-- what is kept for the path of that text
abbrev pub payload_on : {K : Type 0} → Table K → List ℕ → Option K
payload_on t text = joined (lookup (is_at (slice_cmp nat_cmp text)) t.payloads)

-- the destination is that path
abbrev pub leads : Path → Destination → Bool
leads p (At q) = same_path q p
leads p Deleted = false

-- the handle, if there is one, leads to that path
abbrev pub leads_there : Path → Option Handle → Bool
leads_there p None = false
leads_there p (Some h) = leads p h.destination

-- there is such a handle, and it leads to a key, whose path this is
abbrev pub IsLeadingTo : Path → Option Handle → Type 0
IsLeadingTo p None = ⊥
IsLeadingTo p (Some h) = h.destination ≡ At p

-- one of the handles leads to that path
abbrev pub is_open : Path → List Handle → Bool
is_open p [] = false
is_open p (h ∷ hs) = leads p h.destination || is_open p hs

-- a text that is a path, as folded names
pub record IsFoldedPath (text : List ℕ) : Type 0 where
  pub path : is_path text ≡ true
  pub folded : map folded (path_of text) ≡ path_of text

-- a destination as the path that it leads to, if it leads to one
abbrev pub path_to : Destination → Option Path
path_to (At path) = Some path
path_to Deleted = None

abbrev pub destination_of : Option Path → Destination
destination_of (Some path) = At path
destination_of None = Deleted

pub destination-path : (destination : Destination) → destination_of (path_to destination) ≡ destination
destination-path (At path) = refl
destination-path Deleted = refl

abbrev pub coded_destination : Coded Destination
coded_destination = code_by (Option Path) (coded_option (coded_list coded_bytes)) path_to destination_of destination-path

abbrev pub coded_handle : Coded Handle
coded_handle =
    code_by ((ℕ × ℕ) × (ℕ × Destination)) (coded× (coded× coded_ℕ coded_ℕ) (coded× coded_ℕ coded_destination))
    (λ h. ((h.number, h.session), (h.mask, h.destination)))
    (λ p. record { number = p.0.0; session = p.0.1; mask = p.1.0; destination = p.1.1 }) (λ _. refl)

abbrev pub coded_table : {K : Type 0} → Coded K → Coded (Table K)
coded_table {K} code =
    code_by (List Handle × List (List ℕ × Option K)) (coded× (coded_list coded_handle) (coded_list (coded× coded_bytes (coded_option code))))
    (λ t. (t.handles, t.payloads)) (λ p. record { handles = p.0; payloads = p.1 }) (λ _. refl)
