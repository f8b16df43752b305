-- Paths, and the tree of keys (Win32 registry reference, "Structure of the Registry").
use Rattle.std.specs.Prelude.{ℕ, ◌+◌, ◌==◌, ◌&&◌, Bool, List, length, filter, bytes_eq, refl}
use Rattle.std.specs.Ordering.{nat_cmp}
use Rattle.std.specs.declared.cmp.Ordering.{Ordering}
use Rattle.std.specs.Cmp.Lexicographic.{slice_cmp}
use Rattle.std.specs.FinMap.{FinMap, code, keys}
use Rattle.std.specs.List.{starts_with}
use Rattle.std.specs.Coded.{Coded, code_by, coded×, coded_ℕ, coded_list}

-- a list of folded key names; the root is the empty list
abbrev pub Path : Type 0
Path = List (List ℕ)

abbrev pub path_cmp : Path → Path → Ordering
path_cmp = slice_cmp (slice_cmp nat_cmp)

-- a value: its name as it was first given, its type and its bytes
pub record Member : Type 0 where
  pub name : List ℕ
  pub kind : ℕ
  pub bytes : List ℕ

-- a key: its name as given, marks, class bytes, descriptor bytes, last write time and values
pub record Rec : Type 0 where
  pub name : List ℕ
  pub marks : ℕ
  pub class : List ℕ
  pub descriptor : List ℕ
  pub time : ℕ
  pub values : List Member

-- a finite map from paths to keys
abbrev pub Tree : Type 0
Tree = FinMap path_cmp Rec

abbrev pub coded_bytes : Coded (List ℕ)
coded_bytes = coded_list coded_ℕ

abbrev pub coded_member : Coded Member
coded_member =
    code_by (List ℕ × (ℕ × List ℕ)) (coded× coded_bytes (coded× coded_ℕ coded_bytes)) (λ m. (m.name, (m.kind, m.bytes)))
    (λ p. record { name = p.0; kind = p.1.0; bytes = p.1.1 }) (λ _. refl)

abbrev pub coded_rec : Coded Rec
coded_rec =
    code_by ((List ℕ × ℕ) × ((List ℕ × List ℕ) × (ℕ × List Member)))
    (coded× (coded× coded_bytes coded_ℕ) (coded× (coded× coded_bytes coded_bytes) (coded× coded_ℕ (coded_list coded_member))))
    (λ r. ((r.name, r.marks), ((r.class, r.descriptor), (r.time, r.values))))
    (λ p. record { name = p.0.0; marks = p.0.1; class = p.1.0.0; descriptor = p.1.0.1; time = p.1.1.0; values = p.1.1.1 }) (λ _. refl)

abbrev pub coded_tree : Coded Tree
coded_tree = code (coded_list coded_bytes) coded_rec

-- whether a path begins with p and is one name longer
abbrev pub is_child : Path → Path → Bool
is_child p q = starts_with bytes_eq q p && (length q == length p + 1)

-- the paths of the keys right below p, ordered by their last names, as a map's keys that begin alike are
abbrev pub children_of : Tree → Path → List Path
children_of t p = filter (is_child p) (keys t)
