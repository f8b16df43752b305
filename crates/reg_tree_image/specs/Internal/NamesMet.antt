-- The names that were met in one key, of its values or of its subkeys.
use Rattle.std.specs.Prelude.{◌≡◌, nat_lt, if◌then◌else◌, ℕ, Bool, true, List, [], length, Vec}
use Rattle.std.specs.Hash.FoldHasher.{initial, write, finish}
use Rattle.std.specs.declared.cmp.Ordering.{Ordering}
use Rattle.std.specs.declared.borrow.CowSlice.{CowSlice}
use Rattle.std.specs.Cow.{cow_slice_items}
use Rattle.std.specs.List.{All, AllPairs, list_any}
use Rattle.std.specs.Ordering.{is_lt, nat_cmp, ordering_then}
use Rattle.std.specs.Cmp.Lexicographic.{slice_cmp}
use Rattle.std.specs.BTreeMap.{is_at}
use Rattle.reg_names.specs.Names.{folded, name_cmp}
use Rattle.reg_heap.specs.Paths.{Member}
use Rattle.reg_heap.specs.Members.{same_name}
use Rattle.reg_tree_image.specs.declared.met_names.TheConstants.{FEW}

-- a value of that name, after folding, is among these
abbrev pub is_among : List ℕ → List Member → Bool
is_among name members = list_any (λ (m : Member). same_name m.name name) members

-- the hash of a folded name
abbrev pub text_hash : List ℕ → ℕ
text_hash name = finish (write initial name)

-- the order of folded names behind their hashes
abbrev pub hashed_cmp : {Y : Type 0} → List ℕ → ℕ × Vec ℕ Y → Ordering
hashed_cmp name k = ordering_then (nat_cmp (text_hash name) k.0) (slice_cmp nat_cmp name k.1.items)

-- among these folded names, each behind its hash, is that of a name
abbrev pub is_met : {Y : Type 0} → List (ℕ × Vec ℕ Y) → List ℕ → Bool
is_met met name = list_any (is_at (hashed_cmp (folded name))) met

-- just the names of these values are met
abbrev pub AreMet : {Y : Type 0} → List Member → List (ℕ × Vec ℕ Y) → Type 0
AreMet before met = (name : List ℕ) → is_among name before ≡ is_met met name

-- the values of which folded names are kept: all where they are more than a few, and else none
abbrev pub gathered : List Member → List Member
gathered members = if nat_lt FEW (length members) then members else []

-- of these values just those folded names are kept that are to be
abbrev pub AreKnown : {Y : Type 0} → List Member → List (ℕ × Vec ℕ Y) → Type 0
AreKnown before met = AreMet (gathered before) met

-- among these names of subkeys is one that folds as another
abbrev pub is_one_of : {Z : Type 0} → List ℕ → List (CowSlice ℕ Z) → Bool
is_one_of {Z} name names = list_any (λ (n : CowSlice ℕ Z). same_name (cow_slice_items n) name) names

-- each of these names comes behind those before it, in the order of names
abbrev pub AreRising : {Z : Type 0} → List (CowSlice ℕ Z) → Type 0
AreRising {Z} names = AllPairs (λ (a b : CowSlice ℕ Z). is_lt (name_cmp (cow_slice_items a) (cow_slice_items b)) ≡ true) names

-- a name comes behind each of these
abbrev pub IsBehind : {Z : Type 0} → List (CowSlice ℕ Z) → List ℕ → Type 0
IsBehind {Z} names name = All (λ (n : CowSlice ℕ Z). is_lt (name_cmp (cow_slice_items n) name) ≡ true) names
