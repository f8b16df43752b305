-- A key whose subkeys were changed and noted: it is seen as it is then. And a key's subkeys, from the keys right below it.
use Rattle.std.proofs.Common.{◌≡◌, ℕ, ◌+◌, ◌*◌, ◌<◌, ◌≤◌, Some, IsSome, List, [], ◌∷◌, ◌++◌, map, length, take, drop, refl, sym, ap, ◌∙◌, subst, arith}
use Rattle.std.specs.List.{AllByRecursion}
use Rattle.std.specs.Option.{option_map, option_and_then}
use Rattle.reg_names.specs.Names.{folded, hash}
use Rattle.reg_heap.specs.Heaps.{Heap}
use Rattle.reg_heap.specs.Kinds.{Found, is_shared, owned, shared}
use Rattle.reg_heap.specs.Kinds.Kind.{Class}
use Rattle.reg_shape.specs.Internal.Forests.{Forest, Branch, heads, Stand}
use Rattle.reg_shape.specs.Internal.Forests.Forest.{End, Rooted as Hangs}
use Rattle.reg_records.specs.RecordCells.{held}
use Rattle.reg_records.specs.KeyNodes.{KeyRecord, key_at, IsPlainKey}
use Rattle.reg_records.specs.SubkeyLists.{Entry, offsets_in}
use Rattle.reg_records.specs.BigData.{if_any}
use Rattle.reg_shape.specs.Nodes.{Node, KeyList, Index, members_at, index_at, entries_of, node_of, node_in, met_of, look}
use Rattle.reg_shape.specs.Nodes.Index.{Unlisted, Listed, Rooted}
use Rattle.reg_shape.specs.Written.{Pairwise, Precedes, Fits}
use Rattle.reg_shape.proofs.Wholeness.ShapeCounts.{tally-append, nothing-met, nothing-taken}
use Rattle.reg_shape.specs.Internal.Shapes.{joined, lists_met, index_cells, cells_of, IsSeen, StandsIn}
use Rattle.reg_shape.proofs.Walking.InnerReadings.{class-inner, members-inner}
use Rattle.reg_shape.proofs.Frame.ReadingFrame.{pieces-local, members-local}
use Rattle.reg_shape.proofs.Frame.KeyFrame.{Keeps, agree-inner}
use Rattle.reg_shape.proofs.Frame.WrittenFrame.{list-kept}
use Rattle.reg_shape.proofs.Lookup.LookupOfShape.{key-looked}
use Rattle.reg_shape.proofs.Walking.WalkRefinement.{IsLooked, look-open}
use Rattle.reg_index.specs.Subkeys.{AreSubkeys, Rises, name_at, name_or_none, names_in}
use Rattle.reg_heap.specs.declared.limits.TheConstants.{SUBKEYS_LIMIT}
use Rattle.reg_index.proofs.RefinementOfSubkeys.{rises-of}
use Rattle.reg_tree.specs.Internal.KeyNodeChanges.{noted_subkeys}
use Rattle.reg_tree.proofs.Invariant.CellReadings.{is_some_of}
use Rattle.reg_tree.proofs.Invariant.OwnCells.{own-parts, shared-parts}

-- ---- an index's cells

shared-lists : (z : ℕ) (lists : List KeyList) → ◌≡◌ {A = ℕ} (shared z (lists_met lists [])) 0
shared-lists z [] = refl
shared-lists z (list ∷ lists) =
    let n = length list.list.entries in
    let rest = shared-lists z lists in
    let parts = tally-append (is_shared z) (joined (take n [])) (lists_met lists (drop n [])) in
    let none = nothing-taken (is_shared z) n in
    let same = nothing-met (is_shared z) lists n in
    omega (arith, rest, parts, none, same)

-- none is a security
pub shared-index : (z : ℕ) (index : Index) → ◌≡◌ {A = ℕ} (shared z (index_cells index)) 0
shared-index z Unlisted = refl
shared-index z (Listed list) = refl
shared-index z (Rooted offset lists) = let l = shared-lists z lists in omega (arith, l)

-- ---- a key's subkeys changed: `h` before, `k` when that was noted in the key node

module _ (h k : Heap) (root offset : ℕ) (node : Node) (seen : IsSeen h root offset node) (l : IsLooked h offset node) (count list name moment : ℕ) (entries : List Entry)
    (key-now : key_at k offset ≡ Some (noted_subkeys count list name moment node.key)) (plain-now : IsPlainKey (held k offset))
    (class-calm : Keeps h k l.class_cells) (values-calm : Keeps h k l.value_cells) (subkeys : AreSubkeys k count list entries) where
  abbrev new_key : KeyRecord
  new_key = noted_subkeys count list name moment node.key

  -- the key as it is after the change
  abbrev pub reindexed : Node
  reindexed = record { key = new_key; class = node.class; values = node.values; cells = met_of offset new_key l.class_cells l.value_cells; index = subkeys.index }

  pub looks-reindexed : look k offset ≡ Some reindexed
  unfolding look
  looks-reindexed =
      let key = node.key in
      let class = pieces-local (if_any Class key.fields.class_length key.fields.class) h k (node.class, l.class_cells) l.class_is
      (agree-inner h k l.class_cells (class-inner h key.fields.class_length key.fields.class (node.class, l.class_cells) l.class_is) class-calm) in
      let values = members-local key.fields.values key.fields.values_list h k (node.values, l.value_cells) l.values_are
      (agree-inner h k l.value_cells (members-inner h key.fields.values key.fields.values_list (node.values, l.value_cells) l.values_are)
      values-calm) in
      let index = subkeys.read in
      ap (option_and_then (node_in k offset)) key-now
      ∙ (ap (option_and_then (λ class. option_and_then (λ values. option_map (node_of offset new_key class values) (index_at k count list))
      (members_at key.fields.values key.fields.values_list k))) class
      ∙ (ap (option_and_then (λ values. option_map (node_of offset new_key (node.class, l.class_cells) values) (index_at k count list))) values
      ∙ ap (option_map (node_of offset new_key (node.class, l.class_cells) (node.values, l.value_cells))) index))

  number : count ≡ length (entries_of subkeys.index)
  number = sym subkeys.number ∙ ap length (sym subkeys.entries_are)

  pub sees-reindexed : 2 * name < 65536 → count ≤ SUBKEYS_LIMIT → IsSeen k root offset reindexed
  sees-reindexed short few =
      let w = seen.written in
      let key = node.key in
      record {
        reads = looks-reindexed;
        written = record {
          plain = plain-now;
          flags = w.flags;
          name = w.name;
          parent = w.parent;
          class = w.class;
          values = record {
            list = list-kept h k key.fields.values key.fields.values_list node.values l.value_cells l.values_are
                (agree-inner h k l.value_cells (members-inner h key.fields.values key.fields.values_list (node.values, l.value_cells) l.values_are)
                values-calm) w.values.list;
            longest_name = w.values.longest_name;
            largest = w.values.largest;
          };
          subkeys = number;
          few = few;
          none = subkeys.unlisted;
          upper = (let u = w.upper in omega (arith, u, short));
          index = subkeys.written;
        };
      }

  -- its own cells are what they were, but for the list
  pub owned-reindexed : (z : ℕ) → owned z (cells_of reindexed) + owned z (index_cells node.index) ≡ owned z (cells_of node) + owned z (index_cells subkeys.index)
  owned-reindexed z =
      let a = ap (λ (found : List Found). owned z (found ++ index_cells node.index)) l.cells ∙ own-parts z offset node.key l.class_cells l.value_cells node.index in
      let b = own-parts z offset new_key l.class_cells l.value_cells subkeys.index in
      omega (arith, a, b)

  pub shared-reindexed : (z : ℕ) → shared z (cells_of reindexed) ≡ shared z (cells_of node)
  shared-reindexed z =
      let a = ap (λ (found : List Found). shared z (found ++ index_cells node.index)) l.cells ∙ shared-parts z offset node.key l.class_cells l.value_cells node.index in
      let b = shared-parts z offset new_key l.class_cells l.value_cells subkeys.index in
      let c = shared-index z node.index in
      let d = shared-index z subkeys.index in
      omega (arith, a, b, c, d)

-- ---- a key's subkeys, from the keys below it

-- each key reads as its node
abbrev pub AreLooked : Heap → List (ℕ × Node) → Type 0
AreLooked h below = AllByRecursion (λ (e : ℕ × Node). look h e.0 ≡ Some e.1) below

pub heads-looked : (h : Heap) (root : ℕ) (F : Forest Node) → Stand (IsSeen h root) Fits F → AreLooked h (heads F)
heads-looked h root End a = tt
heads-looked h root (Hangs offset node below beside) a = (a.0.0.reads, heads-looked h root beside a.1)

abbrev names_of : List (ℕ × Node) → List (List ℕ)
names_of below = map (λ (e : ℕ × Node). e.1.key.name) below

first-of : (x y : ℕ) (xs ys : List ℕ) → ◌≡◌ {A = List ℕ} (x ∷ xs) (y ∷ ys) → x ≡ y
first-of x y xs ys e = cc

rest-of : (x y : ℕ) (xs ys : List ℕ) → ◌≡◌ {A = List ℕ} (x ∷ xs) (y ∷ ys) → xs ≡ ys
rest-of x y xs ys e = cc

-- entries name the keys below in order
module _ (h : Heap) where
  key-of : (offset : ℕ) (node : Node) (e : Entry) → look h offset ≡ Some node → offset ≡ e.offset → key_at h e.offset ≡ Some node.key
  key-of offset node e l p = subst (λ o. key_at h o ≡ Some node.key) p (key-looked h offset node l)

  keys-there : (below : List (ℕ × Node)) (entries : List Entry) → AreLooked h below → map (λ (e : ℕ × Node). e.0) below ≡ offsets_in entries →
      AllByRecursion (λ (e : Entry). IsSome (key_at h e.offset)) entries
  keys-there below [] a p = tt
  keys-there [] (e ∷ entries) a p = absurd (let n = ap length p in omega (arith, n))
  keys-there ((offset, node) ∷ below) (e ∷ entries) a p =
      (is_some_of _ _ (key-of offset node e a.0 (first-of _ _ _ _ p)), keys-there below entries a.1 (rest-of _ _ _ _ p))

  names-there : (below : List (ℕ × Node)) (entries : List Entry) → AreLooked h below → map (λ (e : ℕ × Node). e.0) below ≡ offsets_in entries → names_in h entries ≡ map folded (names_of below)
  names-there [] [] a p = refl
  names-there ((offset, node) ∷ below) [] a p = absurd (let n = ap length p in omega (arith, n))
  names-there [] (e ∷ entries) a p = absurd (let n = ap length p in omega (arith, n))
  names-there ((offset, node) ∷ below) (e ∷ entries) a p =
      let one : name_at h e.offset ≡ node.key.name = ap name_or_none (key-of offset node e a.0 (first-of _ _ _ _ p)) in
      let more = names-there below entries a.1 (rest-of _ _ _ _ p) in
      λ i. folded (one i) ∷ more i

  hashes-there : (below : List (ℕ × Node)) (entries : List Entry) → AreLooked h below → map (λ (e : ℕ × Node). e.0) below ≡ offsets_in entries →
      map (λ (e : ℕ × Node). hash e.1.key.name) below ≡ map (λ (e : Entry). e.hint) entries
      → AllByRecursion (λ (e : Entry). e.hint ≡ hash (name_at h e.offset)) entries
  hashes-there below [] a p q = tt
  hashes-there [] (e ∷ entries) a p q = absurd (let n = ap length p in omega (arith, n))
  hashes-there ((offset, node) ∷ below) (e ∷ entries) a p q =
      let one : name_at h e.offset ≡ node.key.name = ap name_or_none (key-of offset node e a.0 (first-of _ _ _ _ p)) in
      (sym (first-of _ _ _ _ q) ∙ ap hash (sym one), hashes-there below entries a.1 (rest-of _ _ _ _ p) (rest-of _ _ _ _ q))

all-names : (P : List ℕ → Type 0) (below : List (ℕ × Node)) → AllByRecursion (λ (e : ℕ × Node). P e.1.key.name) below → AllByRecursion P (names_of below)
all-names P [] a = tt
all-names P (e ∷ below) a = (a.0, all-names P below a.1)

names-ordered : (below : List (ℕ × Node)) → Pairwise (λ (a b : ℕ × Node). Precedes a.1.key.name b.1.key.name) below → Pairwise Precedes (names_of below)
names-ordered [] a = tt
names-ordered (e ∷ below) a = (all-names (Precedes e.1.key.name) below a.0, names-ordered below a.1)

-- a key has these subkeys, by the keys right below it
pub subkeys-below : (h : Heap) (root offset : ℕ) (node : Node) (below : List (ℕ × Node)) → IsSeen h root offset node → Fits offset node below → AreLooked h below
    → AreSubkeys h node.key.fields.subkeys node.key.fields.subkeys_list (entries_of node.index)
subkeys-below h root offset node below seen fits looked =
    let l = look-open h offset node seen.reads in
    let w = seen.written in
    let entries : List Entry = entries_of node.index in
    record {
      index = node.index;
      read = l.index_is;
      written = w.index;
      entries_are = refl;
      number = sym w.subkeys;
      unlisted = w.none;
      keys = keys-there h below entries looked fits.offsets;
      hashes = hashes-there h below entries looked fits.offsets fits.hashes;
      rising = subst Rises (sym (names-there h below entries looked fits.offsets)) (rises-of (names_of below) (names-ordered below fits.order));
    }

pub branch-subkeys : (h : Heap) (root : ℕ) (b : Branch Node) → StandsIn h root b →
    AreSubkeys h b.node.key.fields.subkeys b.node.key.fields.subkeys_list (entries_of b.node.index)
branch-subkeys h root b stands = subkeys-below h root b.offset b.node (heads b.below) stands.0 stands.1 (heads-looked h root b.below stands.2)
