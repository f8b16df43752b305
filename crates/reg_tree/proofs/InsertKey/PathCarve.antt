-- The cells carved for keys of a path's names: their sizes, and that they are ready.
use Rattle.std.proofs.Common.{◌≡◌, ℕ, ◌+◌, ◌*◌, ◌%◌, ◌≤◌, ◌<◌, true, nat_le, Option, Some, None, IsSome, List, [], ◌∷◌, ◌++◌, map, length}
use Rattle.std.proofs.Common.{refl, sym, ◌∙◌, subst, arith, Vec, Global}
use Rattle.std.specs.Prelude.{Result, Err}
use Rattle.std.specs.List.{list_all, AllByRecursion}
use Rattle.std.proofs.lemmas.Bool.{and_parts}
use Rattle.reg_names.specs.declared.TheConstants.{PATH_LIMIT, KEY_NAME_LIMIT}
use Rattle.reg_names.specs.Names.{is_key_name, are_key_names, is_path, path_of}
use Rattle.reg_heap.specs.declared.limits.TheConstants.{BINS_LIMIT, GROWTH_BOUND, MADE_LIMIT}
use Rattle.reg_arena.specs.declared.ArenaFault.{ArenaFault}
use Rattle.reg_arena.specs.declared.ArenaFault.TheVariants as arena
use Rattle.reg_arena.specs.Arena.{Bins}
use Rattle.reg_arena.specs.Carves.{NoFit}
use Rattle.reg_arena.specs.Cells.{cell_at}
use Rattle.reg_arena.specs.NewBin.{PassesLimit}
use Rattle.reg_arena.specs.NewCells.{AreSizes, total_of}
use Rattle.reg_arena.proofs.Carving.CarveCuts.{total_of-append}
use Rattle.reg_arena.proofs.Contents.CellWrites.{all-append}
use Rattle.reg_records.specs.KeyNodes.{key_at}
use Rattle.reg_records.specs.SubkeyLists.{Entry}
use Rattle.reg_index.specs.declared.IndexCells.{IndexCells}
use Rattle.reg_index.specs.declared.Place.{Place}
use Rattle.reg_index.specs.Subkeys.{AreSubkeys, IsPlaceIn, each_of, index_of, insert_sizes, taken}
use Rattle.reg_index.proofs.PlannedSizes.{IsSizeTo}
use Rattle.reg_tree.specs.declared.fault.TreeFault.{TreeFault}
use Rattle.reg_tree.specs.declared.fault.TreeFault.TheVariants.{Full}
use Rattle.reg_tree.specs.CellSizes.{first_cells, key_size, own_sizes, planned, planned_sizes, sizes_of, LacksRoom}
use Rattle.reg_tree.specs.Internal.TreeFaults.{of_arena}
use Rattle.reg_tree.specs.Internal.KeyNodeChanges.{HasSubkeysList}
use Rattle.reg_tree.specs.Internal.TreeInvariant.{IsHere}
use Rattle.reg_tree.specs.Internal.ReachedPlaces.{BelongsFirst}
use Rattle.reg_tree.specs.Internal.SpareCells.{IsGrowing, IsClassSize, IsSecuritySize}
use Rattle.reg_tree.proofs.InsertKey.PlanSizes.{IsPlan, first_plan, plan_good}
use Rattle.reg_tree.proofs.Invariant.KeyOfTree as here
use Rattle.reg_tree.proofs.InsertKey.PathGrowth.{name_short}
use Rattle.reg_tree.proofs.InsertKey.SpareCellTaken.{growing_there, growing_subkeys, planned_is}

-- ---- the parent

-- a key of a tree without spare cells
pub growing : (bytes : List ℕ) (key : ℕ) → IsHere bytes key → IsGrowing bytes key []
growing bytes key t = record { root = t.root; path = t.path; keys = t.holds.keys; ring = t.holds.ring; shape = t.holds.shape; at = t.at }

pub parent_there : (bytes : List ℕ) (key : ℕ) → IsHere bytes key → IsSome (key_at (cell_at bytes) key)
parent_there bytes key t = growing_there bytes key [] (growing bytes key t)

pub parent_subkeys : (bytes : List ℕ) (key : ℕ) → IsHere bytes key → (count list : ℕ) → HasSubkeysList (cell_at bytes) key count list →
    (entries : List Entry) × AreSubkeys (cell_at bytes) count list entries
parent_subkeys bytes key t count list has = growing_subkeys bytes key [] (growing bytes key t) count list has

-- the first name belongs at a place among them
pub parent_place : (bytes : List ℕ) (key : ℕ) → IsHere bytes key → (count list : ℕ) → HasSubkeysList (cell_at bytes) key count list → (names : List (List ℕ)) (place : Place) →
    BelongsFirst (cell_at bytes) key names place → (names ≡ [] → ⊥) → IsPlaceIn (index_of (cell_at bytes) count list) place
parent_place bytes key t count list has [] place belongs some = absurd (some refl)
parent_place bytes key t count list has (name ∷ others) place belongs some =
    let r = (here.branch bytes key t).node.key in
    let reads = here.key_is bytes key t in
    let same = has r reads in
    subst (λ n. IsPlaceIn (index_of (cell_at bytes) n list) place) (sym same.0)
    (subst (λ o. IsPlaceIn (index_of (cell_at bytes) r.fields.subkeys o) place) (sym same.1) (belongs name others refl r reads).0)

-- ---- sizes

-- each is one that a cell may have
abbrev IsSize : ℕ → Type 0
IsSize size = (0 < size) × (size % 8 ≡ 0)

taken-sizes : (most : ℕ) (plan : Option ℕ) → IsSizeTo most plan → AreSizes (taken plan)
taken-sizes most None p = tt
taken-sizes most (Some size) p = let s = p size refl in ((omega (arith, s), s.0), tt)

each-sizes : (plan : IndexCells) → IsPlan plan → AreSizes (each_of plan)
each-sizes plan p =
    all-append IsSize (taken plan.list ++ taken plan.second) (taken plan.root)
    (all-append IsSize (taken plan.list) (taken plan.second) (taken-sizes 4016 plan.list p.list) (taken-sizes 2016 plan.second p.second))
    (taken-sizes 240016 plan.root p.root)

are-sizes : (plan : IndexCells) (names : List (List ℕ)) → IsPlan plan → AreSizes (sizes_of plan (map own_sizes names))
are-sizes plan [] p = tt
are-sizes plan (name ∷ names) p =
    all-append IsSize (each_of plan) (key_size name ∷ sizes_of first_cells (map own_sizes names)) (each-sizes plan p)
    ((omega arith, omega arith), are-sizes first_cells names first_plan)

-- with the cells of a class and of a descriptor
class-sizes : (class : Option ℕ) → IsClassSize class → AreSizes (planned_sizes class)
class-sizes None c = tt
class-sizes (Some size) c = let e = c.2 in ((omega (arith, e), omega (arith, e)), tt)

more-sizes : (more : Option ℕ) → IsSecuritySize more → AreSizes (planned_sizes more)
more-sizes None m = tt
more-sizes (Some size) m = let e = m.2 in ((omega (arith, e), omega (arith, e)), tt)

pub both-sizes : (class more : Option ℕ) → IsClassSize class → IsSecuritySize more → AreSizes (planned_sizes class ++ planned_sizes more)
both-sizes class more c m = all-append IsSize (planned_sizes class) (planned_sizes more) (class-sizes class c) (more-sizes more m)

pub are-all-sizes : (plan : IndexCells) (names : List (List ℕ)) (class more : Option ℕ) → IsPlan plan → IsClassSize class → IsSecuritySize more →
    AreSizes (sizes_of plan (map own_sizes names) ++ (planned_sizes class ++ planned_sizes more))
are-all-sizes plan names class more p c m =
    all-append IsSize (sizes_of plan (map own_sizes names)) (planned_sizes class ++ planned_sizes more) (are-sizes plan names p) (both-sizes class more c m)

-- names of at most 255 bytes
abbrev Short : List (List ℕ) → Type 0
Short names = AllByRecursion (λ (name : List ℕ). length name ≤ KEY_NAME_LIMIT) names

short-by : (names : List (List ℕ)) → list_all is_key_name names ≡ true → Short names
short-by [] e = tt
short-by (name ∷ names) e = let p = and_parts (is_key_name name) (list_all is_key_name names) e in (name_short name p.0, short-by names p.1)

short-in : (limit : ℕ) (names : List (List ℕ)) → are_key_names limit names ≡ true → Short names
unfolding are_key_names
short-in limit names e = short-by names (and_parts (list_all is_key_name names) (nat_le (length names) limit) e).0

-- all together, by the number of keys
total-taken : (most : ℕ) (plan : Option ℕ) → IsSizeTo most plan → total_of (taken plan) ≤ most
total-taken most None p = omega arith
total-taken most (Some size) p = let s = (p size refl).2 in omega (arith, s)

total-each : (plan : IndexCells) → IsPlan plan → total_of (each_of plan) ≤ 246048
total-each plan p =
    let a = total-taken 4016 plan.list p.list in
    let b = total-taken 2016 plan.second p.second in
    let c = total-taken 240016 plan.root p.root in
    let m = total_of-append (taken plan.list ++ taken plan.second) (taken plan.root) in
    let n = total_of-append (taken plan.list) (taken plan.second) in
    omega (arith, a, b, c, m, n)

total-first : (names : List (List ℕ)) → Short names → total_of (sizes_of first_cells (map own_sizes names)) ≤ 360 * length names
total-first [] s = omega arith
total-first (name ∷ names) s = let t = total-first names s.1 in let l = s.0 in omega (arith, t, l)

total-some : (plan : IndexCells) (names : List (List ℕ)) → IsPlan plan → Short names → total_of (sizes_of plan (map own_sizes names)) ≤ 246048 + 360 * length names
total-some plan [] p s = omega arith
total-some plan (name ∷ names) p s =
    let e = total-each plan p in
    let a = total_of-append (each_of plan) (key_size name ∷ sizes_of first_cells (map own_sizes names)) in
    let t = total-first names s.1 in
    let l = s.0 in
    omega (arith, e, a, t, l)

total-few : (plan : IndexCells) (path : List ℕ) → IsPlan plan → is_path path ≡ true → length (path_of path) ≤ MADE_LIMIT → total_of (sizes_of plan (map own_sizes (path_of path))) ≤ 257568
total-few plan path p valid few = let t = total-some plan (path_of path) p (short-in PATH_LIMIT (path_of path) valid) in omega (arith, t, few)

total-more : (more : Option ℕ) → IsSecuritySize more → total_of (planned_sizes more) ≤ 65560
total-more None m = omega arith
total-more (Some size) m = let l = m.1 in let e = m.2 in omega (arith, l, e)

total-class : (class : Option ℕ) → IsClassSize class → total_of (planned_sizes class) ≤ 65544
total-class None c = omega arith
total-class (Some size) c = let l = c.1 in let e = c.2 in omega (arith, l, e)

pub total-with : (plan : IndexCells) (path : List ℕ) (class more : Option ℕ) → IsPlan plan → is_path path ≡ true → length (path_of path) ≤ MADE_LIMIT →
    IsClassSize class → IsSecuritySize more → total_of (sizes_of plan (map own_sizes (path_of path)) ++ (planned_sizes class ++ planned_sizes more)) ≤ 388672
total-with plan path class more p valid few c m =
    let a = total_of-append (sizes_of plan (map own_sizes (path_of path))) (planned_sizes class ++ planned_sizes more) in
    let both = total_of-append (planned_sizes class) (planned_sizes more) in
    let b = total-few plan path p valid few in
    let d = total-class class c in
    let e = total-more more m in
    omega (arith, a, both, b, d, e)

-- the bins are near their limit where no bin for them has room
pub near-limit : (bytes : List ℕ) (total : ℕ) → total ≤ 388672 → PassesLimit bytes total → BINS_LIMIT < length bytes + GROWTH_BOUND
near-limit bytes total small past = let l = past.least.least GROWTH_BOUND refl (omega (arith, small)) in let p = past.passes in omega (arith, l, p)

-- a plan that was answered is the key's
pub plan_is : (bytes : List ℕ) (key : ℕ) → IsHere bytes key → (count list : ℕ) → HasSubkeysList (cell_at bytes) key count list → (place : Place) →
    (plan : IndexCells) → plan ≡ insert_sizes (cell_at bytes) count list place → plan ≡ planned (cell_at bytes) key place
plan_is bytes key t count list has place plan e = e ∙ sym (planned_is bytes key [] (growing bytes key t) count list has place)

-- and good
pub plan_told : (bytes : List ℕ) (key : ℕ) → IsHere bytes key → (place : Place) → (plan : IndexCells) → plan ≡ planned (cell_at bytes) key place → IsPlan plan
plan_told bytes key t place plan e = subst IsPlan (sym e) (plan_good bytes key t place)

-- only where the arena is full is the tree
pub full-is : (fault : ArenaFault) (told : TreeFault) → told ≡ of_arena fault → told ≡ Full → fault ≡ arena.Full
full-is fault told e f = by fault (sym e ∙ f)
  where
    by : (fault : ArenaFault) → of_arena fault ≡ Full → fault ≡ arena.Full
    by arena.Full e = refl
    by arena.Memory e = absurd (cc)

-- an answer's fault
pub which_fault : (fault told : ArenaFault) → ◌≡◌ {A = Result (Vec ℕ Global) ArenaFault} (Err fault) (Err told) → fault ≡ told
which_fault fault told e = cc

-- where there is no room for the cells planned, there is none for those that keys of these names take
pub lacks_room : (bins : Bins) (theirs sizes : List ℕ) → sizes ≡ theirs →
    0 < length sizes → PassesLimit bins.bytes (total_of sizes) → NoFit bins.bytes (total_of sizes) → LacksRoom bins theirs
lacks_room bins theirs sizes sizes_are some past none = subst (LacksRoom bins) sizes_are (some, none, past)
