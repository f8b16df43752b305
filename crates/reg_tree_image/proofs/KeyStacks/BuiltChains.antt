-- Keys and values that were built one behind the other.
use Rattle.std.proofs.Common.{◌≡◌, Bool, ℕ, List, [], ◌∷◌, ◌++◌, inl, inr}
use Rattle.std.proofs.Common.{refl, sym, ap, ◌∙◌, subst}
use Rattle.std.specs.FinMap.{insert}
use Rattle.reg_heap.specs.Paths.{Path, Rec, Tree, Member}
use Rattle.reg_heap.specs.Edits.{child_path}
use Rattle.reg_arena.specs.declared.ArenaFault.{ArenaFault}
use Rattle.reg_arena.specs.declared.ArenaFault.TheVariants.{Full, Memory as OutOfMemory}
use Rattle.reg_tree.specs.declared.node.Node.{Node}
use Rattle.reg_tree.specs.TreeKeys.{Keys, IsAt}
use Rattle.reg_tree_image.specs.declared.LoadFault.{LoadFault}
use Rattle.reg_tree_image.specs.declared.LoadFault.TheVariants.{Limit, Memory}
use Rattle.reg_tree.specs.BuiltKeys.{AreWhole, BuildsRoot, BuildsKey, LacksKeyRoom}
use Rattle.reg_tree_image.specs.CrowdedBins.{IsGroup, PutsMore, PutsGroups, PutsValues, CrowdsValues}
use Rattle.reg_tree_image.specs.CrowdedBins.{BuildsFirst, BuildsHere, BuildsOne, BuildsEach, BuildsAll, bare_of, IsReserved, CrowdsRoot, CrowdsInRoom, CrowdsBelow, CrowdsNext}
use Rattle.reg_tree_image.specs.Internal.BegunKeys.{IsLack, lack_of}

-- ---- values

-- one group more
pub groups-more : (path : Path) (time : ℕ) (groups : List (List Member)) (members left back : List Member) (old mid new : Keys) (group : List Member) →
    PutsGroups path time groups members left old mid → IsGroup left group back → PutsMore mid new path time group →
    PutsGroups path time (groups ++ group ∷ []) members back old new
groups-more path time [] members left back old mid new group e g p =
    (back, new, subst (λ ms. IsGroup ms group back) (sym e.0) g, subst (λ k. PutsMore k new path time group) e.1 p, (refl, refl))
groups-more path time (x ∷ groups) members left back old mid new group e g p =
    (e.0, e.1, e.2, e.3, groups-more path time groups e.0 left back e.1 mid new group e.4 g p)

-- ---- what was lacking

-- what the arena lacked
pub as-lack : (crowded : Type 0) (fault : ArenaFault) (e : LoadFault) → e ≡ lack_of fault → (fault ≡ Full → crowded) → IsLack crowded e
as-lack crowded Full e i f = subst (λ e. IsLack crowded e) (sym i) (f refl)
as-lack crowded OutOfMemory e i f = subst (λ e. IsLack crowded e) (sym i) tt

-- room that lacks for another reason
pub lack-as : (here crowded : Type 0) (fault : LoadFault) → (here → crowded) → IsLack here fault → IsLack crowded fault
lack-as here crowded Memory f l = tt
lack-as here crowded Limit f l = f l
lack-as here crowded fault f l = absurd l

-- ---- keys

each-more : {ahead : Bool} (told : List (Path × Rec)) (old mid new : Keys) (path above : Path) (key : Rec) → BuildsEach ahead told old mid →
    path ≡ child_path above key.name → BuildsOne ahead mid new above key → BuildsEach ahead (told ++ (path, key) ∷ []) old new
each-more {ahead = ahead} [] old mid new path above key b p o = (above, new, p, subst (λ k. BuildsOne ahead k new above key) b o, refl)
each-more {ahead = ahead} (e ∷ told) old mid new path above key b p o =
    (b.0, b.1, b.2, b.3, each-more told b.1 mid new path above key b.4 p o)

pub all-more : {ahead : Bool} (told : List (Path × Rec)) (mid new : Keys) (path above : Path) (key : Rec) → BuildsAll ahead told mid →
    path ≡ child_path above key.name → BuildsOne ahead mid new above key → BuildsAll ahead (told ++ (path, key) ∷ []) new
all-more [] mid new path above key b p o = absurd b
all-more (e ∷ told) mid new path above key b p o = (b.0, b.1, b.2, each-more told b.0 mid new path above key b.3 p o)

pub all-first : {ahead : Bool} (new : Keys) (path : Path) (key : Rec) → path ≡ [] → BuildsFirst ahead new key → BuildsAll ahead ((path, key) ∷ []) new
all-first new path key p b = (new, p, b, refl)

pub crowds-next : {ahead : Bool} (told : List (Path × Rec)) (keys : Keys) (path above : Path) (key : Rec) → BuildsAll ahead told keys →
    path ≡ child_path above key.name → CrowdsBelow ahead keys above key → CrowdsNext ahead told path key
crowds-next [] keys path above key b p c = absurd b
crowds-next (e ∷ told) keys path above key b p c = (keys, above, b, p, c)

-- ---- keys with their values, where what was made is the key without these

module _ (made key : Rec) (given : List Member) (same : made ≡ bare_of key) (values : given ≡ key.values) where
  its-path : (above : Path) → child_path above made.name ≡ child_path above key.name
  its-path above = ap (λ (r : Rec). child_path above r.name) same

  -- the key with its values, and its node
  pub told-below : (new : Keys) (base : Tree) (above : Path) (node : Node) →
      new.tree ≡ insert base (child_path above made.name) (record made { values = given }) → IsAt new (child_path above made.name) node →
      (new.tree ≡ insert base (child_path above key.name) key) × IsAt new (child_path above key.name) node
  told-below new base above node e at =
      subst (λ path. (new.tree ≡ insert base path key) × IsAt new path node) (its-path above) (
        e ∙ ap (insert base (child_path above made.name)) (ap (λ (r : Rec). record r { values = given }) same
            ∙ ap (λ (ms : List Member). record key { values = ms }) values),
        at,
      )

  pub builds-one : {ahead : Bool} (old roomy mid new : Keys) (above : Path) → IsReserved ahead old roomy → BuildsKey roomy mid above made → AreWhole mid →
      PutsValues (child_path above made.name) key.time given mid new → BuildsHere ahead old new above key
  builds-one old roomy mid new above r b w p = (
    roomy,
    r,
    mid,
    subst (λ r. BuildsKey roomy mid above r) same b,
    w,
    subst (λ path. PutsValues path key.time key.values mid new) (its-path above)
        (subst (λ ms. PutsValues (child_path above made.name) key.time ms mid new) values p),
  )

  pub crowds-below : {ahead : Bool} (old roomy mid : Keys) (above : Path) → IsReserved ahead old roomy → BuildsKey roomy mid above made → AreWhole mid →
      CrowdsValues mid (child_path above made.name) key.time given → CrowdsInRoom ahead old above key
  crowds-below old roomy mid above r b w c = (
    roomy,
    r,
    inr (
      mid,
      subst (λ r. BuildsKey roomy mid above r) same b,
      w,
      subst (λ path. CrowdsValues mid path key.time key.values) (its-path above)
          (subst (λ ms. CrowdsValues mid (child_path above made.name) key.time ms) values c),
    ),
  )

  pub crowds-key : {ahead : Bool} (old roomy : Keys) (above : Path) → IsReserved ahead old roomy → LacksKeyRoom roomy above made → CrowdsInRoom ahead old above key
  crowds-key old roomy above r l = (roomy, r, inl (subst (λ r. LacksKeyRoom roomy above r) same l))

  pub builds-first : {ahead : Bool} (mid roomy new : Keys) → BuildsRoot mid made → AreWhole mid → IsReserved ahead mid roomy → PutsValues [] key.time given roomy new →
      BuildsFirst ahead new key
  builds-first mid roomy new b w r p =
      (mid, subst (λ r. BuildsRoot mid r) same b, w, roomy, r, subst (λ ms. PutsValues [] key.time ms roomy new) values p)

  pub crowds-root : {ahead : Bool} (mid roomy : Keys) → BuildsRoot mid made → AreWhole mid → IsReserved ahead mid roomy → CrowdsValues roomy [] key.time given →
      CrowdsRoot ahead key
  crowds-root mid roomy b w r c =
      (mid, subst (λ r. BuildsRoot mid r) same b, w, roomy, r, subst (λ ms. CrowdsValues roomy [] key.time ms) values c)
