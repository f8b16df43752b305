-- The cells of one key among the spare ones, by the offsets where they stand.
use Rattle.std.proofs.Common.{◌≡◌, ℕ, suc, ◌+◌, ◌-◌, ◌<◌, ◌≤◌, Option, Some, None, IsSome, List, [], ◌∷◌, ◌++◌, length, drop, get_or, refl, sym, ap, ◌∙◌, subst, arith}
use Rattle.std.specs.Option.{option_map}
use Rattle.std.proofs.lemmas.List.{append_assoc, length-append}
use Rattle.reg_heap.specs.Paths.{Path}
use Rattle.reg_heap.specs.Heaps.{Heap}
use Rattle.reg_shape.specs.Internal.Forests.{Branch}
use Rattle.reg_arena.specs.Cells.{cell_at}
use Rattle.reg_records.specs.RecordCells.{HasRoom}
use Rattle.reg_records.specs.KeyNodes.{key_at}
use Rattle.reg_records.specs.SubkeyLists.{Entry}
use Rattle.reg_shape.specs.Nodes.{Node, entries_of}
use Rattle.reg_index.specs.declared.IndexCells.{IndexCells}
use Rattle.reg_index.specs.declared.Place.{Place}
use Rattle.reg_index.specs.Subkeys.{AreSubkeys, IsReady, IsReadyCell, each_of, insert_sizes, taken}
use Rattle.reg_tree.specs.CellSizes.{key_size, planned, planned_by}
use Rattle.reg_tree.specs.Internal.KeyNodeChanges.{HasSubkeysList}
use Rattle.reg_tree.specs.Internal.SpareCells.{IsGrowing, MayGrow, Grows, HaveSizes, IsNext}
use Rattle.reg_tree.proofs.Invariant.CellReadings.{is_some_of}
use Rattle.reg_tree.proofs.Invariant.KeyOfShape as keyed
use Rattle.reg_tree.proofs.InsertKey.ParentReindexed.{branch-subkeys}

-- ---- the parent's list

module _ (bytes : List ℕ) (parent : ℕ) (spare : List ℕ) (g : IsGrowing bytes parent spare) where
  abbrev h : Heap
  h = cell_at bytes

  abbrev node : Node
  node = (keyed.branch h g.root g.keys g.ring spare g.shape g.path parent g.at).node

  its_key : key_at h parent ≡ Some node.key
  its_key = keyed.key_is h g.root g.keys g.ring spare g.shape g.path parent g.at

  pub growing_there : IsSome (key_at h parent)
  growing_there = is_some_of _ _ its_key

  module _ (count list : ℕ) (has : HasSubkeysList h parent count list) where
    own_subkeys : AreSubkeys h node.key.fields.subkeys node.key.fields.subkeys_list (entries_of node.index)
    own_subkeys = branch-subkeys h g.root (keyed.branch h g.root g.keys g.ring spare g.shape g.path parent g.at) (keyed.stands h g.root g.keys g.ring spare g.shape g.path parent g.at)

    is-list : (count ≡ node.key.fields.subkeys) × (list ≡ node.key.fields.subkeys_list)
    is-list = has node.key its_key

    pub growing_subkeys : (entries : List Entry) × AreSubkeys h count list entries
    growing_subkeys = (
      entries_of node.index,
      subst (λ n. AreSubkeys h n list (entries_of node.index)) (sym is-list.0) (subst (λ o. AreSubkeys h node.key.fields.subkeys o (entries_of node.index)) (sym is-list.1) own_subkeys),
    )

    pub planned_is : (place : Place) → planned h parent place ≡ insert_sizes h count list place
    planned_is place =
        ap (planned_by h place) its_key
        ∙ (ap (λ n. insert_sizes h n node.key.fields.subkeys_list place) (sym is-list.0) ∙ ap (λ o. insert_sizes h count o place) (sym is-list.1))

-- ---- where the cells stand

-- the first key's own cell, where it has one alone
pub record HasOne (heap : Heap) (cells : IndexCells) (size : ℕ) (left spare : List ℕ) : Type 0 where
  pub key : ℕ
  pub spare_is : spare ≡ each_of cells ++ key ∷ left
  pub room : HasRoom heap key (size - 4)

pub one-own : (heap : Heap) (plan : IndexCells) (size : ℕ) (spare : List ℕ) (Rest : List ℕ → Type 0) (r : IsNext heap plan (size ∷ []) spare Rest) →
    HasOne heap r.cells size r.left spare
one-own heap plan size spare Rest r = by r.own r.spare_is r.room
  where
    by : (own : List ℕ) → spare ≡ each_of r.cells ++ (own ++ r.left) → HaveSizes heap own (size ∷ []) → HasOne heap r.cells size r.left spare
    by [] e h = absurd h
    by (key ∷ []) e h = record { key = key; spare_is = e; room = h.0 }
    by (key ∷ other ∷ own) e h = absurd h.1

-- the cell of a key node has room for it
pub key-room : (heap : Heap) (key : ℕ) (name : List ℕ) → HasRoom heap key (key_size name - 4) → HasRoom heap key (76 + length name)
key-room heap key name r = record { exists = r.exists; enough = omega (arith, r.enough) }

-- what stands behind the first of a list
at-front : (front : List ℕ) (x : ℕ) (rest : List ℕ) → get_or (front ++ x ∷ rest) (length front) 0 ≡ x
at-front [] x rest = refl
at-front (y ∷ front) x rest = at-front front x rest

drop-front : (front : List ℕ) (x : ℕ) (rest : List ℕ) → drop (suc (length front)) (front ++ x ∷ rest) ≡ rest
drop-front [] x rest = refl
drop-front (y ∷ front) x rest = drop-front front x rest

-- of one cell that is planned or not: how many there are, and which
taken-long : (heap : Heap) (plan cell : Option ℕ) → IsReadyCell heap plan cell → length (taken cell) ≡ length (taken plan)
taken-long heap None None r = refl
taken-long heap None (Some cell) r = absurd r
taken-long heap (Some size) None r = absurd r
taken-long heap (Some size) (Some cell) r = refl

taken-few : (plan : Option ℕ) → length (taken plan) ≤ 1
taken-few None = omega arith
taken-few (Some size) = omega arith

cell-taken : (heap : Heap) (plan cell : Option ℕ) (front rest spare : List ℕ) (n : ℕ) → IsReadyCell heap plan cell → spare ≡ front ++ (taken cell ++ rest) → n ≡ length front →
    option_map (λ _. get_or spare n 0) plan ≡ cell
cell-taken heap None None front rest spare n r e m = refl
cell-taken heap None (Some cell) front rest spare n r e m = absurd r
cell-taken heap (Some size) None front rest spare n r e m = absurd r
cell-taken heap (Some size) (Some cell) front rest spare n r e m =
    ap Some (ap (λ xs. get_or xs n 0) e ∙ (ap (λ i. get_or (front ++ cell ∷ rest) i 0) m ∙ at-front front cell rest))

-- the cells taken are those that are ready, behind them stands the key's, and behind that those that are left
pub record IsTaken (mine cells : IndexCells) (number key : ℕ) (left spare : List ℕ) : Type 0 where
  pub cells_are : mine ≡ cells
  pub all : spare ≡ each_of mine ++ get_or spare number 0 ∷ drop (number + 1) spare
  pub key_is : get_or spare number 0 ≡ key
  pub left_is : drop (number + 1) spare ≡ left
  pub long : number < length spare
  pub few : number ≤ 3

module _ (heap : Heap) (plan cells : IndexCells) (key : ℕ) (left spare : List ℕ) (ready : IsReady heap plan cells) (spare_is : spare ≡ each_of cells ++ key ∷ left) where
  abbrev L : List ℕ
  L = taken cells.list

  abbrev S : List ℕ
  S = taken cells.second

  abbrev R : List ℕ
  R = taken cells.root

  from-root : spare ≡ (L ++ S) ++ (R ++ key ∷ left)
  from-root = spare_is ∙ append_assoc (L ++ S) R (key ∷ left)

  from-list : spare ≡ L ++ (S ++ (R ++ key ∷ left))
  from-list = from-root ∙ append_assoc L S (R ++ key ∷ left)

  module _ (a b d : ℕ) (a-is : a ≡ length (taken plan.list)) (b-is : b ≡ length (taken plan.second)) (d-is : d ≡ length (taken plan.root)) where
    a-long : a ≡ length L
    a-long = a-is ∙ sym (taken-long heap plan.list cells.list ready.list)

    b-long : a + b ≡ length (L ++ S)
    b-long =
        let n = length-append L S in
        let s = taken-long heap plan.second cells.second ready.second in
        let l = a-long in
        omega (arith, n, s, l, b-is)

    all-long : a + b + d ≡ length (each_of cells)
    all-long =
        let n = length-append (L ++ S) R in
        let t = taken-long heap plan.root cells.root ready.root in
        let l = b-long in
        omega (arith, n, t, l, d-is)

    at-key : get_or spare (a + b + d) 0 ≡ key
    at-key = ap (λ xs. get_or xs (a + b + d) 0) spare_is ∙ (ap (λ i. get_or (each_of cells ++ key ∷ left) i 0) all-long ∙ at-front (each_of cells) key left)

    one-further : a + b + d + 1 ≡ suc (length (each_of cells))
    one-further = let l = all-long in omega (arith, l)

    behind-key : drop (a + b + d + 1) spare ≡ left
    behind-key = ap (drop (a + b + d + 1)) spare_is ∙ (ap (λ i. drop i (each_of cells ++ key ∷ left)) one-further ∙ drop-front (each_of cells) key left)

    pub takes : (l s r : Option ℕ) → l ≡ option_map (λ _. get_or spare 0 0) plan.list → s ≡ option_map (λ _. get_or spare a 0) plan.second →
        r ≡ option_map (λ _. get_or spare (a + b) 0) plan.root → IsTaken (record { list = l; second = s; root = r }) cells (a + b + d) key left spare
    takes l s r l-is s-is r-is =
        let list = l-is ∙ cell-taken heap plan.list cells.list [] (S ++ (R ++ key ∷ left)) spare 0 ready.list from-list refl in
        let second = s-is ∙ cell-taken heap plan.second cells.second L (R ++ key ∷ left) spare a ready.second from-list a-long in
        let root = r-is ∙ cell-taken heap plan.root cells.root (L ++ S) (key ∷ left) spare (a + b) ready.root from-root b-long in
        let mine : record { list = l; second = s; root = r } ≡ cells = λ i. record { list = list i; second = second i; root = root i } in
        record {
          cells_are = mine;
          all = spare_is ∙ sym (λ i. each_of (mine i) ++ at-key i ∷ behind-key i);
          key_is = at-key;
          left_is = behind-key;
          long = (let e = ap length spare_is in let n = length-append (each_of cells) (key ∷ left) in let k = all-long in omega (arith, e, n, k));
          few = (let x = taken-few plan.list in let y = taken-few plan.second in let z = taken-few plan.root in omega (arith, x, y, z, a-is, b-is, d-is));
        }

-- the same by a plan that is told
pub planned_takes : (heap : Heap) (plan told : IndexCells) → told ≡ plan → (cells : IndexCells) (key : ℕ) (left spare : List ℕ) → IsReady heap plan cells →
    spare ≡ each_of cells ++ key ∷ left → (a b d : ℕ) → a ≡ length (taken told.list) → b ≡ length (taken told.second) → d ≡ length (taken told.root) →
    (l s r : Option ℕ) → l ≡ option_map (λ _. get_or spare 0 0) told.list → s ≡ option_map (λ _. get_or spare a 0) told.second →
    r ≡ option_map (λ _. get_or spare (a + b) 0) told.root → IsTaken (record { list = l; second = s; root = r }) cells (a + b + d) key left spare
planned_takes heap plan told told-is cells key left spare ready spare_is =
    takes heap told cells key left spare (subst (λ p. IsReady heap p cells) (sym told-is) ready) spare_is

-- ---- what may be made in them

module _ (bytes : List ℕ) (parent : ℕ) (name : List ℕ) where
  abbrev Of : (Path → ℕ → Branch Node → List ℕ → Type 0) → List ℕ → Type 0
  Of G spare = (m : MayGrow bytes parent spare name) → G m.growing.path m.growing.root m.growing.keys m.growing.ring

  -- the same by another spelling of the spare cells, and of the made key's number among them
  pub respelt : (new : Heap) (moment number : ℕ) (left a b : List ℕ) → b ≡ a →
      Of (λ path root keys ring. Grows (cell_at bytes) new root path keys ring (get_or b number 0) left name moment) a →
      Of (λ path root keys ring. Grows (cell_at bytes) new root path keys ring (get_or b (number + 1 - 1) 0) left name moment) b
  respelt new moment number left a b e h =
      let same : number ≡ number + 1 - 1 = omega arith in
      subst (λ n. Of (λ path root keys ring. Grows (cell_at bytes) new root path keys ring (get_or b n 0) left name moment) b) same
      (subst (Of (λ path root keys ring. Grows (cell_at bytes) new root path keys ring (get_or b number 0) left name moment)) (sym e) h)

  pub may_grow : (a b : List ℕ) → b ≡ a → MayGrow bytes parent b name → MayGrow bytes parent a name
  may_grow a b e m = subst (λ s. MayGrow bytes parent s name) e m
