-- A whole hive is walked without a fault, and tells the tree that it spells.
use Rattle.std.proofs.Common.{◌≡◌, ℕ, zero, suc, ◌<◌, ◌≤◌, Ok, List, [], ◌∷◌, ◌++◌, append_assoc, length, map, refl, sym, ap, ◌∙◌, subst, arith}
use Rattle.std.specs.List.{AllByRecursion}
use Rattle.std.specs.FinMap.{from_entries}
use Rattle.std.proofs.lemmas.List.{append-nil}
use Rattle.reg_names.specs.Names.{folded}
use Rattle.reg_heap.specs.Edits.{child_path}
use Rattle.reg_heap.specs.Heaps.{Heap}
use Rattle.reg_heap.specs.Paths.{Path, Rec}
use Rattle.reg_heap.specs.Kinds.{is_own, is_shared, owned, shared}
use Rattle.reg_shape.specs.Internal.Forests.{Forest, Branch, offsets, heads, total_of, Stand}
use Rattle.reg_shape.specs.Internal.Forests.Forest.{End, Rooted as Hangs}
use Rattle.reg_records.specs.SubkeyLists.{Entry, offsets_in}
use Rattle.reg_shape.specs.Nodes.{Node, entries_of}
use Rattle.reg_shape.specs.Spelt.{name_of, rec_of, behind, below_root}
use Rattle.reg_shape.specs.Written.{Pairwise, Precedes, Fits, IsWrittenSecurity}
use Rattle.reg_shape.specs.Internal.Shapes.{index_met, traces, trace, shares, IsSeen, depth, descriptor_in, spelled, tree_of, IsWholeShape}
use Rattle.reg_shape.proofs.Walking.WalkRefinement.{look-open, heads-offsets, AreSecured}
use Rattle.reg_shape.proofs.Wholeness.ShapeCounts.{tally-branch}
use Rattle.reg_shape.proofs.Refinement.RefinementAtPath.{name-written}
use Rattle.reg_shape.proofs.Refinement.SpeltTrees.{precedes-apart}
use Rattle.reg_shape.proofs.Wholeness.ShapeRecords.{all-at, shares-own, at-most-one, forest-secured}
use Rattle.reg_tree_image.specs.WalkSteps.{Seen}
use Rattle.reg_tree_image.specs.LoadingWalk.{root_path, key_from}
use Rattle.reg_tree_image.specs.Images.{nothing, tree_told}
use Rattle.reg_tree_image.proofs.CleanWalks.CleanSteps.{IsFresh}
use Rattle.reg_tree_image.proofs.CleanWalks.CleanKeys.{Keys, Goes, goes-as, Clear, clear-append, clear-below, Under, key-goes}
use Rattle.reg_tree_image.proofs.CleanWalks.CleanLists.{Child, path_of_child, traces_of, told_of, AllClear, Differ, tail-of, AreChildren, subkeys-goes}

-- the children that a forest tells below a path
abbrev pub children : Heap → Path → Forest Node → List Child
children heap here End = []
children heap here (Hangs offset node below beside) =
    record {
      name = folded (name_of node.key);
      trace = node.cells ++ index_met node.index (traces_of (children heap (here ++ folded (name_of node.key) ∷ []) below));
      told = (here ++ folded (name_of node.key) ∷ [], rec_of node (descriptor_in heap node.key.fields.security)) ∷ told_of (children heap (here ++ folded (name_of node.key) ∷ []) below);
    } ∷ children heap here beside

traces-are : (heap : Heap) (here : Path) (F : Forest Node) → traces_of (children heap here F) ≡ traces F
traces-are heap here End = refl
traces-are heap here (Hangs offset node below beside) =
    ap (λ ts. (node.cells ++ index_met node.index ts) ∷ traces_of (children heap here beside)) (traces-are heap (here ++ folded (name_of node.key) ∷ []) below)
    ∙ ap (λ ts. (node.cells ++ index_met node.index (traces below)) ∷ ts) (traces-are heap here beside)

-- ---- what is told is below the path

under-weaker : (p q : Path) (told : Keys) → Under (p ++ q) told → Under p told
under-weaker p q [] u = tt
under-weaker p q (e ∷ told) u = ((q ++ u.0.0, u.0.1 ∙ append_assoc p q u.0.0), under-weaker p q told u.1)

under-append : (p : Path) (a b : Keys) → Under p a → Under p b → Under p (a ++ b)
under-append p [] b u v = v
under-append p (e ∷ a) b u v = (u.0, under-append p a b u.1 v)

under-told : (heap : Heap) (here : Path) (F : Forest Node) → Under here (told_of (children heap here F))
under-told heap here End = tt
under-told heap here (Hangs offset node below beside) =
    let n = folded (name_of node.key) in (
      (n ∷ [], refl),
      under-append here (told_of (children heap (here ++ n ∷ []) below)) (told_of (children heap here beside))
          (under-weaker here (n ∷ []) (told_of (children heap (here ++ n ∷ []) below)) (under-told heap (here ++ n ∷ []) below)) (under-told heap here beside),
    )

no-longer : (p : Path) (n : List ℕ) (r : Path) → p ≡ (p ++ n ∷ []) ++ r → ⊥
no-longer [] n r e = absurd (cc)
no-longer (x ∷ p) n r e = no-longer p n r (ap tail-of e)

clear-children : (here : Path) (rec : Rec) (cs : List Child) (told : Keys) → Clear here told → AllClear here cs (told ++ (here, rec) ∷ [])
clear-children here rec [] told c = tt
clear-children here rec (k ∷ cs) told c =
    (clear-append (path_of_child here k) told ((here, rec) ∷ []) (clear-below here (k.name ∷ []) told c) ((λ r x. no-longer here k.name r x), tt), clear-children here rec cs told c)

-- ---- what is told is what is spelt

abbrev beneath : Path → Keys → Keys
beneath here keys = map (λ (e : Path × Rec). (here ++ e.0, e.1)) keys

beneath-append : (here : Path) (a b : Keys) → beneath here (a ++ b) ≡ beneath here a ++ beneath here b
beneath-append here [] b = refl
beneath-append here (e ∷ a) b = ap (λ ks. (here ++ e.0, e.1) ∷ ks) (beneath-append here a b)

beneath-name : (here : Path) (n : List ℕ) (keys : Keys) → beneath (here ++ n ∷ []) keys ≡ beneath here (map (λ (e : Path × Rec). (n ∷ e.0, e.1)) keys)
beneath-name here n [] = refl
beneath-name here n (e ∷ keys) =
    ap (λ p. (p, e.1) ∷ beneath (here ++ n ∷ []) keys) (append_assoc here (n ∷ []) e.0)
    ∙ ap (λ ks. (here ++ (n ∷ e.0), e.1) ∷ ks) (beneath-name here n keys)

told-is : (heap : Heap) (here : Path) (F : Forest Node) → told_of (children heap here F) ≡ beneath here (spelled heap F)
told-is heap here End = refl
told-is heap here (Hangs offset node below beside) =
    let n = folded (name_of node.key) in
    let rec = rec_of node (descriptor_in heap node.key.fields.security) in
    ap (λ ks. (here ++ n ∷ [], rec) ∷ (ks ++ told_of (children heap here beside))) (told-is heap (here ++ n ∷ []) below ∙ beneath-name here n (spelled heap below))
    ∙ (ap (λ ks. (here ++ n ∷ [], rec) ∷ (beneath here (map (λ (e : Path × Rec). (n ∷ e.0, e.1)) (spelled heap below)) ++ ks)) (told-is heap here beside)
    ∙ sym (beneath-append here (behind rec (spelled heap below)) (spelled heap beside)))

module _ (heap : Heap) (root : ℕ) where
  -- ---- siblings' names

  differ-one : (here : Path) (offset : ℕ) (node : Node) (F : Forest Node) (c : Child) → c.name ≡ folded (name_of node.key) → IsSeen heap root offset node → Stand (IsSeen heap root) Fits F →
      AllByRecursion (λ (b : ℕ × Node). Precedes node.key.name b.1.key.name) (heads F) → AllByRecursion (Differ c) (children heap here F)
  differ-one here offset node End c n s a l = tt
  differ-one here offset node (Hangs o k below beside) c n s a l = (
    (λ e. precedes-apart node.key.name k.key.name l.0 (ap folded (sym (name-written heap root offset node s.written)) ∙ (sym n ∙ (e ∙ ap folded (name-written heap root o k a.0.0.written))))),
    differ-one here offset node beside c n s a.1 l.1,
  )

  differ : (here : Path) (F : Forest Node) → Stand (IsSeen heap root) Fits F → Pairwise (λ (a b : ℕ × Node). Precedes a.1.key.name b.1.key.name) (heads F) → Pairwise Differ (children heap here F)
  differ here End a l = tt
  differ here (Hangs offset node below beside) a l =
      let n = folded (name_of node.key) in
      let c : Child = record {
        name = n;
        trace = node.cells ++ index_met node.index (traces_of (children heap (here ++ n ∷ []) below));
        told = (here ++ n ∷ [], rec_of node (descriptor_in heap node.key.fields.security)) ∷ told_of (children heap (here ++ n ∷ []) below);
      } in
      (differ-one here offset node beside c refl a.0.0 a.1 l.0, differ here beside a.1 l.1)

  -- ---- a key and all below it

  few : (node : Node) (offset : ℕ) → IsSeen heap root offset node → length (entries_of node.index) ≤ 60000
  few node offset s = let a = s.written.few in let b = s.written.subkeys in omega (arith, a, b)

  branch-goes : (levels : ℕ) (path : List ℕ) (here : List ℕ → Path) (offset : ℕ) (node : Node) (below : Forest Node) → IsSeen heap root offset node →
      Fits offset node (heads below) → Stand (IsSeen heap root) Fits below → IsWrittenSecurity heap node.key.fields.security →
      AreChildren (key_from heap 5 levels (offset ∷ path) (child_path (here (name_of node.key)))) (offset ∷ path) (here (name_of node.key))
      (entries_of node.index) (children heap (here (name_of node.key)) below) →
      Goes path (Clear (here (name_of node.key))) (key_from heap 5 (suc levels) path here offset) tt
      (node.cells ++ index_met node.index (traces_of (children heap (here (name_of node.key)) below)))
      ((here (name_of node.key), rec_of node (descriptor_in heap node.key.fields.security)) ∷ told_of (children heap (here (name_of node.key)) below))
  branch-goes levels path here offset node below seen fits stand security a =
      let at = here (name_of node.key) in
      let cs = children heap at below in
      let l = look-open heap offset node seen.reads in
      key-goes heap root path here offset node seen security levels (index_met node.index (traces_of cs)) (told_of cs) (AllClear at cs)
      (λ told c. clear-children at (rec_of node (descriptor_in heap node.key.fields.security)) cs told c)
      (subkeys-goes (key_from heap 5 levels (offset ∷ path) (child_path at)) (offset ∷ path) at heap node.key.fields.subkeys node.key.fields.subkeys_list node.index cs l.index_is a
      (differ at below stand fits.order) (few node offset seen))

  forest-goes : (levels : ℕ) (path : List ℕ) (at : Path) (F : Forest Node) (es : List Entry) → offsets_in es ≡ offsets F → Stand (IsSeen heap root) Fits F →
      AreSecured heap F → depth F ≤ levels → AreChildren (key_from heap 5 levels path (child_path at)) path at es (children heap at F)
  forest-goes levels path at End [] p a s l = tt
  forest-goes levels path at End (e ∷ es) p a s l = absurd (cc)
  forest-goes levels path at (Hangs offset node below beside) [] p a s l = absurd (cc)
  forest-goes zero path at (Hangs offset node below beside) (e ∷ es) p a s l = absurd (omega arith)
  forest-goes (suc levels) path at (Hangs offset node below beside) (e ∷ es) p a s l =
      let n = folded (name_of node.key) in
      let same : offset ≡ e.offset = cc in
      let rest : offsets_in es ≡ offsets beside = cc in (
        subst (λ o. Goes path (Clear (at ++ n ∷ [])) (key_from heap 5 (suc levels) path (child_path at) o) tt
            (node.cells ++ index_met node.index (traces_of (children heap (at ++ n ∷ []) below)))
            ((at ++ n ∷ [], rec_of node (descriptor_in heap node.key.fields.security)) ∷ told_of (children heap (at ++ n ∷ []) below))) same
            (branch-goes levels path (child_path at) offset node below a.0.0 a.0.1 a.0.2 s.0
            (forest-goes levels (offset ∷ path) (at ++ n ∷ []) below (entries_of node.index) (sym a.0.1.offsets ∙ heads-offsets below) a.0.2 s.1 (omega arith))),
        (([], sym (append-nil (at ++ n ∷ []))), under-told heap (at ++ n ∷ []) below),
        forest-goes (suc levels) path at beside es rest a.1 s.2 (omega arith),
      )

-- ---- a whole shape

-- the root's own name is in no path
stripped : (name : List ℕ) (keys : Keys) → map below_root (map (λ (e : Path × Rec). (name ∷ e.0, e.1)) keys) ≡ beneath [] keys
stripped name [] = refl
stripped name (e ∷ keys) = ap (λ ks. (e.0, e.1) ∷ ks) (stripped name keys)

module _ (heap : Heap) (root : ℕ) (keys : Branch Node) (ring : List ℕ) (w : IsWholeShape heap root keys ring) where
  secured : (z : ℕ) → 0 < total_of (shares z) keys → IsWrittenSecurity heap z
  secured z l = all-at (IsWrittenSecurity heap) ring z w.closed.written ((w.ringed z).0 l)

  one-secured : IsWrittenSecurity heap keys.node.key.fields.security
  one-secured = secured keys.node.key.fields.security (let l = shares-own heap root keys.offset keys.node w.stands.0.reads in omega arith)

  all-secured : AreSecured heap keys.below
  all-secured = forest-secured heap root keys.below w.stands.2 (λ z l. secured z (omega arith))

  fresh : IsFresh [] [] (trace keys)
  fresh = record {
    once = λ z. (let o = tally-branch (is_own z) heap root keys w.stands in let e = w.exact z in let a = at-most-one heap z in omega (arith, o, e, a));
    apart = λ z l. unshared z l (shared z (trace keys)) refl;
    keys = λ z. omega arith;
  }
    where
      unshared : (z : ℕ) → 0 < owned z (trace keys) → (n : ℕ) → shared z (trace keys) ≡ n → shared z (trace keys) ≡ 0
      unshared z l zero e = e
      unshared z l (suc n) e =
          let s = tally-branch (is_shared z) heap root keys w.stands in
          let ring = (w.ringed z).0 (omega (arith, s, e)) in
          let o = tally-branch (is_own z) heap root keys w.stands in
          let x = w.exact z in
          let a = at-most-one heap z in
          absurd (omega (arith, ring, o, x, a, l))

  abbrev rec : Rec
  rec = rec_of keys.node (descriptor_in heap keys.node.key.fields.security)

  abbrev seen_then : Seen
  seen_then = record { found = trace keys; told = ([], rec) ∷ told_of (children heap [] keys.below) }

  pub hive-walked : key_from heap 5 513 [] root_path root nothing ≡ Ok (tt, seen_then)
  hive-walked =
      let shallow : depth keys.below ≤ 512 = w.shallow in
      let below = forest-goes heap root 512 (keys.offset ∷ []) [] keys.below (entries_of keys.node.index) (sym w.stands.1.offsets ∙ heads-offsets keys.below) w.stands.2 all-secured shallow in
      let goes = branch-goes heap root 512 [] root_path keys.offset keys.node keys.below w.stands.0 w.stands.1 w.stands.2 one-secured below in
      let found : keys.node.cells ++ index_met keys.node.index (traces_of (children heap [] keys.below)) ≡ trace keys =
      ap (λ ts. keys.node.cells ++ index_met keys.node.index ts) (traces-are heap [] keys.below) in
      ap (λ o. key_from heap 5 513 [] root_path o nothing) (sym w.offset)
      ∙ goes-as [] (Clear []) (key_from heap 5 513 [] root_path keys.offset) tt _ (trace keys) (([], rec) ∷ told_of (children heap [] keys.below)) _ found refl goes nothing fresh tt

  pub hive-told : tree_told seen_then ≡ tree_of heap keys
  hive-told = ap (λ ks. from_entries (([], rec) ∷ ks)) (told-is heap [] keys.below ∙ sym (stripped (folded rec.name) (spelled heap keys.below)))
