-- The keys that were copied so far, as a copy begins, goes on by a key, and ends.
use Rattle.std.proofs.Common.{◌≡◌, ◌≢◌, ℕ, suc, ◌+◌, ◌<◌, ◌≤◌, Bool, true, false, cond, ◌||◌, inl, inr, List, [], ◌∷◌, ◌++◌, length, drop, reverse, get_or, Some, None, is_some, refl, sym, ap, ◌∙◌, subst, arith, append_assoc, length-append}
use Rattle.std.specs.Prelude.{IsSome}
use Rattle.std.specs.Ordering.{eq_by_cmp}
use Rattle.std.specs.FinMap.{get, insert}
use Rattle.std.specs.Option.{option_map}
use Rattle.std.proofs.lemmas.Bool.{false≢true}
use Rattle.std.proofs.lemmas.List.{drop_more, drop_all, reverse-append}
use Rattle.reg_heap.specs.Paths.{Path, Tree, Rec, path_cmp, is_child, children_of}
use Rattle.reg_heap.specs.Edits.{child_path, is_within, is_under}
use Rattle.reg_heap.specs.Trees.{IsTree, IsWithinLimits}
use Rattle.reg_heap.proofs.ChildrenOfPath.{named, path-is}
use Rattle.reg_heap.proofs.DeletedTrees.{within-self, within-append, under-parts, under-rest, under-append, under-self}
use Rattle.reg_tree.specs.declared.node.Node.{Node}
use Rattle.reg_tree.specs.TreeKeys.{Keys, IsAt, KeepsNodes}
use Rattle.reg_tree.specs.SubkeyWalk.{IsSubkeyAt}
use Rattle.reg_tree.proofs.InsertKey.PathGrowth.{path-self}
use Rattle.reg_tree.proofs.BuildKey.BuiltTrees.{get-here, get-other}
use Rattle.reg_tree.proofs.Invariant.CellReadings.{some_of}
use Rattle.reg_tree.proofs.PruneTree.ChildPlaces.{child-named}
use Rattle.reg_tree.proofs.PruneTree.PathOrder.{child-there}
use Rattle.reg_tree.proofs.PruneTree.ThinnedTrees.{bare-of}
use Rattle.reg_copy.specs.declared.copying.Pending.{Pending}
use Rattle.reg_copy.specs.declared.fault.CopyFault.{CopyFault}
use Rattle.reg_copy.specs.declared.fault.CopyFault.TheVariants.{NoKey, NoPlace, Taken, Limit, Full, Memory}
use Rattle.reg_copy.specs.Copies.{copy_of}
use Rattle.reg_copy.specs.Internal.Copying.{IsKeyCopied, is_left, AreApart, AreLeft, copied_so_far, IsAmid, IsNoted, IsRefused, IsStopped}
use Rattle.reg_copy.proofs.InsertedChildren.{at-most-one, children-insert}
use Rattle.reg_copy.proofs.LeftPaths.{front-cancel, copy-below, done-here, same-elsewhere, apart-next}

-- ---- what is pending

weaken : (source target : Keys) (from to : Path) (bound higher : ℕ) (stack : List Pending) (left : List Path) → bound ≤ higher →
    AreLeft source target from to bound stack left → AreLeft source target from to higher stack left
weaken source target from to bound higher [] left l a = a
weaken source target from to bound higher (p ∷ others) left l a = (a.0, a.1, omega (arith, a.2, l), a.3)

-- nodes stay, and no key that is pending gets a subkey
carry : (source target new : Keys) (from to : Path) (bound : ℕ) (stack : List Pending) (left : List Path) → KeepsNodes target new →
    ((p : Path) → length p < bound → length (children_of new.tree (to ++ p)) ≤ length (children_of target.tree (to ++ p))) →
    AreLeft source target from to bound stack left → AreLeft source new from to bound stack left
carry source target new from to bound [] left nodes few a = a
carry source target new from to bound (p ∷ others) left nodes few a = (
  a.0,
  record {
    below = a.1.below;
    index = a.1.index;
    at = a.1.at;
    copy = nodes _ _ a.1.copy;
    subkey = a.1.subkey;
    few = (let n = few a.1.below a.2 in let m = a.1.few in omega (arith, n, m));
    left_is = a.1.left_is;
  },
  a.2,
  carry source target new from to (length a.1.below) others a.0 nodes (λ q l. few q (omega (arith, l, a.2))) a.3,
)

-- ---- a step

pub next-there : (tree : Tree) (p : Path) (i : ℕ) → i < length (children_of tree p) →
    (r : Rec) × (get tree (get_or (children_of tree p) i []) ≡ Some r)
next-there tree p i l =
    let n = child-named tree p i l in some_of _ (subst (λ (q : Path). IsSome (get tree q)) (sym n.1) (child-there tree p i l n.0 n.1))

module _ (source target : Keys) (is : IsTree source.tree) (from to : Path) (old : Tree) (next : Pending) (others : List Pending)
    (s : IsAmid source target from to old (next ∷ others)) (r : Rec)
    (there : get source.tree (get_or (children_of source.tree (from ++ s.are.1.below)) s.are.1.index []) ≡ Some r) where
  abbrev above : Path
  above = from ++ s.are.1.below

  abbrev children : List Path
  children = children_of source.tree above

  abbrev k : Path
  k = get_or children s.are.1.index []

  abbrev beside : List Path
  beside = drop (s.are.1.index + 1) children ++ s.are.0

  its-name : (name : List ℕ) × (k ≡ above ++ name ∷ [])
  its-name = child-named source.tree above s.are.1.index s.are.1.subkey.within

  abbrev rel : Path
  rel = s.are.1.below ++ its-name.0 ∷ []

  k-is : k ≡ from ++ rel
  k-is = its-name.1 ∙ append_assoc from s.are.1.below (its-name.0 ∷ [])

  spot : child_path (to ++ s.are.1.below) r.name ≡ to ++ rel
  spot =
      ap (λ (n : List ℕ). (to ++ s.are.1.below) ++ n ∷ [])
      (is.names above its-name.0 r (subst (λ (p : Path). get source.tree p ≡ Some r) its-name.1 there))
      ∙ append_assoc to s.are.1.below (its-name.0 ∷ [])

  left-is : s.left ≡ k ∷ beside
  left-is = s.are.1.left_is ∙ ap (λ (x : List Path). x ++ s.are.0) (drop_more children s.are.1.index [] s.are.1.subkey.within)

  apart : AreApart (k ∷ beside)
  apart = subst AreApart left-is s.apart

  long-rel : length rel ≡ length s.are.1.below + 1
  long-rel = length-append s.are.1.below (its-name.0 ∷ [])

  abbrev next-left : List Path
  next-left = children_of source.tree k ++ beside

  so-far : (x : Path) → copied_so_far source.tree s.left x ≡ copied_so_far source.tree (k ∷ beside) x
  so-far x = ap (λ (left : List Path). copied_so_far source.tree left x) left-is

  at-k : copied_so_far source.tree next-left k ≡ Some r
  at-k =
      ap (λ (t : Bool). cond t None (option_map (copy_of k) (get source.tree k))) (done-here source.tree is k beside apart)
      ∙ (ap (option_map (copy_of k)) there
      ∙ ap Some (subst (λ (x : Path). copy_of x r ≡ r) (sym its-name.1) (copy-below above its-name.0 r)))

  not-k : (q : Path) → to ++ q ≢ to ++ rel → from ++ q ≢ k
  not-k q other f = other (ap (λ (x : Path). to ++ x) (front-cancel from q rel (f ∙ k-is)))

  -- there is no key of its name yet
  pub free-next : get target.tree (child_path (to ++ s.are.1.below) r.name) ≡ None
  free-next =
      ap (get target.tree) spot
      ∙ (s.copied rel
      ∙ (so-far (from ++ rel)
      ∙ subst (λ (x : Path). copied_so_far source.tree (k ∷ beside) x ≡ None) k-is
      (ap (λ (t : Bool). cond (t || is_left beside k) None (option_map (copy_of k) (get source.tree k))) (within-self k))))

  -- why it wasn't made
  pub refused-next : IsWithinLimits source.tree → (fault : CopyFault) → IsRefused fault target.tree (to ++ s.are.1.below) →
      IsStopped fault source.tree from to
  refused-next limits NoKey h = absurd h
  refused-next limits NoPlace h = absurd h
  refused-next limits Taken h = absurd h
  refused-next limits Limit h = (
    rel,
    subst (λ (x : Path). IsSome (get source.tree x)) k-is (ap is_some there),
    elim h [
      | inl deep ↦
          let n = length-append to rel in
          let m = long-rel in
          let a = length-append to s.are.1.below in
          omega (arith, deep, n, m, a)
      | inr many ↦ (let f = s.are.1.few in let w = s.are.1.subkey.within in let l = limits.few above in absurd (omega (arith, many, f, w, l)))
    ],
  )
  refused-next limits Full h = tt
  refused-next limits Memory h = tt

  -- it was made
  module _ (new : Keys) (copy : Node) (made : IsKeyCopied target new (to ++ s.are.1.below) r.name (record r { marks = r.marks }) copy) where
    tree-is : new.tree ≡ insert target.tree (to ++ rel) (record r { marks = r.marks })
    tree-is = made.tree ∙ ap (λ (p : Path). insert target.tree p (record r { marks = r.marks })) spot

    at-rel : get new.tree (to ++ rel) ≡ copied_so_far source.tree next-left (from ++ rel)
    at-rel =
        ap (λ (t : Tree). get t (to ++ rel)) tree-is
        ∙ (get-here target.tree (to ++ rel) (record r { marks = r.marks })
        ∙ sym (subst (λ (x : Path). copied_so_far source.tree next-left x ≡ Some r) k-is at-k))

    elsewhere : (p : Path) → p ≢ to ++ rel → get new.tree p ≡ get target.tree p
    elsewhere p other = ap (λ (t : Tree). get t p) tree-is ∙ get-other target.tree (to ++ rel) p (record r { marks = r.marks }) other

    copied-else : (q : Path) → to ++ q ≢ to ++ rel → get new.tree (to ++ q) ≡ copied_so_far source.tree next-left (from ++ q)
    copied-else q other =
        elsewhere (to ++ q) other
        ∙ (s.copied q ∙ (so-far (from ++ q) ∙ sym (same-elsewhere source.tree is k beside apart (from ++ q) (not-k q other))))

    copied-now : (q : Path) → get new.tree (to ++ q) ≡ copied_so_far source.tree next-left (from ++ q)
    copied-now q = by (eq_by_cmp path_cmp (to ++ q) (to ++ rel)) refl
      where
        by : (b : Bool) → eq_by_cmp path_cmp (to ++ q) (to ++ rel) ≡ b →
            get new.tree (to ++ q) ≡ copied_so_far source.tree next-left (from ++ q)
        by true e =
            subst (λ (x : Path). get new.tree (to ++ x) ≡ copied_so_far source.tree next-left (from ++ x))
            (sym (front-cancel to q rel (path-is (to ++ q) (to ++ rel) e))) at-rel
        by false e =
            copied-else q (λ f. false≢true (sym e ∙ subst (λ (x : Path). eq_by_cmp path_cmp x (to ++ rel) ≡ true) (sym f) (path-self (to ++ rel))))

    others-now : (p : Path) → is_within to p ≡ false → get new.tree p ≡ get old p
    others-now p w =
        elsewhere p (λ f. false≢true (sym w ∙ subst (λ (x : Path). is_within to x ≡ true) (sym f) (within-append to rel))) ∙ s.others p w

    few : (p : Path) → length (children_of new.tree p) ≤ cond (is_child p (to ++ rel)) 1 0 + length (children_of target.tree p)
    few p =
        subst (λ (t : Tree). length (children_of t p) ≤ cond (is_child p (to ++ rel)) 1 0 + length (children_of target.tree p)) (sym tree-is)
        (children-insert target.tree p (to ++ rel) (record r { marks = r.marks }))

    few-else : (p : Path) → length p < length s.are.1.below → length (children_of new.tree (to ++ p)) ≤ length (children_of target.tree (to ++ p))
    few-else p shorter = by (is_child (to ++ p) (to ++ rel)) refl (few (to ++ p))
      where
        by : (b : Bool) → is_child (to ++ p) (to ++ rel) ≡ b →
            length (children_of new.tree (to ++ p)) ≤ cond b 1 0 + length (children_of target.tree (to ++ p)) →
            length (children_of new.tree (to ++ p)) ≤ length (children_of target.tree (to ++ p))
        by true e l =
            let c = named (to ++ p) (to ++ rel) e in
            let m = ap length c.1 in
            let a = length-append (to ++ p) (c.0 ∷ []) in
            let b = length-append to p in
            let d = length-append to rel in
            let n = long-rel in
            absurd (omega (arith, shorter, m, a, b, d, n))
        by false e l = omega (arith, l)

    few-here : length (children_of new.tree (to ++ s.are.1.below)) ≤ s.are.1.index + 1
    few-here =
        let l = few (to ++ s.are.1.below) in
        let m = at-most-one (is_child (to ++ s.are.1.below) (to ++ rel)) in
        let n = s.are.1.few in
        omega (arith, l, m, n)

    none-below : (q : Path) → is_under (to ++ rel) q ≡ true → get new.tree q ≡ None
    none-below q u =
        let parts = under-rest (to ++ rel) q u in
        let path = rel ++ parts.0 ∷ parts.1 in
        let q-is : q ≡ to ++ path = parts.2 ∙ append_assoc to rel (parts.0 ∷ parts.1) in
        let x-is : from ++ path ≡ k ++ parts.0 ∷ parts.1 = sym (append_assoc from rel (parts.0 ∷ parts.1)) ∙ ap (λ (x : Path). x ++ parts.0 ∷ parts.1) (sym k-is) in
        let longer : is_under k (from ++ path) ≡ true = subst (λ (x : Path). is_under k x ≡ true) (sym x-is) (under-append k parts.0 parts.1) in
        ap (get new.tree) q-is
        ∙ (copied-now path
        ∙ (same-elsewhere source.tree is k beside apart (from ++ path)
        (λ f. false≢true (sym (under-self k) ∙ subst (λ (x : Path). is_under k x ≡ true) f longer))
        ∙ ap (λ (t : Bool). cond (t || is_left beside (from ++ path)) None (option_map (copy_of (from ++ path)) (get source.tree (from ++ path))))
        (under-parts k (from ++ path) longer).0))

    few-below : length (children_of new.tree (to ++ rel)) ≤ 0
    few-below = let l = ap length (bare-of new.tree (to ++ rel) none-below) in omega (arith, l)

    -- those behind the key
    beside-are : (olds mids : List Pending) → others ≡ reverse olds →
        IsNoted source above next.source next.copy (s.are.1.index + 1) olds mids → AreLeft source new from to (length rel) (reverse mids) beside
    beside-are olds mids e noted = elim noted [
      | inl none ↦
          subst (λ (x : List Pending). AreLeft source new from to (length rel) x beside) (e ∙ ap reverse (sym none.1))
          (subst (λ (x : List Path). AreLeft source new from to (length rel) others (x ++ s.are.0))
          (sym (drop_all (s.are.1.index + 1) children none.0)) behind)
      | inr some ↦
          subst (λ (x : List Pending). AreLeft source new from to (length rel) x beside)
          (ap (λ (x : List Pending). record { source = next.source; copy = next.copy; subkey = some.0 } ∷ x) e
          ∙ sym (ap reverse some.2 ∙ reverse-append olds (record { source = next.source; copy = next.copy; subkey = some.0 } ∷ []))) (
            s.are.0,
            record {
              below = s.are.1.below;
              index = s.are.1.index + 1;
              at = s.are.1.at;
              copy = made.nodes _ _ s.are.1.copy;
              subkey = some.1;
              few = few-here;
              left_is = refl;
            },
            (let l = long-rel in omega (arith, l)),
            carried,
          )
    ]
      where
        carried : AreLeft source new from to (length s.are.1.below) others s.are.0
        carried = carry source target new from to (length s.are.1.below) others s.are.0 made.nodes few-else s.are.3

        behind : AreLeft source new from to (length rel) others s.are.0
        behind = weaken source new from to (length s.are.1.below) (length rel) others s.are.0 (let l = long-rel in omega (arith, l)) carried

    pub stepped : (olds mids news : List Pending) → others ≡ reverse olds → IsAt source k next.subkey.node →
        IsNoted source above next.source next.copy (s.are.1.index + 1) olds mids → IsNoted source k next.subkey.node copy 0 mids news →
        IsAmid source new from to old (reverse news)
    stepped olds mids news e at behind below =
        record {
          left = next-left;
          bound = suc (length rel);
          are = all-are;
          apart = apart-next source.tree is k beside apart;
          copied = copied-now;
          others = others-now;
        }
      where
        rest : AreLeft source new from to (length rel) (reverse mids) beside
        rest = beside-are olds mids e behind

        none-there : (paths : List Path) → length paths ≤ 0 → paths ≡ []
        none-there [] l = refl
        none-there (x ∷ paths) l = absurd (omega (arith, l))

        all-are : AreLeft source new from to (suc (length rel)) (reverse news) next-left
        all-are = elim below [
          | inl none ↦
              subst (λ (x : List Pending). AreLeft source new from to (suc (length rel)) x next-left) (ap reverse (sym none.1))
              (subst (λ (x : List Path). AreLeft source new from to (suc (length rel)) (reverse mids) (x ++ beside))
              (sym (none-there (children_of source.tree k) none.0))
              (weaken source new from to (length rel) (suc (length rel)) (reverse mids) beside (omega arith) rest))
          | inr some ↦
              subst (λ (x : List Pending). AreLeft source new from to (suc (length rel)) x next-left)
              (sym (ap reverse some.2 ∙ reverse-append mids (record { source = next.subkey.node; copy = copy; subkey = some.0 } ∷ []))) (
                beside,
                record {
                  below = rel;
                  index = 0;
                  at = subst (λ (p : Path). IsAt source p next.subkey.node) k-is at;
                  copy = subst (λ (p : Path). IsAt new p copy) spot made.at;
                  subkey = subst (λ (p : Path). IsSubkeyAt source p next.subkey.node 0 some.0) k-is some.1;
                  few = few-below;
                  left_is = ap (λ (p : Path). children_of source.tree p ++ beside) k-is;
                },
                omega arith,
                rest,
              )
        ]

-- ---- the stack

pub popped : (source target : Keys) (from to : Path) (old : Tree) (olds news : List Pending) (p : Pending) → olds ≡ news ++ p ∷ [] →
    IsAmid source target from to old (reverse olds) → IsAmid source target from to old (p ∷ reverse news)
popped source target from to old olds news p e s =
    subst (λ (x : List Pending). IsAmid source target from to old x) (ap reverse e ∙ reverse-append news (p ∷ [])) s
