-- Where one key's own cells are exchanged, the tree that is spelt has another record at its path, and no other change.
use Rattle.std.proofs.Common.{◌≡◌, ℕ, Bool, true, false, cond, ◌&&◌, Option, Some, None, List, [], ◌∷◌, ◌++◌, map, refl, sym, ap, ◌∙◌}
use Rattle.std.specs.Ordering.{nat_cmp, is_eq, eq_by_cmp}
use Rattle.std.specs.declared.cmp.Ordering.{Ordering}
use Rattle.std.specs.declared.cmp.Ordering.TheVariants.{Less, Equal, Greater}
use Rattle.std.specs.Cmp.Lexicographic.{slice_cmp}
use Rattle.std.specs.FinMap.{find, insert, from_entries, get-from_entries, get-insert, same_map}
use Rattle.std.proofs.lemmas.Cmp.{tied_itself}
use Rattle.std.proofs.lemmas.Bool.{false≢true}
use Rattle.std.specs.Cmp.Lexicographic.{nat_list_cmp_total}
use Rattle.std.specs.FinMap.{slice_cmp-IsAntisymmetric, nat_cmp-IsAntisymmetric}
use Rattle.reg_names.specs.Names.{folded}
use Rattle.reg_heap.specs.Paths.{Path, Rec, path_cmp}
use Rattle.reg_heap.specs.Heaps.{Heap}
use Rattle.reg_shape.specs.Internal.Forests.{Forest, Branch}
use Rattle.reg_shape.specs.Internal.Forests.Forest.{End, Rooted as Hangs}
use Rattle.reg_shape.specs.Nodes.{Node}
use Rattle.reg_shape.specs.Spelt.{name_of, rec_of, behind, below_root}
use Rattle.reg_shape.specs.Internal.Shapes.{descriptor_in, spelled, tree_of}
use Rattle.reg_shape.specs.Internal.Exchanges.{is_named, found_in, found_at, edit_in, edit_at}
use Rattle.reg_shape.proofs.Refinement.SpeltShapes.{Keys}
use Rattle.reg_shape.proofs.Refinement.SpeltTrees.{path_total, path_same}
use Rattle.reg_shape.proofs.Wholeness.WholeAfterExchange.{way}

abbrev pub same_name : List ℕ → List ℕ → Bool
same_name = eq_by_cmp (slice_cmp nat_cmp)

abbrev pub same_path : Path → Path → Bool
same_path = eq_by_cmp path_cmp

pub same-cons : (x y : List ℕ) (p q : Path) → same_path (x ∷ p) (y ∷ q) ≡ same_name x y && same_path p q
same-cons x y p q = by (slice_cmp nat_cmp x y) refl
  where
    by : (o : Ordering) → slice_cmp nat_cmp x y ≡ o → same_path (x ∷ p) (y ∷ q) ≡ same_name x y && same_path p q
    by Less e = rw e refl
    by Equal e = rw e refl
    by Greater e = rw e refl

pub name-is : (x y : List ℕ) → same_name x y ≡ true → x ≡ y
name-is x y e = slice_cmp-IsAntisymmetric nat_cmp-IsAntisymmetric x y (by (slice_cmp nat_cmp x y) e)
  where
    by : (o : Ordering) → is_eq o ≡ true → o ≡ Equal
    by Less e = absurd (false≢true e)
    by Equal e = refl
    by Greater e = absurd (false≢true e)

pub name-self : (x : List ℕ) → same_name x x ≡ true
name-self x = ap is_eq (tied_itself nat_list_cmp_total x)

-- ---- looking a path up

abbrev pub or_else : Option Rec → Option Rec → Option Rec
or_else None other = other
or_else (Some r) other = Some r

find-append : (q : Path) (a b : Keys) → find path_cmp q (a ++ b) ≡ or_else (find path_cmp q a) (find path_cmp q b)
find-append q [] b = refl
find-append q (e ∷ a) b = by (same_path q e.0) (find-append q a b)
  where
    by : (t : Bool) → find path_cmp q (a ++ b) ≡ or_else (find path_cmp q a) (find path_cmp q b) →
        cond t (Some e.1) (find path_cmp q (a ++ b)) ≡ or_else (cond t (Some e.1) (find path_cmp q a)) (find path_cmp q b)
    by true h = refl
    by false h = h

abbrev pub prefixed : List ℕ → Keys → Keys
prefixed name keys = map (λ (e : Path × Rec). (name ∷ e.0, e.1)) keys

find-prefixed : (name x : List ℕ) (q : Path) (keys : Keys) → find path_cmp (x ∷ q) (prefixed name keys) ≡ cond (same_name x name) (find path_cmp q keys) None
find-prefixed name x q [] = by (same_name x name)
  where
    by : (t : Bool) → ◌≡◌ {A = Option Rec} None (cond t None None)
    by true = refl
    by false = refl
find-prefixed name x q (e ∷ keys) =
    ap (λ t. cond t (Some e.1) (find path_cmp (x ∷ q) (prefixed name keys))) (same-cons x name q e.0)
    ∙ by (same_name x name) (find-prefixed name x q keys)
  where
    by : (t : Bool) → find path_cmp (x ∷ q) (prefixed name keys) ≡ cond t (find path_cmp q keys) None →
        cond (t && same_path q e.0) (Some e.1) (find path_cmp (x ∷ q) (prefixed name keys)) ≡ cond t
        (cond (same_path q e.0) (Some e.1) (find path_cmp q keys)) None
    by true h = ap (cond (same_path q e.0) (Some e.1)) h
    by false h = h

-- what a key and those below it have at a path
abbrev pub within : Rec → Keys → Path → Option Rec
within rec keys [] = Some rec
within rec keys (x ∷ q) = find path_cmp (x ∷ q) keys

pub find-within : (rec : Rec) (keys : Keys) (q : Path) → find path_cmp q (([], rec) ∷ keys) ≡ within rec keys q
find-within rec keys [] = refl
find-within rec keys (x ∷ q) = refl

pub find-behind : (rec : Rec) (below beside : Keys) (x : List ℕ) (q : Path) →
    find path_cmp (x ∷ q) (behind rec below ++ beside) ≡ or_else (cond (same_name x (folded rec.name)) (within rec below q) None)
    (find path_cmp (x ∷ q) beside)
find-behind rec below beside x q =
    find-append (x ∷ q) (behind rec below) beside
    ∙ ap (λ o. or_else o (find path_cmp (x ∷ q) beside)) (find-prefixed (folded rec.name) x q (([], rec) ∷ below) ∙ ap (λ o. cond (same_name x (folded rec.name)) o None) (find-within rec below q))

pub find-end : (rec : Rec) (below beside : Keys) → find path_cmp [] (behind rec below ++ beside) ≡ find path_cmp [] beside
find-end rec below beside = find-append [] (behind rec below) beside ∙ ap (λ o. or_else o (find path_cmp [] beside)) (none (([], rec) ∷ below))
  where
    none : (keys : Keys) → find path_cmp [] (prefixed (folded rec.name) keys) ≡ None
    none [] = refl
    none (e ∷ keys) = none keys

-- ---- one record exchanged

module _ (h k : Heap) (same : (z : ℕ) → descriptor_in k z ≡ descriptor_in h z) (offset : ℕ) (n m : Node) (alike : name_of m.key ≡ name_of n.key) where
  abbrev rec : Node → Rec
  rec node = rec_of node (descriptor_in h node.key.fields.security)

  rec-same : (node : Node) → rec_of node (descriptor_in k node.key.fields.security) ≡ rec node
  rec-same node = ap (rec_of node) (same node.key.fields.security)

  spelled-same : (F : Forest Node) → spelled k F ≡ spelled h F
  spelled-same End = refl
  spelled-same (Hangs o node b s) = λ i. behind (rec-same node i) (spelled-same b i) ++ spelled-same s i

  abbrev Retells : Path → Forest Node → Forest Node → Type 0
  Retells p F G = (q : Path) → find path_cmp q (spelled h G) ≡ cond (same_path q p) (Some (rec m)) (find path_cmp q (spelled h F))

  either : (t : Bool) (a b c : Option Rec) → or_else (cond t (Some (rec m)) a) c ≡ cond t (Some (rec m)) (or_else a c)
  either true a b c = refl
  either false a b c = refl

  retold-here : (x : List ℕ) (b s : Forest Node) → is_named x n ≡ true → Retells (x ∷ []) (Hangs offset n b s) (Hangs offset m b s)
  retold-here x b s e [] = find-end (rec m) (spelled h b) (spelled h s) ∙ sym (find-end (rec n) (spelled h b) (spelled h s))
  retold-here x b s e (y ∷ q) =
      find-behind (rec m) (spelled h b) (spelled h s) y q
      ∙ (ap (λ name. or_else (cond (same_name y (folded name)) (within (rec m) (spelled h b) q) None) (find path_cmp (y ∷ q) (spelled h s))) alike
      ∙ (ap (λ name. or_else (cond (same_name y name) (within (rec m) (spelled h b) q) None) (find path_cmp (y ∷ q) (spelled h s))) (sym here)
      ∙ (by q (same_name y x)
      ∙ (ap (λ name. cond (same_name y x && same_path q []) (Some (rec m)) (or_else (cond (same_name y name) (within (rec n) (spelled h b) q) None) (find path_cmp (y ∷ q) (spelled h s)))) here
      ∙ (ap (λ t. cond t (Some (rec m)) (or_else (cond (same_name y (folded (name_of n.key))) (within (rec n) (spelled h b) q) None) (find path_cmp (y ∷ q) (spelled h s)))) (sym (same-cons y x q []))
      ∙ ap (cond (same_path (y ∷ q) (x ∷ [])) (Some (rec m))) (sym (find-behind (rec n) (spelled h b) (spelled h s) y q)))))))
    where
      here : x ≡ folded (name_of n.key)
      here = name-is x (folded (name_of n.key)) e

      by : (q : Path) (t : Bool) → or_else (cond t (within (rec m) (spelled h b) q) None) (find path_cmp (y ∷ q) (spelled h s)) ≡ cond
          (t && same_path q []) (Some (rec m)) (or_else (cond t (within (rec n) (spelled h b) q) None) (find path_cmp (y ∷ q) (spelled h s)))
      by [] true = refl
      by (z ∷ q) true = refl
      by q false = refl

  retold-under : (x y : List ℕ) (p : Path) (o : ℕ) (node : Node) (b c s : Forest Node) → is_named x node ≡ true → Retells (y ∷ p) b c → Retells (x ∷ y ∷ p) (Hangs o node b s) (Hangs o node c s)
  retold-under x y p o node b c s e r [] = find-end (rec node) (spelled h c) (spelled h s) ∙ sym (find-end (rec node) (spelled h b) (spelled h s))
  retold-under x y p o node b c s e r (z ∷ q) =
      find-behind (rec node) (spelled h c) (spelled h s) z q
      ∙ (ap (λ name. or_else (cond (same_name z name) (within (rec node) (spelled h c) q) None) (find path_cmp (z ∷ q) (spelled h s))) (sym here)
      ∙ (by q (same_name z x)
      ∙ (ap (λ name. cond (same_name z x && same_path q (y ∷ p)) (Some (rec m)) (or_else (cond (same_name z name) (within (rec node) (spelled h b) q) None) (find path_cmp (z ∷ q) (spelled h s)))) here
      ∙ (ap (λ t. cond t (Some (rec m)) (or_else (cond (same_name z (folded (name_of node.key))) (within (rec node) (spelled h b) q) None)
      (find path_cmp (z ∷ q) (spelled h s)))) (sym (same-cons z x q (y ∷ p)))
      ∙ ap (cond (same_path (z ∷ q) (x ∷ y ∷ p)) (Some (rec m))) (sym (find-behind (rec node) (spelled h b) (spelled h s) z q))))))
    where
      here : x ≡ folded (name_of node.key)
      here = name-is x (folded (name_of node.key)) e

      by : (q : Path) (t : Bool) → or_else (cond t (within (rec node) (spelled h c) q) None) (find path_cmp (z ∷ q) (spelled h s)) ≡ cond
          (t && same_path q (y ∷ p)) (Some (rec m)) (or_else (cond t (within (rec node) (spelled h b) q) None) (find path_cmp (z ∷ q) (spelled h s)))
      by [] true = refl
      by (v ∷ q) true = ap (λ o. or_else o (find path_cmp (z ∷ v ∷ q) (spelled h s))) (r (v ∷ q)) ∙ either (same_path (v ∷ q) (y ∷ p))
          (find path_cmp (v ∷ q) (spelled h b)) None (find path_cmp (z ∷ v ∷ q) (spelled h s))
      by q false = refl

  retold-next : (x : List ℕ) (p : Path) (o : ℕ) (node : Node) (b s t : Forest Node) → is_named x node ≡ false → Retells (x ∷ p) s t → Retells (x ∷ p) (Hangs o node b s) (Hangs o node b t)
  retold-next x p o node b s t e r [] = find-end (rec node) (spelled h b) (spelled h t) ∙ (r [] ∙ sym (find-end (rec node) (spelled h b) (spelled h s)))
  retold-next x p o node b s t e r (z ∷ q) =
      find-behind (rec node) (spelled h b) (spelled h t) z q
      ∙ (ap (or_else (cond (same_name z (folded (name_of node.key))) (within (rec node) (spelled h b) q) None)) (r (z ∷ q))
      ∙ (by (same_path (z ∷ q) (x ∷ p)) refl (same_name z (folded (name_of node.key))) refl
      ∙ ap (cond (same_path (z ∷ q) (x ∷ p)) (Some (rec m))) (sym (find-behind (rec node) (spelled h b) (spelled h s) z q))))
    where
      first : (u v : Bool) → u && v ≡ true → u ≡ true
      first true v e = refl
      first false v e = e

      other : (d : Bool) (a : Option Rec) → or_else (cond d a None) (find path_cmp (z ∷ q) (spelled h s)) ≡ or_else (cond d a None) (find path_cmp (z ∷ q) (spelled h s))
      other d a = refl

      by : (c : Bool) → same_path (z ∷ q) (x ∷ p) ≡ c → (d : Bool) → same_name z (folded (name_of node.key)) ≡ d →
          or_else (cond d (within (rec node) (spelled h b) q) None) (cond c (Some (rec m)) (find path_cmp (z ∷ q) (spelled h s))) ≡ cond c
          (Some (rec m)) (or_else (cond d (within (rec node) (spelled h b) q) None) (find path_cmp (z ∷ q) (spelled h s)))
      by true f true g =
          let zx = name-is z x (first (same_name z x) (same_path q p) (sym (same-cons z x q p) ∙ f)) in
          absurd (false≢true (sym e ∙ (ap (λ y. same_name y (folded (name_of node.key))) (sym zx) ∙ g)))
      by true f false g = refl
      by false f d g = refl

  retold : (p : Path) (F : Forest Node) → found_in p F ≡ Some (offset, n) → Retells p F (edit_in p m F)
  retold = way offset n m (λ p F G. Retells p F G) retold-here retold-under retold-next

  abbrev after_root : Branch Node → Keys
  after_root keys = ([], rec keys.node) ∷ spelled h keys.below

  below-prefixed : (name : List ℕ) (keys : Keys) → map below_root (prefixed name keys) ≡ keys
  below-prefixed name [] = refl
  below-prefixed name (e ∷ keys) = ap (λ es. e ∷ es) (below-prefixed name keys)

  tree-old : (keys : Branch Node) → tree_of h keys ≡ from_entries (after_root keys)
  tree-old keys = ap from_entries (below-prefixed (folded (rec keys.node).name) (after_root keys))

  tree-new : (keys : Branch Node) → tree_of k keys ≡ from_entries (after_root keys)
  tree-new keys =
      (λ i. from_entries (map below_root (behind (rec-same keys.node i) (spelled-same keys.below i)))) ∙ tree-old keys

  find-root : (p : Path) (keys : Branch Node) → found_at p keys ≡ Some (offset, n) → (q : Path) →
      find path_cmp q (after_root (edit_at p m keys)) ≡ cond (same_path q p) (Some (rec m)) (find path_cmp q (after_root keys))
  find-root [] keys e [] = refl
  find-root [] keys e (z ∷ q) = refl
  find-root (x ∷ p) keys e [] = refl
  find-root (x ∷ p) keys e (z ∷ q) = retold (x ∷ p) keys.below e (z ∷ q)

  -- the tree has the new record at the key's path
  pub tree-exchanged : (p : Path) (keys : Branch Node) → found_at p keys ≡ Some (offset, n) →
      tree_of k (edit_at p m keys) ≡ insert (tree_of h keys) p (rec_of m (descriptor_in h m.key.fields.security))
  tree-exchanged p keys e =
      tree-new (edit_at p m keys)
      ∙ (same_map path_total path_same (from_entries (after_root (edit_at p m keys))) (insert (from_entries (after_root keys)) p (rec m)) (λ q.
      get-from_entries path_total (after_root (edit_at p m keys)) q
      ∙ (find-root p keys e q
      ∙ (ap (cond (same_path q p) (Some (rec m))) (sym (get-from_entries path_total (after_root keys) q))
      ∙ sym (get-insert path_total (from_entries (after_root keys)) p (rec m) q))))
      ∙ ap (λ t. insert t p (rec m)) (sym (tree-old keys)))
