-- The tree that is spelt has at each path the key that the shape has there.
use Rattle.std.proofs.Common.{◌≡◌, ◌≢◌, ℕ, Bool, true, false, cond, ◌==◌, not, if◌then◌else◌, Option, Some, None, List, [], ◌∷◌, map, refl, sym, ap, ◌∙◌, subst, bit_and}
use Rattle.std.specs.List.{AllByRecursion}
use Rattle.std.specs.Option.{option_map}
use Rattle.std.specs.FinMap.{get, find, from_entries, get-from_entries}
use Rattle.std.proofs.lemmas.Nat.{and_assoc}
use Rattle.reg_names.specs.Names.{folded}
use Rattle.reg_heap.specs.Paths.{Path, Rec, path_cmp}
use Rattle.reg_heap.specs.Heaps.{Heap}
use Rattle.reg_shape.specs.Internal.Forests.{Forest, Branch, heads, Stand}
use Rattle.reg_shape.specs.Internal.Forests.Forest.{End, Rooted as Hangs}
use Rattle.reg_shape.specs.Nodes.{Node, letters}
use Rattle.reg_shape.specs.Spelt.{name_of, rec_of, below_root}
use Rattle.reg_shape.specs.Written.{Pairwise, Precedes, Fits, IsWrittenKey}
use Rattle.reg_shape.specs.Internal.Shapes.{IsSeen, StandsIn, descriptor_in, spelled, tree_of}
use Rattle.reg_shape.specs.Internal.Exchanges.{is_named, found_at}
use Rattle.reg_shape.specs.Internal.Grafts.{branch_in, branch_at}
use Rattle.reg_shape.proofs.Refinement.SpeltShapes.{Keys}
use Rattle.reg_shape.proofs.Refinement.SpeltTrees.{path_total, precedes-apart}
use Rattle.reg_shape.proofs.Refinement.RefinementAfterEdit.{name-is, prefixed, or_else, within, find-within, find-behind}
use Rattle.reg_shape.proofs.Graft.Branches.{its_key, branch-found}

-- ---- a written key's name is the one that its record holds

pub name-written : (h : Heap) (root offset : ℕ) (node : Node) → IsWrittenKey h root offset node → name_of node.key ≡ node.key.name
name-written h root offset node w = ap (λ f. letters (not (f == 0)) node.key.name) (sym (and_assoc 32 node.key.fields.flags 103) ∙ (ap (λ f. bit_and f 32) w.flags ∙ by (offset == root)))
  where
    by : (b : Bool) → bit_and (if b then 36 else 32) 32 ≡ 32
    by true = refl
    by false = refl

-- ---- siblings' names differ

abbrev pub IsOther : List ℕ → ℕ × Node → Type 0
IsOther name e = is_named name e.1 ≡ false

abbrev pub Apart : Forest Node → Type 0
Apart End = Unit {0}
Apart (Hangs offset node below beside) = AllByRecursion (IsOther (folded (name_of node.key))) (heads beside) × Apart below × Apart beside

other-name : (a : List ℕ) (n : Node) → a ≢ folded (name_of n.key) → is_named a n ≡ false
other-name a n d = by (is_named a n) refl
  where
    by : (b : Bool) → is_named a n ≡ b → b ≡ false
    by true e = absurd (d (name-is a (folded (name_of n.key)) e))
    by false e = refl

module _ (h : Heap) (root : ℕ) where
  -- one before all that follow it
  apart-first : (offset : ℕ) (node : Node) (F : Forest Node) → IsSeen h root offset node → Stand (IsSeen h root) Fits F →
      AllByRecursion (λ (b : ℕ × Node). Precedes node.key.name b.1.key.name) (heads F) → AllByRecursion (IsOther (folded (name_of node.key))) (heads F)
  apart-first offset node End w a l = tt
  apart-first offset node (Hangs o n b s) w a l = (
    other-name (folded (name_of node.key)) n (λ e. precedes-apart node.key.name n.key.name l.0
        (ap folded (sym (name-written h root offset node w.written)) ∙ (e ∙ ap folded (name-written h root o n a.0.0.written)))),
    apart-first offset node s w a.1 l.1,
  )

  pub apart-stand : (F : Forest Node) → Stand (IsSeen h root) Fits F → Pairwise (λ (a b : ℕ × Node). Precedes a.1.key.name b.1.key.name) (heads F) → Apart F
  apart-stand End a l = tt
  apart-stand (Hangs o n b s) a l = (apart-first o n s a.0.0 a.1 l.0, apart-stand b a.0.2 a.0.1.order, apart-stand s a.1 l.1)

  pub apart-stands : (keys : Branch Node) → StandsIn h root keys → Apart keys.below
  apart-stands keys a = apart-stand keys.below a.2 a.1.order

-- ---- the tree, looked up

-- what a key is told as
abbrev pub tells : Heap → ℕ × Node → Rec
tells h e = rec_of e.1 (descriptor_in h e.1.key.fields.security)

abbrev pub tells_branch : Heap → Branch Node → Rec
tells_branch h b = rec_of b.node (descriptor_in h b.node.key.fields.security)

or-none : (o : Option Rec) → or_else o None ≡ o
or-none None = refl
or-none (Some r) = refl

module _ (h : Heap) where
  abbrev rec_in_tree : Node → Rec
  rec_in_tree n = rec_of n (descriptor_in h n.key.fields.security)

  -- where no key has the first name, nothing is found
  none-named : (x : List ℕ) (q : Path) (F : Forest Node) → AllByRecursion (IsOther x) (heads F) → find path_cmp (x ∷ q) (spelled h F) ≡ None
  none-named x q End a = refl
  none-named x q (Hangs o n b s) a =
      find-behind (rec_in_tree n) (spelled h b) (spelled h s) x q
      ∙ (ap (λ t. or_else (cond t (within (rec_in_tree n) (spelled h b) q) None) (find path_cmp (x ∷ q) (spelled h s))) a.0
      ∙ none-named x q s a.1)

  told-forest : (x : List ℕ) (q : Path) (F : Forest Node) → Apart F → find path_cmp (x ∷ q) (spelled h F) ≡ option_map (tells_branch h) (branch_in (x ∷ q) F)
  told-forest x q End a = refl
  told-forest x [] (Hangs o n b s) a = find-behind (rec_in_tree n) (spelled h b) (spelled h s) x [] ∙ by (is_named x n) refl (told-forest x [] s a.2)
    where
      by : (t : Bool) → is_named x n ≡ t → find path_cmp (x ∷ []) (spelled h s) ≡ option_map (tells_branch h) (branch_in (x ∷ []) s) →
          or_else (cond t (Some (rec_in_tree n)) None) (find path_cmp (x ∷ []) (spelled h s)) ≡ option_map (tells_branch h)
          (cond t (Some (record { offset = o; node = n; below = b })) (branch_in (x ∷ []) s))
      by true e r = refl
      by false e r = r
  told-forest x (y ∷ q) (Hangs o n b s) a = find-behind (rec_in_tree n) (spelled h b) (spelled h s) x (y ∷ q) ∙ by (is_named x n) refl (told-forest y q b a.1) (told-forest x (y ∷ q) s a.2)
    where
      by : (t : Bool) → is_named x n ≡ t → find path_cmp (y ∷ q) (spelled h b) ≡ option_map (tells_branch h) (branch_in (y ∷ q) b) →
          find path_cmp (x ∷ y ∷ q) (spelled h s) ≡ option_map (tells_branch h) (branch_in (x ∷ y ∷ q) s) →
          or_else (cond t (find path_cmp (y ∷ q) (spelled h b)) None) (find path_cmp (x ∷ y ∷ q) (spelled h s)) ≡ option_map (tells_branch h)
          (cond t (branch_in (y ∷ q) b) (branch_in (x ∷ y ∷ q) s))
      by true e d r =
          let none = none-named x (y ∷ q) s (subst (λ z. AllByRecursion (IsOther z) (heads s)) (sym (name-is x (folded (name_of n.key)) e)) a.0) in
          ap (or_else (find path_cmp (y ∷ q) (spelled h b))) none ∙ (or-none (find path_cmp (y ∷ q) (spelled h b)) ∙ d)
      by false e d r = r

  after-root : (name : List ℕ) (keys : Keys) → map below_root (prefixed name keys) ≡ keys
  after-root name [] = refl
  after-root name (e ∷ keys) = ap (λ es. e ∷ es) (after-root name keys)

  -- a path's key in the tree
  pub told-apart : (keys : Branch Node) → Apart keys.below → (q : Path) → get (tree_of h keys) q ≡ option_map (tells_branch h) (branch_at q keys)
  told-apart keys a q =
      ap (λ (es : Keys). get (from_entries {R = path_cmp} es) q) (after-root (folded (name_of keys.node.key)) (([], rec_in_tree keys.node) ∷ spelled h keys.below))
      ∙ (get-from_entries path_total (([], rec_in_tree keys.node) ∷ spelled h keys.below) q
      ∙ (find-within (rec_in_tree keys.node) (spelled h keys.below) q ∙ by q))
    where
      by : (q : Path) → within (rec_in_tree keys.node) (spelled h keys.below) q ≡ option_map (tells_branch h) (branch_at q keys)
      by [] = refl
      by (x ∷ q) = told-forest x q keys.below a

  pub told : (root : ℕ) (keys : Branch Node) → StandsIn h root keys → (q : Path) →
      get (tree_of h keys) q ≡ option_map (λ (b : Branch Node). rec_of b.node (descriptor_in h b.node.key.fields.security)) (branch_at q keys)
  told root keys a q = told-apart keys (apart-stands h root keys a) q

  pub told-found : (keys : Branch Node) → Apart keys.below → (q : Path) → get (tree_of h keys) q ≡ option_map (tells h) (found_at q keys)
  told-found keys a q = told-apart keys a q ∙ (by (branch_at q keys) ∙ ap (option_map (tells h)) (sym (branch-found q keys)))
    where
      by : (b : Option (Branch Node)) → option_map (tells_branch h) b ≡ option_map (tells h) (option_map its_key b)
      by None = refl
      by (Some b) = refl
