-- The cells alone lead to the key that the shape has at a path.
use Rattle.std.proofs.Common.{◌≡◌, ℕ, Bool, true, false, cond, Option, Some, None, List, [], ◌∷◌, ◌++◌, refl, sym, ap, ◌∙◌}
use Rattle.std.specs.Option.{option_map, option_and_then}
use Rattle.std.specs.Result.{result_ok}
use Rattle.reg_heap.specs.Paths.{Path}
use Rattle.reg_heap.specs.Heaps.{Heap}
use Rattle.reg_shape.specs.Internal.Forests.{Forest, Branch, heads, offsets, Stand}
use Rattle.reg_shape.specs.Internal.Forests.Forest.{End, Rooted as Hangs}
use Rattle.reg_records.specs.KeyNodes.{nk_of, key_at}
use Rattle.reg_records.specs.SubkeyLists.{offsets_in}
use Rattle.reg_shape.specs.Nodes.{Node, entries_of, look}
use Rattle.reg_shape.specs.Written.{Fits}
use Rattle.reg_shape.specs.Internal.Shapes.{IsSeen, StandsIn}
use Rattle.reg_shape.specs.Internal.Exchanges.{is_named}
use Rattle.reg_shape.specs.Internal.Grafts.{branch_in, branch_at}
use Rattle.reg_shape.specs.PathLookup.{calls, is_called, key_named, subkey_named, key_offset_at}
use Rattle.reg_shape.proofs.Walking.WalkRefinement.{look-open, heads-offsets}

pub key-looked : (h : Heap) (offset : ℕ) (node : Node) → look h offset ≡ Some node → key_at h offset ≡ Some node.key
unfolding key_at
key-looked h offset node e =
    let l = look-open h offset node e in
    ap (option_and_then (λ content. result_ok (nk_of content))) l.here ∙ l.key_is

pub is-called : (h : Heap) (name : List ℕ) (offset : ℕ) (node : Node) → look h offset ≡ Some node → is_called h name offset ≡ is_named name node
is-called h name offset node e = ap (calls name) (key-looked h offset node e)

pub offset-none : (h : Heap) (offset : ℕ) → key_offset_at h offset [] ≡ Some offset
unfolding key_offset_at
offset-none h offset = refl

pub offset-more : (h : Heap) (offset : ℕ) (x : List ℕ) (p : Path) → key_offset_at h offset (x ∷ p) ≡ option_and_then (λ c. key_offset_at h c p) (subkey_named h x offset)
unfolding key_offset_at
offset-more h offset x p = refl

-- two paths, one behind the other
pub offset-append : (h : Heap) (o : ℕ) (p q : Path) → key_offset_at h o (p ++ q) ≡ option_and_then (λ c. key_offset_at h c q) (key_offset_at h o p)
offset-append h o [] q = sym (ap (option_and_then (λ c. key_offset_at h c q)) (offset-none h o))
offset-append h o (x ∷ p) q =
    offset-more h o x (p ++ q)
    ∙ (by (subkey_named h x o) (λ c. offset-append h c p q)
    ∙ sym (ap (option_and_then (λ c. key_offset_at h c q)) (offset-more h o x p)))
  where
    by : (s : Option ℕ) → ((c : ℕ) → key_offset_at h c (p ++ q) ≡ option_and_then (λ c. key_offset_at h c q) (key_offset_at h c p)) →
        option_and_then (λ c. key_offset_at h c (p ++ q)) s ≡ option_and_then (λ c. key_offset_at h c q) (option_and_then (λ c. key_offset_at h c p) s)
    by None e = refl
    by (Some c) e = e c

-- a key's lists name the keys below it
pub subkey-named : (h : Heap) (x : List ℕ) (offset : ℕ) (node : Node) (below : Forest Node) → look h offset ≡ Some node →
    Fits offset node (heads below) → subkey_named h x offset ≡ key_named h x (offsets below)
subkey-named h x offset node below e f =
    ap (option_and_then (λ (node : Node). key_named h x (offsets_in (entries_of node.index)))) e
    ∙ ap (key_named h x) (sym f.offsets ∙ heads-offsets below)

abbrev pub its_offset : Branch Node → ℕ
its_offset b = b.offset

module _ (h : Heap) (root : ℕ) where
  placed-forest : (x : List ℕ) (p : Path) (F : Forest Node) → Stand (IsSeen h root) Fits F →
      option_and_then (λ c. key_offset_at h c p) (key_named h x (offsets F)) ≡ option_map its_offset (branch_in (x ∷ p) F)
  placed-forest x p End a = by p
    where
      by : (p : Path) → None ≡ option_map its_offset (branch_in (x ∷ p) End)
      by [] = refl
      by (y ∷ p) = refl
  placed-forest x [] (Hangs o n b s) a =
      ap (λ t. option_and_then (λ c. key_offset_at h c []) (cond t (Some o) (key_named h x (offsets s)))) (is-called h x o n a.0.0.reads)
      ∙ by (is_named x n) (placed-forest x [] s a.1)
    where
      by : (t : Bool) → option_and_then (λ c. key_offset_at h c []) (key_named h x (offsets s)) ≡ option_map its_offset (branch_in (x ∷ []) s) →
          option_and_then (λ c. key_offset_at h c []) (cond t (Some o) (key_named h x (offsets s))) ≡ option_map its_offset
          (cond t (Some (record { offset = o; node = n; below = b })) (branch_in (x ∷ []) s))
      by true e = offset-none h o
      by false e = e
  placed-forest x (y ∷ p) (Hangs o n b s) a =
      ap (λ t. option_and_then (λ c. key_offset_at h c (y ∷ p)) (cond t (Some o) (key_named h x (offsets s)))) (is-called h x o n a.0.0.reads)
      ∙ by (is_named x n) (placed-forest y p b a.0.2) (placed-forest x (y ∷ p) s a.1)
    where
      by : (t : Bool) → option_and_then (λ c. key_offset_at h c p) (key_named h y (offsets b)) ≡ option_map its_offset (branch_in (y ∷ p) b) →
          option_and_then (λ c. key_offset_at h c (y ∷ p)) (key_named h x (offsets s)) ≡ option_map its_offset (branch_in (x ∷ y ∷ p) s) →
          option_and_then (λ c. key_offset_at h c (y ∷ p)) (cond t (Some o) (key_named h x (offsets s))) ≡ option_map its_offset
          (cond t (branch_in (y ∷ p) b) (branch_in (x ∷ y ∷ p) s))
      by true d e = offset-more h o y p ∙ (ap (option_and_then (λ c. key_offset_at h c p)) (subkey-named h y o n b a.0.0.reads a.0.1) ∙ d)
      by false d e = e

  -- the cells lead to the key that the shape has there
  pub placed : (keys : Branch Node) (p : Path) → StandsIn h root keys → key_offset_at h keys.offset p ≡ option_map (λ (b : Branch Node). b.offset) (branch_at p keys)
  placed keys [] a = offset-none h keys.offset
  placed keys (x ∷ p) a =
      offset-more h keys.offset x p
      ∙ (ap (option_and_then (λ c. key_offset_at h c p)) (subkey-named h x keys.offset keys.node keys.below a.0.reads a.1)
      ∙ placed-forest x p keys.below a.2)
