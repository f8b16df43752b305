-- A shape that stands in the cells spells what its cells spell.
use Rattle.std.proofs.Common.{◌≡◌, ℕ, zero, suc, ◌≤◌, max, Option, Some, List, [], ◌∷◌, map, length, refl, sym, ap, ◌∙◌, arith, unwrap_or}
use Rattle.std.specs.List.{AllByRecursion}
use Rattle.std.specs.Option.{option_map, option_and_then}
use Rattle.std.proofs.lemmas.Option.{none-some, same_Some}
use Rattle.reg_arena.proofs.Contents.CellWrites.{all-append}
use Rattle.reg_names.specs.Names.{folded}
use Rattle.reg_heap.specs.Paths.{Path, Rec}
use Rattle.reg_heap.specs.Heaps.{Heap}
use Rattle.reg_shape.specs.Internal.Forests.{Forest, Branch, offsets, Stand}
use Rattle.reg_shape.specs.Internal.Forests.Forest.{End, Rooted as Hangs}
use Rattle.reg_records.specs.KeySecurities.{KeySecurityRecord}
use Rattle.reg_records.specs.SubkeyLists.{offsets_in}
use Rattle.reg_shape.specs.Nodes.{Node, entries_of, look}
use Rattle.reg_shape.specs.Walk.{gather}
use Rattle.reg_shape.specs.Spelt.{rec_of, rec_in, behind, keys_of, keys_from}
use Rattle.reg_shape.specs.Written.{Fits, IsWrittenSecurity}
use Rattle.reg_shape.specs.Internal.Shapes.{IsSeen, StandsIn, depth, descriptor_in, spelled}
use Rattle.reg_shape.proofs.Walking.WalkParts.{gather-made, gather-more}
use Rattle.reg_shape.proofs.Walking.IndexWalks.{then-open, map-open}
use Rattle.reg_shape.proofs.Walking.WalkRefinement.{heads-offsets, AreSecured}

abbrev pub Keys : Type 0
Keys = List (Path × Rec)

-- ---- one step of a spelling

pub record IsKeyed (go : ℕ → Option Keys) (heap : Heap) (offset : ℕ) (keys : Keys) : Type 0 where
  pub node : Node
  pub rec : Rec
  pub below : Keys
  pub node_is : look heap offset ≡ Some node
  pub rec_is : rec_in heap node ≡ Some rec
  pub below_is : gather go (offsets_in (entries_of node.index)) ≡ Some below
  pub all : behind rec below ≡ keys

pub keys-open : (k : ℕ) (heap : Heap) (offset : ℕ) (keys : Keys) → keys_from (suc k) heap offset ≡ Some keys → IsKeyed (keys_from k heap) heap offset keys
unfolding keys_from
keys-open k heap offset keys e =
    let n = then-open (keys_of (keys_from k heap) heap) (look heap offset) keys e in
    let r = then-open (λ rec. option_map (behind rec) (gather (keys_from k heap) (offsets_in (entries_of n.0.index)))) (rec_in heap n.0) keys n.2 in
    let b = map-open (behind r.0) (gather (keys_from k heap) (offsets_in (entries_of n.0.index))) keys r.2 in
    record { node = n.0; rec = r.0; below = b.0; node_is = n.1; rec_is = r.1; below_is = b.1; all = b.2 }

keys-made : (k : ℕ) (heap : Heap) (offset : ℕ) (keys : Keys) → IsKeyed (keys_from k heap) heap offset keys → keys_from (suc k) heap offset ≡ Some keys
unfolding keys_from
keys-made k heap offset keys m =
    ap (option_and_then (keys_of (keys_from k heap) heap)) m.node_is
    ∙ ap (option_and_then (λ rec. option_map (behind rec) (gather (keys_from k heap) (offsets_in (entries_of m.node.index))))) m.rec_is
    ∙ ap (option_map (behind m.rec)) m.below_is
    ∙ ap Some m.all

pub keys-none : (heap : Heap) (offset : ℕ) (keys : Keys) → keys_from zero heap offset ≡ Some keys → ⊥
unfolding keys_from
keys-none heap offset keys e = none-some _ e

-- what is spelt by less fuel is spelt by more
pub keys-more : (k j : ℕ) (heap : Heap) → k ≤ j → (offset : ℕ) (keys : Keys) → keys_from k heap offset ≡ Some keys → keys_from j heap offset ≡ Some keys
keys-more zero j heap l offset keys e = absurd (keys-none heap offset keys e)
keys-more (suc k) zero heap l offset keys e = absurd (omega arith)
keys-more (suc k) (suc j) heap l offset keys e =
    let m = keys-open k heap offset keys e in
    keys-made j heap offset keys (record {
      node = m.node;
      rec = m.rec;
      below = m.below;
      node_is = m.node_is;
      rec_is = m.rec_is;
      below_is = gather-more (keys_from k heap) (keys_from j heap) (λ x ys a. keys-more k j heap (omega arith) x ys a) (offsets_in (entries_of m.node.index)) m.below m.below_is;
      all = m.all;
    })

-- one is spelt as one thing alone
pub keys-one : (k j : ℕ) (heap : Heap) (offset : ℕ) (a b : Keys) → keys_from k heap offset ≡ Some a → keys_from j heap offset ≡ Some b → a ≡ b
keys-one k j heap offset a b d e = same_Some _ _ (sym (keys-more k (max k j) heap (omega arith) offset a d) ∙ keys-more j (max k j) heap (omega arith) offset b e)

-- ---- a shape's keys

secured-rec : (heap : Heap) (node : Node) → IsWrittenSecurity heap node.key.fields.security → rec_in heap node ≡ Some (rec_of node (descriptor_in heap node.key.fields.security))
secured-rec heap node s =
    ap (option_map (λ (s : KeySecurityRecord). rec_of node s.descriptor)) s.reads
    ∙ ap (λ d. Some (rec_of node d)) (sym (ap (λ (o : Option KeySecurityRecord). unwrap_or (option_map (λ (s : KeySecurityRecord). s.descriptor) o) []) s.reads))

key-spelt : (heap : Heap) (offset : ℕ) (node : Node) (k : ℕ) (below : Keys) → look heap offset ≡ Some node →
    IsWrittenSecurity heap node.key.fields.security → gather (keys_from k heap) (offsets_in (entries_of node.index)) ≡ Some below →
    keys_from (suc k) heap offset ≡ Some (behind (rec_of node (descriptor_in heap node.key.fields.security)) below)
key-spelt heap offset node k below e s g =
    keys-made k heap offset _ (record {
      node = node;
      rec = rec_of node (descriptor_in heap node.key.fields.security);
      below = below;
      node_is = e;
      rec_is = secured-rec heap node s;
      below_is = g;
      all = refl;
    })

-- as much fuel as keys lead down is enough
pub forest-spelt : (heap : Heap) (root k : ℕ) (F : Forest Node) → Stand (IsSeen heap root) Fits F → AreSecured heap F → depth F ≤ k → gather (keys_from k heap) (offsets F) ≡ Some (spelled heap F)
forest-spelt heap root k End a s l = refl
forest-spelt heap root zero (Hangs offset node below beside) a s l = absurd (omega arith)
forest-spelt heap root (suc k) (Hangs offset node below beside) a s l =
    gather-made (keys_from (suc k) heap) offset (offsets beside) _ (spelled heap beside)
    (key-spelt heap offset node k (spelled heap below) a.0.0.reads s.0
    (ap (gather (keys_from k heap)) (sym a.0.1.offsets ∙ heads-offsets below) ∙ forest-spelt heap root k below a.0.2 s.1 (omega arith)))
    (forest-spelt heap root (suc k) beside a.1 s.2 (omega arith))

pub branch-spelt : (heap : Heap) (root k : ℕ) (keys : Branch Node) → StandsIn heap root keys → IsWrittenSecurity heap keys.node.key.fields.security →
    AreSecured heap keys.below → depth keys.below ≤ k →
    keys_from (suc k) heap keys.offset ≡ Some (behind (rec_of keys.node (descriptor_in heap keys.node.key.fields.security)) (spelled heap keys.below))
branch-spelt heap root k keys a one s l =
    key-spelt heap keys.offset keys.node k (spelled heap keys.below) a.0.reads one
    (ap (gather (keys_from k heap)) (sym a.1.offsets ∙ heads-offsets keys.below) ∙ forest-spelt heap root k keys.below a.2 s l)

-- ---- how long the paths are

pub longer : (n m : ℕ) → n ≤ m → (keys : Keys) → AllByRecursion (λ (e : Path × Rec). length e.0 ≤ n) keys → AllByRecursion (λ (e : Path × Rec). length e.0 ≤ m) keys
longer n m l [] a = tt
longer n m l (e ∷ keys) a = (omega arith, longer n m l keys a.1)

one-longer : (name : List ℕ) (n : ℕ) (keys : Keys) → AllByRecursion (λ (e : Path × Rec). length e.0 ≤ n) keys →
    AllByRecursion (λ (e : Path × Rec). length e.0 ≤ suc n) (map (λ (e : Path × Rec). (name ∷ e.0, e.1)) keys)
one-longer name n [] a = tt
one-longer name n (e ∷ keys) a = (omega arith, one-longer name n keys a.1)

pub behind-short : (rec : Rec) (n : ℕ) (keys : Keys) → AllByRecursion (λ (e : Path × Rec). length e.0 ≤ n) keys → AllByRecursion (λ (e : Path × Rec). length e.0 ≤ suc n) (behind rec keys)
behind-short rec n keys a = (omega arith, one-longer (folded rec.name) n keys a)

pub spelled-short : (heap : Heap) (F : Forest Node) → AllByRecursion (λ (e : Path × Rec). length e.0 ≤ depth F) (spelled heap F)
spelled-short heap End = tt
spelled-short heap (Hangs offset node below beside) =
    let rec = rec_of node (descriptor_in heap node.key.fields.security) in
    all-append (λ (e : Path × Rec). length e.0 ≤ depth (Hangs offset node below beside)) (behind rec (spelled heap below)) (spelled heap beside)
    (longer (suc (depth below)) (depth (Hangs offset node below beside)) (omega arith) (behind rec (spelled heap below))
    (behind-short rec (depth below) (spelled heap below) (spelled-short heap below)))
    (longer (depth beside) (depth (Hangs offset node below beside)) (omega arith) (spelled heap beside) (spelled-short heap beside))
