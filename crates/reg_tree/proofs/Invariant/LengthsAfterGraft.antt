-- The largest lengths of each key, where a key and all below it gave way to others.
use Rattle.std.proofs.Common.{◌≡◌, ◌≢◌, ℕ, true, Option, Some, None, List, [], ◌∷◌, ◌⊎◌, inl, inr, cond, length, length-append, refl, sym, ap, ◌∙◌, subst, arith}
use Rattle.std.specs.Option.{option_map}
use Rattle.std.specs.Ordering.{is_eq}
use Rattle.std.specs.Cmp.Lexicographic.{nat_list_cmp_total}
use Rattle.std.proofs.lemmas.Cmp.{tied_itself}
use Rattle.std.proofs.lemmas.List.{append-nil}
use Rattle.std.proofs.lemmas.Option.{none-some, same_Some}
use Rattle.reg_heap.specs.Heaps.{Heap}
use Rattle.reg_heap.specs.Paths.{Path}
use Rattle.reg_records.specs.KeyNodes.{KeyRecord, key_at}
use Rattle.reg_shape.specs.Internal.Exchanges.{found_in, found_at}
use Rattle.reg_shape.specs.Internal.Forests.{Branch}
use Rattle.reg_shape.specs.Internal.Grafts.{branch_at, graft_at}
use Rattle.reg_shape.specs.Internal.Shapes.{StandsIn}
use Rattle.reg_shape.specs.Nodes.{Node}
use Rattle.reg_shape.specs.PathLookup.{key_offset_at}
use Rattle.reg_shape.specs.Spelt.{name_of}
use Rattle.reg_shape.proofs.Graft.Branches.{its_key, branch-found, branch-stands}
use Rattle.reg_shape.proofs.Graft.GraftPaths.{rest_of, rest-is, by_rest, found-graft, found-rest}
use Rattle.reg_shape.proofs.Lookup.LookupOfShape.{placed, key-looked}
use Rattle.reg_shape.proofs.Refinement.RefinementAfterEdit.{same_name}
use Rattle.reg_tree.specs.KeyLengths.{Lengths, lengths_of, lengths_at}
use Rattle.reg_tree.specs.Internal.LengthChanges.{LengthsChange, LengthsStay, WhichLengths}

-- a path comes behind itself with no rest
name-self : (x : List ℕ) → same_name x x ≡ true
name-self x = ap is_eq (tied_itself nat_list_cmp_total x)

rest-self : (p : Path) → rest_of p p ≡ Some []
rest-self [] = refl
rest-self (x ∷ p) = ap (λ t. cond t (rest_of p p) None) (name-self x) ∙ rest-self p

-- the key at a path, as it is found in the shape
record IsFoundKey (h : Heap) (keys : Branch Node) (q : Path) (o : ℕ) : Type 0 where
  pub node : Node
  pub found : found_at q keys ≡ Some (o, node)
  pub reads : key_at h o ≡ Some node.key

found_key : (h : Heap) (root : ℕ) (keys : Branch Node) → keys.offset ≡ root → StandsIn h root keys → (q : Path) (o : ℕ) → key_offset_at h root q ≡ Some o → IsFoundKey h keys q o
found_key h root keys is stands q o at = by (branch_at q keys) refl (sym placed_at ∙ at)
  where
    placed_at : key_offset_at h root q ≡ option_map (λ (b : Branch Node). b.offset) (branch_at q keys)
    placed_at = subst (λ r. key_offset_at h r q ≡ option_map (λ (b : Branch Node). b.offset) (branch_at q keys)) is (placed h root keys q stands)

    by : (b : Option (Branch Node)) → branch_at q keys ≡ b → option_map (λ (b : Branch Node). b.offset) b ≡ Some o → IsFoundKey h keys q o
    by None e f = absurd (none-some _ f)
    by (Some b) e f =
        let offset : b.offset ≡ o = same_Some _ _ f in
        record {
          node = b.node;
          found = branch-found q keys ∙ (ap (option_map its_key) e ∙ ap (λ o. Some (o, b.node)) offset);
          reads = subst (λ o. key_at h o ≡ Some b.node.key) offset (key-looked h b.offset b.node (branch-stands h root b q keys e stands).0.reads);
        }

module _ (h k : Heap) (root : ℕ) (p : Path) (keys was is : Branch Node) (e : branch_at p keys ≡ Some was) (name : name_of is.node.key ≡ name_of was.node.key)
    (keys_at : keys.offset ≡ root) (stands : StandsIn h root keys)
    (now_at : (graft_at p is.node is.below keys).offset ≡ root) (stands_now : StandsIn k root (graft_at p is.node is.below keys))
    (below : (y : List ℕ) (r : Path) (o : ℕ) (m n : Node) → found_in (y ∷ r) was.below ≡ Some (o, m) → found_in (y ∷ r) is.below ≡ Some (o, n) → n ≡ m) where
  abbrev now : Branch Node
  now = graft_at p is.node is.below keys

  same_node : {o : ℕ} {m n : Node} → ◌≡◌ {A = Option (ℕ × Node)} (Some (o, m)) (Some (o, n)) → m ≡ n
  same_node {o} {m} {n} e = ap (λ (z : ℕ × Node). z.1) (same_Some _ _ e)

  abbrev grafted : Path → Option (ℕ × Node)
  grafted r = found_at r (record { offset = was.offset; node = is.node; below = is.below })

  -- what a key at a path was, and what it is
  pub record Lengthens (q : Path) (o : ℕ) : Type 0 where
    pub was_node : Node
    pub is_node : Node
    pub was_reads : key_at h o ≡ Some was_node.key
    pub is_reads : key_at k o ≡ Some is_node.key
    pub which : ((q ≡ p) × (was_node ≡ was.node) × (is_node ≡ is.node)) ⊎ ((q ≢ p) × (is_node ≡ was_node))

  pub lengthens : (q : Path) (o : ℕ) → key_offset_at h root q ≡ Some o → key_offset_at k root q ≡ Some o → Lengthens q o
  lengthens q o at at_now =
      let a = found_key h root keys keys_at stands q o at in
      let b = found_key k root now now_at stands_now q o at_now in
      record {
        was_node = a.node;
        is_node = b.node;
        was_reads = a.reads;
        is_reads = b.reads;
        which = by a.node b.node (rest_of p q) refl a.found (sym (found-graft was is.node is.below name p keys e q) ∙ b.found);
      }
    where
      by : (m n : Node) (rest : Option Path) → rest_of p q ≡ rest → found_at q keys ≡ Some (o, m) → by_rest grafted (found_at q keys) (rest_of p q) ≡ Some (o, n) →
          ((q ≡ p) × (m ≡ was.node) × (n ≡ is.node)) ⊎ ((q ≢ p) × (n ≡ m))
      by m n None r f g = inr (
        (λ same. none-some _ (sym r ∙ (ap (rest_of p) same ∙ rest-self p))),
        same_node (sym g ∙ (ap (by_rest grafted (found_at q keys)) r ∙ f)),
      )
      by m n (Some []) r f g = inl (
        rest-is p q [] r ∙ append-nil p,
        same_node_by (sym f ∙ found-rest was p keys e q [] r),
        same_node_by (sym g ∙ ap (by_rest grafted (found_at q keys)) r),
      )
        where
          same_node_by : {o p : ℕ} {m n : Node} → ◌≡◌ {A = Option (ℕ × Node)} (Some (o, m)) (Some (p, n)) → m ≡ n
          same_node_by {o} {p} {m} {n} e = ap (λ (z : ℕ × Node). z.1) (same_Some _ _ e)
      by m n (Some (y ∷ more)) r f g = inr (
        (λ same. let l = ap length (sym same ∙ rest-is p q (y ∷ more) r) in let a = length-append p (y ∷ more) in absurd (omega (arith, l, a))),
        below y more o m n (sym (found-rest was p keys e q (y ∷ more) r) ∙ f) (sym (ap (by_rest grafted (found_at q keys)) r) ∙ g),
      )

  same_lengths : (a b : Option KeyRecord) (m n : Node) → a ≡ Some m.key → b ≡ Some n.key → n ≡ m → option_map lengths_of b ≡ option_map lengths_of a
  same_lengths a b m n f g e = ap (option_map lengths_of) (g ∙ (ap (λ (node : Node). Some node.key) e ∙ sym f))

  pub lengths_which : (change : Lengths → Lengths) → lengths_of is.node.key ≡ change (lengths_of was.node.key) →
      (q : Path) (o : ℕ) → key_offset_at h root q ≡ Some o → key_offset_at k root q ≡ Some o → WhichLengths h k p change q o
  lengths_which change so q o at at_now = by_all (lengthens q o at at_now)
    where
      by_all : Lengthens q o → WhichLengths h k p change q o
      by_all l = by l.which
        where
          by : ((q ≡ p) × (l.was_node ≡ was.node) × (l.is_node ≡ is.node)) ⊎ ((q ≢ p) × (l.is_node ≡ l.was_node)) → WhichLengths h k p change q o
          by (inl s) = inl (
            s.0,
            ap (option_map lengths_of) l.is_reads
                ∙ (ap (λ (n : Node). Some (lengths_of n.key)) s.2
                ∙ (ap Some so
                ∙ (ap (λ (n : Node). Some (change (lengths_of n.key))) (sym s.1)
                ∙ sym (ap (λ r. option_map change (option_map lengths_of r)) l.was_reads)))),
          )
          by (inr s) = inr (s.0, same_lengths _ _ _ _ l.was_reads l.is_reads s.1)

  -- where keys stay, those of the one are changed
  pub lengths_change : (change : Lengths → Lengths) → lengths_of is.node.key ≡ change (lengths_of was.node.key) →
      ((q : Path) (o : ℕ) → key_offset_at h root q ≡ Some o → key_offset_at k root q ≡ Some o) → LengthsChange h k root p change
  lengths_change change so stay = record {
    here = λ o at. by_here o (lengths_which change so p o at (stay p o at));
    others = λ q o n at. by_others q o n (lengths_which change so q o at (stay q o at));
  }
    where
      by_here : (o : ℕ) → WhichLengths h k p change p o → lengths_at k o ≡ option_map change (lengths_at h o)
      by_here o (inl s) = s.1
      by_here o (inr s) = absurd (s.0 refl)

      by_others : (q : Path) (o : ℕ) → q ≢ p → WhichLengths h k p change q o → lengths_at k o ≡ lengths_at h o
      by_others q o n (inl s) = absurd (n s.0)
      by_others q o n (inr s) = s.1

  -- where they are the same, each has those that it had
  pub lengths_stay : lengths_of is.node.key ≡ lengths_of was.node.key → LengthsStay h k root
  lengths_stay so q o at at_now = by (lengths_which (λ l. l) so q o at at_now)
    where
      same : (l : Option Lengths) → option_map (λ l. l) l ≡ l
      same None = refl
      same (Some l) = refl

      by : WhichLengths h k p (λ l. l) q o → lengths_at k o ≡ lengths_at h o
      by (inl s) = s.1 ∙ same (lengths_at h o)
      by (inr s) = s.1
