-- The tree that records spell holds its root and, with each path, its parent; siblings' names differ.
use Rattle.std.proofs.Common.{◌≡◌, ◌≢◌, ℕ, zero, suc, Bool, true, false, cond, ◌⊎◌, inl, inr, is_some, IsSome, Option, Some, List, [], ◌∷◌, ◌++◌, map, refl, sym, ap, ◌∙◌, subst}
use Rattle.std.specs.List.{AllByRecursion}
use Rattle.std.specs.Ordering.{nat_cmp, is_eq, eq_by_cmp}
use Rattle.std.specs.declared.cmp.Ordering.{Ordering}
use Rattle.std.specs.declared.cmp.Ordering.TheVariants.{Less, Equal, Greater}
use Rattle.std.specs.Cmp.{IsTotalOrder}
use Rattle.std.specs.Cmp.Lexicographic.{slice_cmp, lists_total, nat_list_cmp_total}
use Rattle.std.specs.FinMap.{get, find, from_entries, get-from_entries, IsAntisymmetric, slice_cmp-IsAntisymmetric, nat_cmp-IsAntisymmetric}
use Rattle.std.proofs.lemmas.Cmp.{tied_itself}
use Rattle.std.proofs.lemmas.Bool.{false≢true}
use Rattle.std.proofs.lemmas.Option.{same_Some}
use Rattle.reg_names.specs.Names.{folded}
use Rattle.reg_heap.specs.Paths.{Path, Rec, Tree, path_cmp}
use Rattle.reg_heap.specs.Heaps.{Heap}
use Rattle.reg_heap.proofs.ChildrenOfPath.{path-is}
use Rattle.reg_records.specs.SubkeyLists.{offsets_in}
use Rattle.reg_shape.specs.Nodes.{Node, entries_of}
use Rattle.reg_shape.specs.Walk.{gather}
use Rattle.reg_shape.specs.Spelt.{behind, below_root, keys_from, spelt}
use Rattle.reg_shape.specs.Written.{Pairwise, Precedes}
use Rattle.reg_shape.proofs.Walking.WalkParts.{gather-open}
use Rattle.reg_shape.proofs.Walking.IndexWalks.{map-open}
use Rattle.reg_shape.proofs.Refinement.SpeltShapes.{Keys, keys-open, keys-none}

pub path_total : IsTotalOrder path_cmp
path_total = lists_total nat_list_cmp_total

pub path_same : IsAntisymmetric path_cmp
path_same = slice_cmp-IsAntisymmetric (slice_cmp-IsAntisymmetric nat_cmp-IsAntisymmetric)

-- ---- a path among keys

Has : Path → Keys → Type 0
Has p [] = ⊥
Has p (e ∷ keys) = (e.0 ≡ p) ⊎ Has p keys

found-has : (p : Path) (keys : Keys) → is_some (find path_cmp p keys) ≡ true → Has p keys
unfolding Has
found-has p [] e = absurd (false≢true e)
found-has p (k ∷ keys) e = by (found-has p keys) (eq_by_cmp path_cmp p k.0) refl e
  where
    by : (is_some (find path_cmp p keys) ≡ true → Has p keys) → (b : Bool) → eq_by_cmp path_cmp p k.0 ≡ b → is_some (cond b (Some k.1) (find path_cmp p keys)) ≡ true → Has p (k ∷ keys)
    by rest true t e = inl (sym (path-is p k.0 t))
    by rest false t e = inr (rest e)

has-found : (p : Path) (keys : Keys) → Has p keys → is_some (find path_cmp p keys) ≡ true
unfolding Has
has-found p [] h = absurd h
has-found p (k ∷ keys) (inl e) = ap (λ b. is_some (cond b (Some k.1) (find path_cmp p keys))) (ap (λ q. eq_by_cmp path_cmp p q) e ∙ ap is_eq (tied_itself path_total p))
has-found p (k ∷ keys) (inr h) = by (eq_by_cmp path_cmp p k.0) (has-found p keys h)
  where
    by : (b : Bool) → is_some (find path_cmp p keys) ≡ true → is_some (cond b (Some k.1) (find path_cmp p keys)) ≡ true
    by true e = refl
    by false e = e

has-append : (p : Path) (a b : Keys) → Has p (a ++ b) → Has p a ⊎ Has p b
unfolding Has
has-append p [] b h = inr h
has-append p (e ∷ a) b (inl h) = inl (inl h)
has-append p (e ∷ a) b (inr h) = by (has-append p a b h)
  where
    by : Has p a ⊎ Has p b → Has p (e ∷ a) ⊎ Has p b
    by (inl h) = inl (inr h)
    by (inr h) = inr h

has-left : (p : Path) (a b : Keys) → Has p a → Has p (a ++ b)
unfolding Has
has-left p [] b h = absurd h
has-left p (e ∷ a) b (inl h) = inl h
has-left p (e ∷ a) b (inr h) = inr (has-left p a b h)

has-right : (p : Path) (a b : Keys) → Has p b → Has p (a ++ b)
unfolding Has
has-right p [] b h = h
has-right p (e ∷ a) b h = inr (has-right p a b h)

abbrev prefixed : List ℕ → Keys → Keys
prefixed name keys = map (λ (e : Path × Rec). (name ∷ e.0, e.1)) keys

-- behind a name stand the paths that were there
record IsBehind (name : List ℕ) (p : Path) (keys : Keys) : Type 0 where
  rest : Path
  path : p ≡ name ∷ rest
  has : Has rest keys

behind-has : (name : List ℕ) (p : Path) (keys : Keys) → Has p (prefixed name keys) → IsBehind name p keys
unfolding Has
behind-has name p [] h = absurd h
behind-has name p (e ∷ keys) (inl h) = record { rest = e.0; path = sym h; has = inl refl }
behind-has name p (e ∷ keys) (inr h) = let b = behind-has name p keys h in record { rest = b.rest; path = b.path; has = inr b.has }

has-behind : (name : List ℕ) (p : Path) (keys : Keys) → Has p keys → Has (name ∷ p) (prefixed name keys)
unfolding Has
has-behind name p [] h = absurd h
has-behind name p (e ∷ keys) (inl h) = inl (ap (λ q. name ∷ q) h)
has-behind name p (e ∷ keys) (inr h) = inr (has-behind name p keys h)

-- ---- with each path its parent

AreClosed : Keys → Type 0
AreClosed keys = (p : Path) (name : List ℕ) → Has (p ++ name ∷ []) keys → (p ≡ []) ⊎ Has p keys

closed-append : (a b : Keys) → AreClosed a → AreClosed b → AreClosed (a ++ b)
unfolding AreClosed
closed-append a b c d p name h = by (has-append (p ++ name ∷ []) a b h)
  where
    left : (p ≡ []) ⊎ Has p a → (p ≡ []) ⊎ Has p (a ++ b)
    left (inl e) = inl e
    left (inr h) = inr (has-left p a b h)

    right : (p ≡ []) ⊎ Has p b → (p ≡ []) ⊎ Has p (a ++ b)
    right (inl e) = inl e
    right (inr h) = inr (has-right p a b h)

    by : Has (p ++ name ∷ []) a ⊎ Has (p ++ name ∷ []) b → (p ≡ []) ⊎ Has p (a ++ b)
    by (inl h) = left (c p name h)
    by (inr h) = right (d p name h)

abbrev tail-of : Path → Path
tail-of [] = []
tail-of (x ∷ p) = p

abbrev head-of : Path → List ℕ
head-of [] = []
head-of (x ∷ p) = x

abbrev is_end : Path → Bool
is_end [] = true
is_end (x ∷ p) = false

no-end : (p : Path) (name : List ℕ) → [] ≡ p ++ name ∷ [] → ⊥
no-end [] name e = false≢true (sym (ap is_end e))
no-end (y ∷ p) name e = false≢true (sym (ap is_end e))

-- a key and those below it
closed-behind : (rec : Rec) (below : Keys) → AreClosed below → AreClosed (behind rec below)
unfolding AreClosed Has
closed-behind rec below c [] name h = inl refl
closed-behind rec below c (x ∷ p) name h = inr (by (behind-has (folded rec.name) (x ∷ p ++ name ∷ []) (([], rec) ∷ below) h))
  where
    under : (e : x ≡ folded rec.name) → (p ≡ []) ⊎ Has p below → Has (x ∷ p) (behind rec below)
    under e (inl n) = subst (λ q. Has q (behind rec below)) (ap (λ y. y ∷ []) (sym e) ∙ ap (λ p. x ∷ p) (sym n)) (has-behind (folded rec.name) [] (([], rec) ∷ below) (inl refl))
    under e (inr h) = subst (λ y. Has (y ∷ p) (behind rec below)) (sym e) (has-behind (folded rec.name) p (([], rec) ∷ below) (inr h))

    rest : (q : Path) → q ≡ p ++ name ∷ [] → Has q (([], rec) ∷ below) → Has (p ++ name ∷ []) below
    rest q e (inl n) = absurd (no-end p name (n ∙ e))
    rest q e (inr h) = subst (λ q. Has q below) e h

    by : IsBehind (folded rec.name) (x ∷ p ++ name ∷ []) (([], rec) ∷ below) → Has (x ∷ p) (behind rec below)
    by b = under (ap head-of b.path) (c p name (rest b.rest (sym (ap tail-of b.path)) b.has))

closed-gathered : (go : ℕ → Option Keys) → ((offset : ℕ) (keys : Keys) → go offset ≡ Some keys → AreClosed keys) → (offsets : List ℕ) (below : Keys) → gather go offsets ≡ Some below → AreClosed below
unfolding AreClosed Has
closed-gathered go h [] below e = λ p name has. absurd (subst (Has (p ++ name ∷ [])) (sym (same_Some _ _ e)) has)
closed-gathered go h (offset ∷ offsets) below e =
    let o = gather-open go offset offsets below e in
    subst AreClosed o.all (closed-append o.head o.tail (h offset o.head o.head_is) (closed-gathered go h offsets o.tail o.tail_is))

closed-keys : (k : ℕ) (heap : Heap) (offset : ℕ) (keys : Keys) → keys_from k heap offset ≡ Some keys → AreClosed keys
closed-keys zero heap offset keys e = absurd (keys-none heap offset keys e)
closed-keys (suc k) heap offset keys e =
    let m = keys-open k heap offset keys e in
    subst AreClosed m.all (closed-behind m.rec m.below (closed-gathered (keys_from k heap) (closed-keys k heap) (offsets_in (entries_of m.node.index)) m.below m.below_is))

-- ---- the tree

abbrev below_all : Keys → Keys
below_all keys = map below_root keys

cut : (name : List ℕ) (keys : Keys) (p : Path) → Has p (below_all (prefixed name keys)) → Has p keys
unfolding Has
cut name [] p h = absurd h
cut name (e ∷ keys) p (inl h) = inl h
cut name (e ∷ keys) p (inr h) = inr (cut name keys p h)

uncut : (name : List ℕ) (keys : Keys) (p : Path) → Has p keys → Has p (below_all (prefixed name keys))
unfolding Has
uncut name [] p h = absurd h
uncut name (e ∷ keys) p (inl h) = inl h
uncut name (e ∷ keys) p (inr h) = inr (uncut name keys p h)

held-has : (keys : Keys) (p : Path) → IsSome (get (from_entries {R = path_cmp} keys) p) → Has p keys
held-has keys p h = found-has p keys (ap is_some (sym (get-from_entries path_total keys p)) ∙ h)

has-held : (keys : Keys) (p : Path) → Has p keys → IsSome (get (from_entries {R = path_cmp} keys) p)
has-held keys p h = ap is_some (get-from_entries path_total keys p) ∙ has-found p keys h

-- what a tree that is spelt is made of
record IsSpelt (tree : Tree) : Type 0 where
  rec : Rec
  below : Keys
  closed : AreClosed below
  tree_is : from_entries (below_all (behind rec below)) ≡ tree

spelt-open : (fuel : ℕ) (heap : Heap) (root : ℕ) (tree : Tree) → spelt fuel heap root ≡ Some tree → IsSpelt tree
unfolding spelt
spelt-open zero heap root tree e = let o = map-open (λ keys. from_entries (below_all keys)) (keys_from zero heap root) tree e in absurd (keys-none heap root o.0 o.1)
spelt-open (suc k) heap root tree e =
    let o = map-open (λ keys. from_entries (below_all keys)) (keys_from (suc k) heap root) tree e in
    let m = keys-open k heap root o.0 o.1 in
    record {
      rec = m.rec;
      below = m.below;
      closed = closed-gathered (keys_from k heap) (closed-keys k heap) (offsets_in (entries_of m.node.index)) m.below m.below_is;
      tree_is = ap (λ keys. from_entries (below_all keys)) m.all ∙ o.2;
    }

pub root-held : (fuel : ℕ) (heap : Heap) (root : ℕ) (tree : Tree) → spelt fuel heap root ≡ Some tree → IsSome (get tree [])
unfolding Has
root-held fuel heap root tree e =
    let s = spelt-open fuel heap root tree e in
    subst (λ t. IsSome (get t [])) s.tree_is (has-held (below_all (behind s.rec s.below)) [] (inl refl))

pub parent-held : (fuel : ℕ) (heap : Heap) (root : ℕ) (tree : Tree) → spelt fuel heap root ≡ Some tree → (p : Path) (name : List ℕ) → IsSome (get tree (p ++ name ∷ [])) → IsSome (get tree p)
unfolding Has AreClosed
parent-held fuel heap root tree e p name h =
    let s = spelt-open fuel heap root tree e in
    let all = behind s.rec s.below in
    subst (λ t. IsSome (get t p)) s.tree_is
    (by s (held-has (below_all all) (p ++ name ∷ []) (subst (λ t. IsSome (get t (p ++ name ∷ []))) (sym s.tree_is) h)))
  where
    there : (s : IsSpelt tree) → (p ≡ []) ⊎ Has p s.below → Has p (([], s.rec) ∷ s.below)
    there s (inl n) = inl (sym n)
    there s (inr h) = inr h

    back : (s : IsSpelt tree) → Has (p ++ name ∷ []) (([], s.rec) ∷ s.below) → Has p (([], s.rec) ∷ s.below)
    back s (inl n) = absurd (no-end p name n)
    back s (inr h) = there s (s.closed p name h)

    by : (s : IsSpelt tree) → Has (p ++ name ∷ []) (below_all (behind s.rec s.below)) → IsSome (get (from_entries {R = path_cmp} (below_all (behind s.rec s.below))) p)
    by s h = has-held (below_all (behind s.rec s.below)) p (uncut (folded s.rec.name) (([], s.rec) ∷ s.below) p (back s (cut (folded s.rec.name) (([], s.rec) ∷ s.below) (p ++ name ∷ []) h)))

-- ---- siblings

abbrev is_less : Ordering → Bool
is_less Less = true
is_less Equal = false
is_less Greater = false

pub precedes-apart : (a b : List ℕ) → Precedes a b → folded a ≢ folded b
precedes-apart a b l e =
    false≢true (ap is_less (sym (tied_itself nat_list_cmp_total (folded a))) ∙ (ap (λ n. is_less (slice_cmp nat_cmp (folded a) n)) e ∙ ap is_less l))

apart-one : (a : ℕ × Node) (bs : List (ℕ × Node)) → AllByRecursion (λ (b : ℕ × Node). Precedes a.1.key.name b.1.key.name) bs →
    AllByRecursion (λ (b : ℕ × Node). folded a.1.key.name ≢ folded b.1.key.name) bs
apart-one a [] l = tt
apart-one a (b ∷ bs) l = (precedes-apart a.1.key.name b.1.key.name l.0, apart-one a bs l.1)

pub names-apart : (es : List (ℕ × Node)) → Pairwise (λ (a b : ℕ × Node). Precedes a.1.key.name b.1.key.name) es → Pairwise (λ (a b : ℕ × Node). folded a.1.key.name ≢ folded b.1.key.name) es
names-apart [] l = tt
names-apart (e ∷ es) l = (apart-one e es l.0, names-apart es l.1)
