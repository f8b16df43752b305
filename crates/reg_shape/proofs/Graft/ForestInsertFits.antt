-- A key fits the keys below it where one more was put among them, or one was taken from them; and all of them stand.
use Rattle.std.proofs.Common.{◌≡◌, ℕ, zero, suc, ◌+◌, ◌*◌, ◌%◌, ◌<◌, ◌≤◌, Bool, true, false, cond, Some, List, [], ◌∷◌, ◌++◌, map, length, take, drop, get_or, refl, sym, ap, ◌∙◌, subst, arith}
use Rattle.std.specs.List.{AllByRecursion}
use Rattle.std.proofs.lemmas.Bool.{false≢true}
use Rattle.reg_names.specs.declared.TheConstants.{PATH_LIMIT}
use Rattle.reg_names.specs.Names.{folded, hash}
use Rattle.reg_heap.specs.Paths.{Path}
use Rattle.reg_heap.specs.Heaps.{Heap}
use Rattle.reg_shape.specs.Internal.Forests.{Forest, Branch, heads, total, Stand}
use Rattle.reg_shape.specs.Internal.Forests.Forest.{End, Rooted as Hangs}
use Rattle.reg_records.specs.SubkeyLists.{Entry, offsets_in}
use Rattle.reg_shape.specs.Nodes.{Node, entries_of}
use Rattle.reg_shape.specs.Spelt.{name_of}
use Rattle.reg_shape.specs.Written.{Pairwise, Precedes, Fits}
use Rattle.reg_shape.specs.Internal.Shapes.{owns, IsSeen, StandsIn, depth}
use Rattle.reg_shape.specs.Internal.Exchanges.{is_named}
use Rattle.reg_shape.specs.Internal.Grafts.{branch_in, branch_at, hang, unhang, IsLeafAt}
use Rattle.reg_shape.proofs.Wholeness.WholeAfterExchange.{all-weaker, forest-kept}
use Rattle.reg_shape.proofs.Refinement.RefinementAfterEdit.{name-is, name-self}
use Rattle.reg_shape.proofs.Refinement.RefinementAtPath.{IsOther, Apart}
use Rattle.reg_shape.proofs.Graft.Branches.{branch-depth}
use Rattle.reg_shape.proofs.Graft.ForestInsert.{heads-hang, heads-unhang, stand-hang, stand-unhang, depth-hang, depth-unhang, its_leaf}

-- ---- lists with one more, and with one less

module _ {A : Type 0} where
  map-inserted : {B : Type 0} (f : A → B) (i : ℕ) (x : A) (xs : List A) → map f (take i xs ++ x ∷ drop i xs) ≡ take i (map f xs) ++ f x ∷ drop i (map f xs)
  map-inserted f zero x xs = refl
  map-inserted f (suc i) x [] = refl
  map-inserted f (suc i) x (y ∷ xs) = ap (λ ys. f y ∷ ys) (map-inserted f i x xs)

  map-cut : {B : Type 0} (f : A → B) (i : ℕ) (xs : List A) → map f (take i xs ++ drop (suc i) xs) ≡ take i (map f xs) ++ drop (suc i) (map f xs)
  map-cut f zero [] = refl
  map-cut f (suc i) [] = refl
  map-cut f zero (y ∷ xs) = refl
  map-cut f (suc i) (y ∷ xs) = ap (λ ys. f y ∷ ys) (map-cut f i xs)

  pub all-inserted : (P : A → Type 0) (i : ℕ) (x : A) (xs : List A) → P x → AllByRecursion P xs → AllByRecursion P (take i xs ++ x ∷ drop i xs)
  all-inserted P zero x xs p a = (p, a)
  all-inserted P (suc i) x [] p a = (p, tt)
  all-inserted P (suc i) x (y ∷ xs) p a = (a.0, all-inserted P i x xs p a.1)

  all-cut : (P : A → Type 0) (i : ℕ) (xs : List A) → AllByRecursion P xs → AllByRecursion P (take i xs ++ drop (suc i) xs)
  all-cut P zero [] a = tt
  all-cut P (suc i) [] a = tt
  all-cut P zero (y ∷ xs) a = a.1
  all-cut P (suc i) (y ∷ xs) a = (a.0, all-cut P i xs a.1)

  pub pairwise-inserted : (R : A → A → Type 0) (i : ℕ) (x : A) (xs : List A) → AllByRecursion (λ a. R a x) (take i xs) →
      AllByRecursion (R x) (drop i xs) → Pairwise R xs → Pairwise R (take i xs ++ x ∷ drop i xs)
  pairwise-inserted R zero x xs b f a = (f, a)
  pairwise-inserted R (suc i) x [] b f a = (tt, tt)
  pairwise-inserted R (suc i) x (y ∷ xs) b f a = (all-inserted (R y) i x xs b.0 a.0, pairwise-inserted R i x xs b.1 f a.1)

  pairwise-cut : (R : A → A → Type 0) (i : ℕ) (xs : List A) → Pairwise R xs → Pairwise R (take i xs ++ drop (suc i) xs)
  pairwise-cut R zero [] a = tt
  pairwise-cut R (suc i) [] a = tt
  pairwise-cut R zero (y ∷ xs) a = a.1
  pairwise-cut R (suc i) (y ∷ xs) a = (all-cut (R y) i xs a.0, pairwise-cut R i xs a.1)

  -- what each has by its index, the first ones and the others have
  pub all-before : (P : A → Type 0) (d : A) (i : ℕ) (xs : List A) → i ≤ length xs → ((j : ℕ) → j < i → P (get_or xs j d)) → AllByRecursion P (take i xs)
  all-before P d zero xs l h = tt
  all-before P d (suc i) [] l h = absurd (omega arith)
  all-before P d (suc i) (x ∷ xs) l h = (h 0 (omega arith), all-before P d i xs (omega arith) (λ j b. h (suc j) (omega arith)))

  pub all-behind : (P : A → Type 0) (d : A) (i : ℕ) (xs : List A) → ((j : ℕ) → i ≤ j → j < length xs → P (get_or xs j d)) → AllByRecursion P (drop i xs)
  all-behind P d zero [] h = tt
  all-behind P d zero (x ∷ xs) h = (h 0 (omega arith) (omega arith), all-behind P d zero xs (λ j b l. h (suc j) (omega arith) (omega arith)))
  all-behind P d (suc i) [] h = tt
  all-behind P d (suc i) (x ∷ xs) h = all-behind P d i xs (λ j b l. h (suc j) (omega arith) (omega arith))

  -- and of what a function makes of them, of themselves
  pub all-mapped : {B : Type 0} (f : A → B) (P : B → Type 0) (xs : List A) → AllByRecursion P (map f xs) → AllByRecursion (λ x. P (f x)) xs
  all-mapped f P [] a = tt
  all-mapped f P (x ∷ xs) a = (a.0, all-mapped f P xs a.1)

-- ---- a key fits those below it

abbrev Below : Type 0
Below = List (ℕ × Node)

abbrev Rising : ℕ × Node → ℕ × Node → Type 0
Rising a b = Precedes a.1.key.name b.1.key.name

-- a key more, in the order of the names
module _ (o i p : ℕ) (was m n : Node) (entry : Entry) (entries : entries_of m.index ≡ take i (entries_of was.index) ++ entry ∷ drop i
    (entries_of was.index)) (offset : entry.offset ≡ p) (hint : entry.hint ≡ hash n.key.name)
    (parent : n.key.fields.parent ≡ o)
    (name : 2 * length n.key.name ≤ m.key.fields.largest_subkey_name % 65536)
    (names : was.key.fields.largest_subkey_name % 65536 ≤ m.key.fields.largest_subkey_name % 65536)
    (class : n.key.fields.class_length ≤ m.key.fields.largest_subkey_class)
    (classes : was.key.fields.largest_subkey_class ≤ m.key.fields.largest_subkey_class) where
  fits-inserted : (below : Below) → AllByRecursion (λ (e : ℕ × Node). Precedes e.1.key.name n.key.name) (take i below) →
      AllByRecursion (λ (e : ℕ × Node). Precedes n.key.name e.1.key.name) (drop i below) → Fits o was below →
      Fits o m (take i below ++ (p, n) ∷ drop i below)
  fits-inserted below before behind f = record {
    offsets =
        map-inserted (λ (e : ℕ × Node). e.0) i (p, n) below
        ∙ (ap (λ ps. take i ps ++ p ∷ drop i ps) f.offsets
        ∙ (ap (λ p. take i (offsets_in (entries_of was.index)) ++ p ∷ drop i (offsets_in (entries_of was.index))) (sym offset)
        ∙ (sym (map-inserted (λ (e : Entry). e.offset) i entry (entries_of was.index))
        ∙ ap offsets_in (sym entries))));
    hashes =
        map-inserted (λ (e : ℕ × Node). hash e.1.key.name) i (p, n) below
        ∙ (ap (λ hs. take i hs ++ hash n.key.name ∷ drop i hs) f.hashes
        ∙ (ap (λ h. take i (map (λ (e : Entry). e.hint) (entries_of was.index)) ++ h ∷ drop i (map (λ (e : Entry). e.hint) (entries_of was.index))) (sym hint)
        ∙ (sym (map-inserted (λ (e : Entry). e.hint) i entry (entries_of was.index))
        ∙ ap (map (λ (e : Entry). e.hint)) (sym entries))));
    order = pairwise-inserted Rising i (p, n) below before behind f.order;
    parents = all-inserted (λ (e : ℕ × Node). e.1.key.fields.parent ≡ o) i (p, n) below parent f.parents;
    longest_name =
        all-inserted (λ (e : ℕ × Node). 2 * length e.1.key.name ≤ m.key.fields.largest_subkey_name % 65536) i (p, n) below name
        (all-weaker (λ (e : ℕ × Node). 2 * length e.1.key.name ≤ was.key.fields.largest_subkey_name % 65536)
        (λ (e : ℕ × Node). 2 * length e.1.key.name ≤ m.key.fields.largest_subkey_name % 65536)
        (λ e l. omega (arith, l, names)) below f.longest_name);
    longest_class =
        all-inserted (λ (e : ℕ × Node). e.1.key.fields.class_length ≤ m.key.fields.largest_subkey_class) i (p, n) below class
        (all-weaker (λ (e : ℕ × Node). e.1.key.fields.class_length ≤ was.key.fields.largest_subkey_class)
        (λ (e : ℕ × Node). e.1.key.fields.class_length ≤ m.key.fields.largest_subkey_class)
        (λ e l. omega (arith, l, classes)) below f.longest_class);
  }

  pub fits-hung : (F : Forest Node) → AllByRecursion (λ (e : ℕ × Node). Precedes e.1.key.name n.key.name) (take i (heads F)) →
      AllByRecursion (λ (e : ℕ × Node). Precedes n.key.name e.1.key.name) (drop i (heads F)) → Fits o was (heads F) → Fits o m (heads (hang i p n F))
  fits-hung F before behind f = subst (Fits o m) (sym (heads-hang i p n F)) (fits-inserted (heads F) before behind f)

-- a key less
module _ (o i : ℕ) (was m : Node) (entries : entries_of m.index ≡ take i (entries_of was.index) ++ drop (i + 1) (entries_of was.index))
    (names : was.key.fields.largest_subkey_name % 65536 ≤ m.key.fields.largest_subkey_name % 65536)
    (classes : was.key.fields.largest_subkey_class ≤ m.key.fields.largest_subkey_class) where
  next : ◌≡◌ {A = ℕ} (suc i) (i + 1)
  next = omega arith

  fits-cut : (below : Below) → Fits o was below → Fits o m (take i below ++ drop (suc i) below)
  fits-cut below f = record {
    offsets =
        map-cut (λ (e : ℕ × Node). e.0) i below
        ∙ (ap (λ ps. take i ps ++ drop (suc i) ps) f.offsets
        ∙ (sym (map-cut (λ (e : Entry). e.offset) i (entries_of was.index))
        ∙ (ap (λ j. offsets_in (take i (entries_of was.index) ++ drop j (entries_of was.index))) next
        ∙ ap offsets_in (sym entries))));
    hashes =
        map-cut (λ (e : ℕ × Node). hash e.1.key.name) i below
        ∙ (ap (λ hs. take i hs ++ drop (suc i) hs) f.hashes
        ∙ (sym (map-cut (λ (e : Entry). e.hint) i (entries_of was.index))
        ∙ (ap (λ j. map (λ (e : Entry). e.hint) (take i (entries_of was.index) ++ drop j (entries_of was.index))) next
        ∙ ap (map (λ (e : Entry). e.hint)) (sym entries))));
    order = pairwise-cut Rising i below f.order;
    parents = all-cut (λ (e : ℕ × Node). e.1.key.fields.parent ≡ o) i below f.parents;
    longest_name =
        all-cut (λ (e : ℕ × Node). 2 * length e.1.key.name ≤ m.key.fields.largest_subkey_name % 65536) i below
        (all-weaker (λ (e : ℕ × Node). 2 * length e.1.key.name ≤ was.key.fields.largest_subkey_name % 65536)
        (λ (e : ℕ × Node). 2 * length e.1.key.name ≤ m.key.fields.largest_subkey_name % 65536)
        (λ e l. omega (arith, l, names)) below f.longest_name);
    longest_class =
        all-cut (λ (e : ℕ × Node). e.1.key.fields.class_length ≤ m.key.fields.largest_subkey_class) i below
        (all-weaker (λ (e : ℕ × Node). e.1.key.fields.class_length ≤ was.key.fields.largest_subkey_class)
        (λ (e : ℕ × Node). e.1.key.fields.class_length ≤ m.key.fields.largest_subkey_class)
        (λ e l. omega (arith, l, classes)) below f.longest_class);
  }

  pub fits-unhung : (F : Forest Node) → Fits o was (heads F) → Fits o m (heads (unhang i F))
  fits-unhung F f = subst (Fits o m) (ap (λ j. take i (heads F) ++ drop j (heads F)) next ∙ sym (heads-unhang i F)) (fits-cut (heads F) f)

-- a key without subkeys
pub fits-none : (o : ℕ) (n : Node) → entries_of n.index ≡ [] → Fits o n []
fits-none o n e = record {
  offsets = ap offsets_in (sym e);
  hashes = ap (map (λ (e : Entry). e.hint)) (sym e);
  order = tt;
  parents = tt;
  longest_name = tt;
  longest_class = tt;
}

-- ---- a key and those below it stand

module _ (h k : Heap) (root : ℕ) (was : Branch Node) (m : Node) (i : ℕ) (seen : IsSeen k root was.offset m) (below : Stand (IsSeen h root) Fits was.below) where
  pub stands-hung : (p : ℕ) (n : Node) → Fits was.offset m (heads (hang i p n was.below)) → IsSeen k root p n → entries_of n.index ≡ [] →
      ((z : ℕ) → 0 < total (owns z) was.below → k z ≡ h z) → StandsIn k root (record { offset = was.offset; node = m; below = hang i p n was.below })
  stands-hung p n f s e same = (seen, f, stand-hang (IsSeen k root) Fits i p n was.below s (fits-none p n e) (forest-kept h k root was.below below same))

  pub stands-unhung : Fits was.offset m (heads (unhang i was.below)) → ((z : ℕ) → 0 < total (owns z) (unhang i was.below) → k z ≡ h z) →
      StandsIn k root (record { offset = was.offset; node = m; below = unhang i was.below })
  stands-unhung f same = (seen, f, forest-kept h k root (unhang i was.below) (stand-unhang (IsSeen h root) Fits i was.below below) same)

-- ---- how many keys lead down

pub deep-hung : (p : Path) (keys was : Branch Node) (i o : ℕ) (n : Node) → branch_at p keys ≡ Some was → depth keys.below ≤ PATH_LIMIT → length p + 1 ≤ PATH_LIMIT →
    length p + depth (hang i o n was.below) ≤ PATH_LIMIT
deep-hung p keys was i o n e s l = let d = branch-depth was p keys e in let t = depth-hang i o n was.below in omega (arith, d, t, s, l)

pub deep-unhung : (p : Path) (keys was : Branch Node) (i : ℕ) → branch_at p keys ≡ Some was → depth keys.below ≤ PATH_LIMIT → length p + depth (unhang i was.below) ≤ PATH_LIMIT
deep-unhung p keys was i e s = let d = branch-depth was p keys e in let t = depth-unhang i was.below in omega (arith, d, t, s)

-- ---- the key at an index, by its name

-- names that differ do so either way
turn-named : (n k : Node) → is_named (folded (name_of k.key)) n ≡ false → is_named (folded (name_of n.key)) k ≡ false
turn-named n k e = by (is_named (folded (name_of n.key)) k) refl
  where
    by : (t : Bool) → is_named (folded (name_of n.key)) k ≡ t → t ≡ false
    by true t =
        let same = name-is (folded (name_of n.key)) (folded (name_of k.key)) t in
        absurd (false≢true (sym e ∙ (ap (λ x. is_named x n) (sym same) ∙ name-self (folded (name_of n.key)))))
    by false t = refl

-- a leaf at an index is what its name finds
pub leaf-found : (i o : ℕ) (n : Node) (F : Forest Node) → Apart F → IsLeafAt i o n F → branch_in (folded (name_of n.key) ∷ []) F ≡ Some (its_leaf o n)
leaf-found i o n End a l = absurd l
leaf-found zero o n (Hangs v k b s) a l =
    let same : ◌≡◌ {A = Branch Node} (record { offset = v; node = k; below = b }) (its_leaf o n) = λ j. record { offset = l.0 j; node = l.1 j; below = l.2 j } in
    let named : is_named (folded (name_of n.key)) k ≡ true = ap (is_named (folded (name_of n.key))) l.1 ∙ name-self (folded (name_of n.key)) in
    ap (λ t. cond t (Some (record { offset = v; node = k; below = b })) (branch_in (folded (name_of n.key) ∷ []) s)) named ∙ ap Some same
leaf-found (suc i) o n (Hangs v k b s) a l =
    ap (λ t. cond t (Some (record { offset = v; node = k; below = b })) (branch_in (folded (name_of n.key) ∷ []) s)) (other-first i s l a.0) ∙ leaf-found i o n s a.2 l
  where
    other-first : (i : ℕ) (s : Forest Node) → IsLeafAt i o n s → AllByRecursion (IsOther (folded (name_of k.key))) (heads s) → is_named (folded (name_of n.key)) k ≡ false
    other-first i End l a = absurd l
    other-first zero (Hangs v' k' b' s') l a = turn-named n k (ap (is_named (folded (name_of k.key))) (sym l.1) ∙ a.0)
    other-first (suc i) (Hangs v' k' b' s') l a = other-first i s' l a.1
