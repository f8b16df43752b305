-- The keys that a key's lists name are those that it was written with.
use Rattle.std.proofs.Common.{◌≡◌, ◌≢◌, ℕ, Bool, true, false, Some, List, [], ◌∷◌, map, refl, sym, ap, ◌∙◌, subst}
use Rattle.std.specs.List.{AllByRecursion}
use Rattle.std.proofs.lemmas.Option.{same_Some}
use Rattle.std.proofs.lemmas.Bool.{false≢true}
use Rattle.reg_names.specs.Names.{folded}
use Rattle.reg_heap.specs.Heaps.{Heap}
use Rattle.reg_heap.specs.Kinds.{Found}
use Rattle.reg_heap.specs.Kinds.Kind.{Key}
use Rattle.reg_records.specs.SubkeyLists.{offsets_in}
use Rattle.reg_shape.specs.Nodes.{Node, entries_of, look}
use Rattle.reg_shape.specs.Written.{Pairwise}
use Rattle.reg_shape.specs.Whole.{IsWritten, IsWhole, HasSubkeys}
use Rattle.reg_shape.proofs.Refinement.SpeltTrees.{names-apart}

abbrev AreRead : Heap → List (ℕ × Node) → Type 0
AreRead heap es = AllByRecursion (λ (e : ℕ × Node). look heap e.0 ≡ Some e.1) es

abbrev offsets-of : List (ℕ × Node) → List ℕ
offsets-of es = map (λ (e : ℕ × Node). e.0) es

abbrev is_end : List ℕ → Bool
is_end [] = true
is_end (x ∷ xs) = false

abbrev head-of : List ℕ → ℕ
head-of [] = 0
head-of (x ∷ xs) = x

abbrev tail-of : List ℕ → List ℕ
tail-of [] = []
tail-of (x ∷ xs) = xs

-- what is read at the same offsets is the same
same-read : (heap : Heap) (xs ys : List (ℕ × Node)) → offsets-of xs ≡ offsets-of ys → AreRead heap xs → AreRead heap ys → xs ≡ ys
same-read heap [] [] e a b = refl
same-read heap [] (y ∷ ys) e a b = absurd (false≢true (sym (ap is_end e)))
same-read heap (x ∷ xs) [] e a b = absurd (false≢true (ap is_end e))
same-read heap (x ∷ xs) (y ∷ ys) e a b =
    let offset : x.0 ≡ y.0 = ap head-of e in
    let node : x.1 ≡ y.1 = same_Some _ _ (sym a.0 ∙ (ap (look heap) offset ∙ b.0)) in
    ap (λ p. (p, x.1) ∷ xs) offset ∙ (ap (λ n. (y.0, n) ∷ xs) node ∙ ap (λ zs. y ∷ zs) (same-read heap xs ys (ap tail-of e) a.1 b.1))

one-apart : (heap : Heap) (root offset : ℕ) → IsWritten heap root offset → (below : List (ℕ × Node)) → HasSubkeys heap offset below →
    Pairwise (λ (a b : ℕ × Node). folded a.1.key.name ≢ folded b.1.key.name) below
one-apart heap root offset w below h =
    let node : w.node ≡ h.node = same_Some _ _ (sym w.seen ∙ h.seen) in
    let same = same-read heap w.below below (w.fits.offsets ∙ (ap (λ (n : Node). offsets_in (entries_of n.index)) node ∙ sym h.offsets)) w.reads h.reads in
    subst (λ es. Pairwise (λ (a b : ℕ × Node). folded a.1.key.name ≢ folded b.1.key.name) es) same (names-apart w.below w.fits.order)

all-apart : (heap : Heap) (root : ℕ) (found : List Found) → AllByRecursion (λ (f : Found). f.kind ≡ Key → IsWritten heap root f.offset) found →
    AllByRecursion (λ (f : Found). f.kind ≡ Key → (below : List (ℕ × Node)) → HasSubkeys heap f.offset below →
    Pairwise (λ (a b : ℕ × Node). folded a.1.key.name ≢ folded b.1.key.name) below) found
all-apart heap root [] a = tt
all-apart heap root (f ∷ found) a = ((λ k. one-apart heap root f.offset (a.0 k)), all-apart heap root found a.1)

pub siblings-apart : (heap : Heap) (cells root : ℕ) (whole : IsWhole heap cells root) → AllByRecursion (λ (f : Found). f.kind ≡ Key →
    (below : List (ℕ × Node)) → HasSubkeys heap f.offset below →
    Pairwise (λ (a b : ℕ × Node). folded a.1.key.name ≢ folded b.1.key.name) below) whole.found
siblings-apart heap cells root whole = all-apart heap root whole.found whole.keys
