-- Each end of creating the keys of a path.
use Rattle.std.proofs.Common.{◌≡◌, ◌↔◌, ◌⊎◌, inl, inr, ℕ, ◌≤◌, Bool, true, ◌==◌, Option, None, List, [], ◌∷◌, ◌++◌, length, refl, sym, ap, ◌∙◌, subst, arith}
use Rattle.std.specs.Prelude.{Result, Ok, Err, OnOk, IfErr}
use Rattle.std.proofs.lemmas.List.{append-nil}
use Rattle.std.proofs.lemmas.Bool.Decides.{nat_tests}
use Rattle.reg_names.specs.declared.TheConstants.{PATH_LIMIT}
use Rattle.reg_names.specs.Names.{path_of}
use Rattle.reg_arena.specs.declared.ArenaFault.{ArenaFault}
use Rattle.reg_arena.specs.declared.ArenaFault.TheVariants as arena
use Rattle.reg_tree.specs.Internal.TreeFaults.{of_arena}
use Rattle.reg_tree.specs.declared.node.Node.{Node}
use Rattle.reg_tree.specs.declared.node.Created.{Created}
use Rattle.reg_tree.specs.declared.fault.TreeFault.{TreeFault}
use Rattle.reg_tree.specs.declared.fault.TreeFault.TheVariants.{Limit, Full, Memory}
use Rattle.reg_tree.specs.Internal.TreeInvariant.{IsHere}
use Rattle.reg_tree.specs.Internal.SpareCells.{IsSpared}
use Rattle.reg_heap.specs.Heaps.{Heap}
use Rattle.reg_heap.specs.Paths.{Path}
use Rattle.reg_heap.specs.Edits.{missing}
use Rattle.reg_arena.specs.Arena.{Bins}
use Rattle.reg_arena.specs.EachCell.{GrowsFor}
use Rattle.reg_index.specs.declared.Place.{Place}
use Rattle.reg_values.specs.ValueLists.{Makes}
use Rattle.reg_tree.specs.TreeKeys.{Keys}
use Rattle.reg_tree.specs.CellSizes.{made_sizes, given_sizes, create_sizes, LacksRoom}
use Rattle.reg_tree.proofs.Invariant.KeyOfTree.{shallow}

pub from_shallow : (bytes : List ℕ) (from : Node) (t : IsHere bytes from.offset) → from.depth ≡ length t.path → from.depth ≤ PATH_LIMIT
from_shallow bytes from t d = let s = shallow bytes from.offset t in omega (arith, s, d)

-- a text without bytes has no names
pub empty_names : (text : List ℕ) (e : Bool) → e ≡ (length text == 0) → e ≡ true → path_of text ≡ []
empty_names [] e h k = refl
empty_names (b ∷ bs) e h k = let t : (length (b ∷ bs) == 0) ≡ true = sym h ∙ k in absurd (grind (arith, nat_tests))

-- which fault of a tree an arena's is
pub of_two : (fault : ArenaFault) (told : TreeFault) → told ≡ of_arena fault → (told ≡ Full) ⊎ (told ≡ Memory)
of_two arena.Full told e = inl e
of_two arena.Memory told e = inr e

abbrev Answer : Type 0
Answer = Result Created TreeFault

-- it is no Limit, where there are not too many
pub limit_none : {Many : Type 0} (made : Created) → (Many → ⊥) → (◌≡◌ {A = Answer} (Ok made) (Err Limit)) ↔ Many
limit_none made none = ((λ e. absurd (cc)), λ m. absurd (none m))

pub limit_many : {Many : Type 0} → Many → (◌≡◌ {A = Answer} (Err Limit) (Err Limit)) ↔ Many
limit_many m = ((λ e. m), λ m. refl)

same_err : (a b : TreeFault) → ◌≡◌ {A = Answer} (Err a) (Err b) → a ≡ b
same_err a b e = cc

pub limit_other : {Many : Type 0} (fault : TreeFault) → (fault ≡ Full) ⊎ (fault ≡ Memory) → (Many → ⊥) → (◌≡◌ {A = Answer} (Err fault) (Err Limit)) ↔ Many
limit_other fault (inl f) none = ((λ e. absurd (let s = same_err fault Limit e in cc)), λ m. absurd (none m))
limit_other fault (inr f) none = ((λ e. absurd (let s = same_err fault Limit e in cc)), λ m. absurd (none m))

-- the same cells, by another name
pub spared_as : (old mid : List ℕ) (key : ℕ) (place : Place) (names : List (List ℕ)) (more left a b : List ℕ) → a ≡ b → IsSpared old mid key place names more left b →
    IsSpared old mid key place names more left a
spared_as old mid key place names more left a b e s = subst (λ spare. IsSpared old mid key place names more left spare) (sym e) s

-- ---- the cells that come, with a descriptor that is given and without one

pub none_sizes : (keys : Keys) (path : Path) (names : List (List ℕ)) (place : Place) (given : Option (List ℕ)) → given ≡ None →
    made_sizes keys path names place ≡ create_sizes keys path names place given
none_sizes keys path names place given e =
    sym (append-nil (made_sizes keys path names place))
    ∙ ap (λ sizes. made_sizes keys path names place ++ sizes) (sym (ap (given_sizes keys.tree (missing keys.tree path names)) e ∙ none (missing keys.tree path names)))
  where
    none : (names : List (List ℕ)) → given_sizes keys.tree names None ≡ []
    none [] = refl
    none (name ∷ names) = refl

pub cells_as : {A E : Type 0} (result : Result A E) (h k : Heap) (a b : List ℕ) → a ≡ b → OnOk result (Makes h k a) → OnOk result (Makes h k b)
cells_as result h k a b e c = subst (λ sizes. OnOk result (Makes h k sizes)) e c

pub room_as : {A E : Type 0} (full : E) (result : Result A E) (bins : Bins) (a b : List ℕ) → a ≡ b → IfErr result (λ fault. fault ≡ full → LacksRoom bins a) →
    IfErr result (λ fault. fault ≡ full → LacksRoom bins b)
room_as full result bins a b e c = subst (λ sizes. IfErr result (λ fault. fault ≡ full → LacksRoom bins sizes)) e c

pub growth_as : {A E : Type 0} (result : Result A E) (old new a b : List ℕ) → a ≡ b → OnOk result (GrowsFor old new a) → OnOk result (GrowsFor old new b)
growth_as result old new a b e c = subst (λ sizes. OnOk result (GrowsFor old new sizes)) e c
