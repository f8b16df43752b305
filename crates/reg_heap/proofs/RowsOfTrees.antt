-- The definitions at trees that were worked out by hand.
use Rattle.std.proofs.Common.{◌≡◌, true, false, [], ◌∷◌, refl}
use Rattle.std.specs.FinMap.{from_sorted, entries-from_sorted}
use Rattle.reg_heap.specs.Paths.{Tree, Rec, is_child, children_of}

abbrev key : Rec
key = record { name = []; marks = 0; class = []; descriptor = []; time = 0; values = [] }

-- the root, `A`, `A\B`, `A\C`, `A\C\D` and `AB`
abbrev tree : Tree
tree =
    from_sorted (([], key) ∷ ((65 ∷ []) ∷ [], key) ∷ ((65 ∷ []) ∷ (66 ∷ []) ∷ [], key) ∷ ((65 ∷ []) ∷ (67 ∷ []) ∷ [], key) ∷
    ((65 ∷ []) ∷ (67 ∷ []) ∷ (68 ∷ []) ∷ [], key) ∷ ((65 ∷ 66 ∷ []) ∷ [], key) ∷ [])

-- below the root `A` and `AB`
children-root : children_of tree [] ≡ ((65 ∷ []) ∷ []) ∷ ((65 ∷ 66 ∷ []) ∷ []) ∷ []
children-root = rw entries-from_sorted refl

-- below `A` its `B` and `C`
children-inner : children_of tree ((65 ∷ []) ∷ []) ≡ ((65 ∷ []) ∷ (66 ∷ []) ∷ []) ∷ ((65 ∷ []) ∷ (67 ∷ []) ∷ []) ∷ []
children-inner = rw entries-from_sorted refl

children-leaf : children_of tree ((65 ∷ 66 ∷ []) ∷ []) ≡ []
children-leaf = rw entries-from_sorted refl

-- no key is there
children-missing : children_of tree ((66 ∷ []) ∷ []) ≡ []
children-missing = rw entries-from_sorted refl

-- a key is no child of its own, and neither is a key below a child
not-itself : is_child ((65 ∷ []) ∷ []) ((65 ∷ []) ∷ []) ≡ false
not-itself = refl

not-below-a-child : is_child [] ((65 ∷ []) ∷ (66 ∷ []) ∷ []) ≡ false
not-below-a-child = refl

child : is_child ((65 ∷ []) ∷ []) ((65 ∷ []) ∷ (66 ∷ []) ∷ []) ≡ true
child = refl
