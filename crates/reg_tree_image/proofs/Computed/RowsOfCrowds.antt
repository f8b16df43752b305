-- Which keys the walk comes to, at stores of cells that were worked out by hand, and the cells that a class and values take.
use Rattle.std.proofs.Common.{◌≡◌, ℕ, [], ◌∷◌, replicate, inl, inr, refl, arith}
use Rattle.reg_heap.specs.ByteWords.{half, word, long}
use Rattle.reg_heap.specs.Kinds.Kind.{Key, Leaf, Security}
use Rattle.reg_heap.specs.Paths.{Member}
use Rattle.reg_records.specs.KeyNodes.{nk_of}
use Rattle.reg_records.specs.KeySecurities.{sk_of}
use Rattle.reg_records.specs.SubkeyLists.{list_of}
use Rattle.reg_records.specs.BigData.{segment_size}
use Rattle.reg_values.specs.ValueSizes.{data_sizes}
use Rattle.reg_values.specs.NewValues.{all_value_sizes}
use Rattle.reg_tree.specs.BuiltKeys.{class_sizes}
use Rattle.reg_tree_image.specs.WalkSteps.{Seen}
use Rattle.reg_tree_image.specs.LoadingWalk.{root_path, key_from}
use Rattle.reg_tree_image.specs.Images.{nothing}
use Rattle.reg_tree_image.specs.WalkedKeys.{Comes}
use Rattle.reg_tree_image.specs.CrowdedBins.{bytes_taken, more_bytes_taken, IsFront, IsGroup}
use Rattle.reg_tree_image.proofs.Computed.RowsOfWalks.{store, met, plain_rec, two}

-- ---- the first key of two that are one: the walk comes to it, and then meets the fault Twice

abbrev first-told : Seen
first-told = record {
  found = met Key 32 ∷ met Security 500 ∷ met Leaf 100 ∷ met Key 300 ∷ met Security 500 ∷ [];
  told = ([], plain_rec (82 ∷ []) []) ∷ ((65 ∷ []) ∷ [], plain_rec (97 ∷ []) []) ∷ [];
}

first-comes : Comes (two 300 300 (97 ∷ []) (66 ∷ [])) 5 first-told 3 [] root_path 32 nothing
unfolding Comes key_from nk_of sk_of list_of half word long
first-comes = (_, _, _, refl, refl, inr (_, _, refl, (omega arith, inl (_, _, _, refl, refl, inl refl))))

-- the second of two others, the first walked to its end
abbrev both-told : Seen
both-told = record {
  found = met Key 32 ∷ met Security 500 ∷ met Leaf 100 ∷ met Key 300 ∷ met Security 500 ∷ met Key 400 ∷ met Security 500 ∷ [];
  told = ([], plain_rec (82 ∷ []) []) ∷ ((65 ∷ []) ∷ [], plain_rec (97 ∷ []) []) ∷ ((66 ∷ []) ∷ [], plain_rec (66 ∷ []) []) ∷ [];
}

second-comes : Comes (two 300 400 (97 ∷ []) (66 ∷ [])) 5 both-told 3 [] root_path 32 nothing
unfolding Comes key_from nk_of sk_of list_of half word long
second-comes =
    (_, _, _, refl, refl, inr (_, _, refl, (omega arith, inr (_, refl, (omega arith, inl (_, _, _, refl, refl, inl refl))))))

-- no key node is at the root: the walk comes to no key
none-comes : (after : Seen) → Comes (store []) 5 after 3 [] root_path 32 nothing → ⊥
unfolding Comes
none-comes after c = absurd (cc)

-- ---- a class: none, one byte, and the most that fit a cell of 8 and one more

class-none : class_sizes [] ≡ []
class-none = refl

class-one : class_sizes (7 ∷ []) ≡ 8 ∷ []
class-one = refl

class-four : class_sizes (replicate 4 7) ≡ 8 ∷ []
class-four = refl

class-five : class_sizes (replicate 5 7) ≡ 16 ∷ []
class-five = refl

-- ---- all values of a key: a list of 4 bytes for each that it has room for, a record of 20 bytes and the name, and data of more than 4 bytes

abbrev value : ℕ → Member
value size = record { name = 97 ∷ []; kind = 1; bytes = replicate size 7 }

values-none : all_value_sizes 3 [] ≡ []
values-none = refl

value-inline : all_value_sizes 1 (value 4 ∷ []) ≡ 8 ∷ 32 ∷ []
unfolding data_sizes segment_size
value-inline = refl

value-room : all_value_sizes 3 (value 4 ∷ []) ≡ 16 ∷ 32 ∷ []
unfolding data_sizes segment_size
value-room = refl

values-two : all_value_sizes 2 (value 4 ∷ value 5 ∷ []) ≡ 16 ∷ 32 ∷ 32 ∷ 16 ∷ []
unfolding data_sizes segment_size
values-two = refl

taken-two : bytes_taken 2 (value 4 ∷ value 5 ∷ []) ≡ 96
unfolding data_sizes segment_size
taken-two = refl

-- of two small values both are the first, which one carve may take, and not one alone
first-two : IsFront (value 4 ∷ value 5 ∷ []) (value 4 ∷ value 5 ∷ []) []
unfolding data_sizes segment_size
first-two = record { parts = refl; fit = omega arith; most = tt }

first-one : IsFront (value 4 ∷ value 5 ∷ []) (value 4 ∷ []) (value 5 ∷ []) → ⊥
unfolding data_sizes segment_size
first-one f = let m = f.most in omega (arith, m)

-- behind others both are a group, without a list, and none alone nor no value is
more-two : more_bytes_taken (value 4 ∷ value 5 ∷ []) ≡ 80
unfolding data_sizes segment_size
more-two = refl

group-two : IsGroup (value 4 ∷ value 5 ∷ []) (value 4 ∷ value 5 ∷ []) []
unfolding data_sizes segment_size
group-two = record { some = omega arith; first = record { parts = refl; fit = omega arith; most = tt } }

group-one : IsGroup (value 4 ∷ value 5 ∷ []) (value 4 ∷ []) (value 5 ∷ []) → ⊥
unfolding data_sizes segment_size
group-one g = let m = g.first.most in omega (arith, m)

group-none : IsGroup (value 4 ∷ []) [] (value 4 ∷ []) → ⊥
group-none g = let s = g.some in omega (arith, s)
