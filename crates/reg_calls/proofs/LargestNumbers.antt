-- What is largest among the subkeys and values of a key, as the tree tells it and as an answer does.
use Rattle.std.proofs.Common.{◌≡◌, ℕ, nat_lt, cond, List, [], ◌∷◌, map, length, max, Option, Some, None, is_some, true, refl, sym, ap, ◌∙◌, arith}
use Rattle.std.specs.List.{fold}
use Rattle.std.specs.FinMap.{get}
use Rattle.std.proofs.Math.Nat.{max-zero, zero-max}
use Rattle.std.proofs.lemmas.Bool.Decides.{nat_tests}
use Rattle.reg_heap.specs.Paths.{Path, Tree, Rec, Member, children_of}
use Rattle.std.proofs.lemmas.Bool.{false≢true}
use Rattle.reg_heap.specs.Edits.{descriptor_of, values_at}
use Rattle.reg_model.specs.Replies.{info_told, largest_of, name_of, time_of}
use Rattle.reg_model.specs.declared.answer.AnswerBody.TheVariants.{Info}
use Rattle.reg_tree.specs.SubkeyWalk.{name_length}

larger : (a n m : ℕ) → max (max a n) m ≡ max a (cond (nat_lt m n) n m)
larger a n m = grind (arith, nat_tests)

module _ {X : Type 0} (f : X → ℕ) where
  largest-from : (xs : List X) (a : ℕ) → fold (λ a (x : X). max a (f x)) a xs ≡ max a (largest_of (map f xs))
  largest-from [] a = sym (max-zero a)
  largest-from (x ∷ xs) a = largest-from xs (max a (f x)) ∙ larger a (f x) (largest_of (map f xs))

  -- gone over from the first on, and by its parts
  largest-is : (xs : List X) → fold (λ a (x : X). max a (f x)) 0 xs ≡ largest_of (map f xs)
  largest-is xs = largest-from xs 0 ∙ zero-max (largest_of (map f xs))

-- the longest name, and the largest data, among the values of a key
longest_value : (t : Tree) (p : Path) → fold (λ a (m : Member). max a (length m.name)) 0 (values_at t p) ≡ largest_of (map (λ (v : Member). length v.name) (values_at t p))
longest_value t p = largest-is (λ (v : Member). length v.name) (values_at t p)

largest_value : (t : Tree) (p : Path) → fold (λ a (m : Member). max a (length m.bytes)) 0 (values_at t p) ≡ largest_of (map (λ (v : Member). length v.bytes) (values_at t p))
largest_value t p = largest-is (λ (v : Member). length v.bytes) (values_at t p)

name-long : (o : Option Rec) → name_length o ≡ length (name_of o)
name-long None = refl
name-long (Some r) = refl

-- the longest name among the subkeys of a key
longest_subkey : (t : Tree) (p : Path) →
    fold (λ a (q : Path). max a (name_length (get t q))) 0 (children_of t p) ≡ largest_of (map (λ (q : Path). length (name_of (get t q))) (children_of t p))
longest_subkey t p =
    alike (children_of t p) 0 ∙ largest-is (λ (q : Path). length (name_of (get t q))) (children_of t p)
  where
    alike : (qs : List Path) (a : ℕ) → fold (λ a (q : Path). max a (name_length (get t q))) a qs ≡ fold (λ a (q : Path). max a (length (name_of (get t q)))) a qs
    alike [] a = refl
    alike (q ∷ qs) a =
        alike qs (max a (name_length (get t q)))
        ∙ ap (λ n. fold (λ a (q : Path). max a (length (name_of (get t q)))) (max a n) qs) (name-long (get t q))

-- ---- all that is told of a key

told-descriptor : (o : Option Rec) (descriptor : List ℕ) → ((r : Rec) → o ≡ Some r → descriptor ≡ r.descriptor) → is_some o ≡ true → descriptor ≡ descriptor_of o
told-descriptor None descriptor of_rec there = absurd (false≢true there)
told-descriptor (Some r) descriptor of_rec there = of_rec r refl

told-time : (o : Option Rec) (time : ℕ) → ((r : Rec) → o ≡ Some r → time ≡ r.time) → is_some o ≡ true → time ≡ time_of o
told-time None time of_rec there = absurd (false≢true there)
told-time (Some r) time of_rec there = of_rec r refl

pub info-is : (t : Tree) (p : Path) → is_some (get t p) ≡ true → (subkeys longest values name size time : ℕ) (descriptor : List ℕ) → subkeys ≡ length (children_of t p) →
    longest ≡ fold (λ a (q : Path). max a (name_length (get t q))) 0 (children_of t p) → values ≡ length (values_at t p) →
    name ≡ fold (λ a (m : Member). max a (length m.name)) 0 (values_at t p) → size ≡ fold (λ a (m : Member). max a (length m.bytes)) 0 (values_at t p) →
    ((r : Rec) → get t p ≡ Some r → descriptor ≡ r.descriptor) → ((r : Rec) → get t p ≡ Some r → time ≡ r.time)
    → Info subkeys longest values name size (length descriptor) time ≡ info_told t p
info-is t p there subkeys longest values name size time descriptor a b d e f g h =
    let longest-is = b ∙ longest_subkey t p in
    let name-is = e ∙ longest_value t p in
    let size-is = f ∙ largest_value t p in
    let descriptor-is = told-descriptor (get t p) descriptor g there in
    let time-is = told-time (get t p) time h there in
    λ i. Info (a i) (longest-is i) (d i) (name-is i) (size-is i) (length (descriptor-is i)) (time-is i)
