-- What is told of a value, or a subkey, in a room.
use Rattle.std.proofs.Common.{◌≡◌, ℕ, ◌<◌, ◌≤◌, ◌⊎◌, inl, inr, List, [], ◌∷◌, ◌++◌, length, drop, nat_lt, nat_eq, true, false, Some, refl, ap, ◌∙◌, arith}
use Rattle.std.proofs.lemmas.Bool.Decides.{nat_tests}
use Rattle.reg_heap.specs.Paths.{Member}
use Rattle.reg_model.specs.Replies.{value_told}
use Rattle.reg_tree.specs.ValueAnswers.{fitted_by}
use Rattle.reg_calls.specs.Rooms.{size_of, asked_of, TellsValue}

-- a room with place for a value's data, or without
fits : (member : Member) (room : List ℕ) → length member.bytes ≤ length room → fitted_by (Some member) room ≡ member.bytes ++ drop (length member.bytes) room
fits member room l = let b : nat_lt (length room) (length member.bytes) ≡ false = grind (arith, nat_tests, l) in rw b refl

fits-not : (member : Member) (room : List ℕ) → length room < length member.bytes → fitted_by (Some member) room ≡ room
fits-not member room l = let b : nat_lt (length room) (length member.bytes) ≡ true = grind (arith, nat_tests, l) in rw b refl

-- a room that has a byte, and no place for all
pub short-told : (member : Member) (old new : List ℕ) (kind size : ℕ) → kind ≡ member.kind → size ≡ length member.bytes → size ≤ 4294967295 →
    new ≡ fitted_by (Some member) old → 0 < length old → length old < size →
    TellsValue (value_told (Some member) (asked_of old)) (record { status = 234; kind = kind; size = size }) old new
short-told member old new kind size k n most is some short =
    let a : nat_eq (length old) 0 ≡ false = grind (arith, nat_tests, some) in
    let b : nat_lt (size_of old) (length member.bytes) ≡ true = grind (arith, nat_tests, short, n, most) in
    rw (a, b) (rw (k, n) refl, is ∙ fits-not member old (omega (arith, short, n)))

-- a room of no byte
none-told : (member : Member) (old new : List ℕ) (kind size : ℕ) → kind ≡ member.kind → size ≡ length member.bytes →
    new ≡ fitted_by (Some member) old → length old ≡ 0 →
    TellsValue (value_told (Some member) (asked_of old)) (record { status = 0; kind = kind; size = size }) old new
none-told member old new kind size k n is none =
    let a : nat_eq (length old) 0 ≡ true = grind (arith, nat_tests, none) in
    rw a (rw (k, n) refl, is ∙ no-room member.bytes refl old none)
  where
    no-room : (bytes : List ℕ) → member.bytes ≡ bytes → (room : List ℕ) → length room ≡ 0 → fitted_by (Some member) room ≡ room
    no-room [] e [] none = rw e refl
    no-room (y ∷ ys) e [] none = fits-not member [] (omega (arith, ap length e))
    no-room bytes e (y ∷ ys) none = absurd (omega (arith, none))

-- or one of no byte, or with place for all
pub whole-told : (member : Member) (old new : List ℕ) (kind size : ℕ) → kind ≡ member.kind → size ≡ length member.bytes → size ≤ 4294967295 →
    new ≡ fitted_by (Some member) old → (length old ≡ 0) ⊎ (size ≤ length old) →
    TellsValue (value_told (Some member) (asked_of old)) (record { status = 0; kind = kind; size = size }) old new
whole-told member old new kind size k n most is (inl none) = none-told member old new kind size k n is none
whole-told member [] new kind size k n most is (inr all) = none-told member [] new kind size k n is refl
whole-told member (x ∷ xs) new kind size k n most is (inr all) =
    let a : nat_eq (length (x ∷ xs)) 0 ≡ false = grind (arith, nat_tests) in
    let b : nat_lt (size_of (x ∷ xs)) (length member.bytes) ≡ false = grind (arith, nat_tests, all, n, most) in
    rw (a, b) (rw (k, n) refl, is ∙ fits member (x ∷ xs) (omega (arith, all, n)))
