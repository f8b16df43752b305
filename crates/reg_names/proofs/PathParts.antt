-- A path taken apart, name by name. The limit is a variable, so that nothing counts up to it.
use Rattle.std.proofs.Common.{◌≡◌, ◌≢◌, ℕ, zero, suc, ◌+◌, ◌-◌, ◌<◌, ◌≤◌, Bool, true, false, ◌&&◌, ◌==◌, List, [], ◌∷◌, length, length-drop, take, drop, nat_lt, nat_le, Option, Some, None}
use Rattle.std.proofs.Common.{sym, ap, ◌∙◌, refl, subst, arith, cond, ltb, eqb, not}
use Rattle.std.specs.Option.{unwrap_or}
use Rattle.std.specs.List.{list_all, slice_split, onto_first, position_or_len}
use Rattle.std.proofs.lemmas.Bool.Decides.{nat_tests}
use Rattle.std.proofs.lemmas.List.{take_all}
use Rattle.std.proofs.lemmas.List.Sums.{prefix_len-le-length}
use Rattle.std.proofs.lemmas.List.Splits.{slice_split_first, length-slice_split, slice_split-cons_no}
use Rattle.reg_names.specs.Names.{key_name_fault, is_key_name, names_fault, are_key_names, path_of, is_backslash}
use Rattle.reg_names.specs.declared.NameFault.{NameFault}
use Rattle.reg_names.specs.declared.NameFault.TheVariants.{TooManyLevels}

abbrev parts : List ℕ → List (List ℕ)
parts text = slice_split is_backslash text

-- ---- the first name

pub unwrapped : (m n : ℕ) (r : Option ℕ) (k : ℕ) → m ≤ n → r ≡ cond (ltb m n) (Some m) None → k ≡ unwrap_or r n → k ≡ m
unwrapped m n r k l e h = elim (ltb m n) as (λ b. ltb m n ≡ b → k ≡ m) [
  | true ↦ λ t. h ∙ ap (λ o. unwrap_or o n) (e ∙ ap (λ b. cond b (Some m) None) t)
  | false ↦ λ t. let at_end : n ≡ m = grind (arith, nat_tests) in (h ∙ ap (λ o. unwrap_or o n) (e ∙ ap (λ b. cond b (Some m) None) t)) ∙ at_end
] refl

by_head : (p : ℕ → Bool) (x : ℕ) (xs : List ℕ) (b : Bool) → p x ≡ b → (position_or_len p xs ≡ length xs → slice_split p xs ≡ xs ∷ []) →
    position_or_len p (x ∷ xs) ≡ length (x ∷ xs) → slice_split p (x ∷ xs) ≡ (x ∷ xs) ∷ []
by_head p x xs true h rest e =
    let none : position_or_len p (x ∷ xs) ≡ 0 = ap (λ b. cond (not b) (1 + position_or_len p xs) 0) h in
    absurd (omega (arith, none, e))
by_head p x xs false h rest e =
    let more : position_or_len p (x ∷ xs) ≡ 1 + position_or_len p xs = ap (λ b. cond (not b) (1 + position_or_len p xs) 0) h in
    slice_split-cons_no p x xs h ∙ ap (onto_first x) (rest (omega (arith, more, e)))

-- a text without a backslash is one name
pub only : (p : ℕ → Bool) (xs : List ℕ) → position_or_len p xs ≡ length xs → slice_split p xs ≡ xs ∷ []
only p [] e = refl
only p (x ∷ xs) e = by_head p x xs (p x) refl (only p xs) e

-- ---- the names in turn

and_false : (b : Bool) → (b && false) ≡ false
and_false true = refl
and_false false = refl

names_fault-bad : (k : ℕ) (name : List ℕ) (names : List (List ℕ)) (f : NameFault) → key_name_fault name ≡ Some f → names_fault (suc k) (name ∷ names) ≡ Some f
unfolding names_fault
names_fault-bad k name names f e = rw e refl

names_fault-good : (k : ℕ) (name : List ℕ) (names : List (List ℕ)) → key_name_fault name ≡ None → names_fault (suc k) (name ∷ names) ≡ names_fault k names
unfolding names_fault
names_fault-good k name names e = let t : nat_lt (suc k) (suc (length names)) ≡ nat_lt k (length names) = grind (arith, nat_tests) in rw (e, t) refl

names_fault-over : (names : List (List ℕ)) → 0 < length names → names_fault 0 names ≡ Some TooManyLevels
unfolding names_fault
names_fault-over names l = let t : nat_lt 0 (length names) ≡ true = grind (arith, nat_tests) in rw t refl

names_fault-none : (k : ℕ) → names_fault k [] ≡ None
unfolding names_fault
names_fault-none zero = refl
names_fault-none (suc k) = let t : nat_lt (suc k) 0 ≡ false = grind (arith, nat_tests) in rw t refl

are_key_names-bad : (k : ℕ) (name : List ℕ) (names : List (List ℕ)) → is_key_name name ≡ false → are_key_names k (name ∷ names) ≡ false
unfolding are_key_names
are_key_names-bad k name names e = ap (λ b. (b && list_all is_key_name names) && nat_le (suc (length names)) k) e

are_key_names-good : (k : ℕ) (name : List ℕ) (names : List (List ℕ)) → is_key_name name ≡ true → are_key_names (suc k) (name ∷ names) ≡ are_key_names k names
unfolding are_key_names
are_key_names-good k name names e = let t : nat_le (suc (length names)) (suc k) ≡ nat_le (length names) k = grind (arith, nat_tests) in
    ap (λ b. (b && list_all is_key_name names) && nat_le (suc (length names)) (suc k)) e ∙ ap (λ b. list_all is_key_name names && b) t

are_key_names-over : (names : List (List ℕ)) → 0 < length names → are_key_names 0 names ≡ false
unfolding are_key_names
are_key_names-over names l = let t : nat_le (length names) 0 ≡ false = grind (arith, nat_tests) in ap (λ b. list_all is_key_name names && b) t ∙ and_false (list_all is_key_name names)

pub are_key_names-none : (k : ℕ) → are_key_names k [] ≡ true
unfolding are_key_names
are_key_names-none k = let t : nat_le 0 k ≡ true = grind (arith, nat_tests) in rw t refl

-- ---- a walk along a path: what is left of the limit, and of the text

pub record Left (limit i : ℕ) (text rest : List ℕ) : Type 0 where
  pub fault : names_fault limit (path_of text) ≡ names_fault (limit - i) (parts rest)
  pub valid : are_key_names limit (path_of text) ≡ are_key_names (limit - i) (parts rest)

pub path_of-some : (text : List ℕ) → 0 < length text → path_of text ≡ parts text
path_of-some [] l = absurd (omega arith)
path_of-some (b ∷ bs) l = refl

pub starts : (limit : ℕ) (text : List ℕ) (e : Bool) → e ≡ (length text == 0) → e ≡ false → Left limit 0 text text
starts limit text e h k =
    let some : 0 < length text = (let t : (length text == 0) ≡ false = sym h ∙ k in grind (arith, nat_tests)) in
    let whole : limit ≡ limit - 0 = omega arith in
    record {
      fault = ap (names_fault limit) (path_of-some text some) ∙ ap (λ k. names_fault k (parts text)) whole;
      valid =
          ap (are_key_names limit) (path_of-some text some) ∙ ap (λ k. are_key_names k (parts text)) whole;
    }

nothing : (text : List ℕ) (e : Bool) → e ≡ (length text == 0) → e ≡ true → path_of text ≡ []
nothing [] e h k = refl
nothing (b ∷ bs) e h k = let t : (length (b ∷ bs) == 0) ≡ true = sym h ∙ k in absurd (grind (arith, nat_tests))

pub empty-fault : (limit : ℕ) (text : List ℕ) (e : Bool) → e ≡ (length text == 0) → e ≡ true → names_fault limit (path_of text) ≡ None
empty-fault limit text e h k = ap (names_fault limit) (nothing text e h k) ∙ names_fault-none limit

pub empty-valid : (limit : ℕ) (text : List ℕ) (e : Bool) → e ≡ (length text == 0) → e ≡ true → true ≡ are_key_names limit (path_of text)
empty-valid limit text e h k = sym (ap (are_key_names limit) (nothing text e h k) ∙ are_key_names-none limit)

module _ (limit i : ℕ) (text rest : List ℕ) (left : Left limit i text rest) where
  -- more names than the limit
  some : 0 < length (parts rest)
  some = omega (arith, length-slice_split is_backslash rest)

  pub over-fault : limit ≤ i → names_fault limit (path_of text) ≡ Some TooManyLevels
  over-fault l =
      let none : limit - i ≡ 0 = omega arith in
      left.fault ∙ (ap (λ k. names_fault k (parts rest)) none ∙ names_fault-over (parts rest) some)

  pub over-valid : limit ≤ i → false ≡ are_key_names limit (path_of text)
  over-valid l =
      let none : limit - i ≡ 0 = omega arith in
      sym (left.valid ∙ (ap (λ k. are_key_names k (parts rest)) none ∙ are_key_names-over (parts rest) some))

  module _ (n : ℕ) (below : i < limit) (is_first : n ≡ position_or_len is_backslash rest) where
    room : limit - i ≡ suc (limit - (i + 1))
    room = omega arith

    -- the faults of the first name and of others, and whether they are a path
    with_fault : (others : List (List ℕ)) → parts rest ≡ take n rest ∷ others → names_fault limit (path_of text) ≡ names_fault (suc (limit - (i + 1))) (take n rest ∷ others)
    with_fault others e = left.fault ∙ (ap (λ k. names_fault k (parts rest)) room ∙ ap (names_fault (suc (limit - (i + 1)))) e)

    with_valid : (others : List (List ℕ)) → parts rest ≡ take n rest ∷ others → are_key_names limit (path_of text) ≡ are_key_names (suc (limit - (i + 1))) (take n rest ∷ others)
    with_valid others e = left.valid ∙ (ap (λ k. are_key_names k (parts rest)) room ∙ ap (are_key_names (suc (limit - (i + 1)))) e)

    last_name : n ≡ length rest → parts rest ≡ take n rest ∷ []
    last_name h = only is_backslash rest (sym is_first ∙ h) ∙ ap (λ t. t ∷ []) (sym (take_all n rest (omega arith)))

    one_of_more : n ≢ length rest → parts rest ≡ take n rest ∷ parts (drop (n + 1) rest)
    one_of_more ne =
        let within : position_or_len is_backslash rest ≤ length rest = prefix_len-le-length (λ c. not (is_backslash c)) rest in
        let below : position_or_len is_backslash rest < length rest = omega arith in
        slice_split_first is_backslash rest 0 below ∙ ap (λ m. take m rest ∷ parts (drop (m + 1) rest)) (sym is_first)

    bad_either : (P : List (List ℕ) → Type 0) → ((others : List (List ℕ)) → P (take n rest ∷ others)) → P (parts rest)
    bad_either P h = elim (eqb n (length rest)) as (λ b. eqb n (length rest) ≡ b → P (parts rest)) [
      | true ↦ λ t. subst P (sym (last_name (grind (arith, nat_tests)))) (h [])
      | false ↦ λ t. subst P (sym (one_of_more (grind (arith, nat_tests)))) (h (parts (drop (n + 1) rest)))
    ] refl

    pub bad-fault : (f : NameFault) → key_name_fault (take n rest) ≡ Some f → names_fault limit (path_of text) ≡ Some f
    bad-fault f e = left.fault ∙ (ap (λ k. names_fault k (parts rest)) room ∙ bad_either (λ t. names_fault (suc (limit - (i + 1))) t ≡ Some f)
        (λ others. names_fault-bad (limit - (i + 1)) (take n rest) others f e))

    pub bad-valid : false ≡ is_key_name (take n rest) → false ≡ are_key_names limit (path_of text)
    bad-valid e = sym (left.valid ∙ bad_either (λ t. are_key_names (limit - i) t ≡ false) (λ others. are_key_names-bad (limit - i) (take n rest) others (sym e)))

    pub last-fault : key_name_fault (take n rest) ≡ None → n ≡ length rest → names_fault limit (path_of text) ≡ None
    last-fault e h = with_fault [] (last_name h) ∙ (names_fault-good (limit - (i + 1)) (take n rest) [] e ∙ names_fault-none (limit - (i + 1)))

    pub last-valid : true ≡ is_key_name (take n rest) → n ≡ length rest → true ≡ are_key_names limit (path_of text)
    last-valid e h = sym (with_valid [] (last_name h) ∙ (are_key_names-good (limit - (i + 1)) (take n rest) [] (sym e) ∙ are_key_names-none (limit - (i + 1))))

    pub next : key_name_fault (take n rest) ≡ None → true ≡ is_key_name (take n rest) → n ≢ length rest → Left limit (i + 1) text (take (length rest - (n + 1)) (drop (n + 1) rest))
    next e v ne =
        let all : drop (n + 1) rest ≡ take (length rest - (n + 1)) (drop (n + 1) rest) = sym (take_all (length rest - (n + 1)) (drop (n + 1) rest) (omega (arith, length-drop (n + 1) rest))) in
        let left_of : List ℕ → Type 0 = λ others. Left limit (i + 1) text others in
        subst left_of all (record {
          fault = with_fault _ (one_of_more ne) ∙ names_fault-good (limit - (i + 1)) (take n rest)
              (parts (drop (n + 1) rest)) e;
          valid = with_valid _ (one_of_more ne) ∙ are_key_names-good (limit - (i + 1)) (take n rest)
              (parts (drop (n + 1) rest)) (sym v);
        })
