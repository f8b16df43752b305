-- A path's text behind another's. The limit is a variable, so that nothing counts up to it.
use Rattle.std.proofs.Common.{◌≡◌, ℕ, ◌+◌, ◌<◌, ◌≤◌, Bool, true, false, ◌||◌, ◌==◌, nat_le, cond, List, [], ◌∷◌, ◌++◌, map, length, length-append, refl, sym, ap, ◌∙◌, arith}
use Rattle.std.specs.List.{list_all, slice_split, onto_first}
use Rattle.std.proofs.lemmas.Bool.{and_parts, and_from, le-leb, ne_eqb}
use Rattle.std.proofs.lemmas.List.{append-nil, append_assoc, length-map}
use Rattle.std.proofs.lemmas.List.Folds.{list_all-append}
use Rattle.std.proofs.lemmas.List.Splits.{length-slice_split}
use Rattle.reg_names.specs.Names.{folded, is_backslash, is_key_name, are_key_names, path_of}
use Rattle.reg_names.proofs.FoldingLemmas.{names-folded, path_of-folded}

abbrev pub parts : List ℕ → List (List ℕ)
parts text = slice_split is_backslash text

-- ---- the names of both

onto-joined : (b : ℕ) (xs ys : List (List ℕ)) → 0 < length xs → onto_first b (xs ++ ys) ≡ onto_first b xs ++ ys
onto-joined b [] ys some = absurd (omega (arith, some))
onto-joined b (x ∷ xs) ys some = refl

pub parts-joined : (a b : List ℕ) → parts (a ++ 92 ∷ b) ≡ parts a ++ parts b
parts-joined [] b = refl
parts-joined (x ∷ a) b =
    ap (λ ps. cond (is_backslash x) ([] ∷ ps) (onto_first x ps)) (parts-joined a b) ∙ by (is_backslash x)
  where
    by : (t : Bool) → cond t ([] ∷ parts a ++ parts b) (onto_first x (parts a ++ parts b)) ≡ cond t ([] ∷ parts a) (onto_first x (parts a)) ++ parts b
    by true = refl
    by false = onto-joined x (parts a) (parts b) (let l = length-slice_split is_backslash a in omega (arith, l))

-- with a backslash between them, where neither is empty
with_backslash : List ℕ → List ℕ → List ℕ → List ℕ
with_backslash a b text = cond ((length a == 0) || (length b == 0)) text (text ++ 92 ∷ [])

some-length : (b : ℕ) (bs : List ℕ) → (length (b ∷ bs) == 0) ≡ false
some-length b bs = ne_eqb (length (b ∷ bs)) 0 (λ e. omega (arith, e))

joined : (a b : List ℕ) → path_of (with_backslash a b (folded a) ++ folded b) ≡ path_of (folded a) ++ path_of (folded b)
unfolding with_backslash
joined [] b = refl
joined (x ∷ a) [] =
    ap (λ t. path_of (cond (t || true) (folded (x ∷ a)) (folded (x ∷ a) ++ 92 ∷ []) ++ [])) (some-length x a)
    ∙ (ap path_of (append-nil (folded (x ∷ a))) ∙ sym (append-nil (path_of (folded (x ∷ a)))))
joined (x ∷ a) (y ∷ b) =
    ap (λ t. path_of (cond (t || (length (y ∷ b) == 0)) (folded (x ∷ a)) (folded (x ∷ a) ++ 92 ∷ []) ++ folded (y ∷ b))) (some-length x a)
    ∙ (ap (λ t. path_of (cond t (folded (x ∷ a)) (folded (x ∷ a) ++ 92 ∷ []) ++ folded (y ∷ b))) (some-length y b)
    ∙ (ap path_of (append_assoc (folded (x ∷ a)) (92 ∷ []) (folded (y ∷ b))) ∙ parts-joined (folded (x ∷ a)) (folded (y ∷ b))))

pub joined-names : (a b : List ℕ) (room above parted text : List ℕ) → room ≡ [] → above ≡ room ++ folded a →
    parted ≡ cond ((length a == 0) || (length b == 0)) above (above ++ 92 ∷ []) → text ≡ parted ++ folded b
    → path_of text ≡ map folded (path_of a) ++ map folded (path_of b)
unfolding with_backslash
joined-names a b room above parted text none first between second =
    let front : above ≡ folded a = first ∙ ap (λ r. r ++ folded a) none in
    let all : text ≡ with_backslash a b (folded a) ++ folded b = second ∙ ap (λ p. p ++ folded b) (between ∙ ap (with_backslash a b) front) in
    ap path_of all ∙ (joined a b ∙ (ap (λ ns. ns ++ path_of (folded b)) (path_of-folded a) ∙ ap (λ ns. map folded (path_of a) ++ ns) (path_of-folded b)))

-- ---- they are a path where they are few

module _ (limit : ℕ) where
  both-names : (a b : List (List ℕ)) → are_key_names limit a ≡ true → are_key_names limit b ≡ true → length a + length b ≤ limit → are_key_names limit (map folded a ++ map folded b) ≡ true
  unfolding are_key_names
  both-names a b m n few =
      let first = (and_parts (list_all is_key_name a) (nat_le (length a) limit) m).0 in
      let second = (and_parts (list_all is_key_name b) (nat_le (length b) limit) n).0 in
      let l = length-append (map folded a) (map folded b) in
      let la = length-map a folded in
      let lb = length-map b folded in
      and_from (list_all is_key_name (map folded a ++ map folded b)) (nat_le (length (map folded a ++ map folded b)) limit)
      (list_all-append is_key_name (map folded a) (map folded b) ∙ and_from (list_all is_key_name (map folded a))
      (list_all is_key_name (map folded b)) (names-folded a ∙ first) (names-folded b ∙ second))
      (le-leb (length (map folded a ++ map folded b)) limit (omega (arith, l, la, lb, few)))

  pub joined-valid : (a b text : List ℕ) → are_key_names limit (path_of a) ≡ true → are_key_names limit (path_of b) ≡ true →
      path_of text ≡ map folded (path_of a) ++ map folded (path_of b) → length (path_of a) + length (path_of b) ≤ limit →
      are_key_names limit (path_of text) ≡ true
  joined-valid a b text m n names few = ap (are_key_names limit) names ∙ both-names (path_of a) (path_of b) m n few
