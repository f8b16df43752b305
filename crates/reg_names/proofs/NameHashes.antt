-- The hash of a name, character by character.
use Rattle.std.proofs.Common.{◌≡◌, ℕ, ◌<◌, List, [], ◌∷◌, ◌++◌, ◌+◌, ◌*◌, ◌%◌, length, take, get_or, refl, sym, ap, ◌∙◌, arith}
use Rattle.std.specs.List.{fold as fold_list}
use Rattle.std.proofs.lemmas.List.{map-append, take_more}
use Rattle.std.proofs.lemmas.List.Sums.{fold_push}
use Rattle.reg_names.specs.Names.{fold, folded, hash_with, hash}

-- the hash of no characters is 0
pub hash-none : hash [] ≡ 0
unfolding hash
hash-none = refl

-- one more character
pub hash-push : (name : List ℕ) (c : ℕ) → hash (name ++ c ∷ []) ≡ hash_with (hash name) (fold c)
unfolding hash
hash-push name c = ap (fold_list hash_with 0) (map-append fold name (c ∷ [])) ∙ fold_push hash_with 0 (folded name) (fold c)

-- the same, of a name's front and the character that follows it
pub hash-next : (name : List ℕ) (i h c : ℕ) → i < length name → h ≡ hash (take i name) → c ≡ fold (get_or name i 0) → (h * 37 % 4294967296 + c) % 4294967296 ≡ hash (take (i + 1) name)
hash-next name i h c l e k =
    let sum : (h * 37 % 4294967296 + c) % 4294967296 ≡ hash_with h c = omega arith in
    sum ∙ (ap (λ g. hash_with g c) e ∙ (ap (hash_with (hash (take i name))) k ∙ (sym (hash-push (take i name) (get_or name i 0)) ∙ ap hash (sym (take_more name i 0 l)))))

small : (h : ℕ) (cs : List ℕ) → h < 4294967296 → fold_list hash_with h cs < 4294967296
small h [] l = l
small h (c ∷ cs) l = small (hash_with h c) cs (omega arith)

-- a hash has 32 bits
pub hash-small : (name : List ℕ) → hash name < 4294967296
unfolding hash
hash-small name = small 0 (folded name) (omega arith)

-- names that fold alike have one hash
pub hash-same : (a b : List ℕ) → folded a ≡ folded b → hash a ≡ hash b
unfolding hash
hash-same a b e = ap (fold_list hash_with 0) e
