-- A word with backslashes in the place of slashes, byte by byte.
use Rattle.std.proofs.Common.{◌≡◌, ◌∙◌, ℕ, ◌+◌, ◌<◌, ◌≤◌, List, [], ◌∷◌, ◌++◌, length, get_or, drop, map, refl, sym, ap, add-one, drop-cons}
use Rattle.std.proofs.Common.{append_assoc, append-nil}
use Rattle.std.proofs.lemmas.List.{drop_all}
use Rattle.reg_words.specs.ChangeWords.{turned}

here : (word : List ℕ) (i : ℕ) → i < length word → get_or word i 0 ∷ drop (i + 1) word ≡ drop i word
here word i below = rw (add-one, drop-cons word i 0) refl

pub turn_more : (word all bytes more : List ℕ) (i : ℕ) → bytes ++ map turned (drop i word) ≡ all → i < length word →
    more ≡ bytes ++ turned (get_or word i 0) ∷ [] → more ++ map turned (drop (i + 1) word) ≡ all
turn_more word all bytes more i so_far below new =
    ap (λ (w : List ℕ). w ++ map turned (drop (i + 1) word)) new
    ∙ (append_assoc bytes (turned (get_or word i 0) ∷ []) (map turned (drop (i + 1) word))
    ∙ (ap (λ (w : List ℕ). bytes ++ map turned w) (here word i below) ∙ so_far))

pub turn_ends : (word all bytes : List ℕ) (i : ℕ) → bytes ++ map turned (drop i word) ≡ all → length word ≤ i → bytes ≡ all
turn_ends word all bytes i so_far past =
    sym (append-nil bytes) ∙ (ap (λ (w : List ℕ). bytes ++ map turned w) (sym (drop_all i word past)) ∙ so_far)
