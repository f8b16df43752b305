-- Texts of bytes, piece by piece.
use Rattle.std.proofs.Common.{◌≡◌, ◌≤◌, length, ℕ, ◌+◌, List, [], ◌∷◌, ◌++◌, take, drop, refl, sym, ap, ◌∙◌, append_assoc}
use Rattle.std.proofs.lemmas.List.{take-append-drop, drop-drop, drop_all}
use Rattle.std.specs.Prelude.{slice_index, ◌/◌, ◌%◌}
use Rattle.hex.specs.Hex.{encode_with, lower_digits}
use Rattle.reg_text.specs.Texts.{byte_text, escaped, digits_text}

escaped-append : (a b : List ℕ) → escaped (a ++ b) ≡ escaped a ++ escaped b
escaped-append [] b = refl
escaped-append (x ∷ a) b =
    ap (λ (w : List ℕ). byte_text x ++ w) (escaped-append a b) ∙ sym (append_assoc (byte_text x) (escaped a) (escaped b))

encode-append : (t a b : List ℕ) → encode_with t (a ++ b) ≡ encode_with t a ++ encode_with t b
unfolding encode_with
encode-append t [] b = refl
encode-append t (x ∷ a) b = ap (λ (w : List ℕ). slice_index t (x / 16) ∷ slice_index t (x % 16) ∷ w) (encode-append t a b)

-- the bytes from an index on: a piece of them, and those from its end on
rest-parts : (from piece n : ℕ) (bytes : List ℕ) → n ≡ piece → drop from bytes ≡ take n (drop from bytes) ++ drop (from + piece) bytes
rest-parts from piece n bytes e =
    sym (take-append-drop n (drop from bytes)) ∙
    ap (λ (w : List ℕ). take n (drop from bytes) ++ w) (drop-drop n from bytes ∙ ap (λ (k : ℕ). drop (from + k) bytes) e)

pub escaped-piece : (from piece n : ℕ) (bytes : List ℕ) → n ≡ piece →
    escaped (drop from bytes) ≡ escaped (take n (drop from bytes)) ++ escaped (drop (from + piece) bytes)
escaped-piece from piece n bytes e =
    ap escaped (rest-parts from piece n bytes e) ∙ escaped-append (take n (drop from bytes)) (drop (from + piece) bytes)

pub digits-piece : (from piece n : ℕ) (bytes : List ℕ) → n ≡ piece →
    digits_text (drop from bytes) ≡ digits_text (take n (drop from bytes)) ++ digits_text (drop (from + piece) bytes)
digits-piece from piece n bytes e =
    ap digits_text (rest-parts from piece n bytes e) ∙ encode-append lower_digits (take n (drop from bytes)) (drop (from + piece) bytes)

-- past the last byte nothing is left
pub escaped-end : (from : ℕ) (bytes : List ℕ) → length bytes ≤ from → escaped (drop from bytes) ≡ []
escaped-end from bytes l = ap escaped (drop_all from bytes l)

digits-none : digits_text [] ≡ []
unfolding encode_with
digits-none = refl

pub digits-end : (from : ℕ) (bytes : List ℕ) → length bytes ≤ from → digits_text (drop from bytes) ≡ []
digits-end from bytes l = ap digits_text (drop_all from bytes l) ∙ digits-none
