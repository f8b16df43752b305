-- What an escaped text stands for, byte by byte.
use Rattle.std.proofs.Common.{◌≡◌, ℕ, ◌<◌, List, [], ◌∷◌, ◌++◌, length, drop, Option, Some, None, refl, sym, subst, ap, ◌∙◌, arith, append_assoc}
use Rattle.std.proofs.Common.{append-nil}
use Rattle.reg_words.specs.ChangeWords.{escaped_byte, unescaped, unescaped_after}

-- `%HH` at the start
unescaped-escape : (text : List ℕ) (byte : ℕ) → escaped_byte text ≡ Some byte → (unescaped text ≡ byte ∷ unescaped (drop 3 text)) ×
    (length (drop 3 text) < length text)
unfolding unescaped
unescaped-escape [] byte e = cc
unescaped-escape (mark ∷ []) byte e = cc
unescaped-escape (mark ∷ high ∷ []) byte e = cc
unescaped-escape (mark ∷ high ∷ low ∷ rest) byte e = (
  subst (λ (o : Option ℕ). elim o as (λ _. List ℕ) [
    | Some b ↦ b ∷ unescaped_after 2 (high ∷ low ∷ rest)
    | None ↦ mark ∷ unescaped_after 0
        (high ∷ low ∷ rest)
  ] ≡ byte ∷ unescaped_after 0 rest)
      (sym e) refl,
  omega arith,
)

pub escape_next : (text rest : List ℕ) (byte : ℕ) → Some byte ≡ escaped_byte text → rest ≡ drop 3 text →
    (unescaped text ≡ byte ∷ unescaped rest) × (length rest < length text)
escape_next text rest byte e past = rw past (unescaped-escape text byte (sym e))

-- another byte there
unescaped-plain : (first : ℕ) (rest : List ℕ) → escaped_byte (first ∷ rest) ≡ None → unescaped (first ∷ rest) ≡ first ∷ unescaped rest
unfolding unescaped
unescaped-plain first [] e = refl
unescaped-plain first (high ∷ []) e = refl
unescaped-plain first (high ∷ low ∷ rest) e =
    subst (λ (o : Option ℕ). elim o as (λ _. List ℕ) [
      | Some b ↦ b ∷ unescaped_after 2 (high ∷ low ∷ rest)
      | None ↦ first ∷ unescaped_after 0
          (high ∷ low ∷ rest)
    ] ≡ first ∷ unescaped_after 0 (high ∷ low ∷ rest))
    (sym e) refl

pub plain_next : (text rest : List ℕ) (first : ℕ) → text ≡ first ∷ rest → None ≡ escaped_byte text →
    (unescaped text ≡ first ∷ unescaped rest) × (length rest < length text)
plain_next text rest first e none =
    rw e (unescaped-plain first rest (ap (λ t. escaped_byte t) (sym e) ∙ sym none), omega arith)

-- the bytes so far, none of them at the start
pub word_begins : (bytes found : List ℕ) → bytes ≡ [] → found ≡ bytes ++ found
word_begins bytes found e = rw e refl

-- one more byte
pub word_more : (found front more text rest : List ℕ) (byte : ℕ) → found ≡ front ++ unescaped text → unescaped text ≡ byte ∷ unescaped rest →
    more ≡ front ++ byte ∷ [] → found ≡ more ++ unescaped rest
word_more found front more text rest byte so_far next new =
    so_far ∙ (ap (λ (w : List ℕ). front ++ w) next ∙ (sym (append_assoc front (byte ∷ []) (unescaped rest))
    ∙ ap (λ (w : List ℕ). w ++ unescaped rest) (sym new)))

-- the last one
pub word_ends : (found front text : List ℕ) → found ≡ front ++ unescaped text → text ≡ [] → front ≡ found
unfolding unescaped
word_ends found front text so_far end = sym (so_far ∙ (ap (λ (w : List ℕ). front ++ unescaped w) end ∙ append-nil front))
