-- What an escaped text stands for, byte by byte.
use Rattle.std.proofs.Common.{◌≡◌, ℕ, ◌<◌, List, [], ◌∷◌, ◌++◌, length, drop, Option, Some, None, refl, sym, subst, ap, ◌∙◌, arith, append_assoc, append-nil}
use Rattle.reg_script.specs.LineWords.{escaped_byte, unescaped, unescaped_after}

-- `%HH` at the start
unescaped-escape : (text : List ℕ) (byte : ℕ) → escaped_byte text ≡ Some byte → (unescaped text ≡ byte ∷ unescaped (drop 3 text)) ×
    (length (drop 3 text) < length text)
unfolding unescaped
unescaped-escape [] byte e = cc
unescaped-escape (mark ∷ []) byte e = cc
unescaped-escape (mark ∷ high ∷ []) byte e = cc
unescaped-escape (mark ∷ high ∷ low ∷ rest) byte e = (
  subst (λ (o : Option ℕ). elim o as (λ _. List ℕ) [
    | Some b ↦ b ∷ unescaped_after 2 (high ∷ low ∷ rest)
    | None ↦ mark ∷ unescaped_after 0
        (high ∷ low ∷ rest)
  ] ≡ byte ∷ unescaped_after 0 rest)
      (sym e) refl,
  omega arith,
)

pub escape_next : (text rest : List ℕ) (byte : ℕ) → Some byte ≡ escaped_byte text → rest ≡ drop 3 text →
    (unescaped text ≡ byte ∷ unescaped rest) × (length rest < length text)
escape_next text rest byte e past = rw past (unescaped-escape text byte (sym e))

-- another byte there
unescaped-plain : (first : ℕ) (rest : List ℕ) → escaped_byte (first ∷ rest) ≡ None → unescaped (first ∷ rest) ≡ first ∷ unescaped rest
unfolding unescaped
unescaped-plain first [] e = refl
unescaped-plain first (high ∷ []) e = refl
unescaped-plain first (high ∷ low ∷ rest) e =
    subst (λ (o : Option ℕ). elim o as (λ _. List ℕ) [
      | Some b ↦ b ∷ unescaped_after 2 (high ∷ low ∷ rest)
      | None ↦ first ∷ unescaped_after 0
          (high ∷ low ∷ rest)
    ] ≡ first ∷ unescaped_after 0 (high ∷ low ∷ rest))
    (sym e) refl

pub plain_next : (text rest : List ℕ) (first : ℕ) → text ≡ first ∷ rest → None ≡ escaped_byte text →
    (unescaped text ≡ first ∷ unescaped rest) × (length rest < length text)
plain_next text rest first e none =
    rw e (unescaped-plain first rest (ap (λ t. escaped_byte t) (sym e) ∙ sym none), omega arith)

-- one more byte of a name
pub name_more : (found : Option (List ℕ)) (front text rest : List ℕ) (byte : ℕ) → found ≡ Some (front ++ unescaped text) →
    unescaped text ≡ byte ∷ unescaped rest
    → found ≡ Some ((front ++ byte ∷ []) ++ unescaped rest)
name_more found front text rest byte so_far next =
    so_far ∙ ap (λ w. Some (front ++ w)) next ∙ ap Some (sym (append_assoc front (byte ∷ []) (unescaped rest)))

-- the last one
pub name_ends : (found : Option (List ℕ)) (front text : List ℕ) → found ≡ Some (front ++ unescaped text) → text ≡ [] → found ≡ Some front
unfolding unescaped
name_ends found front text so_far end = so_far ∙ rw (end, append-nil) refl
