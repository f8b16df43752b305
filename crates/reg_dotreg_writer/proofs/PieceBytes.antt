-- Bytes gathered piece by piece.
use Rattle.std.proofs.Common.{◌≡◌, ℕ, ◌+◌, ◌<◌, ◌≤◌, Bool, true, false, List, [], ◌∷◌, ◌++◌, length, drop, get_or, Result, Ok, Err, refl}
use Rattle.std.proofs.Common.{sym, ap, ◌∙◌, append_assoc, append-nil}
use Rattle.std.specs.Prelude.{flat_map, OnOk}
use Rattle.std.proofs.lemmas.List.{drop_more, drop_all}
use Rattle.reg_dotreg_writer.specs.Internal.Pieces.{plain}

-- a fact that a call gives, turned into another one
pub on_ok : {A E : Type 0} (r : Result A E) {P Q : Type 0} → (P → Q) → OnOk r P → OnOk r Q
on_ok (Ok x) f p = f p
on_ok (Err e) f p = tt

pub flat_map-append : {A B : Type 0} (f : A → List B) (xs ys : List A) → flat_map f (xs ++ ys) ≡ flat_map f xs ++ flat_map f ys
flat_map-append f [] ys = refl
flat_map-append f (x ∷ xs) ys =
    ap (λ (w : List _). f x ++ w) (flat_map-append f xs ys) ∙ sym (append_assoc (f x) (flat_map f xs) (flat_map f ys))

pub plain-append : (u : Bool) (a b : List ℕ) → plain u (a ++ b) ≡ plain u a ++ plain u b
plain-append true a b = refl
plain-append false a b = flat_map-append (λ (x : ℕ). x ∷ 0 ∷ []) a b

pub plain-none : (u : Bool) → plain u [] ≡ []
plain-none true = refl
plain-none false = refl

-- ---- a loop

-- of what is to come a piece was gathered
pub goes : (now more whole text part rest : List ℕ) → now ++ text ≡ whole → text ≡ part ++ rest → more ≡ now ++ part → more ++ rest ≡ whole
goes now more whole text part rest s t m =
    ap (λ (w : List ℕ). w ++ rest) m ∙ (append_assoc now part rest ∙ (ap (λ (w : List ℕ). now ++ w) (sym t) ∙ s))

-- nothing is left of it
pub done : (now whole text : List ℕ) → now ++ text ≡ whole → text ≡ [] → now ≡ whole
done now whole text s e = sym (append-nil now) ∙ (ap (λ (w : List ℕ). now ++ w) (sym e) ∙ s)

-- what a list's rest from an index on is told as: the element there, and those behind it
pub next_told : {A : Type 0} (f : A → List ℕ) (xs : List A) (index : ℕ) (d : A) → index < length xs →
    flat_map f (drop index xs) ≡ f (get_or xs index d) ++ flat_map f (drop (index + 1) xs)
next_told f xs index d l = ap (flat_map f) (drop_more xs index d l)

pub none_told : {A : Type 0} (f : A → List ℕ) (xs : List A) (index : ℕ) → length xs ≤ index → flat_map f (drop index xs) ≡ []
none_told f xs index l = ap (flat_map f) (drop_all index xs l)

-- ---- pieces one after another

-- two pieces
pub two : (old mid new a b : List ℕ) → mid ≡ old ++ a → new ≡ mid ++ b → new ≡ old ++ (a ++ b)
two old mid new a b p q = q ∙ (ap (λ (w : List ℕ). w ++ b) p ∙ append_assoc old a b)

pub plain_two : (u : Bool) (old mid new a b : List ℕ) → mid ≡ old ++ plain u a → new ≡ mid ++ plain u b → new ≡ old ++ plain u (a ++ b)
plain_two u old mid new a b p q = two old mid new (plain u a) (plain u b) p q ∙ ap (λ (w : List ℕ). old ++ w) (sym (plain-append u a b))

pub four : (old first second third new a b c d : List ℕ) → first ≡ old ++ a → second ≡ first ++ b → third ≡ second ++ c → new ≡ third ++ d →
    new ≡ old ++ (a ++ (b ++ (c ++ d)))
four old first second third new a b c d p q r s =
    two old first new a (b ++ (c ++ d)) p (two first second new b (c ++ d) q (two second third new c d r s))

-- the same piece, said in another way
pub same_bytes : (u : Bool) (old new part whole : List ℕ) → whole ≡ part → new ≡ old ++ plain u part → new ≡ old ++ plain u whole
same_bytes u old new part whole e p = p ∙ ap (λ (w : List ℕ). old ++ plain u w) (sym e)
