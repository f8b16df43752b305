-- The end of a list, where the code puts a key and takes one, and the head of its reverse.
use Rattle.std.proofs.Common.{◌≡◌, Result, Ok, Err, OnOk, IfErr, List, [], ◌∷◌, ◌++◌, reverse, sym, ap, ◌∙◌, subst}
use Rattle.std.specs.Result.{IsErrAnd}
use Rattle.std.proofs.lemmas.List.{reverse-append}

-- the exit of a `?`
pub if_err : {T E : Type 0} (P : E → Type 0) (r : Result T E) (e : E) → IsErrAnd r (λ y. y ≡ e) → P e → IfErr r P
if_err P (Ok x) e h q = tt
if_err P (Err y) e h q = subst P (sym h) q

-- one is put at the end
pub pushed : {X T E : Type 0} (P : List X → Type 0) (old new : List X) (x : X) (r : Result T E) → OnOk r (new ≡ old ++ x ∷ []) →
    P (x ∷ reverse old) → OnOk r (P (reverse new))
pushed P old new x (Ok y) e p = subst P (sym (ap reverse e ∙ reverse-append old (x ∷ []))) p
pushed P old new x (Err f) e p = tt

-- and another one behind it
pub pushed-twice : {X T E : Type 0} (P : List X → Type 0) (old mid new : List X) (x y : X) (r : Result T E) → mid ≡ old ++ x ∷ [] →
    OnOk r (new ≡ mid ++ y ∷ []) → P (y ∷ x ∷ reverse old) → OnOk r (P (reverse new))
pushed-twice P old mid new x y r d e p =
    pushed P mid new y r e (subst (λ zs. P (y ∷ zs)) (sym (ap reverse d ∙ reverse-append old (x ∷ []))) p)

-- the last one is taken
pub popped : {X : Type 0} (P : List X → Type 0) (old new : List X) (x : X) → old ≡ new ++ x ∷ [] → P (reverse old) → P (x ∷ reverse new)
popped P old new x e p = subst P (ap reverse e ∙ reverse-append new (x ∷ [])) p
