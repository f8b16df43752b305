-- Entries of a list, taken one by one.
use Rattle.std.proofs.Common.{◌≡◌, ℕ, zero, suc, ◌+◌, ◌≤◌, Some, List, [], ◌∷◌, length, drop, slice_get, refl, sym, ap, ◌∙◌, arith, add-one}
use Rattle.std.proofs.Math.ListN.{drop_of_length-le}
use Rattle.std.proofs.lemmas.Option.{none-some, same_Some}
use Rattle.reg_records.specs.SubkeyLists.{plain_entries, hinted_entries, entries_as}
use Rattle.reg_records.specs.declared.lists.ListForm.{ListForm}
use Rattle.reg_records.specs.declared.lists.ListForm.TheVariants.{IndexRoot, IndexLeaf, FastLeaf, HashLeaf}

dropped-suc : {X : Type 0} (xs : List X) (i : ℕ) (x : X) → slice_get xs i ≡ Some x → drop i xs ≡ x ∷ drop (suc i) xs
dropped-suc [] i x e = absurd (none-some _ e)
dropped-suc (y ∷ ys) zero x e = ap (λ z. z ∷ ys) (same_Some _ _ e)
dropped-suc (y ∷ ys) (suc i) x e = dropped-suc ys i x e

pub dropped : {X : Type 0} (xs : List X) (i : ℕ) (x : X) → slice_get xs i ≡ Some x → drop i xs ≡ x ∷ drop (i + 1) xs
dropped xs i x e = dropped-suc xs i x e ∙ ap (λ n. x ∷ drop n xs) (sym (add-one i))

plain-length : (n at : ℕ) (content : List ℕ) → length (plain_entries n at content) ≡ n
plain-length zero at content = refl
plain-length (suc n) at content = ap suc (plain-length n (at + 4) content)

hinted-length : (n at : ℕ) (content : List ℕ) → length (hinted_entries n at content) ≡ n
hinted-length zero at content = refl
hinted-length (suc n) at content = ap suc (hinted-length n (at + 8) content)

pub entries-length : (form : ListForm) (n at : ℕ) (content : List ℕ) → length (entries_as form n at content) ≡ n
entries-length IndexRoot n at content = plain-length n at content
entries-length IndexLeaf n at content = plain-length n at content
entries-length FastLeaf n at content = hinted-length n at content
entries-length HashLeaf n at content = hinted-length n at content

pub all-taken : (form : ListForm) (n taken : ℕ) (content : List ℕ) → n ≤ taken → drop taken (entries_as form n 4 content) ≡ []
all-taken form n taken content e = drop_of_length-le (entries_as form n 4 content) (let l = entries-length form n 4 content in omega (arith, l, e))
