-- Lists of subkeys, read.
use Rattle.std.proofs.Common.{◌≡◌, ◌⊎◌, inl, inr, ℕ, zero, suc, ◌+◌, ◌*◌, ◌<◌, ◌≤◌, true, false, List, length, nat_le, nat_lt, Option, Some, None, refl, sym, ap, ◌∙◌, subst, arith}
use Rattle.std.specs.Prelude.{slice_get}
use Rattle.std.specs.Option.{option_and_then}
use Rattle.std.proofs.lemmas.Bool.Decides.{nat_tests}
use Rattle.reg_heap.specs.ByteWords.{half, word}
use Rattle.reg_records.specs.declared.RecordFault.TheVariants.{Short, Signature, Length}
use Rattle.reg_records.specs.declared.lists.ListForm.TheVariants.{IndexRoot, IndexLeaf, FastLeaf, HashLeaf}
use Rattle.reg_records.specs.SubkeyLists.{Form, form_of, list_as, list_of, entry_size, plain_entries, hinted_entries, entries_as, form_fault, list_fault}

module _ (content : List ℕ) where
  past_end : (form : Form) → length content < 4 + entry_size form * half content 2 → list_as form content ≡ None
  past_end IndexRoot l = let t : nat_le (4 + 4 * half content 2) (length content) ≡ false = grind (arith, nat_tests) in rw t refl
  past_end IndexLeaf l = let t : nat_le (4 + 4 * half content 2) (length content) ≡ false = grind (arith, nat_tests) in rw t refl
  past_end FastLeaf l = let t : nat_le (4 + 8 * half content 2) (length content) ≡ false = grind (arith, nat_tests) in rw t refl
  past_end HashLeaf l = let t : nat_le (4 + 8 * half content 2) (length content) ≡ false = grind (arith, nat_tests) in rw t refl

  within : (form : Form) → 4 + entry_size form * half content 2 ≤ length content → list_as form content ≡ Some (record { form = form; entries = entries_as form (half content 2) 4 content })
  within IndexRoot l = let t : nat_le (4 + 4 * half content 2) (length content) ≡ true = grind (arith, nat_tests) in rw t refl
  within IndexLeaf l = let t : nat_le (4 + 4 * half content 2) (length content) ≡ true = grind (arith, nat_tests) in rw t refl
  within FastLeaf l = let t : nat_le (4 + 8 * half content 2) (length content) ≡ true = grind (arith, nat_tests) in rw t refl
  within HashLeaf l = let t : nat_le (4 + 8 * half content 2) (length content) ≡ true = grind (arith, nat_tests) in rw t refl

  short_as : (form : Form) → length content < 4 → list_as form content ≡ None
  short_as IndexRoot l = past_end IndexRoot (omega arith)
  short_as IndexLeaf l = past_end IndexLeaf (omega arith)
  short_as FastLeaf l = past_end FastLeaf (omega arith)
  short_as HashLeaf l = past_end HashLeaf (omega arith)

  none_of : (o : Option Form) → ((form : Form) → list_as form content ≡ None) → option_and_then (λ form. list_as form content) o ≡ None
  none_of None h = refl
  none_of (Some form) h = h form

  pub short-read : length content < 4 → list_of content ≡ None
  unfolding list_of
  short-read l = none_of (form_of content) (λ form. short_as form l)

  pub short-fault : length content < 4 → list_fault content ≡ Some Short
  unfolding list_fault
  short-fault l = let t : nat_lt (length content) 4 ≡ true = grind (arith, nat_tests) in rw t refl

  module _ (long : 4 ≤ length content) where
    enough : nat_lt (length content) 4 ≡ false
    enough = grind (arith, nat_tests)

    pub unsigned-read : form_of content ≡ None → list_of content ≡ None
    unfolding list_of
    unsigned-read e = ap (option_and_then (λ form. list_as form content)) e

    pub unsigned-fault : form_of content ≡ None → list_fault content ≡ Some Signature
    unfolding list_fault
    unsigned-fault e = rw enough (ap (form_fault content) e)

    module _ (form : Form) (is : form_of content ≡ Some form) (count size : ℕ) (counted : count ≡ half content 2) (sized : size ≡ entry_size form) where
      all : 4 + size * count ≡ 4 + entry_size form * half content 2
      all = ap (λ n. 4 + size * n) counted ∙ ap (λ n. 4 + n * half content 2) sized

      pub over-read : length content < 4 + size * count → list_of content ≡ None
      unfolding list_of
      over-read l = ap (option_and_then (λ form. list_as form content)) is ∙ past_end form (subst (λ n. length content < n) all l)

      pub over-fault : length content < 4 + size * count → list_fault content ≡ Some Length
      unfolding list_fault
      over-fault l =
          let k : length content < 4 + entry_size form * half content 2 = subst (λ n. length content < n) all l in
          let t : nat_lt (length content) (4 + entry_size form * half content 2) ≡ true = grind (arith, nat_tests) in
          rw enough (ap (form_fault content) is ∙ rw t refl)

      pub is-read : 4 + size * count ≤ length content → list_of content ≡ Some (record { form = form; entries = entries_as form count 4 content })
      unfolding list_of
      is-read l =
          ap (option_and_then (λ form. list_as form content)) is ∙ within form (subst (λ n. n ≤ length content) all l)
          ∙ ap (λ n. Some (record { form = form; entries = entries_as form n 4 content })) (sym counted)

      pub no-fault : 4 + size * count ≤ length content → list_fault content ≡ None
      unfolding list_fault
      no-fault l =
          let k : 4 + entry_size form * half content 2 ≤ length content = subst (λ n. n ≤ length content) all l in
          let t : nat_lt (length content) (4 + entry_size form * half content 2) ≡ false = grind (arith, nat_tests) in
          rw enough (ap (form_fault content) is ∙ rw t refl)

-- ---- an entry among its neighbours

plain-at : (content : List ℕ) (index count at offset : ℕ) → index < count → offset ≡ word content (at + 4 * index) →
    slice_get (plain_entries count at content) index ≡ Some (record { offset = offset; hint = 0 })
plain-at content zero zero at offset l e = absurd (omega arith)
plain-at content zero (suc count) at offset l e = let here : at + 4 * 0 ≡ at = omega arith in ap (λ n. Some (record { offset = n; hint = 0 })) (sym (e ∙ ap (word content) here))
plain-at content (suc index) zero at offset l e = absurd (omega arith)
plain-at content (suc index) (suc count) at offset l e =
    let further : at + 4 * suc index ≡ at + 4 + 4 * index = omega arith in
    plain-at content index count (at + 4) offset (omega arith) (e ∙ ap (word content) further)

hinted-at : (content : List ℕ) (index count at offset hint : ℕ) → index < count → offset ≡ word content (at + 8 * index) →
    hint ≡ word content (at + 8 * index + 4) → slice_get (hinted_entries count at content) index ≡ Some (record { offset = offset; hint = hint })
hinted-at content zero zero at offset hint l e h = absurd (omega arith)
hinted-at content zero (suc count) at offset hint l e h =
    let here : at + 8 * 0 ≡ at = omega arith in
    let there : at + 8 * 0 + 4 ≡ at + 4 = omega arith in
    (λ i. Some (record { offset = sym (e ∙ ap (word content) here) i; hint = sym (h ∙ ap (word content) there) i }))
hinted-at content (suc index) zero at offset hint l e h = absurd (omega arith)
hinted-at content (suc index) (suc count) at offset hint l e h =
    let further : at + 8 * suc index ≡ at + 8 + 8 * index = omega arith in
    let beyond : at + 8 * suc index + 4 ≡ at + 8 + 8 * index + 4 = omega arith in
    hinted-at content index count (at + 8) offset hint (omega arith) (e ∙ ap (word content) further) (h ∙ ap (word content) beyond)

pub plainly-at : (form : Form) → (form ≡ IndexRoot) ⊎ (form ≡ IndexLeaf) → (content : List ℕ) (size index number offset : ℕ) →
    size ≡ entry_size form → number ≡ index → offset ≡ word content (4 + size * number)
    → (count : ℕ) → index < count → slice_get (entries_as form count 4 content) index ≡ Some (record { offset = offset; hint = 0 })
plainly-at IndexRoot h content size index number offset s n e count l = plain-at content index count 4 offset l (e ∙ (ap (λ k. word content (4 + k * number)) s ∙ ap (λ k. word content (4 + 4 * k)) n))
plainly-at IndexLeaf h content size index number offset s n e count l = plain-at content index count 4 offset l (e ∙ (ap (λ k. word content (4 + k * number)) s ∙ ap (λ k. word content (4 + 4 * k)) n))
plainly-at FastLeaf (inl h) content size index number offset s n e count l = absurd (cc h)
plainly-at FastLeaf (inr h) content size index number offset s n e count l = absurd (cc h)
plainly-at HashLeaf (inl h) content size index number offset s n e count l = absurd (cc h)
plainly-at HashLeaf (inr h) content size index number offset s n e count l = absurd (cc h)

pub hintedly-at : (form : Form) → (form ≡ FastLeaf) ⊎ (form ≡ HashLeaf) → (content : List ℕ) (size index number offset hint : ℕ) →
    size ≡ entry_size form → number ≡ index → offset ≡ word content (4 + size * number) → hint ≡ word content (4 + size * number + 4)
    → (count : ℕ) → index < count → slice_get (entries_as form count 4 content) index ≡ Some (record { offset = offset; hint = hint })
hintedly-at FastLeaf f content size index number offset hint s n e h count l =
    hinted-at content index count 4 offset hint l (e ∙ (ap (λ k. word content (4 + k * number)) s ∙ ap (λ k. word content (4 + 8 * k)) n))
    (h ∙ (ap (λ k. word content (4 + k * number + 4)) s ∙ ap (λ k. word content (4 + 8 * k + 4)) n))
hintedly-at HashLeaf f content size index number offset hint s n e h count l =
    hinted-at content index count 4 offset hint l (e ∙ (ap (λ k. word content (4 + k * number)) s ∙ ap (λ k. word content (4 + 8 * k)) n))
    (h ∙ (ap (λ k. word content (4 + k * number + 4)) s ∙ ap (λ k. word content (4 + 8 * k + 4)) n))
hintedly-at IndexRoot (inl f) content size index number offset hint s n e h count l = absurd (cc f)
hintedly-at IndexRoot (inr f) content size index number offset hint s n e h count l = absurd (cc f)
hintedly-at IndexLeaf (inl f) content size index number offset hint s n e h count l = absurd (cc f)
hintedly-at IndexLeaf (inr f) content size index number offset hint s n e h count l = absurd (cc f)
