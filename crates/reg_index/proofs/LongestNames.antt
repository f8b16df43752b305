-- The longest name among keys, gone over from the first to the last.
use Rattle.std.proofs.Common.{◌≡◌, ℕ, zero, suc, ◌+◌, ◌<◌, ◌≤◌, List, [], ◌∷◌, length, drop, get_or, max, refl, sym, ap, ◌∙◌, arith, add-one}
use Rattle.std.specs.List.{fold}
use Rattle.std.proofs.lemmas.List.Sums.{fold-append}
use Rattle.std.proofs.Math.Seq.{drop-cons}
use Rattle.reg_heap.specs.Heaps.{Heap}
use Rattle.reg_records.specs.SubkeyLists.{Entry}
use Rattle.reg_shape.specs.Nodes.{KeyList}
use Rattle.reg_index.specs.Subkeys.{entries_in, name_at, no_list, numbered}

drop-past : {X : Type 0} (xs : List X) (i : ℕ) → length xs ≤ i → drop i xs ≡ []
drop-past [] zero l = refl
drop-past [] (suc i) l = refl
drop-past (x ∷ xs) zero l = absurd (omega arith)
drop-past (x ∷ xs) (suc i) l = drop-past xs i (omega arith)

module _ (heap : Heap) where
  -- the longer of what was the longest so far and the name of one entry more
  abbrev pub longer : ℕ → Entry → ℕ
  longer longest e = max longest (length (name_at heap e.offset))

  pub one-more : (entries : List Entry) (index longest now key : ℕ) (d : Entry) → index < length entries → (get_or entries index d).offset ≡ key →
      now ≡ max longest (length (name_at heap key)) → fold longer now (drop (index + 1) entries) ≡ fold longer longest (drop index entries)
  one-more entries index longest now key d l here is =
      ap (λ n. fold longer now (drop n entries)) (add-one index)
      ∙ (ap (λ a. fold longer a (drop (suc index) entries)) (is ∙ ap (λ k. max longest (length (name_at heap k))) (sym here))
      ∙ ap (fold longer longest) (sym (drop-cons entries index d l)))

  pub all-passed : (entries : List Entry) (index longest : ℕ) → length entries ≤ index → fold longer longest (drop index entries) ≡ longest
  all-passed entries index longest l = ap (fold longer longest) (drop-past entries index l)

  -- and the names of one list more
  pub list-more : (lists : List KeyList) (number longest now : ℕ) → number < length lists → now ≡ fold longer longest (numbered number lists).list.entries →
      fold longer now (entries_in (drop (number + 1) lists)) ≡ fold longer longest (entries_in (drop number lists))
  list-more lists number longest now l is =
      ap (λ n. fold longer now (entries_in (drop n lists))) (add-one number)
      ∙ (ap (λ a. fold longer a (entries_in (drop (suc number) lists))) is
      ∙ (sym (fold-append longer longest (numbered number lists).list.entries (entries_in (drop (suc number) lists)))
      ∙ ap (λ ls. fold longer longest (entries_in ls)) (sym (drop-cons lists number no_list l))))

  pub lists-passed : (lists : List KeyList) (number longest : ℕ) → length lists ≤ number → fold longer longest (entries_in (drop number lists)) ≡ longest
  lists-passed lists number longest l = ap (λ ls. fold longer longest (entries_in ls)) (drop-past lists number l)

  pub no-names : (entries : List Entry) → length entries ≡ 0 → fold longer 0 entries ≡ 0
  no-names [] e = refl
  no-names (x ∷ xs) e = absurd (omega (arith, e))
