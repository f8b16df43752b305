-- Files counted one after another.
use Rattle.std.proofs.Common.{◌≡◌, ◌<◌, ◌≤◌, ◌+◌, ◌∙◌, ℕ, zero, suc, Bool, true, false, List, [], ◌∷◌, Option, max, nat_lt, length, map, drop, get_or}
use Rattle.std.proofs.Common.{refl, sym, ap, subst, inl, inr, arith}
use Rattle.std.proofs.Math.Seq.{drop-cons}
use Rattle.std.proofs.lemmas.List.{length-map}
use Rattle.reg_files.specs.Counting.{Checks, ChecksEach, ChecksFiles}

-- what becomes of the files that are left, behind those that were done with this status, is what becomes of all
abbrev pub Goes : (is_dirty is_verbose is_named : Bool) → (all left : List (List ℕ)) → (status : ℕ) → (first before first_told told : Option (List ℕ)) →
    (first_failed failed : Option ℕ) → Type 0
Goes is_dirty is_verbose is_named all left status first before first_told told first_failed failed =
    (rest : ℕ) (closed : Bool) (after told_after : Option (List ℕ)) (now_failed : Option ℕ) →
    ChecksEach is_dirty is_verbose is_named left rest closed before after told told_after failed now_failed →
    ChecksEach is_dirty is_verbose is_named all (max status rest) closed first after first_told told_after first_failed now_failed

module _ (is_dirty is_verbose is_named : Bool) (all : List (List ℕ)) (first first_told : Option (List ℕ)) (first_failed : Option ℕ) where
  pub begins : Goes is_dirty is_verbose is_named all all 0 first first first_told first_told first_failed first_failed
  begins rest closed after told_after now_failed h =
      let e : rest ≡ max 0 rest = omega arith in
      subst (λ (s : ℕ). ChecksEach is_dirty is_verbose is_named all s closed first after first_told told_after first_failed now_failed) e h

  module _ (file : List ℕ) (left rest_of : List (List ℕ)) (status one larger : ℕ) (shut : Bool) (before between told told_between : Option (List ℕ))
      (failed failed_between : Option ℕ) where
    pub goes_on : left ≡ file ∷ rest_of → larger ≡ max one status → shut ≡ false →
        Goes is_dirty is_verbose is_named all left status first before first_told told first_failed failed →
        Checks is_dirty is_verbose is_named file one shut before between told told_between failed failed_between →
        Goes is_dirty is_verbose is_named all rest_of larger first between first_told told_between first_failed failed_between
    goes_on is are is_open goes checks rest closed after told_after now_failed h =
        let e : max status (max one rest) ≡ max larger rest = omega (arith, are) in
        let read = subst (λ (b : Bool). Checks is_dirty is_verbose is_named file one b before between told told_between failed failed_between) is_open checks in
        let all_left = subst (λ (l : List (List ℕ)). ChecksEach is_dirty is_verbose is_named l (max one rest) closed before after told told_after failed
        now_failed) (sym is)
        (inl (one, rest, refl, between, told_between, failed_between, read, h)) in
        subst (λ (s : ℕ). ChecksEach is_dirty is_verbose is_named all s closed first after first_told told_after first_failed now_failed) e
        (goes (max one rest) closed after told_after now_failed all_left)

    -- nobody reads the output any more
    pub ends_closed : left ≡ file ∷ rest_of → status ≤ 1 → shut ≡ true →
        Goes is_dirty is_verbose is_named all left status first before first_told told first_failed failed →
        Checks is_dirty is_verbose is_named file one shut before between told told_between failed failed_between →
        ChecksEach is_dirty is_verbose is_named all 1 shut first between first_told told_between first_failed failed_between
    ends_closed is low is_closed goes checks =
        let e : max status 1 ≡ 1 = omega (arith, low) in
        let all_left = subst (λ (l : List (List ℕ)). ChecksEach is_dirty is_verbose is_named l 1 shut before between told told_between failed failed_between)
        (sym is)
        (inr (is_closed, refl, (one, checks))) in
        subst (λ (s : ℕ). ChecksEach is_dirty is_verbose is_named all s shut first between first_told told_between first_failed failed_between) e
        (goes 1 shut between told_between failed_between all_left)

  pub ends : (left : List (List ℕ)) (status : ℕ) (closed : Bool) (after told_after : Option (List ℕ)) (now_failed : Option ℕ) → left ≡ [] →
      Goes is_dirty is_verbose is_named all left status first after first_told told_after first_failed now_failed →
      ChecksEach is_dirty is_verbose is_named all status closed first after first_told told_after first_failed now_failed
  ends left status closed after told_after now_failed is goes =
      let e : max status 0 ≡ status = omega arith in
      let none = subst (λ (l : List (List ℕ)). ChecksEach is_dirty is_verbose is_named l 0 closed after after told_after told_after now_failed now_failed)
      (sym is)
      (refl, refl, refl, refl) in
      subst (λ (s : ℕ). ChecksEach is_dirty is_verbose is_named all s closed first after first_told told_after first_failed now_failed) e
      (goes 0 closed after told_after now_failed none)

module _ {X : Type 0} (now : X → List ℕ) where
  -- the files from one on, and none behind the last
  pub file_at : (files : List X) (i : ℕ) (d : X) → i < length files → map now (drop i files) ≡ now (get_or files i d) ∷ map now (drop (i + 1) files)
  file_at files i d l =
      let e : suc i ≡ i + 1 = omega arith in
      ap (map now) (drop-cons files i d l) ∙ ap (λ (n : ℕ). now (get_or files i d) ∷ map now (drop n files)) e

  pub none_left : (files : List X) (i : ℕ) → length files ≤ i → map now (drop i files) ≡ []
  none_left [] zero l = refl
  none_left [] (suc i) l = refl
  none_left (file ∷ files) zero l = absurd (omega (arith, l))
  none_left (file ∷ files) (suc i) l = none_left files i (omega (arith, l))

  -- they are named where there are several
  pub of_several : (is_dirty is_verbose : Bool) (files : List X) (status : ℕ) (closed : Bool) (before after told told_after : Option (List ℕ))
      (failed now_failed : Option ℕ) →
      ChecksEach is_dirty is_verbose (nat_lt 1 (length files)) (map now files) status closed before after told told_after failed now_failed →
      ChecksFiles is_dirty is_verbose (map now files) status closed before after told told_after failed now_failed
  of_several is_dirty is_verbose files status closed before after told told_after failed now_failed h =
      subst (λ (n : ℕ). ChecksEach is_dirty is_verbose (nat_lt 1 n) (map now files) status closed before after told told_after failed now_failed)
      (sym (length-map files now)) h
