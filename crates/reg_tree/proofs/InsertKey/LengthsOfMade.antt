-- The largest lengths of keys made one below the other.
use Rattle.std.proofs.Common.{◌≡◌, ◌≢◌, ℕ, ◌+◌, ◌⊎◌, inl, inr, Bool, true, false, cond, Some, List, [], ◌∷◌, ◌++◌, map, length, refl, sym, ap, ◌∙◌}
use Rattle.std.proofs.Common.{arith, length-append}
use Rattle.std.specs.Option.{option_map}
use Rattle.std.specs.Ordering.{is_eq, eq_by_cmp}
use Rattle.std.proofs.lemmas.Cmp.{tied_itself}
use Rattle.std.proofs.lemmas.List.{append-nil, append_assoc, map-append}
use Rattle.std.proofs.lemmas.Option.{same_Some}
use Rattle.reg_names.specs.Names.{folded}
use Rattle.reg_heap.specs.Heaps.{Heap}
use Rattle.reg_heap.specs.Paths.{Path, path_cmp}
use Rattle.reg_heap.specs.Edits.{child_path}
use Rattle.reg_heap.proofs.ChildrenOfPath.{path-is}
use Rattle.reg_shape.specs.PathLookup.{key_offset_at}
use Rattle.reg_shape.proofs.Refinement.SpeltTrees.{path_total}
use Rattle.reg_tree.specs.KeyLengths.{lengths_at, no_lengths, with_first_length}
use Rattle.reg_tree.specs.Internal.LengthChanges.{MadeLengths, WhichLengths}
use Rattle.reg_tree.proofs.PathWalk.PathSteps.{as-many}

-- ---- where one name more was cut in two: behind it, or before it

record IsCutBefore (done front back : List (List ℕ)) (name : List ℕ) : Type 0 where
  pub behind : List (List ℕ)
  pub back_is : back ≡ behind ++ name ∷ []
  pub parts : done ≡ front ++ behind

abbrev CutOf : List (List ℕ) → List (List ℕ) → List (List ℕ) → List ℕ → Type 0
CutOf done front back name = ((back ≡ []) × (front ≡ done ++ name ∷ [])) ⊎ IsCutBefore done front back name

no_more : (front back : List (List ℕ)) → [] ≡ front ++ back → (front ≡ []) × (back ≡ [])
no_more [] back e = (refl, sym e)
no_more (x ∷ front) back e = absurd (let l : length {A = List ℕ} [] ≡ length (x ∷ front ++ back) = ap length e in omega (arith, l))

cut : (done front back : List (List ℕ)) (name : List ℕ) → done ++ name ∷ [] ≡ front ++ back → CutOf done front back name
cut done [] back name e = inr (record { behind = done; back_is = sym e; parts = refl })
cut [] (x ∷ front) back name e =
    let n = no_more front back (cc) in
    inl (n.1, cc)
cut (y ∷ done) (x ∷ front) back name e = by (cut done front back name (cc))
  where
    same : y ≡ x
    same = cc

    by : CutOf done front back name → CutOf (y ∷ done) (x ∷ front) back name
    by (inl s) = inl (s.0, ap (λ xs. x ∷ xs) s.1 ∙ ap (λ z. z ∷ (done ++ name ∷ [])) (sym same))
    by (inr s) = inr (record { behind = s.behind; back_is = s.back_is; parts = ap (λ xs. y ∷ xs) s.parts ∙ ap (λ z. z ∷ (front ++ s.behind)) same })

-- ---- one more

-- the path of one more
pub one_below : (path : Path) (done : List (List ℕ)) (name : List ℕ) (at : Path) → at ≡ path ++ map folded done → path ++ map folded (done ++ name ∷ []) ≡ child_path at name
one_below path done name at at_is =
    ap (λ p. path ++ p) (map-append folded done (name ∷ []))
    ∙ (sym (append_assoc path (map folded done) (folded name ∷ [])) ∙ ap (λ p. p ++ folded name ∷ []) (sym at_is))

-- no key was made
pub none_made : (h : Heap) (root : ℕ) (path : Path) → MadeLengths h root path []
none_made h root path front back o parts some found = absurd (some (no_more front back parts).0)

module _ (h k : Heap) (root : ℕ) (path : Path) (done : List (List ℕ)) (name : List ℕ) (made : ℕ) (at : Path) (at_is : at ≡ path ++ map folded done)
    (offsets : (q : Path) → key_offset_at k root q ≡ cond (eq_by_cmp path_cmp q (child_path at name)) (Some made) (key_offset_at h root q))
    (fresh : lengths_at k made ≡ Some no_lengths)
    (lengths : (q : Path) (o : ℕ) → key_offset_at h root q ≡ Some o → key_offset_at k root q ≡ Some o → WhichLengths h k at (with_first_length (name ∷ [])) q o)
    (noted : MadeLengths h root path done) where
  at_made : key_offset_at k root (child_path at name) ≡ Some made
  at_made = offsets (child_path at name) ∙ ap (λ b. cond b (Some made) (key_offset_at h root (child_path at name))) (ap is_eq (tied_itself path_total (child_path at name)))

  module _ (front back : List (List ℕ)) (o : ℕ) (some : front ≢ []) (found : key_offset_at k root (path ++ map folded front) ≡ Some o) where
    long : length (path ++ map folded front) ≡ length path + length front
    long = length-append path (map folded front) ∙ ap (λ n. length path + n) (as-many front)

    at_long : length at ≡ length path + length done
    at_long = ap length at_is ∙ (length-append path (map folded done) ∙ ap (λ n. length path + n) (as-many done))

    last : back ≡ [] → front ≡ done ++ name ∷ [] → lengths_at k o ≡ Some (with_first_length back no_lengths)
    last b f =
        let same : o ≡ made = same_Some _ _ (sym found ∙ (ap (λ ns. key_offset_at k root (path ++ map folded ns)) f ∙ (ap (key_offset_at k root) (one_below path done name at at_is) ∙ at_made))) in
        ap (lengths_at k) same ∙ (fresh ∙ ap (λ ns. Some (with_first_length ns no_lengths)) (sym b))

    module _ (behind : List (List ℕ)) (parts : done ≡ front ++ behind) where
      done_long : length done ≡ length front + length behind
      done_long = ap length parts ∙ length-append front behind

      before : key_offset_at h root (path ++ map folded front) ≡ Some o
      before = by (eq_by_cmp path_cmp (path ++ map folded front) (child_path at name)) refl (sym (offsets (path ++ map folded front)) ∙ found)
        where
          by : (b : Bool) → eq_by_cmp path_cmp (path ++ map folded front) (child_path at name) ≡ b → cond b (Some made) (key_offset_at h root (path ++ map folded front)) ≡ Some o →
              key_offset_at h root (path ++ map folded front) ≡ Some o
          by true t e =
              let same = ap length (path-is (path ++ map folded front) (child_path at name) t) in
              let l = length-append at (folded name ∷ []) in
              let a = long in
              let b = at_long in
              let d = done_long in
              absurd (omega (arith, same, l, a, b, d))
          by false t e = e

    deeper : (behind : List (List ℕ)) (parts : done ≡ front ++ behind) → WhichLengths h k at (with_first_length (name ∷ [])) (path ++ map folded front) o →
        lengths_at k o ≡ Some (with_first_length (behind ++ name ∷ []) no_lengths)
    deeper [] parts (inl s) = s.1 ∙ ap (option_map (with_first_length (name ∷ []))) (noted front [] o parts some (before [] parts))
    deeper [] parts (inr s) = absurd (s.0 (ap (λ ns. path ++ map folded ns) (sym (append-nil front) ∙ sym parts) ∙ sym at_is))
    deeper (x ∷ behind) parts (inl s) =
        let same = ap length s.0 in
        let a = long in
        let b = at_long in
        let d : length done ≡ length front + (1 + length behind) = done_long (x ∷ behind) parts ∙ ap (λ n. length front + n) (omega arith) in
        absurd (omega (arith, same, a, b, d))
    deeper (x ∷ behind) parts (inr s) = s.1 ∙ noted front (x ∷ behind) o parts some (before (x ∷ behind) parts)

    by_cut : CutOf done front back name → lengths_at k o ≡ Some (with_first_length back no_lengths)
    by_cut (inl s) = last s.0 s.1
    by_cut (inr s) =
        deeper s.behind s.parts (lengths (path ++ map folded front) o (before s.behind s.parts) found)
        ∙ ap (λ ns. Some (with_first_length ns no_lengths)) (sym s.back_is)

  pub one_more : MadeLengths k root path (done ++ name ∷ [])
  one_more front back o parts some found = by_cut front back o some found (cut done front back name parts)
