-- The path of a key, read again from the nodes of the keys that lead to it.
use Rattle.std.proofs.Common.{◌≡◌, true, false, ℕ, zero, suc, ◌+◌, ◌<◌, ◌≤◌, is_some, Option, Some, None, Ok, Err, List, [], ◌∷◌, ◌++◌, append_assoc, length, map, take, drop, reverse, get_or}
use Rattle.std.proofs.Common.{refl, sym, ap, ◌∙◌, arith, length-take}
use Rattle.std.proofs.Math.Seq.{take-suc}
use Rattle.std.proofs.lemmas.List.{map_push, reverse-reverse, length-map}
use Rattle.std.specs.Cow.{cow_slice_items}
use Rattle.reg_names.specs.Names.{text_of}
use Rattle.reg_heap.specs.Heaps.{Heap}
use Rattle.reg_heap.specs.Kinds.Kind.{Key}
use Rattle.reg_tree_image.specs.declared.LoadFault.{LoadFault}
use Rattle.reg_tree_image.specs.declared.LoadFault.TheVariants.{Memory}
use Rattle.reg_tree_image.specs.declared.keys.NamedKey.{NamedKey}
use Rattle.reg_tree_image.specs.declared.table.CellState.{CellState}
use Rattle.reg_tree_image.specs.declared.table.CellState.TheVariants.{Unallocated}
use Rattle.reg_tree_image.specs.WalkSteps.{Seen}
use Rattle.reg_tree_image.specs.LoadingWalk.{named_key}
use Rattle.reg_tree_image.specs.Images.{nothing}
use Rattle.reg_tree_image.specs.FaultPlaces.{name_in, name_there, key_text}
use Rattle.reg_tree_image.specs.Internal.CellStates.{state_in, state_by, IsTable}
use Rattle.reg_tree_image.specs.Internal.NameReadings.{key_in}
use Rattle.reg_tree_image.specs.Internal.NamedRecords.{key_of}
use Rattle.reg_tree_image.specs.Internal.ReaderOutcomes.{Fails, Gives}
use Rattle.reg_tree_image.specs.Internal.FaultSpots.{is_lack, parted}

-- ---- one name

module _ (heap : Heap) (offset : ℕ) where
  -- no cell stands there
  none-named : heap offset ≡ None → name_there heap offset ≡ []
  none-named e = rw e refl

  -- the node was named
  abbrev one-seen : Seen
  one-seen = record { found = record { kind = Key; offset = offset } ∷ []; told = [] }

  cell-read : (held : List ℕ) → heap offset ≡ Some held → named_key heap [] offset nothing ≡ key_in held one-seen
  cell-read held e = rw e refl

  module _ (states : List CellState) (t : IsTable heap [] [] states) where
    state-is : (o : Option (List ℕ)) → heap offset ≡ o → state_in states offset ≡ state_by (is_some o) true true true
    state-is o e = t.each offset ∙ ap (λ o. state_by (is_some o) true true true) e

    pub no-cell : state_in states offset ≡ Unallocated → name_there heap offset ≡ []
    no-cell u = by (heap offset) refl
      where
        by : (o : Option (List ℕ)) → heap offset ≡ o → name_there heap offset ≡ []
        by None e = none-named e
        by (Some held) e = absurd (let s = state-is (Some held) e in (cc))

    pub cell-there : (state_in states offset ≡ Unallocated → ⊥) → (held : List ℕ) × (heap offset ≡ Some held)
    cell-there n = by (heap offset) refl
      where
        by : (o : Option (List ℕ)) → heap offset ≡ o → (held : List ℕ) × (heap offset ≡ Some held)
        by None e = absurd (n (state-is None e))
        by (Some held) e = (held, e)

  module _ (held : List ℕ) (e : heap offset ≡ Some held) where
    pub name-read : (named : NamedKey) → Gives key_of (key_in held) (Ok named) → name_there heap offset ≡ cow_slice_items named.name
    name-read named g = ap name_in (cell-read held e ∙ g one-seen)

    pub name-unread : (fault : LoadFault) → is_lack fault ≡ false → Gives key_of (key_in held) (Err fault) → name_there heap offset ≡ []
    name-unread fault l g = by fault l (g one-seen)
      where
        by : (f : LoadFault) → is_lack f ≡ false → Fails f (key_in held) one-seen → name_there heap offset ≡ []
        by Memory l g = absurd (cc)
        by f l g = ap name_in (cell-read held e ∙ g)

-- ---- all names

one-more : (names : List (List ℕ)) (name : List ℕ) (index : ℕ) → length names ≡ index →
    text_of (names ++ name ∷ []) ≡ parted index (text_of names) ++ name
one-more [] name zero l = refl
one-more [] name (suc n) l = absurd (omega (arith, l))
one-more (x ∷ names) name zero l = absurd (omega (arith, l))
one-more (x ∷ names) name (suc n) l = by x names
  where
    by : (x : List ℕ) (names : List (List ℕ)) → text_of ((x ∷ names) ++ name ∷ []) ≡ (text_of (x ∷ names) ++ 92 ∷ []) ++ name
    by x [] = sym (append_assoc x (92 ∷ []) name)
    by x (y ∷ names) =
        ap (λ (t : List ℕ). x ++ 92 ∷ t) (by y names)
        ∙ (sym (append_assoc x (92 ∷ (text_of (y ∷ names) ++ 92 ∷ [])) name)
        ∙ ap (λ (t : List ℕ). t ++ name) (sym (append_assoc x (92 ∷ text_of (y ∷ names)) (92 ∷ []))))

pub more-names : (f : ℕ → List ℕ) (offsets : List ℕ) (index offset : ℕ) → index < length offsets → offset ≡ get_or offsets index 0 →
    (old mid new : List ℕ) → old ≡ text_of (map f (take index offsets)) → mid ≡ parted index old → new ≡ mid ++ f offset →
    new ≡ text_of (map f (take (index + 1) offsets))
more-names f offsets index offset l o old mid new a b c =
    c
    ∙ (ap (λ (t : List ℕ). t ++ f offset) (b ∙ ap (parted index) a)
    ∙ (sym (one-more (map f (take index offsets)) (f offset) index (length-map (take index offsets) f ∙ long))
    ∙ (ap text_of (sym (map_push f (take index offsets) offset))
    ∙ (ap (λ (o : ℕ). text_of (map f (take index offsets ++ o ∷ []))) o
    ∙ (ap (λ (os : List ℕ). text_of (map f os)) (sym (take-suc offsets index 0 l)) ∙ ap (λ (n : ℕ). text_of (map f (take n offsets))) next)))))
  where
    long : length (take index offsets) ≡ index
    long = simp length-take (omega (arith, l))

    next : suc index ≡ index + 1
    next = omega arith

pub take-all : (xs : List ℕ) (n : ℕ) → length xs ≤ n → take n xs ≡ xs
take-all [] zero l = refl
take-all [] (suc n) l = refl
take-all (x ∷ xs) zero l = absurd (omega (arith, l))
take-all (x ∷ xs) (suc n) l = ap (λ (xs : List ℕ). x ∷ xs) (take-all xs n (omega (arith, l)))

pub all-names : (f : ℕ → List ℕ) (offsets : List ℕ) (index : ℕ) (text : List ℕ) → length offsets ≤ index → text ≡ text_of (map f (take index offsets)) →
    text ≡ text_of (map f offsets)
all-names f offsets index text l e = e ∙ ap (λ (os : List ℕ). text_of (map f os)) (take-all offsets index l)

-- ---- the path of a key

pub no-key : (heap : Heap) (path : List ℕ) → length path ≡ 0 → None ≡ key_text heap (reverse path)
no-key heap [] l = refl
no-key heap (o ∷ path) l = absurd (omega (arith, l))

pub one-key : (heap : Heap) (path : List ℕ) → (length path ≡ 0 → ⊥) → Some (text_of (map (name_there heap) (drop 1 path))) ≡ key_text heap (reverse path)
one-key heap path n = by (reverse path) refl
  where
    back : (q : List ℕ) → reverse path ≡ q → reverse q ≡ path
    back q e = ap reverse (sym e) ∙ reverse-reverse path

    by : (q : List ℕ) → reverse path ≡ q → Some (text_of (map (name_there heap) (drop 1 path))) ≡ key_text heap (reverse path)
    by [] e = absurd (n (ap length (sym (back [] e))))
    by (k ∷ ks) e =
        ap (λ (p : List ℕ). Some (text_of (map (name_there heap) (drop 1 p)))) (sym (back (k ∷ ks) e)) ∙ ap (key_text heap) (sym e)
