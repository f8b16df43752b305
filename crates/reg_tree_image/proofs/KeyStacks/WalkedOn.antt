-- What comes in what is left of the walk comes in the whole walk.
use Rattle.std.proofs.Common.{◌≡◌, ℕ, zero, suc, ◌<◌, nat_lt, true, Result, Ok, List, [], ◌∷◌, inl, inr, refl, sym, ap, ◌∙◌, subst}
use Rattle.std.specs.Prelude.{◌⊎◌}
use Rattle.reg_heap.specs.declared.limits.TheConstants.{SUBKEYS_LIMIT}
use Rattle.reg_heap.specs.Heaps.{Heap}
use Rattle.reg_heap.specs.Edits.{child_path}
use Rattle.reg_records.specs.SubkeyLists.{Entry, Form, SubkeysList}
use Rattle.reg_records.specs.declared.lists.ListForm.TheVariants.{IndexRoot, IndexLeaf, FastLeaf, HashLeaf}
use Rattle.reg_tree_image.specs.declared.LoadFault.{LoadFault}
use Rattle.reg_tree_image.specs.WalkSteps.{Seen, Step, onward}
use Rattle.reg_tree_image.specs.LoadingWalk.{key_from, leaf_from, list_from, keys_each, listed_as, subkeys_from}
use Rattle.reg_tree_image.specs.WalkedKeys.{ComesInKeys, ComesInLists, ComesListed, ComesBelow, Comes}
use Rattle.reg_tree_image.specs.Internal.BegunKeys.{keys_of, lists_of, IsSource, parts_left}
use Rattle.reg_tree_image.specs.Internal.Frames.{Frame, frame_left, ComesInFrame, ComesLeft}

-- ---- a list of keys that was read

module _ (heap : Heap) (later : Seen) (go : ℕ → Step (Unit {0})) (comes : ℕ → Seen → Type 0) (path : List ℕ) where
  -- among these keys and then these lists, of none yet counted
  abbrev pub ComesIn : List Entry → List Entry → Seen → Type 0
  ComesIn entries lists seen =
      ComesInKeys heap later go comes 0 entries seen
      ⊎ ((n : ℕ) × (then : Seen) × (keys_each go 0 entries seen ≡ Ok (n, then)) × ComesInLists heap later go comes path n lists then)

  none-comes : (entries lists : List Entry) (seen : Seen) → entries ≡ [] → lists ≡ [] → ComesIn entries lists seen → ⊥
  none-comes entries lists seen e l (inl k) =
      absurd (subst (λ es. ComesInKeys heap later go comes 0 es seen) e k)
  none-comes entries lists seen e l (inr k) =
      absurd (subst (λ es. ComesInLists heap later go comes path k.0 es k.1) l k.3)

  keys-come : (entries lists own : List Entry) (seen : Seen) → entries ≡ own → lists ≡ [] → ComesIn entries lists seen →
      ComesInKeys heap later go comes 0 own seen
  keys-come entries lists own seen e l (inl k) = subst (λ es. ComesInKeys heap later go comes 0 es seen) e k
  keys-come entries lists own seen e l (inr k) =
      absurd (subst (λ es. ComesInLists heap later go comes path k.0 es k.1) l k.3)

  lists-come : (entries lists own : List Entry) (seen : Seen) → entries ≡ [] → lists ≡ own → ComesIn entries lists seen →
      ComesInLists heap later go comes path 0 own seen
  lists-come entries lists own seen e l (inl k) = absurd (subst (λ es. ComesInKeys heap later go comes 0 es seen) e k)
  lists-come entries lists own seen e l (inr k) =
      same k.0 k.1 (ap (λ es. keys_each go 0 es seen) (sym e) ∙ k.2)
      (subst (λ es. ComesInLists heap later go comes path k.0 es k.1) l k.3)
    where
      same : (n : ℕ) (then : Seen) → ◌≡◌ {A = Result (ℕ × Seen) LoadFault} (Ok (0, seen)) (Ok (n, then)) → ComesInLists heap later go comes path n own then →
          ComesInLists heap later go comes path 0 own seen
      same n then e c =
          let p : ℕ × Seen = (0, seen) in
          let q : ℕ × Seen = (n, then) in
          let s : q ≡ p = cc in
          subst (λ (x : ℕ × Seen). ComesInLists heap later go comes path x.0 own x.1) s c

  listed-comes : (list : SubkeysList) (entries lists : List Entry) (seen : Seen) → entries ≡ keys_of list.form list.entries →
      lists ≡ lists_of list.form list.entries → ComesIn entries lists seen → ComesListed heap later go comes path list.entries list.form seen
  listed-comes list entries lists seen e l k = by list.form e l
    where
      by : (form : Form) → entries ≡ keys_of form list.entries → lists ≡ lists_of form list.entries →
          ComesListed heap later go comes path list.entries form seen
      by IndexRoot e l = lists-come entries lists list.entries seen e l k
      by IndexLeaf e l = keys-come entries lists list.entries seen e l k
      by FastLeaf e l = keys-come entries lists list.entries seen e l k
      by HashLeaf e l = keys-come entries lists list.entries seen e l k

  -- what is left where a list was read
  pub listed-left : (more offset : ℕ) (seen after : Seen) (list : SubkeysList) (entries lists : List Entry) →
      list_from heap path offset seen ≡ Ok (list, after) → entries ≡ keys_of list.form list.entries →
      lists ≡ lists_of list.form list.entries →
      subkeys_from heap go path (suc more) offset seen ≡ parts_left heap path go entries lists after
  listed-left more offset seen after list entries lists g e l =
      ap (onward (λ (list : SubkeysList). listed_as heap go path list.entries list.form)) g ∙ by list.form e l
    where
      by : (form : Form) → entries ≡ keys_of form list.entries → lists ≡ lists_of form list.entries →
          listed_as heap go path list.entries form after ≡ parts_left heap path go entries lists after
      by IndexRoot e l = rw (e, l) refl
      by IndexLeaf e l = rw (e, l) refl
      by FastLeaf e l = rw (e, l) refl
      by HashLeaf e l = rw (e, l) refl

  pub source-comes : (count offset : ℕ) (seen after : Seen) (entries lists : List Entry) →
      IsSource heap path count offset seen after entries lists → ComesIn entries lists after →
      ComesBelow heap later go comes path count offset seen
  source-comes zero offset seen after entries lists s k = absurd (none-comes entries lists after s.0 s.1 k)
  source-comes (suc n) offset seen after entries lists s k =
      (s.0, after, s.1, listed-comes s.0 entries lists after s.2 s.3 k)

-- ---- frames

module _ (heap : Heap) (minor : ℕ) (later : Seen) (levels : ℕ) (f : Frame) (frames : List Frame) (seen : Seen) where
  abbrev go : ℕ → Step (Unit {0})
  go = key_from heap minor levels f.path (child_path f.at)

  abbrev comes : ℕ → Seen → Type 0
  comes = Comes heap minor later levels f.path (child_path f.at)

  abbrev Whole : Type 0
  Whole = ComesLeft heap minor later levels (f ∷ frames) seen

  -- nothing is left of the lowest key
  pub left-comes : f.entries ≡ [] → f.lists ≡ [] → ComesLeft heap minor later (suc levels) frames seen → Whole
  left-comes e l k = inr (seen, rw (e, l) refl, k)

  -- its next list was read
  module _ (e : Entry) (part : List Entry) (empty : f.entries ≡ []) (more : f.lists ≡ e ∷ part) (leaf : SubkeysList) (after : Seen)
      (read : leaf_from heap f.path e.offset seen ≡ Ok (leaf, after)) where
    abbrev then : Frame
    then = record f { entries = leaf.entries; lists = part }

    in-list : ComesInFrame heap minor later levels then after → ComesInFrame heap minor later levels f seen
    in-list k =
        inr (
          f.count,
          seen,
          rw empty refl,
          subst (λ es. ComesInLists heap later go comes f.path f.count es seen) (sym more) (leaf, after, read, k),
        )

    behind-list : frame_left heap minor levels f seen ≡ frame_left heap minor levels then after
    behind-list = rw (empty, more, read) refl

    pub list-comes : ComesLeft heap minor later levels (then ∷ frames) after → Whole
    list-comes (inl k) = inl (in-list k)
    list-comes (inr k) = inr (k.0, behind-list ∙ k.1, k.2)

  -- its next subkey was begun
  module _ (e : Entry) (part : List Entry) (more : f.entries ≡ e ∷ part) (few : f.count < SUBKEYS_LIMIT)
      (counted : nat_lt f.count SUBKEYS_LIMIT ≡ true) where
    abbrev counted-one : Frame
    counted-one = record f { count = suc f.count; entries = part }

    pub key-comes : comes e.offset seen → Whole
    key-comes k = inl (inl (subst (λ es. ComesInKeys heap later go comes f.count es seen) (sym more) (few, inl k)))

    module _ (then : Seen) (walked : go e.offset seen ≡ Ok (tt, then)) where
      in-next : ComesInFrame heap minor later levels counted-one then → ComesInFrame heap minor later levels f seen
      in-next (inl k) = inl (subst (λ es. ComesInKeys heap later go comes f.count es seen) (sym more) (few, inr (then, walked, k)))
      in-next (inr k) = inr (k.0, k.1, (rw (more, counted, walked) refl) ∙ k.2, k.3)

      behind-next : frame_left heap minor levels f seen ≡ frame_left heap minor levels counted-one then
      behind-next = rw (more, counted, walked) refl

      pub next-comes : ComesLeft heap minor later levels (counted-one ∷ frames) then → Whole
      next-comes (inl k) = inl (in-next k)
      next-comes (inr k) = inr (k.0, behind-next ∙ k.1, k.2)
