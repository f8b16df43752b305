-- What the changes told of the new tree's keys make, behind those of the old one's: just its keys, with its values.
use Rattle.std.proofs.Common.{◌≡◌, ℕ, ◌&&◌, not, Bool, true, false, is_some, List, map, Option, Some, None, refl, sym, ap, ◌∙◌}
use Rattle.std.proofs.Common.{subst, ◌⊎◌, inl, inr}
use Rattle.std.specs.FinMap.{get}
use Rattle.reg_names.specs.Names.{folded, text_of}
use Rattle.reg_heap.specs.Paths.{Path, Tree, Rec, Member}
use Rattle.reg_heap.specs.Members.{value_named}
use Rattle.reg_heap.specs.Edits.{values_of, values_at}
use Rattle.reg_heap.specs.Trees.{IsTree, NamesDiffer}
use Rattle.reg_heap.proofs.ChildrenOfPath.{path-is}
use Rattle.reg_tree_text.specs.DumpTexts.{Told}
use Rattle.reg_dotreg_writer.specs.Changes.{is_new, change_here}
use Rattle.reg_dotreg_writer.specs.declared.side.Side.TheVariants.{New}
use Rattle.reg_dotreg_import.specs.Imports.{Stand}
use Rattle.reg_dotreg_law.proofs.SeenKeys.{is_same}
use Rattle.reg_dotreg_law.proofs.ToldValues.{kept, val, new-values}
use Rattle.reg_dotreg_law.proofs.ToldBlocks.{changed_by, told_by, line, line-here, line-tree, line-there, line-values}
use Rattle.reg_dotreg_law.proofs.ToldBlocks.{after-tree, after-has, after-made, after-else, after-values}
use Rattle.reg_dotreg_law.proofs.OldSide.{IsThere, settled, on-way, stays, left}

-- of the new tree no key is told as gone
none-gone : (o : Option Rec) → (not (is_some o) && not (is_new New)) ≡ false
none-gone None = refl
none-gone (Some r) = refl

module _ (moment : ℕ) (old new : Tree) (i : IsTree old) (j : IsTree new) where
  abbrev pub new_by : Stand → Told → Stand
  new_by = told_by moment New old

  abbrev change : Stand → Told → Option Rec → Stand
  change s told o = changed_by moment s (change_here New (text_of told.names) told.key o)

  apart : (told : Told) → IsThere new told → NamesDiffer told.key.values
  apart told there = j.apart (map folded told.names) told.key there.key

  pub new-tree : (s : Stand) (told : Told) → IsThere new told → IsTree s.tree → IsTree (new_by s told).tree
  new-tree s told there is =
      after-tree moment New told there.names (apart told there) s is (get old (map folded told.names))
      (none-gone (get old (map folded told.names)))

  module _ (p : Path) where
    -- ---- whether a key is there

    abbrev pub has : Stand → Bool
    has s = is_some (get s.tree p)

    abbrev pub stayed : Bool
    stayed = stays moment old new i j p

    abbrev pub is_there : Bool
    is_there = is_some (get new p)

    has-goes : (s : Stand) (told : Told) → IsThere new told → IsTree s.tree → (o : Option Rec) →
        (has (change s told o) ≡ has s) ⊎ (has (change s told o) ≡ is_there)
    has-goes s told there is o =
        after-has moment New told there.names (apart told there) s is o (none-gone o) p is_there
        (λ w. on-way new j p (map folded told.names) told.key there.key w)

    pub new-has-goes : (s : Stand) (told : Told) → IsThere new told → IsTree s.tree → (has s ≡ stayed) ⊎ (has s ≡ is_there) →
        (has (new_by s told) ≡ has s) ⊎ (has (new_by s told) ≡ is_there)
    new-has-goes s told there is w = has-goes s told there is (get old (map folded told.names))

    pub new-has-hit : (s : Stand) (told : Told) → IsThere new told → IsTree s.tree → (has s ≡ stayed) ⊎ (has s ≡ is_there) →
        map folded told.names ≡ p → has (new_by s told) ≡ is_there
    new-has-hit s told there is w hit = by (get old (map folded told.names)) refl
      where
        here : is_there ≡ true
        here = ap (λ (o : Option Rec). is_some o) (ap (get new) (sym hit) ∙ there.key)

        by : (o : Option Rec) → get old (map folded told.names) ≡ o → has (change s told o) ≡ is_there
        by None e =
            subst (λ (x : Path). is_some (get (change s told None).tree x) ≡ true) hit
            (after-made moment New told there.names (apart told there) s is None (none-gone None) refl)
            ∙ sym here
        by (Some r) e =
            settled stayed is_there (has s) (has (change s told (Some r)))
            (ap (λ (b : Bool). b && is_there) (ap (λ (o : Option Rec). is_some o) (ap (get old) (sym hit) ∙ e))) w
            (has-goes s told there is (Some r))

    -- ---- a value of a name

    module _ (n : List ℕ) where
      abbrev pub value_left : Option Member
      value_left = left moment old new i j p n

      abbrev pub value_there : Option Member
      value_there = value_named n (values_at new p)

      abbrev at_p : Stand → Option Member
      at_p = val moment n p

      pub new-val-hit : (s : Stand) (told : Told) → IsThere new told → IsTree s.tree → (at_p s ≡ value_left) ⊎ (at_p s ≡ value_there) →
          map folded told.names ≡ p → at_p (new_by s told) ≡ value_there
      new-val-hit s told there is w hit =
          let good = there.names in
          let differ = apart told there in
          let o : Option Rec = get old (map folded told.names) in
          let begins : Stand = line moment New told good differ s is o (none-gone o) in
          let last : value_there ≡ value_named n told.key.values =
          ap (λ (x : Option Rec). value_named n (values_of x)) (ap (get new) (sym hit) ∙ there.key) in
          let first : value_left ≡ kept (value_named n (values_of o)) (value_named n told.key.values) =
          ap (λ (x : Path). kept (value_named n (values_at old x)) value_there) (sym hit)
          ∙ ap (λ (x : Option Member). kept (value_named n (values_of o)) x) last in
          let same : at_p begins ≡ at_p s = ap (value_named n) (line-values moment New told good differ s is o (none-gone o) p) in
          ap (value_named n) (after-values moment New told good differ s is o (none-gone o) p)
          ∙ (new-values moment n p told.key.values o differ begins (line-tree moment New told good differ s is o (none-gone o))
          (line-here moment New told good differ s is o (none-gone o) ∙ hit)
          (subst (λ (x : Path). is_some (get begins.tree x) ≡ true) hit (line-there moment New told good differ s is o (none-gone o)))
          (turn (at_p begins) same first last w)
          ∙ sym last)
        where
          turn : (x : Option Member) → x ≡ at_p s → {a b : Option Member} → value_left ≡ a → value_there ≡ b →
              (at_p s ≡ value_left) ⊎ (at_p s ≡ value_there) → (x ≡ a) ⊎ (x ≡ b)
          turn x same first last (inl f) = inl (same ∙ (f ∙ first))
          turn x same first last (inr l) = inr (same ∙ (l ∙ last))

      pub new-val-goes : (s : Stand) (told : Told) → IsThere new told → IsTree s.tree → (at_p s ≡ value_left) ⊎ (at_p s ≡ value_there) →
          (at_p (new_by s told) ≡ at_p s) ⊎ (at_p (new_by s told) ≡ value_there)
      new-val-goes s told there is w = by (is_same p (map folded told.names)) refl
        where
          by : (b : Bool) → is_same p (map folded told.names) ≡ b →
              (at_p (new_by s told) ≡ at_p s) ⊎ (at_p (new_by s told) ≡ value_there)
          by true same = inr (new-val-hit s told there is w (sym (path-is p (map folded told.names) same)))
          by false other =
              let o : Option Rec = get old (map folded told.names) in
              inl (ap (value_named n) (after-else moment New told there.names (apart told there) s is o (none-gone o) p other))
