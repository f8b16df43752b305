-- What the changes told of the old tree's keys make of it: a key stays just where the new tree has one, and a value where the new tree
-- has its name there, spelt alike.
use Rattle.std.proofs.Common.{◌≡◌, ◌≢◌, ℕ, ◌&&◌, Bool, true, false, cond, is_some, List, [], map, drop, length, Option, Some, None, IsSome}
use Rattle.std.proofs.Common.{refl, sym, ap, ◌∙◌, subst, ◌⊎◌, inl, inr}
use Rattle.std.specs.FinMap.{get}
use Rattle.std.proofs.lemmas.Bool.{false≢true}
use Rattle.reg_names.specs.declared.TheConstants.{PATH_LIMIT}
use Rattle.reg_names.specs.Names.{folded, text_of, path_of, are_key_names}
use Rattle.reg_heap.specs.Paths.{Path, Tree, Rec, Member}
use Rattle.reg_heap.specs.Members.{value_named}
use Rattle.reg_heap.specs.Edits.{values_of, values_at, is_within}
use Rattle.reg_heap.specs.Trees.{IsTree}
use Rattle.reg_heap.proofs.ChildrenOfPath.{path-is}
use Rattle.reg_heap.proofs.DeletedTrees.{within-rest, within-self}
use Rattle.reg_tree_text.specs.DumpTexts.{Told}
use Rattle.reg_diff.proofs.ToldPaths.{read-back}
use Rattle.reg_dotreg_writer.specs.Changes.{change_here}
use Rattle.reg_dotreg_writer.specs.declared.side.Side.TheVariants.{Old}
use Rattle.reg_dotreg_writer.proofs.NamesOnWay.{front_there}
use Rattle.reg_dotreg_import.specs.Imports.{Stand}
use Rattle.reg_dotreg_law.proofs.SeenKeys.{Seen, seen, is_same, some-shown, values_seen, values-shown}
use Rattle.reg_dotreg_law.proofs.ChildPaths.{none-below}
use Rattle.reg_dotreg_law.proofs.TreeSteps.{gone-past, gone-tree}
use Rattle.reg_dotreg_law.proofs.ToldValues.{kept, kept-none, val, old-values}
use Rattle.reg_dotreg_law.proofs.ToldBlocks.{changed_by, told_by, gone-block, line, line-here, line-tree, line-values}
use Rattle.reg_dotreg_law.proofs.ToldBlocks.{after-tree, after-has, after-else, after-values}

-- a key is told as it stands in a tree, at the end of names of keys, not too many
pub record IsThere (tree : Tree) (told : Told) : Type 0 where
  pub names : are_key_names PATH_LIMIT told.names ≡ true
  pub key : get tree (map folded told.names) ≡ Some told.key

-- what was looked at is as it is to be, where that is how it was at first
pub settled : {A : Type 0} (first last before now : A) → first ≡ last → (before ≡ first) ⊎ (before ≡ last) →
    (now ≡ before) ⊎ (now ≡ last) → now ≡ last
settled first last before now e w (inr l) = l
settled first last before now e (inl f) (inl same) = same ∙ (f ∙ e)
settled first last before now e (inr l) (inl same) = same ∙ l

and-none : (a b : Bool) → b ≡ false → (a && b) ≡ false
and-none true b e = e
and-none false b e = refl

both-so : (a b : Bool) → a ≡ true → b ≡ true → (a && b) ≡ true
both-so true b e f = f
both-so false b e f = absurd (false≢true e)

-- with a key a tree has all on the way to it
pub on-way : (tree : Tree) → IsTree tree → (p q : Path) (r : Rec) → get tree q ≡ Some r → is_within p q ≡ true → is_some (get tree p) ≡ true
on-way tree i p q r e w =
    front_there tree i p (drop (length p) q)
    (subst (λ (x : Path). IsSome (get tree x)) (within-rest p q w) (ap (λ (o : Option Rec). is_some o) e))

module _ (moment : ℕ) (old new : Tree) (i : IsTree old) (j : IsTree new) where
  abbrev pub old_by : Stand → Told → Stand
  old_by = told_by moment Old new

  -- what the key's change makes where the new tree has this at its path
  abbrev change : Stand → Told → Option Rec → Stand
  change s told o = changed_by moment s (change_here Old (text_of told.names) told.key o)

  -- ---- a key that the new tree lacks

  below-root : (q : Path) → get new q ≡ None → q ≢ []
  below-root q none e = false≢true (sym (ap (λ (o : Option Rec). is_some o) (ap (get new) (sym e) ∙ none)) ∙ j.root)

  module _ (s : Stand) (told : Told) (there : IsThere old told) (is : IsTree s.tree) (none : get new (map folded told.names) ≡ None) where
    abbrev q : Path
    q = map folded told.names

    at : map folded (path_of (text_of told.names)) ≡ q
    at = ap (map folded) (read-back told.names there.names)

    lost-seen : (x : Path) → seen (change s told None).tree x ≡ cond (is_within q x) None (seen s.tree x)
    lost-seen x =
        ap (λ (u : Stand). seen u.tree x) (gone-block moment (text_of told.names) told.key s)
        ∙ (gone-past moment s.tree (text_of told.names) is (λ e. below-root q none (sym at ∙ e)) x
        ∙ ap (λ (y : Path). cond (is_within y x) None (seen s.tree x)) at)

    lost-tree : IsTree (change s told None).tree
    lost-tree =
        subst (λ (u : Stand). IsTree u.tree) (sym (gone-block moment (text_of told.names) told.key s))
        (gone-tree moment s.tree (text_of told.names) is (λ e. below-root q none (sym at ∙ e)))

    lost-has : (x : Path) (b : Bool) → is_within q x ≡ b → is_some (get (change s told None).tree x) ≡ cond b false (is_some (get s.tree x))
    lost-has x b w =
        sym (some-shown (get (change s told None).tree x))
        ∙ (ap (λ (y : Seen). is_some y) (lost-seen x ∙ ap (λ (c : Bool). cond c None (seen s.tree x)) w) ∙ by b)
      where
        by : (c : Bool) → is_some (cond c None (seen s.tree x)) ≡ cond c false (is_some (get s.tree x))
        by true = refl
        by false = some-shown (get s.tree x)

    lost-values : (x : Path) (b : Bool) → is_within q x ≡ b → values_at (change s told None).tree x ≡ cond b [] (values_at s.tree x)
    lost-values x b w =
        values-shown (get (change s told None).tree x)
        ∙ (ap values_seen (lost-seen x ∙ ap (λ (c : Bool). cond c None (seen s.tree x)) w) ∙ by b)
      where
        by : (c : Bool) → values_seen (cond c None (seen s.tree x)) ≡ cond c [] (values_at s.tree x)
        by true = refl
        by false = sym (values-shown (get s.tree x))

    lacks : (x : Path) → is_within q x ≡ true → get new x ≡ None
    lacks x w = ap (get new) (within-rest q x w) ∙ none-below new j q (drop (length q) x) none

  -- ---- a tree stays one

  pub old-tree : (s : Stand) (told : Told) → IsThere old told → IsTree s.tree → IsTree (old_by s told).tree
  old-tree s told there is = by (get new (map folded told.names)) refl
    where
      by : (o : Option Rec) → get new (map folded told.names) ≡ o → IsTree (change s told o).tree
      by None e = lost-tree s told there is e
      by (Some r) e = after-tree moment Old told there.names (i.apart (map folded told.names) told.key there.key) s is (Some r) refl

  module _ (p : Path) where
    -- ---- whether a key is there

    abbrev pub has : Stand → Bool
    has s = is_some (get s.tree p)

    abbrev pub had : Bool
    had = is_some (get old p)

    abbrev pub stays : Bool
    stays = had && is_some (get new p)

    has-goes : (s : Stand) (told : Told) → IsThere old told → IsTree s.tree → (o : Option Rec) → get new (map folded told.names) ≡ o →
        (has (change s told o) ≡ has s) ⊎ (has (change s told o) ≡ stays)
    has-goes s told there is None e = by (is_within (map folded told.names) p) refl
      where
        by : (b : Bool) → is_within (map folded told.names) p ≡ b → (has (change s told None) ≡ has s) ⊎ (has (change s told None) ≡ stays)
        by true w =
            inr (lost-has s told there is e p true w
            ∙ sym (and-none had (is_some (get new p)) (ap (λ (x : Option Rec). is_some x) (lacks s told there is e p w))))
        by false w = inl (lost-has s told there is e p false w)
    has-goes s told there is (Some r) e =
        after-has moment Old told there.names (i.apart (map folded told.names) told.key there.key) s is (Some r) refl p stays
        (λ w. both-so had (is_some (get new p)) (on-way old i p (map folded told.names) told.key there.key w)
        (on-way new j p (map folded told.names) r e w))

    pub old-has-goes : (s : Stand) (told : Told) → IsThere old told → IsTree s.tree → (has s ≡ had) ⊎ (has s ≡ stays) →
        (has (old_by s told) ≡ has s) ⊎ (has (old_by s told) ≡ stays)
    old-has-goes s told there is w = has-goes s told there is (get new (map folded told.names)) refl

    pub old-has-hit : (s : Stand) (told : Told) → IsThere old told → IsTree s.tree → (has s ≡ had) ⊎ (has s ≡ stays) →
        map folded told.names ≡ p → has (old_by s told) ≡ stays
    old-has-hit s told there is w hit = by (get new (map folded told.names)) refl
      where
        by : (o : Option Rec) → get new (map folded told.names) ≡ o → has (change s told o) ≡ stays
        by None e =
            let in_it : is_within (map folded told.names) p ≡ true =
            subst (λ (x : Path). is_within (map folded told.names) x ≡ true) hit (within-self (map folded told.names)) in
            lost-has s told there is e p true in_it
            ∙ sym (and-none had (is_some (get new p)) (ap (λ (x : Option Rec). is_some x) (lacks s told there is e p in_it)))
        by (Some r) e =
            let had_it : had ≡ true = ap (λ (x : Option Rec). is_some x) (ap (get old) (sym hit) ∙ there.key) in
            let has_it : is_some (get new p) ≡ true = ap (λ (x : Option Rec). is_some x) (ap (get new) (sym hit) ∙ e) in
            settled had stays (has s) (has (change s told (Some r))) (had_it ∙ sym (both-so had (is_some (get new p)) had_it has_it)) w
            (has-goes s told there is (Some r) e)

    -- ---- a value of a name

    module _ (n : List ℕ) where
      abbrev pub was : Option Member
      was = value_named n (values_at old p)

      abbrev pub left : Option Member
      left = kept was (value_named n (values_at new p))

      abbrev at_p : Stand → Option Member
      at_p = val moment n p

      left-none : get new p ≡ None → left ≡ None
      left-none e = ap (λ (o : Option Rec). kept was (value_named n (values_of o))) e ∙ kept-none was

      val-hit : (s : Stand) (told : Told) → IsThere old told → IsTree s.tree → (at_p s ≡ was) ⊎ (at_p s ≡ left) →
          map folded told.names ≡ p → (o : Option Rec) → get new (map folded told.names) ≡ o → at_p (change s told o) ≡ left
      val-hit s told there is w hit None e =
          let in_it : is_within (map folded told.names) p ≡ true =
          subst (λ (x : Path). is_within (map folded told.names) x ≡ true) hit (within-self (map folded told.names)) in
          ap (value_named n) (lost-values s told there is e p true in_it) ∙ sym (left-none (lacks s told there is e p in_it))
      val-hit s told there is w hit (Some r) e =
          let good = there.names in
          let apart = i.apart (map folded told.names) told.key there.key in
          let begins : Stand = line moment Old told good apart s is (Some r) refl in
          let first : was ≡ value_named n told.key.values =
          ap (λ (o : Option Rec). value_named n (values_of o)) (ap (get old) (sym hit) ∙ there.key) in
          let last : left ≡ kept (value_named n told.key.values) (value_named n r.values) =
          ap (λ (x : Option Member). kept x (value_named n (values_at new p))) first
          ∙ ap (λ (o : Option Rec). kept (value_named n told.key.values) (value_named n (values_of o))) (ap (get new) (sym hit) ∙ e) in
          let same : at_p begins ≡ at_p s = ap (value_named n) (line-values moment Old told good apart s is (Some r) refl p) in
          ap (value_named n) (after-values moment Old told good apart s is (Some r) refl p)
          ∙ (old-values moment n p told.key.values r apart begins (line-tree moment Old told good apart s is (Some r) refl)
          (line-here moment Old told good apart s is (Some r) refl ∙ hit) (turn (at_p begins) same first last w)
          ∙ sym last)
        where
          turn : (x : Option Member) → x ≡ at_p s → {a b : Option Member} → was ≡ a → left ≡ b → (at_p s ≡ was) ⊎ (at_p s ≡ left) →
              (x ≡ a) ⊎ (x ≡ b)
          turn x same first last (inl f) = inl (same ∙ (f ∙ first))
          turn x same first last (inr l) = inr (same ∙ (l ∙ last))

      pub old-val-hit : (s : Stand) (told : Told) → IsThere old told → IsTree s.tree → (at_p s ≡ was) ⊎ (at_p s ≡ left) →
          map folded told.names ≡ p → at_p (old_by s told) ≡ left
      old-val-hit s told there is w hit = val-hit s told there is w hit (get new (map folded told.names)) refl

      pub old-val-goes : (s : Stand) (told : Told) → IsThere old told → IsTree s.tree → (at_p s ≡ was) ⊎ (at_p s ≡ left) →
          (at_p (old_by s told) ≡ at_p s) ⊎ (at_p (old_by s told) ≡ left)
      old-val-goes s told there is w = by (get new (map folded told.names)) refl
        where
          lost : get new (map folded told.names) ≡ None → (b : Bool) → is_within (map folded told.names) p ≡ b →
              (at_p (change s told None) ≡ at_p s) ⊎ (at_p (change s told None) ≡ left)
          lost e true in_it =
              inr (ap (value_named n) (lost-values s told there is e p true in_it) ∙ sym (left-none (lacks s told there is e p in_it)))
          lost e false out = inl (ap (value_named n) (lost-values s told there is e p false out))

          stay : (r : Rec) → get new (map folded told.names) ≡ Some r → (b : Bool) → is_same p (map folded told.names) ≡ b →
              (at_p (change s told (Some r)) ≡ at_p s) ⊎ (at_p (change s told (Some r)) ≡ left)
          stay r e true same = inr (val-hit s told there is w (sym (path-is p (map folded told.names) same)) (Some r) e)
          stay r e false other =
              inl (ap (value_named n)
              (after-else moment Old told there.names (i.apart (map folded told.names) told.key there.key) s is (Some r) refl p other))

          by : (o : Option Rec) → get new (map folded told.names) ≡ o →
              (at_p (change s told o) ≡ at_p s) ⊎ (at_p (change s told o) ≡ left)
          by None e = lost e (is_within (map folded told.names) p) refl
          by (Some r) e = stay r e (is_same p (map folded told.names)) refl
