-- What changes of a key told, and of the keys on a walk.
use Rattle.std.proofs.Common.{◌≡◌, ℕ, Bool, true, false, not, cond, ◌&&◌, ◌||◌, List, [], ◌∷◌, ◌++◌, map, Option, Some, None}
use Rattle.std.proofs.Common.{is_some, refl, sym, ap, ◌∙◌, subst, append-nil}
use Rattle.std.specs.Prelude.{if◌then◌else◌, flat_map, filter, find}
use Rattle.std.specs.FinMap.{get}
use Rattle.std.specs.List.{AllByRecursion, list_all, list_any}
use Rattle.std.specs.Option.{option_map, option_or}
use Rattle.std.proofs.lemmas.Bool.{false≢true}
use Rattle.std.proofs.lemmas.List.Folds.{find-append}
use Rattle.reg_names.specs.declared.TheConstants.{PATH_LIMIT}
use Rattle.reg_names.specs.Names.{folded, text_of, is_path, are_key_names}
use Rattle.reg_heap.specs.Paths.{Tree, Rec, Member}
use Rattle.reg_heap.specs.Edits.{folded_path}
use Rattle.reg_heap.specs.Trees.{IsTree, IsWithinLimits}
use Rattle.reg_tree.specs.declared.node.Node.{Node}
use Rattle.reg_tree.specs.TreeKeys.{Keys, IsAt}
use Rattle.reg_tree_text.specs.declared.walk.Walk.{Walk}
use Rattle.reg_tree_text.specs.DumpTexts.{Told, name_of, keys_told}
use Rattle.reg_tree_text.specs.Internal.Gathered.{WriterState, IsSoFar}
use Rattle.reg_tree_text.specs.Internal.Walking.{Goes}
use Rattle.reg_tree_text.proofs.CountedKeys.{amid_start}
use Rattle.reg_tree_text.proofs.SentTexts.{opened, swapped, then_gathered}
use Rattle.reg_diff.specs.Branches.{keys_from, names_along}
use Rattle.reg_diff.proofs.ToldKeys.{IsToldIn, keys-there}
use Rattle.reg_diff.proofs.ToldPaths.{read-back, text-path}
use Rattle.reg_dotreg_writer.specs.EntryTexts.{line_end}
use Rattle.reg_dotreg_writer.specs.Entries.{key_line, is_line_name}
use Rattle.reg_dotreg_writer.specs.Changes.{Change, is_new, is_told, change_here, changes_of, changes, rooted, gone_line, is_writable_change}
use Rattle.reg_dotreg_writer.specs.Internal.Pieces.{plain}
use Rattle.reg_dotreg_writer.specs.Internal.ChangePieces.{is_fine, value_pieces, all_told_pieces, change_pieces, body_pieces}
use Rattle.reg_dotreg_writer.specs.declared.side.Side.{Side}
use Rattle.reg_dotreg_writer.specs.declared.side.Side.TheVariants.{Old, New}
use Rattle.reg_dotreg_writer.proofs.PieceBytes.{flat_map-append}
use Rattle.reg_dotreg_writer.proofs.ToldValues.{told-filter, fine-filter}

-- ---- a key

module _ (root path : List ℕ) (side : Side) (key : Rec) (o : Option Rec) where
  abbrev here : Change
  here = record { side = side; is_alone = not (is_some o); path = path; values = filter (is_told o side) key.values }

  told-here : (changed : Bool) → changed ≡ (not (is_some o) || list_any (is_told o side) key.values) → changed ≡ true →
      change_here side path key o ≡ here ∷ []
  told-here changed c t = ap (λ (b : Bool). if b then here ∷ [] else []) (sym c ∙ t)

  none-here : (changed : Bool) → changed ≡ (not (is_some o) || list_any (is_told o side) key.values) → changed ≡ false →
      change_here side path key o ≡ []
  none-here changed c f = ap (λ (b : Bool). if b then here ∷ [] else []) (sym c ∙ f)

  module _ (some : Bool) (values : List Member) (s : some ≡ is_some o) (v : values ≡ key.values) where
    changed-same : (changed : Bool) → changed ≡ (not some || list_any (is_told o side) values) →
        changed ≡ (not (is_some o) || list_any (is_told o side) key.values)
    changed-same changed c =
        c ∙ (ap (λ (b : Bool). not b || list_any (is_told o side) values) s
        ∙ ap (λ (x : List Member). not (is_some o) || list_any (is_told o side) x) v)

    pub quiet-said : (u : Bool) (changed : Bool) → changed ≡ (not some || list_any (is_told o side) values) → changed ≡ false →
        flat_map (change_pieces u root) (change_here side path key o) ≡ []
    quiet-said u changed c f = ap (flat_map (change_pieces u root)) (none-here changed (changed-same changed c) f)

    pub block-said : (u : Bool) (changed : Bool) → changed ≡ (not some || list_any (is_told o side) values) → changed ≡ true →
        plain u (if not some && not (is_new side) then gone_line (rooted root path) else key_line (rooted root path))
        ++ (all_told_pieces u o side values ++ plain u line_end) ≡ flat_map (change_pieces u root) (change_here side path key o)
    block-said u changed c t =
        ap (λ (b : Bool). plain u (if not b && not (is_new side) then gone_line (rooted root path) else key_line (rooted root path))
        ++ (all_told_pieces u o side values ++ plain u line_end)) s
        ∙ (ap (λ (x : List ℕ). plain u (if not (is_some o) && not (is_new side) then gone_line (rooted root path) else key_line (rooted root path))
        ++ (x ++ plain u line_end)) (told-filter o side u values ∙ ap (λ (x : List Member). flat_map (value_pieces u side) (filter (is_told o side) x)) v)
        ∙ (sym (append-nil (change_pieces u root here))
        ∙ sym (ap (flat_map (change_pieces u root)) (told-here changed (changed-same changed c) t))))

  -- whether it can be written
  pub can-said : (is_none any line fine : Bool) → is_none ≡ not (is_some o) → any ≡ list_any (is_told o side) key.values →
      line ≡ is_line_name (rooted root path) → fine ≡ list_all (is_fine o side) key.values →
      (not (is_none || any) || (line && fine)) ≡ list_all (is_writable_change root) (change_here side path key o)
  can-said is_none any line fine n a l f =
      ap (λ (b : Bool). not b || (line && fine)) (ap (λ (b : Bool). b || any) n ∙ ap (λ (b : Bool). not (is_some o) || b) a)
      ∙ (ap (λ (b : Bool). not (not (is_some o) || list_any (is_told o side) key.values) || b)
      (ap (λ (b : Bool). b && fine) l ∙ ap (λ (b : Bool). is_line_name (rooted root path) && b) (f ∙ fine-filter o side key.values))
      ∙ by (not (is_some o) || list_any (is_told o side) key.values))
    where
      last : (w : Bool) → w ≡ (w && true)
      last true = refl
      last false = refl

      by : (b : Bool) → (not b || is_writable_change root here) ≡ list_all (is_writable_change root) (if b then here ∷ [] else [])
      by true = last (is_writable_change root here)
      by false = refl

-- the line of a key was gathered, and its values are next
pub line-gathered : (u gone is_gone : Bool) (path : List ℕ) (begin now : WriterState) (whole values end left gathered more : List ℕ) (written : ℕ) →
    gone ≡ is_gone →
    IsSoFar begin now whole ((plain u (if is_gone then gone_line path else key_line path) ++ (values ++ end)) ++ left) gathered written →
    more ≡ gathered ++ plain u (if gone then gone_line path else key_line path) → IsSoFar begin now whole (values ++ (end ++ left)) more written
line-gathered u gone is_gone path begin now whole values end left gathered more written same s e =
    opened begin now whole values end left more written
    (then_gathered begin now whole (plain u (if is_gone then gone_line path else key_line path)) (values ++ end) left gathered more written s
    (e ∙ ap (λ (b : Bool). gathered ++ plain u (if b then gone_line path else key_line path)) same))

-- ---- keys on a walk

abbrev pub key_changes : Side → Tree → Told → List Change
key_changes side other told = change_here side (text_of told.names) told.key (get other (map folded told.names))

abbrev pub all_changes : Side → Tree → List Told → List Change
all_changes side other all = flat_map (key_changes side other) all

-- each key that is told of a tree stands in it
told-there : (tree : Tree) → IsTree tree → IsWithinLimits tree → AllByRecursion (IsToldIn tree []) (keys_told tree)
unfolding keys_told keys_from names_along
told-there tree is limits = keys-there tree is limits [] is.root

-- a walk has come to a key, and it and those that are to come are the tree's
pub record IsGoing (keys : Keys) (walk : Walk) : Type 0 where
  pub now : List Told
  pub goes : Goes keys walk now
  pub there : AllByRecursion (IsToldIn keys.tree []) now

pub going-start : (keys : Keys) (walk : Walk) (root : Node) → IsAt keys [] root → IsTree keys.tree → IsWithinLimits keys.tree →
    walk.node ≡ root → walk.path.items ≡ [] → walk.pending.items ≡ [] → (g : IsGoing keys walk) × (g.now ≡ keys_told keys.tree)
going-start keys walk root at is limits node path pending =
    let a = amid_start keys walk (record { keys = 0; values = 0 }) root at is node path pending refl refl in (
      record {
        now = keys_told keys.tree;
        goes = record { told = a.0.here; rest = a.0.rest; all_is = a.1; stands = a.0.stands };
        there = told-there keys.tree is limits;
      },
      refl,
    )

module _ (keys : Keys) (walk : Walk) (g : IsGoing keys walk) where
  pub parts : AllByRecursion (IsToldIn keys.tree []) (g.goes.told ∷ g.goes.rest)
  parts = subst (λ (x : List Told). AllByRecursion (IsToldIn keys.tree []) x) g.goes.all_is g.there

  pub names-good : are_key_names PATH_LIMIT g.goes.told.names ≡ true
  names-good = parts.0.names

  pub going-path : (text : List ℕ) → text ≡ text_of g.goes.told.names → is_path text ≡ true
  going-path text t = text-path g.goes.told.names text t names-good

  abbrev pub going-on : (new : Walk) → Goes keys new g.goes.rest → IsGoing keys new
  going-on new goes = record { now = g.goes.rest; goes = goes; there = parts.1 }

  -- what changes of the key at which it stands, by the text of its path
  pub key-same : (side : Side) (other : Tree) (text : List ℕ) → text ≡ text_of g.goes.told.names →
      change_here side text g.goes.told.key (get other (folded_path text)) ≡ key_changes side other g.goes.told
  key-same side other text t =
      ap (λ (x : List ℕ). change_here side x g.goes.told.key (get other (folded_path x))) t
      ∙ ap (λ (names : List (List ℕ)). change_here side (text_of g.goes.told.names) g.goes.told.key (get other (map folded names)))
      (read-back g.goes.told.names names-good)

  -- that is next
  pub change-next : (u : Bool) (root : List ℕ) (side : Side) (other : Tree) (begin now : WriterState) (whole text left gathered : List ℕ)
      (written : ℕ) → text ≡ text_of g.goes.told.names →
      IsSoFar begin now whole (flat_map (change_pieces u root) (all_changes side other g.now) ++ left) gathered written →
      IsSoFar begin now whole (flat_map (change_pieces u root) (change_here side text g.goes.told.key (get other (folded_path text)))
      ++ (flat_map (change_pieces u root) (all_changes side other g.goes.rest) ++ left)) gathered written
  change-next u root side other begin now whole text left gathered written t s =
      let p : Change → List ℕ = change_pieces u root in
      opened begin now whole (flat_map p (change_here side text g.goes.told.key (get other (folded_path text))))
      (flat_map p (all_changes side other g.goes.rest)) left gathered written
      (swapped begin now whole _ _ left gathered written s
      (sym (flat_map-append p (change_here side text g.goes.told.key (get other (folded_path text))) (all_changes side other g.goes.rest))
      ∙ (ap (λ (x : List Change). flat_map p (x ++ all_changes side other g.goes.rest)) (key-same side other text t)
      ∙ ap (λ (x : List Told). flat_map p (all_changes side other x)) (sym g.goes.all_is))))

-- what changes of the old tree is next, and then of the new one
pub sides-next : (old new : Tree) (u : Bool) (root : List ℕ) → root ≡ name_of (get old []) → (begin now : WriterState)
    (whole left gathered : List ℕ) (written : ℕ) → IsSoFar begin now whole (body_pieces u old new ++ left) gathered written →
    IsSoFar begin now whole (flat_map (change_pieces u root) (changes_of Old old new)
    ++ (flat_map (change_pieces u root) (changes_of New new old) ++ left)) gathered written
unfolding changes
sides-next old new u root r begin now whole left gathered written s =
    opened begin now whole (flat_map (change_pieces u root) (changes_of Old old new)) (flat_map (change_pieces u root) (changes_of New new old))
    left gathered written
    (swapped begin now whole _ _ left gathered written s
    (sym (flat_map-append (change_pieces u root) (changes_of Old old new) (changes_of New new old))
    ∙ ap (λ (x : List ℕ). flat_map (change_pieces u x) (changes_of Old old new ++ changes_of New new old)) r))

-- ---- the first that can't be written

module _ (root : List ℕ) where
  abbrev is_bad : Change → Bool
  is_bad change = not (is_writable_change root change)

  abbrev pub first_bad : List Change → Option (List ℕ)
  first_bad all = option_map (λ (change : Change). rooted root change.path) (find is_bad all)

  bad-append : (xs ys : List Change) → find is_bad (xs ++ ys) ≡ option_or (find is_bad xs) (find is_bad ys)
  bad-append xs ys = find-append is_bad xs ys

  fine-none : (xs : List Change) → list_all (is_writable_change root) xs ≡ true → find is_bad xs ≡ None
  fine-none [] e = refl
  fine-none (x ∷ xs) e = by (is_writable_change root x) e (fine-none xs)
    where
      by : (b : Bool) → (b && list_all (is_writable_change root) xs) ≡ true → (list_all (is_writable_change root) xs ≡ true → find is_bad xs ≡ None) →
          cond (not b) (Some x) (find is_bad xs) ≡ None
      by true e h = h e
      by false e h = absurd (false≢true e)

  -- of two lists, where the first can be written
  pub past-fine : (xs ys : List Change) → list_all (is_writable_change root) xs ≡ true → first_bad (xs ++ ys) ≡ first_bad ys
  past-fine xs ys e =
      ap (option_map (λ (change : Change). rooted root change.path))
      (bad-append xs ys ∙ ap (λ (o : Option Change). option_or o (find is_bad ys)) (fine-none xs e))

  -- or where it has one that can't
  pub first-found : (xs ys : List Change) (text : List ℕ) → Some text ≡ first_bad xs → Some text ≡ first_bad (xs ++ ys)
  first-found xs ys text e =
      by (find is_bad xs) refl
    where
      by : (o : Option Change) → find is_bad xs ≡ o → Some text ≡ first_bad (xs ++ ys)
      by None f = absurd (let g = e ∙ ap (option_map (λ (change : Change). rooted root change.path)) f in cc)
      by (Some c) f =
          e ∙ (ap (option_map (λ (change : Change). rooted root change.path)) f
          ∙ sym (ap (option_map (λ (change : Change). rooted root change.path))
          (bad-append xs ys ∙ ap (λ (o : Option Change). option_or o (find is_bad ys)) f)))

  pub none-found : (xs ys : List Change) → None ≡ first_bad xs → first_bad (xs ++ ys) ≡ first_bad ys
  none-found xs ys e = by (find is_bad xs) refl
    where
      by : (o : Option Change) → find is_bad xs ≡ o → first_bad (xs ++ ys) ≡ first_bad ys
      by None f =
          ap (option_map (λ (change : Change). rooted root change.path))
          (bad-append xs ys ∙ ap (λ (o : Option Change). option_or o (find is_bad ys)) f)
      by (Some c) f = absurd (let g = e ∙ ap (option_map (λ (change : Change). rooted root change.path)) f in cc)

  -- what changes of a key can't be written
  pub here-bad : (side : Side) (path : List ℕ) (key : Rec) (o : Option Rec) (can : Bool) →
      can ≡ list_all (is_writable_change root) (change_here side path key o) → can ≡ false →
      Some (rooted root path) ≡ first_bad (change_here side path key o)
  here-bad side path key o can c f = by (not (is_some o) || list_any (is_told o side) key.values) (sym c ∙ f)
    where
      at : Change
      at = record { side = side; is_alone = not (is_some o); path = path; values = filter (is_told o side) key.values }

      one : (w : Bool) → (w && true) ≡ false → Some (rooted root path) ≡
          option_map (λ (change : Change). rooted root change.path) (cond (not w) (Some at) None)
      one true e = absurd (false≢true (sym e))
      one false e = refl

      by : (b : Bool) → list_all (is_writable_change root) (if b then at ∷ [] else []) ≡ false →
          Some (rooted root path) ≡ first_bad (if b then at ∷ [] else [])
      by true e = one (is_writable_change root at) e
      by false e = absurd (false≢true (sym e))

-- a walk has come to a key, and what changes of those before it can be written
pub record IsLooking (keys : Keys) (walk : Walk) (root : List ℕ) (side : Side) (other : Tree) : Type 0 where
  pub going : IsGoing keys walk
  pub same : first_bad root (all_changes side other going.now) ≡ first_bad root (all_changes side other (keys_told keys.tree))

module _ (keys : Keys) (walk : Walk) (root : List ℕ) (side : Side) (other : Tree) (l : IsLooking keys walk root side other) where
  opened-bad : first_bad root (key_changes side other l.going.goes.told ++ all_changes side other l.going.goes.rest) ≡
      first_bad root (all_changes side other (keys_told keys.tree))
  opened-bad = ap (λ (x : List Told). first_bad root (all_changes side other x)) (sym l.going.goes.all_is) ∙ l.same

  module _ (text : List ℕ) (t : text ≡ text_of l.going.goes.told.names) (can : Bool)
      (c : can ≡ list_all (is_writable_change root) (change_here side text l.going.goes.told.key (get other (folded_path text)))) where
    abbrev at_key : List Change
    at_key = change_here side text l.going.goes.told.key (get other (folded_path text))

    pub looked-bad : can ≡ false → (items : List ℕ) → items ≡ rooted root text →
        Some items ≡ first_bad root (all_changes side other (keys_told keys.tree))
    looked-bad f items i =
        ap Some i
        ∙ (first-found root at_key (all_changes side other l.going.goes.rest) (rooted root text)
        (here-bad root side text l.going.goes.told.key (get other (folded_path text)) can c f)
        ∙ (ap (λ (x : List Change). first_bad root (x ++ all_changes side other l.going.goes.rest)) (key-same keys walk l.going side other text t)
        ∙ opened-bad))

    rest-same : can ≡ true →
        first_bad root (all_changes side other l.going.goes.rest) ≡ first_bad root (all_changes side other (keys_told keys.tree))
    rest-same e =
        sym (past-fine root at_key (all_changes side other l.going.goes.rest) (sym c ∙ e))
        ∙ (ap (λ (x : List Change). first_bad root (x ++ all_changes side other l.going.goes.rest)) (key-same keys walk l.going side other text t)
        ∙ opened-bad)

    pub looks-on : can ≡ true → (new : Walk) → Goes keys new l.going.goes.rest → IsLooking keys new root side other
    looks-on e new goes = record { going = going-on keys walk l.going new goes; same = rest-same e }

    pub looked-none : can ≡ true → l.going.goes.rest ≡ [] → None ≡ first_bad root (all_changes side other (keys_told keys.tree))
    looked-none e none = ap (λ (x : List Told). first_bad root (all_changes side other x)) (sym none) ∙ rest-same e
