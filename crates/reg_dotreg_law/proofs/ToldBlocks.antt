-- What the entries of a change make: of a key with values that are told, or of one that is gone.
use Rattle.std.proofs.Common.{◌≡◌, ℕ, ◌&&◌, ◌||◌, not, Bool, true, false, cond, is_some, List, [], ◌∷◌, ◌++◌, map, Option, None, IsSome}
use Rattle.std.proofs.Common.{refl, sym, ap, ◌∙◌, subst, append-nil, ◌⊎◌, inl, inr}
use Rattle.std.specs.Prelude.{if◌then◌else◌, flat_map, filter}
use Rattle.std.specs.List.{list_any}
use Rattle.std.specs.FinMap.{get}
use Rattle.std.proofs.lemmas.Bool.{or_parts}
use Rattle.reg_names.specs.declared.TheConstants.{PATH_LIMIT}
use Rattle.reg_names.specs.Names.{folded, text_of, path_of, are_key_names}
use Rattle.reg_heap.specs.Paths.{Path, Tree, Rec, Member}
use Rattle.reg_heap.specs.Edits.{values_at, is_within}
use Rattle.reg_heap.specs.Trees.{IsTree, NamesDiffer}
use Rattle.reg_tree_text.specs.DumpTexts.{Told}
use Rattle.reg_diff.proofs.SameValues.{named-itself}
use Rattle.reg_diff.proofs.ToldPaths.{read-back}
use Rattle.reg_dotreg_writer.specs.Changes.{Change, is_new, is_told, change_here}
use Rattle.reg_dotreg_writer.specs.declared.side.Side.{Side}
use Rattle.reg_dotreg_writer.specs.declared.side.Side.TheVariants.{Old}
use Rattle.reg_dotreg_reader.specs.declared.entry.Entry.TheVariants.{Key, GoneKey}
use Rattle.reg_dotreg_import.specs.Imports.{Stand, after_entry, after_entries}
use Rattle.reg_dotreg_law.specs.ChangesDue.{value_entry_of, entries_of_change}
use Rattle.reg_dotreg_law.proofs.SeenKeys.{seen, is_same, same-values}
use Rattle.reg_dotreg_law.proofs.MadeKeys.{after-append}
use Rattle.reg_dotreg_law.proofs.TreeSteps.{keys-values, keys-else, keys-last, keys-tree, keys-way}
use Rattle.reg_dotreg_law.proofs.RunsOver.{runs, keeps}
use Rattle.reg_dotreg_law.proofs.ToldValues.{one, either, one-tree, one-here, one-has, one-else, IsFound}

-- ---- changes in turn

-- where the entries of some changes lead
abbrev pub changed_by : ℕ → Stand → List Change → Stand
changed_by moment s all = after_entries moment s (flat_map entries_of_change all)

pub changed-append : (moment : ℕ) (xs ys : List Change) (s : Stand) →
    changed_by moment s (xs ++ ys) ≡ changed_by moment (changed_by moment s xs) ys
changed-append moment [] ys s = refl
changed-append moment (c ∷ xs) ys s =
    after-append moment s (entries_of_change c) (flat_map entries_of_change (xs ++ ys))
    ∙ (changed-append moment xs ys (after_entries moment s (entries_of_change c))
    ∙ ap (λ (x : Stand). changed_by moment x ys) (sym (after-append moment s (entries_of_change c) (flat_map entries_of_change xs))))

-- what is told of a key of one tree against the other
abbrev pub here_of : Side → Tree → Told → List Change
here_of side other told = change_here side (text_of told.names) told.key (get other (map folded told.names))

abbrev pub told_by : ℕ → Side → Tree → Stand → Told → Stand
told_by moment side other s told = changed_by moment s (here_of side other told)

pub side-runs : (moment : ℕ) (side : Side) (other : Tree) (all : List Told) (s : Stand) →
    changed_by moment s (flat_map (here_of side other) all) ≡ runs Told (told_by moment side other) s all
side-runs moment side other [] s = refl
side-runs moment side other (told ∷ all) s =
    changed-append moment (here_of side other told) (flat_map (here_of side other) all) s
    ∙ side-runs moment side other all (told_by moment side other s told)

-- ---- values in turn

module _ (moment : ℕ) (side : Side) (o : Option Rec) where
  values-run : (vs : List Member) (s : Stand) →
      after_entries moment s (map (value_entry_of side) (filter (is_told o side) vs)) ≡ runs Member (one moment side o) s vs
  values-run [] s = refl
  values-run (v ∷ vs) s = by (is_told o side v) (values-run vs)
    where
      by : (b : Bool) → ((u : Stand) →
          after_entries moment u (map (value_entry_of side) (filter (is_told o side) vs)) ≡ runs Member (one moment side o) u vs) →
          after_entries moment s (map (value_entry_of side) (cond b (v ∷ filter (is_told o side) vs) (filter (is_told o side) vs)))
          ≡ runs Member (one moment side o) (cond b (after_entry moment s (value_entry_of side v)) s) vs
      by true rest = rest (after_entry moment s (value_entry_of side v))
      by false rest = rest s

  none-run : (vs : List Member) (s : Stand) → list_any (is_told o side) vs ≡ false → runs Member (one moment side o) s vs ≡ s
  none-run [] s e = refl
  none-run (v ∷ vs) s e =
      let both = or_parts (is_told o side v) (list_any (is_told o side) vs) e in
      ap (λ (b : Bool). runs Member (one moment side o) (cond b (after_entry moment s (value_entry_of side v)) s) vs) both.0
      ∙ none-run vs s both.1

-- ---- a key that is gone

none-told : (vs : List Member) → filter (is_told None Old) vs ≡ []
none-told [] = refl
none-told (v ∷ vs) = none-told vs

pub gone-block : (moment : ℕ) (path : List ℕ) (key : Rec) (s : Stand) →
    changed_by moment s (change_here Old path key None) ≡ after_entry moment s (GoneKey path)
gone-block moment path key s =
    ap (after_entries moment s) (append-nil (GoneKey path ∷ map (value_entry_of Old) (filter (is_told None Old) key.values)))
    ∙ ap (λ (vs : List Member). after_entries moment s (GoneKey path ∷ map (value_entry_of Old) vs)) (none-told key.values)

-- ---- a key that is named, with its values that are told

module _ (moment : ℕ) (side : Side) (told : Told) (good : are_key_names PATH_LIMIT told.names ≡ true) (differ : NamesDiffer told.key.values)
    (s : Stand) (i : IsTree s.tree) (o : Option Rec) (named : (not (is_some o) && not (is_new side)) ≡ false) where
  abbrev path : List ℕ
  path = text_of told.names

  abbrev q : Path
  q = map folded told.names

  abbrev pub line : Stand
  line = after_entry moment s (Key path)

  abbrev step : Stand → Member → Stand
  step = one moment side o

  abbrev pub block : Stand
  block = runs Member (one moment side o) line told.key.values

  abbrev is_changed : Bool
  is_changed = not (is_some o) || list_any (is_told o side) told.key.values

  abbrev pub after : Stand
  after = changed_by moment s (change_here side path told.key o)

  after-is : after ≡ cond is_changed block s
  after-is = by is_changed
    where
      at : Change
      at = record { side = side; is_alone = not (is_some o); path = path; values = filter (is_told o side) told.key.values }

      by : (b : Bool) → after_entries moment s (flat_map entries_of_change (if b then at ∷ [] else [])) ≡ cond b block s
      by true =
          ap (after_entries moment s) (append-nil (entries_of_change at))
          ∙ (ap (λ (b : Bool). after_entries moment s ((if b then GoneKey path else Key path) ∷ map (value_entry_of side) at.values)) named
          ∙ values-run moment side o told.key.values line)
      by false = refl

  -- the line of the key
  pub line-here : line.here ≡ q
  line-here = ap (map folded) (read-back told.names good)

  pub line-tree : IsTree line.tree
  line-tree = keys-tree moment (path_of path) s.tree i

  pub line-there : IsSome (get line.tree q)
  line-there = subst (λ (x : Path). IsSome (get line.tree x)) line-here (keys-last moment (path_of path) s.tree i)

  pub line-values : (x : Path) → values_at line.tree x ≡ values_at s.tree x
  line-values x = keys-values moment (path_of path) s.tree [] x

  line-way : (x : Path) → is_within x q ≡ true → is_some (get line.tree x) ≡ true
  line-way x w = keys-way moment (path_of path) s.tree x i (ap (is_within x) line-here ∙ w)

  line-else : (x : Path) → is_within x q ≡ false → is_some (get line.tree x) ≡ is_some (get s.tree x)
  line-else x w = keys-else moment (path_of path) s.tree [] x (ap (is_within x) line-here ∙ w)

  -- its values
  block-tree : IsTree block.tree
  block-tree =
      keeps Member step (IsFound told.key.values) (λ (u : Stand). IsTree u.tree) (λ u v ok h. one-tree moment side o u v h) told.key.values
      (named-itself told.key.values differ) line line-tree

  block-has : (x : Path) → is_some (get block.tree x) ≡ is_some (get line.tree x)
  block-has x =
      keeps Member step (IsFound told.key.values) (λ (u : Stand). is_some (get u.tree x) ≡ is_some (get line.tree x))
      (λ u v ok h. one-has moment side o u v x ∙ h) told.key.values (named-itself told.key.values differ) line refl

  abbrev IsElse : Path → Stand → Type 0
  IsElse x u = (u.here ≡ q) × (seen u.tree x ≡ seen line.tree x)

  block-else : (x : Path) → is_same x q ≡ false → values_at block.tree x ≡ values_at s.tree x
  block-else x other =
      let all = keeps Member step (IsFound told.key.values) (IsElse x)
      (λ u v ok h. (one-here moment side o u v ∙ h.0, one-else moment side o u v x (ap (is_same x) h.0 ∙ other) ∙ h.1))
      told.key.values (named-itself told.key.values differ) line (line-here, refl) in
      same-values (get block.tree x) (get line.tree x) all.1 ∙ line-values x

  -- ---- both, or nothing

  pub after-tree : IsTree after.tree
  after-tree = subst (λ (u : Stand). IsTree u.tree) (sym after-is) (either (λ (u : Stand). IsTree u.tree) is_changed block s block-tree i)

  -- whether a key is there stays, or is as told
  abbrev pub HasStayed : Path → Bool → Stand → Type 0
  HasStayed x last u = (is_some (get u.tree x) ≡ is_some (get s.tree x)) ⊎ (is_some (get u.tree x) ≡ last)

  -- keys come on the way alone
  pub after-has : (x : Path) (last : Bool) → (is_within x q ≡ true → last ≡ true) → HasStayed x last after
  after-has x last h =
      subst (HasStayed x last) (sym after-is) (either (HasStayed x last) is_changed block s (by (is_within x q) refl) (inl refl))
    where
      by : (b : Bool) → is_within x q ≡ b → HasStayed x last block
      by true w = inr (block-has x ∙ (line-way x w ∙ sym (h w)))
      by false w = inl (block-has x ∙ line-else x w)

  pub after-made : is_changed ≡ true → is_some (get after.tree q) ≡ true
  after-made e =
      ap (λ (u : Stand). is_some (get u.tree q)) (after-is ∙ ap (λ (b : Bool). cond b block s) e) ∙ (block-has q ∙ line-there)

  -- values change at the key alone
  pub after-else : (x : Path) → is_same x q ≡ false → values_at after.tree x ≡ values_at s.tree x
  after-else x other =
      ap (λ (u : Stand). values_at u.tree x) after-is
      ∙ either (λ (u : Stand). values_at u.tree x ≡ values_at s.tree x) is_changed block s (block-else x other) refl

  pub after-values : (x : Path) → values_at after.tree x ≡ values_at block.tree x
  after-values x = ap (λ (u : Stand). values_at u.tree x) after-is ∙ by is_changed refl
    where
      by : (b : Bool) → is_changed ≡ b → values_at (cond b block s).tree x ≡ values_at block.tree x
      by true e = refl
      by false e =
          let none = (or_parts (not (is_some o)) (list_any (is_told o side) told.key.values) e).1 in
          sym (line-values x) ∙ sym (ap (λ (u : Stand). values_at u.tree x) (none-run moment side o told.key.values line none))
