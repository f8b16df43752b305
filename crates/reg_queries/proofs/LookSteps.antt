-- What was found along a path of an image, told: the lines of a key, one by one, and that a key's text, or a value's, is that of the tree.
use Rattle.std.proofs.Common.{◌≡◌, ℕ, ◌+◌, ◌<◌, ◌≤◌, List, [], ◌∷◌, ◌++◌, map, drop, get_or, length, Bool, true, Option, Some, None, Ok, refl, sym, ap, ◌∙◌, subst}
use Rattle.std.specs.Prelude.{Vec, flat_map, ◌&&◌, is_some, if◌then◌else◌}
use Rattle.std.specs.FinMap.{get}
use Rattle.std.specs.Option.{option_map, option_and_then}
use Rattle.std.specs.Io.KnownBytes.{Appends}
use Rattle.std.proofs.lemmas.List.{drop_all, drop_more}
use Rattle.std.proofs.lemmas.Option.{same_Some}
use Rattle.std.proofs.lemmas.List.Folds.{flat_map-map}
use Rattle.reg_names.specs.Names.{is_path, path_of}
use Rattle.reg_heap.specs.Paths.{Path, Rec, Tree, Member, children_of}
use Rattle.reg_heap.specs.Edits.{folded_path, values_at, values_of}
use Rattle.reg_heap.specs.Members.{value_named}
use Rattle.reg_tree_image.specs.Images.{loaded}
use Rattle.reg_tree_image.specs.declared.path_listing.ListedValue.{ListedValue}
use Rattle.reg_tree_image.specs.KeysAtPaths.{listed_in, names_in}
use Rattle.reg_tree_image.specs.KeyListing.{Listing, listed_member, name_found, names_below}
use Rattle.reg_tree_image.specs.PathLoads.{ListsThere, FindsThere}
use Rattle.reg_tree_text.specs.DumpTexts.{name_of}
use Rattle.reg_tree_text.specs.Listings.{key_line, value_lines, list_text}
use Rattle.reg_tree_text.specs.PathQueries.{key_at, value_at, shown, IsTold}
use Rattle.reg_tree_text.specs.Internal.Gathered.{WriterState, IsSoFar}
use Rattle.reg_tree_text.proofs.SentTexts.{opened, swapped, ends}
use Rattle.reg_queries.specs.Queries.{IsFoundTold}
use Rattle.reg_queries.specs.KeyQueries.{member_line, listing_lines, IsKeyTold}

-- ---- lines, one by one

module _ {X Y : Type 0} (line : Y → List ℕ) (of : X → Y) (begin now : WriterState) (whole : List ℕ) (items : List X) (index : ℕ) where
  -- the line of the next one is told
  pub line-next : (item blank : X) (left gathered : List ℕ) (written : ℕ) → index < length items → item ≡ get_or items index blank →
      IsSoFar begin now whole (flat_map line (map of (drop index items)) ++ left) gathered written →
      IsSoFar begin now whole (line (of item) ++ (flat_map line (map of (drop (index + 1) items)) ++ left)) gathered written
  line-next item blank left gathered written l e s =
      opened begin now whole (line (of item)) (flat_map line (map of (drop (index + 1) items))) left gathered written
      (swapped begin now whole _ (line (of item) ++ flat_map line (map of (drop (index + 1) items))) left gathered written s
      (ap (λ (x : X). flat_map line (map of (x ∷ drop (index + 1) items))) e
      ∙ sym (ap (λ (xs : List X). flat_map line (map of xs)) (drop_more items index blank l))))

  -- none is left
  pub lines-end : (left gathered : List ℕ) (written : ℕ) → length items ≤ index →
      IsSoFar begin now whole (flat_map line (map of (drop index items)) ++ left) gathered written →
      IsSoFar begin now whole left gathered written
  lines-end left gathered written l s =
      ends begin now whole _ left gathered written s (ap (λ (xs : List X). flat_map line (map of xs)) (drop_all index items l))

abbrev listing_with : {Y : Type 0} → List ListedValue → List (Vec ℕ Y) → Listing
listing_with values names = record { values = map listed_in values; subkeys = names_in names }

-- a key that was found is listed by slices of what it has
pub found-listing : {Y : Type 0} (values slice : List ListedValue) (names slices : List (Vec ℕ Y)) → slice ≡ values → slices ≡ names →
    Some (listing_with values names) ≡ Some (listing_with slice slices)
found-listing {Y} values slice names slices v n =
    ap (λ (vs : List ListedValue). Some (listing_with vs names)) (sym v)
    ∙ ap (λ (ns : List (Vec ℕ Y)). Some (listing_with slice ns)) (sym n)

-- ---- those of a tree's key

name-same : (key : Option Rec) → name_found key ≡ name_of key
name-same None = refl
name-same (Some key) = refl

names-same : (tree : Tree) (children : List Path) →
    flat_map key_line (map (λ child. name_found (get tree child)) children) ≡ flat_map (λ child. key_line (name_of (get tree child))) children
names-same tree [] = refl
names-same tree (child ∷ children) =
    ap (λ (line : List ℕ). line ++ flat_map key_line (map (λ child. name_found (get tree child)) children))
    (ap key_line (name-same (get tree child)))
    ∙ ap (λ (lines : List ℕ). key_line (name_of (get tree child)) ++ lines) (names-same tree children)

list-same : (tree : Tree) (path : Path) (key : Rec) → get tree path ≡ Some key →
    listing_lines (map listed_member key.values) (names_below tree path) ≡ list_text tree path
unfolding list_text
list-same tree path key here =
    ap (λ (lines : List ℕ). lines ++ flat_map key_line (names_below tree path))
    (flat_map-map member_line listed_member key.values ∙ sym (ap (λ (o : Option Rec). value_lines (values_of o)) here))
    ∙ ap (λ (lines : List ℕ). value_lines (values_at tree path) ++ lines) (names-same tree (children_of tree path))

module _ (tree : Tree) (path : List ℕ) (is : is_path path ≡ true) (before after : Option (List ℕ)) where
  key-found : (key : Rec) → get tree (folded_path path) ≡ Some key → key_at tree path ≡ Some (folded_path path)
  key-found key here =
      ap (λ (b : Bool). if b then Some (folded_path path) else None)
      (ap (λ (b : Bool). b && is_some (get tree (folded_path path))) is ∙ ap (λ (o : Option Rec). is_some o) here)

  abbrev listing_of : Rec → Listing
  listing_of key = record { values = map listed_member key.values; subkeys = names_below tree (folded_path path) }

  told-found : (found : Option Rec) → get tree (folded_path path) ≡ found → (listing : Listing) → Some listing ≡ option_map listing_of found →
      Appends before after (listing_lines listing.values listing.subkeys) → IsTold (key_at tree path) (list_text tree) before after
  told-found None here listing e told = let bad : Some listing ≡ None = e in cc
  told-found (Some key) here listing e told =
      let same : listing ≡ listing_of key = same_Some _ _ e in (
        folded_path path,
        key-found key here,
        subst (λ (text : List ℕ). Appends before after text)
            (ap (λ (l : Listing). listing_lines l.values l.subkeys) same ∙ list-same tree (folded_path path) key here) told,
      )

  -- where the image loads, what was written is the text of that key of its tree
  pub told-as-loaded : (unread left : Option (List ℕ)) (found : Option Listing) (lists : ListsThere unread left (path_of path) found) →
      IsKeyTold found before after → loaded lists.finds.image ≡ Ok tree → IsTold (key_at tree path) (list_text tree) before after
  told-as-loaded unread left found lists told loads =
      let is_listed = lists.finds.as_loaded tree loads found lists.listed in
      told-found (get tree (folded_path path)) refl told.0 (sym told.1 ∙ is_listed) told.2

  module _ (name : List ℕ) (is_raw : Bool) where
    value-found : (found : Option Rec) → get tree (folded_path path) ≡ found → (value : Member) →
        Some (Some value) ≡ option_map (λ key. value_named name key.values) found → Appends before after (shown is_raw value) →
        IsTold (value_at tree path name) (shown is_raw) before after
    value-found None here value e told = let bad : Some (Some value) ≡ None = e in cc
    value-found (Some key) here value e told = (
      value,
      ap (option_and_then (λ (p : Path). value_named name (values_at tree p))) (key-found key here)
          ∙ (ap (λ (o : Option Rec). value_named name (values_of o)) here ∙ sym (same_Some _ _ e)),
      told,
    )

    -- where the image loads, what was written is that value of its tree
    pub value-as-loaded : (unread left : Option (List ℕ)) (found : Option (Option Member))
        (finds : FindsThere unread left (path_of path) name found) → IsFoundTold found is_raw before after → loaded finds.image ≡ Ok tree →
        IsTold (value_at tree path name) (shown is_raw) before after
    value-as-loaded unread left found finds told loads =
        value-found (get tree (folded_path path)) refl told.0 (sym told.1 ∙ finds.as_loaded tree loads) told.2
