-- What the walk along a path of an image that loads reads of the key that it comes to is what its tree has there.
use Rattle.std.proofs.Common.{◌≡◌, ℕ, Option, Some, None, Ok, List, [], ◌∷◌, ◌++◌, map, refl, sym, ap, ◌∙◌}
use Rattle.std.specs.Option.{option_map}
use Rattle.std.specs.FinMap.{get}
use Rattle.reg_names.specs.Names.{folded}
use Rattle.reg_heap.specs.Paths.{Rec, Tree, Member}
use Rattle.reg_heap.specs.Heaps.{Heap}
use Rattle.reg_tree_image.specs.WalkSteps.{Seen, ◌>>=◌, onward, give}
use Rattle.reg_tree_image.specs.LoadingWalk.{root_path, key_from}
use Rattle.reg_tree_image.specs.Images.{nothing, tree_told}
use Rattle.reg_tree_image.specs.PathWalk.{Reached, key_of_path}
use Rattle.reg_tree_image.specs.KeyListing.{KeyRead, subkey_names, key_read, reached_read, key_on_path}
use Rattle.reg_tree_image.specs.KeyListing.{ListedMember, Listing, listed_member, ListsAs}
use Rattle.reg_tree_image.proofs.CleanWalks.CleanSteps.{named_too}
use Rattle.reg_tree_image.proofs.WalkedBack.PathWalksSteps.{Fits, fits-then, fewer-join}
use Rattle.reg_tree_image.proofs.WalkedBack.PathWalksParts.{repeats-values}
use Rattle.reg_tree_image.proofs.WalkedBack.PathWalksNames.{AreNames}
use Rattle.reg_tree_image.proofs.WalkedBack.PathWalksSorted.{sorted-names}
use Rattle.reg_tree_image.proofs.WalkedBack.PathWalksSearch.{IsFoundAs, IsAs}
use Rattle.reg_tree_image.proofs.WalkedBack.PathWalks.{path-answer, children, values-back}

abbrev read_of : List Member → List (List ℕ) → KeyRead
read_of values subkeys = record { values = values; subkeys = subkeys }

abbrev listing_of : List ListedMember → List (List ℕ) → Listing
listing_of values subkeys = record { values = values; subkeys = subkeys }

module _ (heap : Heap) (minor : ℕ) where
  -- a key that was told, read: its values, and the names of the keys right below it
  record IsRead (at : Reached) (rec : Rec) (below : List ℕ → Option Rec) (after : Seen) : Type 0 where
    names : List (List ℕ)
    are : AreNames below names
    later : Seen
    is : key_read heap minor at after ≡ Ok (record { values = rec.values; subkeys = names }, later)

  key-read : (at : Reached) (rec : Rec) (below : List ℕ → Option Rec) (after : Seen) → IsFoundAs heap minor at rec below after → IsRead at rec below after
  key-read at rec below after f =
      let path = at.offset ∷ at.above in
      let fields = at.key.fields in
      let whole = λ (values : List Member) (subkeys : List (List ℕ)). give (read_of values subkeys) in
      let second = λ (values : List Member). subkey_names heap path [] fields.subkeys fields.subkeys_list >>= whole values in
      let r = values-back heap minor at rec below after f in
      let a = repeats-values heap minor path path fields.values fields.values_list r.mid rec.values f.later r.is in
      let fits : Fits path after r.mid = record { fewer = fewer-join after f.before r.mid f.fits.fewer r.more; keys = f.fits.keys } in
      let h = f.subkeys (named_too after a.met) (fits-then path after r.mid f.later a.met a.is fits) in
      record {
        names = h.names;
        are = h.are;
        later = h.end;
        is = ap (onward second) (a.again after fits) ∙ ap (onward (whole rec.values)) h.is;
      }

  -- what was read at a path of a tree
  pub record IsReadAs (tree : Tree) (names : List (List ℕ)) (root : ℕ) : Type 0 where
    pub found : Option KeyRead
    pub later : Seen
    pub is : key_on_path heap minor names root nothing ≡ Ok (found, later)
    pub lists : ListsAs tree names found

  listed-none : (tree : Tree) (names : List (List ℕ)) → get tree (map folded names) ≡ None → ListsAs tree names None
  listed-none tree names gone None l = sym (ap (option_map _) gone)
  listed-none tree names gone (Some listing) l = absurd l

  listed-some : (tree : Tree) (names subkeys : List (List ℕ)) (rec : Rec) → get tree (map folded names) ≡ Some rec →
      AreNames (λ c. get tree (map folded names ++ c ∷ [])) subkeys → ListsAs tree names (Some (record { values = rec.values; subkeys = subkeys }))
  listed-some tree names subkeys rec there are None l = absurd l
  listed-some tree names subkeys rec there are (Some listing) l =
      ap (λ values. Some (listing_of values listing.subkeys)) l.values
      ∙ (ap (λ (sorted : List (List ℕ)). Some (listing_of (map listed_member rec.values) sorted))
      (sorted-names tree (map folded names) subkeys listing.subkeys are l.subkeys)
      ∙ sym (ap (option_map _) there))

  pub key-answer : (levels root : ℕ) (seen : Seen) → key_from heap minor levels [] root_path root nothing ≡ Ok (tt, seen) → (names : List (List ℕ)) →
      IsReadAs (tree_told seen) names root
  key-answer levels root seen e names =
      let a = path-answer heap minor levels root seen e names in by a.found a.after a.is (get (tree_told seen) (map folded names)) refl a.as_told
    where
      by : (o : Option Reached) (after : Seen) → key_of_path heap names root nothing ≡ Ok (o, after) → (r : Option Rec) → get (tree_told seen)
          (map folded names) ≡ r →
          IsAs heap minor o r (children heap minor levels root seen e names) after → IsReadAs (tree_told seen) names root
      by None after is None there t =
          record { found = None; later = after; is = ap (onward (reached_read heap minor)) is; lists = listed-none (tree_told seen) names there }
      by None after is (Some rec) there t = absurd t
      by (Some at) after is None there t = absurd t
      by (Some at) after is (Some rec) there f =
          let k = key-read at rec (children heap minor levels root seen e names) after f in
          record {
            found = Some (record { values = rec.values; subkeys = k.names });
            later = k.later;
            is = ap (onward (reached_read heap minor)) is ∙ ap (onward (λ (key : KeyRead). give (Some key))) k.is;
            lists = listed-some (tree_told seen) names k.names rec there k.are;
          }
