-- The walk along a path of an image that loads meets no fault, and comes to the key and to the value that its tree has there.
use Rattle.std.proofs.Common.{◌≡◌, ℕ, ◌≤◌, arith, ◌∷◌, Option, Some, None, Ok, List, [], ◌++◌, map, refl, sym, ap, ◌∙◌, subst}
use Rattle.std.specs.Option.{option_map}
use Rattle.std.specs.FinMap.{get, from_entries, get-from_entries}
use Rattle.reg_names.specs.Names.{folded}
use Rattle.reg_heap.specs.Paths.{Path, Rec, Member, path_cmp}
use Rattle.reg_heap.specs.Heaps.{Heap}
use Rattle.reg_heap.specs.Kinds.{times, owned}
use Rattle.reg_heap.specs.Members.{value_named}
use Rattle.reg_records.specs.KeyNodes.{KeyRecord}
use Rattle.reg_shape.proofs.Refinement.SpeltTrees.{path_total}
use Rattle.reg_tree_image.specs.WalkSteps.{Seen, ◌>>=◌, onward, give}
use Rattle.reg_tree_image.specs.LoadingWalk.{root_path, class_from, descriptor_from, values_from, key_from}
use Rattle.reg_tree_image.specs.Images.{nothing, tree_told}
use Rattle.reg_tree_image.proofs.WalkedBack.BackSteps.{ok_is, bind-back, give-back}
use Rattle.reg_tree_image.specs.PathWalk.{Reached, reached_from, key_of_path, value_from, value_reached, value_of_path, value_in_tree}
use Rattle.reg_tree_image.proofs.WalkedBack.PathWalksSteps.{AreFewer, fewer-then, fewer-join}
use Rattle.reg_tree_image.proofs.WalkedBack.PathWalksParts.{repeats-class, repeats-descriptor}
use Rattle.reg_tree_image.proofs.WalkedBack.PathWalksSearch.{IsFoundAs, IsAs, IsAnswer, answer-as}
use Rattle.reg_tree_image.proofs.WalkedBack.PathWalksKeys.{key-walked}
use Rattle.reg_tree_image.proofs.WalkedBack.PathWalksValues.{value-read}

module _ (heap : Heap) (minor : ℕ) where
  module _ (levels root : ℕ) (seen : Seen) (e : key_from heap minor levels [] root_path root nothing ≡ Ok (tt, seen)) where
    -- what a path leads to is just what the tree has there
    pub path-answer : (names : List (List ℕ)) →
        IsAnswer heap minor (key_of_path heap names root nothing) (get (tree_told seen) (map folded names)) (λ c. get (tree_told seen)
        (map folded names ++ c ∷ []))
    path-answer names =
        let w = key-walked heap minor levels [] root_path root nothing tt seen e in
        let a = w.again nothing (record { fewer = λ m. omega arith; keys = λ o. omega arith }) in
        let r = a.onto names in
        let told = λ (q : Path). ap (λ (es : List _). get (from_entries {R = path_cmp} es) q) w.told ∙ get-from_entries path_total (([], w.rec) ∷ w.kids) q in
        answer-as heap minor (key_of_path heap names root nothing) _ _ _ _ (told (map folded names)) (λ c. told (map folded names ++ c ∷ []))
        (record {
          found = r.found;
          after = r.after;
          is = ap (onward (λ (head : KeyRecord × List ℕ). reached_from heap names
              (record { offset = root; key = head.0; name = head.1; above = [] }))) a.named ∙ r.is;
          as_told = r.as_told;
        })

    -- what the tree has right below that key
    abbrev pub children : List (List ℕ) → List ℕ → Option Rec
    children names c = get (tree_told seen) (map folded names ++ c ∷ [])

    -- so whatever it came to is that
    pub path-told : (names : List (List ℕ)) (found : Option Reached) (after : Seen) → key_of_path heap names root nothing ≡ Ok (found, after) →
        IsAs heap minor found (get (tree_told seen) (map folded names)) (children names) after
    path-told names found after is =
        let a = path-answer names in
        let same = ok_is (a.found, a.after) (found, after) (sym a.is ∙ is) in
        subst (λ (q : Option Reached × Seen). IsAs heap minor q.0 (get (tree_told seen) (map folded names)) (children names) q.1) same a.as_told

    -- a key of the tree, as the walk along its path comes to it
    pub record IsReached (names : List (List ℕ)) (rec : Rec) : Type 0 where
      pub at : Reached
      pub after : Seen
      pub walked : key_of_path heap names root nothing ≡ Ok (Some at, after)
      pub as_told : IsFoundAs heap minor at rec (children names) after

    pub path-found : (names : List (List ℕ)) (rec : Rec) → get (tree_told seen) (map folded names) ≡ Some rec → IsReached names rec
    path-found names rec there = let a = path-answer names in by a.found a.after a.is (subst (λ (o : Option Rec). IsAs heap minor a.found o
        (children names) a.after) there a.as_told)
      where
        by : (o : Option Reached) (after : Seen) → key_of_path heap names root nothing ≡ Ok (o, after) → IsAs heap minor o (Some rec)
            (children names) after → IsReached names rec
        by None after is as_told = absurd as_told
        by (Some at) after is as_told = record { at = at; after = after; walked = is; as_told = as_told }

    pub path-none : (names : List (List ℕ)) → get (tree_told seen) (map folded names) ≡ None → (after : Seen) ×
        (key_of_path heap names root nothing ≡ Ok (None, after))
    path-none names gone = let a = path-answer names in by a.found a.after a.is (subst (λ (o : Option Rec). IsAs heap minor a.found o
        (children names) a.after) gone a.as_told)
      where
        by : (o : Option Reached) (after : Seen) → key_of_path heap names root nothing ≡ Ok (o, after) → IsAs heap minor o None (children names) after →
            (after : Seen) × (key_of_path heap names root nothing ≡ Ok (None, after))
        by None after is as_told = (after, is)
        by (Some at) after is as_told = absurd as_told

  -- from where on the values of such a key were read
  pub record AreReadFrom (at : Reached) (rec : Rec) (before later : Seen) : Type 0 where
    pub mid : Seen
    pub more : AreFewer before mid
    pub is : values_from heap minor (at.offset ∷ at.above) at.key.fields.values at.key.fields.values_list mid ≡ Ok (rec.values, later)

  pub values-back : (at : Reached) (rec : Rec) (below : List ℕ → Option Rec) (after : Seen) (f : IsFoundAs heap minor at rec below after) →
      AreReadFrom at rec f.before f.later
  values-back at rec below after f =
      let above = at.offset ∷ at.above in
      let fields = at.key.fields in
      let whole = λ (class : List ℕ) (descriptor : List ℕ) (values : List Member). give (class, descriptor, values) in
      let third = λ (class : List ℕ) (descriptor : List ℕ). values_from heap minor above fields.values fields.values_list >>= whole class descriptor in
      let second = λ (class : List ℕ). descriptor_from heap above fields.security >>= third class in
      let a = bind-back (class_from heap above fields.class_length fields.class) second f.before (rec.class, rec.descriptor, rec.values) f.later f.parts in
      let b = bind-back (descriptor_from heap above fields.security) (third a.first) a.mid (rec.class, rec.descriptor, rec.values) f.later a.then_is in
      let c = bind-back (values_from heap minor above fields.values fields.values_list) (whole a.first b.first) b.mid
      (rec.class, rec.descriptor, rec.values) f.later b.then_is in
      let g = give-back (a.first, b.first, c.first) c.mid (rec.class, rec.descriptor, rec.values) f.later c.then_is in
      let x = repeats-class heap above above fields.class_length fields.class f.before a.first a.mid a.first_is in
      let y = repeats-descriptor heap above above fields.security a.mid b.first b.mid b.first_is in
      record {
        mid = b.mid;
        more = fewer-join f.before a.mid b.mid (fewer-then f.before a.mid x.met (ap (λ (s : Seen). s.found) x.is)) (fewer-then a.mid b.mid y.met (ap (λ
            (s : Seen). s.found) y.is));
        is = c.first_is ∙ (ap (λ (p : List ℕ × List ℕ × List Member). Ok (p.2, c.mid)) g.0 ∙ ap (λ (s : Seen). Ok (rec.values, s)) g.1);
      }

  -- a value of such a key; the path is of keys that were named, each once
  pub value-told : (at : Reached) (rec : Rec) (below : List ℕ → Option Rec) (after : Seen) → IsFoundAs heap minor at rec below after → (path : List ℕ) →
      ((o : ℕ) → times o path ≤ owned o after.found) → (name : List ℕ) →
      (later : Seen) × (value_from heap minor path name at.key.fields.values at.key.fields.values_list after ≡ Ok (value_named name rec.values, later))
  value-told at rec below after f path keys name =
      let r = values-back at rec below after f in
      let v = value-read heap minor (at.offset ∷ at.above) path name at.key.fields.values at.key.fields.values_list r.mid rec.values f.later after r.is
      (record { fewer = fewer-join after f.before r.mid f.fits.fewer r.more; keys = keys }) in
      (v.later, v.is)

  -- the keys above it and its own are such a path
  pub value-here : (at : Reached) (rec : Rec) (below : List ℕ → Option Rec) (after : Seen) (f : IsFoundAs heap minor at rec below after) (name : List ℕ) →
      (later : Seen) × (value_from heap minor (at.offset ∷ at.above) name at.key.fields.values at.key.fields.values_list after ≡ Ok
      (value_named name rec.values, later))
  value-here at rec below after f name = value-told at rec below after f (at.offset ∷ at.above) f.fits.keys name

  -- so the value at a path is just what the tree has there
  pub value-answer : (levels root : ℕ) (seen : Seen) → key_from heap minor levels [] root_path root nothing ≡ Ok (tt, seen) → (names : List (List ℕ))
      (name : List ℕ) →
      (later : Seen) × (value_of_path heap minor names root name nothing ≡ Ok (value_in_tree (tree_told seen) names name, later))
  value-answer levels root seen e names name =
      let a = path-answer levels root seen e names in
      let b = by (λ c. get (tree_told seen) (map folded names ++ c ∷ [])) a.found (get (tree_told seen) (map folded names)) a.after a.as_told in
      (b.0, ap (onward (value_reached heap minor name)) a.is ∙ b.1)
    where
      by : (below : List ℕ → Option Rec) (o : Option Reached) (r : Option Rec) (after : Seen) → IsAs heap minor o r below after →
          (later : Seen) × (value_reached heap minor name o after ≡ Ok (option_map (λ (rec : Rec). value_named name rec.values) r, later))
      by below None None after t = (after, refl)
      by below None (Some rec) after t = absurd t
      by below (Some at) None after t = absurd t
      by below (Some at) (Some rec) after f =
          let v = value-here at rec below after f name in
          (v.0, ap (onward (λ (value : Option Member). give (Some value))) v.1)
