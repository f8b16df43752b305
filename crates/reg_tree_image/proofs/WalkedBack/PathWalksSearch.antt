-- What a walk told of the keys of a list, and what a search for one of them gives.
use Rattle.std.proofs.Common.{◌≡◌, ◌≢◌, ℕ, arith, true, false, Option, Some, None, Result, Ok, List, [], ◌∷◌, ◌++◌, append_assoc, map, refl, sym, ap}
use Rattle.std.proofs.Common.{◌∙◌, subst}
use Rattle.std.specs.List.{AllByRecursion}
use Rattle.std.specs.FinMap.{find}
use Rattle.std.proofs.lemmas.List.{append-nil}
use Rattle.reg_names.specs.Names.{folded}
use Rattle.reg_heap.specs.Paths.{Path, Rec, path_cmp}
use Rattle.reg_heap.specs.Heaps.{Heap}
use Rattle.reg_heap.specs.Edits.{child_path}
use Rattle.reg_heap.specs.Members.{same_name}
use Rattle.reg_records.specs.KeyNodes.{KeyRecord}
use Rattle.reg_shape.specs.Spelt.{marks_of}
use Rattle.reg_tree_image.specs.declared.LoadFault.{LoadFault}
use Rattle.reg_tree_image.specs.WalkSteps.{Seen, Step}
use Rattle.reg_tree_image.specs.LoadingWalk.{is_free, named_key, parts_from}
use Rattle.reg_tree_image.proofs.WalkedBack.BackSteps.{all-both}
use Rattle.reg_tree_image.specs.PathWalk.{Reached, reached_from}
use Rattle.reg_tree_image.proofs.WalkedBack.PathWalksSteps.{AreFewer, Fits, IsAgain, fewer-then, fewer-join}
use Rattle.reg_tree_image.specs.KeyListing.{subkey_names}
use Rattle.reg_tree_image.proofs.WalkedBack.PathWalksTold.{Told, IsUnder, IsUnderOther, find-later, find-first, all-as, child-under, other-none, none-deeper}
use Rattle.reg_tree_image.proofs.WalkedBack.PathWalksTold.{taken-more, taken-here, found-taken, free-other, fold-same, fold-other}
use Rattle.reg_tree_image.proofs.WalkedBack.PathWalksNames.{AreNames, names-as, names-one, names-join}

-- a key that was come to
abbrev pub reached-at : List ℕ → ℕ → KeyRecord × List ℕ → Reached
reached-at path offset head = record { offset = offset; key = head.0; name = head.1; above = path }

-- what a piece of a walk told: keys below a path, of which none is where a key was told before
pub record IsPiece (p : Path) (seen after : Seen) (news : Told) : Type 0 where
  pub told : after.told ≡ seen.told ++ news
  pub more : AreFewer seen after
  pub under : AllByRecursion (IsUnder p) news
  pub apart : (c : List ℕ) → is_free (p ++ c ∷ []) seen.told ≡ false → AllByRecursion (IsUnderOther p c) news

pub piece-none : (p : Path) (seen after : Seen) → seen ≡ after → IsPiece p seen after []
piece-none p seen after e = subst (λ (s : Seen). IsPiece p seen s []) e (record {
  told = sym
      (append-nil seen.told);
  more = λ m. omega arith;
  under = tt;
  apart = λ c t. tt;
})

pub piece-join : (p : Path) (a b c : Seen) (xs ys : Told) → IsPiece p a b xs → IsPiece p b c ys → IsPiece p a c (xs ++ ys)
piece-join p a b c xs ys f g = record {
  told = g.told ∙ (ap (λ (zs : Told). zs ++ ys) f.told ∙ append_assoc a.told xs ys);
  more = fewer-join a b c f.more g.more;
  under = all-both (IsUnder p) xs ys f.under g.under;
  apart = λ d t. all-both (IsUnderOther p d) xs ys (f.apart d t) (g.apart d (ap (is_free (p ++ d ∷ [])) f.told ∙ taken-more (p ++ d ∷ []) a.told xs t));
}

-- what is named before a piece, and nothing told
pub piece-behind : {A : Type 0} (p : Path) (path : List ℕ) (s : Step A) (a : Seen) (y : A) (b c : Seen) (xs : Told) → IsAgain path s a y b →
    IsPiece p b c xs → IsPiece p a c xs
piece-behind p path s a y b c xs i f =
    let same : b.told ≡ a.told = ap (λ (s : Seen). s.told) i.is in
    record {
      told = f.told ∙ ap (λ (zs : Told). zs ++ xs) same;
      more = fewer-join a b c (fewer-then a b i.met (ap (λ (s : Seen). s.found) i.is)) f.more;
      under = f.under;
      apart = λ d t. f.apart d (ap (is_free (p ++ d ∷ [])) same ∙ t);
    }

-- the keys right below a path, each by its folded name
abbrev pub right_below : Path → Told → List ℕ → Option Rec
right_below p news c = find path_cmp (p ++ c ∷ []) news

pub names-pieces : (p : Path) (a b c : Seen) (xs ys : Told) (m n : List (List ℕ)) → IsPiece p a b xs → IsPiece p b c ys → AreNames
    (right_below p xs) m → AreNames (right_below p ys) n →
    AreNames (right_below p (xs ++ ys)) (m ++ n)
names-pieces p a b c xs ys m n f g are more =
    names-join (right_below p xs) (right_below p ys) (right_below p (xs ++ ys)) m n (λ d e. find-later (p ++ d ∷ []) xs ys e)
    (λ d rec e.
    (let none : find path_cmp (p ++ d ∷ []) ys ≡ None =
    other-none p d [] ys (g.apart d (ap (is_free (p ++ d ∷ [])) f.told ∙ found-taken (p ++ d ∷ []) rec a.told xs e)) in
    (find-first (p ++ d ∷ []) xs ys none ∙ e, none))) are more

-- a listing meets no fault, and gives these names behind those before
pub record IsListed (path : List ℕ) (before names : List (List ℕ)) (after : Seen) (r : Result (List (List ℕ) × Seen) LoadFault) : Type 0 where
  pub mid : Seen
  pub is : r ≡ Ok (before ++ names, mid)
  pub fits : Fits path mid after

-- a listing that goes the way of a piece of a walk, behind names that were listed before
pub record AreListed (p : Path) (path : List ℕ) (before : List (List ℕ)) (l : Step (List (List ℕ))) (seen after : Seen) (news : Told) : Type 0 where
  pub names : List (List ℕ)
  pub are : AreNames (right_below p news) names
  pub lists : (now : Seen) → Fits path now seen → IsListed path before names after (l now)

-- the names of just these keys
pub record HasNames (below : List ℕ → Option Rec) (r : Result (List (List ℕ) × Seen) LoadFault) : Type 0 where
  pub names : List (List ℕ)
  pub are : AreNames below names
  pub end : Seen
  pub is : r ≡ Ok (names, end)

module _ (heap : Heap) (minor : ℕ) where
  -- a key that was told, as it was come to; and those right below it
  pub record IsFoundAs (at : Reached) (rec : Rec) (below : List ℕ → Option Rec) (after : Seen) : Type 0 where
    pub before : Seen
    pub later : Seen
    pub fits : Fits (at.offset ∷ at.above) after before
    pub parts : parts_from heap minor (at.offset ∷ at.above) at.key.fields before ≡ Ok ((rec.class, rec.descriptor, rec.values), later)
    pub name : rec.name ≡ at.name
    pub marks : rec.marks ≡ marks_of at.key.fields.flags
    pub time : rec.time ≡ at.key.fields.time
    pub subkeys : (now : Seen) → Fits (at.offset ∷ at.above) now later →
        HasNames below (subkey_names heap (at.offset ∷ at.above) [] at.key.fields.subkeys at.key.fields.subkeys_list now)

  abbrev pub IsAs : Option Reached → Option Rec → (List ℕ → Option Rec) → Seen → Type 0
  IsAs None None below after = Unit {0}
  IsAs None (Some rec) below after = ⊥
  IsAs (Some at) None below after = ⊥
  IsAs (Some at) (Some rec) below after = IsFoundAs at rec below after

  -- a walk along a path meets no fault, and comes to the key that was told there
  pub record IsAnswer (r : Result (Option Reached × Seen) LoadFault) (told : Option Rec) (below : List ℕ → Option Rec) : Type 0 where
    pub found : Option Reached
    pub after : Seen
    pub is : r ≡ Ok (found, after)
    pub as_told : IsAs found told below after

  found-as : (f g : List ℕ → Option Rec) (at : Reached) (rec : Rec) (after : Seen) → ((c : List ℕ) → g c ≡ f c) → IsFoundAs at rec f after →
      IsFoundAs at rec g after
  found-as f g at rec after same a = record {
    before = a.before;
    later = a.later;
    fits = a.fits;
    parts = a.parts;
    name = a.name;
    marks = a.marks;
    time = a.time;
    subkeys = λ now fits. (let h = a.subkeys now fits in record { names = h.names; are = names-as f g h.names h.are same; end = h.end; is = h.is });
  }

  pub answer-as : (r : Result (Option Reached × Seen) LoadFault) (o q : Option Rec) (f g : List ℕ → Option Rec) → q ≡ o → ((c : List ℕ) → g c ≡ f c) →
      IsAnswer r o f → IsAnswer r q g
  answer-as r o q f g e same a =
      subst (λ told. IsAnswer r told g) (sym e) (record { found = a.found; after = a.after; is = a.is; as_told = by a.found o a.as_told })
    where
      by : (at : Option Reached) (rec : Option Rec) → IsAs at rec f a.after → IsAs at rec g a.after
      by None None t = tt
      by None (Some rec) t = absurd t
      by (Some at) None t = absurd t
      by (Some at) (Some rec) t = found-as f g at rec a.after same t

  -- the key that these names lead to below a path, and those right below it, as a piece of the walk told them
  abbrev pub IsAnswerBelow : Result (Option Reached × Seen) LoadFault → Path → List (List ℕ) → Told → Type 0
  IsAnswerBelow r p names news = IsAnswer r (find path_cmp (p ++ map folded names) news) (λ c. find path_cmp (p ++ (map folded names ++ c ∷ [])) news)

  -- what a search among the keys of a piece comes to
  abbrev pub IsSought : Path → List ℕ → List ℕ → Told → Seen → Option Reached → Seen → Type 0
  IsSought p path name news after None mid = Fits path mid after × ((rest : Path) → find path_cmp (p ++ folded name ∷ rest) news ≡ None)
  IsSought p path name news after (Some at) mid = (is_free (p ++ folded name ∷ []) after.told ≡ false)
      × ((names : List (List ℕ)) → IsAnswerBelow (reached_from heap names at mid) p (name ∷ names) news)

  pub record IsSearched (p : Path) (path name : List ℕ) (news : Told) (after : Seen) (r : Result (Option Reached × Seen) LoadFault) : Type 0 where
    pub found : Option Reached
    pub mid : Seen
    pub is : r ≡ Ok (found, mid)
    pub sought : IsSought p path name news after found mid

  -- a piece of a walk, and the search and the listing that go the same way
  pub record AreWalked (p : Path) (path : List ℕ) (s : List ℕ → Step (Option Reached)) (before : List (List ℕ)) (l : Step (List (List ℕ)))
      (seen after : Seen) : Type 0 where
    pub news : Told
    pub listing : AreListed p path before l seen after news
    pub piece : IsPiece p seen after news
    pub search : (name : List ℕ) (now : Seen) → Fits path now seen → IsSearched p path name news after (s name now)

  -- a key and all below it
  pub record IsKeyAgain (path : List ℕ) (here : Path) (offset : ℕ) (head : KeyRecord × List ℕ) (news : Told) (after : Seen) (now : Seen) : Type 0 where
    pub mid : Seen
    pub named : named_key heap path offset now ≡ Ok (head, mid)
    pub fits : Fits path mid after
    pub onto : (names : List (List ℕ)) → IsAnswerBelow (reached_from heap names (reached-at path offset head) mid) here names news

  pub record IsKeyWalked (path : List ℕ) (here : List ℕ → Path) (offset : ℕ) (seen after : Seen) : Type 0 where
    pub head : KeyRecord × List ℕ
    pub rec : Rec
    pub kids : Told
    pub called : rec.name ≡ head.1
    pub told : after.told ≡ seen.told ++ (here head.1, rec) ∷ kids
    pub more : AreFewer seen after
    pub free : is_free (here head.1) seen.told ≡ true
    pub under : AllByRecursion (IsUnder (here head.1)) kids
    pub again : (now : Seen) → Fits path now seen → IsKeyAgain path (here head.1) offset head ((here head.1, rec) ∷ kids) after now

  -- ---- one piece behind another

  pub sought-later : (p : Path) (path name : List ℕ) (xs ys : Told) (after : Seen) (o : Option Reached) (mid : Seen) → ((rest : Path) → find path_cmp
      (p ++ folded name ∷ rest) xs ≡ None) →
      IsSought p path name ys after o mid → IsSought p path name (xs ++ ys) after o mid
  sought-later p path name xs ys after None mid none s = (s.0, λ rest. find-later (p ++ folded name ∷ rest) xs ys (none rest) ∙ s.1 rest)
  sought-later p path name xs ys after (Some at) mid none s = (
    s.0,
    λ names. answer-as (reached_from heap names at mid) _ _ _ _ (find-later (p ++ folded name ∷ map folded names) xs ys (none (map folded names)))
        (λ c. find-later (p ++ folded name ∷ (map folded names ++ c ∷ [])) xs ys (none (map folded names ++ c ∷ []))) (s.1 names),
  )

  pub sought-first : (p : Path) (path name : List ℕ) (xs ys : Told) (b after : Seen) (at : Reached) (mid : Seen) → IsPiece p b after ys →
      IsSought p path name xs b (Some at) mid →
      IsSought p path name (xs ++ ys) after (Some at) mid
  sought-first p path name xs ys b after at mid piece s =
      let none : (rest : Path) → find path_cmp (p ++ folded name ∷ rest) ys ≡ None = λ rest. other-none p (folded name) rest ys (piece.apart
      (folded name) s.0) in (
        ap (is_free (p ++ folded name ∷ [])) piece.told ∙ taken-more (p ++ folded name ∷ []) b.told ys s.0,
        λ names. answer-as (reached_from heap names at mid) _ _ _ _ (find-first (p ++ folded name ∷ map folded names) xs ys (none (map folded names)))
            (λ c. find-first (p ++ folded name ∷ (map folded names ++ c ∷ [])) xs ys (none (map folded names ++ c ∷ []))) (s.1 names),
      )

  -- ---- one key

  module _ (p : Path) (path : List ℕ) (offset : ℕ) (seen after : Seen) (w : IsKeyWalked path (child_path p) offset seen after) where
    abbrev pub news-of : Told
    news-of = (child_path p w.head.1, w.rec) ∷ w.kids

    under-one : AllByRecursion (λ (e : Path × Rec). (rest : Path) × (e.0 ≡ p ++ folded w.head.1 ∷ rest)) news-of
    under-one = (
      ([], refl),
      all-as (IsUnder (child_path p w.head.1)) (λ e. (rest : Path) × (e.0 ≡ p ++ folded w.head.1 ∷ rest))
          (λ e u. (u.0 ∷ u.1, u.2 ∙ child-under p (folded w.head.1) (u.0 ∷ u.1))) w.kids w.under,
    )

    under-apart : (c : List ℕ) → folded w.head.1 ≢ c → AllByRecursion (IsUnderOther p c) news-of
    under-apart c n = all-as (λ e. (rest : Path) × (e.0 ≡ p ++ folded w.head.1 ∷ rest)) (IsUnderOther p c) (λ e u.
        (folded w.head.1, u.0, u.1, n)) news-of under-one

    pub piece-one : IsPiece p seen after news-of
    piece-one = record {
      told = w.told;
      more = w.more;
      under = all-as (λ e. (rest : Path) × (e.0 ≡ p ++ folded w.head.1 ∷ rest)) (IsUnder p) (λ e u. (folded w.head.1, u.0, u.1)) news-of under-one;
      apart = λ c t. under-apart c (free-other p (folded w.head.1) c seen.told w.free t);
    }

    pub sought-one : (name : List ℕ) (now : Seen) → same_name w.head.1 name ≡ true → (a : IsKeyAgain path
        (child_path p w.head.1) offset w.head news-of after now) →
        IsSought p path name news-of after (Some (reached-at path offset w.head)) a.mid
    sought-one name now t a =
        let same : folded w.head.1 ≡ folded name = fold-same w.head.1 name t in
        let at : (rest : Path) → child_path p w.head.1 ++ rest ≡ p ++ folded name ∷ rest = λ rest. child-under p (folded w.head.1) rest ∙ ap (λ
        (c : List ℕ). p ++ c ∷ rest) same in (
          subst (λ (c : List ℕ). is_free (p ++ c ∷ []) after.told ≡ false) same (ap (is_free (child_path p w.head.1)) w.told ∙ taken-here
              (child_path p w.head.1) w.rec seen.told w.kids),
          λ names. answer-as (reached_from heap names (reached-at path offset w.head) a.mid) _ _ _ _
              (ap (λ (q : Path). find path_cmp q news-of) (sym (at (map folded names))))
              (λ c. ap (λ (q : Path). find path_cmp q news-of) (sym (at (map folded names ++ c ∷ [])))) (a.onto names),
        )

    pub none-one : (name : List ℕ) → same_name w.head.1 name ≡ false → (rest : Path) → find path_cmp (p ++ folded name ∷ rest) news-of ≡ None
    none-one name t rest = other-none p (folded name) rest news-of (under-apart (folded name) (fold-other w.head.1 name t))

    -- its name
    pub named-one : AreNames (right_below p news-of) (w.head.1 ∷ [])
    named-one = names-one p w.head.1 w.rec w.kids w.called (λ c. none-deeper p (folded w.head.1) c w.kids w.under)
