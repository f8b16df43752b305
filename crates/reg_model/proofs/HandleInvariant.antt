-- The keys that handles lead to stand in the tree.
use Rattle.std.proofs.Common.{◌≡◌, ℕ, Bool, true, false, cond, not, eqb, unwrap_or, List, [], ◌∷◌, ◌++◌, map, Option, Some, None, refl, sym, subst, append_assoc, is_some, length, ◌==◌}
use Rattle.std.specs.Prelude.{IsSome}
use Rattle.std.specs.List.{AllByRecursion, slice_split, onto_first}
use Rattle.std.specs.Ordering.{eq_by_cmp}
use Rattle.std.specs.Cmp.{IsTotalOrder}
use Rattle.std.specs.Cmp.Lexicographic.{lists_total, nat_list_cmp_total}
use Rattle.std.specs.FinMap.{get, insert, get-insert, get-remove, retain_keys}
use Rattle.std.proofs.lemmas.List.{append-nil}
use Rattle.std.proofs.lemmas.Cmp.{eq_by_cmp_equiv}
use Rattle.std.proofs.lemmas.List.Elements.{recursion_from_All}
use Rattle.reg_names.specs.Names.{folded, path_of, is_path, is_backslash}
use Rattle.reg_heap.specs.Paths.{Path, Tree, Rec, path_cmp}
use Rattle.reg_heap.specs.Edits.{edited, at_time, above, with_key, with_keys, without_key, has_child, child_path, made_key, descriptor_of, if_last, folded_path}
use Rattle.reg_heap.specs.Edits.{is_within, is_under, without_tree, without_values, has_contents, emptied}
use Rattle.reg_heap.proofs.DeletedTrees.{get-past, get-without_tree}
use Rattle.reg_model.specs.Worlds.{World, Handle, Destination, At, Deleted, StandsIn, IsStanding, look, numbered, owned, path_at, path_from, closed, same_path, opened, after}
use Rattle.reg_model.specs.Worlds.{turned, destination_past, turned_past, without_branch, without_contents}
use Rattle.reg_model.specs.Causes.{State, is_bad_target}
use Rattle.reg_model.specs.declared.call.Change.{Change}
use Rattle.reg_model.specs.declared.call.Change.TheVariants.{OpenRoot, OpenKey, CreateKey, SetValue, DeleteValue, DeleteKey, DeleteTree, SetSecurity, Notify, Close}
use Rattle.reg_model.specs.declared.reply.Entry.{Entry}
use Rattle.reg_model.specs.Causes.{change_cause}
use Rattle.reg_model.proofs.AcceptedCalls.{Target, target-path, both_false, OpenMet, open-met, CreateMet, create-met, DeleteMet, delete-met}

abbrev pub Has : Tree → Path → Type 0
Has t p = IsSome (get t p)

pub path_total : IsTotalOrder path_cmp
path_total = lists_total nat_list_cmp_total

-- ---- a key that is there stays there

some-either : (b : Bool) (x : Rec) (o : Option Rec) → is_some o ≡ true → is_some (cond b (Some x) o) ≡ true
some-either true x o h = refl
some-either false x o h = h

pub has-insert : (t : Tree) (p : Path) (r : Rec) (q : Path) → Has t q → Has (insert t p r) q
has-insert t p r q h = rw (get-insert path_total t p r q) (some-either (eq_by_cmp path_cmp q p) r (get t q) h)

pub has-edited : (t : Tree) (p : Path) (f : Rec → Rec) (q : Path) → Has t q → Has (edited t p f) q
has-edited t p f q h =
    elim (get t p) as (λ (o : Option Rec). Has (elim o as (λ _. Tree) [ None ↦ t | Some r ↦ insert t p (f r) ]) q) [ None ↦ h | Some r ↦ has-insert t p (f r) q h ]

has-with_key : (t : Tree) (p : Path) (name : List ℕ) (given : Option (List ℕ)) (moment : ℕ) (q : Path) → Has t q → Has (with_key t p name given moment) q
has-with_key t p name given moment q h =
    has-insert (edited t p (at_time moment)) (child_path p name)
    (made_key name (unwrap_or given (descriptor_of (get t p))) moment) q (has-edited t p (at_time moment) q h)

has-step : (b : Bool) (t : Tree) (p : Path) (name : List ℕ) (given : Option (List ℕ)) (moment : ℕ) (q : Path) → Has t q → Has (cond b t (with_key t p name given moment)) q
has-step true t p name given moment q h = h
has-step false t p name given moment q h = has-with_key t p name given moment q h

pub has-with_keys : (t : Tree) (p : Path) (names : List (List ℕ)) (given : Option (List ℕ)) (moment : ℕ) (q : Path) → Has t q → Has (with_keys t p names given moment) q
has-with_keys t p [] given moment q h = h
has-with_keys t p (name ∷ names) given moment q h =
    has-with_keys (cond (has_child t p name) t (with_key t p name (if_last names given) moment)) (child_path p name) names given moment q
    (has-step (has_child t p name) t p name (if_last names given) moment q h)

pub same-self : (p : Path) → eq_by_cmp path_cmp p p ≡ true
same-self p = let o = eq_by_cmp_equiv path_total in o.refl p

pub has-put : (t : Tree) (p : Path) (r : Rec) → Has (insert t p r) p
has-put t p r = rw (get-insert path_total t p r p, same-self p) refl

has-child : (b : Bool) (t : Tree) (p : Path) (name : List ℕ) (given : Option (List ℕ)) (moment : ℕ) → has_child t p name ≡ b →
    Has (cond b t (with_key t p name given moment)) (child_path p name)
has-child true t p name given moment h = h
has-child false t p name given moment h =
    has-put (edited t p (at_time moment)) (child_path p name) (made_key name (unwrap_or given (descriptor_of (get t p))) moment)

-- the last of some keys made is there
pub has-made : (t : Tree) (p : Path) (names : List (List ℕ)) (given : Option (List ℕ)) (moment : ℕ) → Has t p → Has (with_keys t p names given moment) (p ++ map folded names)
has-made t p [] given moment h = subst (Has t) (sym (append-nil p)) h
has-made t p (name ∷ names) given moment h =
    let next = cond (has_child t p name) t (with_key t p name (if_last names given) moment) in
    subst (Has (with_keys next (child_path p name) names given moment)) (append_assoc p (folded name ∷ []) (map folded names))
    (has-made next (child_path p name) names given moment (has-child (has_child t p name) t p name (if_last names given) moment refl))

pub has-without : (t : Tree) (p : Path) (moment : ℕ) (q : Path) → same_path q p ≡ false → Has t q → Has (without_key t p moment) q
has-without t p moment q other h =
    rw (get-remove path_total (edited t (above p) (at_time moment)) p q, other) (has-edited t (above p) (at_time moment) q h)

pub has-without_tree : (t : Tree) (p : Path) (moment : ℕ) (q : Path) → is_within p q ≡ false → Has t q → Has (without_tree t p moment) q
has-without_tree t p moment q other h =
    rw (get-without_tree t p moment q, other) (has-edited t (above p) (at_time moment) q h)

pub has-emptied : (t : Tree) (p : Path) (moment : ℕ) (q : Path) → is_under p q ≡ false → Has t q → Has (emptied t p moment) q
has-emptied t p moment q other h = by (has_contents t p)
  where
    by : (b : Bool) → Has (cond b (retain_keys (edited t p (without_values moment)) (λ (x : Path). not (is_under p x))) t) q
    by true = rw (get-past (edited t p (without_values moment)) (is_under p) q, other) (has-edited t p (without_values moment) q h)
    by false = h

-- ---- where handles lead

abbrev pub Stands : Tree → List Handle → Type 0
Stands t hs = AllByRecursion (λ (h : Handle). StandsIn t h.destination) hs

destination-kept : (t u : Tree) → ((q : Path) → Has t q → Has u q) → (destination : Destination) → StandsIn t destination → StandsIn u destination
destination-kept t u k (At q) s = k q s
destination-kept t u k Deleted s = tt

stands-kept : (t u : Tree) → ((q : Path) → Has t q → Has u q) → (hs : List Handle) → Stands t hs → Stands u hs
stands-kept t u k [] s = tt
stands-kept t u k (h ∷ hs) s = (destination-kept t u k h.destination s.0, stands-kept t u k hs s.1)

stands-push : (t : Tree) (hs : List Handle) (h : Handle) → StandsIn t h.destination → Stands t hs → Stands t (hs ++ h ∷ [])
stands-push t [] h new s = (new, tt)
stands-push t (x ∷ hs) h new s = (s.0, stands-push t hs h new s.1)

stands-cond : (b : Bool) (t : Tree) (h : Handle) (hs : List Handle) → StandsIn t h.destination → Stands t hs → Stands t (cond b (h ∷ hs) hs)
stands-cond true t h hs one s = (one, s)
stands-cond false t h hs one s = s

stands-closed : (t : Tree) (number : ℕ) (hs : List Handle) → Stands t hs → Stands t (closed number hs)
stands-closed t number [] s = tt
stands-closed t number (h ∷ hs) s = stands-cond (not (eqb h.number number)) t h (closed number hs) s.0 (stands-closed t number hs s.1)

-- once the keys that pass a test are gone, and no other, the handles that were on them lead nowhere
module _ (t u : Tree) (gone : Path → Bool) (stay : (q : Path) → gone q ≡ false → Has t q → Has u q) where
  destination-past : (destination : Destination) → StandsIn t destination → StandsIn u (destination_past gone destination)
  destination-past (At q) h = by (gone q) refl
    where
      by : (b : Bool) → gone q ≡ b → StandsIn u (cond b Deleted (At q))
      by true e = tt
      by false e = stay q e h
  destination-past Deleted h = tt

  stands-past : (hs : List Handle) → Stands t hs → Stands u (turned_past gone hs)
  stands-past [] s = tt
  stands-past (h ∷ hs) s = (destination-past h.destination s.0, stands-past hs s.1)

-- the handle that is found stands
numbered-stands : (b : Bool) (t : Tree) (number : ℕ) (h : Handle) (hs : List Handle) (found : Handle) → StandsIn t h.destination →
    (numbered number hs ≡ Some found → StandsIn t found.destination) → cond b (Some h) (numbered number hs) ≡ Some found → StandsIn t found.destination
numbered-stands true t number h hs found one rest e = subst (λ (o : Option Handle). StandsIn t (elim o as (λ _. Destination) [ None ↦ Deleted | Some x ↦ x.destination ])) e one
numbered-stands false t number h hs found one rest e = rest e

pub stands-numbered : (t : Tree) (number : ℕ) (hs : List Handle) (found : Handle) → Stands t hs → numbered number hs ≡ Some found → StandsIn t found.destination
stands-numbered t number [] found s e = absurd (cc)
stands-numbered t number (h ∷ hs) found s e =
    numbered-stands (eqb h.number number) t number h hs found s.0 (stands-numbered t number hs found s.1) e

owned-some : (session : ℕ) (o : Option Handle) (found : Handle) → owned session o ≡ Some found → o ≡ Some found
owned-some session None found e = absurd (cc)
owned-some session (Some h) found e = by (eqb h.session session) e
  where
    by : (b : Bool) → cond b (Some h) None ≡ Some found → Some h ≡ Some found
    by true e = e
    by false e = absurd (cc)

-- the key of a handle that leads to one is there
pub stands-at : (t : Tree) (session number : ℕ) (hs : List Handle) (target : Target (look session number hs)) → Stands t hs → Has t target.path
stands-at t session number hs target s =
    subst (StandsIn t) target.destination (stands-numbered t number hs target.handle s (owned-some session (numbered number hs) target.handle target.found))

-- the same of a world whose handles all stand
pub target-there : (t : Tree) (session number : ℕ) (hs : List Handle) (handle : Handle) (path : Path) → look session number hs ≡ Some handle →
    handle.destination ≡ At path → IsStanding t hs → Has t path
target-there t session number hs handle path found destination s =
    stands-at t session number hs (record { handle = handle; path = path; found = found; destination = destination }) (recursion_from_All (λ (h : Handle). StandsIn t h.destination) hs s.stand)

-- ---- the root stays

not_empty : (p : Path) → (name : List ℕ) (names : Path) → same_path [] (p ++ name ∷ names) ≡ false
not_empty [] name names = refl
not_empty (x ∷ p) name names = refl

parted : (p : ℕ → Bool) (xs : List ℕ) → (name : List ℕ) × (names : List (List ℕ)) × (slice_split p xs ≡ name ∷ names)
parted p [] = ([], [], refl)
parted p (x ∷ xs) = by (p x)
  where
    first : (parts : List (List ℕ)) → (name : List ℕ) × (names : List (List ℕ)) × (onto_first x parts ≡ name ∷ names)
    first [] = (x ∷ [], [], refl)
    first (y ∷ ys) = (x ∷ y, ys, refl)

    by : (b : Bool) → (name : List ℕ) × (names : List (List ℕ)) × (cond b ([] ∷ slice_split p xs) (onto_first x (slice_split p xs)) ≡ name ∷ names)
    by true = ([], slice_split p xs, refl)
    by false = first (slice_split p xs)

-- a key at the end of a path that isn't empty isn't the root
pub path-below : (p : Path) (text : List ℕ) → (length text == 0) ≡ false → same_path [] (p ++ folded_path text) ≡ false
path-below p [] some = absurd (cc)
path-below p (b ∷ bs) some =
    let parts = parted is_backslash (b ∷ bs) in
    subst (λ (names : List (List ℕ)). same_path [] (p ++ map folded names) ≡ false) (sym parts.2) (not_empty p (folded parts.0) (map folded parts.1))

-- so a key that may be deleted isn't
pub target-below : (p : Path) (text : List ℕ) → is_bad_target text ≡ false → same_path [] (p ++ folded_path text) ≡ false
target-below p text good = path-below p text (both_false (not (is_path text)) (length text == 0) good).1

-- and it isn't below such a key
pub root-without : (p : Path) → same_path [] p ≡ false → is_within p [] ≡ false
root-without [] other = absurd (cc)
root-without (name ∷ p) other = refl

-- the root is below no path
pub root-not_under : (p : Path) → is_under p [] ≡ false
root-not_under [] = refl
root-not_under (name ∷ p) = refl

-- ---- after an accepted change

pub record Upright (t : Tree) (hs : List Handle) : Type 0 where
  pub root : Has t []
  pub stand : Stands t hs

-- what holds of two worlds holds of either
pub in-either : (P : World → Type 0) (b : Bool) (v w : World) → P v → P w → P (cond b v w)
in-either P true v w p q = p
in-either P false v w p q = q

abbrev UprightIn : World → Type 0
UprightIn w = Upright w.tree w.handles

module _ (s : State) (e : Entry) (r : Upright s.world.tree s.world.handles) where
  abbrev tree : Tree
  tree = s.world.tree

  abbrev hs : List Handle
  hs = s.world.handles

  standing-open : (h : ℕ) (path : List ℕ) (mask : ℕ) → OpenMet s e.session h path mask → Upright tree (hs ++ opened e (path_from e.session h hs path) mask ∷ [])
  standing-open h path mask m = record { root = r.root; stand = stands-push tree hs (opened e (path_from e.session h hs path) mask) m.there r.stand }

  standing-create : (h : ℕ) (path : List ℕ) (mask : ℕ) (given : Option (List ℕ)) → CreateMet s e.session h path mask given →
      Upright (with_keys tree (path_at e.session h hs) (path_of path) given e.moment) (hs ++ opened e (path_from e.session h hs path) mask ∷ [])
  standing-create h path mask given m =
      let p = path_at e.session h hs in
      let there : Has tree p = subst (Has tree) (sym (target-path e.session h hs m.target)) (stands-at tree e.session h hs m.target r.stand) in
      let now = with_keys tree p (path_of path) given e.moment in
      let keep : (q : Path) → Has tree q → Has now q = has-with_keys tree p (path_of path) given e.moment in
      record {
        root = keep [] r.root;
        stand = stands-push now hs (opened e (path_from e.session h hs path) mask)
            (has-made tree p (path_of path) given e.moment there) (stands-kept tree now keep hs r.stand);
      }

  standing-edit : (p : Path) (f : Rec → Rec) → Upright (edited tree p f) hs
  standing-edit p f = record { root = has-edited tree p f [] r.root; stand = stands-kept tree (edited tree p f) (has-edited tree p f) hs r.stand }

  standing-delete : (h : ℕ) (path : List ℕ) → DeleteMet s e.session h path → Upright (without_key tree (path_from e.session h hs path) e.moment) (turned (path_from e.session h hs path) hs)
  standing-delete h path m =
      let p = path_from e.session h hs path in
      record {
        root = has-without tree p e.moment [] (target-below (path_at e.session h hs) path m.good) r.root;
        stand = stands-past tree (without_key tree p e.moment) (λ (q : Path). same_path q p) (has-without tree p e.moment) hs r.stand;
      }

  standing-branch : (h : ℕ) (path : List ℕ) → (length path == 0) ≡ false →
      Upright (without_tree tree (path_from e.session h hs path) e.moment) (turned_past (is_within (path_from e.session h hs path)) hs)
  standing-branch h path longer =
      let p = path_from e.session h hs path in
      record {
        root = has-without_tree tree p e.moment [] (root-without p (path-below (path_at e.session h hs) path longer)) r.root;
        stand = stands-past tree (without_tree tree p e.moment) (is_within p) (has-without_tree tree p e.moment) hs r.stand;
      }

  standing-contents : (h : ℕ) → Upright (emptied tree (path_at e.session h hs) e.moment) (turned_past (is_under (path_at e.session h hs)) hs)
  standing-contents h =
      let p = path_at e.session h hs in
      record {
        root = has-emptied tree p e.moment [] (root-not_under p) r.root;
        stand = stands-past tree (emptied tree p e.moment) (is_under p) (has-emptied tree p e.moment) hs r.stand;
      }

  standing-tree : (h : ℕ) (path : List ℕ) (b : Bool) → (length path == 0) ≡ b →
      UprightIn (cond b (without_contents s.world (path_at e.session h hs) e.moment) (without_branch s.world (path_from e.session h hs path) e.moment))
  standing-tree h path true e = standing-contents h
  standing-tree h path false e = standing-branch h path e

  -- what stands in a world stands in the one after an accepted change
  pub standing-after : (c : ℕ) → change_cause s e.session e.change c ≡ None → Upright (after s.world e).tree (after s.world e).handles
  unfolding after
  standing-after c = elim e.change as (λ (change : Change). change_cause s e.session change c ≡ None →
      Upright (after s.world (record e { change = change })).tree (after s.world (record e { change = change })).handles) [
        | OpenRoot mask ↦ λ none. record { root = r.root; stand = stands-push tree hs (opened e [] mask) r.root r.stand }
        | OpenKey h path mask ↦ λ none. standing-open h path mask (open-met s e.session h path mask c none)
        | CreateKey h path mask given ↦ λ none. standing-create h path mask given (create-met s e.session h path mask given c none)
        | SetValue h name kind bytes ↦ λ none. standing-edit (path_at e.session h hs) _
        | DeleteValue h name ↦ λ none. standing-edit (path_at e.session h hs) _
        | DeleteKey h path ↦ λ none. standing-delete h path (delete-met s e.session h path c none)
        | DeleteTree h path ↦ λ none. standing-tree h path (length path == 0) refl
        | SetSecurity h descriptor ↦ λ none. standing-edit (path_at e.session h hs) _
        | Notify h filter subtree ↦ λ none. r
        | Close h ↦ λ none. record { root = r.root; stand = stands-closed tree h hs r.stand }
      ]
