-- A walk over a tree's keys, step by step.
use Rattle.std.proofs.Common.{◌≡◌, ℕ, zero, suc, ◌+◌, ◌≤◌, ◌<◌, Bool, true, false, cond, List, [], ◌∷◌, ◌++◌, length, take, drop, reverse, get_or, Option, Some, None, refl, sym, ap, ◌∙◌, subst, arith, append_assoc, append-nil, length-append}
use Rattle.std.specs.Prelude.{filter, nat_lt, nat_le, ◌&&◌, IfOk, Result, Ok, Err}
use Rattle.std.specs.FinMap.{get, keys}
use Rattle.std.proofs.lemmas.List.{drop_more, drop_all, take-append-le, take_all, length-take-le, reverse-append}
use Rattle.std.proofs.lemmas.Bool.{and_parts}
use Rattle.std.proofs.lemmas.Bool.Decides.{nat_tests}
use Rattle.std.specs.List.{list_all}
use Rattle.reg_names.specs.declared.TheConstants.{KEY_NAME_LIMIT, PATH_LIMIT}
use Rattle.reg_names.specs.Names.{text_of, is_key_name, is_key_name_byte}
use Rattle.reg_heap.specs.Paths.{Path, Tree, Rec, is_child, children_of}
use Rattle.reg_heap.proofs.ChildrenOfPath.{named}
use Rattle.reg_tree.specs.declared.node.Node.{Node}
use Rattle.reg_tree.specs.declared.node.Subkey.{Subkey}
use Rattle.reg_tree.specs.TreeKeys.{Keys, IsAt}
use Rattle.reg_tree.specs.SubkeyWalk.{IsSubkeyAt}
use Rattle.reg_tree_text.specs.declared.walk.Pending.{Pending}
use Rattle.reg_tree_text.specs.declared.walk.Walk.{Walk}
use Rattle.reg_tree_text.specs.DumpTexts.{Told, name_of, told_here, told_from}
use Rattle.reg_tree_text.specs.Internal.Walking.{text_below, told_below, IsPending, ArePending, IsNoted, Goes, Stands, Advances}

-- ---- texts of paths

pub text-below : (names : List (List ℕ)) (name : List ℕ) → text_of (names ++ name ∷ []) ≡ text_below (length names) (text_of names) name
text-below [] name = refl
text-below (x ∷ []) name = sym (append_assoc x (92 ∷ []) name)
text-below (x ∷ y ∷ names) name =
    ap (λ (w : List ℕ). x ++ (92 ∷ w)) (text-below (y ∷ names) name)
    ∙ (sym (append_assoc x (92 ∷ text_of (y ∷ names) ++ 92 ∷ []) name)
    ∙ ap (λ (w : List ℕ). w ++ name) (sym (append_assoc x (92 ∷ text_of (y ∷ names)) (92 ∷ []))))

-- what stands before a name goes by whether there's any
below-same : (m n : ℕ) (front name : List ℕ) → (m ≡ 0 → n ≡ 0) → (n ≡ 0 → m ≡ 0) → text_below m front name ≡ text_below n front name
below-same zero zero front name a b = refl
below-same zero (suc n) front name a b = absurd (omega (arith, a refl))
below-same (suc m) zero front name a b = absurd (omega (arith, b refl))
below-same (suc m) (suc n) front name a b = refl

below-some : (n : ℕ) (front name : List ℕ) → length name ≤ length (text_below n front name)
below-some zero front name = omega (arith, length-append front name)
below-some (suc n) front name = omega (arith, length-append (front ++ 92 ∷ []) name)

no-text : (names : List (List ℕ)) → length names ≡ 0 → length (text_of names) ≡ 0
no-text [] e = refl
no-text (x ∷ names) e = absurd (omega (arith, e))

-- the name of a key isn't empty
pub name-some : (name : List ℕ) → is_key_name name ≡ true → 0 < length name
name-some name is =
    let parts = and_parts (list_all is_key_name_byte name && nat_lt 0 (length name)) (nat_le (length name) KEY_NAME_LIMIT) is in
    let some = (and_parts (list_all is_key_name_byte name) (nat_lt 0 (length name)) parts.0).1 in
    grind (arith, nat_tests, some)

take-again : (m n : ℕ) (xs ys : List ℕ) → m ≤ n → n ≤ length ys → take n xs ≡ take n ys → take m xs ≡ take m ys
take-again zero n xs ys l f e = refl
take-again (suc m) zero xs ys l f e = absurd (omega (arith, l))
take-again (suc m) (suc n) xs [] l f e = absurd (omega (arith, f))
take-again (suc m) (suc n) [] (y ∷ ys) l f e = absurd (cc)
take-again (suc m) (suc n) (x ∷ xs) (y ∷ ys) l f e =
    let same : ◌≡◌ {A = List ℕ} (x ∷ take n xs) (y ∷ take n ys) = e in
    let first : x ≡ y = cc in
    let others : take n xs ≡ take n ys = cc in
    ap (λ (z : ℕ). z ∷ take m xs) first ∙ ap (λ (w : List ℕ). y ∷ w) (take-again m n xs ys (omega (arith, l)) (omega (arith, f)) others)

-- the front of a text, below which a name was added, stays
below-front : (depth front : ℕ) (text name : List ℕ) → front ≤ length text →
    take front (text_below depth (take front text) name) ≡ take front text
below-front zero front text name l =
    let n = length-take-le front text l in
    take-append-le front (take front text) name (omega (arith, n)) ∙ take_all front (take front text) (omega (arith, n))
below-front (suc depth) front text name l =
    let n = length-take-le front text l in
    let m = length-append (take front text) (92 ∷ []) in
    take-append-le front (take front text ++ 92 ∷ []) name (omega (arith, n, m))
    ∙ (take-append-le front (take front text) (92 ∷ []) (omega (arith, n)) ∙ take_all front (take front text) (omega (arith, n)))

below-long : (depth front : ℕ) (text name : List ℕ) → front ≤ length text → front ≤ length (text_below depth (take front text) name)
below-long zero front text name l =
    let n = length-take-le front text l in let m = length-append (take front text) name in omega (arith, n, m)
below-long (suc depth) front text name l =
    let n = length-take-le front text l in
    let m = length-append (take front text) (92 ∷ []) in
    let k = length-append (take front text ++ 92 ∷ []) name in
    omega (arith, n, m, k)

-- ---- a key and those below it

pub told-open : (levels : ℕ) (tree : Tree) (names : List (List ℕ)) (path : Path) →
    told_from (suc levels) tree names path ≡ told_here names (get tree path) ++ told_below levels tree names (children_of tree path)
unfolding told_from
told-open levels tree names path = refl

kept : (test : Path → Bool) (k : Path) (rest : List Path) (b : Bool) → test k ≡ b →
    ((i : ℕ) → i < length rest → test (get_or rest i []) ≡ true) → (index : ℕ) →
    index < length (cond b (k ∷ rest) rest) → test (get_or (cond b (k ∷ rest) rest) index []) ≡ true
kept test k rest true e h zero l = e
kept test k rest true e h (suc index) l = h index (omega (arith, l))
kept test k rest false e h index l = h index l

-- what a filter keeps passes its test
passes : (test : Path → Bool) (ks : List Path) (index : ℕ) → index < length (filter test ks) →
    test (get_or (filter test ks) index []) ≡ true
passes test [] index l = absurd (omega (arith, l))
passes test (k ∷ ks) index l = kept test k (filter test ks) (test k) refl (passes test ks) index l

-- a child's path is one name longer
child-long : (tree : Tree) (path : Path) (index : ℕ) → index < length (children_of tree path) →
    length (get_or (children_of tree path) index []) ≡ length path + 1
child-long tree path index l =
    let c = named path (get_or (children_of tree path) index []) (passes (is_child path) (keys tree) index l) in
    ap length c.1 ∙ length-append path (c.0 ∷ [])

-- ---- what is still to come

pending-kept : (keys : Keys) (text new : List ℕ) (p : Pending) (rest : List Told) → take p.front new ≡ take p.front text →
    p.front ≤ length new →
    IsPending keys text p rest → IsPending keys new p rest
pending-kept keys text new p rest e l s =
    record {
      path = s.path;
      names = s.names;
      levels = s.levels;
      index = s.index;
      place = s.place;
      at = s.at;
      subkey = s.subkey;
      within = l;
      text_is = e ∙ s.text_is;
      rest_is = s.rest_is;
    }

all-kept : (keys : Keys) (text new : List ℕ) (bound higher : ℕ) (ps : List Pending) (rest : List Told) →
    take bound new ≡ take bound text → bound ≤ length text →
    bound ≤ length new → bound ≤ higher → ArePending keys text bound ps rest → ArePending keys new higher ps rest
all-kept keys text new bound higher [] rest e t l h a = a
all-kept keys text new bound higher (p ∷ ps) rest e t l h a =
    let here = take-again p.front bound new text a.3 t e in (
      a.0,
      a.1,
      pending-kept keys text new p a.0 here (omega (arith, a.3, l)) a.2,
      omega (arith, a.3, h),
      all-kept keys text new p.front p.front ps a.1 here (omega (arith, a.3, t)) (omega (arith, a.3, l)) (omega arith) a.4,
      a.5,
    )

-- those that are noted behind a pending one
module _ (keys : Keys) (text new : List ℕ) (p : Pending) (here more : List Told) (s : IsPending keys text p here) (ps : List Pending)
    (a : ArePending keys text p.front ps more) (e : take p.front new ≡ take p.front text) (l : p.front ≤ length new) where
  abbrev children : List Path
  children = children_of keys.tree s.path

  abbrev siblings : List Told
  siblings = told_below s.levels keys.tree s.names (drop (s.index + 1) children)

  pub noted : (noted : List Pending) → IsNoted keys s.path s.index p ps noted → ArePending keys new (length new) noted (siblings ++ more)
  noted qs (None, (i, same)) =
      let none : siblings ≡ [] = ap (told_below s.levels keys.tree s.names) (drop_all (s.index + 1) children (omega (arith, i))) in
      subst (λ (qs : List Pending). ArePending keys new (length new) qs (siblings ++ more)) (sym same)
      (subst (λ (rest : List Told). ArePending keys new (length new) ps rest) (sym (ap (λ (x : List Told). x ++ more) none))
      (all-kept keys text new p.front (length new) ps more e s.within l l a))
  noted qs (Some subkey, (is, same)) =
      subst (λ (qs : List Pending). ArePending keys new (length new) qs (siblings ++ more)) (sym same) (
        siblings,
        more,
        record {
          path = s.path;
          names = s.names;
          levels = s.levels;
          index = s.index + 1;
          place = s.place;
          at = s.at;
          subkey = is;
          within = l;
          text_is = e ∙ s.text_is;
          rest_is = refl;
        },
        l,
        all-kept keys text new p.front p.front ps more e s.within l (omega arith) a,
        refl,
      )

-- ---- the key that it goes to

above-zero : (n : ℕ) → 0 < n → (m : ℕ) × (n ≡ suc m)
above-zero zero l = absurd (omega (arith, l))
above-zero (suc n) l = (n, refl)

module _ (keys : Keys) (text : List ℕ) (p : Pending) (here more : List Told) (s : IsPending keys text p here) (ps : List Pending)
    (a : ArePending keys text p.front ps more) (r : Rec) (key : get keys.tree (get_or (children_of keys.tree s.path) s.index []) ≡ Some r)
    (shallow : length (get_or (children_of keys.tree s.path) s.index []) ≤ PATH_LIMIT) (some : 0 < length r.name) where
  abbrev child : Path
  child = get_or (children_of keys.tree s.path) s.index []

  abbrev told : Told
  told = record { names = s.names ++ r.name ∷ []; key = r }

  long-child : length child ≡ length s.path + 1
  long-child = child-long keys.tree s.path s.index s.subkey.within

  lower : (l : ℕ) × (s.levels ≡ suc l)
  lower = let d = s.place.deep in above-zero s.levels (omega (arith, d, long-child, shallow))

  abbrev below : List Told
  below = told_below lower.0 keys.tree told.names (children_of keys.tree child)

  abbrev beside : List Told
  beside = told_below s.levels keys.tree s.names (drop (s.index + 1) (children_of keys.tree s.path))

  first : told_from s.levels keys.tree (s.names ++ name_of (get keys.tree child) ∷ []) child ≡ told ∷ below
  first =
      ap (λ (n : ℕ). told_from n keys.tree (s.names ++ name_of (get keys.tree child) ∷ []) child) lower.1
      ∙ (told-open lower.0 keys.tree (s.names ++ name_of (get keys.tree child) ∷ []) child
      ∙ ap (λ (o : Option Rec). told_here (s.names ++ name_of o ∷ []) o ++ told_below lower.0 keys.tree (s.names ++ name_of o ∷ [])
      (children_of keys.tree child)) key)

  all_is : here ++ more ≡ told ∷ (below ++ (beside ++ more))
  all_is =
      ap (λ (x : List Told). x ++ more)
      (s.rest_is
      ∙ (ap (told_below s.levels keys.tree s.names) (drop_more (children_of keys.tree s.path) s.index [] s.subkey.within)
      ∙ ap (λ (x : List Told). x ++ beside) first))
      ∙ ap (λ (x : List Told). told ∷ x) (append_assoc below beside more)

  front_long : p.front ≡ length (text_of s.names)
  front_long = let n = length-take-le p.front text s.within in let t = ap length s.text_is in omega (arith, n, t)

  no_names : p.front ≡ 0 → length s.names ≡ 0
  no_names e = s.place.long (omega (arith, e, front_long))

  no_front : length s.names ≡ 0 → p.front ≡ 0
  no_front e = omega (arith, no-text s.names e, front_long)

  some_text : length (text_of told.names) ≡ 0 → length told.names ≡ 0
  some_text e =
      let t = ap length (text-below s.names r.name) in
      let b = below-some (length s.names) (text_of s.names) r.name in
      absurd (omega (arith, e, t, b, some))

  pub entered : (walk : Walk) (name : List ℕ) → name ≡ r.name → walk.node ≡ p.subkey.node →
      walk.path.items ≡ text_below p.front (take p.front text) name →
      IsNoted keys s.path s.index p ps (reverse walk.pending.items) → Goes keys walk (here ++ more)
  entered walk name named node path_is next =
      let w = s.within in
      let d = s.place.deep in
      let l = long-child in
      let lw = lower.1 in
      let front : take p.front walk.path.items ≡ take p.front text = ap (take p.front) path_is ∙
      below-front p.front p.front text name w in
      let fits : p.front ≤ length walk.path.items = subst (λ (x : List ℕ). p.front ≤ length x) (sym path_is)
      (below-long p.front p.front text name w) in
      let text_is : walk.path.items ≡ text_of told.names =
      path_is
      ∙ (below-same p.front (length s.names) (take p.front text) name no_names no_front
      ∙ (ap (λ (x : List ℕ). text_below (length s.names) x name) s.text_is
      ∙ (ap (λ (x : List ℕ). text_below (length s.names) (text_of s.names) x) named ∙ sym (text-below s.names r.name)))) in
      record {
        told = told;
        rest = below ++ (beside ++ more);
        all_is = all_is;
        stands = record {
          path = child;
          levels = lower.0;
          more = beside ++ more;
          place = record { deep = omega (arith, d, l, lw); long = some_text };
          at = subst (λ (n : Node). IsAt keys child n) (sym node) s.subkey.at;
          key = key;
          text = text_is;
          pending = noted keys text walk.path.items p here more s ps a front fits (reverse walk.pending.items) next;
          rest_is = refl;
        };
      }

-- ---- on to the next key

-- the first subkey of the key at which a walk stands, and with it all below that key
pub first_pending : (keys : Keys) (walk : Walk) (here : Told) (rest : List Told) (s : Stands keys walk here rest) (subkey : Subkey)
    (front : ℕ) →
    front ≡ length walk.path.items → IsSubkeyAt keys s.path walk.node 0 subkey →
    IsPending keys walk.path.items (record { parent = walk.node; subkey = subkey; front = front })
    (told_below s.levels keys.tree here.names (children_of keys.tree s.path))
first_pending keys walk here rest s subkey front f is =
    record {
      path = s.path;
      names = here.names;
      levels = s.levels;
      index = 0;
      place = s.place;
      at = s.at;
      subkey = is;
      within = omega (arith, f);
      text_is = take_all front walk.path.items (omega (arith, f)) ∙ s.text;
      rest_is = refl;
    }

pub goes_below : (keys : Keys) (walk new : Walk) (here : Told) (rest : List Told) (s : Stands keys walk here rest) →
    Goes keys new (told_below s.levels keys.tree here.names (children_of keys.tree s.path) ++ s.more) → Goes keys new rest
goes_below keys walk new here rest s g = subst (λ (x : List Told). Goes keys new x) (sym s.rest_is) g

-- no subkey: what is to come is what is pending
pub only_more : (keys : Keys) (walk : Walk) (here : Told) (rest : List Told) (s : Stands keys walk here rest) →
    children_of keys.tree s.path ≡ [] → rest ≡ s.more
only_more keys walk here rest s none = s.rest_is ∙ ap (λ (x : List Path). told_below s.levels keys.tree here.names x ++ s.more) none

pub popped : (keys : Keys) (text : List ℕ) (bound : ℕ) (old new : List Pending) (p : Pending) (more : List Told) → old ≡ new ++ p ∷ [] →
    ArePending keys text bound (reverse old) more → ArePending keys text bound (p ∷ reverse new) more
popped keys text bound old new p more e a =
    subst (λ (x : List Pending). ArePending keys text bound x more) (ap reverse e ∙ reverse-append new (p ∷ [])) a

none-there : (ps : List Pending) → length ps ≡ 0 → ps ≡ []
none-there [] e = refl
none-there (p ∷ ps) e = absurd (omega (arith, e))

pub none_pending : (keys : Keys) (text : List ℕ) (bound : ℕ) (old new : List Pending) (more : List Told) → old ≡ new ++ [] →
    length new ≡ 0 →
    ArePending keys text bound (reverse old) more → more ≡ []
none_pending keys text bound old new more e l a =
    subst (λ (x : List Pending). ArePending keys text bound (reverse x) more) (e ∙ (append-nil new ∙ none-there new l)) a

pub goes_on : (keys : Keys) (new : Walk) (here more rest : List Told) → rest ≡ here ++ more → Goes keys new (here ++ more) →
    Goes keys new rest
goes_on keys new here more rest e g = subst (λ (x : List Told). Goes keys new x) (sym e) g

-- what is pending where the key at which a walk stands is one of them
pub pending_from : (keys : Keys) (walk : Walk) (here : Told) (rest : List Told) (s : Stands keys walk here rest) (front : ℕ) →
    front ≡ length walk.path.items →
    ArePending keys walk.path.items front (reverse walk.pending.items) s.more
pending_from keys walk here rest s front e =
    subst (λ (n : ℕ). ArePending keys walk.path.items n (reverse walk.pending.items) s.more) (sym e) s.pending

pub advances : (keys : Keys) (new : Walk) (moved : Bool) (rest more : List Told) → rest ≡ more → Advances keys new more moved →
    Advances keys new rest moved
advances keys new moved rest more e a = subst (λ (x : List Told). Advances keys new x moved) (sym e) a

pub if_advances : {E : Type 0} (keys : Keys) (new : Walk) (result : Result Bool E) (rest more : List Told) → rest ≡ more →
    IfOk result (λ moved. Advances keys new more moved) →
    IfOk result (λ moved. Advances keys new rest moved)
if_advances keys new (Ok moved) rest more e a = advances keys new moved rest more e a
if_advances keys new (Err fault) rest more e a = a
