-- Keys side by side, and the lists that name them.
use Rattle.std.proofs.Common.{◌≡◌, ◌≢◌, ℕ, zero, suc, ◌+◌, ◌<◌, ◌≤◌, nat_lt, Bool, true, false, cond, Some, None, List, [], ◌∷◌, ◌++◌, append_assoc, length, length-append, take, drop, flat_map, refl}
use Rattle.std.proofs.Common.{sym, ap, ◌∙◌, subst, arith}
use Rattle.std.specs.List.{AllByRecursion}
use Rattle.std.proofs.lemmas.Bool.Decides.{nat_tests}
use Rattle.std.proofs.lemmas.List.{append-nil}
use Rattle.reg_heap.specs.Heaps.{Heap}
use Rattle.reg_heap.specs.Paths.{Path}
use Rattle.reg_heap.specs.Kinds.{Kind, Found}
use Rattle.reg_records.specs.SubkeyLists.{Entry, Form, SubkeysList, form_of, list_as, list_of, offsets_in}
use Rattle.reg_records.specs.Letters.{is_signed}
use Rattle.reg_shape.specs.Walk.{kind_met}
use Rattle.reg_shape.specs.Nodes.Index.{Listed, Rooted}
use Rattle.reg_records.specs.declared.lists.ListForm.TheVariants.{IndexRoot, IndexLeaf, FastLeaf, HashLeaf}
use Rattle.reg_heap.specs.Kinds.Kind.{Leaf, SubList}
use Rattle.reg_shape.specs.Written.{Pairwise}
use Rattle.reg_shape.specs.Internal.Shapes.{joined, lists_met, index_met}
use Rattle.reg_shape.specs.Nodes.{KeyList, Index, key_list_as, list_at, key_list_at, key_lists_at, index_as, index_at, entries_of}
use Rattle.reg_shape.proofs.Walking.IndexWalks.{then-open, map-open}
use Rattle.std.specs.Option.{option_map}
use Rattle.std.proofs.lemmas.Option.{same_Some, none-some}
use Rattle.reg_tree_image.specs.declared.LoadFault.TheVariants.{Limit, Record}
use Rattle.reg_tree_image.specs.WalkSteps.{Step, ◌>>=◌, ◌>>◌, onward, give, check, given, cell}
use Rattle.reg_tree_image.specs.LoadingWalk.{keys_each, lists_each, leaf_as, leaf_from, list_from, listed_as, subkeys_from}
use Rattle.reg_tree_image.proofs.CleanWalks.CleanSteps.{Reads, reads-give, reads-bind, reads-given, reads-one, reads-cell}
use Rattle.reg_tree_image.proofs.CleanWalks.CleanKeys.{Keys, Goes, goes-give, goes-after, goes-bind, goes-as, Clear, clear-append, Under}

-- a key that is walked: its folded name, what it names and what it tells
pub record Child : Type 0 where
  pub name : List ℕ
  pub trace : List Found
  pub told : Keys

abbrev pub path_of_child : Path → Child → Path
path_of_child here c = here ++ c.name ∷ []

abbrev pub traces_of : List Child → List (List Found)
traces_of [] = []
traces_of (c ∷ cs) = c.trace ∷ traces_of cs

abbrev pub told_of : List Child → Keys
told_of [] = []
told_of (c ∷ cs) = c.told ++ told_of cs

-- nothing told is at or below one of these
abbrev pub AllClear : Path → List Child → Keys → Type 0
AllClear here [] told = Unit {0}
AllClear here (c ∷ cs) told = Clear (path_of_child here c) told × AllClear here cs told

abbrev pub Differ : Child → Child → Type 0
Differ a b = a.name ≢ b.name

abbrev pub head-of : Path → List ℕ
head-of [] = []
head-of (x ∷ p) = x

abbrev pub tail-of : Path → Path
tail-of [] = []
tail-of (x ∷ p) = p

same-name : (p : Path) (a b : List ℕ) (r q : Path) → (p ++ a ∷ []) ++ r ≡ (p ++ b ∷ []) ++ q → a ≡ b
same-name [] a b r q e = ap head-of e
same-name (x ∷ p) a b r q e = same-name p a b r q (ap tail-of e)

under-clear : (here : Path) (a b : List ℕ) (told : Keys) → a ≢ b → Under (here ++ a ∷ []) told → Clear (here ++ b ∷ []) told
under-clear here a b [] n u = tt
under-clear here a b (e ∷ told) n u = ((λ r x. n (same-name here a b u.0.0 r (sym u.0.1 ∙ x))), under-clear here a b told n u.1)

all-after : (here : Path) (c : Child) (cs : List Child) (told : Keys) → AllByRecursion (Differ c) cs → Under (path_of_child here c) c.told → AllClear here cs told → AllClear here cs (told ++ c.told)
all-after here c [] told d u a = tt
all-after here c (k ∷ cs) told d u a = (clear-append (path_of_child here k) told c.told a.0 (under-clear here c.name k.name c.told d.0 u), all-after here c cs told d.1 u a.1)

few-are : (n : ℕ) → n < 60000 → nat_lt n 60000 ≡ true
few-are n l = grind (arith, nat_tests)

all-front : {A : Type 0} (P : A → Type 0) (xs ys : List A) → AllByRecursion P (xs ++ ys) → AllByRecursion P xs
all-front P [] ys a = tt
all-front P (x ∷ xs) ys a = (a.0, all-front P xs ys a.1)

take-front : {A : Type 0} (n : ℕ) (xs ys : List A) → n ≡ length xs → take n (xs ++ ys) ≡ xs
take-front zero [] ys e = refl
take-front zero (x ∷ xs) ys e = absurd (omega arith)
take-front (suc n) [] ys e = absurd (omega arith)
take-front (suc n) (x ∷ xs) ys e = ap (λ zs. x ∷ zs) (take-front n xs ys (omega arith))

pub drop-front : {A : Type 0} (n : ℕ) (xs ys : List A) → n ≡ length xs → drop n (xs ++ ys) ≡ ys
drop-front zero [] ys e = refl
drop-front zero (x ∷ xs) ys e = absurd (omega arith)
drop-front (suc n) [] ys e = absurd (omega arith)
drop-front (suc n) (x ∷ xs) ys e = drop-front n xs ys (omega arith)

-- ---- forms

abbrev pub is_root : Form → Bool
is_root IndexRoot = true
is_root IndexLeaf = false
is_root FastLeaf = false
is_root HashLeaf = false

test-some : {A : Type 0} (b : Bool) (x y : A) → cond b (Some x) None ≡ Some y → x ≡ y
test-some true x y e = same_Some _ _ e
test-some false x y e = absurd (none-some _ e)

list-form : (form : Form) (content : List ℕ) (list : SubkeysList) → list_as form content ≡ Some list → list.form ≡ form
list-form IndexRoot content list e = sym (ap (λ (l : SubkeysList). l.form) (test-some _ _ list e))
list-form IndexLeaf content list e = sym (ap (λ (l : SubkeysList). l.form) (test-some _ _ list e))
list-form FastLeaf content list e = sym (ap (λ (l : SubkeysList). l.form) (test-some _ _ list e))
list-form HashLeaf content list e = sym (ap (λ (l : SubkeysList). l.form) (test-some _ _ list e))

forms : (a b c d : Bool) (form : Form) → cond a (Some IndexRoot) (cond b (Some IndexLeaf) (cond c (Some FastLeaf) (cond d (Some HashLeaf) None))) ≡ Some form → a ≡ is_root form
forms true b c d form e = ap is_root (same_Some _ _ e)
forms false true c d form e = ap is_root (same_Some _ _ e)
forms false false true d form e = ap is_root (same_Some _ _ e)
forms false false false true form e = ap is_root (same_Some _ _ e)
forms false false false false form e = absurd (none-some _ e)

-- an index root is what begins with `ri`
pub root-signed : (content : List ℕ) (list : SubkeysList) → list_of content ≡ Some list → is_signed 114 105 content ≡ is_root list.form
unfolding list_of
root-signed content list e =
    let o = then-open (λ form. list_as form content) (form_of content) list e in
    forms (is_signed 114 105 content) (is_signed 108 105 content) (is_signed 108 102 content) (is_signed 108 104 content) o.0 o.1
    ∙ ap is_root (sym (list-form o.0 content list o.2))

-- a leaf is read
abbrev past : ℕ → List ℕ → Step SubkeysList
past offset content = do
  list ← given Record (list_of content)
  leaf_as list.form
  give list

key-list-is : (offset : ℕ) (list : SubkeysList) (form : Form) (kl : KeyList) → key_list_as offset list form ≡ Some kl → (form ≢ IndexRoot) × (record { offset = offset; list = list } ≡ kl)
key-list-is offset list IndexRoot kl e = absurd (none-some _ e)
key-list-is offset list IndexLeaf kl e = ((λ x. absurd (cc)), same_Some _ _ e)
key-list-is offset list FastLeaf kl e = ((λ x. absurd (cc)), same_Some _ _ e)
key-list-is offset list HashLeaf kl e = ((λ x. absurd (cc)), same_Some _ _ e)

leaf-passes : (form : Form) → form ≢ IndexRoot → (path : List ℕ) → Reads path (leaf_as form) tt []
leaf-passes IndexRoot n path = absurd (n refl)
leaf-passes IndexLeaf n path = reads-give path tt
leaf-passes FastLeaf n path = reads-give path tt
leaf-passes HashLeaf n path = reads-give path tt

leaf-reads : (heap : Heap) (path : List ℕ) (offset : ℕ) (kl : KeyList) → key_list_at heap offset ≡ Some kl →
    (list : SubkeysList) × (record { offset = offset; list = list } ≡ kl) × Reads path (leaf_from heap path offset) list (record { kind = Leaf; offset = offset } ∷ [])
leaf-reads heap path offset kl e =
    let k = then-open (λ (list : SubkeysList). key_list_as offset list list.form) (list_at heap offset) kl e in
    let c = then-open list_of (heap offset) k.0 k.1 in
    let q = key-list-is offset k.0 k.0.form kl k.2 in (
      k.0,
      q.1,
      reads-bind path (cell heap path (λ _. Leaf) offset) (past offset) c.0 k.0 (record { kind = Leaf; offset = offset } ∷ []) []
          (reads-cell heap path (λ _. Leaf) offset c.0 c.1)
          (reads-given path Record (list_of c.0) (λ list. leaf_as list.form >> give list) k.0 k.0 [] c.2
          (reads-bind path (leaf_as k.0.form) (λ _. give k.0) tt k.0 [] [] (leaf-passes k.0.form q.0 path) (reads-give path k.0))),
    )

module _ (go : ℕ → Step (Unit {0})) (path : List ℕ) (here : Path) where
  -- each entry's key is walked as this child
  abbrev pub AreChildren : List Entry → List Child → Type 0
  AreChildren [] [] = Unit {0}
  AreChildren [] (c ∷ cs) = ⊥
  AreChildren (e ∷ es) [] = ⊥
  AreChildren (e ∷ es) (c ∷ cs) = Goes path (Clear (path_of_child here c)) (go e.offset) tt c.trace c.told × Under (path_of_child here c) c.told × AreChildren es cs

  abbrev pub counted : ℕ → List Entry → ℕ
  counted n [] = n
  counted n (e ∷ es) = counted (suc n) es

  pub each-goes : (n : ℕ) (es : List Entry) (cs : List Child) → AreChildren es cs → Pairwise Differ cs → n + length es ≤ 60000 →
      Goes path (AllClear here cs) (keys_each go n es) (counted n es) (joined (traces_of cs)) (told_of cs)
  each-goes n [] [] a d l = goes-give path (AllClear here []) n
  each-goes n [] (c ∷ cs) a d l = absurd a
  each-goes n (e ∷ es) [] a d l = absurd a
  each-goes n (e ∷ es) (c ∷ cs) a d l = λ seen f w.
      ap (λ b. onward (λ _. go e.offset >> keys_each go (suc n) es) (check Limit b seen)) (few-are n (omega arith))
      ∙ goes-bind path (AllClear here (c ∷ cs)) (AllClear here cs) (go e.offset) (λ _. keys_each go (suc n) es) tt (counted (suc n) es) c.trace (joined (traces_of cs)) c.told (told_of cs)
      (λ seen f w. a.0 seen f w.0) (λ told w. all-after here c cs told d.0 a.1 w.1)
      (each-goes (suc n) es cs a.2 d.1 (omega arith)) seen f w

  split-children : (es fs : List Entry) (cs : List Child) → AreChildren (es ++ fs) cs → (front : List Child) × (back : List Child) × (cs ≡ front ++ back) × AreChildren es front × AreChildren fs back
  split-children [] fs cs a = ([], cs, refl, tt, a)
  split-children (e ∷ es) fs [] a = absurd a
  split-children (e ∷ es) fs (c ∷ cs) a =
      let r = split-children es fs cs a.2 in
      (c ∷ r.0, r.1, ap (λ ks. c ∷ ks) r.2, (a.0, a.1, r.3), r.4)

  as-many : (es : List Entry) (cs : List Child) → AreChildren es cs → length es ≡ length (traces_of cs)
  as-many [] [] a = refl
  as-many [] (c ∷ cs) a = absurd a
  as-many (e ∷ es) [] a = absurd a
  as-many (e ∷ es) (c ∷ cs) a = ap suc (as-many es cs a.2)

  many-after : (front back : List Child) (es : List Entry) (told : Keys) → AreChildren es front → Pairwise Differ (front ++ back) → AllClear here (front ++ back) told →
      AllClear here back (told ++ told_of front)
  many-after [] back es told a d w = subst (AllClear here back) (sym (append-nil told)) w
  many-after (c ∷ front) back [] told a d w = absurd a
  many-after (c ∷ front) back (e ∷ es) told a d w =
      subst (AllClear here back) (append_assoc told c.told (told_of front))
      (many-after front back es (told ++ c.told) a.2 d.1 (all-after here c (front ++ back) told d.0 a.1 w.1))

  clear-front : (front back : List Child) (told : Keys) → AllClear here (front ++ back) told → AllClear here front told
  clear-front [] back told w = tt
  clear-front (c ∷ front) back told w = (w.0, clear-front front back told w.1)

  pair-front : {A : Type 0} (R : A → A → Type 0) (xs ys : List A) → Pairwise R (xs ++ ys) → Pairwise R xs
  pair-front R [] ys p = tt
  pair-front R (x ∷ xs) ys p = (all-front (R x) xs ys p.0, pair-front R xs ys p.1)

  pair-back : {A : Type 0} (R : A → A → Type 0) (xs ys : List A) → Pairwise R (xs ++ ys) → Pairwise R ys
  pair-back R [] ys p = p
  pair-back R (x ∷ xs) ys p = pair-back R xs ys p.1

  traces-append : (front back : List Child) → traces_of (front ++ back) ≡ traces_of front ++ traces_of back
  traces-append [] back = refl
  traces-append (c ∷ front) back = ap (λ ts. c.trace ∷ ts) (traces-append front back)

  told-append : (front back : List Child) → told_of (front ++ back) ≡ told_of front ++ told_of back
  told-append [] back = refl
  told-append (c ∷ front) back = ap (λ ts. c.told ++ ts) (told-append front back) ∙ sym (append_assoc c.told (told_of front) (told_of back))

  counted-is : (n : ℕ) (es : List Entry) → counted n es ≡ n + length es
  counted-is n [] = omega arith
  counted-is n (e ∷ es) = let r = counted-is (suc n) es in omega arith

  -- ---- the lists of an index root

  module _ (heap : Heap) where
    -- one list, and the others
    one-list : (n : ℕ) (offset : ℕ) (list : SubkeysList) (es : List Entry) (lists : List KeyList) (front back : List Child) →
        Reads path (leaf_from heap path offset) list (record { kind = Leaf; offset = offset } ∷ []) → AreChildren list.entries front → Pairwise Differ (front ++ back) →
        n + length list.entries ≤ 60000 → Goes path (AllClear here back) (lists_each heap go path (counted n list.entries) es) tt (lists_met lists (traces_of back)) (told_of back) →
        Goes path (AllClear here (front ++ back)) (leaf_from heap path offset >>= (λ list. keys_each go n list.entries >>= (λ m. lists_each heap go path m es))) tt
        (lists_met (record { offset = offset; list = list } ∷ lists) (traces_of (front ++ back))) (told_of (front ++ back))
    one-list n offset list es lists front back leaf a d l rest =
        let C = AllClear here (front ++ back) in
        let k = as-many list.entries front a in
        goes-as path C (leaf_from heap path offset >>= (λ list. keys_each go n list.entries >>= (λ m. lists_each heap go path m es))) tt
        (record { kind = Leaf; offset = offset } ∷ (joined (traces_of front) ++ lists_met lists (traces_of back))) _
        (told_of front ++ told_of back) _
        (sym (ap (λ ts. record { kind = Leaf; offset = offset } ∷ (joined (take (length list.entries) ts) ++ lists_met lists (drop (length list.entries) ts))) (traces-append front back)
        ∙ (ap (λ ts. record { kind = Leaf; offset = offset } ∷ (joined ts ++ lists_met lists (drop (length list.entries) (traces_of front ++ traces_of back))))
        (take-front (length list.entries) (traces_of front) (traces_of back) k)
        ∙ ap (λ ts. record { kind = Leaf; offset = offset } ∷ (joined (traces_of front) ++ lists_met lists ts)) (drop-front (length list.entries) (traces_of front) (traces_of back) k))))
        (sym (told-append front back))
        (goes-after path C (leaf_from heap path offset) (λ list. keys_each go n list.entries >>= (λ m. lists_each heap go path m es)) list tt (record { kind = Leaf; offset = offset } ∷ [])
        (joined (traces_of front) ++ lists_met lists (traces_of back)) (told_of front ++ told_of back) leaf
        (goes-bind path C (AllClear here back) (keys_each go n list.entries) (λ m. lists_each heap go path m es) (counted n list.entries) tt (joined (traces_of front))
        (lists_met lists (traces_of back)) (told_of front) (told_of back)
        (λ seen f w. each-goes n list.entries front a (pair-front Differ front back d) l seen f (clear-front front back seen.told w))
        (λ told w. many-after front back list.entries told a d w)
        rest))

    pub lists-goes : (n : ℕ) (es : List Entry) (lists : List KeyList) (cs : List Child) → key_lists_at heap (offsets_in es) ≡ Some lists →
        AreChildren (flat_map (λ (l : KeyList). l.list.entries) lists) cs → Pairwise Differ cs → n + length (flat_map (λ (l : KeyList). l.list.entries) lists) ≤ 60000 →
        Goes path (AllClear here cs) (lists_each heap go path n es) tt (lists_met lists (traces_of cs)) (told_of cs)
    lists-goes n [] lists cs e a d l =
        subst (λ lists. AreChildren (flat_map (λ (l : KeyList). l.list.entries) lists) cs → Goes {A = Unit {0}} path (AllClear here cs) (give tt) tt (lists_met lists (traces_of cs)) (told_of cs))
        (same_Some _ _ e) (empty cs) a
      where
        empty : (cs : List Child) → AreChildren [] cs → Goes {A = Unit {0}} path (AllClear here cs) (give tt) tt [] (told_of cs)
        empty [] a = goes-give path (AllClear here []) tt
        empty (c ∷ cs) a = absurd a
    lists-goes n (e ∷ es) lists cs x a d l =
        let o = then-open (λ (list : KeyList). option_map (λ lists. list ∷ lists) (key_lists_at heap (offsets_in es))) (key_list_at heap e.offset) lists x in
        let m = map-open (λ (lists : List KeyList). o.0 ∷ lists) (key_lists_at heap (offsets_in es)) lists o.2 in
        let k = leaf-reads heap path e.offset o.0 o.1 in
        let kl : KeyList = record { offset = e.offset; list = k.0 } in
        let q : kl ∷ m.0 ≡ lists = ap (λ (kl : KeyList). kl ∷ m.0) k.1 ∙ m.2 in
        subst (λ lists. AreChildren (flat_map (λ (l : KeyList). l.list.entries) lists) cs → n + length (flat_map (λ (l : KeyList). l.list.entries) lists) ≤ 60000 →
        Goes path (AllClear here cs) (lists_each heap go path n (e ∷ es)) tt (lists_met lists (traces_of cs)) (told_of cs)) q
        (λ a l.
        let others = flat_map (λ (l : KeyList). l.list.entries) m.0 in
        let sp = split-children k.0.entries others cs a in
        let long = length-append k.0.entries others in
        let count = counted-is n k.0.entries in
        let d' : Pairwise Differ (sp.0 ++ sp.1) = subst (Pairwise Differ) sp.2 d in
        subst (λ cs. Goes path (AllClear here cs) (lists_each heap go path n (e ∷ es)) tt (lists_met (record { offset = e.offset; list = k.0 } ∷ m.0) (traces_of cs)) (told_of cs)) (sym sp.2)
        (one-list n e.offset k.0 es m.0 sp.0 sp.1 k.2 sp.3 d' (omega (arith, l, long))
        (lists-goes (counted n k.0.entries) es m.0 sp.1 m.1 sp.4 (pair-back Differ sp.0 sp.1 d') (omega (arith, l, long, count))))) a l

    -- ---- a key's subkeys

    -- what follows the list's record
    abbrev onto : SubkeysList → Step (Unit {0})
    onto list = listed_as heap go path list.entries list.form

    list-goes : (offset : ℕ) (content : List ℕ) (list : SubkeysList) (C : Keys → Type 0) (kind : Kind) (new : List Found) (told : Keys) → heap offset ≡ Some content → list_of content ≡ Some list →
        kind_met SubList content ≡ kind → Goes path C (onto list) tt new told → Goes path C (list_from heap path offset >>= onto) tt
        (record { kind = kind; offset = offset } ∷ new) told
    list-goes offset content list C kind new told h e k g =
        subst (λ kind. Goes path C (list_from heap path offset >>= onto) tt (record { kind = kind; offset = offset } ∷ new) told) k
        (goes-after path C (list_from heap path offset) onto list tt (record { kind = kind_met SubList content; offset = offset } ∷ []) new told
        (reads-bind path (cell heap path (kind_met SubList) offset) (λ content. given Record (list_of content)) content list
        (record { kind = kind_met SubList content; offset = offset } ∷ []) [] (reads-cell heap path (kind_met SubList) offset content h)
        (reads-one path Record (list_of content) list e)) g)

    -- a list of keys itself
    leaf-goes : (entries : List Entry) (cs : List Child) → AreChildren entries cs → Pairwise Differ cs → length entries ≤ 60000 →
        Goes path (AllClear here cs) (keys_each go 0 entries >> give (tt {0})) (tt {0}) (joined (traces_of cs)) (told_of cs)
    leaf-goes entries cs a d l =
        goes-as path (AllClear here cs) (keys_each go 0 entries >> give (tt {0})) (tt {0}) (joined (traces_of cs) ++ []) (joined (traces_of cs)) (told_of cs ++ []) (told_of cs)
        (append-nil (joined (traces_of cs))) (append-nil (told_of cs))
        (goes-bind path (AllClear here cs) (λ _. Unit {0}) (keys_each go 0 entries) (λ _. give (tt {0})) (counted 0 entries) (tt {0}) (joined (traces_of cs)) [] (told_of cs) []
        (each-goes 0 entries cs a d (omega arith)) (λ told w. tt) (goes-give path (λ _. Unit {0}) (tt {0})))

    listed-goes : (offset : ℕ) (content : List ℕ) (list : SubkeysList) (form : Form) (index : Index) (cs : List Child) → list.form ≡ form → heap offset ≡ Some content → list_of content ≡ Some list →
        is_root form ≡ false → Listed (record { offset = offset; list = list }) ≡ index → AreChildren (entries_of index) cs → Pairwise Differ cs → length (entries_of index) ≤ 60000 →
        (Goes path (AllClear here cs) (keys_each go 0 list.entries >> give (tt {0})) (tt {0}) (joined (traces_of cs)) (told_of cs) →
        Goes path (AllClear here cs) (listed_as heap go path list.entries form) tt (joined (traces_of cs)) (told_of cs)) →
        Goes path (AllClear here cs) (list_from heap path offset >>= onto) tt (index_met index (traces_of cs)) (told_of cs)
    listed-goes offset content list form index cs f h e r i a d l g =
        subst (λ index. AreChildren (entries_of index) cs → length (entries_of index) ≤ 60000 →
        Goes path (AllClear here cs) (list_from heap path offset >>= onto) tt (index_met index (traces_of cs)) (told_of cs)) i
        (λ a l.
        let same = append-nil list.entries in
        list-goes offset content list (AllClear here cs) Leaf (joined (traces_of cs)) (told_of cs) h e (ap (λ b. cond b SubList Leaf) (root-signed content list e ∙ (ap is_root f ∙ r)))
        (subst (λ form. Goes path (AllClear here cs) (listed_as heap go path list.entries form) tt (joined (traces_of cs)) (told_of cs)) (sym f)
        (g (leaf-goes list.entries cs (subst (λ es. AreChildren es cs) same a) d (subst (λ (es : List Entry). length es ≤ 60000) same l))))) a l

    index-goes : (offset : ℕ) (content : List ℕ) (list : SubkeysList) (form : Form) (index : Index) (cs : List Child) → list.form ≡ form → heap offset ≡ Some content → list_of content ≡ Some list →
        index_as heap offset list form ≡ Some index → AreChildren (entries_of index) cs → Pairwise Differ cs → length (entries_of index) ≤ 60000 →
        Goes path (AllClear here cs) (list_from heap path offset >>= onto) tt (index_met index (traces_of cs)) (told_of cs)
    index-goes offset content list IndexRoot index cs f h e i a d l =
        let m = map-open (Rooted offset) (key_lists_at heap (offsets_in list.entries)) index i in
        subst (λ index. AreChildren (entries_of index) cs → length (entries_of index) ≤ 60000 →
        Goes path (AllClear here cs) (list_from heap path offset >>= onto) tt (index_met index (traces_of cs)) (told_of cs)) m.2
        (λ a l. list-goes offset content list (AllClear here cs) SubList (lists_met m.0 (traces_of cs)) (told_of cs) h e (ap (λ b. cond b SubList Leaf) (root-signed content list e ∙ ap is_root f))
        (subst (λ form. Goes path (AllClear here cs) (listed_as heap go path list.entries form) tt (lists_met m.0 (traces_of cs)) (told_of cs)) (sym f)
        (lists-goes 0 list.entries m.0 cs m.1 a d (omega arith)))) a l
    index-goes offset content list IndexLeaf index cs f h e i a d l = listed-goes offset content list IndexLeaf index cs f h e refl (same_Some _ _ i) a d l (λ g. g)
    index-goes offset content list FastLeaf index cs f h e i a d l = listed-goes offset content list FastLeaf index cs f h e refl (same_Some _ _ i) a d l (λ g. g)
    index-goes offset content list HashLeaf index cs f h e i a d l = listed-goes offset content list HashLeaf index cs f h e refl (same_Some _ _ i) a d l (λ g. g)

    pub subkeys-goes : (count offset : ℕ) (index : Index) (cs : List Child) → index_at heap count offset ≡ Some index → AreChildren (entries_of index) cs → Pairwise Differ cs →
        length (entries_of index) ≤ 60000 → Goes path (AllClear here cs) (subkeys_from heap go path count offset) tt (index_met index (traces_of cs)) (told_of cs)
    subkeys-goes zero offset index cs i a d l =
        subst (λ index. AreChildren (entries_of index) cs → Goes {A = Unit {0}} path (AllClear here cs) (give tt) tt (index_met index (traces_of cs)) (told_of cs)) (same_Some _ _ i) (empty cs) a
      where
        empty : (cs : List Child) → AreChildren [] cs → Goes {A = Unit {0}} path (AllClear here cs) (give tt) tt [] (told_of cs)
        empty [] a = goes-give path (AllClear here []) tt
        empty (c ∷ cs) a = absurd a
    subkeys-goes (suc n) offset index cs i a d l =
        let k = then-open (λ (list : SubkeysList). index_as heap offset list list.form) (list_at heap offset) index i in
        let c = then-open list_of (heap offset) k.0 k.1 in
        index-goes offset c.0 k.0 k.0.form index cs refl c.1 c.2 k.2 a d l
