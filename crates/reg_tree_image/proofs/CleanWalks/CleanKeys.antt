-- A key, and all below it, walked without a fault.
use Rattle.std.proofs.Common.{◌≡◌, ◌≢◌, ℕ, suc, ◌==◌, ◌&&◌, ◌||◌, nat_le, nat_lt, not, Bool, true, false, cond, Option, Some, Ok, List, [], ◌∷◌, ◌++◌, append_assoc, length, bit_and, unwrap_or, ◌%◌}
use Rattle.std.proofs.Common.{refl, sym, ap, ◌∙◌, subst, arith}
use Rattle.std.specs.List.{AllByRecursion, list_all}
use Rattle.std.specs.Ordering.{eq_by_cmp}
use Rattle.std.proofs.lemmas.Bool.{false≢true, false_from_ne_true}
use Rattle.std.proofs.lemmas.Nat.{and_assoc}
use Rattle.std.proofs.lemmas.List.{append-nil}
use Rattle.reg_names.specs.Names.{is_key_name, is_key_name_byte}
use Rattle.reg_heap.specs.Edits.{child_path}
use Rattle.reg_heap.specs.Heaps.{Heap}
use Rattle.reg_heap.specs.Paths.{Path, Rec, Member, path_cmp}
use Rattle.reg_heap.proofs.ChildrenOfPath.{path-is}
use Rattle.reg_heap.specs.Kinds.{Found, is_own}
use Rattle.reg_heap.specs.Kinds.Kind.{Key, Class, Security}
use Rattle.reg_records.specs.KeyNodes.{KeyRecord, nk_of}
use Rattle.reg_records.specs.KeySecurities.{KeySecurityRecord}
use Rattle.reg_records.specs.BigData.{if_any}
use Rattle.std.specs.Option.{option_map}
use Rattle.reg_shape.specs.Nodes.{Node, met_of, pieces_at, members_at}
use Rattle.reg_shape.specs.Spelt.{marks_of, name_of, rec_of}
use Rattle.reg_shape.specs.Written.{IsWrittenSecurity}
use Rattle.reg_shape.specs.Internal.Shapes.{IsSeen, descriptor_in}
use Rattle.reg_shape.proofs.Walking.WalkRefinement.{look-open}
use Rattle.reg_shape.proofs.Refinement.RefinementAtPath.{name-written}
use Rattle.reg_shape.proofs.Wholeness.ShapeCounts.{tally-append}
use Rattle.reg_tree_image.specs.declared.LoadFault.TheVariants.{Record, Twice, NotInProfile, Limit}
use Rattle.reg_tree_image.specs.WalkSteps.{Seen, Step, ◌>>=◌, ◌>>◌, onward, give, check, tell, cell}
use Rattle.reg_tree_image.specs.LoadingWalk.{read, name_in, key_name, is_free, no_sibling, named_key, head_from, parts_from, rest_from}
use Rattle.reg_tree_image.specs.LoadingWalk.{class_from, descriptor_from, values_from, subkeys_from, key_from}
use Rattle.reg_tree_image.proofs.CleanWalks.CleanSteps.{IsFresh, fresh-first, fresh-then, named_too, Reads, reads-give, reads-bind, reads-check, reads-read, reads-cell}
use Rattle.reg_tree_image.proofs.CleanWalks.CleanValues.{class-clean, descriptor-clean, values-clean, ok-from}

abbrev pub Keys : Type 0
Keys = List (Path × Rec)

-- a step that names records and tells keys, where what was told before is of a kind
abbrev pub Goes : {A : Type 0} → List ℕ → (Keys → Type 0) → Step A → A → List Found → Keys → Type 0
Goes path C s x new keys = (seen : Seen) → IsFresh path seen.found new → C seen.told → s seen ≡ Ok (x, record { found = seen.found ++ new; told = seen.told ++ keys })

pub goes-give : {A : Type 0} (path : List ℕ) (C : Keys → Type 0) (x : A) → Goes path C (give x) x [] []
goes-give path C x seen f c = ap (λ zs. Ok (x, record seen { found = zs })) (sym (append-nil seen.found))
    ∙ ap (λ ks. Ok (x, record { found = seen.found ++ []; told = ks })) (sym (append-nil seen.told))

pub goes-tell : (path : List ℕ) (C : Keys → Type 0) (here : Path) (rec : Rec) → Goes path C (tell here rec) tt [] ((here, rec) ∷ [])
goes-tell path C here rec seen f c = ap (λ zs. Ok (tt, record { found = zs; told = seen.told ++ (here, rec) ∷ [] })) (sym (append-nil seen.found))

pub goes-after : {A B : Type 0} (path : List ℕ) (C : Keys → Type 0) (s : Step A) (f : A → Step B) (x : A) (y : B) (xs ys : List Found) (ks : Keys) → Reads path s x xs → Goes path C (f x) y ys ks →
    Goes path C (s >>= f) y (xs ++ ys) ks
goes-after path C s f x y xs ys ks a b seen h c =
    ap (onward f) (a seen (fresh-first path seen.found xs ys h))
    ∙ (b (named_too seen xs) (fresh-then path seen.found xs ys h) c
    ∙ ap (λ zs. Ok (y, record { found = zs; told = seen.told ++ ks })) (append_assoc seen.found xs ys))

pub goes-bind : {A B : Type 0} (path : List ℕ) (C D : Keys → Type 0) (s : Step A) (f : A → Step B) (x : A) (y : B) (xs ys : List Found) (js ks : Keys) → Goes path C s x xs js →
    ((told : Keys) → C told → D (told ++ js)) → Goes path D (f x) y ys ks → Goes path C (s >>= f) y (xs ++ ys) (js ++ ks)
goes-bind path C D s f x y xs ys js ks a d b seen h c =
    ap (onward f) (a seen (fresh-first path seen.found xs ys h) c)
    ∙ (b (record { found = seen.found ++ xs; told = seen.told ++ js }) (fresh-then path seen.found xs ys h) (d seen.told c)
    ∙ (ap (λ zs. Ok (y, record { found = zs; told = (seen.told ++ js) ++ ks })) (append_assoc seen.found xs ys)
    ∙ ap (λ ts. Ok (y, record { found = seen.found ++ (xs ++ ys); told = ts })) (append_assoc seen.told js ks)))

pub goes-as : {A : Type 0} (path : List ℕ) (C : Keys → Type 0) (s : Step A) (x : A) (xs ys : List Found) (js ks : Keys) → xs ≡ ys → js ≡ ks → Goes path C s x xs js → Goes path C s x ys ks
goes-as path C s x xs ys js ks d e g seen h c =
    g seen (subst (IsFresh path seen.found) (sym d) h) c ∙ (ap (λ zs. Ok (x, record { found = seen.found ++ zs; told = seen.told ++ js })) d
    ∙ ap (λ ts. Ok (x, record { found = seen.found ++ ys; told = seen.told ++ ts })) e)

-- ---- paths that are clear

-- no key told is at a path or below it
abbrev pub Clear : Path → Keys → Type 0
Clear p told = AllByRecursion (λ (e : Path × Rec). (r : Path) → e.0 ≢ p ++ r) told

pub clear-free : (p : Path) (told : Keys) → Clear p told → is_free p told ≡ true
clear-free p [] c = refl
clear-free p (e ∷ told) c =
    let n : eq_by_cmp path_cmp e.0 p ≡ false = false_from_ne_true _ (λ t. c.0 [] (path-is e.0 p t ∙ sym (append-nil p))) in
    rw n (clear-free p told c.1)

pub clear-append : (p : Path) (a b : Keys) → Clear p a → Clear p b → Clear p (a ++ b)
clear-append p [] b c d = d
clear-append p (e ∷ a) b c d = (c.0, clear-append p a b c.1 d)

-- what is clear of a path is clear of those below it
pub clear-below : (p q : Path) (told : Keys) → Clear p told → Clear (p ++ q) told
clear-below p q [] c = tt
clear-below p q (e ∷ told) c = ((λ r x. c.0 (q ++ r) (x ∙ append_assoc p q r)), clear-below p q told c.1)

-- all told are at a path or below it
abbrev pub Under : Path → Keys → Type 0
Under p told = AllByRecursion (λ (e : Path × Rec). (r : Path) × (e.0 ≡ p ++ r)) told

-- ---- a key's own records

module _ (heap : Heap) (root : ℕ) (path : List ℕ) (here : List ℕ → Path) (offset : ℕ) (node : Node) (seen-key : IsSeen heap root offset node)
    (security : IsWrittenSecurity heap node.key.fields.security) where
  abbrev pub at : Path
  at = here (name_of node.key)

  abbrev pub its_rec : Rec
  its_rec = rec_of node (descriptor_in heap node.key.fields.security)

  descriptor-is : descriptor_in heap node.key.fields.security ≡ security.security.descriptor
  descriptor-is = ap (λ (o : Option KeySecurityRecord). unwrap_or (option_map (λ (s : KeySecurityRecord). s.descriptor) o) []) security.reads

  key-part : is_key_name node.key.name ≡ true → (list_all is_key_name_byte node.key.name ≡ true) × (nat_lt 0 (length node.key.name) ≡ true) × (nat_le (length node.key.name) 255 ≡ true)
  key-part e = by (list_all is_key_name_byte node.key.name) (nat_lt 0 (length node.key.name)) (nat_le (length node.key.name) 255) e
    where
      by : (a b c : Bool) → ((a && b) && c) ≡ true → (a ≡ true) × (b ≡ true) × (c ≡ true)
      by true true true e = (refl, refl, refl)
      by true true false e = absurd (false≢true e)
      by true false c e = absurd (false≢true e)
      by false b c e = absurd (false≢true e)

  flag-is : bit_and node.key.fields.flags 32 ≡ 32
  flag-is = sym (and_assoc 32 node.key.fields.flags 103) ∙ (ap (λ f. bit_and f 32) seen-key.written.flags ∙ by (offset == root))
    where
      by : (b : Bool) → bit_and (cond b 36 32) 32 ≡ 32
      by true = refl
      by false = refl

  single-is : not (bit_and node.key.fields.flags 32 == 0) ≡ true
  single-is = ap (λ f. not (f == 0)) flag-is

  name-reads : Reads path (key_name node.key) (name_of node.key) []
  name-reads =
      let p = key-part seen-key.written.name in
      let same : name_of node.key ≡ node.key.name = name-written heap root offset node seen-key.written in
      let name = name_of node.key in
      let all : list_all is_key_name_byte name ≡ true = ap (list_all is_key_name_byte) same ∙ p.0 in
      let short : nat_le (length name) 255 ≡ true = ap (λ n. nat_le (length n) 255) same ∙ p.2 in
      let even : (not (bit_and node.key.fields.flags 32 == 0) || (length node.key.name % 2 == 0)) ≡ true = ap (λ b. b || (length node.key.name % 2 == 0)) single-is in
      reads-check path Record (nat_lt 0 (length node.key.name)) (name_in (not (bit_and node.key.fields.flags 32 == 0)) 255 is_key_name_byte node.key.name) name [] p.1
      (reads-check path Record _ (check Limit (nat_le (length name) 255) >> (check NotInProfile (list_all is_key_name_byte name) >> give name)) name [] even
      (reads-check path Limit (nat_le (length name) 255) (check NotInProfile (list_all is_key_name_byte name) >> give name) name [] short
      (reads-check path NotInProfile (list_all is_key_name_byte name) (give name) name [] all
      (reads-give path name))))

  sibling-goes : {B : Type 0} (t : Step B) (y : B) → Goes path (Clear at) t y [] [] → Goes path (Clear at) (no_sibling at >> t) y [] []
  sibling-goes t y g seen f c = ap (λ b. onward (λ _. t) (check Twice b seen)) (clear-free at seen.told c) ∙ g seen f c

  abbrev pub it : Found
  it = record { kind = Key; offset = offset }

  named-reads : Reads path (named_key heap path offset) (node.key, name_of node.key) (it ∷ [])
  named-reads =
      let l = look-open heap offset node seen-key.reads in
      let head : KeyRecord × List ℕ = (node.key, name_of node.key) in
      let names : KeyRecord → Step (KeyRecord × List ℕ) = λ key. key_name key >>= (λ name. give (key, name)) in
      reads-bind path (cell heap path (λ _. Key) offset) (λ content. read (nk_of content) >>= names) l.content head (it ∷ []) []
      (reads-cell heap path (λ _. Key) offset l.content l.here)
      (reads-read path (nk_of l.content) names node.key head [] (ok-from (nk_of l.content) node.key l.key_is)
      (reads-bind path (key_name node.key) (λ name. give (node.key, name)) (name_of node.key) head [] [] name-reads (reads-give path head)))

  head-goes : Goes path (Clear at) (head_from heap path here offset) (node.key, name_of node.key) (it ∷ []) []
  head-goes =
      let head : KeyRecord × List ℕ = (node.key, name_of node.key) in
      goes-after path (Clear at) (named_key heap path offset) (λ (head : KeyRecord × List ℕ). no_sibling (here head.1) >> give head) head head (it ∷ []) [] []
      named-reads (sibling-goes (give head) head (goes-give path (Clear at) head))

  -- the key's own cell is named before the key is on the path
  deeper : (found new : List Found) → IsFresh path found (it ∷ new) → IsFresh (offset ∷ path) (found ++ it ∷ []) new
  deeper found new f =
      let g = fresh-then path found (it ∷ []) new f in
      record {
        once = g.once;
        apart = g.apart;
        keys = λ o. (let l = f.keys o in let a = tally-append (is_own o) found (it ∷ []) in omega (arith, l, a));
      }

  parts-reads : (class_cells value_cells : List Found) →
      pieces_at (if_any Class node.key.fields.class_length node.key.fields.class) heap ≡ Some (node.class, class_cells) →
      members_at node.key.fields.values node.key.fields.values_list heap ≡ Some (node.values, value_cells) →
      Reads (offset ∷ path) (parts_from heap 5 (offset ∷ path) node.key.fields) (node.class, security.security.descriptor, node.values)
      (class_cells ++ ((record { kind = Security; offset = node.key.fields.security } ∷ []) ++ (value_cells ++ [])))
  parts-reads class_cells value_cells class values =
      let p = offset ∷ path in
      let fields = node.key.fields in
      let d = security.security.descriptor in
      let s : Found = record { kind = Security; offset = fields.security } in
      let parts : List ℕ × List ℕ × List Member = (node.class, d, node.values) in
      let last : List ℕ → List ℕ → List Member → Step (List ℕ × List ℕ × List Member) =
      λ class descriptor values. give (class, descriptor, values) in
      reads-bind p (class_from heap p fields.class_length fields.class)
      (λ class. descriptor_from heap p fields.security >>=
      (λ descriptor. values_from heap 5 p fields.values fields.values_list >>= last class descriptor))
      node.class parts class_cells ((s ∷ []) ++ (value_cells ++ []))
      (class-clean heap p fields.class_length fields.class (node.class, class_cells) class)
      (reads-bind p (descriptor_from heap p fields.security)
      (λ descriptor. values_from heap 5 p fields.values fields.values_list >>= last node.class descriptor)
      d parts (s ∷ []) (value_cells ++ []) (descriptor-clean heap p fields.security security)
      (reads-bind p (values_from heap 5 p fields.values fields.values_list) (last node.class d) node.values parts value_cells []
      (values-clean heap p fields.values fields.values_list (node.values, value_cells) values seen-key.written.values.list)
      (reads-give p parts)))

  rest-goes : (D : Keys → Type 0) (class_cells value_cells : List Found) → pieces_at (if_any Class node.key.fields.class_length node.key.fields.class) heap ≡ Some (node.class, class_cells) →
      members_at node.key.fields.values node.key.fields.values_list heap ≡ Some (node.values, value_cells) →
      Goes (offset ∷ path) D (rest_from heap 5 (offset ∷ path) at node.key (name_of node.key)) tt
      (class_cells ++ (record { kind = Security; offset = node.key.fields.security } ∷ []) ++ (value_cells ++ [])) ((at, its_rec) ∷ [])
  rest-goes D class_cells value_cells class values =
      let p = offset ∷ path in
      let fields = node.key.fields in
      let rec : List ℕ → List ℕ → List Member → Rec =
      λ class descriptor values. record { name = name_of node.key; marks = marks_of fields.flags; class = class; descriptor = descriptor; time = fields.time; values = values } in
      let d = security.security.descriptor in
      let s : Found = record { kind = Security; offset = fields.security } in
      let cells = class_cells ++ ((s ∷ []) ++ (value_cells ++ [])) in
      goes-as p D (rest_from heap 5 p at node.key (name_of node.key)) tt (cells ++ []) _ ((at, rec node.class d node.values) ∷ []) _
      (append-nil cells ∙ sym (append_assoc class_cells (s ∷ []) (value_cells ++ []))) (ap (λ d. (at, rec node.class d node.values) ∷ []) (sym descriptor-is))
      (goes-after p D (parts_from heap 5 p fields) (λ (parts : List ℕ × List ℕ × List Member). tell at (rec parts.0 parts.1 parts.2))
      (node.class, d, node.values) tt cells [] _
      (parts-reads class_cells value_cells class values) (goes-tell p D at (rec node.class d node.values)))

  -- the key with what is below it, whose steps start with these names
  pub key-goes : (levels : ℕ) (index_cells : List Found) (below : Keys) (D : Keys → Type 0) → ((told : Keys) → Clear at told → D (told ++ (at, its_rec) ∷ [])) →
      Goes (offset ∷ path) D (subkeys_from heap (key_from heap 5 levels (offset ∷ path) (child_path at)) (offset ∷ path) node.key.fields.subkeys node.key.fields.subkeys_list) tt index_cells below →
      Goes path (Clear at) (key_from heap 5 (suc levels) path here offset) tt (node.cells ++ index_cells) ((at, its_rec) ∷ below)
  unfolding key_from
  key-goes levels index_cells below D d subkeys =
      let l = look-open heap offset node seen-key.reads in
      let p = offset ∷ path in
      let own = l.class_cells ++ (record { kind = Security; offset = node.key.fields.security } ∷ []) ++ (l.value_cells ++ []) in
      let inner = goes-bind p (Clear at) D (rest_from heap 5 p at node.key (name_of node.key))
      (λ _. subkeys_from heap (key_from heap 5 levels p (child_path at)) p node.key.fields.subkeys node.key.fields.subkeys_list) tt tt own index_cells ((at, its_rec) ∷ []) below
      (rest-goes (Clear at) l.class_cells l.value_cells l.class_is l.values_are) d subkeys in
      goes-as path (Clear at) (key_from heap 5 (suc levels) path here offset) tt (it ∷ (own ++ index_cells)) (node.cells ++ index_cells) ((at, its_rec) ∷ below) ((at, its_rec) ∷ below)
      (sym (ap (λ zs. zs ++ index_cells) (l.cells ∙ cells-are l.class_cells l.value_cells))) refl
      (λ seen f c.
      ap (onward (λ (head : KeyRecord × List ℕ). rest_from heap 5 p (here head.1) head.0 head.1 >> subkeys_from heap
      (key_from heap 5 levels p (child_path (here head.1))) p head.0.fields.subkeys head.0.fields.subkeys_list)) (head-goes seen (fresh-first path seen.found (it ∷ []) (own ++ index_cells) f) c)
      ∙ (inner (record { found = seen.found ++ it ∷ []; told = seen.told ++ [] }) (deeper seen.found (own ++ index_cells) f) (subst (Clear at) (sym (append-nil seen.told)) c)
      ∙ (ap (λ zs. Ok (tt, record { found = zs; told = (seen.told ++ []) ++ ((at, its_rec) ∷ below) })) (append_assoc seen.found (it ∷ []) (own ++ index_cells))
      ∙ ap (λ ts. Ok (tt, record { found = seen.found ++ (it ∷ (own ++ index_cells)); told = ts ++ ((at, its_rec) ∷ below) })) (append-nil seen.told))))
    where
      cells-are : (class values : List Found) → met_of offset node.key class values ≡ it ∷ (class ++ (record { kind = Security; offset = node.key.fields.security } ∷ []) ++ (values ++ []))
      cells-are class values = ap (λ zs. it ∷ zs) (ap (λ vs. class ++ (record { kind = Security; offset = node.key.fields.security } ∷ vs)) (sym (append-nil values))
          ∙ sym (append_assoc class (record { kind = Security; offset = node.key.fields.security } ∷ []) (values ++ [])))
