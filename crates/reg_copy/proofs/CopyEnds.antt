-- How a copy begins and ends.
use Rattle.std.proofs.Common.{◌≡◌, ◌≢◌, ℕ, ◌+◌, ◌≤◌, Bool, true, false, cond, ◌⊎◌, inl, inr, List, [], ◌∷◌, ◌++◌, length, reverse, Result, Ok, Err, is_some, Option, Some, None, refl, sym, ap, ◌∙◌, subst, arith, append-nil, length-append}
use Rattle.std.specs.Prelude.{IsSome, IfErr, OnOk}
use Rattle.std.specs.FinMap.{get}
use Rattle.std.specs.Option.{option_map}
use Rattle.std.proofs.lemmas.Bool.{false≢true}
use Rattle.reg_names.specs.Names.{folded}
use Rattle.reg_heap.specs.Paths.{Path, Tree, Rec, children_of}
use Rattle.reg_heap.specs.Edits.{child_path, is_within, is_under, edited, at_time}
use Rattle.reg_heap.specs.Trees.{IsTree}
use Rattle.reg_heap.proofs.DeletedTrees.{within-self, within-long, under-rest, under-self}
use Rattle.reg_tree.specs.declared.node.Node.{Node}
use Rattle.reg_tree.specs.TreeKeys.{Keys, IsAt}
use Rattle.reg_tree.specs.SubkeyWalk.{IsSubkeyAt}
use Rattle.reg_tree.proofs.BuildKey.BuiltTrees.{get-here, get-other}
use Rattle.reg_tree.proofs.PruneTree.ThinnedTrees.{bare-of}
use Rattle.reg_tree.proofs.PruneTree.TreesWithout.{same-as, same-false, get-edited}
use Rattle.reg_tree_text.specs.PathQueries.{key_at}
use Rattle.reg_copy.specs.declared.copying.Pending.{Pending}
use Rattle.reg_copy.specs.declared.fault.CopyFault.{CopyFault}
use Rattle.reg_copy.specs.declared.fault.CopyFault.TheVariants.{NoKey, NoPlace, Taken, Limit, Full, Memory}
use Rattle.reg_copy.specs.Copies.{copy_of, HasCopy, MayCopy, CopyStops, IsEarly}
use Rattle.reg_copy.specs.Internal.Copying.{IsKeyCopied, is_left, AreLeft, copied_so_far, IsAmid, IsNoted, IsRefused, IsStopped, IsHalted}
use Rattle.reg_copy.proofs.LeftPaths.{closed, left-under, left-child, apart-children}

none-or-some : (o : Option Rec) → (IsSome o → ⊥) → o ≡ None
none-or-some None n = refl
none-or-some (Some r) n = absurd (n refl)

none-there : (paths : List Path) → length paths ≤ 0 → paths ≡ []
none-there [] l = refl
none-there (x ∷ paths) l = absurd (omega (arith, l))

longer : (p : Path) (name : List ℕ) (names : Path) → p ++ name ∷ names ≢ p
longer p name names e = let l = ap length e in let a = length-append p (name ∷ names) in omega (arith, l, a)

-- the first key was copied, and those right below it were noted
module _ (source target new : Keys) (is : IsTree source.tree) (own : IsTree target.tree) (from into : Path) (r : Rec) (marks : ℕ)
    (there : get source.tree from ≡ Some r) (marked : copy_of from r ≡ record r { marks = marks }) (node copy : Node)
    (made : IsKeyCopied target new into r.name (record r { marks = marks }) copy)
    (free : get target.tree (child_path into r.name) ≡ None) (at : IsAt source from node) where
  abbrev to : Path
  to = child_path into r.name

  abbrev children : List Path
  children = children_of source.tree from

  none-yet : (name : List ℕ) (names : Path) → get new.tree (to ++ name ∷ names) ≡ None
  none-yet name names =
      ap (λ (t : Tree). get t (to ++ name ∷ names)) made.tree
      ∙ (get-other target.tree to (to ++ name ∷ names) (record r { marks = marks }) (longer to name names)
      ∙ none-or-some (get target.tree (to ++ name ∷ names))
      (λ some. some-none (get target.tree to) (closed target.tree own to (name ∷ names) some) free))
    where
      some-none : (o : Option Rec) → IsSome o → o ≡ None → ⊥
      some-none None some none = absurd (false≢true some)
      some-none (Some r) some none = absurd (cc)

  copied-first : get new.tree to ≡ copied_so_far source.tree children from
  copied-first =
      ap (λ (t : Tree). get t to) made.tree
      ∙ (get-here target.tree to (record r { marks = marks })
      ∙ sym (by (is_left children from) refl))
    where
      by : (b : Bool) → is_left children from ≡ b → cond b None (option_map (copy_of from) (get source.tree from)) ≡ Some (record r { marks = marks })
      by true e = absurd (false≢true (sym (under-self from) ∙ left-under source.tree from from e))
      by false e = ap (option_map (copy_of from)) there ∙ ap Some marked

  copied-rest : (name : List ℕ) (names : Path) → get new.tree (to ++ name ∷ names) ≡ copied_so_far source.tree children (from ++ name ∷ names)
  copied-rest name names = none-yet name names ∙ sym (by (is_left children (from ++ name ∷ names)) refl)
    where
      by : (b : Bool) → is_left children (from ++ name ∷ names) ≡ b →
          cond b None (option_map (copy_of (from ++ name ∷ names)) (get source.tree (from ++ name ∷ names))) ≡ None
      by true e = refl
      by false e =
          ap (option_map (copy_of (from ++ name ∷ names)))
          (none-or-some (get source.tree (from ++ name ∷ names)) (λ some. false≢true (sym e ∙ left-child source.tree is from name names some)))

  copied-all : (path : Path) → get new.tree (to ++ path) ≡ copied_so_far source.tree children (from ++ path)
  copied-all [] =
      ap (get new.tree) (append-nil to) ∙ (copied-first ∙ ap (copied_so_far source.tree children) (sym (append-nil from)))
  copied-all (name ∷ names) = copied-rest name names

  others-stay : (path : Path) → is_within to path ≡ false → get new.tree path ≡ get target.tree path
  others-stay path w =
      ap (λ (t : Tree). get t path) made.tree
      ∙ get-other target.tree to path (record r { marks = marks })
      (λ f. false≢true (sym w ∙ subst (λ (x : Path). is_within to x ≡ true) (sym f) (within-self to)))

  none-under-it : (q : Path) → is_under to q ≡ true → get new.tree q ≡ None
  none-under-it q u = let parts = under-rest to q u in ap (get new.tree) parts.2 ∙ none-yet parts.0 parts.1

  pub begun : (news : List Pending) → IsNoted source from node copy 0 [] news → IsAmid source new from to target.tree (reverse news)
  begun news noted =
      record {
        left = children;
        bound = 1;
        are = are;
        apart = apart-children source.tree from;
        copied = copied-all;
        others = others-stay;
      }
    where
      bare : length (children_of new.tree to) ≤ 0
      bare = let l = ap length (bare-of new.tree to none-under-it) in omega (arith, l)

      are : AreLeft source new from to 1 (reverse news) children
      are = elim noted [
        | inl none ↦
            subst (λ (x : List Pending). AreLeft source new from to 1 x children) (ap reverse (sym none.1)) (none-there children none.0)
        | inr some ↦
            subst (λ (x : List Pending). AreLeft source new from to 1 x children) (ap reverse (sym some.2)) (
              [],
              record {
                below = [];
                index = 0;
                at = subst (λ (p : Path). IsAt source p node) (sym (append-nil from)) at;
                copy = subst (λ (p : Path). IsAt new p copy) (sym (append-nil to)) made.at;
                subkey = subst (λ (p : Path). IsSubkeyAt source p node 0 some.0) (sym (append-nil from)) some.1;
                few = subst (λ (p : Path). length (children_of new.tree p) ≤ 0) (sym (append-nil to)) bare;
                left_is =
                    sym (append-nil children) ∙ ap (λ (p : Path). children_of source.tree p ++ []) (sym (append-nil from));
              },
              omega arith,
              refl,
            )
      ]

-- all was copied, and the key above the copy got a time
module _ (source : Tree) (from into to : Path) (moment : ℕ) (name : List ℕ) (to-is : to ≡ child_path into name) where
  long : length to ≡ length into + 1
  long = ap length to-is ∙ length-append into (folded name ∷ [])

  outside : is_within to into ≡ false
  outside = by (is_within to into) refl
    where
      by : (b : Bool) → is_within to into ≡ b → is_within to into ≡ false
      by true e = let l = within-long to into e in let m = long in absurd (omega (arith, l, m))
      by false e = e

  not-into : (path : Path) → to ++ path ≢ into
  not-into path e = let l = ap length e in let a = length-append to path in let m = long in omega (arith, l, a, m)

  pub ended : (keys last : Keys) (old new : Tree) → keys.tree ≡ source → IsAmid keys last from to old [] →
      new ≡ edited last.tree into (at_time moment) → HasCopy source from old into to moment new
  ended keys last old new source-is s new-is =
      record {
        copied = λ path.
            ap (λ (t : Tree). get t (to ++ path)) new-is
            ∙ (get-edited last.tree into (at_time moment) (to ++ path)
            ∙ (ap (λ (b : Bool). cond b (option_map (at_time moment) (get last.tree into)) (get last.tree (to ++ path)))
            (same-false (to ++ path) into (not-into path))
            ∙ (s.copied path
            ∙ (ap (λ (left : List Path). copied_so_far keys.tree left (from ++ path)) s.are
            ∙ ap (λ (t : Tree). copied_so_far t [] (from ++ path)) source-is))));
        others = λ path w.
            ap (λ (t : Tree). get t path) new-is
            ∙ (get-edited last.tree into (at_time moment) path
            ∙ (ap (λ (o : Option Rec). cond (same-as path into) (option_map (at_time moment) (get last.tree into)) o) (s.others path w)
            ∙ (ap (λ (o : Option Rec). cond (same-as path into) (option_map (at_time moment) o) (get old path)) (s.others into outside)
            ∙ sym (get-edited old into (at_time moment) path))));
      }

-- ---- outcomes

pub if-ok : {A E : Type 0} {P Q : Type 0} (result : Result A E) → (P → Q) → OnOk result P → OnOk result Q
if-ok (Ok x) f p = f p
if-ok (Err y) f p = p

pub if-halted : {A : Type 0} (source target : Tree) (from into to : Path) (result : Result A CopyFault) →
    IfErr result (λ fault. IsStopped fault source from to) → IfErr result (λ fault. IsHalted fault source target from into to)
if-halted source target from into to (Ok x) h = h
if-halted source target from into to (Err NoKey) h = h
if-halted source target from into to (Err NoPlace) h = h
if-halted source target from into to (Err Taken) h = h
if-halted source target from into to (Err Limit) h = inl h
if-halted source target from into to (Err Full) h = h
if-halted source target from into to (Err Memory) h = h

-- a key that isn't copied itself stops all
pub refused-halts : (source target : Tree) (from into : Path) (r : Rec) → get source from ≡ Some r → (fault : CopyFault) →
    IsRefused fault target into → IsHalted fault source target from into (child_path into r.name)
refused-halts source target from into r there NoKey h = h
refused-halts source target from into r there NoPlace h = h
refused-halts source target from into r there Taken h = h
refused-halts source target from into r there Limit h = elim h [
  | inl deep ↦ inl (
    [],
    subst (λ (p : Path). IsSome (get source p)) (sym (append-nil from)) (ap is_some there),
    (let n = ap length (append-nil (child_path into r.name)) in let m = length-append into (folded r.name ∷ []) in omega (arith, deep, n, m)),
  )
  | inr many ↦ inr many
]
refused-halts source target from into r there Full h = h
refused-halts source target from into r there Memory h = h

pub stops-may : (source : Tree) (key : List ℕ) (target : Tree) (place : List ℕ) (may : MayCopy source key target place) (fault : CopyFault) →
    IsHalted fault source target may.from may.into (child_path may.into may.copied.name) → CopyStops fault source key target place
stops-may source key target place may NoKey h = absurd h
stops-may source key target place may NoPlace h = absurd h
stops-may source key target place may Taken h = absurd h
stops-may source key target place may Limit h = (may, h)
stops-may source key target place may Full h = may
stops-may source key target place may Memory h = may

pub late : (source target : Tree) (from into to : Path) (fault : CopyFault) → IsHalted fault source target from into to → {A : Type 0} →
    IsEarly fault → A
late source target from into to NoKey h e = absurd h
late source target from into to NoPlace h e = absurd h
late source target from into to Taken h e = absurd h
late source target from into to Limit h e = absurd e
late source target from into to Full h e = absurd e
late source target from into to Memory h e = absurd e

-- want of space or memory stops it, where it may be copied
pub lack-stops : {A : Type 0} (source : Tree) (key : List ℕ) (target : Tree) (place : List ℕ) → MayCopy source key target place →
    (result : Result A CopyFault) → IfErr result (λ fault. (fault ≡ Full) ⊎ (fault ≡ Memory)) →
    IfErr result (λ fault. CopyStops fault source key target place)
lack-stops source key target place may (Ok x) h = h
lack-stops source key target place may (Err fault) h = elim h [
  | inl full ↦ subst (λ (f : CopyFault). CopyStops f source key target place) (sym full) may
  | inr none ↦ subst (λ (f : CopyFault). CopyStops f source key target place) (sym none) may
]

-- a test that fails
pub none-of-test : (o : Option Rec) → false ≡ is_some o → o ≡ None
none-of-test None e = refl
none-of-test (Some r) e = absurd (false≢true e)

-- there is what is to be copied, and room for it
abbrev pub may-copy : (source : Tree) (key : List ℕ) (target : Tree) (place name : List ℕ) (from into : Path) (r : Rec) → key_at source key ≡ Some from →
    key_at target place ≡ Some into → get source from ≡ Some r → name ≡ r.name → false ≡ is_some (get target (child_path into name)) →
    MayCopy source key target place
may-copy source key target place name from into r from-is into-is there same free =
    record {
      from = from;
      into = into;
      copied = r;
      from_is = from-is;
      into_is = into-is;
      key_is = there;
      free =
          none-of-test (get target (child_path into r.name)) (free ∙ ap (λ (n : List ℕ). is_some (get target (child_path into n))) same);
    }
