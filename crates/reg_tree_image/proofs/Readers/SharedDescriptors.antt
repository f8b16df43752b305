-- Keys that share a security: what an image holds at its offset, and the first key that was built with it.
use Rattle.std.proofs.Common.{◌≡◌, ◌≢◌, ℕ, ◌==◌, arith, nat_lt, nat_le, Bool, true, false, cond, Result, Ok, Err, Option, Some, None, List, length, refl, sym, ap, ◌∙◌, subst}
use Rattle.std.specs.Prelude.{IfSome, if◌then◌else◌, is_ok}
use Rattle.std.specs.Option.{option_and_then, option_map}
use Rattle.std.specs.Result.{result_ok}
use Rattle.std.specs.Ordering.{is_eq, nat_cmp}
use Rattle.std.specs.declared.cmp.Ordering.TheVariants.{Equal, Greater}
use Rattle.std.specs.BTreeMap.{UpdatesBy, is_at}
use Rattle.std.specs.FinMap.{get, insert}
use Rattle.std.proofs.lemmas.Bool.{false≢true}
use Rattle.std.proofs.lemmas.Bool.Decides.{nat_tests}
use Rattle.std.proofs.lemmas.Option.{none-some, same_Some}
use Rattle.reg_heap.specs.Heaps.{Heap}
use Rattle.reg_heap.specs.Kinds.Kind.{Security}
use Rattle.reg_heap.specs.declared.limits.TheConstants.{DESCRIPTOR_LIMIT}
use Rattle.reg_heap.specs.Paths.{Path, Tree, Rec, Member}
use Rattle.reg_heap.specs.Edits.{descriptor_of}
use Rattle.reg_records.specs.declared.RecordFault.{RecordFault}
use Rattle.reg_records.specs.declared.nk.KeyFields.{KeyFields}
use Rattle.reg_records.specs.KeySecurities.{KeySecurityRecord, sk_of, security_at}
use Rattle.reg_shape.specs.Whole.{descriptor_at}
use Rattle.reg_tree.specs.declared.node.Node.{Node}
use Rattle.reg_tree.specs.TreeKeys.{Keys, IsAt, KeepsNodes}
use Rattle.reg_tree.proofs.BuildKey.BuiltTrees.{get-here, get-other}
use Rattle.reg_tree_image.specs.declared.LoadFault.{LoadFault}
use Rattle.reg_tree_image.specs.declared.LoadFault.TheVariants.{Record, Limit, Loop}
use Rattle.reg_tree_image.specs.declared.first_keys.FirstKeys.{FirstKeys}
use Rattle.reg_tree_image.specs.WalkSteps.{Seen, Step, ◌>>=◌, ◌>>◌, onward, give, given, check, note, not_named, is_absent, cell}
use Rattle.reg_tree_image.specs.LoadingWalk.{read, descriptor_from, class_from, values_from, parts_from}
use Rattle.reg_tree_image.specs.Internal.FirstUses.{AreFirst, Notes, Uses, first_with}

-- ---- what an image holds at a security's offset

abbrev ok_or : {A E : Type 0} → A → Result A E → A
ok_or d (Ok x) = x
ok_or d (Err e) = d

-- what both steps give, where both give something
opened : {A B : Type 0} (s : Step A) (f : A → Step B) (seen : Seen) (y : B × Seen) → (s >>= f) seen ≡ Ok y →
    (x : A) × (mid : Seen) × (s seen ≡ Ok (x, mid)) × (f x mid ≡ Ok y)
opened {A} {B} s f seen y e = by (s seen) refl e
  where
    by : (r : Result (A × Seen) LoadFault) → s seen ≡ r → onward f r ≡ Ok y → (x : A) × (mid : Seen) × (s seen ≡ Ok (x, mid)) × (f x mid ≡ Ok y)
    by (Ok x) q e = (x.0, x.1, q, e)
    by (Err fault) q e = absurd (false≢true (ap is_ok e))

passed : {A B : Type 0} (s : Step A) (t : Step B) (seen : Seen) (y : B × Seen) → (s >> t) seen ≡ Ok y → (mid : Seen) × (t mid ≡ Ok y)
passed s t seen y e = let o = opened s (λ _. t) seen y e in (o.1, o.3)

-- a cell that was named holds what was read
held-there : (heap : Heap) (path : List ℕ) (offset : ℕ) (seen after : Seen) (content : List ℕ) →
    cell heap path (λ _. Security) offset seen ≡ Ok (content, after) → heap offset ≡ Some content
held-there heap path offset seen after content e = by (heap offset) refl e
  where
    by : (o : Option (List ℕ)) → heap offset ≡ o →
        onward (λ held. check Loop (is_absent offset path) >> (not_named Security offset >> (note (record { kind = Security; offset = offset }) >> give held)))
        (given Record o seen) ≡ Ok (content, after) → heap offset ≡ Some content
    by None q e = absurd (false≢true (ap is_ok e))
    by (Some held) q e =
        let named = note (record { kind = Security; offset = offset }) >> give held in
        let a = passed (check Loop (is_absent offset path)) (not_named Security offset >> named) seen (content, after) e in
        let b = passed (not_named Security offset) named a.0 (content, after) a.1 in
        q ∙ ap (λ (r : Result (List ℕ × Seen) LoadFault). Some (ok_or {A = List ℕ × Seen} (content, after) r).0) b.1

module _ (heap : Heap) (offset : ℕ) where
  security-is : (content : List ℕ) (s : KeySecurityRecord) → heap offset ≡ Some content → sk_of content ≡ Ok s → descriptor_at heap offset ≡ Some s.descriptor
  unfolding security_at
  security-is content s here reads =
      ap (λ (o : Option (List ℕ)). option_map (λ (s : KeySecurityRecord). s.descriptor) (option_and_then (λ content. result_ok (sk_of content)) o)) here
      ∙ ap (λ (r : Result KeySecurityRecord RecordFault). option_map (λ (s : KeySecurityRecord). s.descriptor) (result_ok r)) reads

  -- a descriptor that was read is the security's there
  described-there : (path : List ℕ) (seen after : Seen) (descriptor : List ℕ) → descriptor_from heap path offset seen ≡ Ok (descriptor, after) →
      descriptor_at heap offset ≡ Some descriptor
  described-there path seen after descriptor e =
      let o = opened (cell heap path (λ _. Security) offset) past seen (descriptor, after) e in
      by o.0 o.1 (held-there heap path offset seen o.1 o.0 o.2) (sk_of o.0) refl o.3
    where
      past : List ℕ → Step (List ℕ)
      past content = do
        security ← read (sk_of content)
        check Record (nat_lt 0 (length security.descriptor))
        check Limit (nat_le (length security.descriptor) DESCRIPTOR_LIMIT)
        give security.descriptor

      by : (content : List ℕ) (mid : Seen) → heap offset ≡ Some content → (r : Result KeySecurityRecord RecordFault) → sk_of content ≡ r →
          onward (λ (s : KeySecurityRecord). check Record (nat_lt 0 (length s.descriptor)) >>
          (check Limit (nat_le (length s.descriptor) DESCRIPTOR_LIMIT) >> give s.descriptor)) (read r mid) ≡ Ok (descriptor, after) →
          descriptor_at heap offset ≡ Some descriptor
      by content mid here (Err fault) q e = absurd (false≢true (ap is_ok e))
      by content mid here (Ok s) q e =
          let last = check Limit (nat_le (length s.descriptor) DESCRIPTOR_LIMIT) >> give s.descriptor in
          let a = passed (check Record (nat_lt 0 (length s.descriptor))) last mid (descriptor, after) e in
          let b = passed (check Limit (nat_le (length s.descriptor) DESCRIPTOR_LIMIT)) (give s.descriptor) a.0 (descriptor, after) a.1 in
          security-is content s here q ∙ ap (λ (r : Result (List ℕ × Seen) LoadFault). Some (ok_or {A = List ℕ × Seen} (descriptor, after) r).0) b.1

-- the descriptor of a key's parts is that of the security that its key node names
pub parts-described : (heap : Heap) (minor : ℕ) (path : List ℕ) (key : KeyFields) (seen after : Seen) (parts : List ℕ × List ℕ × List Member) →
    parts_from heap minor path key seen ≡ Ok (parts, after) → descriptor_at heap key.security ≡ Some parts.1
parts-described heap minor path key seen after parts e =
    let a = opened (class_from heap path key.class_length key.class) with-class seen (parts, after) e in
    let b = opened (descriptor_from heap path key.security) (with-descriptor a.0) a.1 (parts, after) a.3 in
    let c = opened (values_from heap minor path key.values key.values_list) (λ values. give (a.0, b.0, values)) b.1 (parts, after) b.3 in
    described-there heap key.security path a.1 b.1 b.0 b.2 ∙ ap (λ (r : Result ((List ℕ × List ℕ × List Member) × Seen) LoadFault).
    Some (ok_or {A = (List ℕ × List ℕ × List Member) × Seen} (parts, after) r).0.1) c.3
  where
    with-descriptor : List ℕ → List ℕ → Step (List ℕ × List ℕ × List Member)
    with-descriptor class descriptor = values_from heap minor path key.values key.values_list >>= (λ values. give (class, descriptor, values))

    with-class : List ℕ → Step (List ℕ × List ℕ × List Member)
    with-class class = descriptor_from heap path key.security >>= (λ descriptor. with-descriptor class descriptor)

-- ---- the first keys

-- none is noted yet
pub none-first : (heap : Heap) (keys : Keys) (firsts : FirstKeys) → ((security : ℕ) → first_with firsts security ≡ None) → AreFirst heap keys firsts
none-first heap keys firsts none security node e = absurd (none-some _ (sym (none security) ∙ e))

-- what a look-up found that was made only where the security was met
pub like-met : (met : Bool) (o found : Option Node) → found ≡ (if met then o else None) → IfSome found (λ node. Some node ≡ o)
like-met true o None e = tt
like-met true o (Some node) e = e
like-met false o None e = tt
like-met false o (Some node) e = absurd (cc)

-- the first key with a security has the descriptor of each that has it
pub like-first : (heap : Heap) (keys : Keys) (firsts : FirstKeys) → AreFirst heap keys firsts → (security : ℕ) (descriptor : List ℕ) →
    descriptor_at heap security ≡ Some descriptor → (found : Option Node) → IfSome found (λ node. Some node ≡ first_with firsts security) →
    IfSome found (λ node. (q : Path) × IsAt keys q node × (descriptor_of (get keys.tree q) ≡ descriptor))
like-first heap keys firsts are security descriptor held None e = tt
like-first heap keys firsts are security descriptor held (Some node) e =
    let u = are security node (sym e) in
    (u.path, u.at, ap descriptor_of u.there ∙ same_Some _ _ (sym u.same ∙ held))

module _ (heap : Heap) (old new : Keys) (nodes : KeepsNodes old new) (at : Path) (key : Rec) (free : get old.tree at ≡ None)
    (built : new.tree ≡ insert old.tree at key) where
  -- what uses a security still does where a key was built
  uses-still : (security : ℕ) (node : Node) → Uses heap old security node → Uses heap new security node
  uses-still security node u = record {
    path = u.path;
    key = u.key;
    at = nodes u.path node u.at;
    there = ap (λ (tree : Tree). get tree u.path) built ∙ get-other old.tree at u.path key apart ∙ u.there;
    same = u.same;
  }
    where
      apart : u.path ≢ at
      apart e = none-some _ (sym free ∙ ap (get old.tree) (sym e) ∙ u.there)

  pub first-still : (firsts : FirstKeys) → AreFirst heap old firsts → AreFirst heap new firsts
  first-still firsts are security node e = uses-still security node (are security node e)

  -- and the key that was built is the first with its security
  pub first-then : (before after : FirstKeys) (security : ℕ) (node : Node) → AreFirst heap old before → Notes before security node after → IsAt new at node →
      descriptor_at heap security ≡ Some key.descriptor → AreFirst heap new after
  first-then before after security node are notes is held other first e = by (security == other) refl (sym (notes other) ∙ e)
    where
      its : Uses heap new security node
      its = record { path = at; key = key; at = is; there = ap (λ (tree : Tree). get tree at) built ∙ get-here old.tree at key; same = held }

      by : (b : Bool) → (security == other) ≡ b → cond b (Some node) (first_with before other) ≡ Some first → Uses heap new other first
      by true t e =
          subst (λ n. Uses heap new other n) (same_Some _ _ e) (subst (λ s. Uses heap new s node) (let same : security ≡ other = grind (arith, nat_tests) in same) its)
      by false t e = first-still before are other first e

-- ---- the map of the first keys

compared : (a b : ℕ) → is_at (nat_cmp a) b ≡ (a == b)
compared a b = by (nat_lt a b) refl
  where
    equal : (e : Bool) → is_eq (cond e Equal Greater) ≡ e
    equal true = refl
    equal false = refl

    by : (l : Bool) → nat_lt a b ≡ l → is_eq (nat_cmp a b) ≡ (a == b)
    by true l = let n : (a == b) ≡ false = grind (arith, nat_tests) in rw (l, n) refl
    by false l = rw l (equal (a == b))

-- a key put into it
pub noted : (old new : FirstKeys) (security : ℕ) (node : Node) → UpdatesBy nat_cmp (nat_cmp security) old.nodes new.nodes (Some node) →
    Notes old security node new
noted old new security node u other =
    u.0 other ∙ ap (λ b. cond b (Some node) (first_with old other)) (compared security other)
