-- The events of a change by which watches can be told apart are few: where keys are made or removed, one at the highest key above them.
use Rattle.std.proofs.Common.{◌≡◌, ℕ, ◌-◌, Bool, true, false, not, cond, ◌&&◌, ◌||◌, ◌==◌, ◌⊎◌, inl, inr, List, [], ◌∷◌, ◌++◌, length, take, drop, map}
use Rattle.std.proofs.Common.{filter, Some, None}
use Rattle.std.proofs.Common.{refl, sym, ap, ◌∙◌, subst, append_assoc, arith}
use Rattle.std.specs.Prelude.{bit_and}
use Rattle.std.specs.FinMap.{keys, contains_key}
use Rattle.std.specs.List.{list_any}
use Rattle.std.proofs.lemmas.Bool.{false≢true, and_parts, and_from}
use Rattle.std.proofs.lemmas.List.{append-nil}
use Rattle.std.proofs.lemmas.List.Folds.{list_any-append}
use Rattle.reg_names.specs.Names.{folded, path_of}
use Rattle.reg_heap.specs.Paths.{Path, Tree}
use Rattle.reg_heap.specs.Edits.{above, child_path, has_child, last_there, missing, is_within, is_under}
use Rattle.reg_heap.specs.Trees.{IsTree}
use Rattle.reg_heap.proofs.ChildrenOfPath.{path-is}
use Rattle.reg_heap.proofs.DeletedTrees.{within-rest, within-append, within-self, under-rest, under-append, none-passes, all-fail}
use Rattle.reg_model.specs.declared.filters.TheConstants.{NAME}
use Rattle.reg_model.specs.declared.call.Change.{Change}
use Rattle.reg_model.specs.declared.call.Change.TheVariants.{OpenRoot, OpenKey, CreateKey, SetValue, DeleteValue, DeleteKey, DeleteTree, SetSecurity}
use Rattle.reg_model.specs.declared.call.Change.TheVariants.{Notify, Close}
use Rattle.reg_model.specs.declared.notice.Reason.TheVariants.{Matched, Gone, Closed}
use Rattle.reg_model.specs.declared.reply.Entry.{Entry}
use Rattle.reg_model.specs.Worlds.{same_path, path_at, path_from}
use Rattle.reg_model.specs.Causes.{State, change_cause}
use Rattle.reg_model.specs.Watches.{Watch, is_hit, event_at, above_each, removals, cleared, few_makings, few_removals, events, few_events}
use Rattle.reg_model.specs.Watches.{removes, closing, is_closed, ending, few_ending, reason}
use Rattle.reg_model.proofs.AcceptedCalls.{delete-tree-met, DeleteTreeMet}
use Rattle.reg_model.proofs.HandleInvariant.{Has, path-below, same-self}
use Rattle.reg_model.proofs.TreesOfChanges.{snoc-long, snoc-same}

-- ---- paths

take-front : (p : Path) (name : List ℕ) → take (length p) (p ++ name ∷ []) ≡ p
take-front [] name = refl
take-front (x ∷ p) name = ap (λ (r : Path). x ∷ r) (take-front p name)

-- the path above one that has a name more
pub above-push : (p : Path) (name : List ℕ) → above (p ++ name ∷ []) ≡ p
above-push [] name = refl
above-push (x ∷ p) name =
    let long = snoc-long (x ∷ p) name in
    let less : length (x ∷ p ++ name ∷ []) - 1 ≡ length (x ∷ p) = omega (arith, long) in
    ap (λ (k : ℕ). take k (x ∷ p ++ name ∷ [])) less ∙ take-front (x ∷ p) name

-- a path that isn't empty is one and a name more
pub record Snoc (x : List ℕ) (p : Path) : Type 0 where
  pub front : Path
  pub name : List ℕ
  pub is : x ∷ p ≡ front ++ name ∷ []

pub snoc : (x : List ℕ) (p : Path) → Snoc x p
snoc x [] = record { front = []; name = x; is = refl }
snoc x (y ∷ p) = let s = snoc y p in record { front = x ∷ s.front; name = s.name; is = ap (λ (r : Path). x ∷ r) s.is }

head_of : Path → List ℕ
head_of [] = []
head_of (x ∷ p) = x

-- of two fronts of a path one goes on from the other
pub fronts : (a b ra rb : Path) → a ++ ra ≡ b ++ rb → ((x : Path) × (b ≡ a ++ x)) ⊎ ((x : Path) × (a ≡ b ++ x))
fronts [] b ra rb e = inl (b, refl)
fronts (n ∷ a) [] ra rb e = inr (n ∷ a, refl)
fronts (n ∷ a) (m ∷ b) ra rb e = by (fronts a b ra rb (let t : a ++ ra ≡ b ++ rb = cc in t)) (let h : n ≡ m = cc in h)
  where
    by : ((x : Path) × (b ≡ a ++ x)) ⊎ ((x : Path) × (a ≡ b ++ x)) → n ≡ m → ((x : Path) × (m ∷ b ≡ (n ∷ a) ++ x)) ⊎ ((x : Path) × (n ∷ a ≡ (m ∷ b) ++ x))
    by (inl l) h = inl (l.0, ap (λ (z : List ℕ). z ∷ b) (sym h) ∙ ap (λ (z : Path). n ∷ z) l.1)
    by (inr l) h = inr (l.0, ap (λ (z : List ℕ). z ∷ a) h ∙ ap (λ (z : Path). m ∷ z) l.1)

-- with a key the tree holds all keys above it
pub held-above : (t : Tree) → IsTree t → (p rest : Path) → Has t (p ++ rest) → Has t p
held-above t i p [] h = subst (Has t) (append-nil p) h
held-above t i p (x ∷ rest) h = i.parents p x (held-above t i (p ++ x ∷ []) rest (subst (Has t) (sym (append_assoc p (x ∷ []) rest)) h))

-- ---- what hits a watch

or_cases : (a b : Bool) → (a || b) ≡ true → (a ≡ true) ⊎ (b ≡ true)
or_cases true b e = inl refl
or_cases false b e = inr e

or_right : (a b : Bool) → b ≡ true → (a || b) ≡ true
or_right true b e = refl
or_right false b e = e

or_left : (a b : Bool) → a ≡ true → (a || b) ≡ true
or_left true b e = refl
or_left false b e = absurd (false≢true e)

-- an event that hits a watch is of its kinds, at its key, or below it where those are watched
pub data HitAt (v : Watch) (p : Path) : Type 0 where
  at : v.path ≡ p → HitAt v p
  below : v.subtree ≡ true → (rest : Path) → p ≡ v.path ++ rest → HitAt v p

pub record Hit (v : Watch) (bits : ℕ) (p : Path) : Type 0 where
  pub kind : not (bit_and v.filter bits == 0) ≡ true
  pub place : HitAt v p

pub hit-parts : (v : Watch) (bits : ℕ) (p : Path) → is_hit v (event_at bits p) ≡ true → Hit v bits p
hit-parts v bits p e =
    let both = and_parts (not (bit_and v.filter bits == 0)) (same_path v.path p || v.subtree && is_within v.path p) e in
    record { kind = both.0; place = by (or_cases (same_path v.path p) (v.subtree && is_within v.path p) both.1) }
  where
    by : (same_path v.path p ≡ true) ⊎ ((v.subtree && is_within v.path p) ≡ true) → HitAt v p
    by (inl same) = at (path-is v.path p same)
    by (inr under) = let parts = and_parts v.subtree (is_within v.path p) under in below parts.0 _ (within-rest v.path p parts.1)

pub hit-from : (v : Watch) (bits : ℕ) (p : Path) → Hit v bits p → is_hit v (event_at bits p) ≡ true
hit-from v bits p h = and_from _ _ h.kind (by h.place)
  where
    by : HitAt v p → (same_path v.path p || v.subtree && is_within v.path p) ≡ true
    by (at e) = or_left (same_path v.path p) (v.subtree && is_within v.path p) (subst (λ (q : Path). same_path v.path q ≡ true) e (same-self v.path))
    by (below s rest e) = or_right (same_path v.path p) (v.subtree && is_within v.path p)
        (and_from _ _ s (subst (λ (q : Path). is_within v.path q ≡ true) (sym e) (within-append v.path rest)))

-- two tests of which each passes where the other does
pub same-tests : (a b : Bool) → (a ≡ true → b ≡ true) → (b ≡ true → a ≡ true) → a ≡ b
same-tests true b f g = sym (f refl)
same-tests false true f g = g refl
same-tests false false f g = refl

or-nothing : (a b : Bool) → (b ≡ true → a ≡ true) → (a || false) ≡ (a || b)
or-nothing true b f = refl
or-nothing false true f = f refl
or-nothing false false f = refl

-- ---- keys made

module _ (t : Tree) (i : IsTree t) (v : Watch) (there : Has t v.path) where
  module _ (p : Path) (name : List ℕ) (absent : has_child t p name ≡ false) where
    not_there : (rest : Path) → Has t ((p ++ folded name ∷ []) ++ rest) → ⊥
    not_there rest h = false≢true (sym absent ∙ held-above t i (p ++ folded name ∷ []) rest h)

    -- what happens at a key that is missing hits the watch as what happens above the first
    as_first : (bits : ℕ) (more : Path) → HitAt v ((p ++ folded name ∷ []) ++ more) → HitAt v p
    as_first bits more (at e) = absurd (not_there more (subst (Has t) e there))
    as_first bits more (below s rest e) = by (fronts v.path (p ++ folded name ∷ []) rest more (sym e))
      where
        longer : (x : Path) → p ++ folded name ∷ [] ≡ v.path ++ x → HitAt v p
        longer [] same = absurd (not_there [] (subst (Has t) (sym (append-nil v.path) ∙ sym same ∙ sym (append-nil (p ++ folded name ∷ []))) there))
        longer (y ∷ ys) same =
            let c = snoc y ys in
            let split = same ∙ ap (λ (r : Path). v.path ++ r) c.is ∙ sym (append_assoc v.path c.front (c.name ∷ [])) in
            below s c.front (snoc-same p (v.path ++ c.front) (folded name) c.name split).0

        by : ((x : Path) × (p ++ folded name ∷ [] ≡ v.path ++ x)) ⊎ ((x : Path) × (v.path ≡ (p ++ folded name ∷ []) ++ x)) → HitAt v p
        by (inl l) = longer l.0 l.1
        by (inr r) = absurd (not_there r.0 (subst (Has t) r.1 there))

    as_first-all : (names : List (List ℕ)) (more : Path) → list_any (is_hit v)
        (map (event_at NAME) (above_each ((p ++ folded name ∷ []) ++ more) names)) ≡ true →
        is_hit v (event_at NAME p) ≡ true
    as_first-all [] more e = absurd (false≢true e)
    as_first-all (n ∷ names) more e = by (or_cases (is_hit v (event_at NAME ((p ++ folded name ∷ []) ++ more))) _ e)
        (as_first-all names (more ++ folded n ∷ []))
      where
        by : (is_hit v (event_at NAME ((p ++ folded name ∷ []) ++ more)) ≡ true) ⊎
            (list_any (is_hit v) (map (event_at NAME) (above_each (child_path ((p ++ folded name ∷ []) ++ more) n) names)) ≡ true) →
            (list_any (is_hit v) (map (event_at NAME) (above_each ((p ++ folded name ∷ []) ++ (more ++ folded n ∷ [])) names)) ≡ true → is_hit v
            (event_at NAME p) ≡ true) →
            is_hit v (event_at NAME p) ≡ true
        by (inl h) rest = let is = hit-parts v NAME ((p ++ folded name ∷ []) ++ more) h in
            hit-from v NAME p (record { kind = is.kind; place = as_first NAME more is.place })
        by (inr r) rest = rest (subst (λ (q : Path). list_any (is_hit v) (map (event_at NAME) (above_each q names)) ≡ true)
            (append_assoc (p ++ folded name ∷ []) more (folded n ∷ [])) r)

  few-made : (p : Path) (ms : List (List ℕ)) → ((name : List ℕ) (names : List (List ℕ)) → ms ≡ name ∷ names → has_child t p name ≡ false) →
      list_any (is_hit v) (few_makings ms p) ≡ list_any (is_hit v) (map (event_at NAME) (above_each p ms))
  few-made p [] first = refl
  few-made p (name ∷ names) first =
      or-nothing (is_hit v (event_at NAME p)) _ (λ e. as_first-all p name (first name names refl) names []
      (subst (λ (q : Path). list_any (is_hit v) (map (event_at NAME) (above_each q names)) ≡ true) (sym (append-nil (p ++ folded name ∷ []))) e))

-- the first key that a path misses isn't there
first-missing : (t : Tree) (p : Path) (names : List (List ℕ)) (name : List ℕ) (rest : List (List ℕ)) → missing t p names ≡ name ∷ rest → has_child t
    (last_there t p names) name ≡ false
first-missing t p [] name rest e = absurd (cc)
first-missing t p (n ∷ names) name rest e = by (has_child t p n) refl e (first-missing t (child_path p n) names name rest)
  where
    by : (b : Bool) → has_child t p n ≡ b → cond b (missing t (child_path p n) names) (n ∷ names) ≡ name ∷ rest →
        (missing t (child_path p n) names ≡ name ∷ rest → has_child t (last_there t (child_path p n) names) name ≡ false) →
        has_child t (cond b (last_there t (child_path p n) names) p) name ≡ false
    by true is e next = next e
    by false is e next = let same : n ≡ name = cc in subst (λ (x : List ℕ). has_child t p x ≡ false) same is

-- ---- keys removed

-- some of the removed keys hit the watch
abbrev among : Tree → (Path → Bool) → Watch → Bool
among t gone v = list_any (λ (q : Path). gone q && is_hit v (event_at NAME (above q))) (keys t)

any-among : (gone : Path → Bool) (v : Watch) (ks : List Path) →
    list_any (is_hit v) (map (λ (q : Path). event_at NAME (above q)) (filter gone ks)) ≡ list_any
    (λ (q : Path). gone q && is_hit v (event_at NAME (above q))) ks
any-among gone v [] = refl
any-among gone v (q ∷ ks) = by (gone q) (any-among gone v ks)
  where
    by : (b : Bool) → list_any (is_hit v) (map (λ (q : Path). event_at NAME (above q)) (filter gone ks)) ≡ list_any
        (λ (q : Path). gone q && is_hit v (event_at NAME (above q))) ks →
        list_any (is_hit v) (map (λ (q : Path). event_at NAME (above q)) (cond b (q ∷ filter gone ks) (filter gone ks))) ≡
        ((b && is_hit v (event_at NAME (above q))) || list_any (λ (q : Path). gone q && is_hit v (event_at NAME (above q))) ks)
    by true rest = ap (λ (b : Bool). is_hit v (event_at NAME (above q)) || b) rest
    by false rest = rest

not_both : (a b : Bool) → (a ≡ true → b ≡ true → ⊥) → (a && b) ≡ false
not_both true true f = absurd (f refl refl)
not_both true false f = refl
not_both false b f = refl

-- where no key that passes hits, none is among them
none-among : (t : Tree) (gone : Path → Bool) (v : Watch) → ((q : Path) → contains_key t q ≡ true → gone q ≡ true → is_hit v (event_at NAME (above q)) ≡ true →
    ⊥) → among t gone v ≡ false
none-among t gone v none = all-fail t (λ (q : Path). gone q && is_hit v (event_at NAME (above q))) (λ q there. not_both _ _ (none q there))

-- and a key that passes and hits is
one-among : (t : Tree) (gone : Path → Bool) (v : Watch) (q : Path) → contains_key t q ≡ true → gone q ≡ true → is_hit v (event_at NAME (above q)) ≡ true →
    among t gone v ≡ true
one-among t gone v q there is hit = by (among t gone v) refl
  where
    by : (b : Bool) → among t gone v ≡ b → among t gone v ≡ true
    by true e = e
    by false e = absurd (false≢true (sym (none-passes t (λ (q : Path). gone q && is_hit v (event_at NAME (above q))) q e there) ∙ and_from _ _ is hit))

by-either : (a b : Bool) → (a ≡ true → b ≡ true) → (a ≡ false → b ≡ false) → a ≡ b
by-either true b f g = sym (f refl)
by-either false b f g = sym (g refl)

module _ (t : Tree) (v : Watch) (p : Path) where
  -- a branch: the watch isn't in it
  module _ (apart : is_within p v.path ≡ false) where
    in_branch : (x : List ℕ) (xs : Path) → p ≡ x ∷ xs → (q : Path) → is_within p q ≡ true → HitAt v (above q) → HitAt v (above p)
    in_branch x xs is q within hit = by (within-rest p q within)
      where
        rest_of : Path
        rest_of = drop (length p) q

        deeper : (front : Path) (name : List ℕ) → q ≡ (p ++ front) ++ name ∷ [] → HitAt v (above q) → HitAt v (above p)
        deeper front name e h = at_front (subst (HitAt v) (ap above e ∙ above-push (p ++ front) name) h)
          where
            ends : (z : Path) → p ≡ v.path ++ z → v.subtree ≡ true → HitAt v (above p)
            ends [] same s = absurd (false≢true (sym apart ∙ subst (λ (r : Path). is_within p r ≡ true) (same ∙ append-nil v.path) (within-self p)))
            ends (y ∷ ys) same s =
                let c = snoc y ys in
                below s c.front (ap above (same ∙ ap (λ (r : Path). v.path ++ r) c.is ∙ sym (append_assoc v.path c.front (c.name ∷ []))) ∙ above-push
                (v.path ++ c.front) c.name)

            either : v.subtree ≡ true → ((z : Path) × (p ≡ v.path ++ z)) ⊎ ((z : Path) × (v.path ≡ p ++ z)) → HitAt v (above p)
            either s (inl l) = ends l.0 l.1 s
            either s (inr r) = absurd (false≢true (sym apart ∙ subst (λ (x : Path). is_within p x ≡ true) (sym r.1) (within-append p r.0)))

            at_front : HitAt v (p ++ front) → HitAt v (above p)
            at_front (at e) = absurd (false≢true (sym apart ∙ subst (λ (x : Path). is_within p x ≡ true) (sym e) (within-append p front)))
            at_front (below s rest e) = either s (fronts v.path p rest front (sym e))

        by : q ≡ p ++ rest_of → HitAt v (above p)
        by e = at_rest rest_of e
          where
            at_rest : (r : Path) → q ≡ p ++ r → HitAt v (above p)
            at_rest [] e = subst (HitAt v) (ap above (e ∙ append-nil p)) hit
            at_rest (y ∷ ys) e =
                let c = snoc y ys in
                deeper c.front c.name (e ∙ ap (λ (r : Path). p ++ r) c.is ∙ sym (append_assoc p c.front (c.name ∷ []))) hit

    pub few-branch : (x : List ℕ) (xs : Path) → p ≡ x ∷ xs → Has t p →
        list_any (is_hit v) (event_at NAME (above p) ∷ []) ≡ list_any (is_hit v) (removals t (is_within p))
    few-branch x xs is there = by (is_hit v (event_at NAME (above p))) refl ∙ sym (any-among (is_within p) v (keys t))
      where
        by : (b : Bool) → is_hit v (event_at NAME (above p)) ≡ b → (is_hit v (event_at NAME (above p)) || false) ≡ among t (is_within p) v
        by true e = ap (λ (b : Bool). b || false) e ∙ sym (one-among t (is_within p) v p there (within-self p) e)
        by false e = ap (λ (b : Bool). b || false) e ∙ sym (none-among t (is_within p) v (λ q held within hit.
            let h = hit-parts v NAME (above q) hit in
            false≢true (sym e ∙ hit-from v NAME (above p) (record { kind = h.kind; place = in_branch x xs is q within h.place }))))

  -- what is below a key: the watch isn't below it
  module _ (i : IsTree t) (apart : is_under p v.path ≡ false) where
    in_contents : (q : Path) → is_under p q ≡ true → HitAt v (above q) → HitAt v p
    in_contents q under hit =
        let r = under-rest p q under in
        let c = snoc r.0 r.1 in
        at_front c.front (subst (HitAt v) (ap above (r.2 ∙ ap (λ (r : Path). p ++ r) c.is ∙ sym (append_assoc p c.front (c.name ∷ []))) ∙ above-push
        (p ++ c.front) c.name) hit)
      where
        same_or : (z : Path) → v.path ≡ p ++ z → HitAt v p
        same_or [] e = at (e ∙ append-nil p)
        same_or (y ∷ ys) e = absurd (false≢true (sym apart ∙ subst (λ (x : Path). is_under p x ≡ true) (sym e) (under-append p y ys)))

        either : v.subtree ≡ true → ((z : Path) × (p ≡ v.path ++ z)) ⊎ ((z : Path) × (v.path ≡ p ++ z)) → HitAt v p
        either s (inl l) = below s l.0 l.1
        either s (inr r) = same_or r.0 r.1

        at_front : (front : Path) → HitAt v (p ++ front) → HitAt v p
        at_front front (at e) = same_or front e
        at_front front (below s rest e) = either s (fronts v.path p rest front (sym e))

    abbrev has_under : Bool
    has_under = list_any (is_under p) (keys t)

    -- where a key is below p, one is right below it
    right_below : is_hit v (event_at NAME p) ≡ true → among t (is_under p) v ≡ false → has_under ≡ false
    right_below hit none = all-fail t (is_under p) (λ q held. by q held (is_under p q) refl)
      where
        by : (q : Path) → contains_key t q ≡ true → (b : Bool) → is_under p q ≡ b → is_under p q ≡ false
        by q held false e = e
        by q held true e =
            let r = under-rest p q e in
            let child : Has t (p ++ r.0 ∷ []) = held-above t i (p ++ r.0 ∷ []) r.1 (subst (Has t) (r.2 ∙ sym (append_assoc p (r.0 ∷ []) r.1)) held) in
            absurd (false≢true (sym none ∙ one-among t (is_under p) v (p ++ r.0 ∷ []) child (under-append p r.0 [])
            (subst (λ (x : Path). is_hit v (event_at NAME x) ≡ true) (sym (above-push p r.0)) hit)))

    pub few-contents : list_any (is_hit v) (few_removals t p) ≡ list_any (is_hit v) (removals t (is_under p))
    few-contents = by has_under refl ∙ sym (any-among (is_under p) v (keys t))
      where
        with_some : (h : Bool) → is_hit v (event_at NAME p) ≡ h → (a : Bool) → among t (is_under p) v ≡ a → has_under ≡ true → (h || false) ≡ a
        with_some true hit true some e = refl
        with_some true hit false none e = absurd (false≢true (sym (right_below hit none) ∙ e))
        with_some false not_hit true some e = absurd (false≢true (sym (none-among t (is_under p) v (λ q held under hit.
            let h = hit-parts v NAME (above q) hit in
            false≢true (sym not_hit ∙ hit-from v NAME p (record { kind = h.kind; place = in_contents q under h.place })))) ∙ some))
        with_some false not_hit false none e = refl

        by : (b : Bool) → has_under ≡ b → list_any (is_hit v) (cond b (event_at NAME p ∷ []) []) ≡ among t (is_under p) v
        by true e = with_some (is_hit v (event_at NAME p)) refl (among t (is_under p) v) refl e
        by false e = sym (none-among t (is_under p) v (λ q held under hit. false≢true (sym (none-passes t (is_under p) q e held) ∙ under)))

-- ---- the few events of a change

not_root : (p : Path) → same_path [] p ≡ false → (x : List ℕ) × (xs : Path) × (p ≡ x ∷ xs)
not_root [] e = absurd (false≢true (sym e))
not_root (x ∷ xs) e = (x, xs, refl)

module _ (s : State) (e : Entry) (v : Watch) (i : IsTree s.world.tree) (there : Has s.world.tree v.path) where
  abbrev few_are : Change → Type 0
  few_are change = removes s.world (record e { change = change }) v.path ≡ false →
      list_any (is_hit v) (few_events s.world (record e { change = change })) ≡ list_any (is_hit v) (events s.world (record e { change = change }))

  few-tree : (h : ℕ) (path : List ℕ) → DeleteTreeMet s e.session h path → (b : Bool) → (length path == 0) ≡ b →
      cond b (is_under (path_at e.session h s.world.handles) v.path) (is_within (path_from e.session h s.world.handles path) v.path) ≡ false →
      list_any (is_hit v) (cond b (few_removals s.world.tree (path_at e.session h s.world.handles) ++ cleared s.world.tree
      (path_at e.session h s.world.handles))
      (event_at NAME (above (path_from e.session h s.world.handles path)) ∷ [])) ≡
      list_any (is_hit v) (cond b (removals s.world.tree (is_under (path_at e.session h s.world.handles)) ++ cleared s.world.tree
      (path_at e.session h s.world.handles))
      (removals s.world.tree (is_within (path_from e.session h s.world.handles path))))
  few-tree h path met true empty apart =
      let p = path_at e.session h s.world.handles in
      list_any-append (is_hit v) (few_removals s.world.tree p) (cleared s.world.tree p)
      ∙ ap (λ (b : Bool). b || list_any (is_hit v) (cleared s.world.tree p)) (few-contents s.world.tree v p i apart)
      ∙ sym (list_any-append (is_hit v) (removals s.world.tree (is_under p)) (cleared s.world.tree p))
  few-tree h path met false longer apart =
      let p = path_from e.session h s.world.handles path in
      let branch = met.branch longer in
      let cut = not_root p (path-below (path_at e.session h s.world.handles) path longer) in
      few-branch s.world.tree v p apart cut.0 cut.1 cut.2 branch.there

  pub few-same : (c : ℕ) → change_cause s e.session e.change c ≡ None → few_are e.change
  unfolding events few_events removes
  few-same c = elim e.change as (λ (change : Change). change_cause s e.session change c ≡ None → few_are change) [
    | OpenRoot mask ↦ λ none apart. refl
    | OpenKey h path mask ↦ λ none apart. refl
    | CreateKey h path mask given ↦ λ none apart.
        let p = path_at e.session h s.world.handles in
        few-made s.world.tree i v there (last_there s.world.tree p (path_of path)) (missing s.world.tree p (path_of path))
        (first-missing s.world.tree p (path_of path))
    | SetValue h name kind bytes ↦ λ none apart. refl
    | DeleteValue h name ↦ λ none apart. refl
    | DeleteKey h path ↦ λ none apart. refl
    | DeleteTree h path ↦ λ none apart. few-tree h path (delete-tree-met s e.session h path c none) (length path == 0) refl apart
    | SetSecurity h descriptor ↦ λ none apart. refl
    | Notify h filter subtree ↦ λ none apart. refl
    | Close h ↦ λ none apart. refl
  ]

  reason-by : (gone closed few all : Bool) → (gone ≡ false → few ≡ all) →
      cond gone (Some Gone) (cond closed (Some Closed) (cond few (Some Matched) None)) ≡ cond gone (Some Gone)
      (cond closed (Some Closed) (cond all (Some Matched) None))
  reason-by true closed few all f = refl
  reason-by false closed few all f = ap (λ (b : Bool). cond closed (Some Closed) (cond b (Some Matched) None)) (f refl)

  -- a change ends the watch by few of its events as by all
  pub few-reason : (c : ℕ) → change_cause s e.session e.change c ≡ None → reason (few_ending s.world e) v ≡ reason (ending s.world e) v
  unfolding reason ending few_ending
  few-reason c none = reason-by (removes s.world e v.path) (is_closed (closing e) v.handle) _ _ (few-same c none)
