-- What the values of a key that are told make of the values of one.
use Rattle.std.proofs.Common.{◌≡◌, ℕ, not, Bool, true, false, cond, is_some, List, Option, Some, None, IsSome, refl, sym, ap, ◌∙◌, subst}
use Rattle.std.proofs.Common.{◌⊎◌, inl, inr}
use Rattle.std.specs.Prelude.{bytes_eq}
use Rattle.std.specs.FinMap.{get}
use Rattle.std.proofs.lemmas.Bool.{false≢true}
use Rattle.std.proofs.lemmas.Slice.Eq.{bytes_eq-Decides}
use Rattle.reg_names.specs.Names.{folded}
use Rattle.reg_heap.specs.Paths.{Path, Rec, Member}
use Rattle.reg_heap.specs.Members.{same_name, value_named}
use Rattle.reg_heap.specs.Edits.{values_of, values_at, edited, with_value}
use Rattle.reg_heap.specs.Trees.{IsTree, NamesDiffer}
use Rattle.reg_model.proofs.TreesOfChanges.{some-of}
use Rattle.reg_diff.specs.Differences.{same_member}
use Rattle.reg_diff.proofs.SameValues.{same_member-Decides, named-itself}
use Rattle.reg_dotreg_writer.specs.Changes.{is_kept, is_told}
use Rattle.reg_dotreg_writer.specs.declared.side.Side.{Side}
use Rattle.reg_dotreg_writer.specs.declared.side.Side.TheVariants.{Old, New}
use Rattle.reg_dotreg_reader.specs.declared.entry.Entry.TheVariants.{Value, GoneValue}
use Rattle.reg_dotreg_import.specs.Imports.{Stand, after_entry, without_any_value}
use Rattle.reg_dotreg_law.specs.ChangesDue.{value_entry_of}
use Rattle.reg_dotreg_law.proofs.SeenKeys.{seen, is_same}
use Rattle.reg_dotreg_law.proofs.NamedValues.{same-folded, named-same, picked-value, spelt}
use Rattle.reg_dotreg_law.proofs.TreeSteps.{edited-else, edited-has, lost-tree, lost-has, lost-else, lost-same, lost-other}
use Rattle.reg_dotreg_law.proofs.TreeSteps.{set-tree, set-same, set-other}
use Rattle.reg_dotreg_law.proofs.RunsOver.{runs, way-end, each-hit}

-- ---- one value

-- where the entry of a value leads, if that is told
abbrev pub one : ℕ → Side → Option Rec → Stand → Member → Stand
one moment side o s v = cond (is_told o side v) (after_entry moment s (value_entry_of side v)) s

pub either : (P : Stand → Type 0) (b : Bool) (s t : Stand) → P s → P t → P (cond b s t)
either P true s t h k = h
either P false s t h k = k

module _ (moment : ℕ) where
  pub one-tree : (side : Side) (o : Option Rec) (s : Stand) (v : Member) → IsTree s.tree → IsTree (one moment side o s v).tree
  one-tree Old o s v i =
      either (λ (u : Stand). IsTree u.tree) (is_told o Old v) (after_entry moment s (GoneValue v.name)) s
      (lost-tree moment s.tree s.here v.name i) i
  one-tree New o s v i =
      either (λ (u : Stand). IsTree u.tree) (is_told o New v) (after_entry moment s (Value v.name v.kind v.bytes)) s
      (set-tree moment s.tree s.here v.name v.kind v.bytes i) i

  pub one-here : (side : Side) (o : Option Rec) (s : Stand) (v : Member) → (one moment side o s v).here ≡ s.here
  one-here Old o s v = either (λ (u : Stand). u.here ≡ s.here) (is_told o Old v) (after_entry moment s (GoneValue v.name)) s refl refl
  one-here New o s v =
      either (λ (u : Stand). u.here ≡ s.here) (is_told o New v) (after_entry moment s (Value v.name v.kind v.bytes)) s refl refl

  pub one-has : (side : Side) (o : Option Rec) (s : Stand) (v : Member) (x : Path) →
      is_some (get (one moment side o s v).tree x) ≡ is_some (get s.tree x)
  one-has Old o s v x =
      either (λ (u : Stand). is_some (get u.tree x) ≡ is_some (get s.tree x)) (is_told o Old v) (after_entry moment s (GoneValue v.name)) s
      (lost-has moment s.tree s.here v.name x) refl
  one-has New o s v x =
      either (λ (u : Stand). is_some (get u.tree x) ≡ is_some (get s.tree x)) (is_told o New v)
      (after_entry moment s (Value v.name v.kind v.bytes)) s (edited-has s.tree s.here (with_value v.name v.kind v.bytes moment) x) refl

  pub one-else : (side : Side) (o : Option Rec) (s : Stand) (v : Member) (x : Path) → is_same x s.here ≡ false →
      seen (one moment side o s v).tree x ≡ seen s.tree x
  one-else Old o s v x other =
      either (λ (u : Stand). seen u.tree x ≡ seen s.tree x) (is_told o Old v) (after_entry moment s (GoneValue v.name)) s
      (lost-else moment s.tree s.here v.name x other) refl
  one-else New o s v x other =
      either (λ (u : Stand). seen u.tree x ≡ seen s.tree x) (is_told o New v) (after_entry moment s (Value v.name v.kind v.bytes)) s
      (edited-else s.tree s.here (with_value v.name v.kind v.bytes moment) x other) refl

-- ---- what stays of a value of the old tree, once what is gone has gone

abbrev pub kept : Option Member → Option Member → Option Member
kept None b = None
kept (Some m) b = cond (is_kept b Old m) (Some m) None

pub kept-none : (a : Option Member) → kept a None ≡ None
kept-none None = refl
kept-none (Some m) = refl

turned : (b : Bool) (v : Member) → cond b (Some v) None ≡ cond (not b) None (Some v)
turned true v = refl
turned false v = refl

-- each value of a list is found by its name
abbrev pub IsFound : List Member → Member → Type 0
IsFound vs v = value_named v.name vs ≡ Some v

module _ (moment : ℕ) (n : List ℕ) (p : Path) where
  abbrev pub val : Stand → Option Member
  val s = value_named n (values_at s.tree p)

  -- ---- the old tree's values

  module _ (vs : List Member) (other : Rec) where
    abbrev old_was : Option Member
    old_was = value_named n vs

    abbrev old_stays : Option Member
    old_stays = kept old_was (value_named n other.values)

    abbrev IsAt : Stand → Type 0
    IsAt s = IsTree s.tree × (s.here ≡ p)

    found-old : (v : Member) → IsFound vs v → folded v.name ≡ folded n → old_was ≡ Some v
    found-old v ok f = sym (named-same v.name n vs f) ∙ ok

    becomes : (v : Member) → IsFound vs v → folded v.name ≡ folded n → old_stays ≡ cond (is_told (Some other) Old v) None (Some v)
    becomes v ok f =
        ap (λ (x : Option Member). kept x (value_named n other.values)) (found-old v ok f)
        ∙ (ap (λ (x : Option Member). cond (is_kept x Old v) (Some v) None) (sym (named-same v.name n other.values f))
        ∙ turned (is_kept (value_named v.name other.values) Old v) v)

    gone : (s : Stand) (v : Member) → IsAt s → IsFound vs v → folded v.name ≡ folded n → is_told (Some other) Old v ≡ true →
        val (after_entry moment s (GoneValue v.name)) ≡ old_stays
    gone s v h ok f e =
        subst (λ (q : Path). value_named n (values_at (without_any_value s.tree q v.name moment) p) ≡ None) (sym h.1)
        (lost-same moment s.tree p v.name n h.0 f)
        ∙ sym (becomes v ok f ∙ ap (λ (b : Bool). cond b None (Some v)) e)

    elsewhere : (s : Stand) (v : Member) → IsAt s → same_name v.name n ≡ false → val (after_entry moment s (GoneValue v.name)) ≡ val s
    elsewhere s v h other =
        subst (λ (q : Path). value_named n (values_at (without_any_value s.tree q v.name moment) p) ≡ val s) (sym h.1)
        (lost-other moment s.tree p v.name n other)

    abbrev old_one : Stand → Member → Stand
    old_one = one moment Old (Some other)

    old-keep : (s : Stand) (v : Member) → IsFound vs v → IsAt s → IsAt (old_one s v)
    old-keep s v ok h = (one-tree moment Old (Some other) s v h.0, one-here moment Old (Some other) s v ∙ h.1)

    abbrev IsOldWay : Stand → Type 0
    IsOldWay s = (val s ≡ old_was) ⊎ (val s ≡ old_stays)

    old-goes : (s : Stand) (v : Member) → IsFound vs v → IsAt s → IsOldWay s → (val (old_one s v) ≡ val s) ⊎ (val (old_one s v) ≡ old_stays)
    old-goes s v ok h w = by (is_told (Some other) Old v) refl
      where
        named : is_told (Some other) Old v ≡ true → (b : Bool) → same_name v.name n ≡ b →
            (val (after_entry moment s (GoneValue v.name)) ≡ val s) ⊎ (val (after_entry moment s (GoneValue v.name)) ≡ old_stays)
        named e true f = inr (gone s v h ok (same-folded v.name n f) e)
        named e false f = inl (elsewhere s v h f)

        by : (b : Bool) → is_told (Some other) Old v ≡ b →
            (val (cond b (after_entry moment s (GoneValue v.name)) s) ≡ val s)
            ⊎ (val (cond b (after_entry moment s (GoneValue v.name)) s) ≡ old_stays)
        by true e = named e (same_name v.name n) refl
        by false e = inl refl

    old-hit : (s : Stand) (v : Member) → IsFound vs v → IsAt s → IsOldWay s → same_name v.name n ≡ true → val (old_one s v) ≡ old_stays
    old-hit s v ok h w t = by (is_told (Some other) Old v) refl w
      where
        by : (b : Bool) → is_told (Some other) Old v ≡ b → IsOldWay s → val (cond b (after_entry moment s (GoneValue v.name)) s) ≡ old_stays
        by true e w = gone s v h ok (same-folded v.name n t) e
        by false e (inl was) =
            was ∙ (found-old v ok (same-folded v.name n t)
            ∙ sym (becomes v ok (same-folded v.name n t) ∙ ap (λ (b : Bool). cond b None (Some v)) e))
        by false e (inr stays) = stays

    -- in the end just those stay whose names the other key has, spelt alike
    pub old-values : NamesDiffer vs → (s : Stand) → IsTree s.tree → s.here ≡ p → IsOldWay s → val (runs Member old_one s vs) ≡ old_stays
    old-values d s i at w = by (value_named n vs) refl
      where
        none : old_was ≡ None → IsOldWay (runs Member old_one s vs) → val (runs Member old_one s vs) ≡ old_stays
        none e (inl was) = was ∙ (e ∙ sym (ap (λ (x : Option Member). kept x (value_named n other.values)) e))
        none e (inr stays) = stays

        by : (x : Option Member) → value_named n vs ≡ x → val (runs Member old_one s vs) ≡ old_stays
        by None e =
            none e (way-end Member (Option Member) old_one (IsFound vs) (λ (v : Member). same_name v.name n ≡ true) IsAt
            val old_was old_stays
            old-keep old-goes vs (named-itself vs d) s (i, at) w)
        by (Some m) e =
            let picked = picked-value (λ (v : Member). same_name v.name n ≡ true → val (runs Member old_one s vs) ≡ old_stays) n vs m e
            (each-hit Member (Option Member) old_one (IsFound vs) (λ (v : Member). same_name v.name n ≡ true) IsAt val old_was old_stays
            old-keep old-goes old-hit vs (named-itself vs d) s (i, at) w) in
            picked.0 picked.1

  -- ---- the new tree's values

  module _ (vs : List Member) (o : Option Rec) where
    abbrev new_is : Option Member
    new_is = value_named n vs

    abbrev new_was : Option Member
    new_was = kept (value_named n (values_of o)) new_is

    abbrev IsOpenAt : Stand → Type 0
    IsOpenAt s = IsTree s.tree × (s.here ≡ p) × IsSome (get s.tree p)

    abbrev IsNewWay : Stand → Type 0
    IsNewWay s = (val s ≡ new_was) ⊎ (val s ≡ new_is)

    found-new : (v : Member) → IsFound vs v → folded v.name ≡ folded n → new_is ≡ Some v
    found-new v ok f = sym (named-same v.name n vs f) ∙ ok

    kept-name : (x : Option Member) (v : Member) → spelt (kept x (Some v)) v.name ≡ v.name
    kept-name None v = refl
    kept-name (Some m) v = by (bytes_eq m.name v.name) refl
      where
        by : (b : Bool) → bytes_eq m.name v.name ≡ b → spelt (cond b (Some m) None) v.name ≡ v.name
        by true e = (bytes_eq-Decides m.name v.name).0 e
        by false e = refl

    spelt-same : (s : Stand) (v : Member) → new_is ≡ Some v → IsNewWay s → spelt (val s) v.name ≡ v.name
    spelt-same s v same (inl was) =
        ap (λ (x : Option Member). spelt x v.name) (was ∙ ap (λ (x : Option Member). kept (value_named n (values_of o)) x) same)
        ∙ kept-name (value_named n (values_of o)) v
    spelt-same s v same (inr is) = ap (λ (x : Option Member). spelt x v.name) (is ∙ same)

    put : (s : Stand) (v : Member) → IsOpenAt s → IsFound vs v → folded v.name ≡ folded n → IsNewWay s →
        val (after_entry moment s (Value v.name v.kind v.bytes)) ≡ new_is
    put s v h ok f w =
        let found = some-of (get s.tree p) h.2 in
        let same : new_is ≡ Some v = found-new v ok f in
        let name : spelt (value_named n found.0.values) v.name ≡ v.name =
        sym (ap (λ (x : Option Rec). spelt (value_named n (values_of x)) v.name) found.1) ∙ spelt-same s v same w in
        subst (λ (q : Path). value_named n (values_at (edited s.tree q (with_value v.name v.kind v.bytes moment)) p) ≡ Some v) (sym h.1)
        (set-same moment s.tree p v.name v.kind v.bytes n found.0 found.1 f
        ∙ ap (λ (x : List ℕ). Some (record { name = x; kind = v.kind; bytes = v.bytes })) name)
        ∙ sym same

    leaves : (s : Stand) (v : Member) → IsOpenAt s → same_name v.name n ≡ false →
        val (after_entry moment s (Value v.name v.kind v.bytes)) ≡ val s
    leaves s v h other =
        let found = some-of (get s.tree p) h.2 in
        subst (λ (q : Path). value_named n (values_at (edited s.tree q (with_value v.name v.kind v.bytes moment)) p) ≡ val s) (sym h.1)
        (set-other moment s.tree p v.name v.kind v.bytes n found.0 found.1 other
        ∙ sym (ap (λ (x : Option Rec). value_named n (values_of x)) found.1))

    -- a value that isn't told is the same in both
    untold : (x : Option Rec) (v : Member) → IsFound vs v → folded v.name ≡ folded n → is_told x New v ≡ false →
        kept (value_named n (values_of x)) new_is ≡ new_is
    untold None v ok f e = absurd (false≢true (sym e))
    untold (Some r) v ok f e = by (value_named v.name r.values) refl e
      where
        equal : (b : Bool) → not b ≡ false → b ≡ true
        equal true t = refl
        equal false t = absurd (false≢true (sym t))

        itself : kept (Some v) (Some v) ≡ Some v
        itself = ap (λ (b : Bool). cond b (Some v) None) ((bytes_eq-Decides v.name v.name).1 refl)

        by : (y : Option Member) → value_named v.name r.values ≡ y → not (is_kept y New v) ≡ false →
            kept (value_named n r.values) new_is ≡ new_is
        by None g t = absurd (false≢true (sym t))
        by (Some m) g t =
            let same : v ≡ m = (same_member-Decides v m).0 (equal (same_member v m) t) in
            let was : value_named n r.values ≡ Some v =
            sym (named-same v.name n r.values f) ∙ (g ∙ ap (λ (z : Member). Some z) (sym same)) in
            let is : new_is ≡ Some v = found-new v ok f in
            ap (λ (z : Option Member). kept z new_is) was ∙ (ap (λ (z : Option Member). kept (Some v) z) is ∙ (itself ∙ sym is))

    abbrev new_one : Stand → Member → Stand
    new_one = one moment New o

    new-keep : (s : Stand) (v : Member) → IsFound vs v → IsOpenAt s → IsOpenAt (new_one s v)
    new-keep s v ok h = (one-tree moment New o s v h.0, one-here moment New o s v ∙ h.1, one-has moment New o s v p ∙ h.2)

    new-goes : (s : Stand) (v : Member) → IsFound vs v → IsOpenAt s → IsNewWay s →
        (val (new_one s v) ≡ val s) ⊎ (val (new_one s v) ≡ new_is)
    new-goes s v ok h w = by (is_told o New v)
      where
        named : (b : Bool) → same_name v.name n ≡ b →
            (val (after_entry moment s (Value v.name v.kind v.bytes)) ≡ val s)
            ⊎ (val (after_entry moment s (Value v.name v.kind v.bytes)) ≡ new_is)
        named true f = inr (put s v h ok (same-folded v.name n f) w)
        named false f = inl (leaves s v h f)

        by : (b : Bool) → (val (cond b (after_entry moment s (Value v.name v.kind v.bytes)) s) ≡ val s)
            ⊎ (val (cond b (after_entry moment s (Value v.name v.kind v.bytes)) s) ≡ new_is)
        by true = named (same_name v.name n) refl
        by false = inl refl

    new-hit : (s : Stand) (v : Member) → IsFound vs v → IsOpenAt s → IsNewWay s → same_name v.name n ≡ true → val (new_one s v) ≡ new_is
    new-hit s v ok h w t = by (is_told o New v) refl w
      where
        by : (b : Bool) → is_told o New v ≡ b → IsNewWay s → val (cond b (after_entry moment s (Value v.name v.kind v.bytes)) s) ≡ new_is
        by true e w = put s v h ok (same-folded v.name n t) w
        by false e (inl was) = was ∙ untold o v ok (same-folded v.name n t) e
        by false e (inr is) = is

    -- in the end the key has just these
    pub new-values : NamesDiffer vs → (s : Stand) → IsTree s.tree → s.here ≡ p → IsSome (get s.tree p) → IsNewWay s →
        val (runs Member new_one s vs) ≡ new_is
    new-values d s i at there w = by (value_named n vs) refl
      where
        none : new_is ≡ None → IsNewWay (runs Member new_one s vs) → val (runs Member new_one s vs) ≡ new_is
        none e (inl was) =
            was ∙ (ap (λ (x : Option Member). kept (value_named n (values_of o)) x) e ∙ (kept-none (value_named n (values_of o)) ∙ sym e))
        none e (inr is) = is

        by : (x : Option Member) → value_named n vs ≡ x → val (runs Member new_one s vs) ≡ new_is
        by None e =
            none e (way-end Member (Option Member) new_one (IsFound vs) (λ (v : Member). same_name v.name n ≡ true) IsOpenAt
            val new_was new_is
            new-keep new-goes vs (named-itself vs d) s (i, at, there) w)
        by (Some m) e =
            let picked = picked-value (λ (v : Member). same_name v.name n ≡ true → val (runs Member new_one s vs) ≡ new_is) n vs m e
            (each-hit Member (Option Member) new_one (IsFound vs) (λ (v : Member). same_name v.name n ≡ true) IsOpenAt val new_was new_is
            new-keep new-goes new-hit vs (named-itself vs d) s (i, at, there) w) in
            picked.0 picked.1
