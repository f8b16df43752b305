-- A journal that begins anew: no handle is open, so no watch is pending, and what was told stays told.
use Rattle.std.proofs.Common.{◌≡◌, ℕ, zero, suc, ◌+◌, ◌≤◌, ◌++◌, Bool, true, false, cond, List, [], ◌∷◌, length, Some, None, refl, sym, ap, ◌∙◌, subst, arith}
use Rattle.std.specs.Prelude.{nat_lt, slice_index_or}
use Rattle.std.specs.List.{AllByRecursion}
use Rattle.std.proofs.lemmas.List.{append-nil}
use Rattle.std.proofs.lemmas.Bool.Decides.{nat_tests}
use Rattle.reg_heap.specs.Paths.{Tree}
use Rattle.reg_heap.specs.Trees.{IsTree, IsWithinLimits}
use Rattle.reg_model.specs.declared.limits.TheConstants.{NUMBERS_LIMIT}
use Rattle.reg_model.specs.Worlds.{Handle, numbered}
use Rattle.reg_model.specs.Watches.{Watch, IsWatching}
use Rattle.reg_model.specs.Histories.{replay, pending, fired}
use Rattle.reg_model.specs.declared.notice.Notice.{Notice}
use Rattle.reg_model.specs.declared.reply.Entry.{Entry}
use Rattle.reg_model.proofs.PendingWatches.{watches-all}
use Rattle.reg_journal.specs.Kept.{Seat, IsCurrent}
use Rattle.reg_tree.specs.TreeKeys.{Keys}
use Rattle.reg_notify.specs.Tables.{Table, told_to, taken_by}
use Rattle.reg_calls.specs.declared.cut.CutFault.TheVariants.{HandlesOpen, Numbers}
use Rattle.reg_calls.specs.declared.store.Store.{Store}
use Rattle.reg_calls.specs.declared.quiet.Quiet.{Quiet}
use Rattle.reg_calls.specs.Internal.QuietKeys.{AreUnhit}
use Rattle.reg_calls.specs.Views.{HiveInvariant, View, before_of, view_with, next_of, IsHive}
use Rattle.reg_calls.specs.Cuts.{fault_of_cut, IsCut}
use Rattle.reg_calls.specs.Seats.{AreSeated}
use Rattle.reg_calls.proofs.HiveInvariantLemmas.{kept-at}

-- ---- where nothing stands against it

clear-by : (a b : Bool) (n : ℕ) → cond a (Some (HandlesOpen n)) (cond b (Some Numbers) None) ≡ None → (a ≡ false) × (b ≡ false)
clear-by true b n e = cc
clear-by false true n e = cc
clear-by false false n e = (refl, refl)

pub clear-handles : (v : View) → fault_of_cut v ≡ None → length v.handles ≡ 0
clear-handles v clear =
    let both = clear-by (nat_lt 0 (length v.handles)) (nat_lt NUMBERS_LIMIT (next_of v)) (length v.handles) clear in
    let few = both.0 in
    grind (arith, nat_tests)

pub clear-numbers : (v : View) → fault_of_cut v ≡ None → next_of v ≤ NUMBERS_LIMIT
clear-numbers v clear =
    let both = clear-by (nat_lt 0 (length v.handles)) (nat_lt NUMBERS_LIMIT (next_of v)) (length v.handles) clear in
    let few = both.1 in
    grind (arith, nat_tests)

pub few-numbers : (origin : Tree) (base : ℕ) (before : List (List Notice)) (es : List Entry) (store : Store) (v : View) → view_with origin base before es store ≡ v →
    fault_of_cut v ≡ None → base + length es ≤ NUMBERS_LIMIT
few-numbers origin base before es store v view_is clear = subst (λ (x : View). next_of x ≤ NUMBERS_LIMIT) (sym view_is) (clear-numbers v clear)

no-elements : {A : Type 0} (xs : List A) → length xs ≡ 0 → xs ≡ []
no-elements [] e = refl
no-elements (x ∷ xs) e = absurd (omega (arith, e))

-- where nobody was told anything before the first entry of all, that may be left out
before-same : (base : ℕ) (told : List (List Notice)) → (base ≡ 0 → (s : ℕ) → slice_index_or told s [] ≡ []) → (s : ℕ) →
    slice_index_or (before_of base told) s [] ≡ slice_index_or told s []
before-same zero told never s = sym (never refl s)
before-same (suc base) told never s = refl

-- who watches has a handle
unwatched : (hs : List Handle) (vs : List Watch) → hs ≡ [] → AllByRecursion (λ (v : Watch). IsWatching hs v) vs → vs ≡ []
unwatched hs [] none all = refl
unwatched hs (v ∷ vs) none all =
    let first = all.0 in
    let found : None ≡ Some first.handle = subst (λ (l : List Handle). numbered v.handle l ≡ Some first.handle) none first.found in
    cc

-- ---- the hive after it

module _ {origin : Tree} {base : ℕ} {before : List (List Notice)} {es : List Entry} {store : Store} {room : ℕ} (kept : HiveInvariant origin base before es store room)
    (v : View) (view_is : view_with origin base before es store ≡ v) (clear : fault_of_cut v ≡ None) (tree : IsTree store.tree.tree) (limits : IsWithinLimits store.tree.tree)
    (keys : Keys) (keys_are : keys ≡ store.tree) (watches : Table) (watches_are : watches ≡ store.watches) (base' : ℕ) (base_is : base' ≡ base + length es)
    (es' : List Entry) (none : es' ≡ []) where
  closed : length store.handles.handles ≡ 0
  closed = subst (λ (x : View). length x.handles ≡ 0) (sym view_is) (clear-handles v clear)

  no-handles : store.handles.handles ≡ []
  no-handles = no-elements store.handles.handles closed

  no-watches : store.watches.pending ≡ []
  no-watches =
      let all = watches-all base origin es kept.hive.legal in
      kept.hive.pending ∙ unwatched (replay origin es).handles (pending origin es) (sym kept.hive.handles ∙ no-handles) all.watching

  told-never : base + length es ≡ 0 → (s : ℕ) → slice_index_or store.watches.told s [] ≡ []
  told-never none s =
      let first : base ≡ 0 = omega (arith, none) in
      kept.hive.told s
      ∙ subst (λ (l : List Entry). slice_index_or (before_of base before) s [] ++ fired origin l s ≡ []) (sym (no-elements es (omega (arith, none))))
      (append-nil (slice_index_or (before_of base before) s []) ∙ ap (λ (n : ℕ). slice_index_or (before_of n before) s []) first)

  told-before : (s : ℕ) → slice_index_or (before_of (base + length es) store.watches.told) s [] ≡ slice_index_or store.watches.told s []
  told-before s = before-same (base + length es) store.watches.told told-never s

  told-still : (s : ℕ) → told_to store.watches s ≡ slice_index_or (before_of (base + length es) store.watches.told) s [] ++ []
  told-still s = sym (append-nil (slice_index_or (before_of (base + length es) store.watches.told) s []) ∙ told-before s)

  hive-cut : IsHive (view_with store.tree.tree (base + length es) store.watches.told [] store)
  hive-cut = record {
    origin = tree;
    limits = limits;
    legal = tt;
    sessions = tt;
    small = omega (arith, closed);
    tree = refl;
    handles = no-handles;
    pending = no-watches;
    told = told-still;
    taken = λ s. subst (λ (ns : List Notice). taken_by store.watches s ≤ length ns) (sym (kept.hive.told s) ∙ told-still s) (kept.hive.taken s);
    sound = kept.hive.sound;
    whole = kept.hive.whole;
  }

  pub kept-cut : (room' : ℕ) → HiveInvariant keys.tree base' watches.told es' store room'
  kept-cut room' =
      let now : HiveInvariant store.tree.tree (base + length es) store.watches.told [] store room' =
      record { hive = hive-cut; room_kept = omega (arith, closed); known = kept.known } in
      subst (λ (k : Keys). HiveInvariant k.tree base' watches.told es' store room') (sym keys_are)
      (subst (λ (w : Table). HiveInvariant store.tree.tree base' w.told es' store room') (sym watches_are) (kept-at base' es' base_is none now))

  new-view : view_with keys.tree base' watches.told es' store ≡ view_with store.tree.tree (base + length es) store.watches.told [] store
  new-view = λ i. view_with (keys_are i).tree (base_is i) (watches_are i).told (none i) store

  pub is-cut : IsCut v (view_with keys.tree base' watches.told es' store)
  is-cut =
      subst (λ (new : View). IsCut v new) (sym new-view)
      (subst (λ (old : View). IsCut old (view_with store.tree.tree (base + length es) store.watches.told [] store)) view_is (record {
        origin = refl;
        base = refl;
        before = λ s. told-before s ∙ kept.hive.told s;
        journal = refl;
        keys = refl;
        handles = refl;
        watches = refl;
        pending = no-watches;
        hive = hive-cut;
      }))

  pub unhit-cut : (quiet : Quiet) → AreUnhit (base + length es) store quiet → AreUnhit (base' + length es') store quiet
  unhit-cut quiet unhit =
      let long = ap (λ (l : List Entry). length l) none in
      let same : base + length es ≡ base' + length es' = omega (arith, long, base_is) in
      subst (λ (n : ℕ). AreUnhit n store quiet) same unhit

-- ---- shares

-- shares in their places stay there, where each stays current
pub seated-cut : (noted noted' : List ℕ) (es es' : List Entry) (shares : List Seat) → ((share : Seat) → IsCurrent noted es share → IsCurrent noted' es' share) →
    AreSeated noted es shares → AreSeated noted' es' shares
seated-cut noted noted' es es' shares stays seated = record {
  many = seated.many;
  all = λ session below.
      let was = seated.all session below in
      record { within = was.within; own = was.own; current = stays _ was.current };
}
