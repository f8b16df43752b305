-- A notice handed out.
use Rattle.std.proofs.Common.{◌≡◌, ℕ, ◌+◌, ◌≤◌, ◌++◌, Bool, true, false, cond, eqb, List, [], length, Option, Some, None, is_some, refl, sym, ap, ◌∙◌, subst, arith}
use Rattle.std.specs.Prelude.{slice_get, slice_index_or, get_or, ◌&&◌}
use Rattle.std.proofs.lemmas.Bool.{eqb-true}
use Rattle.std.proofs.lemmas.Option.{slice_get_within}
use Rattle.reg_heap.specs.Paths.{Tree}
use Rattle.reg_model.specs.Histories.{fired}
use Rattle.reg_model.specs.declared.notice.Notice.{Notice}
use Rattle.reg_model.specs.declared.reply.Entry.{Entry}
use Rattle.reg_notify.specs.Tables.{Table, told_to, taken_by}
use Rattle.reg_calls.specs.declared.store.Store.{Store}
use Rattle.reg_calls.specs.Views.{HiveInvariant, View, before_of, view_with, IsHive, IsNoticeTaken}

-- one more is taken only where there is one
taken-within : (told : List Notice) (taken : ℕ) (o : Option Notice) → o ≡ slice_get told taken → taken ≤ length told →
    cond (is_some o) (taken + 1) taken ≤ length told
taken-within told taken None is most = most
taken-within told taken (Some notice) is most = let within = slice_get_within told taken notice (sym is) in omega (arith, within)

module _ {origin : Tree} {base : ℕ} {before : List (List Notice)} {es : List Entry} {store : Store} {room : ℕ} (kept : HiveInvariant origin base before es store room) (session : ℕ) (notice : Option Notice)
    (is : notice ≡ slice_get (told_to store.watches session) (taken_by store.watches session)) (w : Table)
    (taken : (s : ℕ) → taken_by w s ≡ cond (eqb s session && is_some notice) (taken_by store.watches s + 1) (taken_by store.watches s))
    (told : w.told ≡ store.watches.told) (pending : w.pending ≡ store.watches.pending) where
  abbrev new : Store
  new = record store { watches = w }

  -- all that a session was told
  abbrev all_told : ℕ → List Notice
  all_told s = slice_index_or (before_of base before) s [] ++ fired origin es s

  due : notice ≡ slice_get (all_told session) (taken_by store.watches session)
  due = is ∙ ap (λ (all : List Notice). slice_get all (taken_by store.watches session)) (kept.hive.told session)

  within : (s : ℕ) → taken_by w s ≤ length (all_told s)
  within s = by (eqb s session) refl
    where
      count : Bool → ℕ
      count b = cond (b && is_some notice) (taken_by store.watches s + 1) (taken_by store.watches s)

      by : (b : Bool) → eqb s session ≡ b → taken_by w s ≤ length (all_told s)
      by true e =
          let own = subst (λ (x : ℕ). notice ≡ slice_get (all_told x) (taken_by store.watches x)) (sym (eqb-true s session e)) due in
          subst (λ (n : ℕ). n ≤ length (all_told s)) (sym (taken s ∙ ap count e))
          (taken-within (all_told s) (taken_by store.watches s) notice own (kept.hive.taken s))
      by false e = subst (λ (n : ℕ). n ≤ length (all_told s)) (sym (taken s ∙ ap count e)) (kept.hive.taken s)

  hive-handed : IsHive (view_with origin base before es new)
  hive-handed = record {
    origin = kept.hive.origin;
    limits = kept.hive.limits;
    legal = kept.hive.legal;
    sessions = kept.hive.sessions;
    small = kept.hive.small;
    tree = kept.hive.tree;
    handles = kept.hive.handles;
    pending = pending ∙ kept.hive.pending;
    told = λ s. ap (λ (t : List (List Notice)). get_or t s []) told ∙ kept.hive.told s;
    taken = within;
    sound = kept.hive.sound;
    whole = kept.hive.whole;
  }

  pub kept-handed : HiveInvariant origin base before es new room
  kept-handed = record { hive = hive-handed; room_kept = kept.room_kept; known = kept.known }

  pub is-handed : (v : View) → view_with origin base before es store ≡ v → IsNoticeTaken v (view_with origin base before es new) session notice
  is-handed v e = subst (λ (x : View). IsNoticeTaken x (view_with origin base before es new) session notice) e (record {
    next = due;
    taken = taken;
    origin = refl;
    base = refl;
    before = refl;
    journal = refl;
    keys = refl;
    handles = refl;
    pending = pending;
    told = told;
    hive = hive-handed;
  })
