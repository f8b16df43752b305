-- What a session was told, and what of it is kept back.
use Rattle.std.proofs.Common.{◌≡◌, ℕ, ◌+◌, ◌∙◌, List, length, Option, ap, subst, arith}
use Rattle.std.specs.Prelude.{◌-◌, slice_get}
use Rattle.reg_heap.specs.Paths.{Tree}
use Rattle.reg_model.specs.declared.notice.Notice.{Notice}
use Rattle.reg_model.specs.declared.reply.Entry.{Entry}
use Rattle.reg_notify.specs.Tables.{told_to, taken_by}
use Rattle.reg_calls.specs.declared.store.Store.{Store}
use Rattle.reg_calls.specs.Views.{HiveInvariant, View, view_with, told_in}

module _ {origin : Tree} {base : ℕ} {before : List (List Notice)} {es : List Entry} {store : Store} {room : ℕ} (kept : HiveInvariant origin base before es store room)
    (v : View) (is : view_with origin base before es store ≡ v) (s : ℕ) where
  told : told_to store.watches s ≡ told_in v s
  told = subst (λ (x : View). told_to store.watches s ≡ told_in x s) is (kept.hive.told s)

  taken : taken_by store.watches s ≡ taken_by v.watches s
  taken = ap (λ (x : View). taken_by x.watches s) is

  pub all_told : (given : List Notice) → given ≡ told_to store.watches s → given ≡ told_in v s
  all_told given e = e ∙ told

  pub kept_back : (count : ℕ) → count ≡ length (told_to store.watches s) - taken_by store.watches s → count + taken_by v.watches s ≡ length (told_in v s)
  kept_back count e =
      let long = ap (λ (l : List Notice). length l) told in
      let few = kept.hive.taken s in
      let same = ap (λ (l : List Notice). length l) (kept.hive.told s) in
      let t = taken in
      omega (arith, e, long, few, same, t)

  pub first_kept : (first : Option Notice) → first ≡ slice_get (told_to store.watches s) (taken_by store.watches s) →
      first ≡ slice_get (told_in v s) (taken_by v.watches s)
  first_kept first e =
      e ∙ ap (λ (l : List Notice). slice_get l (taken_by store.watches s)) told ∙ ap (slice_get (told_in v s)) taken
