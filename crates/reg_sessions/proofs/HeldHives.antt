-- What stands behind a lock, after its parts changed.
use Rattle.std.proofs.Common.{◌≡◌, ◌+◌, ◌∷◌, ℕ, List, map, refl, ap, subst, ◌∙◌}
use Rattle.std.proofs.lemmas.List.{map-append}
use Rattle.std.specs.Prelude.{Result, Ok, Err, IfOk, OnOk, OnErr}
use Rattle.reg_callbacks.specs.declared.callbacks.CallbackFault.{CallbackFault}
use Rattle.reg_callbacks.specs.declared.callbacks.Callbacks.{Callbacks}
use Rattle.reg_callbacks.specs.declared.callbacks.Cookie.{Cookie}
use Rattle.reg_callbacks.specs.declared.row.Row.{Row}
use Rattle.reg_callbacks.specs.Lists.{rows_of, altitudes_of, cookies_of, made_of}
use Rattle.reg_callbacks.specs.Rows.{IsOneMore}
use Rattle.reg_calls.specs.declared.hive.Hive.{Hive}
use Rattle.reg_calls.specs.HiveView.{view_of, noted_of, callbacks_of}
use Rattle.reg_calls.specs.Views.{View}
use Rattle.reg_sessions.specs.Locked.{Held, LineState, held_of, HaveSameCallbacks, IsRegistered, IsUnregistered}

-- by its parts
made_up : {C : Type 0} (h : Hive C) (lines : List LineState) (v : View) (noted altitudes cookies : List ℕ) (made : ℕ) → view_of h ≡ v → noted_of h ≡ noted →
    altitudes_of (callbacks_of h) ≡ altitudes → cookies_of (callbacks_of h) ≡ cookies → made_of (callbacks_of h) ≡ made →
    held_of lines h ≡ record { view = v; noted = noted; lines = lines; altitudes = altitudes; cookies = cookies; made = made }
made_up h lines v noted altitudes cookies made is noted_is altitudes_are cookies_are made_is = cc

same_parts : {C : Type 0} (lines : List LineState) (h k : Hive C) → view_of h ≡ view_of k → noted_of h ≡ noted_of k →
    rows_of (callbacks_of h) ≡ rows_of (callbacks_of k) → made_of (callbacks_of h) ≡ made_of (callbacks_of k) → held_of lines h ≡ held_of lines k
same_parts {C} lines h k v n rows made =
    made_up h lines _ _ _ _ _ v n (ap (λ (l : List (Row C)). map (λ r. r.altitude) l) rows) (ap (λ (l : List (Row C)). map (λ r. r.cookie) l) rows) made

pub same_held : {C : Type 0} (lines rows : List LineState) (h k : Hive C) → view_of h ≡ view_of k → noted_of h ≡ noted_of k → lines ≡ rows → callbacks_of h ≡ callbacks_of k →
    held_of lines h ≡ held_of rows k
same_held {C} lines rows h k v n l c =
    same_parts lines h k v n (ap (λ (x : Callbacks C). rows_of x) c) (ap (λ (x : Callbacks C). made_of x) c)
    ∙ ap (λ (x : List LineState). held_of x k) l

-- callbacks that stay
pub callbacks_kept : {C : Type 0} {held : Held} (lines new_lines : List LineState) (h k : Hive C) → callbacks_of k ≡ callbacks_of h → held_of lines h ≡ held →
    HaveSameCallbacks held (held_of new_lines k)
callbacks_kept {C} lines new_lines h k same is = record {
  altitudes = ap (λ (x : Callbacks C). altitudes_of x) same ∙ ap (λ (x : Held). x.altitudes) is;
  cookies = ap (λ (x : Callbacks C). cookies_of x) same ∙ ap (λ (x : Held). x.cookies) is;
  made = ap (λ (x : Callbacks C). made_of x) same ∙ ap (λ (x : Held). x.made) is;
}

-- a row more is a number more of each row
one_number : {C : Type 0} (f : Row C → ℕ) (row : Row C) (before after : List (Row C)) → IsOneMore row before after → IsOneMore (f row) (map f before) (map f after)
one_number {C} f row before after one = record {
  front = map f one.front;
  back = map f one.back;
  without = ap (λ (l : List (Row C)). map f l) one.without ∙ map-append f one.front one.back;
  with = ap (λ (l : List (Row C)). map f l) one.with ∙ map-append f one.front (row ∷ one.back);
}

one_registered : {C : Type 0} {held : Held} (lines : List LineState) (h k : Hive C) (row : Row C) → view_of k ≡ view_of h → noted_of k ≡ noted_of h →
    IsOneMore row (rows_of (callbacks_of h)) (rows_of (callbacks_of k)) → row.cookie ≡ made_of (callbacks_of h) → made_of (callbacks_of k) ≡ made_of (callbacks_of h) + 1 →
    held_of lines h ≡ held → IsRegistered row.altitude row.cookie held (held_of lines k)
one_registered lines h k row v n one next made is =
    subst (λ (x : Held). IsRegistered row.altitude row.cookie x (held_of lines k)) is
    (record {
      at = one_number (λ r. r.altitude) row _ _ one;
      one = one_number (λ r. r.cookie) row _ _ one;
      next = next;
      counted = made;
      rest = made_up k lines _ _ _ _ _ v n refl refl refl;
    })

pub registered : {C : Type 0} {held : Held} (lines : List LineState) (h k : Hive C) (altitude : ℕ) (callback : C) (result : Result Cookie (CallbackFault C)) →
    view_of k ≡ view_of h → noted_of k ≡ noted_of h →
    IfOk result (λ cookie. IsOneMore (record { altitude = altitude; cookie = cookie.number; callback = callback }) (rows_of (callbacks_of h)) (rows_of (callbacks_of k))) →
    IfOk result (λ cookie. cookie.number ≡ made_of (callbacks_of h)) → IfOk result (λ cookie. made_of (callbacks_of k) ≡ made_of (callbacks_of h) + 1) →
    held_of lines h ≡ held → IfOk result (λ cookie. IsRegistered altitude cookie.number held (held_of lines k))
registered lines h k altitude callback (Ok cookie) v n one next made is =
    one_registered lines h k (record { altitude = altitude; cookie = cookie.number; callback = callback }) v n one next made is
registered lines h k altitude callback (Err fault) v n one next made is = tt

one_unregistered : {C : Type 0} {held : Held} (lines : List LineState) (h k : Hive C) (row : Row C) → view_of k ≡ view_of h → noted_of k ≡ noted_of h →
    IsOneMore row (rows_of (callbacks_of k)) (rows_of (callbacks_of h)) → made_of (callbacks_of k) ≡ made_of (callbacks_of h) →
    held_of lines h ≡ held → IsUnregistered row.cookie held (held_of lines k)
one_unregistered lines h k row v n one made is =
    subst (λ (x : Held). IsUnregistered row.cookie x (held_of lines k)) is
    (record {
      altitude = row.altitude;
      at = one_number (λ r. r.altitude) row _ _ one;
      one = one_number (λ r. r.cookie) row _ _ one;
      rest = made_up k lines _ _ _ _ _ v n refl refl made;
    })

pub unregistered : {C : Type 0} {held : Held} (lines : List LineState) (h k : Hive C) (cookie : ℕ) (result : Result C (CallbackFault C)) →
    view_of k ≡ view_of h → noted_of k ≡ noted_of h →
    IfOk result (λ callback. (altitude : ℕ) × IsOneMore (record { altitude = altitude; cookie = cookie; callback = callback }) (rows_of (callbacks_of k)) (rows_of (callbacks_of h))) →
    made_of (callbacks_of k) ≡ made_of (callbacks_of h) → held_of lines h ≡ held → OnOk result (IsUnregistered cookie held (held_of lines k))
unregistered lines h k cookie (Ok callback) v n one made is =
    one_unregistered lines h k (record { altitude = one.0; cookie = cookie; callback = callback }) v n one.1 made is
unregistered lines h k cookie (Err fault) v n one made is = tt

-- a refusal by which no row and no count changed
pub refused_held : {C T E : Type 0} {held : Held} (lines : List LineState) (h k : Hive C) (result : Result T E) → view_of k ≡ view_of h → noted_of k ≡ noted_of h →
    OnErr result ((rows_of (callbacks_of k) ≡ rows_of (callbacks_of h)) × (made_of (callbacks_of k) ≡ made_of (callbacks_of h))) → held_of lines h ≡ held →
    OnErr result (held_of lines k ≡ held)
refused_held lines h k (Ok x) v n same is = tt
refused_held lines h k (Err fault) v n same is = same_parts lines k h v n same.0 same.1 ∙ is
