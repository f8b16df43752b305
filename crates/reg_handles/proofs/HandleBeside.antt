-- A handle to the key that another handle leads to.
use Rattle.std.proofs.Common.{◌≡◌, ℕ, Bool, true, false, cond, List, Option, Some, None, refl, sym, ap, subst, ◌∙◌}
use Rattle.std.specs.Prelude.{bytes_eq, option_map, unwrap_or}
use Rattle.std.specs.Ordering.{nat_cmp}
use Rattle.std.specs.Cmp.Lexicographic.{bytes_decides}
use Rattle.std.specs.BTreeMap.{is_at}
use Rattle.std.specs.Map.{lookup}
use Rattle.slab.specs.Slab.{Slab, get, Updates}
use Rattle.reg_names.specs.Names.{path_of}
use Rattle.reg_heap.specs.Paths.{Path}
use Rattle.reg_model.specs.Worlds.{Destination, At, Deleted, numbered}
use Rattle.reg_handles.specs.HandleTables.{IsFoldedPath, IsLeadingTo}
use Rattle.reg_handles.specs.Internal.OpenKeySlab.{destination_of, with_one_more, payload_of, payload_at, IsOpenAt, IsHeld}
use Rattle.reg_handles.specs.Internal.HandleRows.{handle_of, handles_of, times, IsUsed, IsTable}
use Rattle.reg_handles.specs.declared.keys.OpenKey.{OpenKey}
use Rattle.reg_handles.specs.declared.rows.Row.{Row}
use Rattle.reg_handles.proofs.HandleList.{numbered-handles_of}
use Rattle.reg_handles.proofs.KeyUsage.{held_found}
use Rattle.reg_handles.proofs.Payloads.{added_payloads}

-- the key of a slot stands open at a path, and the map leads there by its text
pub record StandsOpen {K : Type 0} (s : Slab (OpenKey K)) (paths : List ℕ → Option ℕ) (key : ℕ) (p : Path) : Type 0 where
  pub k : OpenKey K
  pub slot : get s key ≡ Some k
  pub here : paths k.path.items ≡ Some key
  pub names : path_of k.path.items ≡ p
  pub folded : IsFoldedPath k.path.items

at-path : (a b : Path) → ◌≡◌ {A = Destination} (At a) (At b) → a ≡ b
at-path a b e = cc

not-gone : (p : Path) → ◌≡◌ {A = Destination} Deleted (At p) → ⊥
not-gone p e = cc

module _ {K : Type 0} (s : Slab (OpenKey K)) (paths : List ℕ → Option ℕ) (es : List (ℕ × Row)) (counts : List ℕ) (table : IsTable s paths es counts) (other : ℕ) (p : Path)
    (leads : IsLeadingTo p (numbered other (handles_of s es))) where
  -- its row is there
  pub row-there : None ≡ lookup (is_at (nat_cmp other)) es → ⊥
  row-there none = subst (IsLeadingTo p) (numbered-handles_of s other es ∙ ap (option_map (λ (row : Row). handle_of s (other, row))) (sym none)) leads

  pub key-open : (row : Row) → Some row ≡ lookup (is_at (nat_cmp other)) es → StandsOpen s paths row.key p
  key-open row found =
      by (get s row.key) refl
      (subst (IsLeadingTo p) (numbered-handles_of s other es ∙ ap (option_map (λ (row : Row). handle_of s (other, row))) (sym found)) leads)
    where
      standing : (k : OpenKey K) → get s row.key ≡ Some k → (gone : Bool) → k.is_deleted ≡ gone → cond gone Deleted (At (path_of k.path.items)) ≡ At p → StandsOpen s paths row.key p
      standing k slot true is e = absurd (not-gone p e)
      standing k slot false is e = record {
        k = k;
        slot = slot;
        here = table.listed k.path.items row.key (subst (λ o. IsOpenAt o k.path.items) (sym slot) (refl, is));
        names = at-path _ _ e;
        folded = (subst (λ o. IsUsed o (times row.key es)) slot (table.keys row.key)).2;
      }

      by : (o : Option (OpenKey K)) → get s row.key ≡ o → destination_of o ≡ At p → StandsOpen s paths row.key p
      by None slot e = absurd (not-gone p e)
      by (Some k) slot e = standing k slot k.is_deleted refl e

module _ {K : Type 0} (s : Slab (OpenKey K)) (paths : List ℕ → Option ℕ) (es : List (ℕ × Row)) (counts : List ℕ) (table : IsTable s paths es counts) (key : ℕ) (p : Path)
    (o : StandsOpen s paths key p) (s' : Slab (OpenKey K)) (paths' : List ℕ → Option ℕ) (slots : Updates s s' key (option_map with_one_more (get s key)))
    (same : (text : List ℕ) → paths' text ≡ paths text) where
  -- it has a row more
  pub held-beside : IsHeld s s' paths paths' o.k.path.items o.k.payload key
  held-beside = held_found s s' paths paths' o.k.path.items o.k.payload key table.found o.here slots same

  -- and all paths keep what is kept for them
  pub kept-beside : (text : List ℕ) → payload_at s' (paths' text) ≡ payload_at s (paths text)
  kept-beside text = added_payloads s paths es counts table s' paths' o.k.path.items o.k.payload key held-beside text ∙ by (bytes_eq o.k.path.items text) refl
    where
      here : payload_at s (paths o.k.path.items) ≡ Some o.k.payload
      here = ap (payload_at s) o.here ∙ ap payload_of o.slot

      by : (b : Bool) → bytes_eq o.k.path.items text ≡ b → cond b (Some (unwrap_or (payload_at s (paths o.k.path.items)) o.k.payload)) (payload_at s (paths text)) ≡ payload_at s (paths text)
      by true e =
          ap (λ x. Some (unwrap_or x o.k.payload)) here ∙ (sym here ∙ ap (λ t. payload_at s (paths t)) ((bytes_decides o.k.path.items text).0 e))
      by false e = refl
