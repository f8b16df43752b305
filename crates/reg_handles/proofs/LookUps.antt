-- What a look-up finds.
use Rattle.std.proofs.Common.{◌≡◌, ◌≢◌, ℕ, Bool, true, false, ◌==◌, List, Option, Some, None, is_some, refl, sym, ap, ◌∙◌, arith}
use Rattle.std.specs.Prelude.{option_map}
use Rattle.std.specs.Ordering.{nat_cmp}
use Rattle.std.specs.BTreeMap.{is_at}
use Rattle.std.specs.Map.{lookup}
use Rattle.std.proofs.lemmas.Bool.{false≢true}
use Rattle.std.proofs.lemmas.Bool.Decides.{nat_tests}
use Rattle.slab.specs.Slab.{Slab, get}
use Rattle.reg_model.specs.Worlds.{Destination, look, owned}
use Rattle.reg_handles.specs.Internal.OpenKeySlab.{destination_of}
use Rattle.reg_handles.specs.Internal.HandleRows.{handle_of, handles_of}
use Rattle.reg_handles.specs.declared.keys.OpenKey.{OpenKey}
use Rattle.reg_handles.specs.declared.rows.Row.{Row}
use Rattle.reg_handles.proofs.HandleList.{numbered-handles_of}

module _ {K : Type 0} (s : Slab (OpenKey K)) (session number : ℕ) (es : List (ℕ × Row)) where
  told : (o : Option Row) → o ≡ lookup (is_at (nat_cmp number)) es → look session number (handles_of s es) ≡ owned session (option_map (λ row. handle_of s (number, row)) o)
  told o e = ap (owned session) (numbered-handles_of s number es ∙ ap (option_map (λ row. handle_of s (number, row))) (sym e))

  pub look_found : (row : Row) (destination : Destination) → Some row ≡ lookup (is_at (nat_cmp number)) es → row.session ≡ session → destination ≡ destination_of (get s row.key)
      → Some (record { number = number; session = session; mask = row.mask; destination = destination }) ≡ look session number (handles_of s es)
  look_found row destination found own is =
      let test : (row.session == session) ≡ true = grind (arith, nat_tests) in
      rw (told (Some row) found, test) (ap (λ p. Some (record { number = number; session = session; mask = row.mask; destination = p })) is ∙
      ap (λ own. Some (record { number = number; session = own; mask = row.mask; destination = destination_of (get s row.key) })) (sym own))

  pub look_other : (row : Row) → Some row ≡ lookup (is_at (nat_cmp number)) es → row.session ≢ session → None ≡ look session number (handles_of s es)
  look_other row found other =
      let test : (row.session == session) ≡ false = grind (arith, nat_tests, other) in
      rw (told (Some row) found, test) refl

  pub look_none : None ≡ lookup (is_at (nat_cmp number)) es → None ≡ look session number (handles_of s es)
  look_none found = rw (told None found) refl

  -- the session that has the handle is the row's
  pub owner : (row : Row) → Some row ≡ lookup (is_at (nat_cmp number)) es → is_some (look session number (handles_of s es)) ≡ true → row.session ≡ session
  owner row found some = by (row.session == session) refl
    where
      by : (b : Bool) → (row.session == session) ≡ b → row.session ≡ session
      by true e = grind (arith, nat_tests)
      by false e = absurd (false≢true (sym (rw (told (Some row) found, e) refl) ∙ some))

  pub no_owner : None ≡ lookup (is_at (nat_cmp number)) es → is_some (look session number (handles_of s es)) ≡ true → ⊥
  no_owner found some = false≢true (sym (ap is_some (told None found)) ∙ some)
