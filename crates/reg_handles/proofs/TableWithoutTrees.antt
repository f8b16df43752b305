-- A table of which the keys below a path were deleted, or that key too.
use Rattle.std.proofs.Common.{◌≡◌, ℕ, cond, ◌||◌, List, Option, None, ap, subst, ◌∙◌}
use Rattle.std.specs.Prelude.{bytes_eq, option_map}
use Rattle.slab.specs.Slab.{Slab, get}
use Rattle.reg_names.specs.Names.{path_of}
use Rattle.reg_heap.specs.Paths.{Path}
use Rattle.reg_heap.specs.Edits.{is_within, is_under}
use Rattle.reg_model.specs.Worlds.{same_path, turned_past}
use Rattle.reg_handles.specs.Internal.OpenKeySlab.{leads_to, without_key, without_key_past, payload_at, start_below, UpdatesPath}
use Rattle.reg_model.specs.Internal.TextNumbers.{goes_on}
use Rattle.reg_handles.specs.Internal.HandleRows.{handles_of, IsTable}
use Rattle.reg_handles.specs.declared.keys.OpenKey.{OpenKey}
use Rattle.reg_handles.specs.declared.rows.Row.{Row}
use Rattle.reg_handles.proofs.KeyMarkedDeleted.{marked_handles, marked_table}
use Rattle.reg_handles.proofs.PathTextKeys.{same_path-texts}
use Rattle.reg_handles.proofs.Payloads.{marked_payloads}
use Rattle.reg_handles.proofs.TableWithoutKeys.{past_handles, past_table, past_payloads, turned-twice, none-twice}
use Rattle.reg_handles.proofs.TextsOfPathsBelow.{under-texts, within-parts}

-- ---- the keys below the path

module _ {K : Type 0} (s s' : Slab (OpenKey K)) (paths paths' : List ℕ → Option ℕ) (p : List ℕ) (es : List (ℕ × Row)) (counts : List ℕ) (table : IsTable s paths es counts)
    (slots : (q : ℕ) → get s' q ≡ option_map (without_key_past (goes_on (start_below p))) (get s q))
    (freed : (text : List ℕ) → paths' text ≡ cond (goes_on (start_below p) text) None (paths text)) where
  pub under_handles : handles_of s' es ≡ turned_past (is_under (path_of p)) (handles_of s es)
  under_handles = past_handles s s' paths paths' (goes_on (start_below p)) (is_under (path_of p)) (under-texts p) es counts table slots freed

  pub under_table : IsTable s' paths' es counts
  under_table = past_table s s' paths paths' (goes_on (start_below p)) (is_under (path_of p)) (under-texts p) es counts table slots freed

  pub under_payloads : (text : List ℕ) → payload_at s' (paths' text) ≡ cond (is_under (path_of p) (path_of text)) None (payload_at s (paths text))
  under_payloads = past_payloads s s' paths paths' (goes_on (start_below p)) (is_under (path_of p)) (under-texts p) es counts table slots freed

-- ---- the path's own key first, and then those below it

module _ {K : Type 0} (s s' : Slab (OpenKey K)) (paths paths' : List ℕ → Option ℕ) (text p : List ℕ) (same : text ≡ p) (es : List (ℕ × Row)) (counts : List ℕ)
    (table : IsTable s paths es counts) (own-slots : (q : ℕ) → get s' q ≡ cond (leads_to (paths text) q) (option_map without_key (get s q)) (get s q))
    (own-path : UpdatesPath paths text None paths') where
  own : (q : ℕ) → get s' q ≡ cond (leads_to (paths p) q) (option_map without_key (get s q)) (get s q)
  own = subst (λ (t : List ℕ). (q : ℕ) → get s' q ≡ cond (leads_to (paths t) q) (option_map without_key (get s q)) (get s q)) same own-slots

  freed : UpdatesPath paths p None paths'
  freed = subst (λ (t : List ℕ). UpdatesPath paths t None paths') same own-path

  pub without_own : IsTable s' paths' es counts
  without_own = marked_table s s' paths paths' p es counts table own freed

  module _ (s'' : Slab (OpenKey K)) (paths'' : List ℕ → Option ℕ) (slots : (q : ℕ) → get s'' q ≡ option_map (without_key_past (goes_on (start_below p))) (get s' q))
      (freed' : (text : List ℕ) → paths'' text ≡ cond (goes_on (start_below p) text) None (paths' text)) where
    pub within_handles : handles_of s'' es ≡ turned_past (is_within (path_of p)) (handles_of s es)
    within_handles =
        under_handles s' s'' paths' paths'' p es counts without_own slots freed' ∙ ap (turned_past (is_under (path_of p))) (marked_handles s s' paths paths' p es counts table own freed) ∙
        turned-twice (λ (q : Path). same_path q (path_of p)) (is_under (path_of p)) (is_within (path_of p)) (within-parts (path_of p)) (handles_of s es)

    pub within_table : IsTable s'' paths'' es counts
    within_table = under_table s' s'' paths' paths'' p es counts without_own slots freed'

    pub within_payloads : (text : List ℕ) → payload_at s'' (paths'' text) ≡ cond (is_within (path_of p) (path_of text)) None (payload_at s (paths text))
    within_payloads text =
        under_payloads s' s'' paths' paths'' p es counts without_own slots freed' text ∙
        ap (cond (is_under (path_of p) (path_of text)) None) (marked_payloads s paths es counts table s' paths' p own freed text) ∙
        none-twice (bytes_eq p text) (is_under (path_of p) (path_of text)) (is_within (path_of p) (path_of text)) (payload_at s (paths text))
        (within-parts (path_of p) (path_of text) ∙ ap (λ b. b || is_under (path_of p) (path_of text)) (same_path-texts text p))
