-- A value found by its name.
use Rattle.std.proofs.Common.{◌≡◌, ◌∙◌, ℕ, true, List, [], ◌∷◌, Option, Some, None, is_some, take, slice_get, get_or, ap, sym, append-nil}
use Rattle.std.specs.Option.{option_and_then}
use Rattle.std.specs.Io.KnownBytes.{Appends}
use Rattle.std.proofs.lemmas.Option.{slice_get-get_or}
use Rattle.reg_heap.specs.Paths.{Path, Tree, Member}
use Rattle.reg_heap.specs.Members.{value_named, index_named}
use Rattle.reg_heap.specs.Edits.{values_at}
use Rattle.reg_values.proofs.ValueListing.ToldValues.{named-at}
use Rattle.reg_tree.proofs.ValueChange.ValueAtPlace.{index_within, unnamed}
use Rattle.reg_tree_text.specs.PathQueries.{key_at, value_at}

-- the value at the index of its name
pub found_index : (tree : Tree) (text name : List ℕ) (path : Path) (index : ℕ) → key_at tree text ≡ Some path →
    index_named name (values_at tree path) ≡ Some index →
    (value : Member) × (slice_get (values_at tree path) index ≡ Some value) × (value_at tree text name ≡ Some value)
found_index tree text name path index key e =
    let blank : Member = record { name = []; kind = 0; bytes = [] } in
    let at = slice_get-get_or (values_at tree path) index blank (index_within name (values_at tree path) index e) in (
      get_or (values_at tree path) index blank,
      at,
      ap (option_and_then (λ (p : Path). value_named name (values_at tree p))) key
          ∙ (named-at name (values_at tree path) ∙ (ap (option_and_then (slice_get (values_at tree path))) e ∙ at)),
    )

-- a key that is there without a value of that name
pub no_index : (tree : Tree) (text name : List ℕ) (path : Path) → key_at tree text ≡ Some path → index_named name (values_at tree path) ≡ None →
    (is_some (key_at tree text) ≡ true) × (value_at tree text name ≡ None)
no_index tree text name path key e = (
  ap is_some key,
  ap (option_and_then (λ (p : Path). value_named name (values_at tree p))) key ∙ unnamed name (values_at tree path) e,
)

-- nothing was written yet of a text
pub at_once : (known : Option (List ℕ)) (text : List ℕ) → (n : ℕ) × Appends known known (take n text)
at_once known text = (0, by known text)
  where
    by : (known : Option (List ℕ)) (text : List ℕ) → Appends known known (take 0 text)
    by None text = tt
    by (Some held) [] = sym (append-nil held)
    by (Some held) (b ∷ bs) = sym (append-nil held)
