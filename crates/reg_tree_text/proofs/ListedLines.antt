-- The lines of a listing, told part by part.
use Rattle.std.proofs.Common.{◌≡◌, ℕ, List, ◌++◌, length, Some, sym, ap, ◌∙◌}
use Rattle.std.specs.Prelude.{codes, slice_get}
use Rattle.std.proofs.lemmas.Option.{same_Some}
use Rattle.reg_heap.specs.Paths.{Member}
use Rattle.reg_text.specs.Texts.{line_feed, escaped}
use Rattle.reg_values.specs.ValueLists.{Tells}
use Rattle.reg_tree_text.specs.Internal.Gathered.{WriterState, IsSoFar}
use Rattle.reg_tree_text.specs.DumpTexts.{Told}
use Rattle.reg_tree_text.proofs.SentTexts.{opened, swapped}
use Rattle.reg_tree_text.proofs.LineSteps.{part}
use Rattle.reg_names.specs.Names.{text_of}
use Rattle.reg_tree_text.specs.Listings.{after_name, value_line, value_lines, key_line, told_lines}

module _ (begin now : WriterState) (whole left gathered more : List ℕ) (written : ℕ) where
  abbrev SoFar : List ℕ → List ℕ → Type 0
  SoFar rest text = IsSoFar begin now whole (rest ++ left) text written

  abbrev Next : List ℕ → List ℕ → Type 0
  Next next rest = IsSoFar begin now whole (next ++ (rest ++ left)) more written

  pub value_start : (name : List ℕ) (kind size : ℕ) → SoFar (value_line name kind size) gathered →
      more ≡ gathered ++ codes "value =" → Next (escaped name) (after_name kind size)
  unfolding value_line
  value_start name kind size s e = part begin now whole (codes "value =") (escaped name) (after_name kind size) left gathered more written s e

  pub key_start : (name : List ℕ) → SoFar (key_line name) gathered → more ≡ gathered ++ codes "key =" → Next (escaped name) line_feed
  unfolding key_line
  key_start name s e = part begin now whole (codes "key =") (escaped name) line_feed left gathered more written s e

-- the line of a value that was found
pub value_same : (values : List Member) (index : ℕ) (member : Member) → slice_get values index ≡ Some member →
    (name : List ℕ) (kind size : ℕ) → ((m : Member) × (slice_get values index ≡ Some m) × Tells m name kind size) →
    value_line name kind size ≡ value_line member.name member.kind (length member.bytes)
value_same values index member here name kind size v =
    let same : v.0 ≡ member = same_Some _ _ (sym v.1 ∙ here) in
    let n : name ≡ member.name = v.2.name_is ∙ ap (λ (m : Member). m.name) same in
    let k : kind ≡ member.kind = v.2.kind_is ∙ ap (λ (m : Member). m.kind) same in
    let l : size ≡ length member.bytes = v.2.size_is ∙ ap (λ (m : Member). length m.bytes) same in
    ap (λ (w : List ℕ). value_line w kind size) n
    ∙ (ap (λ (w : ℕ). value_line member.name w size) k ∙ ap (λ (w : ℕ). value_line member.name member.kind w) l)

-- a key's lines: its path is told first
pub key_told : (begin now : WriterState) (whole left gathered : List ℕ) (written : ℕ) (path : List ℕ) (told : Told) →
    path ≡ text_of told.names → IsSoFar begin now whole (told_lines told ++ left) gathered written →
    IsSoFar begin now whole (key_line path ++ (value_lines told.key.values ++ left)) gathered written
key_told begin now whole left gathered written path told names s =
    swapped begin now whole _ (key_line path) (value_lines told.key.values ++ left) gathered written
    (opened begin now whole (key_line (text_of told.names)) (value_lines told.key.values) left gathered written s) (ap key_line names)
