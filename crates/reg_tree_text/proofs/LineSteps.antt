-- A line told part by part: what is written next, and what is left of the line behind it.
use Rattle.std.proofs.Common.{◌≡◌, ℕ, List, ◌++◌}
use Rattle.std.specs.Prelude.{codes}
use Rattle.reg_text.specs.Texts.{line_feed, escaped, digits_text}
use Rattle.reg_tree_text.specs.Internal.Gathered.{WriterState, IsSoFar}
use Rattle.reg_tree_text.specs.Internal.LineParts.{marks_part, time_part, kind_part, after_class, after_path, key_in_parts, after_name, value_in_parts, root_in_parts}
use Rattle.reg_tree_text.proofs.SentTexts.{opened, then_gathered}

-- a first part was gathered, and the next one is to be told
pub part : (begin now : WriterState) (whole first next rest left gathered more : List ℕ) (written : ℕ) →
    IsSoFar begin now whole ((first ++ (next ++ rest)) ++ left) gathered written → more ≡ gathered ++ first →
    IsSoFar begin now whole (next ++ (rest ++ left)) more written
part begin now whole first next rest left gathered more written s e =
    opened begin now whole next rest left more written (then_gathered begin now whole first (next ++ rest) left gathered more written s e)

module _ (begin now : WriterState) (whole left gathered more : List ℕ) (written : ℕ) where
  abbrev SoFar : List ℕ → List ℕ → Type 0
  SoFar rest text = IsSoFar begin now whole (rest ++ left) text written

  abbrev Next : List ℕ → List ℕ → Type 0
  Next next rest = IsSoFar begin now whole (next ++ (rest ++ left)) more written

  pub key_start : (path : List ℕ) (marks : ℕ) (class descriptor : List ℕ) (time : ℕ) →
      SoFar (key_in_parts path marks class descriptor time) gathered →
      more ≡ gathered ++ codes "key =" → Next (escaped path) (after_path marks class descriptor time)
  unfolding key_in_parts
  key_start path marks class descriptor time s e =
      part begin now whole (codes "key =") (escaped path) (after_path marks class descriptor time) left gathered more written s e

  pub class_start : (marks : ℕ) (class descriptor : List ℕ) (time : ℕ) → SoFar (after_path marks class descriptor time) gathered →
      more ≡ gathered ++ marks_part marks → Next (digits_text class) (after_class descriptor time)
  unfolding after_path
  class_start marks class descriptor time s e =
      part begin now whole (marks_part marks) (digits_text class) (after_class descriptor time) left gathered more written s e

  pub descriptor_start : (descriptor : List ℕ) (time : ℕ) → SoFar (after_class descriptor time) gathered →
      more ≡ gathered ++ codes " security x" →
      Next (digits_text descriptor) (time_part time)
  unfolding after_class
  descriptor_start descriptor time s e =
      part begin now whole (codes " security x") (digits_text descriptor) (time_part time) left gathered more written s e

  pub value_start : (name : List ℕ) (kind : ℕ) (bytes : List ℕ) → SoFar (value_in_parts name kind bytes) gathered →
      more ≡ gathered ++ codes "value =" →
      Next (escaped name) (after_name kind bytes)
  unfolding value_in_parts
  value_start name kind bytes s e =
      part begin now whole (codes "value =") (escaped name) (after_name kind bytes) left gathered more written s e

  pub data_start : (kind : ℕ) (bytes : List ℕ) → SoFar (after_name kind bytes) gathered → more ≡ gathered ++ kind_part kind →
      Next (digits_text bytes) line_feed
  unfolding after_name
  data_start kind bytes s e = part begin now whole (kind_part kind) (digits_text bytes) line_feed left gathered more written s e

  pub root_start : (name : List ℕ) → SoFar (root_in_parts name) gathered → more ≡ gathered ++ codes "root =" → Next (escaped name) line_feed
  unfolding root_in_parts
  root_start name s e = part begin now whole (codes "root =") (escaped name) line_feed left gathered more written s e
