-- What a command line asks to change.
use Rattle.std.proofs.Common.{◌≡◌, ◌∙◌, List, [], ℕ, codes, sym, refl, ap, subst}
use Rattle.std.specs.Prelude.{Option, Some, None, MatchOption, option_map, unwrap_or}
use Rattle.std.proofs.lemmas.Option.{same_Some}
use Rattle.clap.specs.Words.{Row, Text, all_of, first_of}
use Rattle.reg_words.specs.ChangeWords.{value_in}
use Rattle.reg_words.specs.declared.typed.change.Contents.{Contents}
use Rattle.reg_words.specs.declared.typed.change.KeyChange.{KeyChange}
use Rattle.reg_words.specs.declared.typed.change.KeyChange.TheVariants.{CreateKey, SetValue, DeleteValue, DeleteKey}
use Rattle.reg_words.specs.CommandLines.{AsksForKey, AsksForName, AsksForContents, AsksToChange}
use Rattle.reg_words.specs.StreamLines.{IsSet}
use Rattle.reg_words.specs.Internal.Commands.{IsFound}
use Rattle.reg_words.proofs.StreamWords.{apart}
use Rattle.reg_words.proofs.AskedWords.{none_there}

-- ---- the type and the data

-- what is read of the words is what they ask for
contents_at : (rows : List Row) (kind : Text) (words : List Text) → first_of (codes "type") rows ≡ Some kind →
    unwrap_or (all_of (codes "data") rows) [] ≡ words → (k : ℕ) (bytes : List ℕ) → value_in kind words ≡ Some (k, bytes) →
    AsksForContents rows k bytes
contents_at rows kind words is are k bytes e = (kind, is, ap (value_in kind) are ∙ e)

contents_never : (rows : List Row) (kind : Text) (words : List Text) → first_of (codes "type") rows ≡ Some kind →
    unwrap_or (all_of (codes "data") rows) [] ≡ words → value_in kind words ≡ None → (k : ℕ) (bytes : List ℕ) →
    AsksForContents rows k bytes → ⊥
contents_never rows kind words is are e k bytes h =
    let same : h.0 ≡ kind = same_Some h.0 kind (sym h.1 ∙ is) in
    let read : value_in kind words ≡ Some (k, bytes) =
    ap (value_in kind) (sym are) ∙ (ap (λ (w : Text). value_in w (unwrap_or (all_of (codes "data") rows) [])) (sym same) ∙ h.2) in
    none_there _ (k, bytes) e read

pub contents_found : (rows : List Row) (kind : Text) (words : List Text) (result : Option Contents) → first_of (codes "type") rows ≡ Some kind →
    unwrap_or (all_of (codes "data") rows) [] ≡ words →
    option_map (λ (c : Contents). (c.kind, c.bytes.items)) result ≡ value_in kind words →
    IsFound (λ (c : Contents). AsksForContents rows c.kind c.bytes.items) result
contents_found rows kind words None is are e = λ c h. contents_never rows kind words is are (sym e) c.kind c.bytes.items h
contents_found rows kind words (Some c) is are e = contents_at rows kind words is are c.kind c.bytes.items (sym e)

-- no type was given
pub no_type : (rows : List Row) → first_of (codes "type") rows ≡ None → (c : Contents) → AsksForContents rows c.kind c.bytes.items → ⊥
no_type rows none c h = none_there _ h.0 none h.1

-- ---- the change of a subcommand

pub no_key : (name : Text) (rows : List Row) → first_of name rows ≡ None → (path : List ℕ) → AsksForKey name rows path → ⊥
no_key name rows none path h = none_there _ h.0 none h.1

pub no_name : (rows : List Row) → first_of (codes "value") rows ≡ None → (name : List ℕ) → AsksForName rows name → ⊥
no_name rows none name h = none_there _ h.0 none h.1

module _ (rows : List Row) where
  pub no_create : ((path : List ℕ) → AsksForKey (codes "path") rows path → ⊥) → (change : KeyChange) → AsksToChange (codes "create", rows) change → ⊥
  no_create never (CreateKey path makes_parents) h = never path.items h.1
  no_create never (SetValue path makes_parents name contents) h = apart (codes "create") (codes "set") refl refl h.0
  no_create never (DeleteValue path name) h = apart (codes "create") (codes "delete") refl refl h.0
  no_create never (DeleteKey path is_tree) h = apart (codes "create") (codes "delete") refl refl h.0

  -- one of what it needs wasn't given
  pub no_set : ((path name : List ℕ) → (c : Contents) → AsksForKey (codes "path") rows path → AsksForName rows name →
      AsksForContents rows c.kind c.bytes.items → ⊥) → (change : KeyChange) → AsksToChange (codes "set", rows) change → ⊥
  no_set never (CreateKey path makes_parents) h = apart (codes "set") (codes "create") refl refl h.0
  no_set never (SetValue path makes_parents name contents) h = never path.items name.items contents h.1 h.2 h.3
  no_set never (DeleteValue path name) h = apart (codes "set") (codes "delete") refl refl h.0
  no_set never (DeleteKey path is_tree) h = apart (codes "set") (codes "delete") refl refl h.0

  pub no_delete : ((path : List ℕ) → AsksForKey (codes "path") rows path → ⊥) → (change : KeyChange) →
      AsksToChange (codes "delete", rows) change → ⊥
  no_delete never (CreateKey path makes_parents) h = apart (codes "delete") (codes "create") refl refl h.0
  no_delete never (SetValue path makes_parents name contents) h = apart (codes "delete") (codes "set") refl refl h.0
  no_delete never (DeleteValue path name) h = never path.items h.1
  no_delete never (DeleteKey path is_tree) h = never path.items h.1

  -- a value, with all keys below it
  pub no_delete_of_both : (name : List ℕ) → AsksForName rows name → IsSet (codes "tree") rows → (change : KeyChange) →
      AsksToChange (codes "delete", rows) change → ⊥
  no_delete_of_both asked name set (CreateKey path makes_parents) h = apart (codes "delete") (codes "create") refl refl h.0
  no_delete_of_both asked name set (SetValue path makes_parents value contents) h = apart (codes "delete") (codes "set") refl refl h.0
  no_delete_of_both asked name set (DeleteValue path value) h = h.3 set
  no_delete_of_both asked name set (DeleteKey path is_tree) h = none_there _ name.0 h.2 name.1

  -- a subcommand that asks for no change
  pub no_change : (name : Text) → (name ≡ codes "set" → ⊥) → (name ≡ codes "create" → ⊥) → (name ≡ codes "delete" → ⊥) →
      (change : KeyChange) → AsksToChange (name, rows) change → ⊥
  no_change name set create delete (CreateKey path makes_parents) h = create h.0
  no_change name set create delete (SetValue path makes_parents value contents) h = set h.0
  no_change name set create delete (DeleteValue path value) h = delete h.0
  no_change name set create delete (DeleteKey path is_tree) h = delete h.0

-- a subcommand, as it is named
pub change_so : (name word : Text) (rows : List Row) (result : Option KeyChange) → name ≡ word → IsFound (AsksToChange (word, rows)) result →
    IsFound (AsksToChange (name, rows)) result
change_so name word rows result e h = subst (λ (w : Text). IsFound (AsksToChange (w, rows)) result) (sym e) h

pub is_given : (P : List ℕ → Type 0) {V : Type 0} (items : V → List ℕ) (Q : Type 0) (o : Option V) (v : V) → o ≡ Some v →
    MatchOption o Q (λ w. P (items w)) → P (items v)
is_given P items Q o v e h = subst (λ w. MatchOption w Q (λ x. P (items x))) e h

pub not_given : (P : List ℕ → Type 0) {V : Type 0} (items : V → List ℕ) (Q : Type 0) (o : Option V) → o ≡ None →
    MatchOption o Q (λ w. P (items w)) → Q
not_given P items Q o e h = subst (λ w. MatchOption w Q (λ x. P (items x))) e h
