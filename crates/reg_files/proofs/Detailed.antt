-- A key listed, and a value told, as it is asked for.
use Rattle.std.proofs.Common.{◌≡◌, ◌∙◌, List, ℕ, Bool, true, subst, sym}
use Rattle.std.specs.Prelude.{Option, Result, OnOk, IfErr}
use Rattle.reg_words.specs.declared.request.Columns.{Columns}
use Rattle.reg_queries.specs.declared.fault.QueryFault.{QueryFault}
use Rattle.reg_tables.specs.declared.columns.Columns.{Columns as TableColumns}
use Rattle.reg_tables.specs.LongListings.{long_text}
use Rattle.reg_tables.specs.Tables.{TableStops}
use Rattle.reg_queries.specs.Queries.{QueryStops, Tabulates}
use Rattle.reg_files.specs.Detailed.{is_detailed, table_columns, ListsBy, ListsKey, ListingEndsBy, ListingEnds}

module _ {A : Type 0} (columns : Columns) (is_tree is_whole : Bool) (path : List ℕ) (unread left before after : Option (List ℕ))
    (r : Result A QueryFault) (detailed test : Bool) (asked : test ≡ is_detailed columns) where
  -- what a test of what is asked for says
  pub listed : test ≡ detailed → OnOk r (ListsBy detailed columns is_tree is_whole path unread left before after) →
      OnOk r (ListsKey columns is_tree is_whole path unread left before after)
  listed is h =
      subst (λ (b : Bool). OnOk r (ListsBy b columns is_tree is_whole path unread left before after)) (sym is ∙ asked) h

  pub unlisted : test ≡ detailed → IfErr r (λ fault. ListingEndsBy detailed fault columns is_tree is_whole path unread left before after) →
      IfErr r (λ fault. ListingEnds fault columns is_tree is_whole path unread left before after)
  unlisted is h =
      subst (λ (b : Bool). IfErr r (λ fault. ListingEndsBy b fault columns is_tree is_whole path unread left before after)) (sym is ∙ asked) h

-- what is asked for, as it is handed on
module _ {A : Type 0} (columns : Columns) (is_tree is_whole : Bool) (path : List ℕ) (unread left before after : Option (List ℕ))
    (r : Result A QueryFault) (given : TableColumns) (as_asked : given ≡ table_columns columns) where
  pub told_long : OnOk r (Tabulates unread left path (long_text given is_tree) before after) →
      OnOk r (ListsBy true columns is_tree is_whole path unread left before after)
  told_long h = subst (λ (c : TableColumns). OnOk r (Tabulates unread left path (long_text c is_tree) before after)) as_asked h

  pub untold_long : IfErr r (λ fault. QueryStops fault unread left
      (λ tree ended. TableStops ended tree path (long_text given is_tree tree) before after) before after) →
      IfErr r (λ fault. ListingEndsBy true fault columns is_tree is_whole path unread left before after)
  untold_long h =
      subst (λ (c : TableColumns). IfErr r (λ fault. QueryStops fault unread left
      (λ tree ended. TableStops ended tree path (long_text c is_tree tree) before after) before after)) as_asked h
