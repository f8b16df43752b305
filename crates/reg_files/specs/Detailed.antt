-- Listings and values as they are asked for: told in short, or with what is asked for beside names (this project's own).
use Rattle.std.specs.Prelude.{ℕ, Bool, true, false, ◌||◌, List, Option}
use Rattle.reg_words.specs.declared.request.Columns.{Columns}
use Rattle.reg_words.specs.declared.request.DataForm.{DataForm}
use Rattle.reg_words.specs.declared.request.DataForm.TheVariants.{Told, Typed, Raw}
use Rattle.reg_tables.specs.declared.columns.Columns.{Columns as TableColumns}
use Rattle.reg_tables.specs.LongListings.{long_text}
use Rattle.reg_tables.specs.Tables.{TableStops}
use Rattle.reg_tables.specs.TypedValues.{TypedStops}
use Rattle.reg_queries.specs.KeyQueries.{Lists, ListEnds}
use Rattle.reg_queries.specs.Queries.{is_look, Gets, GetEnds, Tabulates, QueryStops}
use Rattle.reg_queries.specs.TypedQueries.{TellsTyped}
use Rattle.reg_queries.specs.declared.fault.QueryFault.{QueryFault}

-- a listing tells something beside names, or ends its lines otherwise
abbrev pub is_detailed : Columns → Bool
is_detailed columns = columns.data || (columns.times || (columns.securities || columns.ends_by_zero))

-- what it tells, as reg_tables has it
abbrev pub table_columns : Columns → TableColumns
table_columns columns = record {
  is_long = columns.data;
  has_times = columns.times;
  has_securities = columns.securities;
  ends_by_zero = columns.ends_by_zero;
}

-- a key was listed: in short, and then along its path where that is enough; or with what is asked for, of the whole hive
abbrev pub ListsBy : (detailed : Bool) → Columns → (is_tree is_whole : Bool) → (path : List ℕ) → (unread left before after : Option (List ℕ)) → Type 0
ListsBy false columns is_tree is_whole path unread left before after =
    Lists (is_look (is_tree || is_whole) path) unread left path is_tree before after
ListsBy true columns is_tree is_whole path unread left before after =
    Tabulates unread left path (long_text (table_columns columns) is_tree) before after

abbrev pub ListsKey : Columns → (is_tree is_whole : Bool) → (path : List ℕ) → (unread left before after : Option (List ℕ)) → Type 0
ListsKey columns = ListsBy (is_detailed columns) columns

-- why it wasn't, or not to the end
abbrev pub ListingEndsBy : (detailed : Bool) → QueryFault → Columns → (is_tree is_whole : Bool) → (path : List ℕ) →
    (unread left before after : Option (List ℕ)) → Type 0
ListingEndsBy false fault columns is_tree is_whole path unread left before after =
    ListEnds (is_look (is_tree || is_whole) path) fault unread left path is_tree before after
ListingEndsBy true fault columns is_tree is_whole path unread left before after =
    QueryStops fault unread left (λ tree ended. TableStops ended tree path (long_text (table_columns columns) is_tree tree) before after) before after

abbrev pub ListingEnds : QueryFault → Columns → (is_tree is_whole : Bool) → (path : List ℕ) → (unread left before after : Option (List ℕ)) → Type 0
ListingEnds fault columns = ListingEndsBy (is_detailed columns) fault columns

-- a value was written: as text or as bytes, and then along its key's path where that is enough; or with its type, of the whole hive
abbrev pub GetsAs : DataForm → (is_whole : Bool) → (path name : List ℕ) → (unread left before after : Option (List ℕ)) → Type 0
GetsAs Told is_whole path name unread left before after = Gets (is_look is_whole path) unread left path name false before after
GetsAs Typed is_whole path name unread left before after = TellsTyped unread left path name before after
GetsAs Raw is_whole path name unread left before after = Gets (is_look is_whole path) unread left path name true before after

-- why it wasn't, or not to the end
abbrev pub GettingEnds : DataForm → QueryFault → (is_whole : Bool) → (path name : List ℕ) → (unread left before after : Option (List ℕ)) → Type 0
GettingEnds Told fault is_whole path name unread left before after =
    GetEnds (is_look is_whole path) fault unread left path name false before after
GettingEnds Typed fault is_whole path name unread left before after =
    QueryStops fault unread left (λ tree ended. TypedStops ended tree path name before after) before after
GettingEnds Raw fault is_whole path name unread left before after =
    GetEnds (is_look is_whole path) fault unread left path name true before after
