-- The kinds of calls, by their places in the rules' tables: changes from 0 on, questions from 10 on.
use Rattle.std.specs.Prelude.{ℕ}
use Rattle.reg_model.specs.declared.call.Call.{Call}
use Rattle.reg_model.specs.declared.call.Call.TheVariants as call
use Rattle.reg_model.specs.declared.call.Change.{Change}
use Rattle.reg_model.specs.declared.call.Change.TheVariants.{OpenRoot, OpenKey, CreateKey, SetValue, DeleteValue, DeleteKey, DeleteTree, SetSecurity, Notify, Close}
use Rattle.reg_model.specs.declared.call.Query.{Query}
use Rattle.reg_model.specs.declared.call.Query.TheVariants.{QueryValue, EnumKey, EnumValue, QueryInfo, GetSecurity}

abbrev pub kind_of_change : Change → ℕ
kind_of_change (OpenRoot mask) = 0
kind_of_change (OpenKey h path mask) = 1
kind_of_change (CreateKey h path mask descriptor) = 2
kind_of_change (SetValue h name kind bytes) = 3
kind_of_change (DeleteValue h name) = 4
kind_of_change (DeleteKey h path) = 5
kind_of_change (DeleteTree h path) = 6
kind_of_change (SetSecurity h descriptor) = 7
kind_of_change (Notify h filter subtree) = 8
kind_of_change (Close h) = 9

abbrev pub kind_of_query : Query → ℕ
kind_of_query (QueryValue h name room) = 10
kind_of_query (EnumKey h index room) = 11
kind_of_query (EnumValue h index name_room room) = 12
kind_of_query (QueryInfo h) = 13
kind_of_query (GetSecurity h room) = 14

abbrev pub kind_of : Call → ℕ
kind_of (call.Change change) = kind_of_change change
kind_of (call.Query query) = kind_of_query query
