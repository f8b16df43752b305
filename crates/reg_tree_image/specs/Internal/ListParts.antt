-- What is left of a list of subkeys.
use Rattle.std.specs.Prelude.{List, drop}
use Rattle.reg_records.specs.SubkeyLists.{Entry, SubkeysList, entries_as}
use Rattle.reg_tree_image.specs.declared.list_part.ListPart.{ListPart}

-- the entries that were not taken yet
abbrev pub entries_in : ListPart → List Entry
entries_in part = drop part.taken (entries_as part.form part.count 4 part.content.now)

-- the list that they make
abbrev pub list_in : ListPart → SubkeysList
list_in part = record { form = part.form; entries = entries_in part }
