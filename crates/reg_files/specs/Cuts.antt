-- Which faults are a failed write of the output (this project's own).
use Rattle.std.specs.Prelude.{Bool, true, false}
use Rattle.reg_tree_text.specs.declared.fault.DumpFault.{DumpFault}
use Rattle.reg_tree_text.specs.declared.fault.DumpFault.TheVariants as dump
use Rattle.reg_tree_text.specs.declared.path_fault.PathFault.{PathFault}
use Rattle.reg_tree_text.specs.declared.path_fault.PathFault.TheVariants as path
use Rattle.reg_dotreg_writer.specs.declared.fault.ExportFault.{ExportFault}
use Rattle.reg_dotreg_writer.specs.declared.fault.ExportFault.TheVariants as export
use Rattle.reg_queries.specs.declared.fault.QueryFault.{QueryFault}
use Rattle.reg_queries.specs.declared.fault.QueryFault.TheVariants as query
use Rattle.reg_queries.specs.declared.fault.FindFault.{FindFault}
use Rattle.reg_queries.specs.declared.fault.FindFault.TheVariants as find
use Rattle.reg_queries.specs.declared.fault.DiffFault.{DiffFault}
use Rattle.reg_queries.specs.declared.fault.DiffFault.TheVariants as diff
use Rattle.reg_queries.specs.declared.fault.ExportEnd.{ExportEnd}
use Rattle.reg_queries.specs.declared.fault.ExportEnd.TheVariants as end
use Rattle.reg_queries.specs.declared.fault.ChangesEnd.{ChangesEnd}
use Rattle.reg_queries.specs.declared.fault.ChangesEnd.TheVariants as changes
use Rattle.reg_script.specs.declared.engine.ScriptFault.{ScriptFault}
use Rattle.reg_script.specs.declared.engine.ScriptFault.TheVariants as script
use Rattle.reg_edits.specs.declared.edits.EditFault.{EditFault}
use Rattle.reg_edits.specs.declared.edits.EditFault.TheVariants as edit

-- of a text that is written
abbrev pub is_dump_cut : DumpFault → Bool
is_dump_cut (dump.Write written) = true
is_dump_cut dump.Memory = false

-- of what is looked up by a path
abbrev pub is_path_cut : PathFault → Bool
is_path_cut (path.Stopped fault) = is_dump_cut fault
is_path_cut fault = false

-- of a query of an image
abbrev pub is_query_cut : QueryFault → Bool
is_query_cut (query.Query fault) = is_path_cut fault
is_query_cut (query.Load fault) = false

-- of a search
abbrev pub is_find_cut : FindFault → Bool
is_find_cut (find.Stopped fault) = is_dump_cut fault
is_find_cut fault = false

-- of a comparison
abbrev pub is_diff_cut : DiffFault → Bool
is_diff_cut (diff.Stopped fault) = is_dump_cut fault
is_diff_cut fault = false

-- of a .reg text
abbrev pub is_export_cut : ExportFault → Bool
is_export_cut (export.Stopped fault) = is_dump_cut fault
is_export_cut fault = false

-- of such a text of an image
abbrev pub is_end_cut : ExportEnd → Bool
is_end_cut (end.Export fault) = is_export_cut fault
is_end_cut (end.Load fault) = false

-- of such a text of what changes
abbrev pub is_changes_cut : ChangesEnd → Bool
is_changes_cut (changes.Export fault) = is_export_cut fault
is_changes_cut fault = false

-- of a script's replies
abbrev pub is_script_cut : ScriptFault → Bool
is_script_cut (script.Write written) = true
is_script_cut fault = false

-- of the replies of a script that edits
abbrev pub is_edit_cut : EditFault → Bool
is_edit_cut (edit.Script fault) = is_script_cut fault
is_edit_cut fault = false
