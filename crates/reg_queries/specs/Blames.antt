-- Whether the readers and the writer failed of what is asked of an image (this project's own). Of each it is said how many of its calls had
-- failed before and have now, where that is known.
use Rattle.std.specs.Prelude.{ℕ, Option}
use Rattle.reg_text.specs.Failures.{Stays}
use Rattle.reg_tree_image.specs.Loads.{IsBlamed as IsReadBlamed}
use Rattle.reg_tree_text.specs.DumpFronts.{IsBlamed}
use Rattle.reg_tree_text.specs.PathBlames.{PathBlames}
use Rattle.reg_dotreg_writer.specs.Exports.{ExportBlames}
use Rattle.reg_queries.specs.declared.fault.QueryFault.{QueryFault}
use Rattle.reg_queries.specs.declared.fault.QueryFault.TheVariants as query
use Rattle.reg_queries.specs.declared.fault.FindFault.{FindFault}
use Rattle.reg_queries.specs.declared.fault.FindFault.TheVariants as find
use Rattle.reg_queries.specs.declared.fault.DiffFault.{DiffFault}
use Rattle.reg_queries.specs.declared.fault.DiffFault.TheVariants as diff
use Rattle.reg_queries.specs.declared.fault.ExportEnd.{ExportEnd}
use Rattle.reg_queries.specs.declared.fault.ExportEnd.TheVariants as export

-- no call of an image's reader failed, and none of the writer
abbrev pub NoneFailed : (read now_read written now_written : Option ℕ) → Type 0
NoneFailed read now_read written now_written = Stays read now_read × Stays written now_written

-- a read failed where the load tells it, once, and else none; a write where the query tells one, once, and else none
abbrev pub QueryBlames : QueryFault → (read now_read written now_written : Option ℕ) → Type 0
QueryBlames (query.Load fault) read now_read written now_written = IsReadBlamed fault read now_read × Stays written now_written
QueryBlames (query.Query fault) read now_read written now_written = Stays read now_read × PathBlames fault written now_written

-- so of a search: none failed where the pattern is refused
abbrev pub FindBlames : FindFault → (read now_read written now_written : Option ℕ) → Type 0
FindBlames (find.Pattern fault) read now_read written now_written = NoneFailed read now_read written now_written
FindBlames (find.Load fault) read now_read written now_written = IsReadBlamed fault read now_read × Stays written now_written
FindBlames (find.Stopped fault) read now_read written now_written = Stays read now_read × IsBlamed fault written now_written

-- and of a key written as a .reg text
abbrev pub EndBlames : ExportEnd → (read now_read written now_written : Option ℕ) → Type 0
EndBlames (export.Load fault) read now_read written now_written = IsReadBlamed fault read now_read × Stays written now_written
EndBlames (export.Export fault) read now_read written now_written = Stays read now_read × ExportBlames fault written now_written

-- of a comparison with a new image: its reader failed where its load tells that, and a write where the comparison tells one; none did where
-- a key is missing
abbrev pub DiffFromBlames : DiffFault → (read now_read written now_written : Option ℕ) → Type 0
DiffFromBlames (diff.Old fault) read now_read written now_written = ⊥
DiffFromBlames (diff.New fault) read now_read written now_written = IsReadBlamed fault read now_read × Stays written now_written
DiffFromBlames diff.NoOldKey read now_read written now_written = NoneFailed read now_read written now_written
DiffFromBlames diff.NoNewKey read now_read written now_written = NoneFailed read now_read written now_written
DiffFromBlames (diff.Stopped fault) read now_read written now_written = Stays read now_read × IsBlamed fault written now_written

-- of a comparison of two images: the old one's reader failed where its load tells that, and then nothing else did; else the new one is as
-- above
abbrev pub DiffBlames : DiffFault → (old now_old new now_new written now_written : Option ℕ) → Type 0
DiffBlames (diff.Old fault) old now_old new now_new written now_written =
    IsReadBlamed fault old now_old × NoneFailed new now_new written now_written
DiffBlames (diff.New fault) old now_old new now_new written now_written =
    Stays old now_old × IsReadBlamed fault new now_new × Stays written now_written
DiffBlames diff.NoOldKey old now_old new now_new written now_written = Stays old now_old × NoneFailed new now_new written now_written
DiffBlames diff.NoNewKey old now_old new now_new written now_written = Stays old now_old × NoneFailed new now_new written now_written
DiffBlames (diff.Stopped fault) old now_old new now_new written now_written =
    Stays old now_old × Stays new now_new × IsBlamed fault written now_written
