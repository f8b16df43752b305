-- A key's block told part by part.
use Rattle.std.proofs.Common.{◌≡◌, ℕ, Bool, List, ◌++◌, Option, Some, sym, ap, ◌∙◌}
use Rattle.std.specs.Prelude.{slice_get}
use Rattle.std.proofs.lemmas.Option.{same_Some}
use Rattle.reg_names.specs.Names.{text_of}
use Rattle.reg_heap.specs.Paths.{Member, Rec}
use Rattle.reg_heap.specs.Edits.{values_of}
use Rattle.reg_values.specs.ValueLists.{Tells}
use Rattle.reg_tree_text.specs.DumpTexts.{Told}
use Rattle.reg_tree_text.specs.Internal.Gathered.{WriterState, IsSoFar}
use Rattle.reg_tree_text.proofs.SentTexts.{opened, swapped, then_gathered}
use Rattle.reg_dotreg_writer.specs.EntryTexts.{line_end}
use Rattle.reg_dotreg_writer.specs.Entries.{key_line}
use Rattle.reg_dotreg_writer.specs.Internal.Pieces.{plain, entry_pieces, entries_pieces, block_pieces}

-- the entry of a value that was found
pub entry_same : (u : Bool) (values : List Member) (index : ℕ) (member : Member) → slice_get values index ≡ Some member →
    (name : List ℕ) (kind size : ℕ) → ((m : Member) × (slice_get values index ≡ Some m) × Tells m name kind size) →
    (items bytes : List ℕ) → bytes ≡ items → ((m : Member) × (slice_get values index ≡ Some m) × (items ≡ m.bytes)) →
    entry_pieces u name kind bytes ≡ entry_pieces u member.name member.kind member.bytes
entry_same u values index member here name kind size v items bytes b d =
    let n : name ≡ member.name = v.2.name_is ∙ ap (λ (m : Member). m.name) (same_Some _ _ (sym v.1 ∙ here)) in
    let k : kind ≡ member.kind = v.2.kind_is ∙ ap (λ (m : Member). m.kind) (same_Some _ _ (sym v.1 ∙ here)) in
    let x : bytes ≡ member.bytes = b ∙ (d.2 ∙ ap (λ (m : Member). m.bytes) (same_Some _ _ (sym d.1 ∙ here))) in
    ap (λ (w : List ℕ). entry_pieces u w kind bytes) n
    ∙ (ap (λ (w : ℕ). entry_pieces u member.name w bytes) k ∙ ap (λ (w : List ℕ). entry_pieces u member.name member.kind w) x)

-- a key's line was gathered
pub line_told : (begin now : WriterState) (whole : List ℕ) (u : Bool) (told : Told) (path left gathered more : List ℕ) (written : ℕ) →
    path ≡ text_of told.names → IsSoFar begin now whole (block_pieces u told ++ left) gathered written →
    more ≡ gathered ++ plain u (key_line path) →
    IsSoFar begin now whole ((entries_pieces u told.key.values ++ plain u line_end) ++ left) more written
line_told begin now whole u told path left gathered more written names s e =
    then_gathered begin now whole (plain u (key_line (text_of told.names))) (entries_pieces u told.key.values ++ plain u line_end) left gathered
    more written s (e ∙ ap (λ (w : List ℕ). gathered ++ plain u (key_line w)) names)

-- the entries of its values are next
pub values_next : (begin now : WriterState) (whole : List ℕ) (u : Bool) (told : Told) (found : Option Rec) → found ≡ Some told.key →
    (left gathered : List ℕ) (written : ℕ) →
    IsSoFar begin now whole ((entries_pieces u told.key.values ++ plain u line_end) ++ left) gathered written →
    IsSoFar begin now whole (entries_pieces u (values_of found) ++ (plain u line_end ++ left)) gathered written
values_next begin now whole u told found here left gathered written s =
    swapped begin now whole (entries_pieces u told.key.values) (entries_pieces u (values_of found)) (plain u line_end ++ left) gathered written
    (opened begin now whole (entries_pieces u told.key.values) (plain u line_end) left gathered written s)
    (ap (λ (o : Option Rec). entries_pieces u (values_of o)) here)
