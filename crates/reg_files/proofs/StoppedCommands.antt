-- What stopped a command on a file, put together of what stopped the call that did it.
use Rattle.std.proofs.Common.{◌≡◌, List, ℕ, Bool, true, inr, inl, subst, sym}
use Rattle.std.specs.Borrow.{Bor}
use Rattle.std.specs.Prelude.{Option, Result, Ok, Err, IfErr, OnOk, OnErr, IsErrAnd, codes, option_copied}
use Rattle.reg_tables.specs.Pages.{html_text}
use Rattle.reg_tables.specs.Tables.{json_text, jsonl_text, csv_text}
use Rattle.reg_diff.specs.declared.ignored.Ignored.{Ignored}
use Rattle.reg_queries.specs.Differs.{Differs, DiffStops}
use Rattle.reg_queries.specs.declared.fault.DiffFault.{DiffFault}
use Rattle.reg_queries.specs.ImageExports.{ExportEnds}
use Rattle.reg_queries.specs.declared.fault.ExportEnd.{ExportEnd}
use Rattle.reg_words.specs.declared.request.Form.{Form}
use Rattle.reg_words.specs.declared.request.Form.TheVariants.{Reg, Json, JsonLines, Csv, Html}
use Rattle.reg_files.specs.Cuts.{is_diff_cut, is_end_cut}
use Rattle.reg_files.specs.Differing.{StopsLines}
use Rattle.reg_files.specs.Serving.{TableEnds, WriteStops}
use Rattle.reg_files.specs.Looking.{IsCutShort}

-- what an error says that was made of another one
pub from_err : {X E : Type 0} (P Q : E → Type 0) (r : Result X E) → IsErrAnd r P → ((e : E) → P e → Q e) → IfErr r Q
from_err P Q (Ok v) made says = absurd made
from_err P Q (Err e) made says = says e made

-- what is so of each error, by what each says
pub while_err : {X E : Type 0} (P Q : E → Type 0) (r : Result X E) → IfErr r P → ((e : E) → P e → Q e) → IfErr r Q
while_err P Q (Ok v) h says = tt
while_err P Q (Err e) h says = says e h

-- what is so where it is done
pub when_ok : {X E A B : Type 0} (r : Result X E) → OnOk r A → (A → B) → OnOk r B
when_ok (Ok v) h says = says h
when_ok (Err e) h says = tt

-- what is so in any case
pub always_ok : {X E A : Type 0} (r : Result X E) → A → OnOk r A
always_ok (Ok v) h = h
always_ok (Err e) h = tt

pub always_err : {X E A : Type 0} (r : Result X E) → A → OnErr r A
always_err (Ok v) h = tt
always_err (Err e) h = h

module _ (form : Form) (path : List ℕ) (before after : Option (List ℕ)) (cut : Bool) (unread left : Option (List ℕ)) where
  -- a key wasn't written as a .reg text
  pub reg_stops : (fault : ExportEnd) → cut ≡ is_end_cut fault → (is_utf8 : Bool) → (prefix : Option (Bor (List ℕ))) → form ≡ Reg is_utf8 prefix →
      ExportEnds fault unread left path (option_copied prefix) is_utf8 before after → WriteStops form path before after cut unread left
  reg_stops fault same_cut is_utf8 prefix is h =
      subst (λ (f : Form). WriteStops f path before after cut unread left) (sym is) (fault, same_cut, h)

  -- or as a table
  pub json_stops : form ≡ Json → TableEnds json_text path before after cut unread left → WriteStops form path before after cut unread left
  json_stops is h = subst (λ (f : Form). WriteStops f path before after cut unread left) (sym is) h

  pub lines_stops : form ≡ JsonLines → TableEnds jsonl_text path before after cut unread left → WriteStops form path before after cut unread left
  lines_stops is h = subst (λ (f : Form). WriteStops f path before after cut unread left) (sym is) h

  pub csv_stops : form ≡ Csv → TableEnds csv_text path before after cut unread left → WriteStops form path before after cut unread left
  csv_stops is h = subst (λ (f : Form). WriteStops f path before after cut unread left) (sym is) h

  pub html_stops : form ≡ Html → TableEnds html_text path before after cut unread left → WriteStops form path before after cut unread left
  html_stops is h = subst (λ (f : Form). WriteStops f path before after cut unread left) (sym is) h

-- what stopped it, as the fault is told on
pub told_on : (form : Form) (path : List ℕ) (before after : Option (List ℕ)) (given cut : Bool) (unread left : Option (List ℕ)) → cut ≡ given →
    WriteStops form path before after given unread left → (gone : Option (List ℕ)) × WriteStops form path before after cut unread gone
told_on form path before after given cut unread left same h =
    (left, subst (λ (c : Bool). WriteStops form path before after c unread left) (sym same) h)

-- two trees are the same, and that wasn't written
pub same_cut_short : (path : List ℕ) (given ignored : Ignored) (cut : Bool) (old old_left new new_left before after : Option (List ℕ))
    (is_same : Bool) (written : Option (List ℕ)) → given ≡ ignored → is_same ≡ true →
    Differs path given old old_left new new_left is_same before written →
    (cut ≡ true) × IsCutShort (codes "same\n") written after → StopsLines path ignored before after cut old old_left new new_left
same_cut_short path given ignored cut old old_left new new_left before after is_same written is are_same differs h =
    let same = subst (λ (b : Bool). Differs path ignored old old_left new new_left b before written) are_same
    (subst (λ (i : Ignored). Differs path i old old_left new new_left is_same before written) is differs) in
    inr (h.0, (written, same, h.1))

-- what stopped a comparison
pub lines_stopped : (path : List ℕ) (given ignored : Ignored) (cut : Bool) (old old_left new new_left before after : Option (List ℕ))
    (fault : DiffFault) → given ≡ ignored → cut ≡ is_diff_cut fault → DiffStops fault path given old old_left new new_left before after →
    StopsLines path ignored before after cut old old_left new new_left
lines_stopped path given ignored cut old old_left new new_left before after fault is same h =
    inl (fault, same, subst (λ (i : Ignored). DiffStops fault path i old old_left new new_left before after) is h)
