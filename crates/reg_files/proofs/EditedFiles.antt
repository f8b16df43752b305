-- What an edit or an import of a file left, put together.
use Rattle.std.proofs.Common.{◌≡◌, ◌⊎◌, ℕ, Bool, false, List, Option, inl, inr, subst}
use Rattle.reg_words.specs.declared.request.EditRequest.{EditRequest}
use Rattle.reg_edits.specs.Edits.{Edits, EditStops}
use Rattle.reg_edits.specs.TextImports.{Imports, ImportEnds}
use Rattle.reg_edits.specs.declared.edits.Edited.{Edited}
use Rattle.reg_edits.specs.declared.edits.EditFault.{EditFault}
use Rattle.reg_edits.specs.declared.importing.ImportEnd.{ImportEnd}
use Rattle.reg_files.specs.Cuts.{is_edit_cut}
use Rattle.reg_files.specs.Editing.{IsGiven, IsNone, EditsFile, StopsEditing, Enters, OfText, StopsImporting}

module _ (edit : EditRequest) (begin : ℕ) (given : IsGiven edit.begin begin) where
  -- something ended the script
  pub edit_stopped : (keeps_going : Bool) (fault : EditFault) (cut : Bool) (file file_left unread left before after : Option (List ℕ)) →
      cut ≡ is_edit_cut fault → EditStops fault keeps_going begin file file_left unread left before after →
      StopsEditing edit keeps_going cut unread left before after
  edit_stopped keeps_going fault cut file file_left unread left before after same h =
      inr (inl (fault, same, (file, file_left, (begin, given, h))))

  -- or the text
  pub import_stopped : (front : Option (List ℕ)) (tells_all : Bool) (fault : ImportEnd) (file file_left unread left : Option (List ℕ)) →
      ImportEnds fault front tells_all begin file file_left unread left → StopsImporting edit front tells_all unread left
  import_stopped front tells_all fault file file_left unread left h = inl (fault, (file, file_left, (begin, given, h)))

module _ (edit : EditRequest) (begin : ℕ) (edited : Edited) (given : IsGiven edit.begin begin) where
  module _ (keeps_going : Bool) (file file_left unread left before after : Option (List ℕ))
      (edits : Edits keeps_going begin edited file file_left unread left before after) where
    -- no line failed
    pub edited_well : edited.failed ≡ 0 → EditsFile edit keeps_going IsNone unread left before after
    edited_well none = (file, file_left, (begin, edited, given, none, edits))

    -- lines failed, or saving was refused
    pub edited_in_vain : (cut : Bool) → cut ≡ false → StopsEditing edit keeps_going cut unread left before after
    edited_in_vain cut no_cut = inr (inr (no_cut, (file, file_left, (begin, edited, given, tt, edits))))

  pub entered : (front : Option (List ℕ)) (file file_left unread left : Option (List ℕ)) → Imports front begin edited file file_left unread left →
      Enters edit front unread left
  entered front file file_left unread left imports = (file, file_left, (begin, edited, given, imports))

-- ---- the front that stands for the root, as it is handed on

module _ (given front : Option (List ℕ)) (edit : EditRequest) (tells_all is_named : Bool) (unread left : Option (List ℕ)) (same : given ≡ front) where
  pub text_entered : OfText is_named unread left (Enters edit given) → OfText is_named unread left (Enters edit front)
  text_entered h = subst (λ f. OfText is_named unread left (Enters edit f)) same h

  pub text_stopped : ((left ≡ unread) ⊎ OfText is_named unread left (StopsImporting edit given tells_all)) →
      (left ≡ unread) ⊎ OfText is_named unread left (StopsImporting edit front tells_all)
  text_stopped h = subst (λ f. (left ≡ unread) ⊎ OfText is_named unread left (StopsImporting edit f tells_all)) same h
