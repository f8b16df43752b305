-- Checkpoints of hives behind their locks.
use Rattle.std.specs.Prelude.{◌≡◌, ℕ, List, Some, None, Ok}
use Rattle.reg_calls.specs.Cuts.{fault_of_cut}
use Rattle.reg_calls.specs.Views.{Booked}
use Rattle.reg_calls.specs.declared.cut.CutFault.TheVariants as cut
use Rattle.reg_tree_image.specs.Images.{image_of, loaded}
use Rattle.reg_sessions.specs.Gathering.{IsGathered, Differ}
use Rattle.reg_sessions.specs.Locked.{IsAdmitted}
use Rattle.reg_sessions.specs.Sessions.{SessionState, Shape, AreInOrder}
use Rattle.reg_sessions.specs.declared.checkpoints.RegistryCutFault.{RegistryCutFault}
use Rattle.reg_sessions.specs.declared.checkpoints.RegistryCutFault.TheVariants.{Sessions, HandlesOpen, Numbers, Mismatch, Memory}

-- nothing stands against a checkpoint of hive h but memory: no handle is open, its numbers can go on, and of each session its journal has just
-- the entries that the session has receipts of, in order
pub record IsCompared (hive : Booked) (h : ℕ) (sessions : List SessionState) : Type 0 where
  pub clear : fault_of_cut hive.view ≡ None
  pub gathered : IsGathered hive.view.journal h sessions

-- a hive's checkpoint: its image, which loads as its tree
pub record IsCheckpoint (hive : Booked) (h : ℕ) (sessions : List SessionState) (moment sequence : ℕ) (image : List ℕ) : Type 0 where
  pub compared : IsCompared hive h sessions
  pub image_is : image ≡ image_of hive.view.keys.bins.bytes hive.view.keys.root moment sequence
  pub loads : loaded image ≡ Ok hive.view.keys.tree

-- when each fault is due at hive h
abbrev pub IsCutDue : Booked → ℕ → List SessionState → RegistryCutFault → Type 0
IsCutDue hive h sessions Sessions = ⊥
IsCutDue hive h sessions (HandlesOpen count) = fault_of_cut hive.view ≡ Some (cut.HandlesOpen count)
IsCutDue hive h sessions Numbers = fault_of_cut hive.view ≡ Some cut.Numbers
IsCutDue hive h sessions (Mismatch s place) = (fault_of_cut hive.view ≡ None) × Differ hive.view.journal h sessions s place
IsCutDue hive h sessions Memory = IsCompared hive h sessions

-- the checkpoint of a hive that a lock's type admits, with the sessions that were started, in order
pub record IsCheckpointAt (shape : Shape) (h : ℕ) (sessions : List SessionState) (moment sequence : ℕ) (image : List ℕ) : Type 0 where
  pub hive : Booked
  pub order : AreInOrder shape.sessions sessions
  pub admitted : IsAdmitted hive
  pub made : IsCheckpoint hive h sessions moment sequence image

-- a fault that is due at such a hive
pub record IsDueAt (shape : Shape) (h : ℕ) (sessions : List SessionState) (fault : RegistryCutFault) : Type 0 where
  pub hive : Booked
  pub order : AreInOrder shape.sessions sessions
  pub admitted : IsAdmitted hive
  pub due : IsCutDue hive h sessions fault

-- when each fault is due: the sessions where they aren't those that were started, in order; the others by the hive
abbrev pub IsRefused : Shape → ℕ → List SessionState → RegistryCutFault → Type 0
IsRefused shape h sessions Sessions = AreInOrder shape.sessions sessions → ⊥
IsRefused shape h sessions (HandlesOpen count) = IsDueAt shape h sessions (HandlesOpen count)
IsRefused shape h sessions Numbers = IsDueAt shape h sessions Numbers
IsRefused shape h sessions (Mismatch s place) = IsDueAt shape h sessions (Mismatch s place)
IsRefused shape h sessions Memory = IsDueAt shape h sessions Memory
