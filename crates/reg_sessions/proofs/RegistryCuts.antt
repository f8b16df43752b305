-- What a registry answers of a checkpoint at a hive behind its lock.
use Rattle.std.proofs.Common.{◌≡◌, ℕ, List, sym, subst}
use Rattle.std.specs.Prelude.{Result, Ok, Err, IfErr, IsErrAnd}
use Rattle.reg_calls.specs.Views.{Booked}
use Rattle.reg_sessions.specs.Checkpoints.{IsCheckpoint, IsCheckpointAt, IsCutDue, IsRefused}
use Rattle.reg_sessions.specs.Locked.{IsAdmitted}
use Rattle.reg_sessions.specs.Sessions.{SessionState, Shape, AreInOrder}
use Rattle.reg_sessions.specs.declared.checkpoints.RegistryCutFault.{RegistryCutFault}
use Rattle.reg_sessions.specs.declared.checkpoints.RegistryCutFault.TheVariants.{Sessions, HandlesOpen, Numbers, Mismatch, Memory}

pub made_at : {hive : Booked} (shape : Shape) (h : ℕ) (sessions : List SessionState) (moment sequence : ℕ) (image : List ℕ) → AreInOrder shape.sessions sessions →
    IsAdmitted hive → IsCheckpoint hive h sessions moment sequence image → IsCheckpointAt shape h sessions moment sequence image
made_at {hive} shape h sessions moment sequence image order admitted made = record { hive = hive; order = order; admitted = admitted; made = made }

refused_by : (hive : Booked) (shape : Shape) (h : ℕ) (sessions : List SessionState) (fault : RegistryCutFault) → AreInOrder shape.sessions sessions → IsAdmitted hive →
    IsCutDue hive h sessions fault → IsRefused shape h sessions fault
refused_by hive shape h sessions Sessions order admitted due = absurd due
refused_by hive shape h sessions (HandlesOpen count) order admitted due = record { hive = hive; order = order; admitted = admitted; due = due }
refused_by hive shape h sessions Numbers order admitted due = record { hive = hive; order = order; admitted = admitted; due = due }
refused_by hive shape h sessions (Mismatch s place) order admitted due = record { hive = hive; order = order; admitted = admitted; due = due }
refused_by hive shape h sessions Memory order admitted due = record { hive = hive; order = order; admitted = admitted; due = due }

pub refused_at : {A : Type 0} {hive : Booked} (shape : Shape) (h : ℕ) (sessions : List SessionState) (fault : RegistryCutFault) (result : Result A RegistryCutFault) →
    AreInOrder shape.sessions sessions → IsAdmitted hive → IsCutDue hive h sessions fault → IsErrAnd result (λ e. e ≡ fault) → IfErr result (IsRefused shape h sessions)
refused_at shape h sessions fault (Ok image) order admitted due is = tt
refused_at {A} {hive} shape h sessions fault (Err e) order admitted due is = subst (IsRefused shape h sessions) (sym is) (refused_by hive shape h sessions fault order admitted due)
