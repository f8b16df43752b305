-- The fault of a checkpoint is that of the cut, where there is one.
use Rattle.std.proofs.Common.{◌≡◌, ℕ, Bool, true, false, cond, length, Some, None, refl}
use Rattle.std.specs.Prelude.{nat_lt}
use Rattle.reg_model.specs.declared.limits.TheConstants.{NUMBERS_LIMIT}
use Rattle.reg_calls.specs.declared.cut.CutFault.TheVariants as cut
use Rattle.reg_calls.specs.Cuts.{fault_of_cut}
use Rattle.reg_calls.specs.Views.{View, next_of}
use Rattle.reg_image.specs.declared.checkpoints.CheckpointFault.TheVariants.{HandlesOpen, Numbers, Memory}
use Rattle.reg_image.specs.Checkpoints.{fault_of_checkpoint}

open-by : (a b : Bool) (n count : ℕ) → cond a (Some (cut.HandlesOpen n)) (cond b (Some cut.Numbers) None) ≡ Some (cut.HandlesOpen count) →
    HandlesOpen count ≡ cond a (HandlesOpen n) (cond b Numbers Memory)
open-by true b n count e = cc
open-by false true n count e = cc
open-by false false n count e = cc

numbers-by : (a b : Bool) (n : ℕ) → cond a (Some (cut.HandlesOpen n)) (cond b (Some cut.Numbers) None) ≡ Some cut.Numbers → Numbers ≡ cond a (HandlesOpen n) (cond b Numbers Memory)
numbers-by true b n e = cc
numbers-by false true n e = refl
numbers-by false false n e = cc

pub told-open : (count : ℕ) (v : View) → fault_of_cut v ≡ Some (cut.HandlesOpen count) → HandlesOpen count ≡ fault_of_checkpoint v
told-open count v e = open-by (nat_lt 0 (length v.handles)) (nat_lt NUMBERS_LIMIT (next_of v)) (length v.handles) count e

pub told-numbers : (v : View) → fault_of_cut v ≡ Some cut.Numbers → Numbers ≡ fault_of_checkpoint v
told-numbers v e = numbers-by (nat_lt 0 (length v.handles)) (nat_lt NUMBERS_LIMIT (next_of v)) (length v.handles) e
