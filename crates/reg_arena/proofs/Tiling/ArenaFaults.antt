-- Which fault an answer is.
use Rattle.std.proofs.Common.{◌≡◌, ℕ, List, Ok, Err, arith}
use Rattle.std.specs.Prelude.{IfErr, OnErr, OnOk}
use Rattle.std.specs.declared.result.Result.{Result}
use Rattle.reg_arena.specs.declared.ArenaFault.{ArenaFault}
use Rattle.reg_arena.specs.NewBin.{PassesLimit, HasRoomForBin}
use Rattle.reg_arena.specs.declared.ArenaFault.TheVariants.{Full, Memory}

pub not-full : (result : Result (Unit {0}) ArenaFault) → IfErr result (λ fault. fault ≡ Memory) → result ≡ Err Full → ⊥
not-full (Ok x) h e = cc (e)
not-full (Err f) h e = cc (h, e)

pub room-or-not : (bytes : List ℕ) (total : ℕ) → HasRoomForBin bytes total → PassesLimit bytes total → ⊥
room-or-not bytes total room h = (let fits = room h.size h.least in omega (arith, fits, h.passes))

-- what holds holds after an error
pub on_err : {A E : Type 0} (result : Result A E) (P : Type 0) → P → OnErr result P
on_err (Ok x) P p = tt
on_err (Err e) P p = p

pub on_ok : {A E : Type 0} (result : Result A E) (P : Type 0) → P → OnOk result P
on_ok (Ok x) P p = p
on_ok (Err e) P p = tt
