-- How many registrations may be made on a hive, in digits.
use Rattle.std.proofs.Common.{◌≡◌, refl}
use Rattle.reg_callbacks.specs.declared.callbacks.TheConstants.{REGISTRATIONS_LIMIT}

registrations_limit_is : REGISTRATIONS_LIMIT ≡ 65536
registrations_limit_is = refl
