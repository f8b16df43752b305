-- How many hives a registry has at most, in digits.
use Rattle.std.proofs.Common.{◌≡◌, refl}
use Rattle.reg_sessions.specs.declared.registry.TheConstants.{HIVES_LIMIT}

hives_limit_is : HIVES_LIMIT ≡ 16
hives_limit_is = refl
