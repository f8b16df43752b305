-- The limits as the rules give them, in digits: who changes a constant changes the rules.
use Rattle.std.proofs.Common.{◌≡◌, refl}
use Rattle.reg_heap.specs.declared.limits.TheConstants.{NONE, BINS_LIMIT, GROWTH_BOUND, SUBKEYS_LIMIT, LEAF_LIMIT, MADE_LIMIT, VALUES_LIMIT, DATA_LIMIT, DESCRIPTOR_LIMIT}
use Rattle.reg_heap.specs.declared.marks.TheConstants.{NO_DELETE}

none_is : NONE ≡ 4294967295
none_is = refl

bins_limit_is : BINS_LIMIT ≡ 268435456
bins_limit_is = refl

growth_bound_is : GROWTH_BOUND ≡ 1310720
growth_bound_is = refl

subkeys_limit_is : SUBKEYS_LIMIT ≡ 60000
subkeys_limit_is = refl

leaf_limit_is : LEAF_LIMIT ≡ 500
leaf_limit_is = refl

made_limit_is : MADE_LIMIT ≡ 32
made_limit_is = refl

values_limit_is : VALUES_LIMIT ≡ 16384
values_limit_is = refl

data_limit_is : DATA_LIMIT ≡ 1048576
data_limit_is = refl

descriptor_limit_is : DESCRIPTOR_LIMIT ≡ 65535
descriptor_limit_is = refl

no_delete_is : NO_DELETE ≡ 8
no_delete_is = refl
