-- How far a walk over a ring of securities has come, as its fields have it.
use Rattle.std.specs.Ordering.{nat_cmp}
use Rattle.std.specs.BTreeMap.{get}
use Rattle.reg_written.specs.declared.walk.RingWalk.{RingWalk}
use Rattle.reg_written.specs.Internal.MetDescriptors.{is_met}
use Rattle.reg_written.specs.Internal.RingWalks.{Way}

abbrev pub way_of : RingWalk → Way
way_of walk = record {
  ring = walk.ring.items;
  left = get nat_cmp walk.left;
  met = is_met walk.met.hashed.keys;
  before = walk.before;
  at = walk.at;
}
