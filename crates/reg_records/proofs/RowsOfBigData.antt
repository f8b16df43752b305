-- The size of a segment, in digits, and how many segments data has: who changes the constant changes the rules.
use Rattle.std.specs.Prelude.{◌≡◌, refl}
use Rattle.reg_records.specs.declared.db.TheConstants.{SEGMENT_SIZE}
use Rattle.reg_records.specs.BigData.{segment_size, segments_for}

segment_size_is : SEGMENT_SIZE ≡ 16344
segment_size_is = refl

one_segment : segments_for 16344 ≡ 1
unfolding segment_size
one_segment = refl

two_segments : segments_for 16345 ≡ 2
unfolding segment_size
two_segments = refl
