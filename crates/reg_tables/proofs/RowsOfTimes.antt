-- Times, computed at moments that were worked out by hand.
use Rattle.std.proofs.Common.{◌≡◌, refl}
use Rattle.std.specs.Prelude.{codes}
use Rattle.std.specs.Fmt.{digits}
use Rattle.jiff_fmt.specs.Text.{places, trailing_zeros}
use Rattle.reg_tables.specs.Times.{year_and_day, month_and_day, date_text, clock_text, instant_text, time_text}

-- the start of 1601, and that of 1970
instant-first : instant_text 0 ≡ codes "1601-01-01T00:00:00Z"
unfolding instant_text date_text year_and_day month_and_day clock_text places trailing_zeros
instant-first = refl

instant-epoch : instant_text 116_444_736_000_000_000 ≡ codes "1970-01-01T00:00:00Z"
unfolding instant_text date_text year_and_day month_and_day clock_text places trailing_zeros
instant-epoch = refl

-- 11,644,473,600 s lie between these; 1,655,526,400 s behind 1970 it was 04:26:40 on 18 June 2022
instant-june : instant_text 133_000_000_000_000_000 ≡ codes "2022-06-18T04:26:40Z"
unfolding instant_text date_text year_and_day month_and_day clock_text places trailing_zeros
instant-june = refl

-- half a second, and 100 ns
instant-half : instant_text 133_000_000_005_000_000 ≡ codes "2022-06-18T04:26:40.5Z"
unfolding instant_text date_text year_and_day month_and_day clock_text places trailing_zeros
instant-half = refl

instant-tick : instant_text 116_444_736_000_000_001 ≡ codes "1970-01-01T00:00:00.0000001Z"
unfolding instant_text date_text year_and_day month_and_day clock_text places trailing_zeros
instant-tick = refl

-- 100 ns before 1 March 2000, and before 1 March 1900
instant-leap : instant_text 125_963_423_999_999_999 ≡ codes "2000-02-29T23:59:59.9999999Z"
unfolding instant_text date_text year_and_day month_and_day clock_text places trailing_zeros
instant-leap = refl

instant-century : instant_text 94_405_823_999_999_999 ≡ codes "1900-02-28T23:59:59.9999999Z"
unfolding instant_text date_text year_and_day month_and_day clock_text places trailing_zeros
instant-century = refl

-- the last one that is said, and the next one
instant-last : instant_text 2_650_466_808_009_999_999 ≡ codes "9999-12-30T22:00:00.9999999Z"
unfolding instant_text date_text year_and_day month_and_day clock_text places trailing_zeros
instant-last = refl

text-last : time_text 2_650_466_808_009_999_999 ≡ codes "9999-12-30T22:00:00.9999999Z"
unfolding time_text instant_text date_text year_and_day month_and_day clock_text places trailing_zeros
text-last = refl

text-beyond : time_text 2_650_466_808_010_000_000 ≡ codes "2650466808010000000"
unfolding time_text digits
text-beyond = refl
