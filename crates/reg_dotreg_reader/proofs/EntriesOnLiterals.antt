-- What a row unfolds to compute what lines and texts say.
use Rattle.std.specs.Prelude.{⊤}
use Rattle.reg_names.specs.Names.{are_key_names}
use Rattle.reg_dotreg_reader.specs.EntryWords.{behind_blanks, before_blanks, before_mark, behind_word, number_after, number_of, pieces_bytes}
use Rattle.reg_dotreg_reader.specs.EntryWords.{list_bytes, quoted_from, quoted, unit_bytes, plain_bytes}
use Rattle.reg_dotreg_reader.specs.EntryLines.{ended, lines_of, cut, goes_on, carried, joined, whole_of, whole_lines}
use Rattle.reg_dotreg_reader.specs.EntryMeanings.{behind_name, lengthened, way_below, bracketed, name_read, text_data, number_data, kind_data}
use Rattle.reg_dotreg_reader.specs.EntryMeanings.{bytes_data, data_of, valued, value_said, said, entries_from, entries_in}

unfoldable pub on_words : ⊤
unfolding behind_blanks before_blanks before_mark behind_word number_after number_of pieces_bytes list_bytes quoted_from quoted unit_bytes plain_bytes
on_words = tt

unfoldable pub on_lines : ⊤
unfolding on_words are_key_names behind_name lengthened way_below bracketed name_read text_data number_data kind_data bytes_data data_of valued value_said said
on_lines = tt

unfoldable pub on_texts : ⊤
unfolding on_lines ended lines_of cut goes_on carried joined whole_of whole_lines entries_from entries_in
on_texts = tt
