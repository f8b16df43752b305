use Rattle.std.proofs.Common.{chars, string_bytes, ap, ◌∙◌}
use Rattle.std.proofs.lemmas.List.{nil_from_length}
use Rattle.std.proofs.lemmas.Str.{chars-nil, chars_past_char, IsUtf8-past_char}
use Rattle.std.specs.Str.Iter.{chars_rest}
use Rattle.reg_words.specs.Settings.{character_in}
use Rattle.reg_words.proofs.ToldPieces.{piece_more, told_all}
use Rattle.reg_words.proofs.settings.push_told.Goals as goal

pub loop-character-preserved : goal.loop-character-preserved
loop-character-preserved c = let step = c.in-Some.ensures.steps.0 in record {
  is_utf8 = IsUtf8-past_char _ _ c.in-Some.character c.loop-character.invariant.is_utf8 step;
  told =
      piece_more (character_in c.args.setting) (string_bytes c.loop-character.text) _ c.in-Some.character _
      (chars (chars_rest c.loop-character.rest)) _
      c.loop-character.invariant.told (chars_past_char _ _ c.in-Some.character c.loop-character.invariant.is_utf8 step)
      c.in_ok-push_character.ensures;
}

pub returns : goal.returns
returns c =
    told_all c.args.setting (string_bytes c.loop-character.text) _ _ _ c.loop-character.invariant.told
    (ap chars (nil_from_length _ c.in_default.ensures.steps.0.0) ∙ chars-nil)
