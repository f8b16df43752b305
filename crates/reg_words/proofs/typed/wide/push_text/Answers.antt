use Rattle.std.proofs.Common.{chars, ap, ◌∙◌}
use Rattle.std.proofs.lemmas.List.{nil_from_length}
use Rattle.std.proofs.lemmas.Str.{chars-nil, chars_past_char, IsUtf8-past_char}
use Rattle.std.proofs.lemmas.Result.{on_ok_weaker}
use Rattle.std.specs.Str.Iter.{chars_rest}
use Rattle.reg_words.proofs.WideTexts.{character_more, character_end}
use Rattle.reg_words.proofs.typed.wide.push_text.Goals as goal

pub loop-character-preserved : goal.loop-character-preserved
loop-character-preserved c = let step = c.in-Some.ensures.steps.0 in record {
  is_utf8 = IsUtf8-past_char _ _ c.in-Some.character c.loop-character.invariant.is_utf8 step;
  bytes =
      character_more c.loop-character.bytes.items _ c.in-Some.character _ (chars (chars_rest c.loop-character.rest)) _
      c.loop-character.invariant.bytes (chars_past_char _ _ c.in-Some.character c.loop-character.invariant.is_utf8 step)
      c.in_ok-push_character.ensures;
}

pub returns : goal.returns
returns c =
    on_ok_weaker c.push_unit.result
    (λ n. character_end _ c.loop-character.bytes.items _ _ _ _ c.loop-character.invariant.bytes
    (ap chars (nil_from_length _ c.in_default.ensures.steps.0.0) ∙ chars-nil) n) c.push_unit.ensures
