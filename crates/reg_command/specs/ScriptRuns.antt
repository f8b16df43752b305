-- Scripts that the tool ran to their end (this project's own).
use Rattle.std.specs.Prelude.{ℕ, List, Option}
use Rattle.std.specs.Io.KnownBytes.{IsAtEnd, Appends, Consumes}
use Rattle.reg_model.specs.Callbacks.{no_callbacks}
use Rattle.reg_calls.specs.Views.{View}
use Rattle.reg_script.specs.Lines.{IsFresh, Writes, LinesTo}
use Rattle.reg_tree_image.specs.Images.{image_of}

-- the input was read to its end, and what was written are the replies that the rules give for all that was read
pub record RunsScript (unread left before after : Option (List ℕ)) : Type 0 where
  pub at_end : IsAtEnd left
  pub script : List ℕ
  pub text : List ℕ
  pub consumed : Consumes unread left script
  pub writes : Writes script text
  pub appended : Appends before after text

-- the input was read to its end, and this is a hive that its lines may lead to on a fresh one without callbacks, and the moment of the last that sets one
pub record LeadsTo (unread left : Option (List ℕ)) (last : View) (moment : ℕ) : Type 0 where
  pub at_end : IsAtEnd left
  pub script : List ℕ
  pub consumed : Consumes unread left script
  pub fresh : View
  pub is_fresh : IsFresh fresh
  pub text : List ℕ
  pub lines : LinesTo no_callbacks fresh script text last moment

-- the image of a hive, at a moment, with a sequence number
abbrev pub image_at : View → ℕ → ℕ → List ℕ
image_at hive moment sequence = image_of hive.keys.bins.bytes hive.keys.root moment sequence

-- the input was read to its end, and what was written is the image of the hive that its lines led to, and nothing else
pub record WritesImage (sequence : ℕ) (unread left before after : Option (List ℕ)) : Type 0 where
  pub last : View
  pub moment : ℕ
  pub leads : LeadsTo unread left last moment
  pub appended : Appends before after (image_at last moment sequence)
