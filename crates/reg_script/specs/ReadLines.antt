-- What a line means once it was read.
use Rattle.reg_script.specs.declared.line.Line.{Line}
use Rattle.reg_script.specs.declared.line.Line.TheVariants.{Nothing, Setting, Call, Notice, Bad}
use Rattle.reg_script.specs.declared.line.Setting.TheVariants.{At, As, Hive}
use Rattle.reg_script.specs.LineMeanings.{Meaning, nothing, at_moment, as_session, on_hive, asks, takes_notice, bad}

-- what a line that was read means
abbrev pub said : Line → Meaning
said Nothing = nothing
said (Setting (At moment)) = at_moment moment
said (Setting (As session)) = as_session session.number
said (Setting (Hive hive)) = on_hive hive
said (Call call) = asks call
said Notice = takes_notice
said Bad = bad
