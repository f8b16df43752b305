use Rattle.std.proofs.Common.{◌≡◌, List, ◌++◌, map}
use Rattle.reg_tree_text.specs.DumpTexts.{Told}
use Rattle.reg_tree_text.specs.Internal.Walking.{Stands}
use Rattle.reg_tree_text.proofs.ListedKeys.{IsAmid}
use Rattle.reg_tables.specs.Timelines.{timed, keys_within}
use Rattle.reg_tables.proofs.timeline.gather_more.Given as goal

abbrev pub invariant-loop-key : goal.invariant-loop-key
invariant-loop-key l =
    (here : Told) → (rest : List Told) → Stands l.tree l.fn.start here rest → (amid : IsAmid l.tree l.walk) ×
    (map timed l.initial.keys.items ++ keys_within l.hive l.from l.to rest ≡ map timed l.keys.items ++ keys_within l.hive l.from l.to amid.rest)
