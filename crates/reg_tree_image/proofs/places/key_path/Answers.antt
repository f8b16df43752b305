use Rattle.std.proofs.Common.{◌≤◌, ◌-◌, ℕ, List, Some, length, map, drop, length-drop, ap, ◌∙◌, arith}
use Rattle.reg_names.specs.Names.{text_of}
use Rattle.reg_arena.specs.Cells.{cell_at}
use Rattle.reg_tree_image.specs.FaultPlaces.{name_there}
use Rattle.reg_tree_image.proofs.Devices.PlaceNames.{take-all, one-key}
use Rattle.reg_tree_image.proofs.places.key_path.Goals as goal

pub returns-clause-ok : goal.returns-clause-ok
returns-clause-ok c =
    let path = c.args.path.now in
    let within : length (drop 1 path) ≤ length path - 1 = simp length-drop (omega arith) in
    ap Some (c.in_ok-text.ensures.ok
    ∙ ap (λ (os : List ℕ). text_of (map (name_there (cell_at c.args.bins.now)) os)) (take-all (drop 1 path) (length path - 1) within))
    ∙ one-key (cell_at c.args.bins.now) path c.if-path-eq0.false
