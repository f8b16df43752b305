use Rattle.std.proofs.Common.{◌≡◌, ℕ, List, None, cond, subst}
use Rattle.std.specs.Prelude.{option_map}
use Rattle.slab.specs.Slab.{get}
use Rattle.reg_handles.specs.Internal.OpenKeySlab.{key_at, without_key_past}
use Rattle.reg_model.specs.Internal.TextNumbers.{goes_on}
use Rattle.reg_handles.proofs.KeysMarkedBelow.{one_marked, all_slots, all_paths}
use Rattle.reg_handles.proofs.keys.OpenKeys.mark_deleted_under.Goals as goal

pub loop-key-preserved : goal.loop-key-preserved
loop-key-preserved g c =
    let first = c.in-Some.ensures.some in
    let was = c.loop-key.self in
    one_marked (goes_on c.start_below-start.result.items) c.args.self.now.slots was.slots (key_at c.args.self.now.by_path.entries) (key_at was.by_path.entries) c.loop-key.invariant
    c.delete.new.self.slots (key_at c.delete.new.self.by_path.entries) c.in-Some.key first.0 first.1 first.2 c.delete.ensures.slots c.delete.ensures.paths

pub returns-clause-slots : goal.returns-clause-slots
returns-clause-slots g c = λ key.
    let was = c.args.self.now in
    let new = c.loop-key.self in
    let start = c.start_below-start.result.items in
    subst (λ (s : List ℕ). get new.slots key ≡ option_map (without_key_past (goes_on s)) (get was.slots key)) c.start_below-start.ensures
    (all_slots (goes_on start) was.slots new.slots (key_at was.by_path.entries) (key_at new.by_path.entries) c.loop-key.invariant c.in_default.ensures.none key)

pub returns-clause-paths : goal.returns-clause-paths
returns-clause-paths g c = λ text.
    let was = c.args.self.now in
    let new = c.loop-key.self in
    let start = c.start_below-start.result.items in
    subst (λ (s : List ℕ). key_at new.by_path.entries text ≡ cond (goes_on s text) None (key_at was.by_path.entries text)) c.start_below-start.ensures
    (all_paths (goes_on start) was.slots new.slots (key_at was.by_path.entries) (key_at new.by_path.entries) c.loop-key.invariant c.in_default.ensures.none text)
