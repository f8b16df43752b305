use Rattle.std.proofs.Common.{ℕ, List, [], ◌∷◌, ◌++◌, not, ap, reverse, suc, subst, sym, ◌≡◌, ◌∙◌}
use Rattle.reg_names.specs.declared.TheConstants.{PATH_LIMIT}
use Rattle.reg_arena.specs.Cells.{cell_at}
use Rattle.reg_tree_image.specs.declared.checking.CheckedKey.{CheckedKey}
use Rattle.reg_tree_image.specs.LoadingWalk.{key_from, root_path}
use Rattle.reg_tree_image.specs.Images.{nothing}
use Rattle.reg_tree_image.specs.Internal.FaultSpots.{root_spot, spot_in, IsMetAt}
use Rattle.reg_tree_image.specs.FaultPlaces.{key_spot}
use Rattle.reg_tree_image.specs.Internal.CheckedStacks.{IsChecking, Meets}
use Rattle.reg_tree_image.proofs.KeyStacks.StackEnds.{if_err, popped}
use Rattle.reg_tree_image.proofs.KeyStacks.CheckTurns.{checking-first, root-met}
use Rattle.reg_tree_image.proofs.checking.walk_keys.Goals as goal

pub loop-key-init : goal.loop-key-init
loop-key-init c =
    let bins = c.args.bins.now in
    let whole = key_from (cell_at bins) c.args.minor (suc PATH_LIMIT) [] root_path c.args.root nothing in
    let there = root_spot (cell_at bins) c.args.minor c.args.root in
    let items : reverse c.push.new.keys.items ≡ c.in_ok-first.first ∷ [] =
    ap reverse (c.in_ok-push.ensures.ok ∙ ap (λ (ks : List CheckedKey). ks ++ c.in_ok-first.first ∷ []) c.new-keys.ensures.items) in
    let noted : c.check_key.new.noted.items ≡ c.args.root ∷ [] = c.in_ok-first.ensures.noted ∙ ap (λ (l : List ℕ). l ++ c.args.root ∷ []) c.requires.none in
    let trail : c.check_key.new.spot.path.items ≡ c.args.root ∷ [] = c.in_ok-first.ensures.trail ∙ ap (λ (l : List ℕ). l ++ c.args.root ∷ []) c.requires.start in
    subst (λ (ks : List CheckedKey). IsChecking (cell_at bins) c.args.minor whole there ks c.check_key.new.table.states.items c.check_key.new.noted.items c.check_key.new.spot.path.items) (sym items)
    (subst (λ (l : List ℕ). IsChecking (cell_at bins) c.args.minor whole there (c.in_ok-first.first ∷ []) c.check_key.new.table.states.items l c.check_key.new.spot.path.items) (sym noted)
    (subst (λ (l : List ℕ). IsChecking (cell_at bins) c.args.minor whole there (c.in_ok-first.first ∷ []) c.check_key.new.table.states.items (c.args.root ∷ []) l) (sym trail)
    (checking-first (cell_at bins) c.args.minor c.args.root c.check_key.new.table.states.items c.new-siblings.result c.check_key.new.siblings c.in_ok-first.first
    (c.in_ok-first.ensures.checks [] root_path nothing c.requires.table (λ name. ap not (sym (c.new-siblings.ensures name)))))))

pub loop-key-preserved : goal.loop-key-preserved
loop-key-preserved c =
    let bins = c.args.bins.now in
    let whole = key_from (cell_at bins) c.args.minor (suc PATH_LIMIT) [] root_path c.args.root nothing in
    let there = root_spot (cell_at bins) c.args.minor c.args.root in
    c.in_ok-step.ensures.ok whole there
    (popped (λ (ks : List CheckedKey). IsChecking (cell_at bins) c.args.minor whole there ks c.loop-key.table.states.items c.loop-key.noted.items c.loop-key.spot.path.items)
    c.loop-key.keys.items c.pop.new.self.items c.in-Some.key c.in-Some.ensures.items c.loop-key.invariant)

pub returns-in_err-step-clause-spots : goal.returns-in_err-step-clause-spots
returns-in_err-step-clause-spots c =
    let bins = c.args.bins.now in
    let whole = key_from (cell_at bins) c.args.minor (suc PATH_LIMIT) [] root_path c.args.root nothing in
    let there = root_spot (cell_at bins) c.args.minor c.args.root in
    let w = popped (λ (ks : List CheckedKey). IsChecking (cell_at bins) c.args.minor whole there ks c.loop-key.table.states.items c.loop-key.noted.items c.loop-key.spot.path.items)
    c.loop-key.keys.items c.pop.new.self.items c.in-Some.key c.in-Some.ensures.items c.loop-key.invariant in
    let its = spot_in c.step.new.spot in
    if_err (λ fault. IsMetAt fault its (key_spot (cell_at bins) c.args.minor (suc PATH_LIMIT) [] root_path c.args.root nothing))
    c.from_residual-in_err-step.result _ c.from_residual-in_err-step.ensures.1
    (root-met (cell_at bins) c.args.minor c.args.root _ its (c.in_err-step.ensures.err whole there w) (c.in_err-step.ensures.spots whole there w))

pub returns-in_err-step-clause-err : goal.returns-in_err-step-clause-err
returns-in_err-step-clause-err c =
    let bins = c.args.bins.now in
    let whole = key_from (cell_at bins) c.args.minor (suc PATH_LIMIT) [] root_path c.args.root nothing in
    let there = root_spot (cell_at bins) c.args.minor c.args.root in
    let w = popped (λ (ks : List CheckedKey). IsChecking (cell_at bins) c.args.minor whole there ks c.loop-key.table.states.items c.loop-key.noted.items c.loop-key.spot.path.items)
    c.loop-key.keys.items c.pop.new.self.items c.in-Some.key c.in-Some.ensures.items c.loop-key.invariant in
    if_err (λ fault. Meets fault whole) c.from_residual-in_err-step.result _ c.from_residual-in_err-step.ensures.1 (c.in_err-step.ensures.err whole there w)
