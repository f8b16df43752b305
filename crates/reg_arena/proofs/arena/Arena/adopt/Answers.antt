use Rattle.std.proofs.Common.{arith, ap, refl, length, [], ◌∷◌, ◌++◌, ◌∙◌, ◌%◌, ◌≡◌}
use Rattle.reg_arena.proofs.Carving.KeptPages.{none_kept}
use Rattle.reg_arena.proofs.FreeList.TakenBins.{taken-none, adopted}
use Rattle.reg_arena.proofs.Tiling.ArenaInvariant.{AreBins-pages, closed}
use Rattle.reg_arena.proofs.arena.Arena.adopt.Goals as goal

pub push-requires-clause-pages : goal.push-requires-clause-pages
push-requires-clause-pages c = AreBins-pages _ 0 _ refl c.requires.arena.tiled

pub push-requires-clause-limit : goal.push-requires-clause-limit
push-requires-clause-limit c =
    let none = ap length (c.reserve.ensures.items ∙ c.new-row.ensures.items) in omega (arith, none, c.requires.arena.small)

pub push-requires-clause-room : goal.push-requires-clause-room
push-requires-clause-room c =
    let none = ap length c.new-row.ensures.items in
    let none' = ap length (c.reserve.ensures.items ∙ c.new-row.ensures.items) in
    let pages : length c.args.bins.items % 4096 ≡ 0 = AreBins-pages _ 0 _ refl c.requires.arena.tiled in
    omega (arith, none, none', pages, c.len.ensures, c.in_ok-reserve.ensures.ok)

pub list_all_free-requires-clause-taken : goal.list_all_free-requires-clause-taken
list_all_free-requires-clause-taken c =
    let pages : length c.args.bins.items % 4096 ≡ 0 = AreBins-pages _ 0 _ refl c.requires.arena.tiled in
    let items = c.push.ensures.items ∙ ap (λ bytes. bytes ++ c.args.bins.items) (c.reserve.ensures.items ∙ c.new-row.ensures.items) in
    rw items (_, taken-none _ c.requires.arena _ (c.make_room.ensures.listed _ _ c.new-lists.ensures.listed) _ c.in_ok-make_room.ensures.ok (omega (arith, pages, c.len-2.ensures)))

pub invariant_of-result : goal.invariant_of-result
invariant_of-result c =
    let pages : length c.args.bins.items % 4096 ≡ 0 = AreBins-pages _ 0 _ refl c.requires.arena.tiled in
    let items = c.push.ensures.items ∙ ap (λ bytes. bytes ++ c.args.bins.items) (c.reserve.ensures.items ∙ c.new-row.ensures.items) in
    let taken = rw items at c.list_all_free.ensures.taken in
    let t = taken _ (taken-none _ c.requires.arena _ (c.make_room.ensures.listed _ _ c.new-lists.ensures.listed) _ c.in_ok-make_room.ensures.ok (omega (arith, pages, c.len-2.ensures))) in
    let parts = c.list_all_free.ensures.parts ∙ c.push.ensures.parts ∙ ap (λ sizes. sizes ++ length c.args.bins.items ∷ []) (c.reserve.ensures.parts ∙ c.new-row.ensures.parts) in
    let a = adopted _ _ _ c.requires.arena _ t parts in
    (closed _ _ a.indexed a.split, rw c.new.ensures.items none_kept)

pub returns-clause-cells : goal.returns-clause-cells
returns-clause-cells c =
    let pages : length c.args.bins.items % 4096 ≡ 0 = AreBins-pages _ 0 _ refl c.requires.arena.tiled in
    let items = c.push.ensures.items ∙ ap (λ bytes. bytes ++ c.args.bins.items) (c.reserve.ensures.items ∙ c.new-row.ensures.items) in
    let taken = rw items at c.list_all_free.ensures.taken in
    let t = taken _ (taken-none _ c.requires.arena _ (c.make_room.ensures.listed _ _ c.new-lists.ensures.listed) _ c.in_ok-make_room.ensures.ok (omega (arith, pages, c.len-2.ensures))) in
    (adopted _ _ _ c.requires.arena _ t refl).cells

pub returns-clause-contents : goal.returns-clause-contents
returns-clause-contents c =
    let pages : length c.args.bins.items % 4096 ≡ 0 = AreBins-pages _ 0 _ refl c.requires.arena.tiled in
    let items = c.push.ensures.items ∙ ap (λ bytes. bytes ++ c.args.bins.items) (c.reserve.ensures.items ∙ c.new-row.ensures.items) in
    let taken = rw items at c.list_all_free.ensures.taken in
    let t = taken _ (taken-none _ c.requires.arena _ (c.make_room.ensures.listed _ _ c.new-lists.ensures.listed) _ c.in_ok-make_room.ensures.ok (omega (arith, pages, c.len-2.ensures))) in
    (adopted _ _ _ c.requires.arena _ t refl).contents

pub returns-clause-long : goal.returns-clause-long
returns-clause-long c =
    let pages : length c.args.bins.items % 4096 ≡ 0 = AreBins-pages _ 0 _ refl c.requires.arena.tiled in
    let items = c.push.ensures.items ∙ ap (λ bytes. bytes ++ c.args.bins.items) (c.reserve.ensures.items ∙ c.new-row.ensures.items) in
    let taken = rw items at c.list_all_free.ensures.taken in
    let t = taken _ (taken-none _ c.requires.arena _ (c.make_room.ensures.listed _ _ c.new-lists.ensures.listed) _ c.in_ok-make_room.ensures.ok (omega (arith, pages, c.len-2.ensures))) in
    (adopted _ _ _ c.requires.arena _ t refl).long
