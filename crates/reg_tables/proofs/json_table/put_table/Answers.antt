use Rattle.std.proofs.Common.{◌++◌}
use Rattle.reg_tree_text.proofs.SentTexts.{opened, swapped, stops_full, exits}
use Rattle.reg_tables.specs.Tables.{keys_from}
use Rattle.reg_tables.specs.Internal.Layouts.{before_keys, behind_keys, back_of, keys_laid}
use Rattle.reg_tables.proofs.LaidTexts.{keys_on, front-next, part-next}
use Rattle.reg_tables.proofs.json_table.put_table.Goals as goal

pub returns-in_err-walk : goal.returns-in_err-walk
returns-in_err-walk g c = λ p key begin whole left s. exits _ _ _ _ c.from_residual.ensures.1 (stops_full begin _ whole _ _ _ s)

pub returns-in_err-put_text : goal.returns-in_err-put_text
returns-in_err-put_text g c =
    λ p key begin whole left s.
    (let go = c.in_ok-walk.ensures p key in
    exits _ _ _ _ c.from_residual-in_err-put_text.ensures.1
    (c.in_err-put_text.ensures begin whole _
    (front-next begin _ whole left _ _ c.args.layout c.args.tree.now.tree p go.told go.rest go.all_is _ c.front.ensures s)))

pub returns-in_err-put_text-2 : goal.returns-in_err-put_text-2
returns-in_err-put_text-2 g c =
    λ p key begin whole left s.
    (let go = c.in_ok-walk.ensures p key in
    exits _ _ _ _ c.from_residual-in_err-put_text-2.ensures.1
    (c.in_err-put_text-2.ensures begin whole _
    (part-next begin _ whole left _ _ (before_keys c.args.layout) (keys_on c.args.layout (keys_from c.args.tree.now.tree p)) _ c.before_keys.ensures
    (c.in_ok-put_text.ensures begin whole _
    (front-next begin _ whole left _ _ c.args.layout c.args.tree.now.tree p go.told go.rest go.all_is _ c.front.ensures s)))))

pub put_keys-requires : goal.put_keys-requires
put_keys-requires g c = (_, c.in_ok-walk.ensures c.requires.0 c.requires.1)

pub returns-in_err-put_keys : goal.returns-in_err-put_keys
returns-in_err-put_keys g c =
    λ p key begin whole left s.
    (let go = c.in_ok-walk.ensures p key in
    exits _ _ _ _ c.from_residual-in_err-put_keys.ensures.1
    (c.in_err-put_keys.ensures _ go begin whole _
    (opened begin _ whole (keys_laid c.args.layout (keys_from c.args.tree.now.tree p)) (behind_keys c.args.layout ++ back_of c.args.layout) left _ _
    (c.in_ok-put_text-2.ensures begin whole _
    (part-next begin _ whole left _ _ (before_keys c.args.layout) (keys_on c.args.layout (keys_from c.args.tree.now.tree p)) _ c.before_keys.ensures
    (c.in_ok-put_text.ensures begin whole _
    (front-next begin _ whole left _ _ c.args.layout c.args.tree.now.tree p go.told go.rest go.all_is _ c.front.ensures s)))))))

pub returns-in_err-put_text-3 : goal.returns-in_err-put_text-3
returns-in_err-put_text-3 g c =
    λ p key begin whole left s.
    (let go = c.in_ok-walk.ensures p key in
    exits _ _ _ _ c.from_residual-in_err-put_text-3.ensures.1
    (c.in_err-put_text-3.ensures begin whole _
    (part-next begin _ whole left _ _ (behind_keys c.args.layout) (back_of c.args.layout) _ c.behind_keys.ensures
    (c.in_ok-put_keys.ensures _ go begin whole _
    (opened begin _ whole (keys_laid c.args.layout (keys_from c.args.tree.now.tree p)) (behind_keys c.args.layout ++ back_of c.args.layout) left _ _
    (c.in_ok-put_text-2.ensures begin whole _
    (part-next begin _ whole left _ _ (before_keys c.args.layout) (keys_on c.args.layout (keys_from c.args.tree.now.tree p)) _ c.before_keys.ensures
    (c.in_ok-put_text.ensures begin whole _
    (front-next begin _ whole left _ _ c.args.layout c.args.tree.now.tree p go.told go.rest go.all_is _ c.front.ensures s)))))))))

pub returns : goal.returns
returns g c =
    λ p key begin whole left s.
    (let go = c.in_ok-walk.ensures p key in
    c.put_text-4.ensures begin whole left
    (swapped begin _ whole _ _ left _ _
    (c.in_ok-put_text-3.ensures begin whole _
    (part-next begin _ whole left _ _ (behind_keys c.args.layout) (back_of c.args.layout) _ c.behind_keys.ensures
    (c.in_ok-put_keys.ensures _ go begin whole _
    (opened begin _ whole (keys_laid c.args.layout (keys_from c.args.tree.now.tree p)) (behind_keys c.args.layout ++ back_of c.args.layout) left _ _
    (c.in_ok-put_text-2.ensures begin whole _
    (part-next begin _ whole left _ _ (before_keys c.args.layout) (keys_on c.args.layout (keys_from c.args.tree.now.tree p)) _ c.before_keys.ensures
    (c.in_ok-put_text.ensures begin whole _
    (front-next begin _ whole left _ _ c.args.layout c.args.tree.now.tree p go.told go.rest go.all_is _ c.front.ensures s))))))))
    c.back.ensures))
