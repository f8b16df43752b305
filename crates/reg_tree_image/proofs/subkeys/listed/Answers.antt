use Rattle.reg_tree_image.specs.Internal.ListParts.{list_in}
use Rattle.reg_tree_image.proofs.KeyStacks.WalkedOn.{listed-left}
use Rattle.reg_tree_image.proofs.subkeys.listed.Goals as goal

pub returns-clause-lists : goal.returns-clause-lists
returns-clause-lists c path go more seen t =
    let d = c.in_ok-list.ensures.follows path seen t in
    let parts = c.parts_of.ensures in
    record {
      after = d.after;
      table = d.table;
      told = d.told;
      rest = listed-left _ seen go (λ _ _. ⊥) path more c.args.offset seen d.after (list_in c.in_ok-list.list) _ _ d.gives parts.leaf parts.lists;
      source = (list_in c.in_ok-list.list, d.gives, parts.leaf, parts.lists);
    }
