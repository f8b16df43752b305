use Rattle.std.proofs.Common.{◌∙◌, ap, arith, take}
use Rattle.reg_heap.specs.Paths.{Rec}
use Rattle.reg_values.specs.NewValues.{all_told}
use Rattle.reg_tree_image.specs.Internal.BegunKeys.{IsLack}
use Rattle.reg_tree_image.specs.Internal.NamedRecords.{members_in}
use Rattle.reg_tree_image.specs.CrowdedBins.{CrowdsValues}
use Rattle.reg_tree_image.proofs.KeyStacks.StackEnds.{if_err}
use Rattle.reg_tree_image.proofs.KeyStacks.BuiltChains.{lack-as}
use Rattle.reg_tree_image.proofs.Readers.AllValues.{few-all, follow-all, as-read, fit-front, fit-carve, then-begun, joined, crowds-all, crowds-some, puts-some, on_ok, if_lack}
use Rattle.reg_tree_image.proofs.built_keys.put_values.Goals as goal

pub front_of_one_carve-count-requires-clause-few : goal.front_of_one_carve-count-requires-clause-few
front_of_one_carve-count-requires-clause-few c =
    few-all c.args.values.now c.as_slice-all.result.now (ap all_told c.as_slice-all.ensures.value ∙ c.in-Ok.ensures) 0 c.requires.values

pub front_of_one_carve-count-requires-clause-new : goal.front_of_one_carve-count-requires-clause-new
front_of_one_carve-count-requires-clause-new c =
    follow-all c.args.values.now c.as_slice-all.result.now (ap all_told c.as_slice-all.ensures.value ∙ c.in-Ok.ensures) 0 c.requires.values

pub put_all-requires-clause-values : goal.put_all-requires-clause-values
put_all-requires-clause-values c =
    fit-front c.args.values.now c.as_slice-all.result.now (ap all_told c.as_slice-all.ensures.value ∙ c.in-Ok.ensures)
    c.front_of_one_carve-count.result c.requires.values

pub put_all-requires-clause-few : goal.put_all-requires-clause-few
put_all-requires-clause-few c =
    few-all c.args.values.now c.as_slice-all.result.now (ap all_told c.as_slice-all.ensures.value ∙ c.in-Ok.ensures) 0 c.requires.values

pub put_all-requires-clause-fits : goal.put_all-requires-clause-fits
put_all-requires-clause-fits c =
    let e = c.front_of_one_carve-count.ensures in
    fit-carve c.args.values.now c.as_slice-all.result.now (ap all_told c.as_slice-all.ensures.value ∙ c.in-Ok.ensures)
    c.front_of_one_carve-count.result e.fits e.longest

pub put_groups-requires : goal.put_groups-requires
put_groups-requires c = record {
  begun = then-begun c.args.values.now c.as_slice-all.result.now (ap all_told c.as_slice-all.ensures.value ∙ c.in-Ok.ensures)
      c.front_of_one_carve-count.result c.requires.values _ _ c.args.node c.args.time c.in_ok-put_all.ensures.nodes
      c.in_ok-put_all.ensures.ok c.in_ok-put_all.ensures.room c.front_of_one_carve-count.ensures.within
      (c.front_of_one_carve-count.ensures.some (let n = as-read c.args.values.now c.as_slice-all.result.now (ap all_told c.as_slice-all.ensures.value ∙ c.in-Ok.ensures) 0 in
      let t = c.if-is_empty.false in let i = c.is_empty.ensures in grind (arith, t, i, n))) c.requires.bare;
}

pub returns-in_err-put_all-clause-err : goal.returns-in_err-put_all-clause-err
returns-in_err-put_all-clause-err c p at =
    let e = c.front_of_one_carve-count.ensures in
    if_err (IsLack (CrowdsValues c.args.tree.now p c.args.time (members_in c.args.values.now))) c.from_residual.result _
    c.from_residual.ensures.1
    (lack-as _ _ _
    (crowds-all c.args.values.now c.as_slice-all.result.now (ap all_told c.as_slice-all.ensures.value ∙ c.in-Ok.ensures)
    c.front_of_one_carve-count.result e.fits e.longest c.args.tree.now p c.args.time)
    c.in_err-put_all.ensures.err)

pub returns-clause-ok : goal.returns-clause-ok
returns-clause-ok c p at base r o v t =
    let same = ap all_told c.as_slice-all.ensures.value ∙ c.in-Ok.ensures in
    let n = c.front_of_one_carve-count.result in
    let first : Rec = record r { values = all_told (take n c.as_slice-all.result.now) } in
    on_ok c.put_groups.result (joined c.args.values.now c.as_slice-all.result.now same n _ base p r)
    (c.put_groups.ensures.ok p (c.in_ok-put_all.ensures.nodes p c.args.node at) base first (c.in_ok-put_all.ensures.ok p at base r o v t) t)

pub returns-clause-nodes : goal.returns-clause-nodes
returns-clause-nodes c =
    on_ok c.put_groups.result (λ keep p n at. keep p n (c.in_ok-put_all.ensures.nodes p n at)) c.put_groups.ensures.nodes

pub returns-clause-puts : goal.returns-clause-puts
returns-clause-puts c p at =
    let e = c.front_of_one_carve-count.ensures in
    let t = c.if-is_empty.false in
    let i = c.is_empty.ensures in
    on_ok c.put_groups.result
    (puts-some c.args.values.now c.as_slice-all.result.now (ap all_told c.as_slice-all.ensures.value ∙ c.in-Ok.ensures)
    c.front_of_one_carve-count.result e.fits e.longest c.args.tree.now p c.args.time _ (c.in_ok-put_all.ensures.puts p at) _
    (grind (arith, t, i)))
    (c.put_groups.ensures.puts p (c.in_ok-put_all.ensures.nodes p c.args.node at))

pub returns-clause-err : goal.returns-clause-err
returns-clause-err c p at =
    let e = c.front_of_one_carve-count.ensures in
    if_lack _ _ c.put_groups.result
    (crowds-some c.args.values.now c.as_slice-all.result.now (ap all_told c.as_slice-all.ensures.value ∙ c.in-Ok.ensures)
    c.front_of_one_carve-count.result e.fits e.longest c.args.tree.now p c.args.time _ (c.in_ok-put_all.ensures.puts p at))
    (c.put_groups.ensures.err p (c.in_ok-put_all.ensures.nodes p c.args.node at))
