use Rattle.std.proofs.Common.{arith, refl, ◌∙◌, sym, subst, ◌+◌, ◌-◌, map, drop, get_or}
use Rattle.reg_names.specs.Names.{path_of}
use Rattle.reg_tree.specs.CellSizes.{first_place, own_sizes}
use Rattle.reg_tree.proofs.InsertKey.PathGrowth.{name_short, rest_all, Midway, at_start, deep_now, may_next, ready_next, one_further, at_end}
use Rattle.reg_tree.proofs.InsertKey.PlaceKept.{belongs_only}
use Rattle.reg_tree.proofs.make.make_all.Goals as goal

pub loop-name-init : goal.loop-name-init
loop-name-init c = record { mid = λ last m. at_start _ _ c.args.path.now _ last _ m c.args.moment c.requires.path; place = c.requires.place; plan = c.requires.plan; long = refl }

pub first_name-requires : goal.first_name-requires
first_name-requires c = (c.loop-name.invariant.mid c.requires.grow.0 c.requires.grow.1).valid

pub make_in-taken-requires-clause-grow : goal.make_in-taken-requires-clause-grow
make_in-taken-requires-clause-grow c = may_next _ _ _ _ _ _ _ _ _ _ _ _ _ (c.loop-name.invariant.mid c.requires.grow.0 c.requires.grow.1) _ _ c.in-Some.ensures

pub make_in-taken-requires-clause-place : goal.make_in-taken-requires-clause-place
make_in-taken-requires-clause-place c = c.loop-name.invariant.place _ _ c.in-Some.ensures.names

pub make_in-taken-requires-clause-ready : goal.make_in-taken-requires-clause-ready
make_in-taken-requires-clause-ready c = (
  c.requires.grow.0,
  map own_sizes (path_of c.in-Some.behind.now),
  ready_next _ _ _ _ _ _ _ _ _ _ _ _ _ (c.loop-name.invariant.mid c.requires.grow.0 c.requires.grow.1) _ _ c.in-Some.ensures,
)

pub make_in-taken-requires-clause-name : goal.make_in-taken-requires-clause-name
make_in-taken-requires-clause-name c = (c.in-Some.ensures.good, name_short c.in-Some.name.now c.in-Some.ensures.good)

pub offset_bounds-spare-taken : goal.offset_bounds-spare-taken
offset_bounds-spare-taken c = let t = c.make_in-taken.ensures.taken.1 in omega (arith, t)

pub overflow_add-node : goal.overflow_add-node
overflow_add-node c = let d = deep_now _ _ _ _ _ _ _ _ _ _ _ _ _ (c.loop-name.invariant.mid c.requires.grow.0 c.requires.grow.1) c.requires.depth in omega (arith, d)

pub offset_bounds-spare-taken-in-Some : goal.offset_bounds-spare-taken-in-Some
offset_bounds-spare-taken-in-Some c = let t = c.make_in-taken.ensures.taken.1 in omega (arith, t)

pub loop-name-preserved : goal.loop-name-preserved
loop-name-preserved c = record {
  mid = λ last m.
      let mid = c.loop-name.invariant.mid last m in
      subst
      (λ left. Midway _ c.args.from (path_of c.args.path.now) c.args.place last c.args.spare.now m c.args.moment c.make_in-taken.new.arena.bytes
      (record { offset = get_or c.loop-name.spare.now (c.make_in-taken.result - 1) 0; depth = c.loop-name.node.depth + 1 }) c.in-Some.behind.now first_place left)
      (sym (rest_all c.make_in-taken.result c.loop-name.spare.now))
      (one_further _ _ _ _ _ _ _ _ _ _ _ _ _ mid c.in-Some.name.now c.in-Some.behind.now c.in-Some.ensures _
      (get_or c.loop-name.spare.now (c.make_in-taken.result - 1) 0) (drop c.make_in-taken.result c.loop-name.spare.now)
      (c.make_in-taken.ensures.grows (may_next _ _ _ _ _ _ _ _ _ _ _ _ _ mid _ _ c.in-Some.ensures))
      (c.make_in-taken.ensures.ready last _ (ready_next _ _ _ _ _ _ _ _ _ _ _ _ _ mid _ _ c.in-Some.ensures))
      c.make_in-taken.ensures.keeps c.make_in-taken.ensures.leaves);
  place = belongs_only _ _
      (c.make_in-taken.ensures.grows (may_next _ _ _ _ _ _ _ _ _ _ _ _ _ (c.loop-name.invariant.mid c.requires.grow.0 c.requires.grow.1) _ _ c.in-Some.ensures)).none (path_of c.in-Some.behind.now);
  plan = sym (c.make_in-taken.ensures.grows (may_next _ _ _ _ _ _ _ _ _ _ _ _ _ (c.loop-name.invariant.mid c.requires.grow.0 c.requires.grow.1) _ _ c.in-Some.ensures)).unlisted;
  long = c.make_in-taken.ensures.long ∙ c.loop-name.invariant.long;
}

pub returns-clause-grows : goal.returns-clause-grows
returns-clause-grows c = λ last m. at_end _ _ _ _ _ _ _ _ _ _ _ _ _ (c.loop-name.invariant.mid last m) c.in_default.ensures

pub returns-clause-keeps : goal.returns-clause-keeps
returns-clause-keeps c = (c.loop-name.invariant.mid c.requires.grow.0 c.requires.grow.1).keeps_cells

pub returns-clause-stay : goal.returns-clause-stay
returns-clause-stay c = (c.loop-name.invariant.mid c.requires.grow.0 c.requires.grow.1).stay
