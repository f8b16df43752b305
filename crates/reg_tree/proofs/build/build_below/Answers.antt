use Rattle.std.proofs.Common.{List, ℕ, ◌++◌, refl, sym, subst}
use Rattle.reg_index.specs.Subkeys.{taken}
use Rattle.reg_tree.specs.CellSizes.{LacksRoom, BelongsThere}
use Rattle.reg_tree.specs.Internal.DescriptorChange.{IsExpected}
use Rattle.reg_tree.specs.Internal.KeyCreation.{IsGrownAll, LeadsTo}
use Rattle.reg_tree.proofs.BuildKey.BuiltBelow.{parent-growing, markable, describable, built}
use Rattle.reg_tree.proofs.BuildKey.BuiltCells.{sizes-built, takes-built}
use Rattle.reg_tree.proofs.BuildKey.ClassCarved.{class-size, planned-class}
use Rattle.reg_tree.proofs.BuildKey.BuiltLengths.{lengths-built, made-built}
use Rattle.reg_tree.proofs.BuildKey.OneName.{name-path, few-names, some-rest}
use Rattle.reg_tree.proofs.DescribeKey.SecurityShared.{known-expected}
use Rattle.reg_tree.proofs.InsertKey.CreatePathMade.{belongs_there}
use Rattle.reg_tree.proofs.InsertKey.DescribedLast.{security-size}
use Rattle.reg_tree.proofs.Invariant.KeyOfTree.{key_there}
use Rattle.reg_tree.proofs.Invariant.NodeLemmas.{seen_as}
use Rattle.reg_tree.specs.BuiltKeys.{TakesCells}
use Rattle.reg_tree.proofs.build.build_below.Goals as goal

pub fields-time-requires : goal.fields-time-requires
fields-time-requires c = key_there _ _ c.requires.here.0

pub make_keys-requires-clause-reached : goal.make_keys-requires-clause-reached
make_keys-requires-clause-reached c =
    let h = c.requires.here in (
      c.args.parent,
      c.args.key.name.now,
      record { here = h.0; depth = h.2; reaches = c.requires.reached },
      few-names _ c.args.parent c.args.reached.node h.0 _ _ c.requires.key.name h.3 c.requires.reached,
    )

pub make_keys-requires-clause-missing : goal.make_keys-requires-clause-missing
make_keys-requires-clause-missing c =
    let h = c.requires.here in some-rest _ c.args.parent c.args.reached.node h.0 _ _ c.requires.key.name h.3 c.requires.reached

pub make_keys-requires-clause-class : goal.make_keys-requires-clause-class
make_keys-requires-clause-class c = class-size _ _ c.requires.key.class c.class_size-class.ensures

pub make_keys-requires-clause-more : goal.make_keys-requires-clause-more
make_keys-requires-clause-more c = security-size _ _ _ c.in-Ok.size c.requires.key.descriptor c.in-Ok.ensures.ok

pub raise_class-requires : goal.raise_class-requires
raise_class-requires c =
    let t = c.requires.here.0 in
    let l : LeadsTo c.args.arena.now.bytes c.args.parent c.args.key.name.now c.args.reached.node c.args.reached.missing.now = record { here = t; depth = c.requires.here.2; reaches = c.requires.reached } in
    let made = c.in-Ok-make_keys.made in
    let g = subst (λ (names : List (List ℕ)). IsGrownAll c.args.arena.now.bytes c.make_keys.new.arena.bytes t.root t.path names c.fields-time.result.time t.holds.ring
    (taken made.class ++ taken made.security) c.args.parent made.node) (name-path c.args.key.name.now c.requires.key.name) (c.in-Ok-make_keys.ensures.ok c.args.parent c.args.key.name.now l) in
    (_, parent-growing _ _ c.args.parent made.node t c.args.key c.fields-time.result made.class made.security g)

pub mark-requires-clause-here : goal.mark-requires-clause-here
mark-requires-clause-here c =
    let t = c.requires.here.0 in
    let may = c.requires.here.3 in
    let l : LeadsTo c.args.arena.now.bytes c.args.parent c.args.key.name.now c.args.reached.node c.args.reached.missing.now = record { here = t; depth = c.requires.here.2; reaches = c.requires.reached } in
    let made = c.in-Ok-make_keys.made in
    let g = subst (λ (names : List (List ℕ)). IsGrownAll c.args.arena.now.bytes c.make_keys.new.arena.bytes t.root t.path names c.fields-time.result.time t.holds.ring
    (taken made.class ++ taken made.security) c.args.parent made.node) (name-path c.args.key.name.now c.requires.key.name) (c.in-Ok-make_keys.ensures.ok c.args.parent c.args.key.name.now l) in
    let spare = taken made.class ++ taken made.security in
    let stand = c.raise_class.ensures.stands spare (parent-growing _ _ c.args.parent made.node t c.args.key c.fields-time.result made.class made.security g) in
    (taken made.security, markable _ _ c.args.parent made.node t c.args.key c.fields-time.result made.class made.security g c.fields-time.ensures may _ stand c.raise_class.ensures.roomy c.class_size-class.result (planned-class _ _ c.class_size-class.ensures) c.in-Ok-make_keys.ensures.room.0)

pub describe-requires-clause-here : goal.describe-requires-clause-here
describe-requires-clause-here c =
    let t = c.requires.here.0 in
    let same = c.requires.here.1 in
    let may = c.requires.here.3 in
    let l : LeadsTo c.args.arena.now.bytes c.args.parent c.args.key.name.now c.args.reached.node c.args.reached.missing.now = record { here = t; depth = c.requires.here.2; reaches = c.requires.reached } in
    let made = c.in-Ok-make_keys.made in
    let g = subst (λ (names : List (List ℕ)). IsGrownAll c.args.arena.now.bytes c.make_keys.new.arena.bytes t.root t.path names c.fields-time.result.time t.holds.ring
    (taken made.class ++ taken made.security) c.args.parent made.node) (name-path c.args.key.name.now c.requires.key.name) (c.in-Ok-make_keys.ensures.ok c.args.parent c.args.key.name.now l) in
    let spare = taken made.class ++ taken made.security in
    let stand = c.raise_class.ensures.stands spare (parent-growing _ _ c.args.parent made.node t c.args.key c.fields-time.result made.class made.security g) in
    let m = markable _ _ c.args.parent made.node t c.args.key c.fields-time.result made.class made.security g c.fields-time.ensures may _ stand c.raise_class.ensures.roomy c.class_size-class.result (planned-class _ _ c.class_size-class.ensures) c.in-Ok-make_keys.ensures.room.0 in
    let marked = c.mark.ensures.marked (taken made.security) m in
    let x = subst (λ t. IsExpected t c.expect.new.securities c.args.key.descriptor.now c.in-Ok.size) (sym same) c.in-Ok.ensures.ok in
    describable _ _ c.args.parent made.node t c.args.key c.fields-time.result made.class made.security g c.fields-time.ensures may _ stand _ marked c.requires.key.class c.in-Ok.size c.in-Ok-make_keys.ensures.room.1 _ x

pub describe-requires-clause-known : goal.describe-requires-clause-known
describe-requires-clause-known c =
    known-expected c.args.securities.now c.expect.new.securities c.args.key.descriptor.now c.in-Ok.size c.args.known c.in-Ok.ensures.ok c.requires.known

pub returns-clause-ok : goal.returns-clause-ok
returns-clause-ok c = λ t same deep may.
    let l : LeadsTo c.args.arena.now.bytes c.args.parent c.args.key.name.now c.args.reached.node c.args.reached.missing.now = record { here = t; depth = deep; reaches = c.requires.reached } in
    let made = c.in-Ok-make_keys.made in
    let g = subst (λ (names : List (List ℕ)). IsGrownAll c.args.arena.now.bytes c.make_keys.new.arena.bytes t.root t.path names c.fields-time.result.time t.holds.ring
    (taken made.class ++ taken made.security) c.args.parent made.node) (name-path c.args.key.name.now c.requires.key.name) (c.in-Ok-make_keys.ensures.ok c.args.parent c.args.key.name.now l) in
    let spare = taken made.class ++ taken made.security in
    let stand = c.raise_class.ensures.stands spare (parent-growing _ _ c.args.parent made.node t c.args.key c.fields-time.result made.class made.security g) in
    let m = markable _ _ c.args.parent made.node t c.args.key c.fields-time.result made.class made.security g c.fields-time.ensures may _ stand c.raise_class.ensures.roomy c.class_size-class.result (planned-class _ _ c.class_size-class.ensures) c.in-Ok-make_keys.ensures.room.0 in
    let marked = c.mark.ensures.marked (taken made.security) m in
    let x = subst (λ t. IsExpected t c.expect.new.securities c.args.key.descriptor.now c.in-Ok.size) (sym same) c.in-Ok.ensures.ok in
    let d = c.describe.ensures.described (describable _ _ c.args.parent made.node t c.args.key c.fields-time.result made.class made.security g c.fields-time.ensures may _ stand _ marked c.requires.key.class c.in-Ok.size c.in-Ok-make_keys.ensures.room.1 _ x) in
    built _ _ c.args.parent made.node t c.args.key c.fields-time.result made.class made.security g c.fields-time.ensures may _ stand _ marked _ _ d deep

pub returns-clause-lengths : goal.returns-clause-lengths
returns-clause-lengths c = λ t same deep may.
    let l : LeadsTo c.args.arena.now.bytes c.args.parent c.args.key.name.now c.args.reached.node c.args.reached.missing.now = record { here = t; depth = deep; reaches = c.requires.reached } in
    let made = c.in-Ok-make_keys.made in
    let g = subst (λ (names : List (List ℕ)). IsGrownAll c.args.arena.now.bytes c.make_keys.new.arena.bytes t.root t.path names c.fields-time.result.time t.holds.ring
    (taken made.class ++ taken made.security) c.args.parent made.node) (name-path c.args.key.name.now c.requires.key.name) (c.in-Ok-make_keys.ensures.ok c.args.parent c.args.key.name.now l) in
    let spare = taken made.class ++ taken made.security in
    let stand = c.raise_class.ensures.stands spare (parent-growing _ _ c.args.parent made.node t c.args.key c.fields-time.result made.class made.security g) in
    let m = markable _ _ c.args.parent made.node t c.args.key c.fields-time.result made.class made.security g c.fields-time.ensures may _ stand c.raise_class.ensures.roomy c.class_size-class.result (planned-class _ _ c.class_size-class.ensures) c.in-Ok-make_keys.ensures.room.0 in
    let marked = c.mark.ensures.marked (taken made.security) m in
    let x = subst (λ t. IsExpected t c.expect.new.securities c.args.key.descriptor.now c.in-Ok.size) (sym same) c.in-Ok.ensures.ok in
    let d = c.describe.ensures.described (describable _ _ c.args.parent made.node t c.args.key c.fields-time.result made.class made.security g c.fields-time.ensures may _ stand _ marked c.requires.key.class c.in-Ok.size c.in-Ok-make_keys.ensures.room.1 _ x) in
    lengths-built _ _ _ _ _ c.args.parent made.node t c.args.key _ spare (taken made.security) g may stand (c.raise_class.ensures.lengths spare (parent-growing _ _ c.args.parent made.node t c.args.key c.fields-time.result made.class made.security g))
    marked (c.mark.ensures.lengths (taken made.security) m) d

pub returns-clause-made : goal.returns-clause-made
returns-clause-made c = λ t same deep may.
    let l : LeadsTo c.args.arena.now.bytes c.args.parent c.args.key.name.now c.args.reached.node c.args.reached.missing.now = record { here = t; depth = deep; reaches = c.requires.reached } in
    let made = c.in-Ok-make_keys.made in
    let g = subst (λ (names : List (List ℕ)). IsGrownAll c.args.arena.now.bytes c.make_keys.new.arena.bytes t.root t.path names c.fields-time.result.time t.holds.ring
    (taken made.class ++ taken made.security) c.args.parent made.node) (name-path c.args.key.name.now c.requires.key.name) (c.in-Ok-make_keys.ensures.ok c.args.parent c.args.key.name.now l) in
    let spare = taken made.class ++ taken made.security in
    let stand = c.raise_class.ensures.stands spare (parent-growing _ _ c.args.parent made.node t c.args.key c.fields-time.result made.class made.security g) in
    let m = markable _ _ c.args.parent made.node t c.args.key c.fields-time.result made.class made.security g c.fields-time.ensures may _ stand c.raise_class.ensures.roomy c.class_size-class.result (planned-class _ _ c.class_size-class.ensures) c.in-Ok-make_keys.ensures.room.0 in
    let marked = c.mark.ensures.marked (taken made.security) m in
    let x = subst (λ t. IsExpected t c.expect.new.securities c.args.key.descriptor.now c.in-Ok.size) (sym same) c.in-Ok.ensures.ok in
    let d = c.describe.ensures.described (describable _ _ c.args.parent made.node t c.args.key c.fields-time.result made.class made.security g c.fields-time.ensures may _ stand _ marked c.requires.key.class c.in-Ok.size c.in-Ok-make_keys.ensures.room.1 _ x) in
    made-built _ _ _ _ _ c.args.parent made.node t c.args.key _ spare (taken made.security) g may stand (c.raise_class.ensures.lengths spare (parent-growing _ _ c.args.parent made.node t c.args.key c.fields-time.result made.class made.security g))
    marked (c.mark.ensures.lengths (taken made.security) m) d

pub returns-clause-builds : goal.returns-clause-builds
returns-clause-builds c = λ t same deep may.
    let l : LeadsTo c.args.arena.now.bytes c.args.parent c.args.key.name.now c.args.reached.node c.args.reached.missing.now = record { here = t; depth = deep; reaches = c.requires.reached } in
    let made = c.in-Ok-make_keys.made in
    let g = subst (λ (names : List (List ℕ)). IsGrownAll c.args.arena.now.bytes c.make_keys.new.arena.bytes t.root t.path names c.fields-time.result.time t.holds.ring
    (taken made.class ++ taken made.security) c.args.parent made.node) (name-path c.args.key.name.now c.requires.key.name) (c.in-Ok-make_keys.ensures.ok c.args.parent c.args.key.name.now l) in
    let spare = taken made.class ++ taken made.security in
    let stand = c.raise_class.ensures.stands spare (parent-growing _ _ c.args.parent made.node t c.args.key c.fields-time.result made.class made.security g) in
    let m = markable _ _ c.args.parent made.node t c.args.key c.fields-time.result made.class made.security g c.fields-time.ensures may _ stand c.raise_class.ensures.roomy c.class_size-class.result (planned-class _ _ c.class_size-class.ensures) c.in-Ok-make_keys.ensures.room.0 in
    let marked = c.mark.ensures.marked (taken made.security) m in
    let x = subst (λ t. IsExpected t c.expect.new.securities c.args.key.descriptor.now c.in-Ok.size) (sym same) c.in-Ok.ensures.ok in
    let d = c.describe.ensures.described (describable _ _ c.args.parent made.node t c.args.key c.fields-time.result made.class made.security g c.fields-time.ensures may _ stand _ marked c.requires.key.class c.in-Ok.size c.in-Ok-make_keys.ensures.room.1 _ x) in
    let b = built _ _ c.args.parent made.node t c.args.key c.fields-time.result made.class made.security g c.fields-time.ensures may _ stand _ marked _ _ d deep in
    let one = name-path c.args.key.name.now c.requires.key.name in
    let old = seen_as c.args.arena.now t.root in
    record {
      place = c.args.reached.place;
      belongs = subst (λ names. BelongsThere old t.path names c.args.reached.place) one
          (belongs_there c.args.arena.now c.args.parent t c.args.key.name.now _ _ c.requires.reached 0 _ c.requires.place);
      takes = subst (TakesCells old (seen_as c.describe.new.arena t.root))
          (sizes-built _ _ _ _ t.holds old refl t.path c.args.key _ one c.class_size-class.result c.in-Ok.size (planned-class _ _ c.class_size-class.ensures) x c.args.reached.place)
          (takes-built c.args.arena.now c.make_keys.new.arena c.raise_class.new.arena c.mark.new.arena c.describe.new.arena c.args.parent t _
          (c.in-Ok-make_keys.ensures.cells c.args.parent c.args.key.name.now l) c.in-Ok-make_keys.ensures.stay (c.in-Ok-make_keys.ensures.growth c.args.parent c.args.key.name.now l)
          c.in-Ok-make_keys.ensures.kept c.raise_class.ensures.cells c.raise_class.ensures.long c.mark.ensures.cells c.mark.ensures.long d.keeps d.leaves c.describe.ensures.long t.root);
      root = refl;
      tree = b.tree;
    }

pub returns-in-Err-clause-space : goal.returns-in-Err-clause-space
returns-in-Err-clause-space c = λ t same deep may full.
    let l : LeadsTo c.args.arena.now.bytes c.args.parent c.args.key.name.now c.args.reached.node c.args.reached.missing.now = record { here = t; depth = deep; reaches = c.requires.reached } in
    let x = subst (λ t. IsExpected t c.expect.new.securities c.args.key.descriptor.now c.in-Ok.size) (sym same) c.in-Ok.ensures.ok in
    let one = name-path c.args.key.name.now c.requires.key.name in
    let old = seen_as c.args.arena.now t.root in
    record {
      place = c.args.reached.place;
      belongs = subst (λ names. BelongsThere old t.path names c.args.reached.place) one
          (belongs_there c.args.arena.now c.args.parent t c.args.key.name.now _ _ c.requires.reached 0 _ c.requires.place);
      lacks = subst (LacksRoom c.args.arena.now)
          (sizes-built _ _ _ _ t.holds old refl t.path c.args.key _ one c.class_size-class.result c.in-Ok.size (planned-class _ _ c.class_size-class.ensures) x c.args.reached.place)
          (c.in-Err.ensures.space c.args.parent c.args.key.name.now l full);
    }
