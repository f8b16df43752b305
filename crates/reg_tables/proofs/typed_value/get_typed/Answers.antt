use Rattle.std.proofs.Common.{List, ℕ, ◌∙◌, sym, refl, subst}
use Rattle.std.specs.Io.KnownBytes.{Appends}
use Rattle.reg_tree_text.specs.DumpFronts.{IsStopped}
use Rattle.reg_tree.proofs.ValueChange.ValueAtPlace.{index_within}
use Rattle.reg_tables.proofs.FoundValues.{found_index, no_index, at_once}
use Rattle.reg_tables.proofs.typed_value.get_typed.Goals as goal

pub returns-in_default-value_index-clause-err : goal.returns-in_default-value_index-clause-err
returns-in_default-value_index-clause-err g c =
    let f = c.in-Some.ensures in
    let none = no_index c.args.tree.now.tree c.args.path.now c.args.name.now f.0 f.1 (sym (c.value_index.ensures f.0 f.2) ∙ c.in_default-value_index.is) in
    (none.0, none.1, refl)

pub line_at-requires : goal.line_at-requires
line_at-requires g c =
    let f = c.in-Some.ensures in
    (f.0, f.2, index_within c.args.name.now _ _ (sym (c.value_index.ensures f.0 f.2) ∙ c.in-Some-value_index.is))

pub returns-in-Err-clause-err : goal.returns-in-Err-clause-err
returns-in-Err-clause-err g c =
    let f = c.in-Some.ensures in
    let v = found_index c.args.tree.now.tree c.args.path.now c.args.name.now f.0 _ f.1 (sym (c.value_index.ensures f.0 f.2) ∙ c.in-Some-value_index.is) in
    (v.0, v.2, at_once _ _)

pub returns-in-Ok-write_text-clause-ok : goal.returns-in-Ok-write_text-clause-ok
returns-in-Ok-write_text-clause-ok g c =
    let f = c.in-Some.ensures in
    let v = found_index c.args.tree.now.tree c.args.path.now c.args.name.now f.0 _ f.1 (sym (c.value_index.ensures f.0 f.2) ∙ c.in-Some-value_index.is) in (
      v.0,
      v.2,
      subst (λ (w : List ℕ). Appends (g.S.Sink.contents c.args.writer.now) (g.S.Sink.contents c.write_text.new.writer) w)
          (c.as_str.ensures.value ∙ c.in-Ok.ensures f.0 f.2 v.0 v.1) c.in-Ok-write_text.ensures.ok,
    )

pub returns-clause-err : goal.returns-clause-err
returns-clause-err g c =
    let f = c.in-Some.ensures in
    let v = found_index c.args.tree.now.tree c.args.path.now c.args.name.now f.0 _ f.1 (sym (c.value_index.ensures f.0 f.2) ∙ c.in-Some-value_index.is) in (
      v.0,
      v.2,
      subst (λ (w : List ℕ). IsStopped (g.S.Sink.contents c.args.writer.now) (g.S.Sink.contents c.write_text.new.writer) w c.in-Err-write_text.fault)
          (c.as_str.ensures.value ∙ c.in-Ok.ensures f.0 f.2 v.0 v.1) c.in-Err-write_text.ensures.err,
    )
