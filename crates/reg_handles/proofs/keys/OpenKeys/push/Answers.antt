use Rattle.std.proofs.Common.{◌≡◌, Some, subst}
use Rattle.std.proofs.lemmas.List.Elements.{same_from_all_zip}
use Rattle.reg_handles.specs.Internal.OpenKeySlab.{key_at, UpdatesPath}
use Rattle.reg_handles.proofs.PathTextKeys.{updated}
use Rattle.reg_handles.proofs.keys.OpenKeys.push.Goals as goal

pub returns-in-Ok-clause-paths : goal.returns-in-Ok-clause-paths
returns-in-Ok-clause-paths g c =
    let text : c.in_ok-text.text.items ≡ c.args.path.items = same_from_all_zip _ _ _ c.in_ok-text.ensures.cases.0 (λ x y e. e) in
    subst (λ t. UpdatesPath (key_at c.args.self.now.by_path.entries) t (Some c.vacant_key-key.result) (key_at c.insert.new.self.entries)) text
    (updated c.in_ok-text.text.items c.args.self.now.by_path c.insert.new.self (Some c.vacant_key-key.result) c.in-Ok.ensures.updates)
