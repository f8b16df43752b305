-- What a fresh hive is known by, put together, and its sessions seated.
use Rattle.std.proofs.Common.{◌≡◌, ◌∙◌, ap, sym, subst}
use Rattle.std.specs.Prelude.{Result, Ok, Err, IfOk}
use Rattle.reg_callbacks.specs.Lists.{rows_of}
use Rattle.reg_calls.specs.HiveView.{view_of, callbacks_of}
use Rattle.reg_calls.specs.declared.hive.Hive.{Hive}
use Rattle.reg_script.specs.Lines.{IsFresh}
use Rattle.reg_command.specs.Internal.Steps.{IsScriptHive}

pub all_seven : {A B : Type 0} (r : Result A B) (P Q R S T U V W : A → Type 0) →
    ((a : A) → P a → Q a → R a → S a → T a → U a → V a → W a) → IfOk r P → IfOk r Q → IfOk r R → IfOk r S → IfOk r T → IfOk r U → IfOk r V →
    IfOk r W
all_seven (Ok a) P Q R S T U V W f p q r s t u v = f a p q r s t u v
all_seven (Err e) P Q R S T U V W f p q r s t u v = tt

-- a hive whose sessions were seated is the script's as it was
pub seated_too : {C : Type 0} (hive seated : Hive C) → view_of seated ≡ view_of hive → callbacks_of seated ≡ callbacks_of hive → IsScriptHive hive →
    IsScriptHive seated
seated_too hive seated same callbacks h = record { fresh = subst IsFresh (sym same) h.fresh; alone = ap rows_of callbacks ∙ h.alone }
