use Rattle.std.proofs.Common.{subst}
use Rattle.reg_calls.specs.declared.changes.Admitted.{Admitted}
use Rattle.reg_calls.specs.Internal.Admissions.{Admits}
use Rattle.reg_calls.proofs.AnnouncedChanges.{set-admitted-own, drop-admitted-own, secure-admitted-own}
use Rattle.reg_calls.proofs.announced.own_event.Goals as goal

pub returns-in-SetValue : goal.returns-in-SetValue
returns-in-SetValue c = λ end session store change a some.
    set-admitted-own end store session change c.in-SetValue.found (subst (λ (x : Admitted). Admits end store session change x) c.in-SetValue.is a)

pub returns-in-DeleteValue : goal.returns-in-DeleteValue
returns-in-DeleteValue c = λ end session store change a some.
    drop-admitted-own end store session change c.in-DeleteValue.found (subst (λ (x : Admitted). Admits end store session change x) c.in-DeleteValue.is a)

pub returns-in-SetSecurity : goal.returns-in-SetSecurity
returns-in-SetSecurity c = λ end session store change a some.
    secure-admitted-own end store session change c.in-SetSecurity.found (subst (λ (x : Admitted). Admits end store session change x) c.in-SetSecurity.is a)
