use Rattle.reg_dotreg_import.proofs.entries.Handles.apply.Goals as goal

pub returns-in-Key-clause-err : goal.returns-in-Key-clause-err
returns-in-Key-clause-err g c before s i = rw c.in-Key.is (c.key.ensures.err before s i)

pub returns-in-Key-clause-led : goal.returns-in-Key-clause-led
returns-in-Key-clause-led g c before s i = rw c.in-Key.is (c.key.ensures.led before s i)

pub returns-in-GoneKey-clause-err : goal.returns-in-GoneKey-clause-err
returns-in-GoneKey-clause-err g c before s i = rw c.in-GoneKey.is (c.gone_key.ensures.err before s i)

pub returns-in-GoneKey-clause-led : goal.returns-in-GoneKey-clause-led
returns-in-GoneKey-clause-led g c before s i = rw c.in-GoneKey.is (c.gone_key.ensures.led before s i)

pub returns-in-Value-clause-err : goal.returns-in-Value-clause-err
returns-in-Value-clause-err g c before s i = rw c.in-Value.is (c.value.ensures.err before s i)

pub returns-in-Value-clause-led : goal.returns-in-Value-clause-led
returns-in-Value-clause-led g c before s i = rw c.in-Value.is (c.value.ensures.led before s i)

pub returns-in-GoneValue-clause-err : goal.returns-in-GoneValue-clause-err
returns-in-GoneValue-clause-err g c before s i = rw c.in-GoneValue.is (c.gone_value.ensures.err before s i)

pub returns-in-GoneValue-clause-led : goal.returns-in-GoneValue-clause-led
returns-in-GoneValue-clause-led g c before s i = rw c.in-GoneValue.is (c.gone_value.ensures.led before s i)
