use Rattle.std.proofs.Common.{◌≡◌, inl, inr, refl, subst, sym, arith}
use Rattle.reg_words.specs.CommandLines.{texts, AsksNothing, HasBothOptions, IsCommandLine}
use Rattle.reg_words.proofs.ToldOptions.{is_options}
use Rattle.reg_files.proofs.Statuses.{small, served, failed_by}
use Rattle.reg_files.proofs.file_tool.Goals as goal

pub returns-in-Ok-clause-status : goal.returns-in-Ok-clause-status
returns-in-Ok-clause-status g c = let low = small _ _ _ _ _ _ _ _ _ _ c.answer.result c.answer.ensures in omega (arith, low)

pub returns-in-Ok-clause-done : goal.returns-in-Ok-clause-done
returns-in-Ok-clause-done g c =
    served _ _ _ _ _ _ _ _ _ _ _ (subst (λ ws. IsCommandLine (texts ws) c.in-Ok.request) c.as_slice.ensures.value c.in-Ok.ensures.asks)
    c.answer.result c.answer.ensures

pub returns-in-Ok-clause-failed : goal.returns-in-Ok-clause-failed
returns-in-Ok-clause-failed g c = λ e. inl (failed_by _ _ _ _ _ _ _ _ _ _ _
    (subst (λ ws. IsCommandLine (texts ws) c.in-Ok.request) c.as_slice.ensures.value c.in-Ok.ensures.asks) c.answer.result c.answer.ensures e)

pub returns-in-Ok-clause-refused : goal.returns-in-Ok-clause-refused
returns-in-Ok-clause-refused g c =
    λ e. let low = small _ _ _ _ _ _ _ _ _ _ c.answer.result c.answer.ensures in absurd (omega (arith, low, e))

pub returns-clause-failed : goal.returns-clause-failed
returns-clause-failed g c = λ e. inr ((refl, refl), c.refuse_words.ensures.said e)

-- the status of want of memory is another
pub returns-clause-refused : goal.returns-clause-refused
returns-clause-refused g c =
    λ two. record {
      asks_nothing = subst (λ ws. AsksNothing (texts ws)) c.as_slice.ensures.value
          (c.in-Err.ensures.refuses
          (λ memory. let one : c.refuse_words.result ≡ 1 = c.refuse_words.ensures.memory memory in absurd (omega (arith, one, two))));
      untouched = (refl, refl);
    }

-- what is told of both options
pub returns-clause-options : goal.returns-clause-options
returns-clause-options g c =
    λ both two. (c.refuse_words.ensures.options (is_options c.in-Err.fault (texts c.as_slice.result.now) c.in-Err.ensures.options
    (subst (λ ws. HasBothOptions (texts ws)) (sym c.as_slice.ensures.value) both)
    (λ memory. let one : c.refuse_words.result ≡ 1 = c.refuse_words.ensures.memory memory in absurd (omega (arith, one, two))))).1
