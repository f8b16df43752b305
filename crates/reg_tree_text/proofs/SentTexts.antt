-- A text on its way to a writer: gathered, sent, and stopped.
use Rattle.std.proofs.Common.{◌≡◌, ℕ, ◌+◌, ◌≤◌, List, [], ◌++◌, length, take, Option, Some, None, refl, sym, ap, ◌∙◌, subst, arith, append_assoc, append-nil, length-append, inl, inr}
use Rattle.std.specs.Prelude.{Result, Ok, Err, MatchResult, OnOk, IfErr}
use Rattle.std.specs.Result.{IsErrAnd}
use Rattle.std.specs.Io.KnownBytes.{Appends}
use Rattle.std.proofs.Math.Seq.{take-append_seam, take-append-add}
use Rattle.std.proofs.lemmas.List.{take-append-le}
use Rattle.reg_tree_text.specs.declared.fault.DumpFault.{DumpFault}
use Rattle.reg_tree_text.specs.declared.fault.DumpFault.TheVariants.{Write, Memory}
use Rattle.reg_text.specs.Failures.{Stays, Fails}
use Rattle.reg_text.specs.Outputs.{IsSettled, IsCut}
use Rattle.reg_text.proofs.FailureCounts.{stays-at, stays-then, fails-then}
use Rattle.reg_tree_text.specs.DumpFronts.{IsStopped, IsBlamed}
use Rattle.reg_tree_text.specs.Internal.Gathered.{WriterState, IsSoFar, IsGivenUp}

-- ---- bytes appended

appends_then : (a b c : Option (List ℕ)) (x y : List ℕ) → Appends a b x → Appends b c y → Appends a c (x ++ y)
appends_then None b c x y p q = tt
appends_then (Some xs) None c x y p q = absurd p
appends_then (Some xs) (Some ys) None x y p q = absurd q
appends_then (Some xs) (Some ys) (Some zs) x y p q = q ∙ (ap (λ (w : List ℕ). w ++ y) p ∙ append_assoc xs x y)

pub appends_none : (a : Option (List ℕ)) → Appends a a []
appends_none None = tt
appends_none (Some xs) = sym (append-nil xs)

-- ---- a text so far

-- nothing was told yet
pub so_far_none : (begin : WriterState) (whole gathered : List ℕ) (written : ℕ) → gathered ≡ [] → written ≡ 0 →
    IsSoFar begin begin whole whole gathered written
so_far_none begin whole gathered written e z =
    record { sent = []; appends = appends_none begin.0; stays = stays-at begin.1; splits = sym (ap (λ (g : List ℕ). g ++ whole) e); counts = z }

module _ (begin now : WriterState) (whole : List ℕ) where
  -- what is left comes in two parts
  pub opened : (a b left gathered : List ℕ) (written : ℕ) → IsSoFar begin now whole ((a ++ b) ++ left) gathered written →
      IsSoFar begin now whole (a ++ (b ++ left)) gathered written
  opened a b left gathered written s = subst (λ (l : List ℕ). IsSoFar begin now whole l gathered written) (append_assoc a b left) s

  -- a text that was next was gathered
  pub gathers : (text left gathered more : List ℕ) (written : ℕ) → IsSoFar begin now whole (text ++ left) gathered written →
      more ≡ gathered ++ text → IsSoFar begin now whole left more written
  gathers text left gathered more written s e =
      record {
        sent = s.sent;
        appends = s.appends;
        stays = s.stays;
        splits = s.splits ∙
            ap (λ (w : List ℕ). s.sent ++ w) (sym (append_assoc gathered text left) ∙ ap (λ (w : List ℕ). w ++ left) (sym e));
        counts = s.counts;
      }

  -- the writer failed after it took a front of what was gathered
  pub cut : (left gathered : List ℕ) (written counted : ℕ) (after : WriterState) →
      IsSoFar begin now whole left gathered written → written + length gathered ≤ 18446744073709551615 →
      IsCut now.0 after.0 gathered written counted → Fails now.1 after.1 → IsGivenUp begin after whole (Write counted)
  cut left gathered written counted after s few c failed =
      let n = s.counts in
      let within = c.within in
      let says = c.says in
      let exact : counted ≡ length s.sent + c.count = omega (arith, n, few, within, says) in
      let parts : take counted whole ≡ s.sent ++ take c.count gathered =
      ap (λ (w : List ℕ). take counted w) s.splits
      ∙ (ap (λ (k : ℕ). take k (s.sent ++ (gathered ++ left))) exact
      ∙ (take-append-add s.sent (gathered ++ left) c.count ∙ ap (λ (w : List ℕ). s.sent ++ w) (take-append-le c.count gathered left within))) in
      let long : length whole ≡ length s.sent + (length gathered + length left) =
      ap length s.splits ∙ (length-append s.sent (gathered ++ left) ∙ ap (λ (k : ℕ). length s.sent + k) (length-append gathered left)) in (
        (
          omega (arith, exact, long, within),
          subst (λ (w : List ℕ). Appends begin.0 after.0 w) (sym parts)
              (appends_then begin.0 now.0 after.0 s.sent (take c.count gathered) s.appends c.sent),
        ),
        fails-then _ _ _ s.stays failed,
      )

  -- it took nothing, or all of it
  pub settled : (left gathered more : List ℕ) (written counted : ℕ) (after : WriterState) →
      IsSoFar begin now whole left gathered written → written + length gathered ≤ 18446744073709551615 →
      IsSettled now.0 after.0 gathered more written counted → Stays now.1 after.1 → IsSoFar begin after whole left more counted
  settled left gathered more written counted after s few (inl h) stay = record {
    sent = s.sent;
    appends = subst (λ (o : Option (List ℕ)). Appends begin.0 o s.sent) (sym h.0) s.appends;
    stays = stays-then _ _ _ s.stays stay;
    splits = s.splits ∙ ap (λ (w : List ℕ). s.sent ++ (w ++ left)) (sym h.1);
    counts = h.2 ∙ s.counts;
  }
  settled left gathered more written counted after s few (inr h) stay =
      let n = s.counts in
      let l = length-append s.sent gathered in
      let says = h.2 in
      record {
        sent = s.sent ++ gathered;
        appends = appends_then begin.0 now.0 after.0 s.sent gathered s.appends h.0;
        stays = stays-then _ _ _ s.stays stay;
        splits = s.splits ∙ (sym (append_assoc s.sent gathered left) ∙ ap (λ (w : List ℕ). (s.sent ++ gathered) ++ (w ++ left)) (sym h.1));
        counts = omega (arith, n, l, few, says);
      }

  sent_is : (left gathered : List ℕ) (written : ℕ) (s : IsSoFar begin now whole left gathered written) → take (length s.sent) whole ≡ s.sent
  sent_is left gathered written s = ap (λ (w : List ℕ). take (length s.sent) w) s.splits ∙ take-append_seam s.sent (gathered ++ left)

  -- nothing more was sent
  pub stops_full : (left gathered : List ℕ) (written : ℕ) → IsSoFar begin now whole left gathered written → IsGivenUp begin now whole Memory
  stops_full left gathered written s =
      ((length s.sent, subst (λ (w : List ℕ). Appends begin.0 now.0 w) (sym (sent_is left gathered written s)) s.appends), s.stays)

-- ---- the exit of a `?`

pub exits : {A E : Type 0} (P : A → Type 0) (Q : E → Type 0) (r : Result A E) (e : E) → IsErrAnd r (λ y. y ≡ e) → Q e → MatchResult r P Q
exits P Q (Ok x) e h q = absurd h
exits P Q (Err y) e h q = subst Q (sym h) q

-- all of a text was told
pub so_far_all : (begin now : WriterState) (whole gathered : List ℕ) (written : ℕ) → IsSoFar begin now whole [] gathered written →
    gathered ≡ [] → Appends begin.0 now.0 whole
so_far_all begin now whole gathered written s e =
    subst (λ (w : List ℕ). Appends begin.0 now.0 w)
    (sym (s.splits ∙ (ap (λ (g : List ℕ). s.sent ++ (g ++ [])) e ∙ append-nil s.sent))) s.appends

-- a piece of a text that was next was gathered
pub pieces : (begin now : WriterState) (whole all piece rest left gathered more : List ℕ) (written : ℕ) →
    IsSoFar begin now whole (all ++ left) gathered written →
    all ≡ piece ++ rest → more ≡ gathered ++ piece → IsSoFar begin now whole (rest ++ left) more written
pieces begin now whole all piece rest left gathered more written s parts e =
    gathers begin now whole piece (rest ++ left) gathered more written
    (opened begin now whole piece rest left gathered written
    (subst (λ (w : List ℕ). IsSoFar begin now whole (w ++ left) gathered written) parts s)) e

-- nothing of it is left
pub ends : (begin now : WriterState) (whole text left gathered : List ℕ) (written : ℕ) →
    IsSoFar begin now whole (text ++ left) gathered written → text ≡ [] →
    IsSoFar begin now whole left gathered written
ends begin now whole text left gathered written s e = subst (λ (w : List ℕ). IsSoFar begin now whole (w ++ left) gathered written) e s

-- of a text that is next, a first part was gathered, or is next itself
pub then_gathered : (begin now : WriterState) (whole first rest left gathered more : List ℕ) (written : ℕ) →
    IsSoFar begin now whole ((first ++ rest) ++ left) gathered written → more ≡ gathered ++ first →
    IsSoFar begin now whole (rest ++ left) more written
then_gathered begin now whole first rest left gathered more written s e =
    pieces begin now whole (first ++ rest) first rest left gathered more written s refl e

-- a text that is next, said in another way
pub swapped : (begin now : WriterState) (whole text same left gathered : List ℕ) (written : ℕ) →
    IsSoFar begin now whole (text ++ left) gathered written →
    same ≡ text → IsSoFar begin now whole (same ++ left) gathered written
swapped begin now whole text same left gathered written s e =
    subst (λ (w : List ℕ). IsSoFar begin now whole (w ++ left) gathered written) (sym e) s

-- ---- a whole text

pub so_far_start : (begin : WriterState) (whole gathered : List ℕ) (written : ℕ) → gathered ≡ [] → written ≡ 0 →
    IsSoFar begin begin whole (whole ++ []) gathered written
so_far_start begin whole gathered written e z =
    subst (λ (w : List ℕ). IsSoFar begin begin whole w gathered written) (sym (append-nil whole))
    (so_far_none begin whole gathered written e z)

pub told_ok : {A : Type 0} (begin after : WriterState) (whole gathered : List ℕ) (written : ℕ) (r : Result A DumpFault) →
    MatchResult r (λ _. IsSoFar begin after whole [] gathered written) (λ fault. IsGivenUp begin after whole fault) →
    OnOk r (gathered ≡ []) → OnOk r (Appends begin.0 after.0 whole)
told_ok begin after whole gathered written (Ok x) m e = so_far_all begin after whole gathered written m e
told_ok begin after whole gathered written (Err fault) m e = tt

pub told_err : {A : Type 0} (begin after : WriterState) (whole gathered : List ℕ) (written : ℕ) (r : Result A DumpFault) →
    MatchResult r (λ _. IsSoFar begin after whole [] gathered written) (λ fault. IsGivenUp begin after whole fault) →
    IfErr r (λ fault. IsStopped begin.0 after.0 whole fault)
told_err begin after whole gathered written (Ok x) m = tt
told_err begin after whole gathered written (Err fault) m = m.0

pub told_failures : {A : Type 0} (begin after : WriterState) (whole gathered : List ℕ) (written : ℕ) (r : Result A DumpFault) →
    MatchResult r (λ _. IsSoFar begin after whole [] gathered written) (λ fault. IsGivenUp begin after whole fault) →
    MatchResult r (λ _. Stays begin.1 after.1) (λ fault. IsBlamed fault begin.1 after.1)
told_failures begin after whole gathered written (Ok x) m = m.stays
told_failures begin after whole gathered written (Err fault) m = m.1

pub err_exits : {A E : Type 0} (Q : E → Type 0) (r : Result A E) (e : E) → IsErrAnd r (λ y. y ≡ e) → Q e → IfErr r Q
err_exits Q (Ok x) e h q = tt
err_exits Q (Err y) e h q = subst Q (sym h) q
