-- Readers one behind the other.
use Rattle.std.proofs.Common.{◌≡◌, ℕ, ◌<◌, ◌≤◌, nat_le, Bool, true, false, Result, Ok, Err, List, length, take, refl, sym, ap, ◌∙◌, subst, arith}
use Rattle.std.specs.Result.{IsErrAnd}
use Rattle.std.proofs.lemmas.Bool.Decides.{nat_tests}
use Rattle.reg_heap.specs.Heaps.{Heap}
use Rattle.reg_heap.specs.Kinds.{Kind}
use Rattle.reg_records.specs.declared.RecordFault.{RecordFault}
use Rattle.reg_records.specs.BigData.{named}
use Rattle.reg_tree_image.specs.declared.LoadFault.{LoadFault}
use Rattle.reg_tree_image.specs.declared.LoadFault.TheVariants.{Record, Memory}
use Rattle.reg_tree_image.specs.declared.table.CellState.{CellState}
use Rattle.reg_tree_image.specs.WalkSteps.{Seen, Step, ◌>>=◌, ◌>>◌, onward, give, check, cell}
use Rattle.reg_tree_image.specs.LoadingWalk.{read, bytes_from}
use Rattle.reg_tree_image.specs.Internal.CellStates.{IsTable}
use Rattle.reg_tree_image.specs.Internal.ReaderOutcomes.{IsDone, Fails, Gives, Follows}

-- a fault of the first step is a fault of both
pub fails-on : {A B : Type 0} (fault : LoadFault) (s : Step A) (f : A → Step B) (seen : Seen) → Fails fault s seen → Fails fault (s >>= f) seen
fails-on Memory s f seen e = tt
fails-on fault s f seen e = ap (onward f) e

-- a step that gives what another gives meets its faults
pub fails-same : {A : Type 0} (fault : LoadFault) (s : Step A) (t : Step A) (seen after : Seen) → s seen ≡ t after → Fails fault t after → Fails fault s seen
fails-same Memory s t seen after e h = tt
fails-same fault s t seen after e h = e ∙ h

-- a fault of a test
pub fails-at : {A : Type 0} (fault : LoadFault) (s : Step A) (seen : Seen) → s seen ≡ Err fault → Fails fault s seen
fails-at Memory s seen e = tt
fails-at fault s seen e = e

module _ {X Y A B : Type 0} (heap : Heap) (path : List ℕ) (first : X → A) (then : Y → B) (s : Step A) (f : A → Step B) (old mid new : List CellState) where
  -- a step, and the one that its result asks for
  pub follows-then : (x : X) (r : Result Y LoadFault) → Follows heap path first s old mid (Ok x) → Follows heap path then (f (first x)) mid new r → Follows heap path then (s >>= f) old new r
  follows-then x (Ok y) a b seen t =
      let d = a seen t in
      let w = b d.after d.table in
      record { after = w.after; gives = ap (onward f) d.gives ∙ w.gives; table = w.table; told = w.told ∙ d.told }
  follows-then x (Err fault) a b seen t =
      let d = a seen t in
      fails-same fault (s >>= f) (f (first x)) seen d.after (ap (onward f) d.gives) (b d.after d.table)

  -- a step that meets a fault
  pub follows-err : (fault : LoadFault) → Follows heap path first s old mid (Err fault) → Follows heap path then (s >>= f) old new (Err fault)
  follows-err fault a seen t = fails-on fault s f seen (a seen t)

-- the exit of a `?`
pub exit-follows : {X Y A B : Type 0} (heap : Heap) (path : List ℕ) (first : X → A) (then : Y → B) (s : Step A) (f : A → Step B) (old mid new : List CellState) (fault : LoadFault)
    (r : Result Y LoadFault) → IsErrAnd r (λ e. e ≡ fault) → Follows heap path first s old mid (Err fault) → Follows heap path then (s >>= f) old new r
exit-follows heap path first then s f old mid new fault (Ok y) i a = absurd i
exit-follows heap path first then s f old mid new fault (Err e) i a =
    subst (λ e. Follows heap path then (s >>= f) old new (Err e)) (sym i) (follows-err heap path first then s f old mid new fault a)

-- ---- the first bytes of a cell

module _ {X : Type 0} (heap : Heap) (path : List ℕ) (kind : Kind) (size offset : ℕ) (view : X → List ℕ) (old mid : List CellState) where
  abbrev after-cell : List ℕ → Step (List ℕ)
  after-cell content = do
    check Record (nat_le size (length content))
    give (take size content)

  pub bytes-exit : {Y : Type 0} (then : Y → List ℕ) (fault : LoadFault) (r : Result Y LoadFault) → IsErrAnd r (λ e. e ≡ fault) →
      Follows heap path view (cell heap path (λ _. kind) offset) old mid (Err fault) → Follows heap path then (bytes_from heap path (named kind size offset)) old mid r
  bytes-exit then fault r i a = exit-follows heap path view then (cell heap path (λ _. kind) offset) after-cell old mid mid fault r i a

  pub bytes-short : (x : X) → Follows heap path view (cell heap path (λ _. kind) offset) old mid (Ok x) → length (view x) < size → (seen : Seen) → IsTable heap seen.found path old →
      bytes_from heap path (named kind size offset) seen ≡ Err Record
  bytes-short x a l seen t =
      let d = a seen t in
      let b : nat_le size (length (view x)) ≡ false = grind (arith, nat_tests) in
      ap (onward after-cell) d.gives ∙ rw b refl

  pub bytes-done : (x : X) → Follows heap path view (cell heap path (λ _. kind) offset) old mid (Ok x) → size ≤ length (view x) → (seen : Seen) → IsTable heap seen.found path old →
      IsDone heap path (bytes_from heap path (named kind size offset)) seen (take size (view x)) mid
  bytes-done x a l seen t =
      let d = a seen t in
      let b : nat_le size (length (view x)) ≡ true = grind (arith, nat_tests) in
      record { after = d.after; gives = ap (onward after-cell) d.gives ∙ rw b refl; table = d.table; told = d.told }

-- ---- steps that name nothing

-- the exit of a `?`
pub exit-gives : {X Y A B : Type 0} (first : X → A) (then : Y → B) (s : Step A) (f : A → Step B) (fault : LoadFault) (r : Result Y LoadFault) →
    IsErrAnd r (λ e. e ≡ fault) → Gives first s (Err fault) → Gives then (s >>= f) r
exit-gives first then s f fault (Ok y) i a = absurd i
exit-gives first then s f fault (Err e) i a = λ seen. subst (λ e. Fails e (s >>= f) seen) (sym i) (fails-on fault s f seen (a seen))

-- a step, and the one that its result asks for
pub gives-then : {X Y A B : Type 0} (first : X → A) (then : Y → B) (s : Step A) (f : A → Step B) (x : X) (r : Result Y LoadFault) →
    Gives first s (Ok x) → Gives then (f (first x)) r → Gives then (s >>= f) r
gives-then first then s f x (Ok y) a b = λ seen. ap (onward f) (a seen) ∙ b seen
gives-then first then s f x (Err fault) a b = λ seen. fails-same fault (s >>= f) (f (first x)) seen seen (ap (onward f) (a seen)) (b seen)

-- a cell, and what is made of it
pub cell-gives : {X Y A B : Type 0} (heap : Heap) (path : List ℕ) (first : X → A) (then : Y → B) (s : Step A) (f : A → Step B) (old mid : List CellState) (x : X)
    (r : Result Y LoadFault) → Follows heap path first s old mid (Ok x) → Gives then (f (first x)) r → Follows heap path then (s >>= f) old mid r
cell-gives heap path first then s f old mid x (Ok y) a b seen t =
    let d = a seen t in
    record { after = d.after; gives = ap (onward f) d.gives ∙ b d.after; table = d.table; told = d.told }
cell-gives heap path first then s f old mid x (Err fault) a b seen t =
    let d = a seen t in
    fails-same fault (s >>= f) (f (first x)) seen d.after (ap (onward f) d.gives) (b d.after)

-- a test that holds, and what follows it
pub check-gives : {X A : Type 0} (view : X → A) (fault : LoadFault) (test : Bool) (t : Step A) (r : Result X LoadFault) → test ≡ true → Gives view t r →
    Gives view (check fault test >> t) r
check-gives view fault test t (Ok x) e g = λ seen. ap (λ b. onward (λ _. t) (check fault b seen)) e ∙ g seen
check-gives view fault test t (Err f) e g = λ seen. fails-same f (check fault test >> t) t seen seen (ap (λ b. onward (λ _. t) (check fault b seen)) e) (g seen)

-- a record that reads, and what is made of it
pub read-gives : {R X A : Type 0} (view : X → A) (reading : Result R RecordFault) (f : R → Step A) (x : R) (r : Result X LoadFault) → reading ≡ Ok x →
    Gives view (f x) r → Gives view (read reading >>= f) r
read-gives view reading f x (Ok y) e g = λ seen. ap (λ o. onward f (read o seen)) e ∙ g seen
read-gives view reading f x (Err fault) e g = λ seen. fails-same fault (read reading >>= f) (f x) seen seen (ap (λ o. onward f (read o seen)) e) (g seen)
