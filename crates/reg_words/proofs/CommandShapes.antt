-- `clap`'s command is put together of its arguments and subcommands, and what it takes is the definition's.
use Rattle.std.proofs.Common.{◌≡◌, ◌∙◌, List, [], ◌∷◌, ℕ, Bool, ap, codes, subst, sym, refl, true, false, inl, inr}
use Rattle.std.specs.Prelude.{◌↔◌, Option, Some, None, Result, Ok, Err, IfErr, IfOk}
use Rattle.std.specs.Result.{IsErrAnd}
use Rattle.std.specs.declared.alloc.AllocError.{AllocError}
use Rattle.clap.specs.Values.{kind_of}
use Rattle.clap.specs.Words.{App, HasKind, HasMatchesOf, IsAmong, Kinds, Row, Text}
use Rattle.clap.specs.Words.{fault_of, is_simple, is_simple_and_free, subcommand_of, subcommand_rows_of}
use Rattle.clap.specs.declared.builder.command.Command.{Command}
use Rattle.clap.specs.declared.error.Error.{Error}
use Rattle.clap.specs.declared.parser.matches.ArgMatches.{ArgMatches}
use Rattle.clap.proofs.OnLiterals.{clap_on_literals}
use Rattle.reg_words.specs.StreamLines.{GivesBoth}
use Rattle.reg_words.specs.CommandShapes.{regtool}
use Rattle.reg_words.specs.CommandLines.{faults_in, found_in, AsksIn, AsksNothing, HasBothOptions, IsCommandLine, IsNamed}
use Rattle.reg_words.specs.WordsFaults.{WantsMemory, TellsOptions}
use Rattle.reg_words.specs.declared.fault.WordsFault.{WordsFault}
use Rattle.reg_words.specs.declared.fault.WordsFault.TheVariants.{Unread}
use Rattle.reg_words.proofs.AskedNothing.{none_of_both}
use Rattle.reg_words.specs.declared.builder.CommandBuilder.{CommandBuilder}
use Rattle.reg_words.specs.Internal.Commands.{IsCommand, IsFound, IsMade}
use Rattle.reg_words.specs.declared.request.Request.{Request}

-- the exit of a `?`
if_err : {T E : Type 0} (P : E → Type 0) (r : Result T E) (e : E) → IsErrAnd r (λ y. y ≡ e) → P e → IfErr r P
if_err P (Ok x) e h q = record {}
if_err P (Err y) e h q = subst P (sym h) q

-- a builder that has a command of that form
pub begun : (app : App) (builder : CommandBuilder) (command : Command) → builder.made ≡ Ok command → IsCommand app command → IsMade app builder
begun app builder command is has = subst (λ (r : Result Command AllocError). IfOk r (IsCommand app)) (sym is) has

simple : is_simple_and_free regtool ≡ true
unfolding regtool clap_on_literals
simple = refl

plain : is_simple regtool ≡ true
unfolding regtool clap_on_literals
plain = refl

pub taken : (app : App) (words : List (List ℕ)) → app ≡ regtool → (is_simple_and_free app ≡ true → fault_of app words ≡ []) →
    faults_in words ≡ []
unfolding faults_in
taken app words is given = sym (ap (λ (a : App). fault_of a words) is) ∙ given (ap is_simple_and_free is ∙ simple)

pub refused : (app : App) (words : List (List ℕ)) (e : Error) → app ≡ regtool →
    (is_simple_and_free app ≡ true → HasKind (fault_of app words) e) → HasKind (faults_in words) e
unfolding faults_in
refused app words e is given = subst (λ (a : App). HasKind (fault_of a words) e) is (given (ap is_simple_and_free is ∙ simple))

-- the subcommand that a parse entered is the one that the words name
pub found : (app : App) (words : List (List ℕ)) (m : ArgMatches) → app ≡ regtool → HasMatchesOf app words m →
    subcommand_rows_of m ≡ found_in words
unfolding found_in
found app words m is has = (has (ap is_simple is ∙ plain)).1 ∙ ap (λ (a : App). subcommand_of a words) is

-- a fault that isn't want of memory tells that the words ask for nothing
abbrev pub IsUnread : List (List ℕ) → WordsFault → Type 0
IsUnread words fault = (WantsMemory fault → ⊥) → AsksNothing words

refuses_by : (words : List (List ℕ)) (e : Error) → HasKind (faults_in words) e → IsUnread words (Unread e)
refuses_by words e (inl memory) = λ other request is. other memory
refuses_by words e (inr among) = λ other request is. subst (IsAmong (kind_of e)) is.taken among

options_by : (words : List (List ℕ)) (e : Error) → HasKind (faults_in words) e → TellsOptions (Unread e) words
options_by words e (inl memory) = λ both. memory
options_by words e (inr among) = λ both. absurd (subst (IsAmong (kind_of e)) both.taken among)

-- what `clap` refused
module _ {T : Type 0} (words : List (List ℕ)) (r : Result T WordsFault) (e : Error) (kinds : HasKind (faults_in words) e)
    (told : IsErrAnd r (λ fault. fault ≡ Unread e)) where
  pub refuses_unread : IfErr r (IsUnread words)
  refuses_unread = if_err (IsUnread words) r (Unread e) told (refuses_by words e kinds)

  pub options_unread : IfErr r (λ fault. TellsOptions fault words)
  options_unread = if_err (λ fault. TellsOptions fault words) r (Unread e) told (options_by words e kinds)

-- ---- both options of `run`

module _ (words : List (List ℕ)) (found : Option (Text × List Row)) (taken : faults_in words ≡ []) (is : found ≡ found_in words) where
  pub both_so : GivesBoth found → HasBothOptions words
  both_so both = record { taken = taken; both = subst GivesBoth is both }

  pub not_both : (test : Bool) → test ≡ false → (test ≡ true) ↔ GivesBoth found → HasBothOptions words → ⊥
  not_both test off tells both = let bad : true ≡ false = sym (tells.1 (subst GivesBoth (sym is) both.both)) ∙ off in cc

both_ask_nothing : (found : Option (Text × List Row)) (request : Request) → GivesBoth found → AsksIn found request → ⊥
both_ask_nothing None request both asks = asks
both_ask_nothing (Some found) request both asks = none_of_both found both request asks

-- they ask for nothing
pub nothing_of_both : (words : List (List ℕ)) → HasBothOptions words → AsksNothing words
nothing_of_both words both request is = both_ask_nothing (found_in words) request both.both is.asks

-- ---- words that `clap` never takes

-- `clap` finds no fault
abbrev pub is_none : Kinds → Bool
is_none [] = true
is_none (k ∷ ks) = false

no_words_is_none : is_none (faults_in []) ≡ false
unfolding faults_in regtool clap_on_literals
no_words_is_none = refl

no_command_is_none : (program : List ℕ) → is_none (faults_in (program ∷ [])) ≡ false
unfolding faults_in regtool clap_on_literals
no_command_is_none program = refl

help_is_none : (program : List ℕ) (more : List (List ℕ)) → is_none (faults_in (program ∷ codes "--help" ∷ more)) ≡ false
unfolding faults_in regtool clap_on_literals
help_is_none program more = refl

short_help_is_none : (program : List ℕ) (more : List (List ℕ)) → is_none (faults_in (program ∷ codes "-h" ∷ more)) ≡ false
unfolding faults_in regtool clap_on_literals
short_help_is_none program more = refl

help_command_is_none : (program : List ℕ) (more : List (List ℕ)) → is_none (faults_in (program ∷ codes "help" ∷ more)) ≡ false
unfolding faults_in regtool clap_on_literals
help_command_is_none program more = refl

some_fault : (kinds : Kinds) → is_none kinds ≡ false → kinds ≡ [] → ⊥
some_fault [] fault is = cc
some_fault (k ∷ ks) fault is = cc

pub named : (words : List (List ℕ)) → faults_in words ≡ [] → IsNamed words
named [] taken = some_fault _ no_words_is_none taken
named (program ∷ []) taken = some_fault _ (no_command_is_none program) taken
named (program ∷ word ∷ more) taken = (
  λ is. some_fault _ (help_is_none program more) (subst (λ (w : List ℕ). faults_in (program ∷ w ∷ more) ≡ []) is taken),
  λ is. some_fault _ (short_help_is_none program more) (subst (λ (w : List ℕ). faults_in (program ∷ w ∷ more) ≡ []) is taken),
  λ is. some_fault _ (help_command_is_none program more) (subst (λ (w : List ℕ). faults_in (program ∷ w ∷ more) ≡ []) is taken),
)

-- ---- what the matches ask for

-- it is what the words ask for
pub asked_for : (words : List (List ℕ)) (found : Option (Text × List Row)) (asked : Option Request) (request : Request) →
    faults_in words ≡ [] → found ≡ found_in words → IsFound (AsksIn found) asked → asked ≡ Some request → IsCommandLine words request
asked_for words found asked request taken is read e =
    record {
      named = named words taken;
      taken = taken;
      asks =
          subst (λ (o : Option (Text × List Row)). AsksIn o request) is (subst (IsFound (AsksIn found)) e read);
    }

pub asked_for_none : (words : List (List ℕ)) (found : Option (Text × List Row)) (asked : Option Request) →
    found ≡ found_in words → IsFound (AsksIn found) asked → asked ≡ None → AsksNothing words
asked_for_none words found asked is read e request command =
    subst (IsFound (AsksIn found)) e read request (subst (λ (o : Option (Text × List Row)). AsksIn o request) (sym is) command.asks)
