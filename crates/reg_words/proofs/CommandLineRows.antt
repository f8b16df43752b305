-- Words that are command lines, with what they ask for, and words that are none.
use Rattle.std.proofs.Common.{◌≡◌, [], ◌∷◌, arith, codes, refl, false}
use Rattle.clap.proofs.OnLiterals.{clap_on_literals}
use Rattle.reg_words.specs.CommandShapes.{regtool}
use Rattle.reg_words.specs.CommandLines.{faults_in, found_in, HasBothOptions, IsCommandLine}
use Rattle.reg_words.specs.declared.request.HiveCount.{HiveCount}
use Rattle.reg_words.specs.declared.request.StreamRequest.TheVariants.{Run, Workers, Dump, Check}
use Rattle.reg_words.specs.declared.request.Request.TheVariants.{Stream}
use Rattle.reg_words.proofs.CommandShapes.{is_none, named}

run_asks : IsCommandLine (codes "regtool" ∷ codes "run" ∷ []) (Stream Run)
unfolding faults_in found_in regtool clap_on_literals
run_asks = record { named = named (codes "regtool" ∷ codes "run" ∷ []) refl; taken = refl; asks = (refl, refl, refl) }

abbrev sixteen : HiveCount
sixteen = record { number = 16; some = omega arith; few = omega arith }

workers_ask : IsCommandLine (codes "regtool" ∷ codes "run" ∷ codes "--workers" ∷ codes "16" ∷ []) (Stream (Workers sixteen))
unfolding faults_in found_in regtool clap_on_literals
workers_ask = record {
  named = named (codes "regtool" ∷ codes "run" ∷ codes "--workers" ∷ codes "16" ∷ []) refl;
  taken = refl;
  asks = (
    refl,
    refl,
    (
      codes "16",
      refl,
      record {
        numeral = (omega arith, (omega arith, (omega arith, tt)));
        value = refl;
        some = omega arith;
        few = omega arith;
      },
    ),
  );
}

both_options : HasBothOptions (codes "regtool" ∷ codes "run" ∷ codes "--image" ∷ codes "1" ∷ codes "--workers" ∷ codes "2" ∷ [])
unfolding faults_in found_in regtool clap_on_literals
both_options = record { taken = refl; both = (refl, (codes "1", refl), (codes "2", refl)) }

no_hives_are_none : is_none (faults_in (codes "regtool" ∷ codes "run" ∷ codes "--workers" ∷ codes "0" ∷ [])) ≡ false
unfolding faults_in regtool clap_on_literals
no_hives_are_none = refl

seventeen_hives_are_none : is_none (faults_in (codes "regtool" ∷ codes "run" ∷ codes "--workers" ∷ codes "17" ∷ [])) ≡ false
unfolding faults_in regtool clap_on_literals
seventeen_hives_are_none = refl

dump_asks : IsCommandLine (codes "regtool" ∷ codes "dump" ∷ []) (Stream Dump)
unfolding faults_in found_in regtool clap_on_literals
dump_asks = record { named = named (codes "regtool" ∷ codes "dump" ∷ []) refl; taken = refl; asks = (refl, refl, λ dirty. cc) }

check_asks : IsCommandLine (codes "regtool" ∷ codes "check" ∷ []) (Stream Check)
unfolding faults_in found_in regtool clap_on_literals
check_asks = record { named = named (codes "regtool" ∷ codes "check" ∷ []) refl; taken = refl; asks = (refl, refl, λ dirty. cc, λ verbose. cc) }

another_command_is_none : is_none (faults_in (codes "regtool" ∷ codes "frob" ∷ [])) ≡ false
unfolding faults_in regtool clap_on_literals
another_command_is_none = refl

a_word_more_is_none : is_none (faults_in (codes "regtool" ∷ codes "run" ∷ codes "extra" ∷ [])) ≡ false
unfolding faults_in regtool clap_on_literals
a_word_more_is_none = refl

help_of_run_is_none : is_none (faults_in (codes "regtool" ∷ codes "run" ∷ codes "--help" ∷ [])) ≡ false
unfolding faults_in regtool clap_on_literals
help_of_run_is_none = refl
