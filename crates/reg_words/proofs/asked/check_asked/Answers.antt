use Rattle.std.proofs.Common.{◌∙◌, ap, codes, refl, map, rules}
use Rattle.std.specs.Prelude.{Some, option_map}
use Rattle.clap.specs.Words.{found_of}
use Rattle.reg_words.proofs.AskedWords.{all_is}
use Rattle.reg_words.proofs.asked.check_asked.Goals as goal

pub returns-in_ok-extend_from_slice-in-Some : goal.returns-in_ok-extend_from_slice-in-Some
returns-in_ok-extend_from_slice-in-Some c = (
  refl,
  all_is (found_of c.args.matches.now) (codes "files") _ c.get_strs.ensures ∙ (ap (option_map (λ s. map (λ v. v.now) s.now)) c.in-Some.is
      ∙ ap (λ xs. Some (map (λ v. v.now) xs)) (search rules)),
  c.is_set.ensures,
  c.is_set-in-Some.ensures,
)

pub check_of_stream-requires : goal.check_of_stream-requires
check_of_stream-requires c =
    all_is (found_of c.args.matches.now) (codes "files") _ c.get_strs.ensures ∙ ap (option_map (λ s. map (λ v. v.now) s.now)) c.in-None.is
