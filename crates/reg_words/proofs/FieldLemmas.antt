-- What `diff` passes over, read part by part.
use Rattle.std.proofs.Common.{◌≡◌, ℕ, Bool, true, false, List, ◌∷◌, refl, sym, ap, ◌∙◌}
use Rattle.std.specs.Prelude.{Option, Some, None, ◌||◌}
use Rattle.std.specs.Option.{option_map, option_and_then}
use Rattle.reg_words.specs.PlaceLists.{parts_of}
use Rattle.reg_words.specs.FieldLists.{both_fields, field_of, fields_of, ignored_in}
use Rattle.reg_words.specs.declared.request.Ignored.{Ignored}

-- those so far, with those of the rest
abbrev pub joined_fields : Ignored → Option Ignored → Option Ignored
joined_fields fields rest = option_map (both_fields fields) rest

or_more : (a b c : Bool) → (a || (b || c)) ≡ ((a || b) || c)
or_more true b c = refl
or_more false b c = refl

both_more : (a b c : Ignored) → both_fields a (both_fields b c) ≡ both_fields (both_fields a b) c
both_more a b c =
    rw (
      or_more a.time b.time c.time,
      or_more a.security b.security c.security,
      or_more a.order b.order c.order,
      or_more a.class b.class c.class,
      or_more a.marks b.marks c.marks,
    ) refl

joined_more : (fields field : Ignored) (rest : Option Ignored) →
    joined_fields fields (joined_fields field rest) ≡ joined_fields (both_fields fields field) rest
joined_more fields field None = refl
joined_more fields field (Some others) = ap (λ (p : Ignored). Some p) (both_more fields field others)

-- a word more was read
pub gathered_fields : (text rest word behind cut : List ℕ) (fields field new : Ignored) (got : Option Ignored) →
    ignored_in text ≡ joined_fields fields (ignored_in rest) → parts_of rest ≡ word ∷ parts_of behind → got ≡ field_of word → got ≡ Some field →
    new ≡ both_fields fields field → cut ≡ behind → ignored_in text ≡ joined_fields new (ignored_in cut)
gathered_fields text rest word behind cut fields field new got so_far parts read is n e =
    so_far
    ∙ (ap (λ (words : List (List ℕ)). joined_fields fields (fields_of words)) parts
    ∙ (ap (λ (o : Option Ignored). joined_fields fields (option_and_then (λ p. joined_fields p (ignored_in behind)) o)) (sym read ∙ is)
    ∙ (joined_more fields field (ignored_in behind)
    ∙ (ap (λ (p : Ignored). joined_fields p (ignored_in behind)) (sym n) ∙ ap (λ (x : List ℕ). joined_fields new (ignored_in x)) (sym e)))))
