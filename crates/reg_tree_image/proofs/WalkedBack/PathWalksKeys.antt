-- The walk along a path goes as far as the whole walk told keys.
use Rattle.std.proofs.Common.{◌≡◌, ℕ, zero, suc, true, false, Option, Some, None, Ok, List, [], ◌∷◌, ◌++◌, append_assoc, map, refl, sym, ap, ◌∙◌, subst}
use Rattle.std.specs.FinMap.{find}
use Rattle.std.proofs.lemmas.List.{append-nil}
use Rattle.reg_names.specs.Names.{folded}
use Rattle.reg_heap.specs.Paths.{Path, Rec, Member, path_cmp}
use Rattle.reg_heap.specs.Heaps.{Heap}
use Rattle.reg_heap.specs.Edits.{child_path}
use Rattle.reg_records.specs.KeyNodes.{KeyRecord}
use Rattle.reg_shape.specs.Spelt.{marks_of}
use Rattle.reg_tree_image.specs.declared.LoadFault.TheVariants.{Limit, Twice}
use Rattle.reg_tree_image.specs.WalkSteps.{Seen, ◌>>◌, onward, give, check, tell}
use Rattle.reg_tree_image.specs.LoadingWalk.{is_free, no_sibling, head_from, subkeys_from, named_key, parts_from, rest_from, key_from}
use Rattle.reg_tree_image.proofs.CleanWalks.CleanSteps.{named_too}
use Rattle.reg_tree_image.proofs.WalkedBack.BackSteps.{ok_is, bind-back, check-back, give-back}
use Rattle.reg_tree_image.specs.KeyListing.{subkey_names}
use Rattle.reg_tree_image.specs.PathWalk.{Reached, go_on, subkey_from, reached_from}
use Rattle.reg_tree_image.proofs.WalkedBack.PathWalksSteps.{AreFewer, Fits, IsAgain, fits-then, fits-more, fewer-then, fewer-join}
use Rattle.reg_tree_image.proofs.WalkedBack.PathWalksParts.{repeats-key-named, named-keys, repeats-parts}
use Rattle.reg_tree_image.proofs.WalkedBack.PathWalksTold.{Told, find-here, find-other, not-under}
use Rattle.reg_tree_image.proofs.WalkedBack.PathWalksSearch.{reached-at, right_below, HasNames, IsFoundAs, answer-as, IsAnswerBelow, IsSought}
use Rattle.reg_tree_image.proofs.WalkedBack.PathWalksSearch.{IsSearched, AreWalked, IsKeyWalked}
use Rattle.reg_tree_image.proofs.WalkedBack.PathWalksLists.{subkeys-walked}

module _ (heap : Heap) (minor : ℕ) where
  -- a key's record as it was told
  abbrev rec-told : KeyRecord → List ℕ → List ℕ × List ℕ × List Member → Rec
  rec-told key name parts = record {
    name = name;
    marks = marks_of key.fields.flags;
    class = parts.0;
    descriptor = parts.1;
    time = key.fields.time;
    values = parts.2;
  }

  -- from a key on: this key, where no name is left, or else the search among its subkeys
  onto-key : (path : List ℕ) (at : Path) (offset : ℕ) (head : KeyRecord × List ℕ) (rec : Rec) (kids : Told) (mid after : Seen) →
      IsFoundAs heap minor (reached-at path offset head) rec (right_below at kids) mid →
      ((name : List ℕ) → IsSearched heap minor at (offset ∷ path) name kids after (subkey_from heap
      (offset ∷ path) name head.0.fields.subkeys head.0.fields.subkeys_list mid)) →
      (names : List (List ℕ)) → IsAnswerBelow heap minor (reached_from heap names (reached-at path offset head) mid) at names ((at, rec) ∷ kids)
  onto-key path at offset head rec kids mid after here below [] =
      answer-as heap minor (Ok (Some (reached-at path offset head), mid)) (Some rec) _ (right_below at kids) _
      (ap (λ (q : Path). find path_cmp q ((at, rec) ∷ kids)) (append-nil at) ∙ find-here at rec kids) (λ c. find-other (at ++ c ∷ []) at rec kids
      (not-under at c []))
      (record { found = Some (reached-at path offset head); after = mid; is = refl; as_told = here })
  onto-key path at offset head rec kids mid after here below (name ∷ names) =
      let b = below name in
      answer-as heap minor (reached_from heap (name ∷ names) (reached-at path offset head) mid) _ _ _ _
      (find-other (at ++ folded name ∷ map folded names) at rec kids (not-under at (folded name) (map folded names)))
      (λ c. find-other (at ++ folded name ∷ (map folded names ++ c ∷ [])) at rec kids (not-under at (folded name) (map folded names ++ c ∷ [])))
      (by b.found b.mid b.is b.sought)
    where
      by : (o : Option Reached) (m : Seen) → subkey_from heap (offset ∷ path) name head.0.fields.subkeys head.0.fields.subkeys_list mid ≡ Ok (o, m) →
          IsSought heap minor at (offset ∷ path) name kids after o m →
          IsAnswerBelow heap minor (reached_from heap (name ∷ names) (reached-at path offset head) mid) at (name ∷ names) kids
      by None m is sought =
          answer-as heap minor (reached_from heap (name ∷ names) (reached-at path offset head) mid) None _ _ _ (sought.1 (map folded names)) (λ c. refl)
          (record { found = None; after = m; is = ap (onward (λ found. go_on found (reached_from heap names))) is; as_told = tt })
      by (Some to) m is sought =
          let a = sought.1 names in
          record { found = a.found; after = a.after; is = ap (onward (λ found. go_on found (reached_from heap names))) is ∙ a.is; as_told = a.as_told }

  -- a key whose record was named, and what follows it
  below-head : (path : List ℕ) (here : List ℕ → Path) (offset : ℕ) (seen : Seen) (head : KeyRecord × List ℕ) (b : Seen) (v : Unit {0}) (c after : Seen) →
      IsAgain path (named_key heap path offset) seen head b → is_free (here head.1) seen.told ≡ true →
      rest_from heap minor (offset ∷ path) (here head.1) head.0 head.1 b ≡ Ok (v, c) →
      AreWalked heap minor (here head.1) (offset ∷ path) (λ name. subkey_from heap (offset ∷ path) name head.0.fields.subkeys head.0.fields.subkeys_list) []
      (subkey_names heap (offset ∷ path) [] head.0.fields.subkeys head.0.fields.subkeys_list) c after →
      IsKeyWalked heap minor path here offset seen after
  below-head path here offset seen head b v c after n free e w =
      let o = bind-back (parts_from heap minor (offset ∷ path) head.0.fields) (λ parts. tell (here head.1) (rec-told head.0 head.1 parts)) b v c e in
      let rec = rec-told head.0 head.1 o.first in
      let p = ok_is (tt, record o.mid { told = o.mid.told ++ (here head.1, rec) ∷ [] }) (v, c) o.then_is in
      let is_c : record o.mid { told = o.mid.told ++ (here head.1, rec) ∷ [] } ≡ c = ap (λ (q : Unit {0} × Seen). q.1) p in
      let a = repeats-parts heap minor (offset ∷ path) (offset ∷ path) head.0.fields b o.first o.mid o.first_is in
      let told_c : c.told ≡ seen.told ++ (here head.1, rec) ∷ [] = sym (ap (λ (s : Seen). s.told) is_c)
      ∙ ap (λ (zs : Told). zs ++ (here head.1, rec) ∷ []) (ap (λ (s : Seen). s.told) a.is ∙ ap (λ (s : Seen). s.told) n.is) in
      let more_b : AreFewer seen b = fewer-then seen b n.met (ap (λ (s : Seen). s.found) n.is) in
      let more_c : AreFewer b c = fewer-then b c a.met (sym (ap (λ (s : Seen). s.found) is_c) ∙ ap (λ (s : Seen). s.found) a.is) in
      let more : AreFewer b after = fewer-join b c after more_c w.piece.more in
      let listed : (now : Seen) → Fits (offset ∷ path) now o.mid →
      HasNames (right_below (here head.1) w.news) (subkey_names heap (offset ∷ path) [] head.0.fields.subkeys head.0.fields.subkeys_list now) =
      λ now f.
      (let t = w.listing.lists now (subst (Fits (offset ∷ path) now) is_c (record { fewer = f.fewer; keys = f.keys })) in
      record { names = w.listing.names; are = w.listing.are; end = t.mid; is = t.is }) in
      record {
        head = head;
        rec = rec;
        kids = w.news;
        called = refl;
        told = w.piece.told ∙ (ap (λ (zs : Told). zs ++ w.news) told_c ∙ append_assoc seen.told ((here head.1, rec) ∷ []) w.news);
        more = fewer-join seen b after more_b more;
        free = free;
        under = w.piece.under;
        again = λ now f.
            (let mid = named_too now n.met in
            let fits : Fits path mid b = fits-then path now seen b n.met n.is f in
            let at_b : Fits (offset ∷ path) mid b = record {
              fewer = fits.fewer;
              keys = named-keys heap path path offset now head mid
                  (n.again now f) f.keys;
            } in
            record {
              mid = mid;
              named = n.again now f;
              fits = fits-more path mid b after more fits;
              onto = onto-key path (here head.1) offset head rec w.news mid after
                  (record { before = b; later = o.mid; fits = at_b; parts = o.first_is; name = refl; marks = refl; time = refl; subkeys = listed })
                  (λ name. w.search name mid (fits-more (offset ∷ path) mid b c more_c at_b));
            });
      }

  -- a key's record, of whose path no key was told
  record IsHeadNamed (path : List ℕ) (here : List ℕ → Path) (offset : ℕ) (seen : Seen) (head : KeyRecord × List ℕ) (after : Seen) : Type 0 where
    again : IsAgain path (named_key heap path offset) seen head after
    free : is_free (here head.1) seen.told ≡ true

  head-named : (path : List ℕ) (here : List ℕ → Path) (offset : ℕ) (seen : Seen) (head : KeyRecord × List ℕ) (after : Seen) →
      head_from heap path here offset seen ≡ Ok (head, after) →
      IsHeadNamed path here offset seen head after
  head-named path here offset seen head after e =
      let o = bind-back (named_key heap path offset) (λ (h : KeyRecord × List ℕ). no_sibling (here h.1) >> give h) seen head after e in
      let k = check-back Twice (is_free (here o.first.1) o.mid.told) (give o.first) o.mid head after o.then_is in
      let g = give-back o.first o.mid head after k.1 in
      let n = repeats-key-named heap path path offset seen o.first o.mid o.first_is in
      subst (λ (s : Seen). IsHeadNamed path here offset seen head s) g.1
      (subst (λ (h : KeyRecord × List ℕ). IsHeadNamed path here offset seen h o.mid) g.0
      (record { again = n; free = sym (ap (λ (s : Seen). is_free (here o.first.1) s.told) n.is) ∙ k.0 }))

  pub key-walked : (levels : ℕ) (path : List ℕ) (here : List ℕ → Path) (offset : ℕ) (seen : Seen) (u : Unit {0}) (after : Seen) →
      key_from heap minor levels path here offset seen ≡ Ok (u, after) → IsKeyWalked heap minor path here offset seen after
  unfolding key_from
  key-walked zero path here offset seen u after e =
      let o = bind-back (head_from heap path here offset) (λ head. check Limit false) seen u after e in
      absurd (cc (o.then_is))
  key-walked (suc levels) path here offset seen u after e =
      let down = offset ∷ path in
      let go = λ (head : KeyRecord × List ℕ). key_from heap minor levels down (child_path (here head.1)) in
      let below = λ (head : KeyRecord × List ℕ). subkeys_from heap (go head) down head.0.fields.subkeys head.0.fields.subkeys_list in
      let whole = λ (head : KeyRecord × List ℕ). rest_from heap minor down (here head.1) head.0 head.1 >> below head in
      let o = bind-back (head_from heap path here offset) whole seen u after e in
      let r = bind-back (rest_from heap minor down (here o.first.1) o.first.0 o.first.1) (λ _. below o.first) o.mid u after o.then_is in
      let h = head-named path here offset seen o.first o.mid o.first_is in
      below-head path here offset seen o.first o.mid r.first r.mid after h.again h.free r.first_is
      (subkeys-walked heap minor (go o.first) (here o.first.1) down (λ k s v a. key-walked levels down (child_path
      (here o.first.1)) k s v a) o.first.0.fields.subkeys
      o.first.0.fields.subkeys_list [] r.mid u after r.then_is)
