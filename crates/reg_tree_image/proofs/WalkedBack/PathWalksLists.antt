-- The walk along a path goes as far as the whole walk told keys.
use Rattle.std.proofs.Common.{◌≡◌, ℕ, zero, suc, nat_lt, Bool, true, false, Option, Some, None, Result, Ok, List, [], ◌∷◌, ◌++◌, append_assoc, refl}
use Rattle.std.proofs.Common.{sym, ap, ◌∙◌, subst}
use Rattle.std.proofs.lemmas.List.{append-nil}
use Rattle.reg_heap.specs.Paths.{Path}
use Rattle.reg_heap.specs.Heaps.{Heap}
use Rattle.reg_heap.specs.Edits.{child_path}
use Rattle.reg_heap.specs.Members.{same_name}
use Rattle.reg_records.specs.SubkeyLists.{Entry, Form, SubkeysList}
use Rattle.reg_records.specs.declared.lists.ListForm.TheVariants.{IndexRoot, IndexLeaf, FastLeaf, HashLeaf}
use Rattle.reg_tree_image.specs.declared.LoadFault.{LoadFault}
use Rattle.reg_tree_image.specs.declared.LoadFault.TheVariants.{Limit}
use Rattle.reg_tree_image.specs.WalkSteps.{Seen, Step, ◌>>=◌, ◌>>◌, onward, give}
use Rattle.reg_tree_image.specs.LoadingWalk.{keys_each, leaf_from, lists_each, listed_as, list_from, subkeys_from, named_key}
use Rattle.reg_tree_image.proofs.CleanWalks.CleanSteps.{named_too}
use Rattle.reg_tree_image.proofs.WalkedBack.BackSteps.{bind-back, check-back, give-back}
use Rattle.reg_tree_image.specs.KeyListing.{names_each, names_in_lists, names_as, subkey_names}
use Rattle.reg_tree_image.specs.PathWalk.{Reached, or_else, either, key_among, key_in_lists, key_as, subkey_from}
use Rattle.reg_tree_image.proofs.WalkedBack.PathWalksSteps.{Fits, fits-then}
use Rattle.reg_tree_image.proofs.WalkedBack.PathWalksParts.{repeats-leaf, repeats-list}
use Rattle.reg_tree_image.proofs.WalkedBack.PathWalksTold.{Told}
use Rattle.reg_tree_image.proofs.WalkedBack.PathWalksNames.{names-none}
use Rattle.reg_tree_image.proofs.WalkedBack.PathWalksSearch.{reached-at, IsPiece, piece-none, piece-join, piece-behind, right_below, names-pieces}
use Rattle.reg_tree_image.proofs.WalkedBack.PathWalksSearch.{IsListed, AreListed, IsSought, IsSearched, AreWalked, IsKeyAgain, IsKeyWalked}
use Rattle.reg_tree_image.proofs.WalkedBack.PathWalksSearch.{sought-later, sought-first, news-of, piece-one, sought-one, none-one, named-one}

module _ (heap : Heap) (minor : ℕ) where
  module _ (go : ℕ → Step (Unit {0})) (p : Path) (path : List ℕ)
      (each : (offset : ℕ) (seen : Seen) (u : Unit {0}) (after : Seen) → go offset seen ≡ Ok (u, after) → IsKeyWalked heap minor path
      (child_path p) offset seen after) where
    -- a search goes on, or ends
    searched-or : (name : List ℕ) (xs ys : Told) (b after : Seen) (next : Step (Option Reached)) (r : Result (Option Reached × Seen) LoadFault) →
        IsPiece p b after ys →
        ((now : Seen) → Fits path now b → IsSearched heap minor p path name ys after (next now)) → IsSearched heap minor p path name xs b r →
        IsSearched heap minor p path name (xs ++ ys) after (onward (λ found. or_else found next) r)
    searched-or name xs ys b after next r piece then s = by s.found s.is s.sought
      where
        by : (o : Option Reached) → r ≡ Ok (o, s.mid) → IsSought heap minor p path name xs b o s.mid → IsSearched heap minor p path name
            (xs ++ ys) after (onward (λ found. or_else found next) r)
        by None is sought =
            let t = then s.mid sought.0 in
            record {
              found = t.found;
              mid = t.mid;
              is = ap (onward (λ found. or_else found next)) is ∙ t.is;
              sought = sought-later heap minor p path name xs ys after t.found t.mid sought.1 t.sought;
            }
        by (Some at) is sought =
            record {
              found = Some at;
              mid = s.mid;
              is = ap (onward
                  (λ found. or_else found next)) is;
              sought = sought-first heap minor p path name xs ys b after at s.mid piece sought;
            }

    -- what is read before a search
    searched-behind : {A : Type 0} (s : Step A) (then : A → Step (Option Reached)) (now : Seen) (x : A) (mid : Seen) (name : List ℕ) (news : Told)
        (after : Seen) → s now ≡ Ok (x, mid) →
        IsSearched heap minor p path name news after (then x mid) → IsSearched heap minor p path name news after ((s >>= then) now)
    searched-behind s then now x mid name news after is t = record { found = t.found; mid = t.mid; is = ap (onward then) is ∙ t.is; sought = t.sought }

    -- what is read before a listing
    listed-behind : {A : Type 0} (s : Step A) (then : A → Step (List (List ℕ))) (now : Seen) (x : A) (mid : Seen) (before names : List (List ℕ))
        (after : Seen) → s now ≡ Ok (x, mid) →
        IsListed path before names after (then x mid) → IsListed path before names after ((s >>= then) now)
    listed-behind s then now x mid before names after is t = record { mid = t.mid; is = ap (onward then) is ∙ t.is; fits = t.fits }

    -- what is listed behind names that were listed
    listed-more : (before names more : List (List ℕ)) (after : Seen) (r : Result (List (List ℕ) × Seen) LoadFault) → IsListed path
        (before ++ names) more after r →
        IsListed path before (names ++ more) after r
    listed-more before names more after r t =
        record { mid = t.mid; is = t.is ∙ ap (λ (ns : List (List ℕ)). Ok (ns, t.mid)) (append_assoc before names more); fits = t.fits }

    -- nothing is listed
    listed-none : (before : List (List ℕ)) (seen after : Seen) → seen ≡ after → AreListed p path before (give before) seen after []
    listed-none before seen after e = record {
      names = [];
      are = names-none (right_below p []) (λ c. refl);
      lists = λ now f. record { mid = now; is = ap (λ (ns : List (List ℕ)). Ok (ns, now)) (sym (append-nil before)); fits = subst (Fits path now) e f };
    }

    keys-walked : (entries : List Entry) (n : ℕ) (before : List (List ℕ)) (seen : Seen) (y : ℕ) (after : Seen) → keys_each go n entries seen ≡ Ok (y, after) →
        AreWalked heap minor p path (λ name. key_among heap path name entries) before (names_each heap path before entries) seen after
    keys-walked [] n before seen y after e =
        let g = give-back n seen y after e in
        record {
          news = [];
          listing = listed-none before seen after g.1;
          piece = piece-none p seen after g.1;
          search = λ name now f. record { found = None; mid = now; is = refl; sought = (subst (Fits path now) g.1 f, λ rest. refl) };
        }
    keys-walked (entry ∷ entries) n before seen y after e =
        let rest = keys_each go (suc n) entries in
        let k = check-back Limit (nat_lt n 60000) (go entry.offset >> rest) seen y after e in
        let o = bind-back (go entry.offset) (λ _. rest) seen y after k.1 in
        let w = each entry.offset seen o.first o.mid o.first_is in
        let r = keys-walked entries (suc n) (before ++ w.head.1 ∷ []) o.mid y after o.then_is in
        record {
          news = news-of heap minor p path entry.offset seen o.mid w ++ r.news;
          listing = record {
            names = w.head.1 ∷ r.listing.names;
            are = names-pieces p seen o.mid after (news-of heap minor p path entry.offset seen o.mid w) r.news (w.head.1 ∷ []) r.listing.names
                (piece-one heap minor p path entry.offset seen o.mid w) r.piece (named-one heap minor p path entry.offset seen o.mid w) r.listing.are;
            lists = λ now f.
                (let a = w.again now f in
                listed-behind (named_key heap path entry.offset) (λ head. names_each heap path (before ++ head.1 ∷ []) entries) now w.head a.mid before
                (w.head.1 ∷ r.listing.names) after a.named
                (listed-more before (w.head.1 ∷ []) r.listing.names after (names_each heap path (before ++ w.head.1 ∷ []) entries a.mid)
                (r.listing.lists a.mid a.fits)));
          };
          piece = piece-join p seen o.mid after (news-of heap minor p path entry.offset seen o.mid w) r.news
              (piece-one heap minor p path entry.offset seen o.mid w) r.piece;
          search = λ name now f. one entry.offset seen o.mid w r.news r.piece name now (w.again now f) (λ mid. key_among heap path name entries mid)
              (r.search name) (same_name w.head.1 name) refl;
        }
      where
        one : (offset : ℕ) (seen b : Seen) (w : IsKeyWalked heap minor path (child_path p) offset seen b) (ys : Told) → IsPiece p b after ys →
            (name : List ℕ) (now : Seen) →
            IsKeyAgain heap minor path (child_path p w.head.1) offset w.head ((child_path p w.head.1, w.rec) ∷ w.kids) b now → (next : Step
            (Option Reached)) →
            ((mid : Seen) → Fits path mid b → IsSearched heap minor p path name ys after (next mid)) → (t : Bool) → same_name w.head.1 name ≡ t →
            IsSearched heap minor p path name (news-of heap minor p path offset seen b w ++ ys) after
            ((named_key heap path offset >>= (λ head. either (same_name head.1 name) (give (Some
            (record { offset = offset; key = head.0; name = head.1; above = path }))) next)) now)
        one offset seen b w ys piece name now a next then true t = record {
          found = Some (reached-at path offset w.head);
          mid = a.mid;
          is = ap (onward (λ head. either (same_name head.1 name) (give (Some
              (record { offset = offset; key = head.0; name = head.1; above = path }))) next)) a.named
              ∙ ap (λ (c : Bool). either c (give (Some (reached-at path offset w.head))) next a.mid) t;
          sought = sought-first heap minor p path name (news-of heap minor p path offset seen b w) ys b after
              (reached-at path offset w.head) a.mid piece (sought-one heap minor p path offset seen b w name now t a);
        }
        one offset seen b w ys piece name now a next then false t =
            let s = then a.mid a.fits in
            record {
              found = s.found;
              mid = s.mid;
              is = ap (onward (λ head. either (same_name head.1 name) (give (Some
                  (record { offset = offset; key = head.0; name = head.1; above = path }))) next)) a.named
                  ∙ (ap (λ (c : Bool). either c (give (Some (reached-at path offset w.head))) next a.mid) t ∙ s.is);
              sought = sought-later heap minor p path name (news-of heap minor p path offset seen b w) ys after s.found s.mid
                  (none-one heap minor p path offset seen b w name t) s.sought;
            }

    lists-walked : (entries : List Entry) (n : ℕ) (before : List (List ℕ)) (seen : Seen) (y : Unit {0}) (after : Seen) →
        lists_each heap go path n entries seen ≡ Ok (y, after) →
        AreWalked heap minor p path (λ name. key_in_lists heap path name entries) before (names_in_lists heap path before entries) seen after
    lists-walked [] n before seen y after e =
        let g = give-back tt seen y after e in
        record {
          news = [];
          listing = listed-none before seen after g.1;
          piece = piece-none p seen after g.1;
          search = λ name now f. record { found = None; mid = now; is = refl; sought = (subst (Fits path now) g.1 f, λ rest. refl) };
        }
    lists-walked (entry ∷ entries) n before seen y after e =
        let last = λ (m : ℕ). lists_each heap go path m entries in
        let below = λ (list : SubkeysList). keys_each go n list.entries >>= last in
        let o = bind-back (leaf_from heap path entry.offset) below seen y after e in
        let m = bind-back (keys_each go n o.first.entries) last o.mid y after o.then_is in
        let l = repeats-leaf heap path path entry.offset seen o.first o.mid o.first_is in
        let k = keys-walked o.first.entries n before o.mid m.first m.mid m.first_is in
        let r = lists-walked entries m.first (before ++ k.listing.names) m.mid y after m.then_is in
        record {
          news = k.news ++ r.news;
          listing = record {
            names = k.listing.names ++ r.listing.names;
            are = names-pieces p o.mid m.mid after k.news r.news k.listing.names r.listing.names k.piece r.piece k.listing.are r.listing.are;
            lists = λ now f.
                (let a = k.listing.lists (named_too now l.met) (fits-then path now seen o.mid l.met l.is f) in
                listed-behind (leaf_from heap path entry.offset) (λ list. names_each heap path before list.entries >>=
                (λ names. names_in_lists heap path names entries)) now o.first
                (named_too now l.met) before (k.listing.names ++ r.listing.names) after (l.again now f)
                (listed-behind (names_each heap path before o.first.entries) (λ names. names_in_lists heap path names entries) (named_too now l.met)
                (before ++ k.listing.names) a.mid before
                (k.listing.names ++ r.listing.names) after a.is
                (listed-more before k.listing.names r.listing.names after (names_in_lists heap path (before ++ k.listing.names) entries a.mid)
                (r.listing.lists a.mid a.fits))));
          };
          piece = piece-behind p path (leaf_from heap path entry.offset) seen o.first o.mid after (k.news ++ r.news) l
              (piece-join p o.mid m.mid after k.news r.news k.piece r.piece);
          search = λ name now f.
              searched-behind (leaf_from heap path entry.offset) (λ list. key_among heap path name list.entries >>= (λ found. or_else found
              (key_in_lists heap path name entries))) now o.first
              (named_too now l.met) name (k.news ++ r.news) after (l.again now f)
              (searched-or name k.news r.news m.mid after (key_in_lists heap path name entries) (key_among heap path name o.first.entries
              (named_too now l.met)) r.piece (r.search name)
              (k.search name (named_too now l.met) (fits-then path now seen o.mid l.met l.is f)));
        }

    plain-walked : (entries : List Entry) (before : List (List ℕ)) (seen : Seen) (y : Unit {0}) (after : Seen) →
        (keys_each go 0 entries >> give tt) seen ≡ Ok (y, after) →
        AreWalked heap minor p path (λ name. key_among heap path name entries) before (names_each heap path before entries) seen after
    plain-walked entries before seen y after e =
        let o = bind-back (keys_each go 0 entries) (λ _. give tt) seen y after e in
        subst (AreWalked heap minor p path (λ name. key_among heap path name entries) before (names_each heap path before entries) seen)
        (give-back tt o.mid y after o.then_is).1
        (keys-walked entries 0 before seen o.first o.mid o.first_is)

    listed-walked : (entries : List Entry) (form : Form) (before : List (List ℕ)) (seen : Seen) (y : Unit {0}) (after : Seen) →
        listed_as heap go path entries form seen ≡ Ok (y, after) →
        AreWalked heap minor p path (λ name. key_as heap path name entries form) before (names_as heap path before entries form) seen after
    listed-walked entries IndexRoot before seen y after e = lists-walked entries 0 before seen y after e
    listed-walked entries IndexLeaf before seen y after e = plain-walked entries before seen y after e
    listed-walked entries FastLeaf before seen y after e = plain-walked entries before seen y after e
    listed-walked entries HashLeaf before seen y after e = plain-walked entries before seen y after e

    -- a key's subkeys, and the search among them and their listing
    pub subkeys-walked : (count offset : ℕ) (before : List (List ℕ)) (seen : Seen) (y : Unit {0}) (after : Seen) →
        subkeys_from heap go path count offset seen ≡ Ok (y, after) →
        AreWalked heap minor p path (λ name. subkey_from heap path name count offset) before (subkey_names heap path before count offset) seen after
    subkeys-walked zero offset before seen y after e =
        let g = give-back tt seen y after e in
        record {
          news = [];
          listing = listed-none before seen after g.1;
          piece = piece-none p seen after g.1;
          search = λ name now f. record { found = None; mid = now; is = refl; sought = (subst (Fits path now) g.1 f, λ rest. refl) };
        }
    subkeys-walked (suc n) offset before seen y after e =
        let o = bind-back (list_from heap path offset) (λ list. listed_as heap go path list.entries list.form) seen y after e in
        let l = repeats-list heap path path offset seen o.first o.mid o.first_is in
        let r = listed-walked o.first.entries o.first.form before o.mid y after o.then_is in
        record {
          news = r.news;
          listing = record {
            names = r.listing.names;
            are = r.listing.are;
            lists = λ now f.
                listed-behind (list_from heap path offset) (λ list. names_as heap path before list.entries list.form) now o.first
                (named_too now l.met) before r.listing.names after (l.again now f)
                (r.listing.lists (named_too now l.met) (fits-then path now seen o.mid l.met l.is f));
          };
          piece = piece-behind p path (list_from heap path offset) seen o.first o.mid after r.news l r.piece;
          search = λ name now f.
              searched-behind (list_from heap path offset) (λ list. key_as heap path name list.entries list.form) now o.first
              (named_too now l.met) name r.news after (l.again now f)
              (r.search name (named_too now l.met) (fits-then path now seen o.mid l.met l.is f));
        }
