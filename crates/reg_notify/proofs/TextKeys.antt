-- Texts as the keys of a map, and as paths.
use Rattle.std.proofs.Common.{◌≡◌, ℕ, Bool, true, false, cond, List, [], ◌∷◌, Option, refl, sym, ap, subst, ◌∙◌, Vec}
use Rattle.std.specs.Prelude.{bytes_eq}
use Rattle.std.specs.Ordering.{is_eq, nat_cmp}
use Rattle.std.specs.Cmp.{IsTotalOrder}
use Rattle.std.specs.Cmp.Lexicographic.{slice_cmp, bytes_decides}
use Rattle.std.specs.BTreeMap.{BTreeMap, UpdatesBy}
use Rattle.std.specs.Map.{lookup, IsKeyTest, AreApart, KeepsOthers}
use Rattle.std.proofs.lemmas.Bool.{cond-true, cond-false, false≢true}
use Rattle.std.proofs.lemmas.Cmp.{eq_by_cmp_equiv, nat_list_cmp_total, nat_list_eq_equiv, lists_total, tied_itself}
use Rattle.std.proofs.lemmas.List.Splits.{join_with_byte-slice_split}
use Rattle.std.proofs.lemmas.Map.Text.{is_eq-slice_cmp}
use Rattle.reg_names.specs.Names.{path_of, text_of}
use Rattle.reg_heap.specs.Paths.{path_cmp}
use Rattle.reg_heap.proofs.ChildrenOfPath.{path-is}
use Rattle.reg_model.specs.Worlds.{same_path}
use Rattle.reg_notify.specs.Internal.Indexes.{UpdatesText}
use Rattle.reg_model.specs.Internal.TextNumbers.{number_at}

-- ---- keys

apart : (bs cs ks : List ℕ) → bytes_eq bs cs ≡ false → is_eq (slice_cmp nat_cmp bs ks) ≡ true → is_eq (slice_cmp nat_cmp cs ks) ≡ false
apart bs cs ks n y =
    let same : bytes_eq bs ks ≡ true = sym (is_eq-slice_cmp bs ks) ∙ y in
    is_eq-slice_cmp cs ks ∙ (nat_list_eq_equiv.symm cs ks ∙ sym (nat_list_eq_equiv.congr bs ks cs same) ∙ n)

others : {K X : Type 0} (eq : K → K → Bool) (test : K → Bool) (old new : List (K × X)) → KeepsOthers eq test old new → (other : K → Bool) →
    IsKeyTest eq other → AreApart test other → lookup other new ≡ lookup other old
unfolding KeepsOthers
others eq test old new h = h

-- g is w at bs, and f at other bytes
by_bytes : {W : Type 0} (f g : List ℕ → W) (bs : List ℕ) (w : W) → g bs ≡ w → ((cs : List ℕ) → bytes_eq bs cs ≡ false → g cs ≡ f cs) → (cs : List ℕ) →
    g cs ≡ cond (bytes_eq bs cs) w (f cs)
by_bytes f g bs w here other cs = by (bytes_eq bs cs) refl
  where
    by : (b : Bool) → bytes_eq bs cs ≡ b → g cs ≡ cond (bytes_eq bs cs) w (f cs)
    by true y = subst (λ l. g l ≡ w) ((bytes_decides bs cs).0 y) here ∙ sym (cond-true (bytes_eq bs cs) w (f cs) y)
    by false n = other cs n ∙ sym (cond-false (bytes_eq bs cs) w (f cs) n)

-- the map of the paths after a change at one text
pub updated : {Y : Type 0} (text : List ℕ) (m n : BTreeMap (Vec ℕ Y) ℕ) (w : Option ℕ) → UpdatesBy (λ x y. slice_cmp nat_cmp x.items y.items)
    (λ k. slice_cmp nat_cmp text k.items) m n w
    → UpdatesText (number_at m.entries) text w (number_at n.entries)
updated text m n w h =
    by_bytes (number_at m.entries) (number_at n.entries) text w h.1
    (λ cs e. others _ _ _ _ h.3 _ (λ x y. (eq_by_cmp_equiv nat_list_cmp_total).congr cs x.items y.items) (λ k. apart text cs k.items e))

-- ---- paths

joined : (a : List ℕ) → text_of (path_of a) ≡ a
joined [] = refl
joined (b ∷ bs) = join_with_byte-slice_split 92 (b ∷ bs)

-- a path has one text
pub path_of-one : (a b : List ℕ) → path_of a ≡ path_of b → a ≡ b
path_of-one a b e = sym (joined a) ∙ ap text_of e ∙ joined b

pub path_total : IsTotalOrder path_cmp
path_total = lists_total nat_list_cmp_total

-- two texts are of one path where they are one text
pub same_path-texts : (t p : List ℕ) → same_path (path_of t) (path_of p) ≡ bytes_eq p t
same_path-texts t p = by (bytes_eq p t) refl (same_path (path_of t) (path_of p)) refl
  where
    by : (b : Bool) → bytes_eq p t ≡ b → (c : Bool) → same_path (path_of t) (path_of p) ≡ c → same_path (path_of t) (path_of p) ≡ bytes_eq p t
    by true y c e = subst (λ x. same_path (path_of t) (path_of x) ≡ true) (sym ((bytes_decides p t).0 y)) (ap is_eq (tied_itself path_total (path_of t))) ∙
        sym y
    by false n true e = absurd (false≢true (sym n ∙ (bytes_decides p t).1 (path_of-one p t (sym (path-is _ _ e)))))
    by false n false e = e ∙ sym n
