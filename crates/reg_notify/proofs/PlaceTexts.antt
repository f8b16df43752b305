-- The text of a place.
use Rattle.std.proofs.Common.{◌≡◌, ℕ, ◌+◌, ◌≤◌, List, [], ◌∷◌, ◌++◌, Vec, true, refl, sym, ap, ◌∙◌, subst, append_assoc}
use Rattle.std.specs.Int.{to_be_bytes, w64}
use Rattle.std.specs.Prelude.{vec_len, vec_capacity}
use Rattle.reg_names.specs.Names.{is_path, path_of}
use Rattle.reg_heap.specs.Paths.{Path}
use Rattle.reg_notify.specs.Internal.Keys.{lead_of, key_text, IsClean}
use Rattle.reg_notify.specs.Internal.Places.{behind_first, led, IsPlace}
use Rattle.reg_notify.proofs.KeyTexts.{lead-path, clean-path}

behind-led : (text : List ℕ) → behind_first (led text) ≡ text
behind-led [] = refl
behind-led (b ∷ bs) = refl

led-lead : (text : List ℕ) → led text ≡ lead_of (path_of text)
led-lead [] = refl
led-lead (b ∷ bs) = sym (lead-path b bs)

pub led-path : (text path : List ℕ) → text ≡ led path → path_of (behind_first text) ≡ path_of path
led-path text path e = ap path_of (ap behind_first e ∙ behind-led path)

pub led-place : {Y : Type 0} (text : Vec ℕ Y) (path : List ℕ) → text.items ≡ led path → is_path path ≡ true → vec_len text + 10 ≤ vec_capacity text →
    IsPlace text
led-place text path e is room = record {
  lead = e ∙ led-lead path ∙ ap lead_of (sym (led-path text.items path e));
  clean = subst IsClean (sym (led-path text.items path e)) (clean-path path is);
  room = room;
}

-- a watch's text, put together piece by piece
pub key-made : (made two one text lead bytes : List ℕ) (p : Path) (class number : ℕ) → made ≡ two ++ bytes → two ≡ one ++ class ∷ [] → one ≡ text ++ 0 ∷ [] →
    text ≡ lead →
    lead ≡ lead_of p → bytes ≡ to_be_bytes w64 number → made ≡ key_text p class number
key-made made two one text lead bytes p class number m t o s l b =
    m ∙ ap (λ (x : List ℕ). x ++ bytes) (t ∙ ap (λ (x : List ℕ). x ++ class ∷ []) (o ∙ ap (λ (x : List ℕ). x ++ 0 ∷ []) (s ∙ l)))
    ∙ ap (λ (x : List ℕ). x ++ bytes) (append_assoc (lead_of p) (0 ∷ []) (class ∷ [])) ∙ append_assoc (lead_of p) (0 ∷ class ∷ []) bytes
    ∙ ap (λ (x : List ℕ). lead_of p ++ 0 ∷ class ∷ x) b

-- and where its place's text is there already
pub key-appended : (text : List ℕ) (p : Path) (class class' number : ℕ) → text ≡ lead_of p → class ≡ class' →
    text ++ 0 ∷ class ∷ to_be_bytes w64 number ≡ key_text p class' number
key-appended text p class class' number is same =
    ap (λ (x : List ℕ). x ++ 0 ∷ class ∷ to_be_bytes w64 number) is ∙ ap (λ (k : ℕ). key_text p k number) same
