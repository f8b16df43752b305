-- Keys laid out one after another have the text that is said of them.
use Rattle.std.proofs.Common.{◌≡◌, ℕ, List, [], ◌∷◌, ◌++◌, refl, sym, ap, ◌∙◌, append_assoc}
use Rattle.std.specs.Prelude.{codes, flat_map}
use Rattle.reg_heap.specs.Paths.{Path, Tree}
use Rattle.reg_tree_text.specs.DumpTexts.{Told}
use Rattle.reg_tree_text.specs.Internal.Gathered.{WriterState, IsSoFar}
use Rattle.reg_tree_text.proofs.SentTexts.{opened, swapped}
use Rattle.reg_tables.specs.declared.layout.Layout.{Layout}
use Rattle.reg_tables.specs.declared.layout.Layout.TheVariants.{Array, Lines, Page}
use Rattle.reg_tables.specs.declared.page.TheConstants.{FRONT, BACK}
use Rattle.reg_tables.specs.Tables.{keys_from, key_text, more_text, keys_text, json_text, key_line, jsonl_text}
use Rattle.reg_tables.specs.Pages.{shielded, html_text}
use Rattle.reg_tables.specs.Internal.Layouts.{front_of, before_keys, behind_keys, back_of, more_laid, keys_laid, table_text}
use Rattle.reg_tables.proofs.Shielded.{shielded-append}

-- the keys with what stands behind them, and the whole text
abbrev pub keys_on : Layout → List Told → List ℕ
keys_on layout keys = keys_laid layout keys ++ (behind_keys layout ++ back_of layout)

abbrev pub laid_out : Layout → List Told → List ℕ
laid_out layout keys = front_of layout ++ (before_keys layout ++ keys_on layout keys)

-- ---- an array

as_array : (told : Told) (rest : List Told) →
    codes "[\n" ++ (keys_text (told ∷ rest) ++ codes "\n]\n") ≡ codes "[\n" ++ (keys_laid Array (told ∷ rest) ++ codes "\n]\n")
unfolding more_text more_laid
as_array told rest = refl

-- ---- lines

-- those behind one whose end is to come
lines-behind : (rest : List Told) → flat_map (more_laid Lines) rest ++ codes "\n" ≡ codes "\n" ++ flat_map key_line rest
unfolding more_laid key_line
lines-behind [] = refl
lines-behind (told ∷ rest) =
    append_assoc (codes "\n" ++ key_text told) (flat_map (more_laid Lines) rest) (codes "\n")
    ∙ (ap (λ (w : List ℕ). (codes "\n" ++ key_text told) ++ w) (lines-behind rest)
    ∙ ap (λ (w : List ℕ). codes "\n" ++ w) (sym (append_assoc (key_text told) (codes "\n") (flat_map key_line rest))))

as_lines : (told : Told) (rest : List Told) → flat_map key_line (told ∷ rest) ≡ keys_laid Lines (told ∷ rest) ++ codes "\n"
unfolding key_line
as_lines told rest =
    append_assoc (key_text told) (codes "\n") (flat_map key_line rest)
    ∙ (ap (λ (w : List ℕ). key_text told ++ w) (sym (lines-behind rest))
    ∙ sym (append_assoc (key_text told) (flat_map (more_laid Lines) rest) (codes "\n")))

-- ---- the array of a page

more-shielded : (rest : List Told) → shielded (flat_map more_text rest) ≡ flat_map (more_laid Page) rest
unfolding more_text more_laid
more-shielded [] = refl
more-shielded (told ∷ rest) =
    shielded-append (more_text told) (flat_map more_text rest) ∙ ap (λ (w : List ℕ). shielded (more_text told) ++ w) (more-shielded rest)

keys-shielded : (told : Told) (rest : List Told) → shielded (keys_text (told ∷ rest)) ≡ keys_laid Page (told ∷ rest)
keys-shielded told rest =
    shielded-append (key_text told) (flat_map more_text rest) ∙ ap (λ (w : List ℕ). shielded (key_text told) ++ w) (more-shielded rest)

as_page : (back : List ℕ) (told : Told) (rest : List Told) →
    shielded (codes "[\n" ++ (keys_text (told ∷ rest) ++ codes "\n]\n")) ++ back
    ≡ codes "[\n" ++ (keys_laid Page (told ∷ rest) ++ (codes "\n]\n" ++ back))
as_page back told rest =
    ap (λ (w : List ℕ). codes "[\n" ++ (w ++ back))
    (shielded-append (keys_text (told ∷ rest)) (codes "\n]\n") ∙ ap (λ (w : List ℕ). w ++ codes "\n]\n") (keys-shielded told rest))
    ∙ ap (λ (w : List ℕ). codes "[\n" ++ w) (append_assoc (keys_laid Page (told ∷ rest)) (codes "\n]\n") back)

page_of : (front back : List ℕ) (tree : Tree) (p : Path) (told : Told) (rest : List Told) → keys_from tree p ≡ told ∷ rest →
    front ++ (shielded (json_text tree p) ++ back) ≡ front ++ (codes "[\n" ++ (keys_laid Page (keys_from tree p) ++ (codes "\n]\n" ++ back)))
unfolding json_text
page_of front back tree p told rest e =
    ap (λ (keys : List Told). front ++ (shielded (codes "[\n" ++ (keys_text keys ++ codes "\n]\n")) ++ back)) e
    ∙ (ap (λ (w : List ℕ). front ++ w) (as_page back told rest)
    ∙ sym (ap (λ (keys : List Told). front ++ (codes "[\n" ++ (keys_laid Page keys ++ (codes "\n]\n" ++ back)))) e))

-- ---- each of them

-- there is at least one key
pub table-parts : (layout : Layout) (tree : Tree) (p : Path) (told : Told) (rest : List Told) → keys_from tree p ≡ told ∷ rest →
    table_text layout tree p ≡ laid_out layout (keys_from tree p)
unfolding json_text jsonl_text html_text
table-parts Array tree p told rest e =
    ap (λ (keys : List Told). codes "[\n" ++ (keys_text keys ++ codes "\n]\n")) e ∙ (as_array told rest ∙ sym (ap (laid_out Array) e))
table-parts Lines tree p told rest e = ap (flat_map key_line) e ∙ (as_lines told rest ∙ sym (ap (laid_out Lines) e))
table-parts Page tree p told rest e = page_of FRONT.now BACK.now tree p told rest e

-- the front is next
pub front-next : (begin now : WriterState) (whole left gathered : List ℕ) (written : ℕ) (layout : Layout) (tree : Tree) (p : Path) (told : Told)
    (rest : List Told) → keys_from tree p ≡ told ∷ rest → (text : List ℕ) → text ≡ front_of layout →
    IsSoFar begin now whole (table_text layout tree p ++ left) gathered written →
    IsSoFar begin now whole (text ++ ((before_keys layout ++ keys_on layout (keys_from tree p)) ++ left)) gathered written
front-next begin now whole left gathered written layout tree p told rest e text t s =
    let behind = before_keys layout ++ keys_on layout (keys_from tree p) in
    swapped begin now whole (front_of layout) text (behind ++ left) gathered written
    (opened begin now whole (front_of layout) behind left gathered written
    (swapped begin now whole (table_text layout tree p) (front_of layout ++ behind) left gathered written s (sym (table-parts layout tree p told rest e)))) t

-- a part of it is next, said by the code
pub part-next : (begin now : WriterState) (whole left gathered : List ℕ) (written : ℕ) (part behind text : List ℕ) → text ≡ part →
    IsSoFar begin now whole ((part ++ behind) ++ left) gathered written → IsSoFar begin now whole (text ++ (behind ++ left)) gathered written
part-next begin now whole left gathered written part behind text t s =
    swapped begin now whole part text (behind ++ left) gathered written (opened begin now whole part behind left gathered written s) t
