-- Files gathered one after another.
use Rattle.std.proofs.Common.{◌≡◌, ◌++◌, List, [], ◌∷◌, ℕ, Bool, ap, inl, inr, refl, subst, sym}
use Rattle.std.specs.Prelude.{Option}
use Rattle.reg_heap.specs.Paths.{Tree}
use Rattle.reg_tables.specs.declared.timeline.Timeline.{Timeline}
use Rattle.reg_tables.specs.Timelines.{IsGathered}
use Rattle.reg_files.specs.Gathering.{MissesOne, MissesTree, ReadsEach, ReadsFile}

-- what becomes of the files that are left is what becomes of all
pub record Goes (is_dirty : Bool) (all left : List (List ℕ)) (trees : List Tree) (first_told told : Option (List ℕ)) (first_failed failed : Option ℕ)
    : Type 0 where
  pub reads : (more : List Tree) (told_after : Option (List ℕ)) (now_failed : Option ℕ) →
      ReadsEach is_dirty left more told told_after failed now_failed →
      ReadsEach is_dirty all (trees ++ more) first_told told_after first_failed now_failed
  pub misses : (told_after : Option (List ℕ)) (now_failed : Option ℕ) → MissesOne is_dirty left told told_after failed now_failed →
      MissesOne is_dirty all first_told told_after first_failed now_failed

pub begins : (is_dirty : Bool) (all : List (List ℕ)) (told : Option (List ℕ)) (failed : Option ℕ) → Goes is_dirty all all [] told told failed failed
begins is_dirty all told failed = record { reads = λ more told_after now_failed h. h; misses = λ told_after now_failed h. h }

more_of : (trees more : List Tree) (tree : Tree) → trees ++ (tree ∷ more) ≡ (trees ++ tree ∷ []) ++ more
more_of [] more tree = refl
more_of (t ∷ trees) more tree = ap (λ (ts : List Tree). t ∷ ts) (more_of trees more tree)

none_more : (trees : List Tree) → trees ++ [] ≡ trees
none_more [] = refl
none_more (t ∷ trees) = ap (λ (ts : List Tree). t ∷ ts) (none_more trees)

module _ (is_dirty : Bool) (all left rest : List (List ℕ)) (file : List ℕ) (trees : List Tree) (first_told told told_between : Option (List ℕ))
    (first_failed failed failed_between : Option ℕ) (is : left ≡ file ∷ rest)
    (goes : Goes is_dirty all left trees first_told told first_failed failed) where
  -- one more was read
  module _ (tree : Tree) (reads : ReadsFile is_dirty file tree told told_between failed failed_between) where
    here : (more : List Tree) (told_after : Option (List ℕ)) (now_failed : Option ℕ) →
        ReadsEach is_dirty rest more told_between told_after failed_between now_failed →
        ReadsEach is_dirty left (tree ∷ more) told told_after failed now_failed
    here more told_after now_failed h =
        let behind = subst (λ t. ReadsEach is_dirty rest more t told_after reads.3 now_failed) reads.5.1
        (subst (λ f. ReadsEach is_dirty rest more told_between told_after f now_failed) reads.5.2 h) in
        subst (λ (files : List (List ℕ)). ReadsEach is_dirty files (tree ∷ more) told told_after failed now_failed) (sym is)
        (reads.0, reads.1, reads.2, reads.3, reads.4, (reads.5.0, behind))

    missed_here : (told_after : Option (List ℕ)) (now_failed : Option ℕ) → MissesOne is_dirty rest told_between told_after failed_between now_failed →
        MissesOne is_dirty left told told_after failed now_failed
    missed_here told_after now_failed h =
        let behind = subst (λ t. MissesOne is_dirty rest t told_after reads.3 now_failed) reads.5.1
        (subst (λ f. MissesOne is_dirty rest told_between told_after f now_failed) reads.5.2 h) in
        subst (λ (files : List (List ℕ)). MissesOne is_dirty files told told_after failed now_failed) (sym is)
        (inr (reads.0, reads.1, reads.2, reads.3, reads.4, ((tree, reads.5.0), behind)))

    pub goes_on : Goes is_dirty all rest (trees ++ tree ∷ []) first_told told_between first_failed failed_between
    goes_on = record {
      reads = λ more told_after now_failed h.
          subst (λ (ts : List Tree). ReadsEach is_dirty all ts first_told told_after first_failed now_failed) (more_of trees more tree)
          (goes.reads (tree ∷ more) told_after now_failed (here more told_after now_failed h));
      misses = λ told_after now_failed h. goes.misses told_after now_failed (missed_here told_after now_failed h);
    }

  -- it wasn't
  pub missed : MissesTree is_dirty file told told_between failed failed_between →
      MissesOne is_dirty all first_told told_between first_failed failed_between
  missed h =
      goes.misses told_between failed_between
      (subst (λ (files : List (List ℕ)). MissesOne is_dirty files told told_between failed failed_between) (sym is) (inl h))

-- none is left
pub ends : (is_dirty : Bool) (all left : List (List ℕ)) (trees : List Tree) (first_told told : Option (List ℕ)) (first_failed failed : Option ℕ) →
    left ≡ [] → Goes is_dirty all left trees first_told told first_failed failed → ReadsEach is_dirty all trees first_told told first_failed failed
ends is_dirty all left trees first_told told first_failed failed is goes =
    let none = subst (λ (files : List (List ℕ)). ReadsEach is_dirty files [] told told failed failed) (sym is) (refl, refl) in
    subst (λ (ts : List Tree). ReadsEach is_dirty all ts first_told told first_failed failed) (none_more trees) (goes.reads [] told failed none)

-- how far it went
pub record IsAt (is_dirty : Bool) (all left : List (List ℕ)) (timeline : Timeline) (from to : ℕ) (first_told told : Option (List ℕ))
    (first_failed failed : Option ℕ) : Type 0 where
  pub trees : List Tree
  pub goes : Goes is_dirty all left trees first_told told first_failed failed
  pub gathered : IsGathered timeline trees from to

pub starts : (is_dirty : Bool) (all : List (List ℕ)) (timeline : Timeline) (from to : ℕ) (told : Option (List ℕ)) (failed : Option ℕ) →
    IsGathered timeline [] from to → IsAt is_dirty all all timeline from to told told failed failed
starts is_dirty all timeline from to told failed h = record { trees = []; goes = begins is_dirty all told failed; gathered = h }

-- one file more was gathered
pub goes_far : (is_dirty : Bool) (all left rest : List (List ℕ)) (file : List ℕ) (timeline more : Timeline) (from to : ℕ)
    (first_told told told_between : Option (List ℕ)) (first_failed failed failed_between : Option ℕ) → left ≡ file ∷ rest →
    (at : IsAt is_dirty all left timeline from to first_told told first_failed failed) →
    (tree : Tree) × ReadsFile is_dirty file tree told told_between failed failed_between × IsGathered more (at.trees ++ tree ∷ []) from to →
    IsAt is_dirty all rest more from to first_told told_between first_failed failed_between
goes_far is_dirty all left rest file timeline more from to first_told told told_between first_failed failed failed_between is at h = record {
  trees = at.trees ++ h.0 ∷ [];
  goes = goes_on is_dirty all left rest file at.trees first_told told told_between first_failed failed failed_between is at.goes h.0 h.1;
  gathered = h.2;
}
