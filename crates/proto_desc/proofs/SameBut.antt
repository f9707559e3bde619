-- Files with other texts at some places are those of before, but at these places (for the crates above).
use Rattle.std.proofs.Common.{◌≡◌, ℕ, zero, suc, List, [], ◌∷◌, length, refl, sym, ◌∙◌, ap, subst, slice_set, length-set, Contains}
use Rattle.std.proofs.lemmas.List.{get_or-set_other}
use Rattle.proto_base.proofs.Common.{Text, contains_head, contains_later}
use Rattle.proto_files.proofs.Common.{FileOf}
use Rattle.proto_files.specs.GivenFiles.{file_at, paths_of}
use Rattle.proto_edit_entries.specs.Putting.{with_texts}
use Rattle.proto_names_update.specs.Edited.{AreSameBut}
use Rattle.proto_files.specs.GivenFiles.{no_file}

abbrev given : List FileOf → ℕ → Text → FileOf
given files p t = record (file_at files p) { bytes = t }

path_stands : (files : List FileOf) (p : ℕ) (t : Text) → paths_of (slice_set files p (given files p t)) ≡ paths_of files
path_stands [] p t = refl
path_stands (f ∷ files) zero t = refl
path_stands (f ∷ files) (suc p) t = ap (λ z. f.path ∷ z) (path_stands files p t)

pub paths_stand : (files : List FileOf) (ps : List ℕ) (ts : List Text) → paths_of files ≡ paths_of (with_texts files ps ts)
paths_stand files [] ts = refl
paths_stand files (p ∷ ps) [] = refl
paths_stand files (p ∷ ps) (t ∷ ts) = sym (path_stands files p t) ∙ paths_stand (slice_set files p (given files p t)) ps ts

pub length_stands : (files : List FileOf) (ps : List ℕ) (ts : List Text) → length (with_texts files ps ts) ≡ length files
length_stands files [] ts = refl
length_stands files (p ∷ ps) [] = refl
length_stands files (p ∷ ps) (t ∷ ts) = length_stands (slice_set files p (given files p t)) ps ts ∙ length-set files p (given files p t)

other_stands : (files : List FileOf) (ps : List ℕ) (ts : List Text) (k : ℕ) → (Contains ps k → ⊥) → file_at files k ≡ file_at (with_texts files ps ts) k
other_stands files [] ts k none = refl
other_stands files (p ∷ ps) [] k none = refl
other_stands files (p ∷ ps) (t ∷ ts) k none =
    sym (get_or-set_other files p k (given files p t) no_file (λ e. none (head e)))
    ∙ other_stands (slice_set files p (given files p t)) ps ts k (λ c. none (contains_later p k ps c))
  where
    head : k ≡ p → Contains (p ∷ ps) k
    head e = subst (Contains (p ∷ ps)) (sym e) (contains_head p ps)

pub same_but : (files : List FileOf) (ps : List ℕ) (ts : List Text) (new : List FileOf) → new ≡ with_texts files ps ts → AreSameBut ps files new
same_but files ps ts new is = record {
  paths = paths_stand files ps ts ∙ ap paths_of (sym is);
  others = λ k l none. other_stands files ps ts k none ∙ ap (λ (fs : List FileOf). file_at fs k) (sym is);
}
