-- Files that are seen, in each language.
use Rattle.std.proofs.Common.{◌≡◌, ℕ, List, [], ◌∷◌, map, String, Global, refl, sym, ap, ◌∙◌}
use Rattle.std.specs.Cmp.Lexicographic.{slice_cmp}
use Rattle.std.specs.Ordering.{match_ordering, nat_cmp}
use Rattle.proto_base.proofs.Common.{All-cons, All-nil, Equal, Greater, Less, Ordering, Vec}
use Rattle.proto_base.specs.GivenFiles.{AreInLanguage, FileOf, file_of_as, files_of, files_of_as}
use Rattle.proto_base.specs.declared.profile.Profile.{Profile}
use Rattle.proto_base.specs.declared.profile.Profile.TheVariants.{Core}
use Rattle.proto_session_files.specs.Views.{OpenOf, laid, open_file, seen_over}

-- a file, of another language
abbrev pub with_profile : Profile → FileOf → FileOf
with_profile p f = record f { profile = p }

pub all_with : (p : Profile) (given : List (String Global × Vec ℕ)) → files_of_as p given ≡ map (with_profile p) (files_of given)
all_with p [] = refl
all_with p (f ∷ given) = ap (λ (files : List FileOf). file_of_as p f ∷ files) (all_with p given)

-- files that are the same in the core language are the same in each
pub same_given : (p : Profile) (a b : List (String Global × Vec ℕ)) → files_of a ≡ files_of b → files_of_as p a ≡ files_of_as p b
same_given p a b e = all_with p a ∙ ap (map (with_profile p)) e ∙ sym (all_with p b)

-- they are all of it
pub all_in : (p : Profile) (given : List (String Global × Vec ℕ)) → AreInLanguage p (files_of_as p given)
all_in p [] = All-nil (λ f. f.profile ≡ p)
all_in p (x ∷ given) = All-cons (λ f. f.profile ≡ p) (file_of_as p x) (files_of_as p given) refl (all_in p given)

laid_with : (p : Profile) (f : FileOf) (gs : List FileOf) → map (with_profile p) (laid f gs) ≡ laid (with_profile p f) (map (with_profile p) gs)
laid_with p f [] = refl
laid_with p f (g ∷ gs) = go (slice_cmp nat_cmp f.path g.path) (laid_with p f gs)
  where
    go : (o : Ordering) → map (with_profile p) (laid f gs) ≡ laid (with_profile p f) (map (with_profile p) gs)
        → map (with_profile p) (match_ordering o (f ∷ g ∷ gs) (f ∷ gs) (g ∷ laid f gs))
        ≡ match_ordering o (with_profile p f ∷ with_profile p g ∷ map (with_profile p) gs) (with_profile p f ∷ map (with_profile p) gs) (with_profile p g ∷ laid (with_profile p f) (map (with_profile p) gs))
    go Less e = refl
    go Equal e = refl
    go Greater e = ap (λ (fs : List FileOf). with_profile p g ∷ fs) e

seen_with : (p : Profile) (disk : List FileOf) (os : List OpenOf) → map (with_profile p) (seen_over Core disk os) ≡ seen_over p (map (with_profile p) disk) os
seen_with p disk [] = refl
seen_with p disk (o ∷ os) = seen_with p (laid (open_file Core o) disk) os ∙ ap (λ (fs : List FileOf). seen_over p fs os) (laid_with p (open_file Core o) disk)

-- what is seen in the core language is seen in each
pub seen_in : (p : Profile) (files disk : List (String Global × Vec ℕ)) (os : List OpenOf) → files_of files ≡ seen_over Core (files_of disk) os → files_of_as p files ≡ seen_over p (files_of_as p disk) os
seen_in p files disk os e =
    all_with p files
    ∙ ap (map (with_profile p)) e
    ∙ seen_with p (files_of disk) os
    ∙ ap (λ (fs : List FileOf). seen_over p fs os) (sym (all_with p disk))
