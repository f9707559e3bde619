-- The files that are not as they were, one after another.
use Rattle.std.proofs.Common.{◌≡◌, ◌⊎◌, ◌+◌, ◌<◌, ◌≤◌, ◌++◌, ℕ, List, [], ◌∷◌, All, Contains, String, Global, get_or, length, map, take, take_all, refl, sym, ap, ◌∙◌, subst, inl, inr}
use Rattle.proto_base.proofs.Common.{All-append, All-cons, All-nil, All-weaker, Contains-append_left, Contains-append_right, Contains-get_or, FileOf, Path, Text, Vec, contains_head, contains_map, map-append, map_more, paths_of}
use Rattle.proto_base.specs.GivenFiles.{file_of, file_of_as, files_of, files_of_as}
use Rattle.proto_base.specs.declared.profile.Profile.{Profile}
use Rattle.proto_files.specs.GivenFiles.{file_at, no_file}
use Rattle.proto_session_files.specs.Changed.{AreChanged}

abbrev Given : Type 0
Given = String Global × Vec ℕ

-- ---- in each language

abbrev with_profile : Profile → FileOf → FileOf
with_profile p f = record f { profile = p }

all_with : (p : Profile) (given : List Given) → files_of_as p given ≡ map (with_profile p) (files_of given)
all_with p [] = refl
all_with p (f ∷ given) = ap (λ (files : List FileOf). file_of_as p f ∷ files) (all_with p given)

-- one file more in the core language is one more in each
pub pushed_in : (p : Profile) (old new : List Given) (x : Given) → files_of new ≡ files_of old ++ file_of x ∷ [] → files_of_as p new ≡ files_of_as p old ++ file_of_as p x ∷ []
pushed_in p old new x e =
    all_with p new
    ∙ (ap (map (with_profile p)) e
    ∙ (map-append (with_profile p) (files_of old) (file_of x ∷ [])
    ∙ ap (λ (fs : List FileOf). fs ++ file_of_as p x ∷ []) (sym (all_with p old))))

abbrev made : Path → Text → Profile → FileOf
made path bytes profile = record { path = path; bytes = bytes; profile = profile }

-- a file with the path, the bytes and the language of another
same_file : (f g : FileOf) → f.path ≡ g.path → f.bytes ≡ g.bytes → f.profile ≡ g.profile → f ≡ g
same_file f g path bytes profile =
    ap (λ (q : Path). made q f.bytes f.profile) path
    ∙ (ap (λ (t : Text). made g.path t f.profile) bytes
    ∙ ap (λ (l : Profile). made g.path g.bytes l) profile)

-- ---- one after another

-- the first files, and those of them that are not as they were
pub record ChangedSoFar (p : Profile) (clean : List FileOf) (files : List Given) (i : ℕ) (changed : List FileOf) : Type 0 where
  pub paths : paths_of (files_of_as p (take i files)) ≡ paths_of (take i clean)
  pub within : All (Contains (files_of_as p files)) changed
  pub others : All (λ f. Contains clean f ⊎ Contains changed f) (files_of_as p (take i files))

pub changed_none : (p : Profile) (clean : List FileOf) (files : List Given) (changed : List FileOf) → changed ≡ [] → ChangedSoFar p clean files 0 changed
changed_none p clean files changed none = record {
  paths = refl;
  within = subst (All (Contains (files_of_as p files))) (sym none) (All-nil (Contains (files_of_as p files)));
  others = All-nil (λ f. Contains clean f ⊎ Contains changed f);
}

abbrev OneMore : List FileOf → FileOf → List FileOf → List FileOf → ℕ → Type 0
OneMore clean f old new i = ((new ≡ old) × (f ≡ file_at clean i)) ⊎ (new ≡ old ++ f ∷ [])

module _ (p : Profile) (clean : List FileOf) (files : List Given) (i : ℕ) (x : Given) (l : i < length clean) (m : i < length files) (at : x ≡ get_or files i x) (same : (file_of_as p x).path ≡ (file_at clean i).path) where
  longer : files_of_as p (take (i + 1) files) ≡ files_of_as p (take i files) ++ file_of_as p x ∷ []
  longer = map_more (file_of_as p) files i x m ∙ ap (λ (z : Given). files_of_as p (take i files) ++ file_of_as p z ∷ []) (sym at)

  paths_more : paths_of (files_of_as p (take i files)) ≡ paths_of (take i clean) → paths_of (files_of_as p (take (i + 1) files)) ≡ paths_of (take (i + 1) clean)
  paths_more before =
      ap paths_of longer
      ∙ (map-append (λ (f : FileOf). f.path) (files_of_as p (take i files)) (file_of_as p x ∷ [])
      ∙ (ap (λ (ps : List Path). ps ++ (file_of_as p x).path ∷ []) before
      ∙ (ap (λ (q : Path). paths_of (take i clean) ++ q ∷ []) same
      ∙ sym (map_more (λ (f : FileOf). f.path) clean i no_file l))))

  pub changed_more : (old new : List FileOf) → OneMore clean (file_of_as p x) old new i → ChangedSoFar p clean files i old → ChangedSoFar p clean files (i + 1) new
  changed_more old new (inl kept) before = record {
    paths = paths_more before.paths;
    within = subst (All (Contains (files_of_as p files))) (sym kept.0) before.within;
    others =
        subst (All (λ f. Contains clean f ⊎ Contains new f)) (sym longer)
        (All-append (λ f. Contains clean f ⊎ Contains new f) (files_of_as p (take i files)) (file_of_as p x ∷ [])
        (subst (λ (cs : List FileOf). All (λ f. Contains clean f ⊎ Contains cs f) (files_of_as p (take i files))) (sym kept.0) before.others)
        (All-cons (λ f. Contains clean f ⊎ Contains new f) (file_of_as p x) [] (inl (subst (Contains clean) (sym kept.1) (Contains-get_or clean i no_file l))) (All-nil (λ f. Contains clean f ⊎ Contains new f))));
  }
  changed_more old new (inr grown) before = record {
    paths = paths_more before.paths;
    within =
        subst (All (Contains (files_of_as p files))) (sym grown)
        (All-append (Contains (files_of_as p files)) old (file_of_as p x ∷ []) before.within (All-cons (Contains (files_of_as p files)) (file_of_as p x) [] (contains_map (file_of_as p) files x (i, m, sym at)) (All-nil (Contains (files_of_as p files)))));
    others =
        subst (All (λ f. Contains clean f ⊎ Contains new f)) (sym longer)
        (All-append (λ f. Contains clean f ⊎ Contains new f) (files_of_as p (take i files)) (file_of_as p x ∷ [])
        (All-weaker (λ f. Contains clean f ⊎ Contains old f) (λ f. Contains clean f ⊎ Contains new f) still (files_of_as p (take i files)) before.others)
        (All-cons (λ f. Contains clean f ⊎ Contains new f) (file_of_as p x) [] (inr (subst (λ (cs : List FileOf). Contains cs (file_of_as p x)) (sym grown) (Contains-append_right old (file_of_as p x ∷ []) (file_of_as p x) (contains_head (file_of_as p x) [])))) (All-nil (λ f. Contains clean f ⊎ Contains new f))));
  }
    where
      still : (f : FileOf) → Contains clean f ⊎ Contains old f → Contains clean f ⊎ Contains new f
      still f (inl c) = inl c
      still f (inr c) = inr (subst (λ (cs : List FileOf). Contains cs f) (sym grown) (Contains-append_left old (file_of_as p x ∷ []) f c))

pub changed_all : (p : Profile) (clean : List FileOf) (files : List Given) (i : ℕ) (changed : List FileOf) → length clean ≤ i → length files ≤ i → ChangedSoFar p clean files i changed → AreChanged clean (files_of_as p files) changed
changed_all p clean files i changed l m so_far = record {
  paths = ap (λ (fs : List Given). paths_of (files_of_as p fs)) (sym (take_all i files m)) ∙ (so_far.paths ∙ ap paths_of (take_all i clean l));
  within = so_far.within;
  others = subst (λ (fs : List Given). All (λ f. Contains clean f ⊎ Contains changed f) (files_of_as p fs)) (take_all i files m) so_far.others;
}

-- what a file adds: nothing, where it is as it was
pub added_in : (p : Profile) (clean : List FileOf) (x : Given) (i : ℕ) (old new : List Given) → (file_of_as p x).path ≡ (file_at clean i).path → (file_of_as p x).profile ≡ (file_at clean i).profile
    → (((new ≡ old) × ((file_of x).bytes ≡ (file_at clean i).bytes)) ⊎ (files_of new ≡ files_of old ++ file_of x ∷ [])) → OneMore clean (file_of_as p x) (files_of_as p old) (files_of_as p new) i
added_in p clean x i old new path profile (inl kept) = inl (ap (files_of_as p) kept.0, same_file (file_of_as p x) (file_at clean i) path kept.1 profile)
added_in p clean x i old new path profile (inr grown) = inr (pushed_in p old new x grown)
