-- Texts that are put for those of files, one place after another.
use Rattle.std.proofs.Common.{◌≡◌, ℕ, zero, suc, ◌+◌, ◌<◌, List, [], ◌∷◌, ◌++◌, length, get_or, take, drop, String, Global, string_bytes, refl, sym, ap, ◌∙◌, arith, append_assoc, drop-cons, slice_set}
use Rattle.std.proofs.lemmas.List.{length-take-le}
use Rattle.proto_base.proofs.Common.{Vec, get_or-map, length-map, take_more}
use Rattle.proto_base.specs.GivenFiles.{FileOf, file_of_as, files_of_as}
use Rattle.proto_base.specs.Texts.{Path, Text}
use Rattle.proto_base.specs.declared.profile.Profile.{Profile}
use Rattle.proto_edit_entries.specs.Putting.{with_texts}
use Rattle.proto_files.specs.GivenFiles.{file_at}

-- the files with another text at a place
abbrev pub set_text : List FileOf → ℕ → Text → List FileOf
set_text files p t = slice_set files p (record (file_at files p) { bytes = t })

-- one text more
pub with_texts_more : (files : List FileOf) (ps : List ℕ) (ts : List Text) (p : ℕ) (t : Text) → length ts ≡ length ps
    → with_texts files (ps ++ p ∷ []) (ts ++ t ∷ []) ≡ set_text (with_texts files ps ts) p t
with_texts_more files [] [] p t e = refl
with_texts_more files [] (u ∷ ts) p t e = absurd (omega (arith, e))
with_texts_more files (q ∷ ps) [] p t e = absurd (omega (arith, e))
with_texts_more files (q ∷ ps) (u ∷ ts) p t e = with_texts_more (set_text files q u) ps ts p t (omega (arith, e))

abbrev made : Path → Text → Profile → FileOf
made path bytes profile = record { path = path; bytes = bytes; profile = profile }

-- the next file gets the text, between those that have theirs and those that keep their own
pub set_next : (i : ℕ) (before behind : List FileOf) (f g : FileOf) → length before ≡ i → g.path ≡ f.path → g.profile ≡ f.profile
    → set_text (before ++ f ∷ behind) i g.bytes ≡ before ++ g ∷ behind
set_next zero [] behind f g len same also =
    ap (λ (p : Path). made p g.bytes f.profile ∷ behind) (sym same) ∙ ap (λ (p : Profile). made g.path g.bytes p ∷ behind) (sym also)
set_next zero (x ∷ before) behind f g len same also = absurd (omega (arith, len))
set_next (suc i) [] behind f g len same also = absurd (omega (arith, len))
set_next (suc i) (x ∷ before) behind f g len same also = ap (λ (fs : List FileOf). x ∷ fs) (set_next i before behind f g (omega (arith, len)) same also)

-- a file is what a path and bytes give
pub is_given : (p : Profile) (f : FileOf) (x : String Global × Vec ℕ) → f.path ≡ string_bytes x.0 → f.profile ≡ p → f.bytes ≡ x.1.items → f ≡ file_of_as p x
is_given p f x path profile bytes =
    ap (λ (q : Path). made q f.bytes f.profile) path
    ∙ ap (λ (b : Text). made (string_bytes x.0) b f.profile) bytes
    ∙ ap (λ (l : Profile). made (string_bytes x.0) x.1.items l) profile

-- ---- one file more

module _ (p : Profile) (w : List FileOf) (xs : List (String Global × Vec ℕ)) (i : ℕ) (x : String Global × Vec ℕ) (f : FileOf) (l : i < length w) (m : i < length xs) (at : x ≡ get_or xs i x) (here : f ≡ get_or w i f) where
  parted : drop i w ≡ f ∷ drop (i + 1) w
  parted =
      let next : suc i ≡ i + 1 = omega arith in
      drop-cons w i f l
      ∙ ap (λ (g : FileOf). g ∷ drop (suc i) w) (sym here)
      ∙ ap (λ (n : ℕ). f ∷ drop n w) next

  grown : take (i + 1) (files_of_as p xs) ≡ take i (files_of_as p xs) ++ file_of_as p x ∷ []
  grown =
      let len = length-map xs (file_of_as p) in
      take_more (files_of_as p xs) i (file_of_as p x) (omega (arith, m, len))
      ∙ ap (λ (g : FileOf). take i (files_of_as p xs) ++ g ∷ []) (get_or-map (file_of_as p) xs i x (file_of_as p x) m ∙ ap (file_of_as p) (sym at))

  joined : take i (files_of_as p xs) ++ file_of_as p x ∷ drop (i + 1) w ≡ take (i + 1) (files_of_as p xs) ++ drop (i + 1) w
  joined =
      sym (append_assoc (take i (files_of_as p xs)) (file_of_as p x ∷ []) (drop (i + 1) w))
      ∙ ap (λ (gs : List FileOf). gs ++ drop (i + 1) w) (sym grown)

  -- it is as it was
  pub kept_more : f ≡ file_of_as p x → take i (files_of_as p xs) ++ drop i w ≡ take (i + 1) (files_of_as p xs) ++ drop (i + 1) w
  kept_more same =
      ap (λ (gs : List FileOf). take i (files_of_as p xs) ++ gs) (parted ∙ ap (λ (g : FileOf). g ∷ drop (i + 1) w) same)
      ∙ joined

  -- or its text is another
  pub set_more : (ps : List ℕ) (ts : List Text) → length ts ≡ length ps → with_texts w ps ts ≡ take i (files_of_as p xs) ++ drop i w → (file_of_as p x).path ≡ f.path → (file_of_as p x).profile ≡ f.profile
      → with_texts w (ps ++ i ∷ []) (ts ++ (file_of_as p x).bytes ∷ []) ≡ take (i + 1) (files_of_as p xs) ++ drop (i + 1) w
  set_more ps ts paired whole path profile =
      let len = length-map xs (file_of_as p) in
      with_texts_more w ps ts i (file_of_as p x).bytes paired
      ∙ ap (λ (gs : List FileOf). set_text gs i (file_of_as p x).bytes) (whole ∙ ap (λ (gs : List FileOf). take i (files_of_as p xs) ++ gs) parted)
      ∙ set_next i (take i (files_of_as p xs)) (drop (i + 1) w) f (file_of_as p x) (length-take-le i (files_of_as p xs) (omega (arith, m, len))) path profile
      ∙ joined
