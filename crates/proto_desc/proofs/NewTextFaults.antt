-- The first of the new texts with a fault has the least fault of the files with these texts.
use Rattle.std.proofs.Common.{◌≡◌, ℕ, zero, suc, ◌<◌, List, [], ◌∷◌, length, map, get_or, refl, sym, ap, ◌∙◌, subst, inl, inr, arith, Contains}
use Rattle.proto_base.proofs.Common.{get_or-map, get_or_default, length-map}
use Rattle.proto_base.specs.declared.fault.FaultKind.{FaultKind}
use Rattle.proto_base.specs.declared.fault.SchemaFault.{SchemaFault}
use Rattle.proto_base.specs.declared.fault.SchemaFault.TheVariants.{Schema, NoMemory}
use Rattle.proto_files.proofs.Common.{FaultAt, fault_at, HasNoFault, IsFilesError, FileOf, file_at, AreWorkspaceFiles, IsTextFault, IsGrammarFault, ReadFaults}
use Rattle.proto_files.specs.ReadFaults.{FaultsOf, TextFaults, GrammarFaults}
use Rattle.proto_files.specs.Reading.{HasNone, IsOnlyFault, IsFirstFault, IsFirstError}
use Rattle.proto_files.proofs.FaultOrder.{least_of_second}
use Rattle.proto_files.proofs.LeastOfFiles.{first_is_least, grammar_phase, least_text}
use Rattle.proto_files.proofs.Members.{Member, Contains-from_member, member_at}
use Rattle.proto_desc.specs.NewTexts.{TextAt, file_with, with_all}
use Rattle.proto_desc.proofs.WithTexts.{AreInPlace, each_has, file_has, file_stays, length-with_all, place_cases, workspace_stays}
use Rattle.proto_files.specs.GivenFiles.{no_file}

-- ---- files without a fault of a phase

pub none_of_file : (says : FileOf → ℕ → FaultKind → Type 0) (files : List FileOf) → HasNoFault (FaultsOf says files) → (k : ℕ) → k < length files → HasNone says (file_at files k)
none_of_file says files clean k l offset kind is =
    clean (record { path = (file_at files k).path; offset = offset; kind = kind })
    (file_at files k, (k, l, get_or_default files k (file_at files k) no_file l), refl, is)

pub none_of_files : (says : FileOf → ℕ → FaultKind → Type 0) (files : List FileOf) → ((k : ℕ) → k < length files → HasNone says (file_at files k)) → HasNoFault (FaultsOf says files)
none_of_files says files none y f =
    none f.1.0 f.1.1 y.offset y.kind
    (subst (λ (g : FileOf). says g y.offset y.kind) (sym f.1.2 ∙ get_or_default files f.1.0 f.0 no_file f.1.1) f.3)

-- ---- the first text with a fault

-- a text at a lower place is an earlier one
earlier : (n : ℕ) (ts : List TextAt) → AreInPlace n ts → (i j : ℕ) (d : TextAt) → i < length ts → j < length ts → (get_or ts j d).place < (get_or ts i d).place → j < i
earlier n [] h i j d l m lt = absurd (omega (arith, l))
earlier n (t ∷ ts) h zero zero d l m lt = absurd (omega (arith, lt))
earlier n (t ∷ ts) h zero (suc j) d l m lt =
    let up : t.place < (get_or ts j d).place = h.1 (get_or ts j d) (member_at ts j d (omega (arith, m))) in
    let down : (get_or ts j d).place < t.place = lt in
    absurd (omega (arith, up, down))
earlier n (t ∷ ts) h (suc i) zero d l m lt = omega arith
earlier n (t ∷ ts) h (suc i) (suc j) d l m lt =
    let before : j < i = earlier n ts h.2 i j d (omega (arith, l)) (omega (arith, m)) lt in omega (arith, before)

module _ (files : List FileOf) (ts : List TextAt) (h : AreInPlace (length files) ts) where
  abbrev after : List FileOf
  after = with_all files ts

  abbrev given : List FileOf
  given = map (λ (t : TextAt). file_with files t) ts

  no_text : TextAt
  no_text = record { place = 0; text = [] }

  given_at : (j : ℕ) → j < length ts → file_at given j ≡ file_with files (get_or ts j no_text)
  given_at j l = get_or-map (λ (t : TextAt). file_with files t) ts j no_text no_file l

  member_of : (j : ℕ) → j < length ts → Member (get_or ts j no_text) ts
  member_of j l = member_at ts j no_text l

  place_within : (us : List TextAt) → AreInPlace (length files) us → (t : TextAt) → Member t us → t.place < length files
  place_within [] are t m = absurd m
  place_within (u ∷ us) are t (inl e) = subst (λ (x : TextAt). x.place < length files) e are.0
  place_within (u ∷ us) are t (inr m) = place_within us are.2 t m

  pub first_fault : (says : FileOf → ℕ → FaultKind → Type 0) (x : FaultAt) → ((k : ℕ) → k < length files → HasNone says (file_at files k)) → IsFirstFault says given x → IsFirstFault says after x
  first_fault says x clean first =
      record {
        place = t.place;
        within = omega (arith, inside, length-with_all files ts);
        none_before = none_before;
        is_only = subst (λ (f : FileOf). IsOnlyFault says f x) (given_at i at ∙ sym (file_has files ts h t (member_of i at))) first.is_only;
      }
    where
      i : ℕ
      i = first.place

      at : i < length ts
      at = omega (arith, first.within, length-map ts (λ (t : TextAt). file_with files t))

      t : TextAt
      t = get_or ts i no_text

      inside : t.place < length files
      inside = place_within ts h t (member_of i at)

      of_text : (k : ℕ) → k < t.place → (u : TextAt) → Member u ts → k ≡ u.place → HasNone says (file_at after k)
      of_text k lt u m e =
          let c : Contains ts u = Contains-from_member u ts m in
          let j : ℕ = c.0 in
          let there : get_or ts j no_text ≡ u = get_or_default ts j no_text u c.1 ∙ c.2 in
          let low : (get_or ts j no_text).place < t.place = subst (λ (v : TextAt). v.place < t.place) (sym there) (subst (λ (n : ℕ). n < t.place) e lt) in
          let before : j < i = earlier (length files) ts h i j no_text at c.1 low in
          subst (λ (n : ℕ). HasNone says (file_at after n)) (sym e)
          (subst (HasNone says) (given_at j c.1 ∙ ap (λ (v : TextAt). file_with files v) there ∙ sym (file_has files ts h u m)) (first.none_before j before))

      none_before : (k : ℕ) → k < t.place → HasNone says (file_at after k)
      none_before k lt = elim (place_cases k ts) [
        | inl found ↦ of_text k lt found.0 found.1 found.2
        | inr none ↦ subst (HasNone says) (sym (file_stays files ts k no_file none)) (clean k (omega (arith, lt, inside)))
      ]

  -- ---- what is answered

  module _ (workspace : AreWorkspaceFiles files) (clean : HasNoFault (ReadFaults files)) where
    pub text_error : (e : SchemaFault) → IsFirstError IsTextFault given e → IsFilesError (ReadFaults after) e
    text_error NoMemory first = tt
    text_error (Schema fault) first =
        least_text after after refl (workspace_stays files ts h workspace) (Schema fault)
        (first_fault IsTextFault (fault_at fault) (none_of_file IsTextFault files (λ y f. clean y (inl f))) first)

    pub grammar_error : ((t : TextAt) → Member t ts → HasNone IsTextFault (file_with files t)) → (e : SchemaFault) → IsFirstError IsGrammarFault given e → IsFilesError (ReadFaults after) e
    grammar_error lexed NoMemory first = tt
    grammar_error lexed (Schema fault) first =
        least_of_second (TextFaults after) (GrammarFaults after) (fault_at fault)
        (none_of_files IsTextFault after (each_has (HasNone IsTextFault) files ts h (none_of_file IsTextFault files (λ y f. clean y (inl f))) lexed))
        (first_is_least IsGrammarFault 2 grammar_phase after (fault_at fault) (workspace_stays files ts h workspace)
        (first_fault IsGrammarFault (fault_at fault) (none_of_file IsGrammarFault files (λ y f. clean y (inr f))) first))
