-- Texts as they are read, one after the other.
use Rattle.std.proofs.Common.{◌≡◌, ℕ, suc, ◌<◌, ◌≤◌, List, [], ◌∷◌, ◌++◌, length, map, get_or, sym, ap, ◌∙◌, subst, inl, inr, arith, All, AllPairs}
use Rattle.proto_base.proofs.Common.{Text, get_or-map, length-map, map-map, map_push}
use Rattle.proto_base.specs.declared.fault.SchemaFault.{SchemaFault}
use Rattle.proto_files.proofs.Common.{FileOf, AreWorkspaceFiles, HasNoFault, IsFilesError, IsGrammarFault, IsTextFault, ReadFaults}
use Rattle.proto_files.proofs.FirstErrors.{NoneOf}
use Rattle.proto_files.proofs.Members.{Member, member_at}
use Rattle.proto_files.specs.Reading.{HasNone, IsFirstError}
use Rattle.proto_edit_entries.specs.Putting.{with_texts}
use Rattle.proto_desc.specs.NewTexts.{IsLexedText, IsParsedText, TextAt, file_with, lexed_text, read_text, texts_at, with_all}
use Rattle.proto_desc.specs.declared.texts.LexedText.{LexedText}
use Rattle.proto_desc.specs.declared.texts.ReadText.{ReadText}
use Rattle.proto_desc.specs.Opening.{IsOpenError}
use Rattle.proto_desc.proofs.GivenInOrder.{reading_error}
use Rattle.proto_desc.proofs.NewTextFaults.{grammar_error, text_error}
use Rattle.proto_desc.proofs.WithTexts.{AreInPlace, few_places, in_place, length-texts_at, with_texts_at, workspace_stays}

-- the files that have these texts
abbrev pub files_with : {X : Type 0} → List FileOf → (X → TextAt) → List X → List FileOf
files_with files v xs = map (λ x. file_with files (v x)) xs

pub files_same : {X Y : Type 0} (files : List FileOf) (v : X → TextAt) (w : Y → TextAt) (xs : List X) (ys : List Y) → map v xs ≡ map w ys → files_with files v xs ≡ files_with files w ys
files_same files v w xs ys e =
    sym (map-map (λ (t : TextAt). file_with files t) v xs) ∙ ap (map (λ (t : TextAt). file_with files t)) e ∙ map-map (λ (t : TextAt). file_with files t) w ys

-- a turn of a loop adds the same text to what is done and to what was given
pub text_push : {X Y : Type 0} (v : X → TextAt) (w : Y → TextAt) (xs news : List X) (ys : List Y) (x : X) (y : Y) → news ≡ xs ++ x ∷ [] → map v xs ≡ map w ys → v x ≡ w y → map v news ≡ map w (ys ++ y ∷ [])
text_push v w xs news ys x y is same at =
    ap (map v) is ∙ map_push v xs x ∙ ap (λ (ts : List TextAt). ts ++ v x ∷ []) same ∙ ap (λ (t : TextAt). map w ys ++ t ∷ []) at ∙ sym (map_push w ys y)

-- no text that was read so far has a fault
pub none_lexed : (files : List FileOf) (ls : List LexedText) → All (IsLexedText files) ls → NoneOf IsTextFault (files_with files lexed_text ls)
none_lexed files [] h f m = absurd m
none_lexed files (l ∷ ls) h f (inl e) = subst (HasNone IsTextFault) e (h 0 l (omega arith)).no_fault
none_lexed files (l ∷ ls) h f (inr m) = none_lexed files ls (λ k d lt. h (suc k) d (omega (arith, lt))) f m

pub none_parsed : (files : List FileOf) (rs : List ReadText) → All (IsParsedText files) rs → NoneOf IsGrammarFault (files_with files read_text rs)
none_parsed files [] h f m = absurd m
none_parsed files (r ∷ rs) h f (inl e) = subst (HasNone IsGrammarFault) e (h 0 r (omega arith)).no_fault
none_parsed files (r ∷ rs) h f (inr m) = none_parsed files rs (λ k d lt. h (suc k) d (omega (arith, lt))) f m

none_of_text : (files : List FileOf) (ls : List LexedText) → All (IsLexedText files) ls → (t : TextAt) → Member t (map lexed_text ls) → HasNone IsTextFault (file_with files t)
none_of_text files [] h t m = absurd m
none_of_text files (l ∷ ls) h t (inl e) = subst (λ (u : TextAt). HasNone IsTextFault (file_with files u)) e (h 0 l (omega arith)).no_fault
none_of_text files (l ∷ ls) h t (inr m) = none_of_text files ls (λ k d lt. h (suc k) d (omega (arith, lt))) t m

within_of : (n : ℕ) (ts : List TextAt) → AreInPlace n ts → (t : TextAt) → Member t ts → t.place < n
within_of n [] h t m = absurd m
within_of n (u ∷ ts) h t (inl e) = subst (λ (x : TextAt). x.place < n) e h.0
within_of n (u ∷ ts) h t (inr m) = within_of n ts h.2 t m

-- texts at places that rise, among the files
module _ (files : List FileOf) (ps : List ℕ) (ts : List Text) (within : All (λ p. p < length files) ps) (rising : AllPairs (λ a b. a < b) ps) where
  abbrev at : List TextAt
  at = texts_at ps ts

  are : AreInPlace (length files) at
  are = in_place (length files) ps ts within rising

  pub places_of : {X : Type 0} (v : X → TextAt) (xs : List X) → map v xs ≡ at → All (λ x. (v x).place < length files) xs
  places_of v xs e = λ k d l.
      subst (λ (t : TextAt). t.place < length files) (ap (λ (us : List TextAt). get_or us k (v d)) (sym e) ∙ get_or-map v xs k d (v d) l)
      (within_of (length files) at are (get_or at k (v d)) (member_at at k (v d) (omega (arith, l, ap length e, length-map xs v))))

  pub count_of : {X : Type 0} (v : X → TextAt) (xs : List X) → map v xs ≡ at → length ts ≡ length ps → length xs ≡ length ps
  count_of v xs e paired = sym (length-map xs v) ∙ ap length e ∙ length-texts_at ps ts paired

  pub few_of : {X : Type 0} (v : X → TextAt) (xs : List X) → map v xs ≡ at → length ts ≡ length ps → AreWorkspaceFiles files → length xs ≤ 4096
  few_of v xs e paired workspace =
      let few = workspace.few in
      omega (arith, count_of v xs e paired, few_places (length files) ps within rising, few)

  files_at : {X : Type 0} (v : X → TextAt) (xs : List X) → map v xs ≡ at → files_with files v xs ≡ map (λ (t : TextAt). file_with files t) at
  files_at v xs e = sym (map-map (λ (t : TextAt). file_with files t) v xs) ∙ ap (map (λ (t : TextAt). file_with files t)) e

  module _ (workspace : AreWorkspaceFiles files) (clean : HasNoFault (ReadFaults files)) where
    open_error : (e : SchemaFault) → IsFilesError (ReadFaults (with_all files at)) e → IsOpenError (with_texts files ps ts) e
    open_error e h =
        subst (λ (fs : List FileOf). IsOpenError fs e) (with_texts_at files ps ts)
        (reading_error (with_all files at) e (workspace_stays files at are workspace) h)

    pub first_text_error : {X : Type 0} (v : X → TextAt) (xs : List X) → map v xs ≡ at → (e : SchemaFault) → IsFirstError IsTextFault (files_with files v xs) e → IsOpenError (with_texts files ps ts) e
    first_text_error v xs e fault first =
        open_error fault
        (text_error files at are workspace clean fault (subst (λ (fs : List FileOf). IsFirstError IsTextFault fs fault) (files_at v xs e) first))

    pub first_grammar_error : (ls : List LexedText) → map lexed_text ls ≡ at → All (IsLexedText files) ls → (e : SchemaFault) → IsFirstError IsGrammarFault (files_with files lexed_text ls) e → IsOpenError (with_texts files ps ts) e
    first_grammar_error ls e lexed fault first =
        open_error fault
        (grammar_error files at are workspace clean
        (λ t m. none_of_text files ls lexed t (subst (λ (us : List TextAt). Member t us) (sym e) m))
        fault (subst (λ (fs : List FileOf). IsFirstError IsGrammarFault fs fault) (files_at lexed_text ls e) first))
