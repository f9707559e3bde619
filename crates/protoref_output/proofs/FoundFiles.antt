-- The text of the file at a path.
use Rattle.std.proofs.Common.{◌≡◌, ◌≢◌, ◌<◌, ◌≤◌, ℕ, zero, suc, Bool, true, false, cond, List, [], ◌∷◌, Some, refl, sym, ap, ◌∙◌, subst, arith, length, AllPairs, unwrap_or, bytes_eq}
use Rattle.std.proofs.lemmas.Slice.Eq.{bytes_eq-Decides}
use Rattle.proto_files.proofs.Common.{FileOf, file_at, IsBefore}
use Rattle.protoref_output.specs.FoundLines.{text_of_path}
use Rattle.proto_store.proofs.Common.{bytes_at, differs_if_less, same_text}
use Rattle.proto_files.specs.GivenFiles.{no_file}

-- a file with the path is the one that is looked up, since no two have one path
pub text_of_file : (files : List FileOf) (k : ℕ) (path : List ℕ) → AllPairs (λ f g. IsBefore f.path g.path) files → k < length files → (file_at files k).path ≡ path → text_of_path path files ≡ (file_at files k).bytes
text_of_file [] k path apart inside same = absurd (omega (arith, inside))
text_of_file (file ∷ files) zero path apart inside same = ap (λ b. unwrap_or (cond b (Some file.bytes) (bytes_at path files)) []) ((bytes_eq-Decides path file.path).1 (sym same))
text_of_file (file ∷ files) (suc k) path apart inside same =
    let before : IsBefore file.path (file_at files k).path = apart 0 (suc k) no_file (omega arith) inside in
    let other : bytes_eq path file.path ≡ false = same_text path file.path ∙ differs_if_less file.path path (subst (IsBefore file.path) same before) in
    ap (λ b. unwrap_or (cond b (Some file.bytes) (bytes_at path files)) []) other
    ∙ text_of_file files k path (λ i j d less within. apart (suc i) (suc j) d (omega (arith, less)) (omega (arith, within))) (omega (arith, inside)) same

-- where no file has the path, none is found
text_of_none : (files : List FileOf) (path : List ℕ) → ((k : ℕ) → k < length files → (file_at files k).path ≢ path) → text_of_path path files ≡ []
text_of_none [] path none = refl
text_of_none (file ∷ files) path none = go (text_of_none files path (λ k inside. none (suc k) (omega (arith, inside)))) (bytes_eq path file.path) refl
  where
    go : text_of_path path files ≡ [] → (b : Bool) → bytes_eq path file.path ≡ b → text_of_path path (file ∷ files) ≡ []
    go rest true e = absurd (none 0 (omega arith) (sym ((bytes_eq-Decides path file.path).0 e)))
    go rest false e = ap (λ b. unwrap_or (cond b (Some file.bytes) (bytes_at path files)) []) e ∙ rest

past_end : (files : List FileOf) (k : ℕ) → length files ≤ k → (file_at files k).bytes ≡ []
past_end [] k past = refl
past_end (file ∷ files) zero past = absurd (omega (arith, past))
past_end (file ∷ files) (suc k) past = past_end files k (omega (arith, past))

-- behind the last file there is no text, and none is found where no file has the path
pub text_of_none_named : (files : List FileOf) (path : List ℕ) (count : ℕ) → count ≡ length files
    → ((k : ℕ) → k < length files → (file_at files k).path ≢ path)
    → (file_at files count).bytes ≡ text_of_path path files
text_of_none_named files path count long none = past_end files count (omega (arith, long)) ∙ sym (text_of_none files path none)
