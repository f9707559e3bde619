-- Open texts laid over files, one after another.
use Rattle.std.proofs.Common.{◌≡◌, ℕ, ◌+◌, ◌<◌, List, [], ◌∷◌, ◌++◌, length, get_or, map, take, string_bytes, refl, sym, ap, ◌∙◌}
use Rattle.proto_base.proofs.Common.{taken_more}
use Rattle.proto_base.specs.GivenFiles.{FileOf}
use Rattle.proto_base.specs.Texts.{Path, Text}
use Rattle.proto_base.specs.declared.profile.Profile.TheVariants.{Core}
use Rattle.proto_session_files.specs.Views.{OpenOf, laid, open_file, open_of, seen_over}
use Rattle.proto_session_files.specs.declared.open_text.OpenText.{OpenText}

abbrev made : Path → Text → FileOf
made path bytes = record { path = path; bytes = bytes; profile = Core }

one_later : (disk : List FileOf) (opened : List OpenOf) (o : OpenOf) → seen_over Core disk (opened ++ o ∷ []) ≡ laid (open_file Core o) (seen_over Core disk opened)
one_later disk [] o = refl
one_later disk (p ∷ opened) o = one_later (laid (open_file Core p) disk) opened o

-- the files with the next text laid over them too
pub seen_more : (disk found : List FileOf) (xs : List OpenText) (i : ℕ) (x d : OpenText) (path bytes : Text) (next : List FileOf) → i < length xs → x ≡ get_or xs i d
    → path ≡ string_bytes x.path → bytes ≡ string_bytes x.text → next ≡ laid (made path bytes) found
    → found ≡ seen_over Core disk (map open_of (take i xs)) → next ≡ seen_over Core disk (map open_of (take (i + 1) xs))
seen_more disk found xs i x d path bytes next lt is same copied put before =
    put
    ∙ ap (λ (p : Path). laid (made p bytes) found) same
    ∙ ap (λ (b : Text). laid (made (string_bytes x.path) b) found) copied
    ∙ ap (laid (open_file Core (open_of x))) before
    ∙ sym (one_later disk (map open_of (take i xs)) (open_of x))
    ∙ ap (seen_over Core disk) (taken_more open_of xs i x d lt is)
