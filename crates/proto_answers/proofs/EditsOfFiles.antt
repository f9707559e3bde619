-- The text edits of changes, by the files that these are of.
use Rattle.std.proofs.Common.{◌≡◌, ◌≢◌, ℕ, ◌+◌, ◌<◌, ◌≤◌, Bool, true, false, List, [], ◌∷◌, ◌++◌, length, get_or, map, take, take_all, Some, None, position, bytes_eq, refl, sym, ap, subst, ◌∙◌, arith, inl, inr, string_bytes, Contains}
use Rattle.std.specs.List.{AllZip}
use Rattle.proto_base.proofs.Common.{AllByRecursion, Contains-get_or, Text, cases_Bool, cases_lt, cond-false, cond-true, contains_cases, contains_head, contains_later, contains_map, get_or_default, map_more, same_from_word, word_from_same}
use Rattle.proto_edit_entries.proofs.Common.{AreRising, ChangeOf, IsPut, change_of, rises_from}
use Rattle.proto_edit_entries.proofs.TextPlaces.{file_found, no_path}
use Rattle.proto_edit_entries.proofs.Walks.{Ordered, never}
use Rattle.proto_edit_entries.specs.declared.entry.Change.{Change}
use Rattle.proto_files.proofs.Common.{FileOf, file_at, paths_of}
use Rattle.proto_files.specs.GivenFiles.{no_file}
use Rattle.proto_positions.specs.EditViews.{edit_view}
use Rattle.proto_positions.specs.TextEdits.{HavePositions, TextEdit, text_edit}
use Rattle.proto_positions.specs.declared.encoding.Encoding.{Encoding}
use Rattle.proto_answers.specs.Common.{AreAllEdits, AreEditsOf, AreTextEdits, EditsPutFiles, HasUnsuited, SuitEditors, SuitsNoFile, edits_at, lsp_files}
use Rattle.proto_answers.specs.declared.answers.FileEdits.{FileEdits}

-- ---- files by their paths

-- two files of one path are one
pub same_path : (files : List FileOf) (f g : FileOf) → Ordered files → Contains files f → Contains files g → f.path ≡ g.path → f ≡ g
same_path files f g o k j same = elim (cases_lt k.0 j.0) [
  | inl low ↦ absurd (never (get_or files k.0 f).path (get_or files j.0 f).path f.path (o k.0 j.0 f low j.1) (path k.2) (path there ∙ sym same))
  | inr le ↦ elim (cases_lt j.0 k.0) [
    | inl high ↦ absurd (never (get_or files j.0 f).path (get_or files k.0 f).path f.path (o j.0 k.0 f high k.1) (path there ∙ sym same) (path k.2))
    | inr ge ↦ (let at : k.0 ≡ j.0 = omega (arith, le, ge) in sym k.2 ∙ ap (λ (n : ℕ). get_or files n f) at ∙ there)
  ]
]
  where
    path : {x y : FileOf} → x ≡ y → x.path ≡ y.path
    path e = ap (λ (z : FileOf). z.path) e

    there : get_or files j.0 f ≡ g
    there = get_or_default files j.0 f g j.1 ∙ j.2

-- ---- one change

module _ (files : List FileOf) (c : ChangeOf) where
  pub no_file_suits : None ≡ position (bytes_eq c.path) (paths_of files) → SuitsNoFile files c
  no_file_suits e f k at s = no_path files c.path (sym e) f.path (contains_map (λ (x : FileOf). x.path) files f k) (sym at)

  module _ (file : ℕ) (text : Text) (e : Some file ≡ position (bytes_eq c.path) (paths_of files)) (same : text ≡ (file_at files file).bytes) where
    found : (file < length files) × ((file_at files file).path ≡ c.path)
    found = file_found files c.path file (sym e)

    there : Contains files (file_at files file)
    there = Contains-get_or files file no_file found.0

    pub none_suits : Ordered files → (SuitEditors text c.splices → ⊥) → SuitsNoFile files c
    none_suits o none f k at s =
        none (subst (λ (z : Text). SuitEditors z c.splices) (ap (λ (z : FileOf). z.bytes) (same_path files f (file_at files file) o k there (at ∙ sym found.1)) ∙ sym same) s)

    pub edits_are : (enc : Encoding) (v : FileEdits) → string_bytes v.path ≡ c.path → SuitEditors text c.splices → map edit_view v.edits.items ≡ map (text_edit enc text) c.splices → AreEditsOf files enc c v
    edits_are enc v path suit edits = record {
      path = path;
      file = file_at files file;
      there = there;
      changed = found.1;
      suit = subst (λ (z : Text). SuitEditors z c.splices) same suit;
      edits = edits ∙ ap (λ (z : Text). map (text_edit enc z) c.splices) same;
    }

-- ---- all changes

-- one more on both sides
zip_more : {A B : Type 0} (R : A → B → Type 0) (xs : List A) (ys : List B) (x : A) (y : B) → AllZip R xs ys → R x y → AllZip R (xs ++ x ∷ []) (ys ++ y ∷ [])
zip_more R [] [] x y h r = (r, tt)
zip_more R [] (b ∷ ys) x y h r = absurd h
zip_more R (a ∷ xs) [] x y h r = absurd h
zip_more R (a ∷ xs) (b ∷ ys) x y h r = (h.0, zip_more R xs ys x y h.1 r)

pub edits_more : (files : List FileOf) (e : Encoding) (changes : List Change) (i : ℕ) (c : Change) (vs ws : List FileEdits) (v : FileEdits) → i < length changes → c ≡ get_or changes i c
    → AreAllEdits files e (map change_of (take i changes)) vs → AreEditsOf files e (change_of c) v → ws ≡ vs ++ v ∷ [] → AreAllEdits files e (map change_of (take (i + 1) changes)) ws
edits_more files e changes i c vs ws v lt is are one grown =
    subst (λ (z : List ChangeOf). AreAllEdits files e z ws) (ap (λ (z : Change). map change_of (take i changes) ++ change_of z ∷ []) is ∙ sym (map_more change_of changes i c lt))
    (subst (AreAllEdits files e (map change_of (take i changes) ++ change_of c ∷ [])) (sym grown) (zip_more (AreEditsOf files e) (map change_of (take i changes)) vs (change_of c) v are one))

pub edits_of_all : (files : List FileOf) (e : Encoding) (changes : List Change) (i : ℕ) (vs : List FileEdits) → length changes ≤ i → AreAllEdits files e (map change_of (take i changes)) vs → AreAllEdits files e (map change_of changes) vs
edits_of_all files e changes i vs end are = subst (λ (z : List Change). AreAllEdits files e (map change_of z) vs) (take_all i changes end) are

pub unsuited_there : (files : List FileOf) (changes : List Change) (i : ℕ) (c : Change) → i < length changes → c ≡ get_or changes i c → SuitsNoFile files (change_of c) → HasUnsuited files (map change_of changes)
unsuited_there files changes i c lt is none = (change_of c, contains_map change_of changes c (i, lt, sym is), none)

-- ---- what an editor makes of them

module _ (files : List FileOf) (e : Encoding) (o : Ordered files) (f : FileOf) (con : Contains files f) where
  -- the first change is of the file
  first_edits : (c : ChangeOf) (cs : List ChangeOf) (v : FileEdits) → AreRising (c ∷ cs) → AreEditsOf files e c v → string_bytes v.path ≡ f.path → AreTextEdits e (c ∷ cs) f (map edit_view v.edits.items)
  first_edits c cs v rising is same = record { changed = changed; unchanged = λ none. absurd (none c (contains_head c cs) of_file) }
    where
      of_file : c.path ≡ f.path
      of_file = sym is.path ∙ same

      one : is.file ≡ f
      one = same_path files is.file f o is.there con (is.changed ∙ of_file)

      mine : AllByRecursion (HavePositions f.bytes) c.splices × (map edit_view v.edits.items ≡ map (text_edit e f.bytes) c.splices)
      mine = subst (λ (g : FileOf). AllByRecursion (HavePositions g.bytes) c.splices × (map edit_view v.edits.items ≡ map (text_edit e g.bytes) c.splices)) one (is.suit.positions, is.edits)

      changed : (d : ChangeOf) → Contains (c ∷ cs) d → d.path ≡ f.path → AllByRecursion (HavePositions f.bytes) d.splices × (map edit_view v.edits.items ≡ map (text_edit e f.bytes) d.splices)
      changed d k at = elim (contains_cases c d cs k) [
        | inl is_c ↦ subst (λ (z : ChangeOf). AllByRecursion (HavePositions f.bytes) z.splices × (map edit_view v.edits.items ≡ map (text_edit e f.bytes) z.splices)) is_c mine
        | inr later ↦ absurd (never c.path d.path f.path (rises_from c cs rising d later) of_file at)
      ]

  -- or another
  other_edits : (c : ChangeOf) (cs : List ChangeOf) (edits : List TextEdit) → c.path ≢ f.path → AreTextEdits e cs f edits → AreTextEdits e (c ∷ cs) f edits
  other_edits c cs edits not_c are = record {
    changed = λ d k at. elim (contains_cases c d cs k) [
      | inl is_c ↦ absurd (not_c (ap (λ (z : ChangeOf). z.path) is_c ∙ at))
      | inr later ↦ are.changed d later at
    ];
    unchanged = λ none. are.unchanged (λ d k. none d (contains_later c d cs k));
  }

  edits_for : (cs : List ChangeOf) (vs : List FileEdits) → AreRising cs → AreAllEdits files e cs vs → AreTextEdits e cs f (edits_at vs f.path)
  edits_for [] [] rising are = record { changed = λ c k at. absurd (omega (arith, k.1)); unchanged = λ none. refl }
  edits_for [] (v ∷ vs) rising are = absurd are
  edits_for (c ∷ cs) [] rising are = absurd are
  edits_for (c ∷ cs) (v ∷ vs) rising are = elim (cases_Bool (bytes_eq (string_bytes v.path) f.path)) [
    | inl same ↦
        subst (AreTextEdits e (c ∷ cs) f) (sym (cond-true (bytes_eq (string_bytes v.path) f.path) (map edit_view v.edits.items) (edits_at vs f.path) same))
        (first_edits c cs v rising are.0 (word_from_same (string_bytes v.path) f.path same))
    | inr other ↦
        subst (AreTextEdits e (c ∷ cs) f) (sym (cond-false (bytes_eq (string_bytes v.path) f.path) (map edit_view v.edits.items) (edits_at vs f.path) other))
        (other_edits c cs (edits_at vs f.path) (λ at. differ other (same_from_word (string_bytes v.path) f.path (are.0.path ∙ at))) (edits_for cs vs rising.1 are.1))
  ]
    where
      differ : {b : Bool} → b ≡ false → b ≡ true → ⊥
      differ fails holds = cc

pub entry_put : EditsPutFiles → (files after : List FileOf) (e : Encoding) (cs : List ChangeOf) (vs : List FileEdits) → Ordered files → AreRising cs → AreAllEdits files e cs vs → IsPut files cs after → lsp_files e vs files ≡ after
entry_put law files after e cs vs o rising are put = law e files after cs (λ f. edits_at vs f.path) put (λ f con. edits_for files e o f con cs vs rising are)
