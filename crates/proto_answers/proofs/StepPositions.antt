-- Both ends of each splice of an admissible edit have positions of their own.
use Rattle.std.proofs.Common.{◌≡◌, ℕ, suc, ◌+◌, ◌-◌, ◌<◌, ◌≤◌, List, [], ◌∷◌, ◌++◌, length, length-drop, get_or, drop, Option, Some, None, sym, ap, subst, ◌∙◌, arith, inl, inr, All, Contains}
use Rattle.std.proofs.lemmas.List.{length-take-le}
use Rattle.proto_base.proofs.Common.{AllByRecursion, Contains-get_or, Text, cases_lt, contains_cases, recursion_from_All}
use Rattle.proto_text.proofs.Common.{AreTokens, Edit, bytes_between, edit_if, end_before, offset_at, text_at, token_edits, tokens_are_in_order}
use Rattle.proto_text.specs.declared.lexer.Token.{Token}
use Rattle.proto_files.proofs.Common.{AreRead, AreWorkspaceFiles, FileOf, ReadOf, file_at, read_at}
use Rattle.proto_files.specs.GivenFiles.{no_file}
use Rattle.proto_positions.specs.Positions.{HasPosition}
use Rattle.proto_positions.specs.TextEdits.{HavePositions}
use Rattle.proto_edit_entries.proofs.Common.{ChangeOf, add_import, delete_field, drop_import, rename}
use Rattle.proto_edit_entries.proofs.TextPlaces.{file_found}
use Rattle.proto_edit_rename_laws.proofs.ChangesPut.{edits_at, from_changes, is_by}
use Rattle.proto_edit_rename_laws.proofs.Common.{renamed_words, words_of_file}
use Rattle.proto_edit_rules.specs.AddImport.{added_text, import_place, splice_of_addition}
use Rattle.proto_edit_rules.specs.DeleteField.{deletion, field_number_value, name_of_field, reservation_text, splice_of_deletion}
use Rattle.proto_edit_rules.specs.DropImport.{splice_of_drop}
use Rattle.proto_edit_rules.specs.Statements.{begins, ends, first_token, next_token, one_change, splice}
use Rattle.proto_tree.specs.declared.piece.Statement.{Statement}
use Rattle.proto_tree.specs.declared.piece.Statement.TheVariants as statement
use Rattle.proto_answers.specs.Common.{StepsHavePositions}
use Rattle.proto_answers.proofs.EditsOfFiles.{same_path}
use Rattle.proto_answers.proofs.TokenPositions.{end_before_has_position, end_has_position, offset_has_position, start_has_position}
use Rattle.proto_answers.proofs.TokenRanges.{end_is, start_is}

-- ---- one splice from an offset up to another

splice_has_positions : (text : Text) (from to : ℕ) (new : Text) → HasPosition text from → HasPosition text to → HavePositions text (splice text from to new)
splice_has_positions text from to new a b = (a, at_end)
  where
    at_end : HasPosition text (from + length (bytes_between text from to))
    at_end =
        let below = a.boundary.0 in
        let above = b.boundary.0 in
        let left = length-drop from text in
        let most : to - from ≤ length (drop from text) = omega (arith, below, above, left) in
        let len = length-take-le (to - from) (drop from text) most in
        elim (cases_lt from to) [
          | inl lt ↦ (let is : from + length (bytes_between text from to) ≡ to = omega (arith, len, lt) in subst (HasPosition text) (sym is) b)
          | inr le ↦ (let is : from + length (bytes_between text from to) ≡ from = omega (arith, len, le) in subst (HasPosition text) (sym is) a)
        ]

-- ---- new words of tokens

abbrev IsEdged : Text → Token → Type 0
IsEdged text t = HasPosition text t.span.start × HasPosition text (t.span.start + length (text_at text t.span))

tokens_edged : (text : Text) (tokens : List Token) → AreTokens text tokens → All (IsEdged text) tokens
tokens_edged text tokens are i d l = (
  subst (HasPosition text) (start_is tokens i d l) (start_has_position text tokens are i l),
  (let o = tokens_are_in_order text tokens are in
      let some = o.some i l in
      let within = o.within (suc i) (omega (arith, l)) in
      let s = start_is tokens i d l in
      let z = end_is tokens i d l in
      let left = length-drop (get_or tokens i d).span.start text in
      let most : (get_or tokens i d).span.end - (get_or tokens i d).span.start ≤ length (drop (get_or tokens i d).span.start text) = omega (arith, some, within, s, z, left) in
      let len = length-take-le ((get_or tokens i d).span.end - (get_or tokens i d).span.start) (drop (get_or tokens i d).span.start text) most in
      let is : end_before tokens (suc i) ≡ (get_or tokens i d).span.start + length (text_at text (get_or tokens i d).span) = omega (arith, some, s, z, len) in
      subst (HasPosition text) is (end_has_position text tokens are i l)),
)

words_have_positions : (text : Text) (c : ℕ → Option (List ℕ)) (n : ℕ) (ts : List Token) → AllByRecursion (IsEdged text) ts → AllByRecursion (HavePositions text) (token_edits text c n ts)
words_have_positions text c n [] h = tt
words_have_positions text c n (t ∷ ts) h = by (c n) (words_have_positions text c (suc n) ts h.1)
  where
    by : (o : Option (List ℕ)) → AllByRecursion (HavePositions text) (token_edits text c (suc n) ts) → AllByRecursion (HavePositions text) (edit_if o t.span.start (text_at text t.span) ++ token_edits text c (suc n) ts)
    by None rest = rest
    by (Some w) rest = (h.0, rest)

-- ---- the edits

module _ (files : List FileOf) (workspace : AreWorkspaceFiles files) (reads : List ReadOf) (are : AreRead files reads) (c : ChangeOf) (f : FileOf) (con : Contains files f) (of_file : f.path ≡ c.path) where
  file_is : (k : ℕ) → k < length files → c.path ≡ (file_at files k).path → f ≡ file_at files k
  file_is k l is = same_path files f (file_at files k) workspace.ordered con (Contains-get_or files k no_file l) (of_file ∙ is)

  -- one splice of the file at a place
  of_one : (k : ℕ) → k < length files → (e : Edit) → Contains (one_change (file_at files k) e) c → HavePositions (file_at files k).bytes e → AllByRecursion (HavePositions f.bytes) c.splices
  of_one k l e h has = elim (contains_cases _ c [] h) [
    | inl is ↦
        let same = file_is k l (sym (ap (λ (z : ChangeOf). z.path) is)) in
        subst (λ (es : List Edit). AllByRecursion (HavePositions f.bytes) es) (ap (λ (z : ChangeOf). z.splices) is)
        (subst (λ (g : FileOf). AllByRecursion (HavePositions g.bytes) (e ∷ [])) (sym same) (has, tt))
    | inr none ↦ absurd (omega (arith, none.1))
  ]

  module _ (k : ℕ) (l : k < length files) where
    from_token : (i : ℕ) → HasPosition (file_at files k).bytes (offset_at (read_at reads k).tokens i)
    from_token i = offset_has_position (file_at files k).bytes (read_at reads k).tokens (are.tokens k l) i

    behind_token : (i : ℕ) → HasPosition (file_at files k).bytes (end_before (read_at reads k).tokens i)
    behind_token i = end_before_has_position (file_at files k).bytes (read_at reads k).tokens (are.tokens k l) i

    deletion_has : (s : Statement) (o : Option ℕ) (number : ℕ) (name : Text) → HavePositions (file_at files k).bytes (deletion (file_at files k).bytes (read_at reads k).tokens s o number name)
    deletion_has s None number name =
        splice_has_positions (file_at files k).bytes (begins (read_at reads k).tokens s) (ends (read_at reads k).tokens s) (reservation_text number name) (from_token (first_token s)) (behind_token (next_token s))
    deletion_has s (Some close) number name =
        splice_has_positions (file_at files k).bytes (begins (read_at reads k).tokens s) (end_before (read_at reads k).tokens (suc close)) [] (from_token (first_token s)) (behind_token (suc close))

    of_words : (w : ℕ → Option (List ℕ)) → AllByRecursion (HavePositions (file_at files k).bytes) (token_edits (file_at files k).bytes w 0 (read_at reads k).tokens)
    of_words w = words_have_positions (file_at files k).bytes w 0 (read_at reads k).tokens (recursion_from_All (IsEdged (file_at files k).bytes) (read_at reads k).tokens (tokens_edged (file_at files k).bytes (read_at reads k).tokens (are.tokens k l)))

pub steps_have_positions : StepsHavePositions
steps_have_positions files (rename name to) cs c f workspace (reads, are, (t, named, is)) k con of_file =
    let w = renamed_words files reads t to in
    let h = from_changes w 0 files reads c (subst (λ (z : List ChangeOf). Contains z c) is k) in
    let by = is_by (file_at files h.0) (edits_at w 0 files reads h.0) c h.2 in
    let same = file_is files workspace reads are c f con of_file h.0 h.1 by.path in
    subst (λ (es : List Edit). AllByRecursion (HavePositions f.bytes) es) (sym by.splices)
    (subst (λ (g : FileOf). AllByRecursion (HavePositions g.bytes) (edits_at w 0 files reads h.0)) (sym same) (of_words files workspace reads are c f con of_file h.0 h.1 (words_of_file w (0 + h.0))))
steps_have_positions files (delete_field name) cs c f workspace (reads, are, (d, named, is)) k con of_file =
    let l = named.stands.within in
    of_one files workspace reads are c f con of_file d.file l (splice_of_deletion files reads d) (subst (λ (z : List ChangeOf). Contains z c) is k)
    (deletion_has files workspace reads are c f con of_file d.file l d.statement d.oneof (field_number_value files reads d) (name_of_field files reads d))
steps_have_positions files (add_import file path) cs c f workspace (reads, are, (n, at, is)) k con of_file =
    let l = (file_found files file n at).0 in
    let place = behind_token files workspace reads are c f con of_file n l (import_place (read_at reads n).tree) in
    of_one files workspace reads are c f con of_file n l (splice_of_addition files reads n path) (subst (λ (z : List ChangeOf). Contains z c) is k)
    (splice_has_positions (file_at files n).bytes (end_before (read_at reads n).tokens (import_place (read_at reads n).tree)) (end_before (read_at reads n).tokens (import_place (read_at reads n).tree)) (added_text (import_place (read_at reads n).tree) path) place place)
steps_have_positions files (drop_import file path) cs c f workspace (reads, are, (n, i, at, named, is)) k con of_file =
    let l = named.within in
    of_one files workspace reads are c f con of_file n l (splice_of_drop files reads n i) (subst (λ (z : List ChangeOf). Contains z c) is k)
    (splice_has_positions (file_at files n).bytes (begins (read_at reads n).tokens (statement.Import i)) (ends (read_at reads n).tokens (statement.Import i)) []
    (from_token files workspace reads are c f con of_file n l (first_token (statement.Import i))) (behind_token files workspace reads are c f con of_file n l (next_token (statement.Import i))))
