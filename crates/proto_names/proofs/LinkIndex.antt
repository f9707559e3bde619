-- The table of a link of files is an index of their names, and answers what their references mean.
use Rattle.std.proofs.Common.{◌≡◌, ℕ, zero, suc, ◌<◌, Bool, List, [], ◌∷◌, length, get_or, map, slice_get, Option, Some, None, option_map, is_some, refl, sym, ◌∙◌, ap, subst, arith, Contains}
use Rattle.proto_base.proofs.Common.{get_or-map, get_or_default, length-map, none-some, same_Some}
use Rattle.proto_files.proofs.Common.{FileOf, file_at, ReadOf, AreRead, read_at}
use Rattle.proto_text.proofs.Common.{one_token_list, word_at, AreTokens, Lexeme, lexeme_at}
use Rattle.proto_text.specs.declared.lexer.Token.{Token}
use Rattle.proto_tree.specs.declared.tree.Reference.{Reference as ReferenceOfTree}
use Rattle.proto_tree.specs.References.{dotted}
use Rattle.proto_names_rules.specs.declared.wants.Wants.TheVariants as wants
use Rattle.proto_names_rules.proofs.Common.{joined, ArePlain, Reference, Symbol, Workspace, meaning, MarksSeen}
use Rattle.proto_names.specs.Common.{HoldsNames, IsLinkBy, NameOf, LinkOf, name_of_row}
use Rattle.proto_names_imports.proofs.Common.{names_in, text_of, link_skeleton, names_of_files, names_are_plain}
use Rattle.proto_names_table.proofs.Common.{files_of, IsIndexOf, names_of, pick}
use Rattle.proto_names.specs.Scopes.{reference_in}
use Rattle.proto_names.proofs.NamesThere.{name_from, there_is}
use Rattle.proto_names_table.specs.declared.table.Row.{Row}
use Rattle.proto_names_table.specs.declared.table.Table.{Table}

row_of : (rows : List Row) (k : ℕ) (n : NameOf) → slice_get (map name_of_row rows) k ≡ Some n → (k < length rows) × ((d : Row) → name_of_row (get_or rows k d) ≡ n)
row_of [] k n h = absurd (none-some n h)
row_of (r ∷ rows) zero n h = (omega arith, λ d. same_Some (name_of_row r) n h)
row_of (r ∷ rows) (suc k) n h = let x = row_of rows k n h in (omega (arith, x.0), x.1)

pub link_index : (t : Table) (l : LinkOf) → map name_of_row t.rows.items ≡ l.names → (w : Workspace) → HoldsNames w l → ((s : Symbol) → Contains w.symbols s → ArePlain s.name) → IsIndexOf t w.symbols
link_index t l same w holds plain = record { plain = plain; row = row; symbol = symbol }
  where
    text_is : (k : ℕ) (d : Row) → k < length t.rows.items → get_or (names_of t) k [] ≡ (get_or t.rows.items k d).name
    text_is k d lk = get_or-map (λ r. r.name) t.rows.items k d [] lk

    row : (s : Symbol) → Contains w.symbols s → (k : ℕ) × (k < length t.rows.items) × (get_or (names_of t) k [] ≡ joined s.name) × ((d : Row) → ((get_or t.rows.items k d).symbol.kind ≡ s.kind) × Contains (files_of (get_or t.rows.items k d)) s.file)
    row s c =
        let h = holds.there s c in
        let x = row_of t.rows.items h.0 h.1 (ap (λ (ns : List NameOf). slice_get ns h.0) same ∙ there_is l h.0 h.1 h.2) in
        let d = pick t.rows.items h.0 x.0 in
        (h.0, x.0, text_is h.0 d x.0 ∙ ap (λ (n : NameOf). n.text) (x.1 d) ∙ h.3, λ d. (ap (λ (n : NameOf). n.kind) (x.1 d) ∙ h.4, subst (λ (fs : List ℕ). Contains fs s.file) (sym (ap (λ (n : NameOf). n.files) (x.1 d))) h.5))

    symbol : (k file : ℕ) (d : Row) → k < length t.rows.items → Contains (files_of (get_or t.rows.items k d)) file → (s : Symbol) × Contains w.symbols s × (joined s.name ≡ get_or (names_of t) k []) × (s.kind ≡ (get_or t.rows.items k d).symbol.kind) × (s.file ≡ file)
    symbol k file d lk c =
        let h = holds.only k file (name_of_row (get_or t.rows.items k d)) (name_from t l same k d lk (omega (arith, c.1))) c in
        (h.0, h.1, h.2 ∙ sym (text_is k d lk), h.3, h.4)

pub none_meant : (m : Option (List (List ℕ))) → None ≡ option_map joined m → m ≡ None
none_meant None h = refl
none_meant (Some x) h = absurd (none-some (joined x) h)

-- the files that a file sees are those of the link
pub seen_at : (l : LinkOf) (all : List (List Bool)) → all ≡ l.seen → (vs : List (List Bool)) → vs ≡ all → (file : ℕ) → file < length vs → (seen : List Bool) → seen ≡ get_or vs file seen → seen ≡ get_or l.seen file []
seen_at l all same vs vs_are file within seen seen_is =
    seen_is ∙ get_or_default vs file seen [] within ∙ ap (λ (z : List (List Bool)). get_or z file []) (vs_are ∙ same)

-- what is answered of a reference's words is answered of the reference in the files
module _ (t : Table) (l : LinkOf) (same : map name_of_row t.rows.items ≡ l.names) (files : List FileOf) (reads : List ReadOf) (are : AreRead files reads) (file : ℕ) (within : file < length files)
    (link : IsLinkBy (text_of files reads) (link_skeleton files reads) l) where
  pub in_link : file < length (map names_in reads)
  in_link = let n = length-map reads names_in in let m = are.same in omega (arith, within, n, m)

  pub meant_in : (marks : List Bool) → marks ≡ get_or l.seen file [] → (bytes : List ℕ) (tokens : List Token) (ls : List Lexeme) → ls ≡ map (lexeme_at bytes) tokens → bytes ≡ (file_at files file).bytes → AreTokens (file_at files file).bytes tokens
      → (scope : List ℕ) (reference : ReferenceOfTree) (o : Option ℕ)
      → ((w : Workspace) (r : Reference) → IsIndexOf t w.symbols → MarksSeen w r.file marks → ArePlain r.scope → scope ≡ joined r.scope → r.words ≡ map (word_at ls) (dotted reference.words) → r.is_absolute ≡ is_some reference.dot → r.wants ≡ wants.Type
      → option_map (λ k. get_or (names_of t) k []) o ≡ option_map joined (meaning w r))
      → (path : List (List ℕ)) → ArePlain path → scope ≡ joined path → option_map (λ k. get_or (names_of t) k []) o ≡ option_map joined (meaning (names_of_files files reads) (reference_in files reads file path reference))
  meant_in marks marks_is bytes tokens ls words_are bytes_are tokens_are scope reference o meant path plain e =
      meant (names_of_files files reads) (reference_in files reads file path reference) (link_index t l same (names_of_files files reads) link.names (names_are_plain files reads are))
      (subst (MarksSeen (names_of_files files reads) file) (sym marks_is) (link.seen file in_link)) plain e
      (ap (λ z. map (word_at z) (dotted reference.words)) (sym same_words)) refl refl
    where
      same_words : ls ≡ map (lexeme_at (file_at files file).bytes) (read_at reads file).tokens
      same_words = words_are ∙ ap (λ (z : List ℕ). map (lexeme_at z) tokens) bytes_are
          ∙ ap (map (lexeme_at (file_at files file).bytes)) (one_token_list (file_at files file).bytes tokens (read_at reads file).tokens tokens_are (are.tokens file within))
