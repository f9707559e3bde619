-- The tokens of files that were read: those of their texts, by their indices.
use Rattle.std.proofs.Common.{◌≡◌, ℕ, zero, suc, ◌<◌, ◌≤◌, List, [], ◌∷◌, length, get_or, refl, sym, ap, ◌∙◌, subst, arith, All, Some, slice_get, map}
use Rattle.std.proofs.lemmas.Option.{get_or_from_slice_get, slice_get_within}
use Rattle.proto_text.specs.declared.kind.TokenKind.TheVariants.{Text}
use Rattle.proto_text.specs.declared.lexer.Token.{Token}
use Rattle.proto_text.proofs.Common.{IsSpan, text_at, IsString, offset_at, words, AreTokens, one_token_list, word_at_token, text_token_is_string}
use Rattle.proto_tree.proofs.Common.{tree_of_file, ReadsIn}
use Rattle.proto_files.specs.Common.{ReadFile, ReadOf, AreRead, read_at, FileOf, file_at, IsReadFile, read_files}
use Rattle.proto_files.specs.FileTokens.{AreTokensOf, HasString}
use Rattle.proto_files.proofs.LeastOfFiles.{file_at-read, length-read_files}

pub offset_past : (ts : List Token) (i : ℕ) → length ts ≤ i → offset_at ts i ≡ 0
offset_past [] i h = refl
offset_past (t ∷ ts) zero h = absurd (omega (arith, h))
offset_past (t ∷ ts) (suc i) h = offset_past ts i (omega (arith, h))

-- the text that was read is the file's
pub own_bytes : (files : List ReadFile) (given : List FileOf) (place : ℕ) (f : ReadFile) → read_files files ≡ given → place < length files → f ≡ get_or files place f → f.source ≡ (file_at given place).bytes
own_bytes files given place f is lt at =
    ap (λ (g : ReadFile). g.source) at ∙ ap (λ (g : FileOf). g.bytes) (sym (file_at-read files place f lt)) ∙ ap (λ (fs : List FileOf). (file_at fs place).bytes) is

-- its tokens are the tokens of that text
pub own_tokens : (files : List ReadFile) (given : List FileOf) (place : ℕ) (f : ReadFile) → read_files files ≡ given → All IsReadFile files → place < length files → f ≡ get_or files place f
    → (tokens : List Token) → AreTokens (file_at given place).bytes tokens → f.tokens.items ≡ tokens
own_tokens files given place f is all lt at tokens are =
    let here : IsReadFile f = subst (λ (g : ReadFile). IsReadFile g) (sym at) (all place f lt) in
    one_token_list (file_at given place).bytes f.tokens.items tokens (subst (λ (text : List ℕ). AreTokens text f.tokens.items) (own_bytes files given place f is lt at) here.reads.tokens_are) are

-- each token stands in its text
pub own_spans : (files : List ReadFile) (place : ℕ) (f : ReadFile) → All IsReadFile files → place < length files → f ≡ get_or files place f → (i : ℕ) (d : Token) → i < length f.tokens.items → IsSpan f.source (get_or f.tokens.items i d).span
own_spans files place f all lt at i d within =
    let here : IsReadFile f = subst (λ (g : ReadFile). IsReadFile g) (sym at) (all place f lt) in
    here.spans i d within

-- a string token's text is a string
pub own_string : (files : List FileOf) (file token : ℕ) (text : List ℕ) → (has : HasString files file token)
    → ((tokens : List Token) (t : Token) → AreTokensOf files file tokens → slice_get tokens token ≡ Some t → text ≡ text_at (file_at files file).bytes t.span) → IsString text
own_string files file token text has slice =
    let tokens = has.0 in
    let t : Token = has.2.0 in
    let lt : token < length tokens = slice_get_within tokens token t has.2.1 in
    let is : get_or tokens token t ≡ t = get_or_from_slice_get tokens token t t has.2.1 in
    let kind : (get_or tokens token t).kind ≡ Text = ap (λ (x : Token). x.kind) is ∙ has.2.2 in
    subst IsString (ap (λ (x : Token). text_at (file_at files file).bytes x.span) is ∙ sym (slice tokens t has.1 has.2.1)) (text_token_is_string (file_at files file).bytes tokens token t has.1 lt kind)

-- the text at a token, as the slice at its span and as the word with its index
pub text_is_slice : (text : List ℕ) (own tokens : List Token) (i : ℕ) (t found : Token) → own ≡ tokens → found ≡ get_or own i found → slice_get tokens i ≡ Some t → text_at text found.span ≡ text_at text t.span
text_is_slice text own tokens i t found is at there =
    ap (λ (x : Token). text_at text x.span) (at ∙ ap (λ (ts : List Token). get_or ts i found) is ∙ get_or_from_slice_get tokens i t found there)

pub text_is_word : (text : List ℕ) (own tokens : List Token) (i : ℕ) (found : Token) → own ≡ tokens → i < length own → found ≡ get_or own i found → text_at text found.span ≡ words text tokens i
text_is_word text own tokens i found is lt at =
    ap (λ (x : Token). text_at text x.span) at ∙ sym (word_at_token text own i found lt) ∙ ap (λ (ts : List Token). words text ts i) is

-- what is read of a file, as it is kept
abbrev read_of : ReadFile → ReadOf
read_of f = record { tokens = f.tokens.items; tree = tree_of_file f.tree }

length-reads : (files : List ReadFile) → length (map read_of files) ≡ length files
length-reads [] = refl
length-reads (f ∷ files) = ap suc (length-reads files)

each_is_read : (files : List ReadFile) → All IsReadFile files → (k : ℕ) → k < length files → ReadsIn (file_at (read_files files) k).profile (file_at (read_files files) k).bytes (read_at (map read_of files) k).tokens (read_at (map read_of files) k).tree
each_is_read [] all k lt = absurd (omega (arith, lt))
each_is_read (f ∷ files) all zero lt = (all 0 f lt).reads
each_is_read (f ∷ files) all (suc k) lt = each_is_read files (λ i d l. all (suc i) d (omega (arith, l))) k (omega (arith, lt))

-- files that were read have tokens and trees
pub files_are_read : (read : List ReadFile) (files : List FileOf) → read_files read ≡ files → All IsReadFile read → (reads : List ReadOf) × AreRead files reads
files_are_read read files is all = (
  map read_of read,
  subst (λ (fs : List FileOf). AreRead fs (map read_of read)) is (record {
    same = length-reads read ∙ sym (length-read_files read);
    tokens = λ k l. (each_is_read read all k (within k l)).tokens_are;
    trees = λ k l. each_is_read read all k (within k l);
  }),
)
  where
    within : (k : ℕ) → k < length (read_files read) → k < length read
    within k l = omega (arith, l, length-read_files read)
