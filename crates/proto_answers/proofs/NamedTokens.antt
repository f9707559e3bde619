-- The token at an offset, and the name that it stands for.
use Rattle.std.proofs.Common.{◌≡◌, ◌↔◌, ℕ, ◌<◌, List, [], length, Option, Some, None, slice_get, sym, ap, subst, ◌∙◌, arith, inl, inr}
use Rattle.proto_base.proofs.Common.{Text, cases_lt, get_or_past, none-some, same_Some}
use Rattle.proto_text.specs.declared.lexer.Token.{Token}
use Rattle.proto_tree.specs.Tree.{End}
use Rattle.proto_files.proofs.Common.{AreRead, FileOf, HasNoFault, ReadOf, read_at}
use Rattle.proto_names_rules.specs.Grown.{at}
use Rattle.proto_names_imports.proofs.Common.{LinkFaults}
use Rattle.proto_names_at.specs.NamesAt.{IsNameAt, StandsFor}
use Rattle.proto_names_at.specs.Tokens.{IsWordAt}
use Rattle.proto_desc.specs.Whole.{of_link}
use Rattle.proto_edit.proofs.Common.{AreCompiled}
use Rattle.proto_answers.specs.Common.{NothingStandsAt, OnlyStandsAt, StandsAt}
use Rattle.proto_answers.specs.Declaring.{MayBeRenamed}
use Rattle.proto_answers.specs.declared.standing.FileOffset.{FileOffset}

-- what compiles has no fault of its links
pub compiled_is_linked : (files : List FileOf) → AreCompiled files → HasNoFault (LinkFaults files)
compiled_is_linked files compiled y h = compiled.clean y (of_link y h)

-- what is answered of the token at the offset
abbrev pub TellsToken : List FileOf → FileOffset → Option ℕ → Type 0
TellsToken files spot found = (reads : List ReadOf) → AreRead files reads → (index : ℕ) → (found ≡ Some index) ↔ IsWordAt (read_at reads spot.file).tokens spot.offset index

module _ (files : List FileOf) (spot : FileOffset) (found : Option ℕ) (tells : TellsToken files spot found) where
  pub no_token_there : None ≡ found → NothingStandsAt files spot
  no_token_there none reads are token name s = none-some token (none ∙ (tells reads are token).1 s.there)

  module _ (token : ℕ) (is : found ≡ Some token) (name : Option Text) (named : IsNameAt files (at spot.file token) name) where
    -- what stands there is the token, and the name is the one that was found
    one_token : (reads : List ReadOf) → AreRead files reads → (other : ℕ) (word : Text) → StandsAt files reads spot other word → other ≡ token
    one_token reads are other word s = same_Some other token (sym ((tells reads are other).1 s.there) ∙ is)

    one_name : (reads : List ReadOf) → AreRead files reads → (other : ℕ) (word : Text) → StandsAt files reads spot other word → name ≡ Some word
    one_name reads are other word s = (named reads are word).1 (subst (λ (t : ℕ). StandsFor files reads (at spot.file t) word) (one_token reads are other word s) s.stands)

    pub no_name_there : name ≡ None → NothingStandsAt files spot
    no_name_there none reads are other word s = none-some word (sym none ∙ one_name reads are other word s)

    pub name_there : (text : Text) → name ≡ Some text → (reads : List ReadOf) → AreRead files reads → OnlyStandsAt files reads spot token text
    name_there text some reads are = record {
      this = record { there = (tells reads are token).0 is; stands = (named reads are text).0 some };
      only = λ other word s. (one_token reads are other word s, same_Some word text (sym (one_name reads are other word s) ∙ some));
    }

-- ---- what follows of it

some_token : (tokens : List Token) (offset index : ℕ) → IsWordAt tokens offset index → (t : Token) × (slice_get tokens index ≡ Some t)
some_token tokens offset index (inl c) = (c.token, c.is)
some_token tokens offset index (inr e) = (e.0.token, e.0.is)

-- the file is there
pub file_is_there : (files : List FileOf) (reads : List ReadOf) → AreRead files reads → (file offset index : ℕ) → IsWordAt (read_at reads file).tokens offset index → file < length files
file_is_there files reads are file offset index h = elim (cases_lt file (length files)) [
  | inl within ↦ within
  | inr past ↦
      let t = some_token (read_at reads file).tokens offset index h in
      let same = are.same in
      let none : (read_at reads file).tokens ≡ [] = ap (λ (r : ReadOf). r.tokens) (get_or_past reads file (record { tokens = []; tree = End }) (omega (arith, past, same))) in
      absurd (none-some t.0 (sym (ap (λ (ts : List Token). slice_get ts index) none) ∙ t.1))
]

-- what has the name may be renamed
pub stands_for_target : (files : List FileOf) (spot : FileOffset) (token : ℕ) (name : Text) → (reads : List ReadOf) × AreRead files reads × OnlyStandsAt files reads spot token name → MayBeRenamed files name
stands_for_target files spot token name (reads, are, s) = let t = s.this.stands in (reads, are, (t.0, t.1))
