-- Tables of the enums of files: file by file, and of the files of a set.
use Rattle.std.proofs.Common.{◌≡◌, ◌↔◌, ℕ, ◌==◌, ◌<◌, ◌≤◌, Bool, true, false, not, ◌&&◌, ◌||◌, cond, if◌then◌else◌, List, [], ◌∷◌, ◌++◌, length, get_or, replicate, Option, Some, None, option_map, option_and_then, refl, sym, ap, subst, ◌∙◌, inl, inr, arith, nat_eq, find, eqb-true, All, Contains, true≢false}
use Rattle.std.specs.List.{list_any}
use Rattle.std.proofs.Math.Bool.{and-true, or-false}
use Rattle.std.proofs.lemmas.Bool.{or_right}
use Rattle.std.proofs.lemmas.Cmp.{nat_eq_equiv}
use Rattle.std.proofs.lemmas.List.{get_or-replicate, length-replicate}
use Rattle.std.proofs.lemmas.List.Folds.{list_any-append}
use Rattle.proto_base.proofs.Common.{any_from, any_to, cases_Bool, cases_lt, fails_from, get_or_past, lookup}
use Rattle.indexmap.specs.IndexMap.{IndexMap, IsEmpty, get}
use Rattle.proto_tree.proofs.Common.{End}
use Rattle.proto_file_sets.specs.FileSets.{IsIn, files_in, is_in_or_new}
use Rattle.proto_file_sets.proofs.Members.{files_below, listed_files}
use Rattle.proto_files.proofs.Common.{FileOf, ReadOf}
use Rattle.proto_names_rules.specs.Grown.{At, at}
use Rattle.proto_ast.proofs.Common.{EnumOf, blocks_in}
use Rattle.proto_resolved.specs.Common.{EnumRow, EnumTable, IsEnumTable, IsEnumTableOf, IsEnumTableOfListed, enum_at, enum_row_at, enum_within, is_enum_at, is_proto3_file, lexemes_of, listed_enum_at}

abbrev if_asked : Bool → Option EnumOf → Option EnumOf
if_asked b o = if b then o else None

none_if_asked : (b : Bool) (o : Option EnumOf) → None ≡ o → None ≡ if_asked b o
none_if_asked true o e = e
none_if_asked false o e = refl

-- a file that is not there has no enum
none_past : (files : List FileOf) (reads : List ReadOf) (a : At) → length reads ≤ a.file → None ≡ enum_at files reads a
none_past files reads a past =
    ap (λ (r : ReadOf). option_map (λ b. enum_within (lexemes_of files reads a.file) (is_proto3_file files reads a.file) b.within) (find (λ b. is_enum_at a.token b.header) (blocks_in r.tree)))
    (sym (get_or_past reads a.file (record { tokens = []; tree = End }) past))

abbrev is_listed : List ℕ → ℕ → Bool
is_listed listed file = list_any (λ f. f == file) listed

-- ---- file by file

module _ {S : Type 0} (files : List FileOf) (reads : List ReadOf) where
  -- the enum that rows of files have for a token of a file
  abbrev row_in : IndexMap ℕ (IndexMap ℕ EnumRow S) S → At → Option EnumOf
  row_in rows a = option_and_then (λ (r : IndexMap ℕ EnumRow S). enum_row_at r a.token) (get nat_eq rows a.file)

  pub none_listed : (rows : IndexMap ℕ (IndexMap ℕ EnumRow S) S) → IsEmpty rows → (a : At) → row_in rows a ≡ listed_enum_at [] files reads a
  none_listed rows empty a = ap (λ (es : List (ℕ × IndexMap ℕ EnumRow S)). option_and_then (λ (r : IndexMap ℕ EnumRow S). enum_row_at r a.token) (lookup (nat_eq a.file) es)) empty

  -- one file more
  pub file_listed : (listed : List ℕ) (rows more : IndexMap ℕ (IndexMap ℕ EnumRow S) S) (file : ℕ) (own : IndexMap ℕ EnumRow S) → ((q : ℕ) → get nat_eq more q ≡ cond (nat_eq file q) (Some own) (get nat_eq rows q)) → ((token : ℕ) → enum_row_at own token ≡ enum_at files reads (at file token))
      → ((a : At) → row_in rows a ≡ listed_enum_at listed files reads a) → (a : At) → row_in more a ≡ listed_enum_at (listed ++ file ∷ []) files reads a
  file_listed listed rows more file own put is so_far a =
      ap (option_and_then (λ (r : IndexMap ℕ EnumRow S). enum_row_at r a.token)) (put a.file)
      ∙ go (nat_eq file a.file) refl
      ∙ ap (λ b. if_asked b (enum_at files reads a)) (sym (list_any-append (λ f. f == a.file) listed (file ∷ [])))
    where
      go : (b : Bool) → nat_eq file a.file ≡ b → option_and_then (λ (r : IndexMap ℕ EnumRow S). enum_row_at r a.token) (cond b (Some own) (get nat_eq rows a.file)) ≡ if_asked (is_listed listed a.file || (b || false)) (enum_at files reads a)
      go true e =
          is a.token
          ∙ ap (λ f. enum_at files reads (at f a.token)) (eqb-true file a.file e)
          ∙ ap (λ b. if_asked b (enum_at files reads a)) (sym (or_right (is_listed listed a.file) true refl))
      go false e = so_far a ∙ ap (λ b. if_asked b (enum_at files reads a)) (sym (or-false (is_listed listed a.file)))

-- ---- the files of a set

-- those that an empty set of so many files takes of another
module _ (n : ℕ) (set old none there : List Bool) (empty : old ≡ replicate n false) (other : none ≡ replicate n false) (count : length there ≡ length old) (new : (file : ℕ) → file < length old → get_or there file false ≡ is_in_or_new old set none file) where
  as_many : length there ≡ n
  as_many = count ∙ ap length empty ∙ length-replicate n false

  pub below_there : All (λ file. file < n) (files_in there)
  below_there = subst (λ m. All (λ file. file < m) (files_in there)) as_many (files_below there)

  pub listed_there : (file : ℕ) → file < n → (Contains (files_in there) file ↔ IsIn set file)
  listed_there file within =
      let none_yet : get_or (replicate n false) file false ≡ false = get_or-replicate n file false false within in
      let same : get_or there file false ≡ get_or set file false =
      new file (omega (arith, within, count, as_many))
      ∙ ap (λ s. is_in_or_new s set none file) empty
      ∙ ap (λ s. is_in_or_new (replicate n false) set s file) other
      ∙ ap (λ b. b || get_or set file false && not b) none_yet
      ∙ and-true (get_or set file false) in
      let both = listed_files there file in
      (λ c. sym same ∙ (both.0 c).1, λ is. both.1 (omega (arith, as_many, within), same ∙ is))

answers_alike : (listed : List ℕ) (set : List Bool) (file : ℕ) → (Contains listed file ↔ IsIn set file) → is_listed listed file ≡ get_or set file false
answers_alike listed set file same = elim (cases_Bool (get_or set file false)) [
  | inl is ↦ any_from (λ f. f == file) listed file (same.1 is) (nat_eq_equiv.refl file) ∙ sym is
  | inr other ↦
      fails_from (is_listed listed file) (λ t. (let found = any_to (λ f. f == file) listed t in
      true≢false (sym (same.0 (subst (Contains listed) (eqb-true found.0 file found.2) found.1)) ∙ other)))
      ∙ sym other
]

pub is_enum_table_of : (files : List FileOf) (set : List Bool) (listed : List ℕ) (table : EnumTable) → ((file : ℕ) → file < length files → (Contains listed file ↔ IsIn set file)) → IsEnumTableOfListed files listed table → IsEnumTableOf files set table
is_enum_table_of files set listed table same h reads are a = h reads are a ∙ elim (cases_lt a.file (length files)) [
  | inl within ↦ ap (λ b. if_asked b (enum_at files reads a)) (answers_alike listed set a.file (same a.file within))
  | inr past ↦ (let none = none_past files reads a (omega (arith, past, are.same)) in
      sym (none_if_asked (is_listed listed a.file) (enum_at files reads a) none)
      ∙ none_if_asked (get_or set a.file false) (enum_at files reads a) none)
]

-- with every file marked it has the enums of all files
pub all_marked : (files : List FileOf) (marks : List Bool) (table : EnumTable) → marks ≡ replicate (length files) true → IsEnumTableOf files marks table → IsEnumTable files table
all_marked files marks table all h reads are a = h reads are a ∙ elim (cases_lt a.file (length files)) [
  | inl within ↦
      ap (λ (b : Bool). if_asked b (enum_at files reads a))
      (ap (λ (bs : List Bool). get_or bs a.file false) all ∙ get_or-replicate (length files) a.file true false within)
  | inr past ↦ (let none = none_past files reads a (omega (arith, past, are.same)) in
      sym (none_if_asked (get_or marks a.file false) (enum_at files reads a) none) ∙ none)
]
