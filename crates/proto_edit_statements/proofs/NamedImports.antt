-- The import of a path is found by the value of its string.
use Rattle.std.proofs.Common.{◌≡◌, ℕ, zero, suc, ◌+◌, ◌<◌, ◌≤◌, Bool, true, false, List, [], ◌∷◌, length, get_or, drop, map, Option, Some, None, refl, sym, ap, subst, ◌∙◌, inl, inr, arith, if◌then◌else◌, is_some, Contains, option_and_then}
use Rattle.proto_base.proofs.Common.{both_ways, cases_Bool, cond-false, cond-true, drop_all, length-map, Contains-append_cases, Contains-append_left, Contains-append_right, or_nothing, contains_cases, contains_head, contains_map, from_map, same_from_word, word_from_same}
use Rattle.std.proofs.Math.Seq.{drop-cons}
use Rattle.proto_text.specs.declared.kind.PieceKind.TheVariants.{Solid}
use Rattle.proto_text.specs.declared.kind.TokenKind.{TokenKind}
use Rattle.proto_text.specs.declared.kind.TokenKind.TheVariants.{Word, Number, Text, Punctuation}
use Rattle.proto_text.proofs.Common.{IsLexeme, IsString, word_at, Lexeme, lexeme_at, is_value, value_of, tokens_are_lexemes, strings_have_values, value_again, value_is_value_of}
use Rattle.proto_tree.specs.declared.piece.Statement.{Statement}
use Rattle.proto_tree.specs.declared.piece.Statement.TheVariants as statement
use Rattle.proto_tree.specs.declared.tree.File.{File}
use Rattle.proto_tree.specs.declared.tree.Import.{Import}
use Rattle.proto_tree.specs.Modifiers.{is_public, is_weak}
use Rattle.proto_tree.specs.declared.tree.Item.{Item}
use Rattle.proto_tree.proofs.Common.{item_tree, tree_of_file, trees, Tree, End, Leaf, Block}
use Rattle.proto_files.proofs.Common.{ReadOf, AreRead, read_at, FileOf, file_at, is_string, string_at}
use Rattle.proto_names_outline.proofs.Common.{Wanted, imports_in, statement_imports, import_here as path_here, imports_are_strings}
use Rattle.proto_names_rules.proofs.Common.{AskedImport, At}
use Rattle.proto_names_imports.specs.Links.{all_wanted, asked_as, text_of}
use Rattle.proto_edit_rules.specs.Statements.{AfterBlock, AfterLeaf, First, StandsIn, word_of_token}
use Rattle.proto_edit_rules.specs.AddImport.{IsImported, asked_in}
use Rattle.proto_edit_statements.specs.Imported.{IsImportNamed, import_in}
use Rattle.proto_edit_statements.proofs.ImportTrees.{import_here, import_there, none_there}

-- ---- a string token and its value

by_value : (o : Option (List ℕ)) (path : List ℕ) → is_value o path ≡ true → o ≡ Some path
by_value None path h = absurd (both_ways false refl h)
by_value (Some v) path h = ap Some (word_from_same v path h)

value_said : (ls : List Lexeme) (i : ℕ) (path : List ℕ) → is_value (string_at ls i) path ≡ true → value_of (word_at ls i) ≡ Some path
value_said [] i path h = absurd (both_ways false refl h)
value_said (l ∷ ls) zero path h = elim (cases_Bool (is_string l.kind)) [
  | inl t ↦ by_value (value_of l.text) path (sym (ap (λ o. is_value (option_and_then value_of o) path) (cond-true (is_string l.kind) (Some l.text) None t)) ∙ h)
  | inr f ↦ absurd (both_ways false refl (sym (ap (λ o. is_value (option_and_then value_of o) path) (cond-false (is_string l.kind) (Some l.text) None f)) ∙ h))
]
value_said (l ∷ ls) (suc i) path h = value_said ls i path h

value_says : (ls : List Lexeme) (i : ℕ) (d : Lexeme) (path : List ℕ) → i < length ls → (get_or ls i d).kind ≡ Text → value_of (word_at ls i) ≡ Some path → is_value (string_at ls i) path ≡ true
value_says [] i d path lt k h = absurd (omega (arith, lt))
value_says (l ∷ ls) zero d path lt k h =
    ap (λ z. is_value (option_and_then value_of (if is_string z then Some l.text else None)) path) k
    ∙ ap (λ o. is_value o path) h ∙ same_from_word path path refl
value_says (l ∷ ls) (suc i) d path lt k h = value_says ls i d path (omega (arith, lt)) k h

text_at_place : (ls : List Lexeme) (i : ℕ) (d : Lexeme) → i < length ls → word_at ls i ≡ (get_or ls i d).text
text_at_place [] i d lt = absurd (omega (arith, lt))
text_at_place (l ∷ ls) zero d lt = refl
text_at_place (l ∷ ls) (suc i) d lt = text_at_place ls i d (omega (arith, lt))

-- what is spelled as a string is one
string_kind : (k : TokenKind) (w : List ℕ) → IsLexeme (Solid k) w → IsString w → k ≡ Text
string_kind Text w l s = refl
string_kind Word [] l s = absurd l
string_kind Word (b ∷ bytes) l s =
    let e = s.2.1 in
    let c = s.2.0 in
    let k = l.0 in
    absurd cc
string_kind Number [] l s = absurd l.0
string_kind Number (b ∷ bytes) l s =
    let e = s.2.1 in
    let c = s.2.0 in
    let k = l.0.0 in
    absurd cc
string_kind Punctuation w l s =
    let e = s.2.1 in
    let c = s.2.0 in
    let f = l.1 in
    let k = l.2 in
    absurd cc

-- ---- imports and their statements

stands_wanted : (i : Import) (t : Tree) → StandsIn (statement.Import i) t → Contains (imports_in t) (record { path = i.path; is_public = is_public i.modifier; is_weak = is_weak i.modifier })
stands_wanted i _ (First rest) = contains_head (record { path = i.path; is_public = is_public i.modifier; is_weak = is_weak i.modifier }) (imports_in rest)
stands_wanted i _ (AfterLeaf x rest k) = Contains-append_right (statement_imports x) (imports_in rest) (record { path = i.path; is_public = is_public i.modifier; is_weak = is_weak i.modifier }) (stands_wanted i rest k)
stands_wanted i _ (AfterBlock h a within b rest k) = stands_wanted i rest k

of_statement : (s : Statement) (w : Wanted) → Contains (statement_imports s) w → (i : Import) × (s ≡ statement.Import i) × (i.path ≡ w.path)
of_statement (statement.Import i) w c = elim (contains_cases (record { path = i.path; is_public = is_public i.modifier; is_weak = is_weak i.modifier }) w [] c) [
  | inl e ↦ (i, refl, ap (λ (z : Wanted). z.path) e)
  | inr d ↦ absurd (omega (arith, d.1))
]
of_statement _ w c = absurd (omega (arith, c.1))

wanted_stands : (t : Tree) (w : Wanted) → Contains (imports_in t) w → (i : Import) × StandsIn (statement.Import i) t × (i.path ≡ w.path)
wanted_stands End w c = absurd (omega (arith, c.1))
wanted_stands (Leaf s rest) w c = elim (Contains-append_cases (statement_imports s) (imports_in rest) w c) [
  | inl d ↦ (let x = of_statement s w d in (x.0, subst (λ z. StandsIn (statement.Import x.0) (Leaf z rest)) (sym x.1) (First rest), x.2))
  | inr d ↦ (let x = wanted_stands rest w d in (x.0, AfterLeaf s rest x.1, x.2))
]
wanted_stands (Block h a within b rest) w c = let x = wanted_stands rest w c in (x.0, AfterBlock h a within b rest x.1, x.2)

-- ---- what is asked for in a file

asked_there : (T : At → List ℕ) (n : ℕ) (rs : List ReadOf) (k : ℕ) (w : Wanted) → k < length rs → Contains (imports_in (read_at rs k).tree) w → Contains (all_wanted T n rs) (asked_as T (n + k) w)
asked_there T n [] k w l c = absurd (omega (arith, l))
asked_there T n (r ∷ rs) zero w l c =
    let e : n ≡ n + 0 = omega arith in
    subst (λ m. Contains (all_wanted T n (r ∷ rs)) (asked_as T m w)) e (Contains-append_left (map (asked_as T n) (imports_in r.tree)) (all_wanted T (suc n) rs) (asked_as T n w) (contains_map (asked_as T n) (imports_in r.tree) w c))
asked_there T n (r ∷ rs) (suc k) w l c =
    let e : suc n + k ≡ n + suc k = omega arith in
    Contains-append_right (map (asked_as T n) (imports_in r.tree)) (all_wanted T (suc n) rs) (asked_as T (n + suc k) w)
    (subst (λ m. Contains (all_wanted T (suc n) rs) (asked_as T m w)) e (asked_there T (suc n) rs k w (omega (arith, l)) c))

asked_from : (T : At → List ℕ) (n : ℕ) (rs : List ReadOf) (a : AskedImport) → Contains (all_wanted T n rs) a → (k : ℕ) × (w : Wanted) × (k < length rs) × Contains (imports_in (read_at rs k).tree) w × (asked_as T (n + k) w ≡ a)
asked_from T n [] a c = absurd (omega (arith, c.1))
asked_from T n (r ∷ rs) a c = elim (Contains-append_cases (map (asked_as T n) (imports_in r.tree)) (all_wanted T (suc n) rs) a c) [
  | inl d ↦
      let w = from_map (asked_as T n) (imports_in r.tree) a d in
      let e : n ≡ n + 0 = omega arith in
      (0, w.0, omega arith, w.1, subst (λ m. asked_as T m w.0 ≡ a) e w.2)
  | inr d ↦
      let o = asked_from T (suc n) rs a d in
      let l = o.2 in
      let e : suc n + o.0 ≡ n + suc o.0 = omega arith in
      (suc o.0, o.1, omega (arith, l), o.3, subst (λ m. asked_as T m o.1 ≡ a) e o.4)
]

-- ---- the import of a path

module _ (files : List FileOf) (reads : List ReadOf) (are : AreRead files reads) (file : ℕ) (within : file < length files) (path : List ℕ) (ls : List Lexeme)
    (lexemes : ls ≡ map (lexeme_at (file_at files file).bytes) (read_at reads file).tokens) where
  abbrev tree : Tree
  tree = (read_at reads file).tree

  abbrev T : At → List ℕ
  T = text_of files reads

  abbrev says : ℕ → Bool
  says i = is_value (string_at ls i) path

  inside : file < length reads
  inside = let s = are.same in omega (arith, within, s)

  found : (i : Import) → import_in says tree ≡ Some i → IsImportNamed files reads file path (Some i)
  found i h =
      let x = import_there says tree i h in
      let value : value_of (word_of_token files reads file i.path) ≡ Some path = ap (λ z. value_of (word_at z i.path)) (sym lexemes) ∙ value_said ls i.path path x.1 in
      let w : Wanted = record { path = i.path; is_public = is_public i.modifier; is_weak = is_weak i.modifier } in
      let e : 0 + file ≡ file = omega arith in
      let c = subst (λ m. Contains (asked_in files reads) (asked_as T m w)) e (asked_there T 0 reads file w inside (stands_wanted i tree x.0)) in
      ((asked_as T file w, c, refl, ap or_nothing value), record { within = within; stands = x.0; value = (value_is_value_of (word_of_token files reads file i.path) path).1 value })

  none : import_in says tree ≡ None → IsImported files reads file path → ⊥
  none h x =
      let a = x.0 in
      let o = asked_from T 0 reads a x.1 in
      let e : 0 + o.0 ≡ o.0 = omega arith in
      let here : o.0 ≡ file = sym e ∙ ap (λ (z : AskedImport). z.place.file) o.4 ∙ x.2 in
      let c : Contains (imports_in tree) o.1 = subst (λ k. Contains (imports_in (read_at reads k).tree) o.1) here o.3 in
      let w = o.1 in
      let bytes = (file_at files file).bytes in
      let tokens = (read_at reads file).tokens in
      let s = wanted_stands tree w c in
      let string = imports_are_strings (file_at files file).profile bytes tokens tree (are.trees file within) w c in
      let v = strings_have_values (word_of_token files reads file w.path) string in
      let value : value_of (word_of_token files reads file w.path) ≡ Some v.0 = value_again (word_of_token files reads file w.path) v.0 v.1 in
      let asked : asked_as T file w ≡ a = subst (λ m. asked_as T m w ≡ a) (e ∙ here) o.4 in
      let same : v.0 ≡ path = sym (ap or_nothing value) ∙ ap (λ (z : AskedImport). z.path) asked ∙ x.3 in
      let all = map (lexeme_at bytes) tokens in
      let none_at : Lexeme = record { kind = Word; text = [] } in
      let there = path_here (file_at files file).profile bytes tokens tree (are.trees file within) w c in
      let long = length-map tokens (lexeme_at bytes) in
      let l : w.path < length all = omega (arith, there, long) in
      let kind : (get_or all w.path none_at).kind ≡ Text = string_kind (get_or all w.path none_at).kind (get_or all w.path none_at).text (tokens_are_lexemes bytes tokens (are.tokens file within) w.path none_at l) (subst IsString (text_at_place all w.path none_at l) string) in
      let yes : says w.path ≡ true = ap (λ z. is_value (string_at z w.path) path) lexemes ∙ value_says all w.path none_at path l kind (value ∙ ap Some same) in
      both_ways (says w.path) (ap says (sym s.2) ∙ none_there says s.0 tree s.1 h) yes

  pub is_named : (o : Option Import) → import_in says tree ≡ o → IsImportNamed files reads file path o
  is_named None h = none h
  is_named (Some i) h = found i h

-- ---- item by item

module _ (says : ℕ → Bool) (file : File) (items : List Item) (of_file : items ≡ file.items.items) where
  whole : import_in says (tree_of_file file) ≡ import_in says (trees item_tree items)
  whole = ap (λ xs. import_in says (trees item_tree xs)) (sym of_file)

  pub at_item : (i : ℕ) (item : Item) (x : Import) → i < length items → item ≡ get_or items i item
      → import_in says (trees item_tree items) ≡ import_in says (trees item_tree (drop i items)) → Some x ≡ import_in says (item_tree item) → import_in says (tree_of_file file) ≡ Some x
  at_item i item x l e before h =
      whole ∙ before
      ∙ ap (λ xs. import_in says (trees item_tree xs)) (drop-cons items i item l ∙ ap (λ y. y ∷ drop (suc i) items) (sym e))
      ∙ sym (import_here says (item_tree item) (trees item_tree (drop (suc i) items)) x h)

  pub behind_all_items : (i : ℕ) → length items ≤ i → import_in says (trees item_tree items) ≡ import_in says (trees item_tree (drop i items)) → import_in says (tree_of_file file) ≡ None
  behind_all_items i l before = whole ∙ before ∙ ap (λ xs. import_in says (trees item_tree xs)) (drop_all i items l)

-- ---- whether one is named

pub is_imported : (files : List FileOf) (reads : List ReadOf) (k : ℕ) (path : List ℕ) (o : Option Import) → IsImportNamed files reads k path o → is_some o ≡ true → IsImported files reads k path
is_imported files reads k path None h e = absurd (both_ways false refl e)
is_imported files reads k path (Some i) h e = h.0

pub not_imported : (files : List FileOf) (reads : List ReadOf) (k : ℕ) (path : List ℕ) (o : Option Import) → IsImportNamed files reads k path o → is_some o ≡ false → IsImported files reads k path → ⊥
not_imported files reads k path None h e = h
not_imported files reads k path (Some i) h e = absurd (both_ways true e refl)
