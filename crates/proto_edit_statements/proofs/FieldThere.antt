-- The statement of the field of a name, and what is known of it.
use Rattle.std.proofs.Common.{◌≡◌, ℕ, suc, ◌+◌, ◌<◌, ◌≤◌, ◌^◌, min, List, [], ◌∷◌, ◌++◌, codes, length, map, Option, Some, None, refl, sym, ap, ap₂, subst, ◌∙◌, arith, length-append, option_map}
use Rattle.proto_base.proofs.Common.{length-map, none-some, same_Some}
use Rattle.proto_text.specs.declared.lexer.Token.{Token as TextToken}
use Rattle.proto_text.proofs.Common.{bytes_between, end_before, offset_at, word_at, Lexeme, lexeme_at, one_token_list}
use Rattle.proto_tree.specs.declared.class.Class.TheVariants as class
use Rattle.proto_tree.specs.declared.piece.Statement.{Statement}
use Rattle.proto_tree.proofs.Common.{Mark, one, ReadsIn, Tree, flat, trees_are_numbered_in}
use Rattle.proto_files.proofs.Common.{ReadOf, AreRead, read_at, FileOf, file_at}
use Rattle.proto_names_rules.proofs.Common.{place_from, place_of as place_of_declared, At, at, Declared, Source, Token, shifted_source}
use Rattle.proto_ast.specs.Numbers.{number_value, past}
use Rattle.proto_edit_captures.proofs.Common.{IsDeclaredBy, declared_by, path_of_declared, place_last}
use Rattle.proto_edit_statement_laws.proofs.Common.{IsFieldOf, StandsAt, begins, deletion, first_token, next_token, splice, reservation_text, found, some_marks, fit_long, close_at, closed}
use Rattle.proto_edit_statement_laws.specs.DeletionChanges.{FieldsAreThere}
use Rattle.proto_edit_rules.specs.DeleteField.{FieldAt, IsFieldAt, name_of_field, field_number_value, splice_of_deletion}
use Rattle.proto_edit_statements.specs.Common.{FieldStatement as FoundAt, field_in, statement_end, number_token, place_of_statement, FieldPlace, IsFieldNamed, IsFieldToken, StandsInOrder, last_by, last_replaced, text_by, text_if, FieldName}
use Rattle.proto_edit_statements.proofs.FieldCases.{file_there}
use Rattle.proto_edit_statements.proofs.FieldEnds.{field_last}
use Rattle.proto_edit_statements.proofs.FieldStands.{none_missing, stands_found}
use Rattle.proto_base.specs.declared.profile.Profile.{Profile}

-- ---- a field that is declared is found

module _ (law : FieldsAreThere) (files : List FileOf) (reads : List ReadOf) (are : AreRead files reads) (name : List ℕ) (field : FieldName) (is : IsFieldToken files reads name field) where
  abbrev aim : Declared At
  aim = is.0.aim

  of_file : IsDeclaredBy 0 reads aim
  of_file = declared_by 0 reads aim is.1.named.within

  pub some_place : option_map place_of_statement (field_in field.token (read_at reads field.file).tree) ≡ None → ⊥
  some_place none =
      let o = of_file in
      let low = o.inside in
      let same = are.same in
      let l : o.k < length files = omega (arith, low, same) in
      let kind = ap (λ (z : Declared At). z.kind) o.is ∙ is.1.kind in
      let f = law files reads o.k o.p l o.within kind in
      let path : aim.path ≡ map (shifted_source (at (0 + o.k))) o.p.above ++ Token (at (0 + o.k) f.0.name) ∷ [] =
      path_of_declared 0 reads aim o ∙ ap (λ (z : Source ℕ). map (shifted_source (at (0 + o.k))) o.p.above ++ shifted_source (at (0 + o.k)) z ∷ []) f.3 in
      let one : place_of_declared aim ≡ at (0 + o.k) f.0.name = ap (place_from (at aim.file 0)) path ∙ place_last (at aim.file 0) (map (shifted_source (at (0 + o.k))) o.p.above) (at (0 + o.k) f.0.name) in
      let other : place_of_declared aim ≡ is.0.token = ap (place_from (at aim.file 0)) is.1.named.path ∙ place_last (at aim.file 0) is.0.above is.0.token in
      let both : at (0 + o.k) f.0.name ≡ at field.file field.token = sym one ∙ other ∙ is.2 in
      let zero : 0 + o.k ≡ o.k = omega arith in
      let file_same : f.0.file ≡ field.file = f.2 ∙ sym zero ∙ ap (λ (z : At). z.file) both in
      let token_same : f.0.name ≡ field.token = ap (λ (z : At). z.token) both in
      let stands = subst (λ k. StandsAt f.0.statement f.0.oneof (read_at reads k).tree) file_same f.1.stands in
      let declares = subst (λ n. IsFieldOf f.0.statement n f.0.number) token_same f.1.declares in
      none_missing field.token f.0.number (read_at reads field.file).tree declares stands (nothing (field_in field.token (read_at reads field.file).tree) none)
    where
      nothing : (o : Option FoundAt) → option_map place_of_statement o ≡ None → o ≡ None
      nothing None h = refl
      nothing (Some a) h = absurd (none-some (place_of_statement a) (sym h))

-- ---- where it stands

some_found : (o : Option FoundAt) (p : FieldPlace) → option_map place_of_statement o ≡ Some p → (a : FoundAt) × (o ≡ Some a) × (place_of_statement a ≡ p)
some_found None p h = absurd (none-some p h)
some_found (Some a) p h = (a, refl, same_Some (place_of_statement a) p h)

last_inside : (profile : Profile) (text : List ℕ) (tokens : List TextToken) (t : Tree) (s : Statement) (o : Option ℕ) (name number : ℕ) → ReadsIn profile text tokens t → StandsAt s o t → IsFieldOf s name number
    → (first_token s ≤ statement_end s) × (statement_end s ≤ last_by o (statement_end s)) × (last_by o (statement_end s) < length tokens)
last_inside profile text tokens t s None name number reads h f =
    let x = found profile text tokens t s reads h in
    let next = x.next in
    let within = x.within in
    let some = some_marks s in
    let last = field_last s name number f in
    (omega (arith, next, some, last), omega arith, omega (arith, within, last))
last_inside profile text tokens t s (Some close) name number reads h f =
    let x = found profile text tokens t s reads h in
    let next = x.next in
    let start = x.at in
    let some = some_marks s in
    let last = field_last s name number f in
    let c = closed t h in
    let whole = map (lexeme_at text) tokens in
    let shut = close_at t close _ (trees_are_numbered_in profile t whole reads.spells) c.0 in
    let beyond = c.1 in
    let long = fit_long profile 0 (flat t) whole reads.spells.fits ∙ length-map tokens (lexeme_at text) in
    let parts = ap (λ (z : List Mark). length z) c.0.parts ∙ length-append c.0.front (one class.Close close ++ c.0.back) in
    let rest = length-append (one class.Close close) c.0.back in
    let front = c.0.long in
    (omega (arith, next, some, last), omega (arith, next, start, last, shut, beyond), omega (arith, shut, front, long, parts, rest))

module _ (files : List FileOf) (reads : List ReadOf) (are : AreRead files reads) (name : List ℕ) (field : FieldName) (is : IsFieldToken files reads name field) (place : FieldPlace)
    (found_at : option_map place_of_statement (field_in field.token (read_at reads field.file).tree) ≡ Some place) where
  within : field.file < length files
  within = file_there files reads are name field is

  whole : ReadsIn (file_at files field.file).profile (file_at files field.file).bytes (read_at reads field.file).tokens (read_at reads field.file).tree
  whole = are.trees field.file within

  pub it : (a : FoundAt) × (field_in field.token (read_at reads field.file).tree ≡ Some a) × (place_of_statement a ≡ place)
  it = some_found (field_in field.token (read_at reads field.file).tree) place found_at

  stands : StandsAt it.0.statement it.0.close (read_at reads field.file).tree × IsFieldOf it.0.statement field.token (number_token it.0.statement)
  stands = stands_found field.token (read_at reads field.file).tree it.0 whole.spells.well_formed it.1

  abbrev pub made : FoundAt → FieldAt
  made a = record { file = field.file; statement = a.statement; oneof = a.close; name = field.token; number = number_token a.statement }

  pub is_field_at : IsFieldAt files reads (made it.0)
  is_field_at = record { within = within; stands = stands.0; declares = stands.1 }

  pub in_order : StandsInOrder files field.file place
  in_order =
      let x = last_inside (file_at files field.file).profile (file_at files field.file).bytes (read_at reads field.file).tokens (read_at reads field.file).tree it.0.statement it.0.close field.token (number_token it.0.statement) whole stands.0 stands.1 in
      subst (StandsInOrder files field.file) it.2
      (x.0, x.1, λ tokens t. subst (λ (z : List TextToken). last_by it.0.close (statement_end it.0.statement) < length z) (one_token_list (file_at files field.file).bytes (read_at reads field.file).tokens tokens (are.tokens field.file within) t) x.2)

-- ---- its splice

pub min_past : (n : ℕ) → n < 2 ^ 64 → min past n ≡ n
min_past n l = omega (arith, l)

pub deletion_is : (text : List ℕ) (tokens : List TextToken) (s : Statement) (o : Option ℕ) (number : ℕ) (name : List ℕ) (from to : ℕ) (new : List ℕ) → next_token s ≡ suc (statement_end s)
    → from ≡ offset_at tokens (first_token s) → to ≡ end_before tokens (suc (last_by o (statement_end s))) → new ≡ text_if text tokens (statement_end s) o (reservation_text number name)
    → splice text from to new ≡ deletion text tokens s o number name
deletion_is text tokens s None number name from to new last a b c =
    ap (λ x. splice text x to new) a ∙ ap₂ (λ x y. splice text (begins tokens s) x y) (b ∙ ap (end_before tokens) (sym last)) c
deletion_is text tokens s (Some close) number name from to new last a b c =
    ap (λ x. splice text x to new) a
    ∙ ap₂ (λ x y. splice text (begins tokens s) x y) b (c ∙ ap (λ z. bytes_between text z (end_before tokens (suc close)) ++ (codes " " ++ reservation_text number name)) (ap (end_before tokens) (sym last)))

module _ (files : List FileOf) (reads : List ReadOf) (are : AreRead files reads) (name : List ℕ) (field : FieldName) (is : IsFieldToken files reads name field) (place : FieldPlace)
    (found_at : option_map place_of_statement (field_in field.token (read_at reads field.file).tree) ≡ Some place) where
  abbrev bytes_of : List ℕ
  bytes_of = (file_at files field.file).bytes

  abbrev rest : List TextToken
  rest = (read_at reads field.file).tokens

  abbrev pub field_at : FieldAt
  field_at = made files reads are name field is place found_at (it files reads are name field is place found_at).0

  -- its number, and its name, as they were read
  pub number_told : (ls : List Lexeme) → ls ≡ map (lexeme_at bytes_of) rest → (got : List ℕ) → got ≡ word_at ls place.number → number_value got ≡ field_number_value files reads field_at
  number_told ls lexemes got h =
      ap number_value (h ∙ ap (λ z. word_at z place.number) lexemes ∙ ap (λ (p : FieldPlace). word_at (map (lexeme_at bytes_of) rest) p.number) (sym (it files reads are name field is place found_at).2))

  pub is_named : IsFieldNamed files reads name field_at
  is_named = record { t = is.0; field = is.1; token = is.2; stands = is_field_at files reads are name field is place found_at }

  pub deleted_is : (from to : ℕ) (new : List ℕ) (number : ℕ) (word : List ℕ) → number ≡ field_number_value files reads field_at → word ≡ name_of_field files reads field_at → from ≡ offset_at rest place.first → to ≡ end_before rest (suc (last_replaced place))
      → new ≡ text_by bytes_of rest place (reservation_text number word) → splice bytes_of from to new ≡ splice_of_deletion files reads field_at
  deleted_is from to new number word number_is word_is from_is to_is new_is =
      let x = it files reads are name field is place found_at in
      let declares = (is_field_at files reads are name field is place found_at).declares in
      deletion_is bytes_of rest x.0.statement x.0.close (field_number_value files reads field_at) (name_of_field files reads field_at) from to new (field_last x.0.statement field.token (number_token x.0.statement) declares)
      (from_is ∙ ap (λ (p : FieldPlace). offset_at rest p.first) (sym x.2)) (to_is ∙ ap (λ (p : FieldPlace). end_before rest (suc (last_replaced p))) (sym x.2))
      (new_is ∙ ap (λ (p : FieldPlace). text_by bytes_of rest p (reservation_text number word)) (sym x.2) ∙ ap₂ (λ n w. text_by bytes_of rest (place_of_statement x.0) (reservation_text n w)) number_is word_is)
