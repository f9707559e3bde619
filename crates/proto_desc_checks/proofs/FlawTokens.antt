-- Each flaw of a file stands at a token that is there (for the crates above).
use Rattle.std.proofs.Common.{ℕ, suc, ◌<◌, Bool, true, false, not, ◌&&◌, List, [], ◌∷◌, ◌++◌, cond, length, map, Option, Some, None, arith, if◌then◌else◌, ℤ, pos, codes, Contains, flat_map, find, int_eq, bytes_eq}
use Rattle.proto_base.proofs.Common.{AllByRecursion, list_any, All-contains, All-from_recursion, length-map, contains_head, contains_later}
use Rattle.proto_base.specs.declared.fault.FaultKind.{FaultKind}
use Rattle.proto_base.specs.declared.fault.FaultKind.TheVariants as kind
use Rattle.proto_text.specs.declared.lexer.Token.{Token}
use Rattle.proto_text.specs.declared.kind.TokenKind.TheVariants as token_kind
use Rattle.proto_text.specs.Tokens.{Lexeme, lexeme_at}
use Rattle.proto_tree.specs.declared.class.Class.{Class}
use Rattle.proto_tree.specs.declared.class.Class.TheVariants as class
use Rattle.proto_tree.specs.declared.class.Expected.TheVariants as want
use Rattle.proto_tree.specs.declared.piece.Header.{Header}
use Rattle.proto_tree.specs.declared.piece.Header.TheVariants as header
use Rattle.proto_tree.specs.declared.piece.Statement.{Statement}
use Rattle.proto_tree.specs.declared.piece.Statement.TheVariants as statement
use Rattle.proto_tree.specs.declared.tree.Behind.{Behind}
use Rattle.proto_tree.specs.declared.tree.Separated.{Separated}
use Rattle.proto_tree.specs.declared.tree.FieldType.{FieldType}
use Rattle.proto_tree.specs.declared.tree.FieldType.TheVariants as field_type
use Rattle.proto_tree.specs.declared.tree.Field.{Field}
use Rattle.proto_tree.specs.declared.tree.MapField.{MapField}
use Rattle.proto_tree.specs.declared.tree.Range.{Range}
use Rattle.proto_tree.specs.declared.tree.ReservedList.{ReservedList}
use Rattle.proto_tree.specs.declared.tree.ReservedList.TheVariants as reserved_list
use Rattle.proto_tree.specs.declared.tree.Settings.{Settings}
use Rattle.proto_tree.specs.declared.tree.Signed.{Signed}
use Rattle.proto_tree.specs.declared.tree.Value.{Value}
use Rattle.proto_tree.proofs.Common.{Mark, flat_all, flat_behind, flat_header, flat_number, flat_option, flat_range, flat_reserved_list, flat_separated, flat_setting, flat_settings, flat_signed, flat_statement, flat_type, flat_up_to, flat_value, one as one_mark, only, text_mark, name, ReadsIn, Tree, End, Leaf, Block, flat, marks_fit_in}
use Rattle.proto_ast.proofs.Common.{is_allowed, is_named, FieldOf, OptionOf, BlockOf, blocks_in, closed_ranges, enum_ranges, extension_words, fields_from, fields_in, map_field, reserved_names_of, options_in, setting_options, plain_field, ranges_of, reserved_names, reserved_names_in, separated, settings_of, statement_fields, statement_options, statement_values, statements, values_in, Scene, meant_by, text, value, json_name_of}
use Rattle.proto_ast.specs.declared.options.Element.{Element}
use Rattle.proto_ast.specs.declared.options.Element.TheVariants as element
use Rattle.proto_desc_numbers.specs.declared.flaw.Flaw.{Flaw}
use Rattle.proto_desc_numbers.specs.declared.numbers.NumberAt.{NumberAt}
use Rattle.proto_ast.specs.declared.ranges.RangeAt.{RangeAt}
use Rattle.proto_desc_numbers.proofs.Common.{after_earlier, flaw_if, marked, broken_ranges, enum_range_of, first_of_signed, is_field_number, is_inside, is_sound_range, is_value_number, least_value, most_field, most_value, number_of_field, number_of_value, outside, overlaps, range_of, repeated_numbers, reserved_numbers, share, field_number_flaws}
use Rattle.proto_desc_checks.specs.Common.{bars_extend, extend_flaws, flaws_of_extension, required_extensions, default_flaws, field_flaws, has_closed_enum, lacks_label, map_key_flaws, misplaced_options, option_flaws, misfit_flaws, proto3_defaults, repeated_options, required_flaws, starts_wrong, type_flaws, type_token, wrong_default, alias_flaws, allows_alias, block_flaws, enum_flaws, extension_flaws, file_flaws, first_value_flaws, is_empty, json_clashes, message_flaws, name_flaws, reserved_again, value_number_flaws, value_option_flaws, with_reserved_name}
use Rattle.proto_tree.specs.declared.tree.Setting.{Setting}
use Rattle.proto_tree.specs.declared.tree.Setting.TheVariants as setting
use Rattle.proto_tree.specs.declared.tree.Reference.{Reference}
use Rattle.proto_base.specs.declared.profile.Profile.{Profile}

-- ---- lists

pub both : {A : Type 0} (P : A → Type 0) (xs ys : List A) → AllByRecursion P xs → AllByRecursion P ys → AllByRecursion P (xs ++ ys)
both P [] ys h g = g
both P (x ∷ xs) ys h g = (h.0, both P xs ys h.1 g)

pub fore : {A : Type 0} (P : A → Type 0) (xs ys : List A) → AllByRecursion P (xs ++ ys) → AllByRecursion P xs
fore P [] ys h = tt
fore P (x ∷ xs) ys h = (h.0, fore P xs ys h.1)

pub aft : {A : Type 0} (P : A → Type 0) (xs ys : List A) → AllByRecursion P (xs ++ ys) → AllByRecursion P ys
aft P [] ys h = h
aft P (x ∷ xs) ys h = aft P xs ys h.1

pub all_mapped : {A B : Type 0} (P : A → Type 0) (Q : B → Type 0) (f : A → B) → ((a : A) → P a → Q (f a)) → (xs : List A) → AllByRecursion P xs → AllByRecursion Q (map f xs)
all_mapped P Q f h [] g = tt
all_mapped P Q f h (x ∷ xs) g = (h x g.0, all_mapped P Q f h xs g.1)

pub flattened : {A B : Type 0} (P : A → Type 0) (Q : B → Type 0) (f : A → List B) → ((a : A) → P a → AllByRecursion Q (f a)) → (xs : List A) → AllByRecursion P xs → AllByRecursion Q (flat_map f xs)
flattened P Q f h [] g = tt
flattened P Q f h (x ∷ xs) g = both Q (f x) (flat_map f xs) (h x g.0) (flattened P Q f h xs g.1)

module _ (Here : ℕ → Type 0) where
  abbrev Marks : List Mark → Type 0
  Marks ms = AllByRecursion (λ m. Here m.at) ms

  abbrev All_here : List ℕ → Type 0
  All_here ts = AllByRecursion Here ts

  left : (xs ys : List Mark) → Marks (xs ++ ys) → Marks xs
  left = fore (λ m. Here m.at)

  right : (xs ys : List Mark) → Marks (xs ++ ys) → Marks ys
  right = aft (λ m. Here m.at)

  -- ---- the tokens of parts

  behind_here : {A : Type 0} (c : Class) (view : A → List Mark) (bs : List (Behind A)) → Marks (flat_all (flat_behind c view) bs) → AllByRecursion (λ a. Marks (view a)) (map (λ b. b.item) bs)
  behind_here c view [] h = tt
  behind_here c view (b ∷ bs) h = (
    (left (flat_behind c view b) (flat_all (flat_behind c view) bs) h).1,
    behind_here c view bs (right (flat_behind c view b) (flat_all (flat_behind c view) bs) h),
  )

  separated_here : {A : Type 0} (c : Class) (view : A → List Mark) (s : Separated A) → Marks (flat_separated c view s) → AllByRecursion (λ a. Marks (view a)) (separated s)
  separated_here c view s h = (left (view s.first) (flat_all (flat_behind c view) s.rest) h, behind_here c view s.rest (right (view s.first) (flat_all (flat_behind c view) s.rest) h))

  abbrev Options_here : List OptionOf → Type 0
  Options_here os = AllByRecursion (λ o. Here o.name) os

  setting_here : (s : Setting) → Marks (flat_setting s) → Options_here (setting_options s)
  setting_here (setting.Plain p) h = (h.0, tt)
  setting_here (setting.Custom c) h = tt

  settings_here : (o : Option Settings) → Marks (flat_option flat_settings o) → Options_here (settings_of o)
  settings_here None h = tt
  settings_here (Some s) h =
      flattened (λ x. Marks (flat_setting x)) (λ o. Here o.name) setting_options setting_here (separated s.list)
      (separated_here class.Comma flat_setting s.list (left (flat_separated class.Comma flat_setting s.list) (one_mark class.RightBracket s.close) h.1))

  type_here : (t : FieldType) → Marks (flat_type t) → Here (type_token t)
  type_here (field_type.Scalar t) h = h.0
  type_here (field_type.Reference r) h = first (r.dot) h
    where
      first : (dot : Option ℕ) → Marks (flat_type (field_type.Reference (record { dot = dot; words = r.words }))) → Here (type_token (field_type.Reference (record { dot = dot; words = r.words })))
      first None m = m.0
      first (Some i) m = m.0

  signed_here : (n : Signed) → Marks (flat_signed n) → Here (first_of_signed n)
  signed_here n h = go n.minus h
    where
      go : (minus : Option ℕ) → Marks (flat_signed (record { minus = minus; number = n.number })) → Here (first_of_signed (record { minus = minus; number = n.number }))
      go None m = m.0
      go (Some i) m = m.0

  abbrev Maybe_here : Option ℕ → Type 0
  Maybe_here None = Unit {0}
  Maybe_here (Some t) = Here t

  record FieldHere (f : FieldOf) : Type 0 where
    of_label : Maybe_here f.label
    of_key : Maybe_here f.map_key
    of_type : Here (type_token f.kind)
    of_name : Here f.name
    of_number : Here f.number
    of_options : Options_here f.options

  label_here : (o : Option ℕ) → Marks (flat_option (only want.Label) o) → Maybe_here o
  label_here None h = tt
  label_here (Some t) h = h.0

  plain_here : (oneof : Option ℕ) (f : Field) → Marks (flat_statement (statement.Field f)) → FieldHere (plain_field oneof f)
  plain_here oneof f h =
      let label : List Mark = flat_option (only want.Label) f.label in
      let settings : List Mark = flat_option flat_settings f.settings in
      let ends : List Mark = settings ++ one_mark class.Semicolon f.semicolon in
      let later : List Mark = name f.name ++ (one_mark class.Equals f.equals ++ (one_mark class.Number f.number ++ ends)) in
      let behind = right label (flat_type f.kind ++ later) h in
      let named = right (flat_type f.kind) later behind in
      record {
        of_label = label_here f.label (left label (flat_type f.kind ++ later) h);
        of_key = tt;
        of_type = type_here f.kind (left (flat_type f.kind) later behind);
        of_name = named.0;
        of_number = named.1.1.0;
        of_options = settings_here f.settings (left settings (one_mark class.Semicolon f.semicolon) named.1.1.1);
      }

  map_here : (f : MapField) → Marks (flat_statement (statement.MapField f)) → FieldHere (map_field f)
  map_here f h =
      let settings : List Mark = flat_option flat_settings f.settings in
      let ends : List Mark = settings ++ one_mark class.Semicolon f.semicolon in
      let later : List Mark = one_mark class.Greater f.close ++ (name f.name ++ (one_mark class.Equals f.equals ++ (one_mark class.Number f.number ++ ends))) in
      let typed = h.1.1.1.1 in
      let named = (right (flat_type f.value) later typed).1 in
      record {
        of_label = tt;
        of_key = h.1.1.0;
        of_type = type_here f.value (left (flat_type f.value) later typed);
        of_name = named.0;
        of_number = named.1.1.0;
        of_options = settings_here f.settings (left settings (one_mark class.Semicolon f.semicolon) named.1.1.1);
      }

  fields_here : (oneof : Option ℕ) (s : Statement) → Marks (flat_statement s) → AllByRecursion FieldHere (statement_fields oneof s)
  fields_here oneof (statement.Field f) h = (plain_here oneof f h, tt)
  fields_here oneof (statement.MapField f) h = (map_here f h, tt)
  fields_here oneof whole h = tt

  option_here : (s : Statement) → Marks (flat_statement s) → Options_here (statement_options s)
  option_here (statement.Option o) h = setting_here o.setting (left (flat_setting o.setting) (one_mark class.Semicolon o.semicolon) h.1)
  option_here whole h = tt

  abbrev Value_here : Value → Type 0
  Value_here v = Marks (flat_value v)

  values_here : (s : Statement) → Marks (flat_statement s) → AllByRecursion Value_here (statement_values s)
  values_here (statement.Value v) h = (h, tt)
  values_here whole h = tt

  value_parts : (v : Value) → Value_here v → Here v.name × (Here (first_of_signed v.number) × Options_here (settings_of v.settings))
  value_parts v h =
      let settings : List Mark = flat_option flat_settings v.settings in
      let ends : List Mark = settings ++ one_mark class.Semicolon v.semicolon in
      (h.0, (signed_here v.number (left (flat_signed v.number) ends h.1.1), settings_here v.settings (left settings (one_mark class.Semicolon v.semicolon) (right (flat_signed v.number) ends h.1.1))))

  -- a range begins where its first number does
  starts_here : {N : Type 0} (view : N → List Mark) (r : Range N) → Marks (flat_range view r) → Marks (view r.first)
  starts_here view r h = left (view r.first) (flat_option (flat_up_to view) r.up_to) h

  ranges_listed : {N : Type 0} (view : N → List Mark) (l : ReservedList N) → Marks (flat_reserved_list view l) → AllByRecursion (λ r. Marks (view r.first)) (ranges_of l)
  ranges_listed view (reserved_list.Names names) h = tt
  ranges_listed {N} view (reserved_list.Ranges ranges) h = starts view (separated ranges) (separated_here class.Comma (flat_range view) ranges h)
    where
      starts : (view : N → List Mark) (rs : List (Range N)) → AllByRecursion (λ r. Marks (flat_range view r)) rs → AllByRecursion (λ r. Marks (view r.first)) rs
      starts view [] m = tt
      starts view (r ∷ rs) m = (starts_here view r m.0, starts view rs m.1)

  names_listed : {N : Type 0} (view : N → List Mark) (l : ReservedList N) → Marks (flat_reserved_list view l) → All_here (reserved_names_of l)
  names_listed view (reserved_list.Ranges ranges) h = tt
  names_listed view (reserved_list.Names names) h = firsts (separated names) (separated_here class.Comma text_mark names h)
    where
      firsts : (ts : List ℕ) → AllByRecursion (λ t. Marks (text_mark t)) ts → All_here ts
      firsts [] m = tt
      firsts (t ∷ ts) m = (m.0.0, firsts ts m.1)

  abbrev Starts : List (Range ℕ) → Type 0
  Starts rs = AllByRecursion (λ r. Here r.first) rs

  abbrev Signed_starts : List (Range Signed) → Type 0
  Signed_starts rs = AllByRecursion (λ r. Here (first_of_signed r.first)) rs

  started : (rs : List (Range ℕ)) → AllByRecursion (λ r. Marks (flat_number r.first)) rs → Starts rs
  started [] h = tt
  started (r ∷ rs) h = (h.0.0, started rs h.1)

  signed_started : (rs : List (Range Signed)) → AllByRecursion (λ r. Marks (flat_signed r.first)) rs → Signed_starts rs
  signed_started [] h = tt
  signed_started (r ∷ rs) h = (signed_here r.first h.0, signed_started rs h.1)

  all_started : (rs : List (Range ℕ)) → AllByRecursion (λ r. Marks (flat_range flat_number r)) rs → Starts rs
  all_started [] h = tt
  all_started (r ∷ rs) h = ((starts_here flat_number r h.0).0, all_started rs h.1)

  closed_here : (s : Statement) → Marks (flat_statement s) → Starts (closed_ranges s)
  closed_here (statement.Reserved r) h =
      both (λ x. Here x.first) (ranges_of r.list) [] (started (ranges_of r.list) (ranges_listed flat_number r.list (left (flat_reserved_list flat_number r.list) (one_mark class.Semicolon r.semicolon) h.1))) tt
  closed_here (statement.Extensions e) h =
      all_started (separated e.ranges) (separated_here class.Comma (flat_range flat_number) e.ranges (left (flat_separated class.Comma (flat_range flat_number) e.ranges) (one_mark class.Semicolon e.semicolon) h.1))
  closed_here whole h = tt

  enum_ranges_here : (s : Statement) → Marks (flat_statement s) → Signed_starts (enum_ranges s)
  enum_ranges_here (statement.EnumReserved r) h =
      signed_started (ranges_of r.list) (ranges_listed flat_signed r.list (left (flat_reserved_list flat_signed r.list) (one_mark class.Semicolon r.semicolon) h.1))
  enum_ranges_here whole h = tt

  reserved_here : (s : Statement) → Marks (flat_statement s) → All_here (reserved_names s)
  reserved_here (statement.Reserved r) h = names_listed flat_number r.list (left (flat_reserved_list flat_number r.list) (one_mark class.Semicolon r.semicolon) h.1)
  reserved_here (statement.EnumReserved r) h = names_listed flat_signed r.list (left (flat_reserved_list flat_signed r.list) (one_mark class.Semicolon r.semicolon) h.1)
  reserved_here whole h = tt

  extensions_here : (s : Statement) → Marks (flat_statement s) → All_here (extension_words s)
  extensions_here (statement.Extensions e) h = (h.0, tt)
  extensions_here whole h = tt

  -- ---- the parts of a tree

  record BlockHere (b : BlockOf) : Type 0 where
    of_header : Marks (flat_header b.header)
    of_within : Marks (flat b.within)

  block_here : (h : Header) (i : ℕ) (within : Tree) (j : ℕ) (rest : Tree) → Marks (flat (Block h i within j rest)) → BlockHere (record { header = h; within = within })
  block_here h i within j rest m =
      let begin : List Mark = flat_header h ++ one_mark class.Open i in
      let behind : List Mark = flat within ++ (one_mark class.Close j ++ flat rest) in
      record { of_header = left (flat_header h) (one_mark class.Open i) (left begin behind m); of_within = left (flat within) (one_mark class.Close j ++ flat rest) (right begin behind m) }

  rest_here : (h : Header) (i : ℕ) (within : Tree) (j : ℕ) (rest : Tree) → Marks (flat (Block h i within j rest)) → Marks (flat rest)
  rest_here h i within j rest m =
      let begin : List Mark = flat_header h ++ one_mark class.Open i in
      let behind : List Mark = flat within ++ (one_mark class.Close j ++ flat rest) in
      (right (flat within) (one_mark class.Close j ++ flat rest) (right begin behind m)).1

  statements_here : (t : Tree) → Marks (flat t) → AllByRecursion (λ s. Marks (flat_statement s)) (statements t)
  statements_here End m = tt
  statements_here (Leaf s rest) m = (left (flat_statement s) (flat rest) m, statements_here rest (right (flat_statement s) (flat rest) m))
  statements_here (Block h i within j rest) m = statements_here rest (rest_here h i within j rest m)

  blocks_here : (t : Tree) → Marks (flat t) → AllByRecursion BlockHere (blocks_in t)
  blocks_here End m = tt
  blocks_here (Leaf s rest) m = blocks_here rest (right (flat_statement s) (flat rest) m)
  blocks_here (Block h i within j rest) m =
      let b = block_here h i within j rest m in
      (b, both BlockHere (blocks_in within) (blocks_in rest) (blocks_here within b.of_within) (blocks_here rest (rest_here h i within j rest m)))

  -- the parts that statements give
  parts_here : {A : Type 0} (P : A → Type 0) (part : Statement → List A) → ((s : Statement) → Marks (flat_statement s) → AllByRecursion P (part s)) → (t : Tree) → Marks (flat t) → AllByRecursion P (flat_map part (statements t))
  parts_here P part h t m = flattened (λ s. Marks (flat_statement s)) P part h (statements t) (statements_here t m)

  all_fields_here : (n : ℕ) (t : Tree) → Marks (flat t) → AllByRecursion FieldHere (fields_from n t)
  all_fields_here n End m = tt
  all_fields_here n (Leaf s rest) m = both FieldHere (statement_fields None s) (fields_from n rest) (fields_here None s (left (flat_statement s) (flat rest) m)) (all_fields_here n rest (right (flat_statement s) (flat rest) m))
  all_fields_here n (Block (header.Oneof h) i within j rest) m =
      both FieldHere (flat_map (statement_fields (Some n)) (statements within)) (fields_from (suc n) rest)
      (parts_here FieldHere (statement_fields (Some n)) (fields_here (Some n)) within (block_here (header.Oneof h) i within j rest m).of_within)
      (all_fields_here (suc n) rest (rest_here (header.Oneof h) i within j rest m))
  all_fields_here n (Block whole i within j rest) m = all_fields_here n rest (rest_here whole i within j rest m)

  -- ---- flaws

  abbrev Stand : List Flaw → Type 0
  Stand flaws = AllByRecursion (λ f. Here f.token) flaws

  join : (xs ys : List Flaw) → Stand xs → Stand ys → Stand (xs ++ ys)
  join = both (λ f. Here f.token)

  flaw_here : (holds : Bool) (k : FaultKind) (t : ℕ) → Here t → Stand (flaw_if holds k t)
  flaw_here true k t h = (h, tt)
  flaw_here false k t h = tt

  marked_here : (k : FaultKind) (ts : List ℕ) (bs : List Bool) → All_here ts → Stand (marked k ts bs)
  marked_here k [] bs h = tt
  marked_here k (t ∷ ts) [] h = tt
  marked_here k (t ∷ ts) (b ∷ bs) h = join (flaw_if b k t) (marked k ts bs) (flaw_here b k t h.0) (marked_here k ts bs h.1)

  each : {A : Type 0} (P : A → Type 0) (f : A → List Flaw) → ((a : A) → P a → Stand (f a)) → (items : List A) → AllByRecursion P items → Stand (flat_map f items)
  each P f h items m = flattened P (λ x. Here x.token) f h items m

  either : (b : Bool) (xs ys : List Flaw) → Stand xs → Stand ys → Stand (if b then xs else ys)
  either true xs ys h g = h
  either false xs ys h g = g

  abbrev Numbers_here : List NumberAt → Type 0
  Numbers_here ns = AllByRecursion (λ n. Here n.token) ns

  abbrev Ranges_here : List RangeAt → Type 0
  Ranges_here rs = AllByRecursion (λ r. Here r.token) rs

  outside_here : (limits : ℤ → Bool) (ns : List NumberAt) → Numbers_here ns → Stand (outside limits ns)
  outside_here limits ns = each (λ n. Here n.token) (λ n. flaw_if (not (limits n.number)) kind.NumberRange n.token) (λ n h. flaw_here (not (limits n.number)) kind.NumberRange n.token h) ns

  broken_here : (least most : ℤ) (rs : List RangeAt) → Ranges_here rs → Stand (broken_ranges least most rs)
  broken_here least most rs = each (λ r. Here r.token) (λ r. flaw_if (not (is_sound_range least most r)) kind.NumberRange r.token) (λ r h. flaw_here (not (is_sound_range least most r)) kind.NumberRange r.token h) rs

  inside_here : (rs : List RangeAt) (ns : List NumberAt) → Numbers_here ns → Stand (reserved_numbers rs ns)
  inside_here rs ns = each (λ n. Here n.token) (λ n. flaw_if (list_any (is_inside n.number) rs) kind.ReservedNumber n.token) (λ n h. flaw_here (list_any (is_inside n.number) rs) kind.ReservedNumber n.token h) ns

  overlaps_here : (rs : List RangeAt) → Ranges_here rs → Stand (overlaps rs)
  overlaps_here rs h = marked_here kind.RangeOverlap (map (λ r. r.token) rs) (after_earlier share rs) (all_mapped (λ r. Here r.token) Here (λ r. r.token) (λ r m. m) rs h)

  again_here : (k : FaultKind) (ns : List NumberAt) → Numbers_here ns → Stand (marked k (map (λ n. n.token) ns) (repeated_numbers ns))
  again_here k ns h = marked_here k (map (λ n. n.token) ns) (repeated_numbers ns) (all_mapped (λ n. Here n.token) Here (λ n. n.token) (λ n m. m) ns h)

  field_numbers_here : (rs : List RangeAt) (ns : List NumberAt) → Ranges_here rs → Numbers_here ns → Stand (field_number_flaws rs ns)
  field_numbers_here rs ns r n =
      join (outside is_field_number ns) _ (outside_here is_field_number ns n)
      (join (marked kind.DuplicateNumber (map (λ x. x.token) ns) (repeated_numbers ns)) _ (again_here kind.DuplicateNumber ns n)
      (join (reserved_numbers rs ns) _ (inside_here rs ns n)
      (join (broken_ranges (pos 1) most_field rs) (overlaps rs) (broken_here (pos 1) most_field rs r) (overlaps_here rs r))))

  module _ (scene : Scene) where
    options_stand : (on : Element) (os : List OptionOf) → Options_here os → Stand (option_flaws scene on os)
    options_stand on os h =
        join (misplaced_options scene on os) (repeated_options scene os)
        (each (λ o. Here o.name) (λ o. flaw_if (not (is_allowed scene.profile (text scene) on o)) kind.BadOption o.name) (λ o m. flaw_here (not (is_allowed scene.profile (text scene) on o)) kind.BadOption o.name m) os h)
        (marked_here kind.BadOption (map (λ o. o.name) os) (after_earlier bytes_eq (map (λ o. text scene o.name) os)) (all_mapped (λ o. Here o.name) Here (λ o. o.name) (λ o m. m) os h))

    required_stand : (o : Option ℕ) → Maybe_here o → Stand (required_flaws scene o)
    required_stand None h = tt
    required_stand (Some t) h = flaw_here _ kind.NotInProto3 t h

    map_key_stand : (o : Option ℕ) → Maybe_here o → Stand (map_key_flaws scene o)
    map_key_stand None h = tt
    map_key_stand (Some t) h = flaw_here _ kind.BadMap t h

    types_stand : (f : FieldOf) → FieldHere f → Stand (type_flaws scene f)
    types_stand f h =
        join (flaw_if (lacks_label scene f) kind.Label (type_token f.kind)) _ (flaw_here (lacks_label scene f) kind.Label (type_token f.kind) h.of_type)
        (join (required_flaws scene f.label) _ (required_stand f.label h.of_label)
        (join (map_key_flaws scene f.map_key) _ (map_key_stand f.map_key h.of_key)
        (join (flaw_if (starts_wrong scene f) kind.FirstNotZero (type_token f.kind)) (flaw_if (has_closed_enum scene f) kind.ClosedEnum (type_token f.kind))
        (flaw_here (starts_wrong scene f) kind.FirstNotZero (type_token f.kind) h.of_type) (flaw_here (has_closed_enum scene f) kind.ClosedEnum (type_token f.kind) h.of_type))))

    wrong_default_stand : (f : FieldOf) (os : List OptionOf) → Options_here os → (p : OptionOf → Bool) → Stand (wrong_default scene f (find p os))
    wrong_default_stand f [] h p = tt
    wrong_default_stand f (o ∷ os) h p = go (p o) (wrong_default_stand f os h.1 p)
      where
        go : (b : Bool) → Stand (wrong_default scene f (find p os)) → Stand (wrong_default scene f (cond b (Some o) (find p os)))
        go true on = flaw_here _ kind.BadDefault o.name h.0
        go false on = on

    field_stands : (on : Element) (f : FieldOf) → FieldHere f → Stand (field_flaws scene on f)
    field_stands on f h =
        join (type_flaws scene f) _ (types_stand f h)
        (join (option_flaws scene on f.options) _ (options_stand on f.options h.of_options)
        (join (misfit_flaws scene f) _ (each (λ o. Here o.name) _ (λ o m. flaw_here _ kind.BadOption o.name m) f.options h.of_options)
        (join (default_flaws scene f) (proto3_defaults scene f)
        (either scene.is_proto3 [] (wrong_default scene f (find (is_named (text scene) (codes "default")) f.options)) tt (wrong_default_stand f f.options h.of_options (is_named (text scene) (codes "default"))))
        (each (λ o. Here o.name) _ (λ o m. flaw_here _ kind.NotInProto3 o.name m) f.options h.of_options))))

    names_stand : (reserved names : List ℕ) → All_here reserved → All_here names → Stand (name_flaws scene reserved names)
    names_stand reserved names r n =
        join (with_reserved_name scene reserved names) (reserved_again scene reserved) (each Here _ (λ t m. flaw_here _ kind.ReservedName t m) names n)
        (marked_here kind.ReservedName reserved (after_earlier bytes_eq (map (value scene) reserved)) r)

    field_names_here : (fs : List FieldOf) → AllByRecursion FieldHere fs → All_here (map (λ f. f.name) fs)
    field_names_here fs = all_mapped FieldHere Here (λ f. f.name) (λ f h. h.of_name) fs

    json_stand : (fs : List FieldOf) → AllByRecursion FieldHere fs → Stand (json_clashes scene fs)
    json_stand fs h =
        let clashes : List Flaw = marked kind.JsonClash (map (λ f. f.name) fs) (after_earlier bytes_eq (map (json_name_of scene) fs)) in
        either scene.is_proto3 clashes [] (marked_here kind.JsonClash (map (λ f. f.name) fs) (after_earlier bytes_eq (map (json_name_of scene) fs)) (field_names_here fs h)) tt

    message_stands : (within : Tree) → Marks (flat within) → Stand (message_flaws scene within)
    message_stands within m =
        let fs : List FieldOf = fields_in within in
        let rs : List RangeAt = map (range_of scene) (flat_map closed_ranges (statements within)) in
        let ns : List NumberAt = map (number_of_field scene) fs in
        let f = all_fields_here 0 within m in
        let r = all_mapped (λ x. Here x.first) (λ x. Here x.token) (range_of scene) (λ x h. h) (flat_map closed_ranges (statements within)) (parts_here (λ x. Here x.first) closed_ranges closed_here within m) in
        let n = all_mapped FieldHere (λ x. Here x.token) (number_of_field scene) (λ x h. h.of_number) fs f in
        join (flat_map (field_flaws scene element.Field) fs) _ (each FieldHere (field_flaws scene element.Field) (field_stands element.Field) fs f)
        (join (field_number_flaws rs ns) _ (field_numbers_here rs ns r n)
        (join (name_flaws scene (reserved_names_in within) (map (λ x. x.name) fs)) _ (names_stand (reserved_names_in within) (map (λ x. x.name) fs) (parts_here Here reserved_names reserved_here within m) (field_names_here fs f))
        (join (json_clashes scene fs) _ (json_stand fs f)
        (join (extension_flaws scene within) (option_flaws scene element.Message (options_in within))
        (each Here (λ t. flaw_if scene.is_proto3 kind.NotInProto3 t) (λ t h. flaw_here scene.is_proto3 kind.NotInProto3 t h) (flat_map extension_words (statements within)) (parts_here Here extension_words extensions_here within m))
        (options_stand element.Message (options_in within) (parts_here (λ o. Here o.name) statement_options option_here within m))))))

    first_value_stands : (ns : List NumberAt) → Numbers_here ns → Stand (first_value_flaws scene ns)
    first_value_stands [] h = tt
    first_value_stands (n ∷ ns) h = flaw_here (scene.is_proto3 && not (int_eq n.number (pos 0))) kind.FirstNotZero n.token h.0

    value_numbers_stand : (within : Tree) (rs : List RangeAt) (ns : List NumberAt) → Ranges_here rs → Numbers_here ns → Stand (value_number_flaws scene within rs ns)
    value_numbers_stand within rs ns r n =
        join (outside is_value_number ns) _ (outside_here is_value_number ns n)
        (join (first_value_flaws scene ns) _ (first_value_stands ns n)
        (join (alias_flaws scene within ns) _ (either (allows_alias scene (options_in within)) [] (marked kind.AliasNotAllowed (map (λ x. x.token) ns) (repeated_numbers ns)) tt (again_here kind.AliasNotAllowed ns n))
        (join (reserved_numbers rs ns) _ (inside_here rs ns n)
        (join (broken_ranges least_value most_value rs) (overlaps rs) (broken_here least_value most_value rs r) (overlaps_here rs r)))))

    enum_stands : (name : ℕ) (within : Tree) → Here name → Marks (flat within) → Stand (enum_flaws scene name within)
    enum_stands name within here m =
        let vs : List Value = values_in within in
        let rs : List RangeAt = map (enum_range_of scene) (flat_map enum_ranges (statements within)) in
        let ns : List NumberAt = map (number_of_value scene) vs in
        let v = parts_here Value_here statement_values values_here within m in
        let r = all_mapped (λ x. Here (first_of_signed x.first)) (λ x. Here x.token) (enum_range_of scene) (λ x h. h) (flat_map enum_ranges (statements within)) (parts_here (λ x. Here (first_of_signed x.first)) enum_ranges enum_ranges_here within m) in
        let n = all_mapped Value_here (λ x. Here x.token) (number_of_value scene) (λ x h. (value_parts x h).1.0) vs v in
        join (flaw_if (is_empty vs) kind.EmptyEnum name) _ (flaw_here (is_empty vs) kind.EmptyEnum name here)
        (join (value_number_flaws scene within rs ns) _ (value_numbers_stand within rs ns r n)
        (join (name_flaws scene (reserved_names_in within) (map (λ x. x.name) vs)) _
        (names_stand (reserved_names_in within) (map (λ x. x.name) vs) (parts_here Here reserved_names reserved_here within m) (all_mapped Value_here Here (λ x. x.name) (λ x h. (value_parts x h).0) vs v))
        (join (flat_map (value_option_flaws scene) vs) (option_flaws scene element.Enum (options_in within))
        (each Value_here (value_option_flaws scene) (λ x h. options_stand element.EnumValue (settings_of x.settings) (value_parts x h).1.1) vs v)
        (options_stand element.Enum (options_in within) (parts_here (λ o. Here o.name) statement_options option_here within m)))))

    required_extension_stands : (o : Option ℕ) → Maybe_here o → Stand (required_extensions scene o)
    required_extension_stands None h = tt
    required_extension_stands (Some t) h = flaw_here _ kind.RequiredExtension t h

    extension_stands : (f : FieldOf) → FieldHere f → Stand (flaws_of_extension scene f)
    extension_stands f h = join (required_extensions scene f.label) _ (required_extension_stands f.label h.of_label) (field_stands element.Extension f h)

    extend_stands : (keyword : ℕ) (r : Reference) (within : Tree) → Here keyword → Marks (flat within) → Stand (extend_flaws scene keyword r within)
    extend_stands keyword r within here m =
        let fs : List FieldOf = fields_in within in
        let f = all_fields_here 0 within m in
        join (flaw_if (bars_extend scene.profile scene.is_proto3 (meant_by scene r)) kind.NotInProto3 keyword) _ (flaw_here (bars_extend scene.profile scene.is_proto3 (meant_by scene r)) kind.NotInProto3 keyword here)
        (join (outside is_field_number (map (number_of_field scene) fs)) _ (outside_here is_field_number (map (number_of_field scene) fs) (all_mapped FieldHere (λ x. Here x.token) (number_of_field scene) (λ x h. h.of_number) fs f))
        (each FieldHere (flaws_of_extension scene) extension_stands fs f))

    block_stands : (b : BlockOf) → BlockHere b → Stand (block_flaws scene b.header b.within)
    block_stands b h = go b.header h.of_header
      where
        go : (x : Header) → Marks (flat_header x) → Stand (block_flaws scene x b.within)
        go (header.Message x) m = message_stands b.within h.of_within
        go (header.Oneof x) m = flaw_here (is_empty (fields_in b.within)) kind.EmptyOneof x.name m.1.0
        go (header.Enum x) m = enum_stands x.name b.within m.1.0 h.of_within
        go (header.Service x) m = options_stand element.Service (options_in b.within) (parts_here (λ o. Here o.name) statement_options option_here b.within h.of_within)
        go (header.Method s) m = options_stand element.Method (options_in b.within) (parts_here (λ o. Here o.name) statement_options option_here b.within h.of_within)
        go (header.Extend e) m = extend_stands e.keyword e.extendee b.within m.0 h.of_within

    file_stands : (tree : Tree) → Marks (flat tree) → Stand (file_flaws scene tree)
    file_stands tree m =
        join (option_flaws scene element.File (options_in tree)) _ (options_stand element.File (options_in tree) (parts_here (λ o. Here o.name) statement_options option_here tree m))
        (each BlockHere (λ b. block_flaws scene b.header b.within) block_stands (blocks_in tree) (blocks_here tree m))

-- ---- a tree that was read

each_mark : (P : Mark → Type 0) (ms : List Mark) → ((m : Mark) → Contains ms m → P m) → AllByRecursion P ms
each_mark P [] here = tt
each_mark P (m ∷ ms) here = (here m (contains_head m ms), each_mark P ms (λ x c. here x (contains_later m x ms c)))

pub flaw_within : (profile : Profile) (text : List ℕ) (tokens : List Token) (tree : Tree) → ReadsIn profile text tokens tree → (scene : Scene) (f : Flaw) → Contains (file_flaws scene tree) f → f.token < length tokens
flaw_within profile text tokens tree reads scene f c =
    let bound = length tokens in
    let ls = map (lexeme_at text) tokens in
    let none : Lexeme = record { kind = token_kind.Word; text = [] } in
    let marks = each_mark (λ m. m.at < bound) (flat tree) (λ m d. (let fits = marks_fit_in profile tree ls m none reads.spells d in omega (arith, fits.0, length-map tokens (lexeme_at text)))) in
    All-contains (λ x. x.token < bound) (file_flaws scene tree) f (All-from_recursion (λ x. x.token < bound) (file_flaws scene tree) (file_stands (λ i. i < bound) scene tree marks)) c
