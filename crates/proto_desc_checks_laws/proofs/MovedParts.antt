-- The parts of a tree whose tokens are moved: the moved parts. Imports give no part that flaws are read from (for the crates above).
use Rattle.std.proofs.Common.{◌≡◌, ℕ, suc, Bool, true, false, ◌||◌, if◌then◌else◌, List, [], ◌∷◌, ◌++◌, map, flat_map, find, Option, Some, None, option_map, is_some, is_none, refl, sym, ◌∙◌, ap, ap₂}
use Rattle.proto_base.proofs.Common.{list_any, map-append, any_map}
use Rattle.proto_tree.specs.declared.tree.Behind.{Behind}
use Rattle.proto_tree.specs.declared.tree.Separated.{Separated}
use Rattle.proto_tree.specs.declared.tree.Range.{Range}
use Rattle.proto_tree.specs.declared.tree.ReservedList.{ReservedList}
use Rattle.proto_tree.specs.declared.tree.ReservedList.TheVariants as reserved_list
use Rattle.proto_tree.specs.declared.tree.Settings.{Settings}
use Rattle.proto_tree.specs.declared.piece.Statement.{Statement}
use Rattle.proto_tree.specs.declared.piece.Statement.TheVariants as statement
use Rattle.proto_tree.specs.declared.piece.Header.TheVariants as header
use Rattle.proto_tree.proofs.Common.{Move, move_behind, move_constant, move_header, move_option, move_range, move_reserved_list, move_separated, move_setting, move_settings, move_signed, move_statement, move_tree, move_type, move_value, Tree, End, Leaf, Block}
use Rattle.proto_ast.specs.Parts.{BlockOf, FieldOf, OptionOf, blocks_in, closed_ranges, enum_ranges, extension_ranges, extension_words, fields_from, reserved_names_of, options_in, setting_options, ranges_of, reserved_names, reserved_names_in, reserved_ranges, separated, settings_of, statement_fields, statement_options, statement_values, statements, values_in}
use Rattle.proto_desc_checks.specs.FileFlaws.{is_empty}
use Rattle.proto_desc_checks_laws.specs.Imports.{without_imports}
use Rattle.proto_tree.specs.declared.tree.Setting.{Setting}
use Rattle.proto_tree.specs.declared.tree.Setting.TheVariants as setting

-- ---- lists

-- what is made of moved elements is what is made of the elements, moved
pub maps_moved : {A B X Y : Type 0} (h : A → B) (m : X → Y) (f : A → X) (k : B → Y) → ((x : A) → k (h x) ≡ m (f x)) → (xs : List A) → map k (map h xs) ≡ map m (map f xs)
maps_moved h m f k e [] = refl
maps_moved h m f k e (x ∷ xs) = ap₂ (λ y ys. y ∷ ys) (e x) (maps_moved h m f k e xs)

pub maps_kept : {A B X : Type 0} (h : A → B) (f : A → X) (k : B → X) → ((x : A) → k (h x) ≡ f x) → (xs : List A) → map k (map h xs) ≡ map f xs
maps_kept h f k e [] = refl
maps_kept h f k e (x ∷ xs) = ap₂ (λ y ys. y ∷ ys) (e x) (maps_kept h f k e xs)

pub flat_map_moved : {A B X Y : Type 0} (h : A → B) (m : X → Y) (f : A → List X) (k : B → List Y) → ((x : A) → k (h x) ≡ map m (f x)) → (xs : List A) → flat_map k (map h xs) ≡ map m (flat_map f xs)
flat_map_moved h m f k e [] = refl
flat_map_moved h m f k e (x ∷ xs) = ap₂ (λ ys zs. ys ++ zs) (e x) (flat_map_moved h m f k e xs) ∙ sym (map-append m (f x) (flat_map f xs))

pub flat_kept : {A B X : Type 0} (h : A → B) (f : A → List X) (k : B → List X) → ((x : A) → k (h x) ≡ f x) → (xs : List A) → flat_map k (map h xs) ≡ flat_map f xs
flat_kept h f k e [] = refl
flat_kept h f k e (x ∷ xs) = ap₂ (λ ys zs. ys ++ zs) (e x) (flat_kept h f k e xs)

pub any_kept : {A B : Type 0} (h : A → B) (p : A → Bool) (q : B → Bool) → ((x : A) → q (h x) ≡ p x) → (xs : List A) → list_any q (map h xs) ≡ list_any p xs
any_kept {A} h p q e xs = any_map q h xs ∙ go xs
  where
    go : (ys : List A) → list_any (λ x. q (h x)) ys ≡ list_any p ys
    go [] = refl
    go (y ∷ ys) = ap₂ (λ v w. v || w) (e y) (go ys)

pub find_moved : {A B : Type 0} (h : A → B) (p : A → Bool) (q : B → Bool) → ((x : A) → q (h x) ≡ p x) → (xs : List A) → find q (map h xs) ≡ option_map h (find p xs)
find_moved h p q e [] = refl
find_moved h p q e (x ∷ xs) = ap₂ (λ v r. if v then Some (h x) else r) (e x) (find_moved h p q e xs) ∙ go (p x)
  where
    go : (v : Bool) → (if v then Some (h x) else option_map h (find p xs)) ≡ option_map h (if v then Some x else find p xs)
    go true = refl
    go false = refl

pub empty_kept : {A B : Type 0} (h : A → B) (xs : List A) → is_empty (map h xs) ≡ is_empty xs
empty_kept h [] = refl
empty_kept h (x ∷ xs) = refl

pub none_kept : {A : Type 0} (f : A → A) (o : Option A) → is_none (move_option f o) ≡ is_none o
none_kept f None = refl
none_kept f (Some x) = refl

pub some_kept : {A : Type 0} (f : A → A) (o : Option A) → is_some (move_option f o) ≡ is_some o
some_kept f None = refl
some_kept f (Some x) = refl

-- ---- moved parts

abbrev pub move_option_of : Move → OptionOf → OptionOf
move_option_of g o = record { name = g o.name; value = move_constant g o.value }

-- a oneof's place among the oneofs stays
abbrev pub move_field_of : Move → FieldOf → FieldOf
move_field_of g f = record {
  label = move_option g f.label;
  map_key = move_option g f.map_key;
  oneof = f.oneof;
  kind = move_type g f.kind;
  name = g f.name;
  number = g f.number;
  options = map (move_option_of g) f.options;
}

abbrev pub move_block_of : Move → BlockOf → BlockOf
move_block_of g b = record { header = move_header g b.header; within = move_tree g b.within }

module _ (g : Move) where
  separated_moved : {A : Type 0} (f : A → A) (s : Separated A) → separated (move_separated g f s) ≡ map f (separated s)
  separated_moved {A} f s = ap (λ (xs : List A). f s.first ∷ xs) (maps_moved (move_behind g f) f (λ (b : Behind A). b.item) (λ (b : Behind A). b.item) (λ b. refl) s.rest)

  pub statements_moved : (t : Tree) → statements (move_tree g t) ≡ map (move_statement g) (statements t)
  statements_moved End = refl
  statements_moved (Leaf s rest) = ap (λ (ss : List Statement). move_statement g s ∷ ss) (statements_moved rest)
  statements_moved (Block h opens within closes rest) = statements_moved rest

  -- what each statement gives
  pub given_moved : {X : Type 0} (m : X → X) (f : Statement → List X) → ((s : Statement) → f (move_statement g s) ≡ map m (f s)) → (t : Tree) → flat_map f (statements (move_tree g t)) ≡ map m (flat_map f (statements t))
  given_moved m f e t = ap (flat_map f) (statements_moved t) ∙ flat_map_moved (move_statement g) m f f e (statements t)

  -- ---- options

  pub setting_options_moved : (s : Setting) → setting_options (move_setting g s) ≡ map (move_option_of g) (setting_options s)
  setting_options_moved (setting.Plain p) = refl
  setting_options_moved (setting.Custom c) = refl

  pub settings_moved : (o : Option Settings) → settings_of (move_option (move_settings g) o) ≡ map (move_option_of g) (settings_of o)
  settings_moved None = refl
  settings_moved (Some s) = ap (flat_map setting_options) (separated_moved (move_setting g) s.list) ∙ flat_map_moved (move_setting g) (move_option_of g) setting_options setting_options setting_options_moved (separated s.list)

  pub statement_options_moved : (s : Statement) → statement_options (move_statement g s) ≡ map (move_option_of g) (statement_options s)
  statement_options_moved (statement.Option o) = setting_options_moved o.setting
  statement_options_moved _ = refl

  pub options_moved : (t : Tree) → options_in (move_tree g t) ≡ map (move_option_of g) (options_in t)
  options_moved = given_moved (move_option_of g) statement_options statement_options_moved

  -- ---- fields

  pub statement_fields_moved : (oneof : Option ℕ) (s : Statement) → statement_fields oneof (move_statement g s) ≡ map (move_field_of g) (statement_fields oneof s)
  statement_fields_moved oneof (statement.Field f) = ap (λ os. record { label = move_option g f.label; map_key = None; oneof = oneof; kind = move_type g f.kind; name = g f.name; number = g f.number; options = os } ∷ []) (settings_moved f.settings)
  statement_fields_moved oneof (statement.MapField f) = ap (λ os. record { label = None; map_key = Some (g f.key); oneof = None; kind = move_type g f.value; name = g f.name; number = g f.number; options = os } ∷ []) (settings_moved f.settings)
  statement_fields_moved oneof _ = refl

  pub fields_moved : (before : ℕ) (t : Tree) → fields_from before (move_tree g t) ≡ map (move_field_of g) (fields_from before t)
  fields_moved before End = refl
  fields_moved before (Leaf s rest) =
      ap₂ (λ (fs hs : List FieldOf). fs ++ hs) (statement_fields_moved None s) (fields_moved before rest)
      ∙ sym (map-append (move_field_of g) (statement_fields None s) (fields_from before rest))
  fields_moved before (Block (header.Oneof h) opens within closes rest) =
      ap₂ (λ (fs hs : List FieldOf). fs ++ hs) (given_moved (move_field_of g) (statement_fields (Some before)) (statement_fields_moved (Some before)) within) (fields_moved (suc before) rest)
      ∙ sym (map-append (move_field_of g) (flat_map (statement_fields (Some before)) (statements within)) (fields_from (suc before) rest))
  fields_moved before (Block h opens within closes rest) = fields_moved before rest

  -- ---- ranges and reserved names

  ranges_of_moved : {N : Type 0} (f : N → N) (l : ReservedList N) → ranges_of (move_reserved_list g f l) ≡ map (move_range g f) (ranges_of l)
  ranges_of_moved f (reserved_list.Names names) = refl
  ranges_of_moved f (reserved_list.Ranges ranges) = separated_moved (move_range g f) ranges

  names_of_moved : {N : Type 0} (f : N → N) (l : ReservedList N) → reserved_names_of (move_reserved_list g f l) ≡ map g (reserved_names_of l)
  names_of_moved f (reserved_list.Names names) = separated_moved g names
  names_of_moved f (reserved_list.Ranges ranges) = refl

  pub reserved_ranges_moved : (s : Statement) → reserved_ranges (move_statement g s) ≡ map (move_range g g) (reserved_ranges s)
  reserved_ranges_moved (statement.Reserved r) = ranges_of_moved g r.list
  reserved_ranges_moved _ = refl

  pub extension_ranges_moved : (s : Statement) → extension_ranges (move_statement g s) ≡ map (move_range g g) (extension_ranges s)
  extension_ranges_moved (statement.Extensions e) = separated_moved (move_range g g) e.ranges
  extension_ranges_moved _ = refl

  pub statement_ranges_moved : (s : Statement) → closed_ranges (move_statement g s) ≡ map (move_range g g) (closed_ranges s)
  statement_ranges_moved s = ap₂ (λ (rs qs : List (Range ℕ)). rs ++ qs) (reserved_ranges_moved s) (extension_ranges_moved s) ∙ sym (map-append (move_range g g) (reserved_ranges s) (extension_ranges s))

  pub closed_ranges_moved : (t : Tree) → flat_map closed_ranges (statements (move_tree g t)) ≡ map (move_range g g) (flat_map closed_ranges (statements t))
  closed_ranges_moved = given_moved (move_range g g) closed_ranges statement_ranges_moved

  statement_enum_ranges_moved : (s : Statement) → enum_ranges (move_statement g s) ≡ map (move_range g (move_signed g)) (enum_ranges s)
  statement_enum_ranges_moved (statement.EnumReserved r) = ranges_of_moved (move_signed g) r.list
  statement_enum_ranges_moved _ = refl

  pub enum_ranges_moved : (t : Tree) → flat_map enum_ranges (statements (move_tree g t)) ≡ map (move_range g (move_signed g)) (flat_map enum_ranges (statements t))
  enum_ranges_moved = given_moved (move_range g (move_signed g)) enum_ranges statement_enum_ranges_moved

  pub statement_names_moved : (s : Statement) → reserved_names (move_statement g s) ≡ map g (reserved_names s)
  statement_names_moved (statement.Reserved r) = names_of_moved g r.list
  statement_names_moved (statement.EnumReserved r) = names_of_moved (move_signed g) r.list
  statement_names_moved _ = refl

  pub reserved_names_moved : (t : Tree) → reserved_names_in (move_tree g t) ≡ map g (reserved_names_in t)
  reserved_names_moved = given_moved g reserved_names statement_names_moved

  pub statement_words_moved : (s : Statement) → extension_words (move_statement g s) ≡ map g (extension_words s)
  statement_words_moved (statement.Extensions e) = refl
  statement_words_moved _ = refl

  pub extension_words_moved : (t : Tree) → flat_map extension_words (statements (move_tree g t)) ≡ map g (flat_map extension_words (statements t))
  extension_words_moved = given_moved g extension_words statement_words_moved

  -- ---- values, and blocks

  statement_values_moved : (s : Statement) → statement_values (move_statement g s) ≡ map (move_value g) (statement_values s)
  statement_values_moved (statement.Value v) = refl
  statement_values_moved _ = refl

  pub values_moved : (t : Tree) → values_in (move_tree g t) ≡ map (move_value g) (values_in t)
  values_moved = given_moved (move_value g) statement_values statement_values_moved

  pub blocks_moved : (t : Tree) → blocks_in (move_tree g t) ≡ map (move_block_of g) (blocks_in t)
  blocks_moved End = refl
  blocks_moved (Leaf s rest) = blocks_moved rest
  blocks_moved (Block h opens within closes rest) =
      ap (λ (bs : List BlockOf). move_block_of g (record { header = h; within = within }) ∷ bs)
      (ap₂ (λ (bs cs : List BlockOf). bs ++ cs) (blocks_moved within) (blocks_moved rest) ∙ sym (map-append (move_block_of g) (blocks_in within) (blocks_in rest)))

-- ---- imports have no options and no blocks

options_without : (t : Tree) → options_in (without_imports t) ≡ options_in t
options_without End = refl
options_without (Leaf (statement.Import i) rest) = options_without rest
options_without (Leaf s rest) = ap (λ (os : List OptionOf). statement_options s ++ os) (options_without rest)
options_without (Block h opens within closes rest) = options_without rest

blocks_without : (t : Tree) → blocks_in (without_imports t) ≡ blocks_in t
blocks_without End = refl
blocks_without (Leaf (statement.Import i) rest) = blocks_without rest
blocks_without (Leaf s rest) = blocks_without rest
blocks_without (Block h opens within closes rest) =
    ap (λ (bs : List BlockOf). record { header = h; within = within } ∷ (blocks_in within ++ bs)) (blocks_without rest)

pub file_options_moved : (g : Move) (s t : Tree) → without_imports t ≡ move_tree g (without_imports s) → options_in t ≡ map (move_option_of g) (options_in s)
file_options_moved g s t e =
    sym (options_without t) ∙ ap options_in e ∙ options_moved g (without_imports s) ∙ ap (map (move_option_of g)) (options_without s)

pub file_blocks_moved : (g : Move) (s t : Tree) → without_imports t ≡ move_tree g (without_imports s) → blocks_in t ≡ map (move_block_of g) (blocks_in s)
file_blocks_moved g s t e =
    sym (blocks_without t) ∙ ap blocks_in e ∙ blocks_moved g (without_imports s) ∙ ap (map (move_block_of g)) (blocks_without s)
