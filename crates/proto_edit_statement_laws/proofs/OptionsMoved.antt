-- The custom options of a tree where its tokens are moved, and where items come in (for the crates above).
use Rattle.std.proofs.Common.{◌≡◌, ℕ, suc, Bool, true, false, List, [], ◌∷◌, ◌++◌, length, map, flat_map, Option, Some, None, refl, sym, ap, ap₂, subst, ◌∙◌, codes, Contains}
use Rattle.proto_base.proofs.Common.{contains_map, from_map}
use Rattle.proto_base.specs.Texts.{Text}
use Rattle.proto_custom_options.proofs.CustomLists.{customs_joined}
use Rattle.proto_custom_options.specs.CustomOptions.{CustomOf, atom_words, constant_words, customs_below, customs_in, options_of_block, setting_customs, settings_customs, statement_customs, value_words}
use Rattle.proto_edit_rename_laws.specs.Imports.{without_imports}
use Rattle.proto_names_rules.proofs.Common.{map_append}
use Rattle.proto_text.specs.Segments.{moved}
use Rattle.proto_text.specs.Tokens.{lexeme_at}
use Rattle.proto_tree.specs.declared.context.Context.{Context}
use Rattle.proto_tree.specs.declared.context.Context.TheVariants as context
use Rattle.proto_tree.specs.declared.piece.Header.{Header}
use Rattle.proto_tree.specs.declared.piece.Header.TheVariants as header
use Rattle.proto_tree.specs.declared.piece.Statement.{Statement}
use Rattle.proto_tree.specs.declared.piece.Statement.TheVariants as statement
use Rattle.proto_tree.specs.declared.tree.Atom.{Atom}
use Rattle.proto_tree.specs.declared.tree.Atom.TheVariants as atom
use Rattle.proto_tree.specs.declared.tree.Behind.{Behind}
use Rattle.proto_tree.specs.declared.tree.Constant.{Constant}
use Rattle.proto_tree.specs.declared.tree.Constant.TheVariants as constant
use Rattle.proto_tree.specs.declared.tree.CustomValue.{CustomValue}
use Rattle.proto_tree.specs.declared.tree.CustomValue.TheVariants as custom_value
use Rattle.proto_tree.specs.declared.tree.Setting.{Setting}
use Rattle.proto_tree.specs.declared.tree.Setting.TheVariants as setting
use Rattle.proto_tree.specs.declared.tree.Settings.{Settings}
use Rattle.proto_tree.specs.Flat.{Mark, fewer, flat_all, flat_custom_value, flat_signed, flat_within, text_mark}
use Rattle.proto_tree.specs.Moved.{move_atom, move_constant, move_custom_value}
use Rattle.proto_tree.proofs.Common.{Move, move_behind, move_header, move_option, move_setting, move_settings, move_statement, move_tree, Tree, End, Leaf, Block, after, header_kind, inside, statement_kind}
use Rattle.proto_edit_statement_laws.proofs.Lists.{more_back, more_front, more_has}
use Rattle.proto_edit_statement_laws.specs.Common.{IsExchanged, Here, Later, Inside, Behind as BehindBlock, first_token, own, reservation, reservation_place}
use Rattle.proto_edit_statement_laws.specs.Lists.{HasMore, IsAny}
use Rattle.proto_edit_statement_laws.specs.Options.{DeletionsKeepOptions, ImportsMoveOptions, NoOptionsComeIn, OptionsComeIn, OptionsMoveTokens, TreesMoveOptions, move_custom_of}

module _ (g : Move) where
  -- ---- the tokens of an option

  path_moved : (bs : List (Behind ℕ)) → map (λ b. b.item) (map (move_behind g g) bs) ≡ map g (map (λ b. b.item) bs)
  path_moved [] = refl
  path_moved (b ∷ bs) = ap (λ is. g b.item ∷ is) (path_moved bs)

  atoms_moved : (xs : List Atom) → flat_map atom_words (map (move_atom g) xs) ≡ map g (flat_map atom_words xs)
  atoms_moved [] = refl
  atoms_moved (atom.Open i ∷ xs) = atoms_moved xs
  atoms_moved (atom.Close i ∷ xs) = atoms_moved xs
  atoms_moved (atom.Colon i ∷ xs) = atoms_moved xs
  atoms_moved (atom.Word i ∷ xs) = ap (λ is. g i ∷ is) (atoms_moved xs)
  atoms_moved (atom.Other i ∷ xs) = atoms_moved xs

  constant_moved : (c : Constant) → constant_words (move_constant g c) ≡ map g (constant_words c)
  constant_moved (constant.Word w) = refl
  constant_moved (constant.Number n) = refl
  constant_moved (constant.Text t) = refl

  value_moved : (v : CustomValue) → value_words (move_custom_value g v) ≡ map g (value_words v)
  value_moved (custom_value.Constant c) = constant_moved c
  value_moved (custom_value.Aggregate a) = atoms_moved a.atoms

  -- the tokens of marks
  abbrev tokens_of : List Mark → List ℕ
  tokens_of ms = map (λ (m : Mark). m.at) ms

  signed_tokens : (minus : Option ℕ) (number : ℕ) → tokens_of (flat_signed (record { minus = move_option g minus; number = g number })) ≡ map g (tokens_of (flat_signed (record { minus = minus; number = number })))
  signed_tokens None number = refl
  signed_tokens (Some i) number = refl

  strings_tokens : (ts : List ℕ) → tokens_of (flat_all text_mark (map g ts)) ≡ map g (tokens_of (flat_all text_mark ts))
  strings_tokens [] = refl
  strings_tokens (t ∷ ts) = ap (λ is. g t ∷ is) (strings_tokens ts)

  within_tokens : (colon : Bool) (n : ℕ) (xs : List Atom) (j : ℕ) → tokens_of (flat_within colon n (map (move_atom g) xs) (g j)) ≡ map g (tokens_of (flat_within colon n xs j))
  within_tokens colon n [] j = refl
  within_tokens colon n (atom.Open i ∷ xs) j = ap (λ is. g i ∷ is) (within_tokens false (suc n) xs j)
  within_tokens colon n (atom.Close i ∷ xs) j = ap (λ is. g i ∷ is) (within_tokens false (fewer n) xs j)
  within_tokens colon n (atom.Colon i ∷ xs) j = ap (λ is. g i ∷ is) (within_tokens true n xs j)
  within_tokens colon n (atom.Word i ∷ xs) j = ap (λ is. g i ∷ is) (within_tokens false n xs j)
  within_tokens colon n (atom.Other i ∷ xs) j = ap (λ is. g i ∷ is) (within_tokens false n xs j)

  value_tokens : (v : CustomValue) → tokens_of (flat_custom_value (move_custom_value g v)) ≡ map g (tokens_of (flat_custom_value v))
  value_tokens (custom_value.Constant (constant.Word w)) = refl
  value_tokens (custom_value.Constant (constant.Number n)) = signed_tokens n.minus n.number
  value_tokens (custom_value.Constant (constant.Text t)) = ap (λ is. g t.first ∷ is) (strings_tokens t.rest)
  value_tokens (custom_value.Aggregate a) = ap (λ is. g a.«open» ∷ is) (within_tokens false 0 a.atoms a.close)

  path_tokens : (bs : List (Behind ℕ)) → flat_map (λ b. b.separator ∷ b.item ∷ []) (map (move_behind g g) bs) ≡ map g (flat_map (λ b. b.separator ∷ b.item ∷ []) bs)
  path_tokens [] = refl
  path_tokens (b ∷ bs) = ap (λ is. g b.separator ∷ g b.item ∷ is) (path_tokens bs)

  -- ---- the options of a tree

  abbrev moved_options : List CustomOf → List CustomOf
  moved_options cs = map (move_custom_of g) cs

  both_moved : (a b c d : List CustomOf) → c ≡ moved_options a → d ≡ moved_options b → c ++ d ≡ moved_options (a ++ b)
  both_moved a b c d e f = ap₂ (λ (y z : List CustomOf). y ++ z) e f ∙ sym (map_append (move_custom_of g) a b)

  setting_moved : (message : Text) (s : Setting) → setting_customs message (move_setting g s) ≡ moved_options (setting_customs message s)
  setting_moved message (setting.Plain p) = refl
  setting_moved message (setting.Custom c) = refl

  behind_moved : (message : Text) (bs : List (Behind Setting)) → flat_map (setting_customs message) (map (λ b. b.item) (map (move_behind g (move_setting g)) bs)) ≡ moved_options (flat_map (setting_customs message) (map (λ b. b.item) bs))
  behind_moved message [] = refl
  behind_moved message (b ∷ bs) = both_moved (setting_customs message b.item) (flat_map (setting_customs message) (map (λ b. b.item) bs)) _ _ (setting_moved message b.item) (behind_moved message bs)

  settings_moved : (message : Text) (o : Option Settings) → settings_customs message (move_option (move_settings g) o) ≡ moved_options (settings_customs message o)
  settings_moved message None = refl
  settings_moved message (Some s) = both_moved (setting_customs message s.list.first) (flat_map (setting_customs message) (map (λ b. b.item) s.list.rest)) _ _ (setting_moved message s.list.first) (behind_moved message s.list.rest)

  statement_moved : (message : Text) (s : Statement) → statement_customs message (move_statement g s) ≡ moved_options (statement_customs message s)
  statement_moved message (statement.Option o) = setting_moved message o.setting
  statement_moved message (statement.Field f) = settings_moved (codes "FieldOptions") f.settings
  statement_moved message (statement.MapField f) = settings_moved (codes "FieldOptions") f.settings
  statement_moved message (statement.Value v) = settings_moved (codes "EnumValueOptions") v.settings
  statement_moved message _ = refl

  block_moved : (h : Header) → options_of_block (move_header g h) ≡ options_of_block h
  block_moved (header.Message h) = refl
  block_moved (header.Oneof h) = refl
  block_moved (header.Enum h) = refl
  block_moved (header.Service h) = refl
  block_moved (header.Method s) = refl
  block_moved (header.Extend e) = refl

  pub below_moved : (message : Text) (t : Tree) → customs_below message (move_tree g t) ≡ moved_options (customs_below message t)
  below_moved message End = refl
  below_moved message (Leaf s rest) = both_moved (statement_customs message s) (customs_below message rest) _ _ (statement_moved message s) (below_moved message rest)
  below_moved message (Block h i within j rest) =
      both_moved (customs_below (options_of_block h) within) (customs_below message rest) _ _
      (ap (λ (m : Text). customs_below m (move_tree g within)) (block_moved h) ∙ below_moved (options_of_block h) within) (below_moved message rest)

  -- ---- items that come in

  -- what moved options are, and those that come in
  abbrev More : List CustomOf → List CustomOf → Type 0
  More cs ds = HasMore IsAny (moved_options cs) ds

  more_behind : (a b c d : List CustomOf) → c ≡ moved_options a → More b d → More (a ++ b) (c ++ d)
  more_behind a b c d e h =
      subst (λ (z : List CustomOf). HasMore IsAny z (c ++ d)) (ap (λ (z : List CustomOf). z ++ moved_options b) e ∙ sym (map_append (move_custom_of g) a b))
      (more_front IsAny (moved_options b) d h c)

  more_before : (a b c d : List CustomOf) → More a c → d ≡ moved_options b → More (a ++ b) (c ++ d)
  more_before a b c d h e =
      subst (λ (z : List CustomOf). HasMore IsAny z (c ++ d)) (ap (λ (z : List CustomOf). moved_options a ++ z) e ∙ sym (map_append (move_custom_of g) a b))
      (more_back IsAny (moved_options a) c h d)

  module _ (b : Tree) where
    pub come_in : (message : Text) (c : Context) (t u : Tree) → IsExchanged g End b c t u → More (customs_below message t) (customs_below message u)
    come_in message _ t u (Here c rest fine on) = record {
      front = [];
      more = customs_below message b;
      back = moved_options (customs_below message rest);
      was = refl;
      is = customs_joined message b (move_tree g rest) ∙ ap (λ (z : List CustomOf). customs_below message b ++ z) (below_moved message rest);
      so = λ x e. tt;
    }
    come_in message _ t u (Later c s x y r) = more_behind (statement_customs message s) (customs_below message x) (statement_customs message (move_statement g s)) (customs_below message y) (statement_moved message s) (come_in message (after c (statement_kind s)) x y r)
    come_in message _ t u (Inside c h i x y j rest r) =
        more_before (customs_below (options_of_block h) x) (customs_below message rest) (customs_below (options_of_block (move_header g h)) y) (customs_below message (move_tree g rest))
        (subst (λ (m : Text). More (customs_below (options_of_block h) x) (customs_below m y)) (sym (block_moved h)) (come_in (options_of_block h) (inside h) x y r)) (below_moved message rest)
    come_in message _ t u (BehindBlock c h i within j x y r) =
        more_behind (customs_below (options_of_block h) within) (customs_below message x) (customs_below (options_of_block (move_header g h)) (move_tree g within)) (customs_below message y)
        (ap (λ (m : Text). customs_below m (move_tree g within)) (block_moved h) ∙ below_moved (options_of_block h) within) (come_in message (after c (header_kind h)) x y r)

    module _ (none : (message : Text) → customs_below message b ≡ []) where
      pub none_come_in : (message : Text) (c : Context) (t u : Tree) → IsExchanged g End b c t u → customs_below message u ≡ moved_options (customs_below message t)
      none_come_in message _ t u (Here c rest fine on) = customs_joined message b (move_tree g rest) ∙ ap₂ (λ (y z : List CustomOf). y ++ z) (none message) (below_moved message rest)
      none_come_in message _ t u (Later c s x y r) = both_moved (statement_customs message s) (customs_below message x) _ _ (statement_moved message s) (none_come_in message (after c (statement_kind s)) x y r)
      none_come_in message _ t u (Inside c h i x y j rest r) =
          both_moved (customs_below (options_of_block h) x) (customs_below message rest) _ _
          (ap (λ (m : Text). customs_below m y) (block_moved h) ∙ none_come_in (options_of_block h) (inside h) x y r) (below_moved message rest)
      none_come_in message _ t u (BehindBlock c h i within j x y r) =
          both_moved (customs_below (options_of_block h) within) (customs_below message x) _ _
          (ap (λ (m : Text). customs_below m (move_tree g within)) (block_moved h) ∙ below_moved (options_of_block h) within) (none_come_in message (after c (header_kind h)) x y r)

-- ---- the laws

pub options_move_tokens : OptionsMoveTokens
options_move_tokens g c = (
  ap₂ (λ (y z : List ℕ). y ++ z) (path_moved g c.path) (value_moved g c.value) ∙ sym (map_append g (map (λ b. b.item) c.path) (value_words c.value)),
  ap₂ (λ (y z : List ℕ). y ++ z) (path_tokens g c.path) (value_tokens g c.value) ∙ sym (map_append g (flat_map (λ b. b.separator ∷ b.item ∷ []) c.path) (map (λ (m : Mark). m.at) (flat_custom_value c.value))),
)

pub trees_move_options : TreesMoveOptions
trees_move_options g t = below_moved g (codes "FileOptions") t

customs_without : (message : Text) (t : Tree) → customs_below message (without_imports t) ≡ customs_below message t
customs_without message End = refl
customs_without message (Leaf (statement.Import i) rest) = customs_without message rest
customs_without message (Leaf s rest) = ap (λ (z : List CustomOf). statement_customs message s ++ z) (customs_without message rest)
customs_without message (Block h i within j rest) = ap (λ (z : List CustomOf). customs_below (options_of_block h) within ++ z) (customs_without message rest)

pub imports_move_options : ImportsMoveOptions
imports_move_options g s t e =
    let file : Text = codes "FileOptions" in
    sym (customs_without file t) ∙ ap (customs_below file) e ∙ below_moved g file (without_imports s) ∙ ap (map (move_custom_of g)) (customs_without file s)

pub options_come_in : OptionsComeIn
options_come_in g b t u r = come_in g b (codes "FileOptions") context.Start t u r

pub no_options_come_in : NoOptionsComeIn
no_options_come_in g b t u none r = none_come_in g b none (codes "FileOptions") context.Start t u r

pub deletions_keep_options : DeletionsKeepOptions
deletions_keep_options profile text tokens t s o number name result after u is d c =
    let k : Move = moved (reservation_place s o) (reservation_place s o) 6 in
    let g : Move = moved (first_token s) (first_token s) (length (own s (map (lexeme_at text) tokens))) in
    let same = no_options_come_in k (reservation (reservation_place s o)) is.middle u (λ message. refl) is.new.tree in
    let m = from_map (move_custom_of k) (customs_in is.middle) d (subst (λ (z : List CustomOf). Contains z d) same c) in
    let more = options_come_in g (Leaf s End) is.middle t is.old.tree in
    record {
      middle = m.0;
      was = more_has IsAny (map (move_custom_of g) (customs_in is.middle)) (customs_in t) more (move_custom_of g m.0) (contains_map (move_custom_of g) (customs_in is.middle) m.0 m.1);
      is = sym m.2;
    }
