-- What holds of each custom option and its places holds of those of a tree and its places (for the crates above).
use Rattle.std.proofs.Common.{ℕ, List, [], ◌∷◌, ◌++◌, map, flat_map, Option, Some, None, subst, append-nil, codes}
use Rattle.proto_base.specs.Texts.{Text}
use Rattle.proto_tree.specs.declared.class.Class.TheVariants as class
use Rattle.proto_tree.specs.declared.class.Expected.TheVariants as want
use Rattle.proto_tree.specs.declared.piece.Statement.{Statement}
use Rattle.proto_tree.specs.declared.piece.Statement.TheVariants as statement
use Rattle.proto_tree.specs.declared.tree.Behind.{Behind}
use Rattle.proto_tree.specs.declared.tree.Custom.{Custom}
use Rattle.proto_tree.specs.declared.tree.Setting.{Setting}
use Rattle.proto_tree.specs.declared.tree.Setting.TheVariants as setting
use Rattle.proto_tree.specs.declared.tree.Settings.{Settings}
use Rattle.proto_tree.specs.Common.{Mark, flat, flat_all, flat_behind, flat_custom, flat_header, flat_option, flat_separated, flat_setting, flat_settings, flat_signed, flat_statement, flat_type, name, one, only}
use Rattle.proto_tree.proofs.Common.{Tree, End, Leaf, Block}
use Rattle.proto_custom_options.specs.CustomOptions.{CustomOf, customs_below, options_of_block, setting_customs, settings_customs, statement_customs}

-- a relation of places and of the options that stand at them, which holds of one option, where there is none, and of
-- two parts, one behind the other
module _ (R : List Mark → List CustomOf → Type 0) (none : (ms : List Mark) → R ms []) (both : (a b : List Mark) (cs ds : List CustomOf) → R a cs → R b ds → R (a ++ b) (cs ++ ds))
    (custom : (message : Text) (c : Custom) → R (flat_custom c) (record { message = message; custom = c } ∷ [])) where
  -- options with places before them, and behind them
  late : (a b : List Mark) (cs : List CustomOf) → R b cs → R (a ++ b) cs
  late a b cs r = both a b [] cs (none a) r

  early : (a b : List Mark) (cs : List CustomOf) → R a cs → R (a ++ b) cs
  early a b cs r = subst (R (a ++ b)) (append-nil cs) (both a b cs [] r (none b))

  of_setting : (m : Text) (s : Setting) → R (flat_setting s) (setting_customs m s)
  of_setting m (setting.Plain p) = none (flat_setting (setting.Plain p))
  of_setting m (setting.Custom c) = custom m c

  of_rest : (m : Text) (bs : List (Behind Setting)) → R (flat_all (flat_behind class.Comma flat_setting) bs) (flat_map (setting_customs m) (map (λ b. b.item) bs))
  of_rest m [] = none []
  of_rest m (b ∷ bs) =
      both (one class.Comma b.separator ++ flat_setting b.item) (flat_all (flat_behind class.Comma flat_setting) bs) (setting_customs m b.item) (flat_map (setting_customs m) (map (λ b. b.item) bs))
      (late (one class.Comma b.separator) (flat_setting b.item) (setting_customs m b.item) (of_setting m b.item)) (of_rest m bs)

  of_settings : (m : Text) (o : Option Settings) → R (flat_option flat_settings o) (settings_customs m o)
  of_settings m None = none []
  of_settings m (Some s) =
      let list : List Mark = flat_separated class.Comma flat_setting s.list in
      let customs : List CustomOf = settings_customs m (Some s) in
      late (one class.LeftBracket s.«open») (list ++ one class.RightBracket s.close) customs
      (early list (one class.RightBracket s.close) customs
      (both (flat_setting s.list.first) (flat_all (flat_behind class.Comma flat_setting) s.list.rest) (setting_customs m s.list.first) (flat_map (setting_customs m) (map (λ b. b.item) s.list.rest))
      (of_setting m s.list.first) (of_rest m s.list.rest)))

  -- those between brackets, before a `;`
  of_end : (m : Text) (o : Option Settings) (semicolon : ℕ) → R (flat_option flat_settings o ++ one class.Semicolon semicolon) (settings_customs m o)
  of_end m o semicolon = early (flat_option flat_settings o) (one class.Semicolon semicolon) (settings_customs m o) (of_settings m o)

  of_statement : (m : Text) (s : Statement) → R (flat_statement s) (statement_customs m s)
  of_statement m (statement.Option o) =
      let customs : List CustomOf = setting_customs m o.setting in
      late (one class.Option o.keyword) (flat_setting o.setting ++ one class.Semicolon o.semicolon) customs
      (early (flat_setting o.setting) (one class.Semicolon o.semicolon) customs (of_setting m o.setting))
  of_statement m (statement.Field f) =
      let customs : List CustomOf = settings_customs (codes "FieldOptions") f.settings in
      let settings : List Mark = flat_option flat_settings f.settings ++ one class.Semicolon f.semicolon in
      let numbered : List Mark = one class.Equals f.equals ++ (one class.Number f.number ++ settings) in
      late (flat_option (only want.Label) f.label) (flat_type f.kind ++ (name f.name ++ numbered)) customs
      (late (flat_type f.kind) (name f.name ++ numbered) customs
      (late (name f.name ++ (one class.Equals f.equals ++ one class.Number f.number)) settings customs (of_end (codes "FieldOptions") f.settings f.semicolon)))
  of_statement m (statement.MapField f) =
      let customs : List CustomOf = settings_customs (codes "FieldOptions") f.settings in
      let settings : List Mark = flat_option flat_settings f.settings ++ one class.Semicolon f.semicolon in
      let named : List Mark = one class.Greater f.close ++ (name f.name ++ (one class.Equals f.equals ++ (one class.Number f.number ++ settings))) in
      late (one class.Map f.keyword ++ (one class.Less f.«open» ++ (one class.Scalar f.key ++ one class.Comma f.comma))) (flat_type f.value ++ named) customs
      (late (flat_type f.value) named customs
      (late (one class.Greater f.close ++ (name f.name ++ (one class.Equals f.equals ++ one class.Number f.number))) settings customs (of_end (codes "FieldOptions") f.settings f.semicolon)))
  of_statement m (statement.Value v) =
      let customs : List CustomOf = settings_customs (codes "EnumValueOptions") v.settings in
      let settings : List Mark = flat_option flat_settings v.settings ++ one class.Semicolon v.semicolon in
      late (only want.ValueName v.name ++ one class.Equals v.equals) (flat_signed v.number ++ settings) customs
      (late (flat_signed v.number) settings customs (of_end (codes "EnumValueOptions") v.settings v.semicolon))
  of_statement m (statement.Syntax s) = none (flat_statement (statement.Syntax s))
  of_statement m (statement.Import i) = none (flat_statement (statement.Import i))
  of_statement m (statement.Package p) = none (flat_statement (statement.Package p))
  of_statement m (statement.Reserved r) = none (flat_statement (statement.Reserved r))
  of_statement m (statement.Extensions e) = none (flat_statement (statement.Extensions e))
  of_statement m (statement.EnumReserved r) = none (flat_statement (statement.EnumReserved r))
  of_statement m (statement.Method s i) = none (flat_statement (statement.Method s i))
  of_statement m (statement.Empty i) = none (flat_statement (statement.Empty i))

  pub of_tree : (m : Text) (t : Tree) → R (flat t) (customs_below m t)
  of_tree m End = none []
  of_tree m (Leaf s rest) = both (flat_statement s) (flat rest) (statement_customs m s) (customs_below m rest) (of_statement m s) (of_tree m rest)
  of_tree m (Block h i within j rest) =
      let inner : List CustomOf = customs_below (options_of_block h) within in
      let outer : List CustomOf = customs_below m rest in
      let behind : List Mark = one class.Close j ++ flat rest in
      late (flat_header h ++ one class.Open i) (flat within ++ behind) (inner ++ outer)
      (both (flat within) behind inner outer (of_tree (options_of_block h) within) (late (one class.Close j) (flat rest) outer (of_tree m rest)))
