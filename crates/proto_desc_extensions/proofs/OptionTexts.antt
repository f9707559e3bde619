-- The name of an options message as text, and the simple names of options messages.
use Rattle.std.proofs.Common.{◌≡◌, ℕ, false, ◌==◌, List, [], ◌∷◌, flat_map, Option, Some, None, refl, sym, ap, ◌∙◌, bytes_eq, codes, All}
use Rattle.proto_base.proofs.Common.{AllByRecursion, All-from_recursion, bytes_eq-Decides, list_any}
use Rattle.proto_tree.specs.Tree.{Tree, End, Leaf, Block}
use Rattle.proto_tree.specs.declared.piece.Header.{Header}
use Rattle.proto_tree.specs.declared.piece.Header.TheVariants as header
use Rattle.proto_tree.specs.declared.piece.Statement.{Statement}
use Rattle.proto_tree.specs.declared.piece.Statement.TheVariants as statement
use Rattle.proto_tree.specs.declared.tree.Setting.{Setting}
use Rattle.proto_tree.specs.declared.tree.Setting.TheVariants as setting
use Rattle.proto_tree.specs.declared.tree.Settings.{Settings}
use Rattle.proto_names_rules.proofs.Common.{ArePlain, at_point, joined, name_from_same, not_pointed, same_from_name, same_name}
use Rattle.proto_ast.proofs.Common.{separated}
use Rattle.proto_custom_options.specs.CustomOptions.{customs_below, customs_in, options_of_block, options_text, options_words, setting_customs, settings_customs, statement_customs}
use Rattle.proto_desc_numbers.proofs.CappedRanges.{agree}
use Rattle.proto_desc_checks.proofs.FlawTokens.{both}
use Rattle.proto_desc_extensions.specs.Common.{IsOfOneWord, is_the_message, meant_text}

-- ---- words without dots are told apart by their texts

abbrev pub IsDotless : List ℕ → Type 0
IsDotless word = list_any (λ b. b == 46) word ≡ false

abbrev AreDotless : List (List ℕ) → Type 0
AreDotless [] = Unit {0}
AreDotless (w ∷ rest) = IsDotless w × AreDotless rest

parted : (w : List ℕ) (x : List (List ℕ)) (u : List ℕ) (y : List (List ℕ)) → AreDotless (w ∷ x) → AreDotless (u ∷ y) → joined (w ∷ x) ≡ joined (u ∷ y) → ◌≡◌ {A = List (List ℕ)} (w ∷ x) (u ∷ y)
parted w [] u [] p q h = ap (λ (z : List ℕ). z ∷ []) h
parted w [] u (v ∷ y) p q h = absurd (not_pointed w u (joined (v ∷ y)) p.0 h)
parted w (v ∷ x) u [] p q h = absurd (not_pointed u w (joined (v ∷ x)) q.0 (sym h))
parted w (v ∷ x) u (t ∷ y) p q h =
    let r = at_point w u (joined (v ∷ x)) (joined (t ∷ y)) p.0 q.0 h in
    ap (λ (z : List ℕ). z ∷ v ∷ x) r.0 ∙ ap (λ (zs : List (List ℕ)). u ∷ zs) (parted v x t y p.1 q.1 r.1)

plain_dotless : (x : List (List ℕ)) → ArePlain x → AreDotless x
plain_dotless [] h = tt
plain_dotless (w ∷ x) h = (h.0.0, plain_dotless x h.1)

module _ (message : List ℕ) (one : IsDotless message) where
  from_text : (name : List (List ℕ)) → ArePlain name → joined name ≡ options_text message → name ≡ options_words message
  from_text [] plain h = absurd (cc)
  from_text (w ∷ x) plain h = parted w x (codes "google") (codes "protobuf" ∷ message ∷ []) (plain_dotless (w ∷ x) plain) (refl, (refl, (one, tt))) h

  -- a name that is meant is that of the options message exactly where its text is
  pub same_message : (o : Option (List (List ℕ))) → ((name : List (List ℕ)) → o ≡ Some name → ArePlain name) → bytes_eq (meant_text o) (options_text message) ≡ is_the_message message o
  same_message None plain = refl
  same_message (Some name) plain =
      agree (bytes_eq (joined name) (options_text message)) (same_name name (options_words message))
      (λ e. same_from_name name (options_words message) (from_text name (plain name refl) ((bytes_eq-Decides (joined name) (options_text message)).0 e)))
      (λ e. (bytes_eq-Decides (joined name) (options_text message)).1 (ap joined (name_from_same name (options_words message) e)))

-- ---- the options messages of elements have simple names

of_setting : (m : List ℕ) → IsDotless m → (s : Setting) → AllByRecursion IsOfOneWord (setting_customs m s)
of_setting m h (setting.Plain p) = tt
of_setting m h (setting.Custom c) = (h, tt)

of_list : (m : List ℕ) → IsDotless m → (ss : List Setting) → AllByRecursion IsOfOneWord (flat_map (setting_customs m) ss)
of_list m h [] = tt
of_list m h (s ∷ ss) = both IsOfOneWord (setting_customs m s) (flat_map (setting_customs m) ss) (of_setting m h s) (of_list m h ss)

of_settings : (m : List ℕ) → IsDotless m → (o : Option Settings) → AllByRecursion IsOfOneWord (settings_customs m o)
of_settings m h None = tt
of_settings m h (Some s) = of_list m h (separated s.list)

of_statement : (m : List ℕ) → IsDotless m → (s : Statement) → AllByRecursion IsOfOneWord (statement_customs m s)
of_statement m h (statement.Option o) = of_setting m h o.setting
of_statement m h (statement.Field f) = of_settings (codes "FieldOptions") refl f.settings
of_statement m h (statement.MapField f) = of_settings (codes "FieldOptions") refl f.settings
of_statement m h (statement.Value v) = of_settings (codes "EnumValueOptions") refl v.settings
of_statement m h (statement.Syntax s) = tt
of_statement m h (statement.Import i) = tt
of_statement m h (statement.Package p) = tt
of_statement m h (statement.Reserved r) = tt
of_statement m h (statement.Extensions e) = tt
of_statement m h (statement.EnumReserved r) = tt
of_statement m h (statement.Method s e) = tt
of_statement m h (statement.Empty i) = tt

of_header : (h : Header) → IsDotless (options_of_block h)
of_header (header.Message h) = refl
of_header (header.Oneof h) = refl
of_header (header.Enum h) = refl
of_header (header.Service h) = refl
of_header (header.Method s) = refl
of_header (header.Extend e) = refl

of_tree : (m : List ℕ) → IsDotless m → (t : Tree) → AllByRecursion IsOfOneWord (customs_below m t)
of_tree m h End = tt
of_tree m h (Leaf s rest) = both IsOfOneWord (statement_customs m s) (customs_below m rest) (of_statement m h s) (of_tree m h rest)
of_tree m h (Block x i within j rest) =
    both IsOfOneWord (customs_below (options_of_block x) within) (customs_below m rest) (of_tree (options_of_block x) (of_header x) within) (of_tree m h rest)

pub are_of_one_word : (t : Tree) → All IsOfOneWord (customs_in t)
are_of_one_word t = All-from_recursion IsOfOneWord (customs_in t) (of_tree (codes "FileOptions") refl t)
