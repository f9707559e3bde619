-- The custom options of a file: none in the core language, and each of an element whose options message is one of the nine.
use Rattle.std.proofs.Common.{◌≡◌, ℕ, ◌<◌, Bool, true, false, List, [], ◌∷◌, ◌++◌, length, flat_map, Option, Some, None, refl, sym, ap, subst, ◌∙◌, bytes_eq, codes, Contains, true≢false}
use Rattle.proto_base.proofs.Common.{AllByRecursion, All-contains, All-from_recursion, list_any, or_parts}
use Rattle.proto_base.specs.declared.profile.Profile.{Profile}
use Rattle.proto_base.specs.declared.profile.Profile.TheVariants as profile
use Rattle.proto_tree.specs.Common.{Mark, any_for, flat_custom, is_for}
use Rattle.proto_tree.specs.declared.class.Class.TheVariants as class
use Rattle.proto_tree.specs.declared.piece.Header.{Header}
use Rattle.proto_tree.specs.declared.piece.Header.TheVariants as header
use Rattle.proto_tree.specs.declared.piece.Statement.{Statement}
use Rattle.proto_tree.specs.declared.piece.Statement.TheVariants as statement
use Rattle.proto_tree.specs.declared.tree.Setting.{Setting}
use Rattle.proto_tree.specs.declared.tree.Setting.TheVariants as setting
use Rattle.proto_tree.specs.declared.tree.Settings.{Settings}
use Rattle.proto_tree.proofs.Common.{ReadsIn, Tree, End, Leaf, Block, core_trees_are_plain}
use Rattle.proto_files.proofs.Common.{AreRead, FileOf, ReadOf, file_at, read_at}
use Rattle.proto_ast.proofs.Common.{separated}
use Rattle.proto_custom_options.proofs.Stretches.{customs_stand}
use Rattle.proto_custom_options.specs.CustomOptions.{CustomOf, customs_below, customs_in, options_messages, options_of_block, setting_customs, settings_customs, statement_customs}
use Rattle.proto_desc_checks.proofs.FlawTokens.{both}

-- ---- files of the core language

none_behind : (front ms : List Mark) → any_for class.NameParenthesis (front ++ ms) ≡ false → any_for class.NameParenthesis ms ≡ false
none_behind [] ms e = e
none_behind (m ∷ front) ms e = none_behind front ms (or_parts (is_for class.NameParenthesis m.want) (any_for class.NameParenthesis (front ++ ms)) e).1

-- such a file has no custom option
pub core_has_none : (files : List FileOf) (reads : List ReadOf) → AreRead files reads → (file : ℕ) → file < length files → (file_at files file).profile ≡ profile.Core → (c : CustomOf) → Contains (customs_in (read_at reads file).tree) c → ⊥
core_has_none files reads are file within core c cx =
    let r : ReadOf = read_at reads file in
    let s = customs_stand r.tree c cx in
    let plain = core_trees_are_plain (file_at files file).bytes r.tokens r.tree (subst (λ (p : Profile). ReadsIn p (file_at files file).bytes r.tokens r.tree) core (are.trees file within)) in
    let here : any_for class.NameParenthesis (flat_custom c.custom ++ s.back) ≡ false = none_behind s.front (flat_custom c.custom ++ s.back) (ap (any_for class.NameParenthesis) (sym s.is) ∙ plain) in
    true≢false here

-- ---- options messages of elements

-- the word is the simple name of one of the nine, or empty, as that of an `extend`
abbrev pub is_known : List ℕ → Bool
is_known [] = true
is_known (b ∷ bs) = list_any (bytes_eq (b ∷ bs)) options_messages

abbrev IsKnown : CustomOf → Type 0
IsKnown c = is_known c.message ≡ true

of_setting : (m : List ℕ) → is_known m ≡ true → (s : Setting) → AllByRecursion IsKnown (setting_customs m s)
of_setting m h (setting.Plain p) = tt
of_setting m h (setting.Custom c) = (h, tt)

of_list : (m : List ℕ) → is_known m ≡ true → (ss : List Setting) → AllByRecursion IsKnown (flat_map (setting_customs m) ss)
of_list m h [] = tt
of_list m h (s ∷ ss) = both IsKnown (setting_customs m s) (flat_map (setting_customs m) ss) (of_setting m h s) (of_list m h ss)

of_settings : (m : List ℕ) → is_known m ≡ true → (o : Option Settings) → AllByRecursion IsKnown (settings_customs m o)
of_settings m h None = tt
of_settings m h (Some s) = of_list m h (separated s.list)

of_statement : (m : List ℕ) → is_known m ≡ true → (s : Statement) → AllByRecursion IsKnown (statement_customs m s)
of_statement m h (statement.Option o) = of_setting m h o.setting
of_statement m h (statement.Field f) = of_settings (codes "FieldOptions") refl f.settings
of_statement m h (statement.MapField f) = of_settings (codes "FieldOptions") refl f.settings
of_statement m h (statement.Value v) = of_settings (codes "EnumValueOptions") refl v.settings
of_statement m h (statement.Syntax s) = tt
of_statement m h (statement.Import i) = tt
of_statement m h (statement.Package p) = tt
of_statement m h (statement.Reserved r) = tt
of_statement m h (statement.Extensions e) = tt
of_statement m h (statement.EnumReserved r) = tt
of_statement m h (statement.Method s e) = tt
of_statement m h (statement.Empty i) = tt

of_header : (h : Header) → is_known (options_of_block h) ≡ true
of_header (header.Message h) = refl
of_header (header.Oneof h) = refl
of_header (header.Enum h) = refl
of_header (header.Service h) = refl
of_header (header.Method s) = refl
of_header (header.Extend e) = refl

of_tree : (m : List ℕ) → is_known m ≡ true → (t : Tree) → AllByRecursion IsKnown (customs_below m t)
of_tree m h End = tt
of_tree m h (Leaf s rest) = both IsKnown (statement_customs m s) (customs_below m rest) (of_statement m h s) (of_tree m h rest)
of_tree m h (Block x i within j rest) =
    both IsKnown (customs_below (options_of_block x) within) (customs_below m rest) (of_tree (options_of_block x) (of_header x) within) (of_tree m h rest)

pub message_known : (t : Tree) (c : CustomOf) → Contains (customs_in t) c → is_known c.message ≡ true
message_known t c cx = All-contains IsKnown (customs_in t) c (All-from_recursion IsKnown (customs_in t) (of_tree (codes "FileOptions") refl t)) cx
