-- The value of an enum of a file, as the file is read.
use Rattle.std.proofs.Common.{◌≡◌, ℕ, ◌<◌, Bool, true, false, if◌then◌else◌, List, length, find, Option, Some, None, option_and_then, refl, sym, ap, ◌∙◌}
use Rattle.proto_base.proofs.Common.{none-some, same_Some}
use Rattle.proto_text.proofs.Common.{Lexeme, word_at}
use Rattle.proto_tree.specs.Tree.{Tree}
use Rattle.proto_files.proofs.Common.{AreRead, FileOf, IsTreeOf, ReadOf, file_at, read_at, same_tree}
use Rattle.proto_names_rules.specs.Grown.{at}
use Rattle.proto_names_imports.specs.Links.{text_of}
use Rattle.proto_ast.specs.Parts.{BlockOf, blocks_in}
use Rattle.proto_resolved.specs.Blocks.{holders_in}
use Rattle.proto_resolved.specs.SceneOf.{is_enum_at, lexemes_of}
use Rattle.proto_resolved.proofs.Holders.{found_in_holders}
use Rattle.proto_names_at.specs.Defaults.{value_in, value_of_enum}

module _ (files : List FileOf) (reads : List ReadOf) (are : AreRead files reads) (file : ℕ) (within : file < length files) (tree : Tree) (of_file : IsTreeOf (file_at files file) tree) (token : ℕ) (blocks : List BlockOf) (is : blocks ≡ holders_in tree) where
  -- the enum is the first at the token of all blocks
  enum_is : find (λ b. is_enum_at token b.header) blocks ≡ find (λ b. is_enum_at token b.header) (blocks_in (read_at reads file).tree)
  enum_is =
      ap (find (λ (b : BlockOf). is_enum_at token b.header)) is
      ∙ found_in_holders (is_enum_at token) (λ h. refl) (λ s. refl) tree
      ∙ ap (λ (t : Tree). find (λ b. is_enum_at token b.header) (blocks_in t)) (sym (same_tree files reads file tree are within of_file))

  pub enum_value : (word : List ℕ) (b : BlockOf) → Some b ≡ find (λ b. is_enum_at token b.header) blocks → (lexemes : List Lexeme) → lexemes ≡ lexemes_of files reads file → (value : Option ℕ) → value ≡ value_in (word_at lexemes) word b.within
      → value ≡ value_of_enum (λ t. text_of files reads (at file t)) word token (blocks_in (read_at reads file).tree)
  enum_value word b found lexemes same value its =
      its
      ∙ ap (λ (ls : List Lexeme). value_in (word_at ls) word b.within) same
      ∙ ap (option_and_then (λ (c : BlockOf). value_in (λ t. text_of files reads (at file t)) word c.within)) (found ∙ enum_is)

  pub no_enum : (word : List ℕ) → None ≡ find (λ b. is_enum_at token b.header) blocks → None ≡ value_of_enum (λ t. text_of files reads (at file t)) word token (blocks_in (read_at reads file).tree)
  no_enum word none = ap (option_and_then (λ (c : BlockOf). value_in (λ t. text_of files reads (at file t)) word c.within)) (none ∙ enum_is)

-- ---- a block that is looked at

pub if_none : (b : Bool) (x : BlockOf) → None ≡ (if b then Some x else None) → b ≡ false
if_none true x e = absurd (none-some x e)
if_none false x e = refl

pub if_some : (b : Bool) (x y : BlockOf) → Some y ≡ (if b then Some x else None) → (b ≡ true) × (y ≡ x)
if_some true x y e = (refl, same_Some y x e)
if_some false x y e = absurd (none-some y (sym e))
