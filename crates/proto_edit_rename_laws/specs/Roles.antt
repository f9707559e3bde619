-- What a rename wants of the tokens of files: which are names, which are words of references, which
-- are words of defaults, and which are none of these. Linked files have it, since a place of the
-- grammar tells apart a declared name, a word of a reference, the name of an option and a constant.
use Rattle.std.specs.Prelude.{◌≡◌, ◌≢◌, ◌⊎◌, ℕ, ◌<◌, true, false, List, ◌∷◌, ◌++◌, length, map, Option, Some, None, is_some, if◌then◌else◌, codes}
use Rattle.std.specs.List.{All, AllPairs, Contains}
use Rattle.proto_base.specs.Texts.{Text}
use Rattle.proto_case.specs.Camel.{entry_name}
use Rattle.proto_tree.specs.References.{first_of}
use Rattle.proto_tree.specs.Flat.{Mark}
use Rattle.proto_tree.specs.Tree.{flat}
use Rattle.proto_tree.specs.declared.tree.Reference.{Reference}
use Rattle.proto_tree.specs.declared.tree.Signed.{Signed}
use Rattle.proto_tree.specs.declared.tree.Value.{Value}
use Rattle.proto_tree.specs.declared.class.Class.TheVariants as class
use Rattle.proto_tree.specs.declared.class.Expected.TheVariants as want
use Rattle.proto_tree.specs.declared.tree.Constant.TheVariants as constant
use Rattle.proto_tree.specs.declared.tree.FieldType.TheVariants as field_type
use Rattle.proto_files.specs.GivenFiles.{FileOf}
use Rattle.proto_files.specs.FilesRead.{ReadOf, read_at}
use Rattle.proto_names_rules.specs.Faults.{place_of}
use Rattle.proto_names_rules.specs.Grown.{At, at}
use Rattle.proto_names_rules.specs.Skeleton.{Declared, Used, Skeleton, name_of}
use Rattle.proto_names_rules.specs.declared.kind.Kind.TheVariants as kind
use Rattle.proto_names_rules.specs.declared.wants.Wants.TheVariants as wants
use Rattle.proto_names_imports.specs.Links.{link_skeleton, text_of}
use Rattle.proto_ast.specs.Options.{is_named}
use Rattle.proto_ast.specs.Parts.{BlockOf, FieldOf, OptionOf, blocks_in, fields_in, values_in}
use Rattle.proto_desc_checks_laws.specs.Renamed.{asked_tokens}
use Rattle.proto_resolved.specs.SceneOf.{scene_of}
use Rattle.proto_edit_rules.specs.Rename.{NewWords, fields_of_block, meaning_from, means_value, renamed_defaults, type_meaning, Target, name_map, renamed_words}
use Rattle.proto_edit_rename_laws.specs.Places.{Names, Uses}
use Rattle.proto_edit_rename_laws.specs.Targets.{HasValue}

-- ---- names, words of references, and defaults

-- A token names a declaration, is one word of one reference, or a default, and not two of these.
pub record RolesAreApart (k : Skeleton At) (defaults : List At) : Type 0 where
  pub names_uses : (i : At) → Names k i → Uses k i → ⊥
  pub names_defaults : (i : At) → Names k i → Contains defaults i → ⊥
  pub uses_defaults : (i : At) → Uses k i → Contains defaults i → ⊥
  pub once : (u v : Used At)
      → Contains k.used u
      → Contains k.used v
      → (xs ys zs ws : List At) (i : At)
      → u.tokens ≡ xs ++ i ∷ ys
      → v.tokens ≡ zs ++ i ∷ ws
      → (u ≡ v) × (xs ≡ zs)

-- what is wanted where the target is named, where a word of a reference stands, and
-- where a default that means it stands
pub record HasWants
    (files : List FileOf) (reads : List ReadOf) (t : Target) (to : Text) : Type 0 where
  pub name : (k : ℕ) (m : Mark)
      → Contains (flat (read_at reads k).tree) m
      → at k m.at ≡ t.token
      → (m.want ≡ want.Name) ⊎ ((m.want ≡ want.ValueName) × (t.aim.kind ≡ kind.Value))
  pub uses : (k : ℕ) (m : Mark)
      → Contains (flat (read_at reads k).tree) m
      → Uses (link_skeleton files reads) (at k m.at)
      → (m.want ≡ want.Word) ⊎ (m.want ≡ want.One class.Name)
  -- any word may stand in the name of an option
  pub options : (k : ℕ) (m : Mark)
      → Contains (flat (read_at reads k).tree) m
      → (u : Used At)
      → Contains (link_skeleton files reads).used u
      → u.wants ≡ wants.Extension
      → Contains u.tokens (at k m.at)
      → m.want ≡ want.Word
  pub defaults : (k : ℕ) (m : Mark)
      → Contains (flat (read_at reads k).tree) m
      → Contains (renamed_defaults files reads t.enum (name_map files reads t to).old) (at k m.at)
      → m.want ≡ want.Constant

-- ---- tokens that checks read

-- the numbers of enums' values are not changed
abbrev pub NumbersStay : NewWords → List ReadOf → Type 0
NumbersStay c reads = (file : ℕ) (b : BlockOf) (v : Value)
    → Contains (blocks_in (read_at reads file).tree) b
    → Contains (values_in b.within) v
    → c (at file v.number.number) ≡ None

-- the tokens of the files, besides those of values and defaults
pub record HasRoles
    (files : List FileOf) (reads : List ReadOf) (t : Target) (to : Text) : Type 0 where
  pub apart : RolesAreApart (link_skeleton files reads)
      (renamed_defaults files reads t.enum (name_map files reads t to).old)
  pub wants : HasWants files reads t to
  pub numbers : NumbersStay (renamed_words files reads t to) reads
  -- no token is changed that checks read besides names and defaults
  pub asked : (file : ℕ)
      → file < length files
      → All (λ i. is_some (renamed_words files reads t to (at file i)) ≡ false)
      (asked_tokens (scene_of None files reads file) (read_at reads file).tree)
  -- a token names one field, or one extension, of a block
  pub fields : (file : ℕ) (b : BlockOf)
      → Contains (blocks_in (read_at reads file).tree) b
      → AllPairs (λ f g. f.name ≢ g.name) (fields_in b.within)
  -- what stands in a block is declared
  pub field_names : (file : ℕ) (b : BlockOf) (f : FieldOf)
      → file < length files
      → Contains (blocks_in (read_at reads file).tree) b
      → Contains (fields_in b.within) f
      → Names (link_skeleton files reads) (at file f.name)
  pub value_names : (file : ℕ) (b : BlockOf)
      → file < length files
      → Contains (blocks_in (read_at reads file).tree) b
      → (i : ℕ)
      → Contains (map (λ v. v.name) (values_in b.within)) i
      → Names (link_skeleton files reads) (at file i)
  -- the name of an option is not changed
  pub option_names : (file : ℕ) (b : BlockOf) (f : FieldOf) (o : OptionOf)
      → Contains (blocks_in (read_at reads file).tree) b
      → Contains (fields_in b.within) f
      → Contains f.options o
      → renamed_words files reads t to (at file o.name) ≡ None

-- ---- values and defaults

-- Values name declarations; the target's enum is the one whose block has it; and no
-- two values of an enum have one name.
pub record HasEnumRoles (files : List FileOf) (reads : List ReadOf) (t : Target) : Type 0 where
  pub names : (d : Declared At) (v : ℕ)
      → HasValue files reads d v
      → Names (link_skeleton files reads) (at (place_of d).file v)
  pub one : (d : Declared At) (v : ℕ)
      → HasValue files reads d v
      → at (place_of d).file v ≡ t.token
      → t.enum ≡ Some (name_of (text_of files reads) entry_name d.path)
  pub apart : (d : Declared At) (v : ℕ)
      → HasValue files reads d v
      → t.enum ≡ Some (name_of (text_of files reads) entry_name d.path)
      → text_of files reads (at (place_of d).file v) ≡ text_of files reads t.token
      → at (place_of d).file v ≡ t.token

-- Numbers are not changed; a word names and uses nothing, and is a renamed
-- default only as one of this field's.
pub record HasDefaultWords
    (files : List FileOf) (reads : List ReadOf) (t : Target) (to : Text) (file : ℕ) (f : FieldOf)
    : Type 0 where
  pub number : (o : OptionOf) (n : Signed)
      → Contains f.options o
      → o.value ≡ constant.Number n
      → renamed_words files reads t to (at file n.number) ≡ None
  pub no_name : (o : OptionOf) (w : ℕ)
      → Contains f.options o
      → o.value ≡ constant.Word w
      → Names (link_skeleton files reads) (at file w)
      → ⊥
  pub no_use : (o : OptionOf) (w : ℕ)
      → Contains f.options o
      → o.value ≡ constant.Word w
      → Uses (link_skeleton files reads) (at file w)
      → ⊥
  pub own : (o : OptionOf) (w : ℕ)
      → Contains f.options o
      → o.value ≡ constant.Word w
      → Contains (renamed_defaults files reads t.enum (text_of files reads t.token)) (at file w)
      → means_value t.enum (text_of files reads t.token) (type_meaning files reads file f.kind)
      (text_of files reads (at file w)) ≡ true

-- What is not changed of a field and its defaults, and that an enum's default is
-- changed where it means the value.
pub record HasDefaultRoles
    (c : NewWords) (text now : At → Text) (means : ℕ → Option (List Text))
    (enum : Option (List Text)) (old to : Text) (file : ℕ) (f : FieldOf) : Type 0 where
  pub label : (i : ℕ) → f.label ≡ Some i → c (at file i) ≡ None
  pub scalar : (i : ℕ) → f.kind ≡ field_type.Scalar i → c (at file i) ≡ None
  pub number : (o : OptionOf) (n : Signed)
      → Contains f.options o
      → o.value ≡ constant.Number n
      → c (at file n.number) ≡ None
  pub word : (o : OptionOf) (i w : ℕ)
      → Contains f.options o
      → f.kind ≡ field_type.Scalar i
      → o.value ≡ constant.Word w
      → c (at file w) ≡ None
  pub enum_word : (o : OptionOf) (r : Reference) (w : ℕ)
      → Contains f.options o
      → f.kind ≡ field_type.Reference r
      → o.value ≡ constant.Word w
      → is_named (λ t. text (at file t)) (codes "default") o ≡ true
      → now (at file w) ≡
      (if means_value enum old (means (first_of r.dot r.words)) (text (at file w))
      then to
      else text (at file w))

-- All fields of messages, and all extensions, have these roles.
pub record HasFieldRoles
    (files : List FileOf) (reads : List ReadOf) (t : Target) (to : Text) (after : List FileOf)
    (seen : List ReadOf) : Type 0 where
  pub defaults : (file : ℕ) (b : BlockOf) (f : FieldOf)
      → file < length files
      → Contains (blocks_in (read_at reads file).tree) b
      → Contains (fields_of_block b.header b.within) f
      → HasDefaultRoles (renamed_words files reads t to) (text_of files reads) (text_of after seen)
      (meaning_from files reads file) t.enum (text_of files reads t.token) to file f

-- The words of the defaults of all fields of messages, and of all extensions, are as they are to be.
abbrev pub HaveDefaultWords : List FileOf → List ReadOf → Target → Text → Type 0
HaveDefaultWords files reads t to = (file : ℕ) (b : BlockOf) (f : FieldOf)
    → file < length files
    → Contains (blocks_in (read_at reads file).tree) b
    → Contains (fields_of_block b.header b.within) f
    → HasDefaultWords files reads t to file f

-- ---- all of it

-- what is wanted of the tokens of the files, for a rename of this target
pub record TokensHaveRenameRoles
    (files : List FileOf) (reads : List ReadOf) (t : Target) (to : Text) : Type 0 where
  pub tokens : HasRoles files reads t to
  pub enums : HasEnumRoles files reads t
  pub defaults : HaveDefaultWords files reads t to
