-- Files whose extensions stay: their language, their numbers, what they extend, whether that leaves
-- them their numbers, and the options that they are set as.
use Rattle.std.specs.Prelude.{◌≡◌, ℕ, ℤ, List, [], map, None}
use Rattle.std.specs.List.{Contains}
use Rattle.proto_base.specs.Texts.{Text}
use Rattle.proto_files.specs.FilesRead.{ReadOf}
use Rattle.proto_files.specs.GivenFiles.{FileOf, file_at}
use Rattle.proto_desc_extensions.specs.Extensions.{ExtensionOf, custom_flaws, extensions_in, is_extendable}

-- what an extension says, wherever it stands: its number, and the full name of what it extends
pub record Saying : Type 0 where
  pub number : ℤ
  pub extendee : List Text

-- the same of an extension of a file
abbrev pub saying_of : ExtensionOf → Saying
saying_of e = record { number = e.number.number; extendee = e.extendee }

-- Each file is of its language, its extensions say what they said, in their order, what they extend
-- leaves them their numbers where it did, and a file whose custom options were right has right ones.
pub record ExtensionsStay
    (files : List FileOf) (reads : List ReadOf) (after : List FileOf) (seen : List ReadOf)
    : Type 0 where
  pub profiles : (k : ℕ) → (file_at after k).profile ≡ (file_at files k).profile
  pub said : (k : ℕ)
      → map saying_of (extensions_in None after seen k) ≡ map saying_of
      (extensions_in None files reads k)
  pub extendable : (k : ℕ) (e : ExtensionOf)
      → Contains (extensions_in None files reads k) e
      → is_extendable None after seen e ≡ is_extendable None files reads e
  pub options : (k : ℕ) → custom_flaws files reads k ≡ [] → custom_flaws after seen k ≡ []
