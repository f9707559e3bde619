-- The declarations that are written in a file, as an editor lists them.
use Rattle.std.specs.Prelude.{ℕ, Bool, true, false, if◌then◌else◌, List, [], ◌∷◌, get_or, Option, Some, None, option_map}
use Rattle.std.specs.List.{filter_map}
use Rattle.proto_files.specs.FilesRead.{ReadOf, read_at}
use Rattle.proto_files.specs.GivenFiles.{FileOf}
use Rattle.proto_names_outline.specs.FromTree.{items_in}
use Rattle.proto_names_outline.specs.Listing.{last_token, package_first}
use Rattle.proto_names_outline.specs.declared.listing.Above.{Above}
use Rattle.proto_names_outline.specs.declared.listing.Above.TheVariants.{Below, Outermost}
use Rattle.proto_names_outline.specs.declared.listing.LastWord.{LastWord}
use Rattle.proto_names_outline.specs.declared.listing.LastWord.TheVariants.{EntryName, Key, Text, Value}
use Rattle.proto_names_outline.specs.declared.listing.Listed.{Listed}
use Rattle.proto_names_rules.specs.Grown.{at}
use Rattle.proto_names_rules.specs.Skeleton.{EntryOf, Given, Source, Token}
use Rattle.proto_names_rules.specs.Tree.{Placed}
use Rattle.proto_names_rules.specs.declared.kind.Kind.TheVariants.{Package}
use Rattle.proto_positions.specs.declared.encoding.Encoding.{Encoding}
use Rattle.proto_answers.specs.Ranges.{location_of}
use Rattle.proto_answers.specs.declared.symbols.Symbol.{Symbol}

-- the token of a name that is written; none of one that is generated
abbrev pub written_token : Source ℕ → Option ℕ
written_token (Token t) = Some t
written_token (EntryOf t) = None
written_token (Given w) = None

-- the declaration with this name token: what it is, the token of the name of what contains it, and
-- where its name stands
abbrev pub symbol_at : Encoding → List FileOf → List ReadOf → ℕ → Placed → ℕ → Symbol
symbol_at e files reads file p token = record {
  kind = p.kind;
  token = token;
  container = last_token p.above;
  location = location_of e files reads (at file token);
}

-- the same, where its name is written
abbrev pub symbol_if_written : Encoding → List FileOf → List ReadOf → ℕ → Placed → Option Symbol
symbol_if_written e files reads file p =
    option_map (symbol_at e files reads file p) (written_token p.last)

-- the written declarations of a file, its package first, each after what contains it
abbrev pub symbols_of : Encoding → List FileOf → List ReadOf → ℕ → List Symbol
symbols_of e files reads file =
    filter_map (symbol_if_written e files reads file)
    (package_first (items_in (read_at reads file).tree))

-- ---- as they are found

-- the last word is that of the token
abbrev pub is_written : LastWord → Bool
is_written Text = true
is_written EntryName = false
is_written Key = false
is_written Value = false

-- no entry
abbrev pub no_entry : Listed
no_entry = record { above = Outermost; word = Text; token = 0; kind = Package }

-- the token of what stands right above
abbrev pub container_token : List Listed → Above → Option ℕ
container_token declared Outermost = None
container_token declared (Below k) = Some (get_or declared k no_entry).token

-- the symbol, if it is written
abbrev pub if_written : LastWord → Symbol → List Symbol
if_written word symbol = if is_written word then symbol ∷ [] else []
