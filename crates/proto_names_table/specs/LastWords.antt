-- The declarations of a file's list with the last words of their names.
use Rattle.std.specs.Prelude.{◌≡◌, ◌≢◌, ℕ, ◌≤◌, List, map}
use Rattle.std.specs.List.{All, AllPairs}
use Rattle.proto_names_rules.specs.declared.kind.Kind.TheVariants.{Package}
use Rattle.proto_case.specs.Camel.{entry_name}
use Rattle.proto_names_rules.specs.Faults.{place_from}
use Rattle.proto_names_rules.specs.Grown.{at}
use Rattle.proto_names_rules.specs.Joined.{IsPlain}
use Rattle.proto_names_outline.specs.Listing.{source_of, whole}
use Rattle.proto_names_rules.specs.Skeleton.{name_of, spell}
use Rattle.proto_names_table.specs.Spelled.{Named}
use Rattle.proto_names_rules.specs.Tree.{Placed}
use Rattle.proto_names_outline.specs.declared.listing.Listed.{Listed}
use Rattle.proto_names_table.specs.declared.spelled.Spelled.{Spelled}

-- a declaration by the words that its path spells
abbrev pub named_as : ℕ → (ℕ → List ℕ) → Placed → Named
named_as file text p = record {
  name = name_of text entry_name (whole p);
  kind = p.kind;
  place = at file (place_from 0 (whole p));
}

-- the last word of the name of an entry of a file's list
abbrev pub last_word : (ℕ → List ℕ) → Listed → List ℕ
last_word text e = spell text entry_name (source_of e.word e.token)

-- spelled declarations say what the entries of the list say beside their last words
pub record EntriesAreKept (es : List Listed) (ss : List Spelled) : Type 0 where
  pub aboves : map (λ s. s.above) ss ≡ map (λ e. e.above) es
  pub kinds : map (λ s. s.kind) ss ≡ map (λ e. e.kind) es
  pub tokens : map (λ s. s.token) ss ≡ map (λ e. e.token) es

-- The words of the tokens are plain; a package stands before all others, and these by their tokens.
pub record AreListed (text : ℕ → List ℕ) (es : List Listed) : Type 0 where
  pub plain : All (λ e. IsPlain (text e.token)) es
  pub packages : AllPairs (λ d e. e.kind ≡ Package → d.kind ≡ Package) es
  pub rising : AllPairs (λ d e. d.kind ≢ Package → d.token ≤ e.token) es
