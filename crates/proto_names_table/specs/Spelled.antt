-- Declarations by their full names, and names that clash.
use Rattle.std.specs.Prelude.{◌≡◌, ◌≢◌, ℕ, suc, ◌<◌, ◌≤◌, List, [], ◌∷◌, ◌++◌, length, get_or, map}
use Rattle.std.specs.Cow.{cow_str_bytes}
use Rattle.std.specs.List.{All, AllPairs, Contains}
use Rattle.proto_names_rules.specs.declared.kind.Kind.{Kind}
use Rattle.proto_names_rules.specs.declared.kind.Kind.TheVariants.{Package}
use Rattle.proto_names_rules.specs.Names.{Symbol}
use Rattle.proto_names_rules.specs.Faults.{Fault, fault, AfterEarlier}
use Rattle.proto_names_rules.specs.Grown.{At, at}
use Rattle.proto_names_rules.specs.Joined.{IsPlain}
use Rattle.proto_names_outline.specs.Listing.{needs}
use Rattle.proto_names_outline.specs.declared.listing.Above.{Above}
use Rattle.proto_names_outline.specs.declared.listing.Above.TheVariants.{Outermost, Below}
use Rattle.proto_names_table.specs.declared.spelled.Spelled.{Spelled}

-- a declaration by its full name, and where it stands
pub record Named : Type 0 where
  pub name : List (List ℕ)
  pub kind : Kind
  pub place : At

-- the full name of what a declaration stands right below; none where it is outermost
abbrev pub name_above : List Named → Above → List (List ℕ)
name_above before Outermost = []
name_above before (Below k) = get_or (map (λ d. d.name) before) k []

-- a declaration of a file with its full name, given those before it
abbrev pub named_by : ℕ → List Named → Spelled → Named
named_by file before s = record {
  name = name_above before s.above ++ cow_str_bytes s.word ∷ [];
  kind = s.kind;
  place = at file s.token;
}

-- the declarations of a file behind some that are named, each below one of those before it
abbrev pub named_on : ℕ → List Named → List Spelled → List Named
named_on file before [] = before
named_on file before (s ∷ ss) = named_on file (before ++ named_by file before s ∷ []) ss

-- the declarations of a file with their full names, in the order of its list
abbrev pub named_in : ℕ → List Spelled → List Named
named_in file ss = named_on file [] ss

-- those of all files from this number on, file after file
abbrev pub all_named : ℕ → List (List Spelled) → List Named
all_named file [] = []
all_named file (ss ∷ rest) = named_in file ss ++ all_named (suc file) rest

-- a declaration as the symbol that it is in a workspace
abbrev pub symbol_named : Named → Symbol
symbol_named d = record { name = d.name; kind = d.kind; file = d.place.file }

-- Each stands behind the one right above it; a package stands before all others, and these by their
-- tokens.
pub record AreSpelled (ss : List Spelled) : Type 0 where
  pub ordered : (k : ℕ) (d : Spelled) → k < length ss → needs (get_or ss k d).above ≤ k
  pub plain : All (λ s. IsPlain (cow_str_bytes s.word)) ss
  pub packages : AllPairs (λ s t. t.kind ≡ Package → s.kind ≡ Package) ss
  pub rising : AllPairs (λ s t. s.kind ≢ Package → s.token ≤ t.token) ss

-- a full name that an earlier declaration has, or that is a package or a prefix of one
pub data ClashFault (ds : List Named) : Fault → Type 0 where
  earlier : (d : Named) → AfterEarlier (λ x y. x.name ≡ y.name) ds d → d.kind ≢ Package
      → ClashFault ds (fault d.place 13)
  of_package : (d e : Named) → Contains ds d → Contains ds e
      → d.kind ≢ Package → e.kind ≡ Package → d.name ≡ e.name → ClashFault ds (fault d.place 13)
