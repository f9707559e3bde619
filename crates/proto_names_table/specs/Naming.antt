-- The names of files as their trees give them, and the references in them by their words.
use Rattle.std.specs.Prelude.{◌≡◌, ℕ, suc, ◌<◌, List, [], ◌∷◌, ◌++◌, length, get_or, map, Some, None}
use Rattle.std.specs.List.{All, Contains}
use Rattle.proto_names_rules.specs.declared.kind.Kind.TheVariants.{Enum, Entry}
use Rattle.proto_names_rules.specs.declared.wants.Wants.TheVariants as wants
use Rattle.proto_names_rules.specs.Names.{Symbol, Reference, Workspace, meaning}
pub use Rattle.proto_names_outline.specs.Listing.{used_named}
pub use Rattle.proto_names_table.specs.LastWords.{named_as}
use Rattle.proto_names_rules.specs.Skeleton.{Used}
use Rattle.proto_names_rules.specs.Tree.{ItemsSpan}
use Rattle.proto_names_outline.specs.Listing.{package_first}
use Rattle.proto_names_rules.specs.Grown.{FileNames, At, at}
use Rattle.proto_names_rules.specs.Faults.{Fault, fault}
use Rattle.proto_names_table.specs.Spelled.{Named}

-- the declarations of all files from this number on, file after file, each file's package first
abbrev pub tree_named : (At → List ℕ) → ℕ → List FileNames → List Named
tree_named text n [] = []
tree_named text n (f ∷ fs) =
    map (named_as n (λ i. text (at n i))) (package_first f.items) ++ tree_named text (suc n) fs

-- the tokens of each file are in order
abbrev pub AreSpans : List FileNames → Type 0
AreSpans fs = All (λ f. (low high : ℕ) × ItemsSpan low high f.items) fs

-- what is wrong with a reference, by the fault's number
pub data ReferenceFlaw (w : Workspace) (r : Reference) : ℕ → Type 0 where
  -- it means nothing
  unresolved : meaning w r ≡ None → ReferenceFlaw w r 14
  -- it wants a message and means an enum
  wrong_kind : (s : Symbol) → Contains w.symbols s → meaning w r ≡ Some s.name
      → r.wants ≡ wants.Message → s.kind ≡ Enum → ReferenceFlaw w r 15
  -- it means a generated entry
  of_entry : (s : Symbol) → Contains w.symbols s → meaning w r ≡ Some s.name → s.kind ≡ Entry
      → ReferenceFlaw w r 16

-- a reference of one of the files has a flaw, and the fault stands at its first token
pub record UseFault (text : At → List ℕ) (w : Workspace) (fs : List FileNames) (f : Fault)
    : Type 0 where
  pub file : ℕ
  pub names : FileNames
  pub one : Used ℕ
  pub number : ℕ
  pub within : file < length fs
  pub here : get_or fs file names ≡ names
  pub used : Contains names.used one
  pub flaw : ReferenceFlaw w (used_named text file one) number
  pub is : f ≡ fault (at file one.first) number
