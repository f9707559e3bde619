-- Declarations by their full names as text, and names that are taken.
use Rattle.std.specs.Prelude.{◌≡◌, ◌≢◌, ◌⊎◌, ◌&&◌, Bool, not, List, [], get_or, map, string_bytes}
use Rattle.std.specs.List.{Contains}
use Rattle.std.specs.Str.{bytes_eq}
use Rattle.proto_base.specs.Texts.{Text}
use Rattle.proto_names_rules.specs.Faults.{AfterEarlier, Fault, fault}
use Rattle.proto_names_rules.specs.Grown.{At, at}
use Rattle.proto_names_rules.specs.Joined.{joined}
use Rattle.proto_names_rules.specs.Linked.{is_package}
use Rattle.proto_names_rules.specs.declared.kind.Kind.{Kind}
use Rattle.proto_names_rules.specs.declared.kind.Kind.TheVariants.{Package}
use Rattle.proto_names_outline.specs.declared.listing.Above.{Above}
use Rattle.proto_names_outline.specs.declared.listing.Above.TheVariants.{Below, Outermost}
use Rattle.proto_names_table.specs.Spelled.{Named}
use Rattle.proto_names_faults.specs.declared.full_names.NamedText.{NamedText}

-- a declaration by its full name as text, and where it stands
pub record NameAt : Type 0 where
  pub text : Text
  pub kind : Kind
  pub place : At

-- what a declaration with its text says
abbrev pub shown : NamedText → NameAt
shown n = record { text = string_bytes n.text; kind = n.kind; place = at n.file n.token }

-- a declaration by its full name, as text
abbrev pub name_at : Named → NameAt
name_at d = record { text = joined d.name; kind = d.kind; place = d.place }

-- the full name of what a declaration stands right below; empty where it is outermost
abbrev pub text_above : List NameAt → Above → Text
text_above before Outermost = []
text_above before (Below k) = get_or (map (λ x. x.text) before) k []

-- two declarations have one full name
abbrev pub AreOfOneName : NameAt → NameAt → Type 0
AreOfOneName x y = x.text ≡ y.text

-- it is a package of this name, or a prefix of one
abbrev pub is_package_named : Text → NameAt → Bool
is_package_named text x = is_package x.kind && bytes_eq x.text text

-- it has this name and is no package
abbrev pub is_other_named : Text → NameAt → Bool
is_other_named text x = not (is_package x.kind) && bytes_eq x.text text

-- one of these that is no package has the name of an earlier one, or of a package among all
pub record IsClash (all these : List NameAt) (f : Fault) : Type 0 where
  pub one : NameAt
  pub other : one.kind ≢ Package
  pub is : f ≡ fault one.place 13
  pub taken : AfterEarlier AreOfOneName these one
      ⊎ (Contains these one
      × ((e : NameAt) × Contains all e × (e.kind ≡ Package) × (e.text ≡ one.text)))
