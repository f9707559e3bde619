-- What may stand in a file, before and behind an import.
use Rattle.std.proofs.Common.{◌≡◌, ℕ, suc, true, Option, Some, None, refl, sym, subst}
use Rattle.proto_tree.specs.declared.context.Context.{Context}
use Rattle.proto_tree.specs.declared.context.Context.TheVariants as context
use Rattle.proto_tree.specs.declared.context.Kind.{Kind}
use Rattle.proto_tree.specs.declared.context.Kind.TheVariants as kind
use Rattle.proto_tree.specs.declared.piece.Header.{Header}
use Rattle.proto_tree.specs.declared.piece.Header.TheVariants as header
use Rattle.proto_tree.specs.declared.piece.Statement.{Statement}
use Rattle.proto_tree.specs.declared.piece.Statement.TheVariants as statement
use Rattle.proto_tree.specs.declared.tree.Setting.{Setting}
use Rattle.proto_tree.specs.declared.tree.Setting.TheVariants as setting
use Rattle.proto_tree.specs.Tree.{Tree, End, Leaf, Block, field_kind, option_kind, statement_kind, header_kind, allows, after, IsWellFormed}
use Rattle.proto_edit_rules.specs.AddImport.{behind_syntax}
use Rattle.proto_edit_statement_laws.proofs.LastOf.{last_by, last_option, or_none, some_is_not_none}

abbrev pub IsOuter : Context → Type 0
IsOuter context.Start = Unit {0}
IsOuter context.File = Unit {0}
IsOuter context.Packaged = Unit {0}
IsOuter _ = ⊥

-- behind the first item
pub data IsSettled : Context → Type 0 where
  in_file : IsSettled context.File
  in_packaged : IsSettled context.Packaged

pub settled : (c : Context) (k : Kind) → IsOuter c → IsSettled (after c k)
settled context.Start kind.Package o = in_packaged
settled context.Start _ o = in_file
settled context.File kind.Package o = in_packaged
settled context.File _ o = in_file
settled context.Packaged k o = in_packaged
settled context.Message k o = absurd o
settled context.Oneof k o = absurd o
settled context.Enum k o = absurd o
settled context.Service k o = absurd o
settled context.Method k o = absurd o
settled context.Extend k o = absurd o

pub outer : (c : Context) → IsSettled c → IsOuter c
outer _ in_file = tt
outer _ in_packaged = tt

pub import_stays : (c : Context) → IsSettled c → after c kind.Import ≡ c
import_stays _ in_file = refl
import_stays _ in_packaged = refl

pub import_may : (c : Context) → IsOuter c → allows c kind.Import ≡ true
import_may context.Start o = refl
import_may context.File o = refl
import_may context.Packaged o = refl
import_may context.Message o = absurd o
import_may context.Oneof o = absurd o
import_may context.Enum o = absurd o
import_may context.Service o = absurd o
import_may context.Method o = absurd o
import_may context.Extend o = absurd o

-- at the start of a file `syntax` may stand, and else what may stand further on
start_allows : (k : Kind) → allows context.File k ≡ true → allows context.Start k ≡ true
start_allows kind.Syntax h = refl
start_allows _ h = h

file_allows : (k : Kind) → (k ≡ kind.Syntax → ⊥) → allows context.Start k ≡ true → allows context.File k ≡ true
file_allows kind.Syntax apart h = absurd (apart refl)
file_allows _ apart h = h

same_after : (k : Kind) → after context.Start k ≡ after context.File k
same_after kind.Package = refl
same_after _ = refl

pub start_from_file : (t : Tree) → IsWellFormed context.File t → IsWellFormed context.Start t
start_from_file End h = tt
start_from_file (Leaf s rest) h = (start_allows (statement_kind s) h.0, subst (λ c. IsWellFormed c rest) (sym (same_after (statement_kind s))) h.1)
start_from_file (Block k i within j rest) h = (start_allows (header_kind k) h.0, h.1, subst (λ c. IsWellFormed c rest) (sym (same_after (header_kind k))) h.2)

no_syntax : (s : Statement) → last_option (behind_syntax s) ≡ None → statement_kind s ≡ kind.Syntax → ⊥
no_syntax (statement.Syntax s) e h = some_is_not_none (suc s.semicolon) e
no_syntax (statement.Import i) e h = cc
no_syntax (statement.Package p) e h = cc
no_syntax (statement.Option o) e h = no_option o.setting h
  where
    no_option : (x : Setting) → option_kind x ≡ kind.Syntax → ⊥
    no_option (setting.Plain p) e = cc
    no_option (setting.Custom c) e = cc
no_syntax (statement.Field f) e h = no_field f.label h
  where
    no_field : (label : Option ℕ) → field_kind label ≡ kind.Syntax → ⊥
    no_field None e = cc
    no_field (Some i) e = cc
no_syntax whole e h = cc

header_no_syntax : (k : Header) → header_kind k ≡ kind.Syntax → ⊥
header_no_syntax (header.Message h) e = cc
header_no_syntax whole e = cc

pub file_from_start : (t : Tree) → last_by behind_syntax t ≡ None → IsWellFormed context.Start t → IsWellFormed context.File t
file_from_start End e h = tt
file_from_start (Leaf s rest) e h = (file_allows (statement_kind s) (no_syntax s (or_none (last_by behind_syntax rest) (last_option (behind_syntax s)) e).1) h.0, subst (λ c. IsWellFormed c rest) (same_after (statement_kind s)) h.1)
file_from_start (Block k i within j rest) e h = (file_allows (header_kind k) (header_no_syntax k) h.0, h.1, subst (λ c. IsWellFormed c rest) (same_after (header_kind k)) h.2)
