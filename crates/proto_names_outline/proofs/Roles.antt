-- A token that names a declaration is no word of a reference, and a token is one word of one reference (for the crates above).
use Rattle.std.proofs.Common.{◌≡◌, ℕ, List, length, map, refl, ap, arith, Contains}
use Rattle.std.proofs.lemmas.List.Elements.{All-contains, All-from_recursion}
use Rattle.proto_text.specs.Tokens.{Lexeme}
use Rattle.proto_tree.specs.declared.class.Class.TheVariants as class
use Rattle.proto_tree.specs.declared.class.Expected.{Expected}
use Rattle.proto_tree.specs.declared.class.Expected.TheVariants as want
use Rattle.proto_tree.proofs.Common.{Mark, HasRole, Role, names, refers, role_of, Tree, Spells, flat, classes_in, trees_are_numbered_in, roles_are_one_in}
use Rattle.proto_names_rules.proofs.Common.{Token, package_of}
use Rattle.proto_names_outline.specs.FromTree.{file_names, items_in}
use Rattle.proto_names_outline.specs.Roles.{DeclaredTokensAreNames, NamesAreNoUses, TokensAreUsedOnce, UsedTokensRefer, UsedWordsStandApart}
use Rattle.proto_names_outline.proofs.FromTree.{tree_grown}
use Rattle.proto_names_outline.proofs.MarkedNames.{declared_worded}
use Rattle.proto_names_outline.proofs.MarkedTokens.{Are, Known, are_from}
use Rattle.proto_names_outline.proofs.MarkedUses.{Uses, items_rise, uses_each, uses_once, uses_spaced}
use Rattle.proto_names_outline.proofs.PackageFirst.{same_declared}
use Rattle.proto_base.specs.declared.profile.Profile.{Profile}

module _ (profile : Profile) (tree : Tree) (ls : List Lexeme) (spells : Spells tree (classes_in profile 0 ls)) where
  abbrev N : ℕ → Type 0
  N i = HasRole tree names i

  abbrev R : ℕ → Type 0
  R i = HasRole tree refers i

  abbrev S : ℕ → Type 0
  S i = Unit {0}

  known : (m : Mark) → Contains (flat tree) m → Known N R S m.want m.at
  known m c = by m.want refl
    where
      by : (w : Expected) → m.want ≡ w → Known N R S w m.at
      by (want.One class.Name) e = (m, c, refl, ap role_of e)
      by want.Word e = (m, c, refl, ap role_of e)
      by want.Name e = (m, c, refl, ap role_of e)
      by want.ValueName e = (m, c, refl, ap role_of e)
      by want.Text e = tt
      by _ e = tt

  are : Are N R S 0 (flat tree)
  are = are_from N R S 0 (flat tree) (trees_are_numbered_in profile tree ls spells) known

  used : Uses N R S 0 (length (flat tree)) (file_names tree).used
  used = items_rise N R S tree (map (λ t. Token t) (package_of (items_in tree))) 0 (length (flat tree)) are (omega arith)

pub declared_tokens_are_names : DeclaredTokensAreNames
declared_tokens_are_names profile tree ls spells p c token last =
    let g = tree_grown profile tree ls spells in
    declared_worded (N profile tree ls spells) (R profile tree ls spells) (S profile tree ls spells) tree 0 (are profile tree ls spells) p ((same_declared (items_in tree) g.low g.high g.span p).1 c) token last

pub used_tokens_refer : UsedTokensRefer
used_tokens_refer profile tree ls spells u c token ct =
    let each = uses_each (N profile tree ls spells) (R profile tree ls spells) (S profile tree ls spells) (file_names tree).used 0 (length (flat tree)) (used profile tree ls spells) u c in
    All-contains (R profile tree ls spells) u.tokens token (All-from_recursion (R profile tree ls spells) u.tokens each.0) ct

pub names_are_no_uses : NamesAreNoUses
names_are_no_uses profile tree ls spells p c token last u cu ct =
    let same : ◌≡◌ {A = Role} names refers = roles_are_one_in profile tree ls names refers token spells (declared_tokens_are_names profile tree ls spells p c token last) (used_tokens_refer profile tree ls spells u cu token ct) in
    absurd cc

pub tokens_are_used_once : TokensAreUsedOnce
tokens_are_used_once profile tree ls spells = uses_once (N profile tree ls spells) (R profile tree ls spells) (S profile tree ls spells) (file_names tree).used 0 (length (flat tree)) (used profile tree ls spells)

pub used_words_stand_apart : UsedWordsStandApart
used_words_stand_apart profile tree ls spells = uses_spaced (N profile tree ls spells) (R profile tree ls spells) (S profile tree ls spells) (file_names tree).used 0 (length (flat tree)) (used profile tree ls spells)
