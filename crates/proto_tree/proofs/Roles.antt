-- Each token of a tree that was read has one role (for the crates above).
use Rattle.std.proofs.Common.{[], refl, sym, ap, ◌∙◌, arith}
use Rattle.proto_text.specs.declared.kind.TokenKind.TheVariants.{Word}
use Rattle.proto_base.specs.declared.profile.Profile.{Profile}
use Rattle.proto_base.specs.declared.profile.Profile.TheVariants as profile
use Rattle.proto_tree.specs.Flat.{Mark}
use Rattle.proto_tree.specs.Roles.{RolesAreOfTokensIn, RolesAreOneIn, TokensHaveRolesIn, role_of, RolesAreOfTokens, RolesAreOne, TokensHaveRoles}
use Rattle.proto_tree.proofs.MarkLaws.{each_token_is_marked_in, marks_fit_in, one_mark_in}

pub roles_are_of_tokens_in : (p : Profile) → RolesAreOfTokensIn p
roles_are_of_tokens_in p tree ls role token spells has =
    let fit = marks_fit_in p tree ls has.0 (record { kind = Word; text = [] }) spells has.1 in
    omega (arith, fit.0, has.2)

pub tokens_have_roles_in : (p : Profile) → TokensHaveRolesIn p
tokens_have_roles_in p tree ls token spells inside = let m = each_token_is_marked_in p tree ls token spells inside in (role_of m.0.want, (m.0, m.1, m.2, refl))

pub roles_are_one_in : (p : Profile) → RolesAreOneIn p
roles_are_one_in p tree ls a b token spells x y = sym x.3 ∙ ap (λ (m : Mark). role_of m.want) (one_mark_in p tree ls x.0 y.0 spells x.1 y.1 (x.2 ∙ sym y.2)) ∙ y.3

-- ---- the same in the core language

pub roles_are_of_tokens : RolesAreOfTokens
roles_are_of_tokens = roles_are_of_tokens_in profile.Core

pub tokens_have_roles : TokensHaveRoles
tokens_have_roles = tokens_have_roles_in profile.Core

pub roles_are_one : RolesAreOne
roles_are_one = roles_are_one_in profile.Core
