-- Marks that end with a semicolon or a brace: those of each statement, and those before each item (for the crates above).
use Rattle.std.proofs.Common.{◌≡◌, ◌⊎◌, inl, inr, ℕ, Bool, true, false, List, [], ◌∷◌, ◌++◌, refl, sym, ap, subst, ◌∙◌, append_assoc}
use Rattle.proto_tree.specs.declared.class.Class.{Class}
use Rattle.proto_tree.specs.declared.class.Class.TheVariants as class
use Rattle.proto_tree.specs.declared.class.Expected.TheVariants as want
use Rattle.proto_tree.specs.declared.piece.Statement.{Statement}
use Rattle.proto_tree.specs.declared.piece.Statement.TheVariants as statement
use Rattle.proto_tree.proofs.Common.{Mark, only, one, flat_option, flat_type, name, text_mark, flat_settings, flat_separated, flat_setting, flat_signed, flat_number, flat_ranges, flat_reserved_list, flat_signature, flat_statement, flat_header, Tree, End, Leaf, Block, flat, flat_modifier}

-- ---- marks that end with a semicolon or a brace

abbrev pub is_end : Class → Bool
is_end class.Semicolon = true
is_end class.Open = true
is_end class.Close = true
is_end _ = false

pub record IsEnded (ms : List Mark) : Type 0 where
  pub init : List Mark
  pub last : Class
  pub at : ℕ
  pub parts : ms ≡ init ++ one last at
  pub is : is_end last ≡ true

pub the : (c : Class) (i : ℕ) → is_end c ≡ true → IsEnded (one c i)
the c i e = record { init = []; last = c; at = i; parts = refl; is = e }

pub then : (x : List Mark) {y : List Mark} → IsEnded y → IsEnded (x ++ y)
then x {y} h = record { init = x ++ h.init; last = h.last; at = h.at; parts = ap (λ (z : List Mark). x ++ z) h.parts ∙ sym (append_assoc x h.init (one h.last h.at)); is = h.is }

ends_with : (i : ℕ) → IsEnded (one class.Semicolon i)
ends_with i = the class.Semicolon i refl

pub statement_ended : (s : Statement) → IsEnded (flat_statement s)
statement_ended (statement.Syntax s) = then (one class.Syntax s.keyword) (then (one class.Equals s.equals) (then (one class.ProtoText s.text) (ends_with s.semicolon)))
statement_ended (statement.Import i) = then (one class.Import i.keyword) (then (flat_option flat_modifier i.modifier) (then (text_mark i.path) (ends_with i.semicolon)))
statement_ended (statement.Package p) = then (one class.Package p.keyword) (then (flat_separated class.Dot name p.name) (ends_with p.semicolon))
statement_ended (statement.Option o) = then (one class.Option o.keyword) (then (flat_setting o.setting) (ends_with o.semicolon))
statement_ended (statement.Field f) =
    then (flat_option (only want.Label) f.label) (then (flat_type f.kind) (then (name f.name) (then (one class.Equals f.equals) (then (one class.Number f.number) (then (flat_option flat_settings f.settings) (ends_with f.semicolon))))))
statement_ended (statement.MapField f) =
    then (one class.Map f.keyword) (then (one class.Less f.«open») (then (one class.Scalar f.key) (then (one class.Comma f.comma) (then (flat_type f.value) (then (one class.Greater f.close)
    (then (name f.name) (then (one class.Equals f.equals) (then (one class.Number f.number) (then (flat_option flat_settings f.settings) (ends_with f.semicolon))))))))))
statement_ended (statement.Reserved r) = then (one class.Reserved r.keyword) (then (flat_reserved_list flat_number r.list) (ends_with r.semicolon))
statement_ended (statement.Extensions e) = then (one class.Extensions e.keyword) (then (flat_ranges flat_number e.ranges) (ends_with e.semicolon))
statement_ended (statement.Value v) = then (only want.ValueName v.name) (then (one class.Equals v.equals) (then (flat_signed v.number) (then (flat_option flat_settings v.settings) (ends_with v.semicolon))))
statement_ended (statement.EnumReserved r) = then (one class.Reserved r.keyword) (then (flat_reserved_list flat_signed r.list) (ends_with r.semicolon))
statement_ended (statement.Method s i) = then (flat_signature s) (ends_with i)
statement_ended (statement.Empty i) = ends_with i

-- nothing, or ended
abbrev pub IsApart : List Mark → Type 0
IsApart ms = (ms ≡ []) ⊎ IsEnded ms

pub nothing_behind : (ms : List Mark) → ms ++ [] ≡ ms
nothing_behind [] = refl
nothing_behind (m ∷ ms) = ap (λ (x : List Mark). m ∷ x) (nothing_behind ms)

pub apart_then : (x y : List Mark) → IsApart x → IsApart y → IsApart (x ++ y)
apart_then x y h (inr k) = inr (then x k)
apart_then x y (inl e) (inl f) = inl (ap (λ (z : List Mark). z ++ y) e ∙ f)
apart_then x y (inr h) (inl f) = inr (subst IsEnded (sym (ap (λ (z : List Mark). x ++ z) f ∙ nothing_behind x)) h)

pub tree_apart : (t : Tree) → IsApart (flat t)
tree_apart End = inl refl
tree_apart (Leaf s rest) = apart_then (flat_statement s) (flat rest) (inr (statement_ended s)) (tree_apart rest)
tree_apart (Block h i within j rest) =
    inr (then (flat_header h ++ one class.Open i) (then (flat within) (behind_close (tree_apart rest))))
  where
    behind_close : IsApart (flat rest) → IsEnded (one class.Close j ++ flat rest)
    behind_close (inl e) = subst (λ (z : List Mark). IsEnded (one class.Close j ++ z)) (sym e) (the class.Close j refl)
    behind_close (inr k) = then (one class.Close j) k
