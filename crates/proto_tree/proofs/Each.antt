-- A test of every class.
use Rattle.std.proofs.Common.{◌≡◌, ℕ, zero, suc, Bool, true, false, List, [], ◌∷◌, Option, Some, None, refl, subst, ◌&&◌}
use Rattle.proto_tree.specs.Common.{Class, code}
use Rattle.proto_tree.specs.declared.class.Class.TheVariants as class

pub and_left : (a b : Bool) → (a && b) ≡ true → a ≡ true
and_left true b e = refl
and_left false b e = absurd cc

pub and_right : (a b : Bool) → (a && b) ≡ true → b ≡ true
and_right true b e = e
and_right false b e = absurd cc

abbrev pub all_of : (Class → Bool) → List Class → Bool
all_of p [] = true
all_of p (c ∷ cs) = p c && all_of p cs

abbrev class_at : List Class → ℕ → Option Class
class_at [] n = None
class_at (c ∷ cs) zero = Some c
class_at (c ∷ cs) (suc n) = class_at cs n

abbrev some : Class → Option Class
some c = Some c

some_is : (a b : Class) → some a ≡ some b → a ≡ b
some_is a b e = cc

all_at : (p : Class → Bool) (cs : List Class) (n : ℕ) (c : Class) → class_at cs n ≡ Some c → all_of p cs ≡ true → p c ≡ true
all_at p [] n c e h = absurd cc
all_at p (d ∷ cs) zero c e h = subst (λ x. p x ≡ true) (some_is d c e) (and_left (p d) (all_of p cs) h)
all_at p (d ∷ cs) (suc n) c e h = all_at p cs n c e (and_right (p d) (all_of p cs) h)

abbrev pub classes : List Class
classes =
    class.Syntax
    ∷ class.Import
    ∷ class.Public
    ∷ class.Package
    ∷ class.Option
    ∷ class.Message
    ∷ class.Enum
    ∷ class.Service
    ∷ class.Rpc
    ∷ class.Returns
    ∷ class.Stream
    ∷ class.Oneof
    ∷ class.Map
    ∷ class.Reserved
    ∷ class.Extensions
    ∷ class.Extend
    ∷ class.Optional
    ∷ class.Required
    ∷ class.Repeated
    ∷ class.To
    ∷ class.Max
    ∷ class.Scalar
    ∷ class.OtherListed
    ∷ class.Name
    ∷ class.Number
    ∷ class.ProtoText
    ∷ class.OtherText
    ∷ class.Open
    ∷ class.Close
    ∷ class.LeftBracket
    ∷ class.RightBracket
    ∷ class.LeftParenthesis
    ∷ class.RightParenthesis
    ∷ class.Less
    ∷ class.Greater
    ∷ class.Semicolon
    ∷ class.Comma
    ∷ class.Equals
    ∷ class.Dot
    ∷ class.Minus
    ∷ class.Colon
    ∷ class.NameParenthesis
    ∷ class.Other
    ∷ class.Weak
    ∷ class.ImportWeak
    ∷ []

abbrev pub each : (Class → Bool) → Bool
each p = all_of p classes

listed : (c : Class) → class_at classes (code c) ≡ Some c
listed class.Syntax = refl
listed class.Import = refl
listed class.Public = refl
listed class.Package = refl
listed class.Option = refl
listed class.Message = refl
listed class.Enum = refl
listed class.Service = refl
listed class.Rpc = refl
listed class.Returns = refl
listed class.Stream = refl
listed class.Oneof = refl
listed class.Map = refl
listed class.Reserved = refl
listed class.Extensions = refl
listed class.Extend = refl
listed class.Optional = refl
listed class.Required = refl
listed class.Repeated = refl
listed class.To = refl
listed class.Max = refl
listed class.Scalar = refl
listed class.OtherListed = refl
listed class.Name = refl
listed class.Number = refl
listed class.ProtoText = refl
listed class.OtherText = refl
listed class.Open = refl
listed class.Close = refl
listed class.LeftBracket = refl
listed class.RightBracket = refl
listed class.LeftParenthesis = refl
listed class.RightParenthesis = refl
listed class.Less = refl
listed class.Greater = refl
listed class.Semicolon = refl
listed class.Comma = refl
listed class.Equals = refl
listed class.Dot = refl
listed class.Minus = refl
listed class.Colon = refl
listed class.NameParenthesis = refl
listed class.Other = refl
listed class.Weak = refl
listed class.ImportWeak = refl

pub each_is : (p : Class → Bool) → each p ≡ true → (c : Class) → p c ≡ true
each_is p e c = all_at p classes (code c) c (listed c) e
