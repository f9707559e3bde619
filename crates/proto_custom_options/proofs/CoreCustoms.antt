-- A tree that is read in the core language has no custom option.
use Rattle.std.proofs.Common.{◌≡◌, Bool, true, false, ◌||◌, List, [], ◌∷◌, ◌++◌, refl, codes}
use Rattle.proto_base.specs.Texts.{Text}
use Rattle.proto_tree.specs.declared.class.Class.TheVariants as class
use Rattle.proto_tree.specs.declared.tree.Custom.{Custom}
use Rattle.proto_tree.specs.Common.{Mark, any_for, flat_custom, is_for}
use Rattle.proto_tree.proofs.Common.{core_trees_are_plain}
use Rattle.proto_custom_options.proofs.EachCustom.{of_tree}
use Rattle.proto_custom_options.specs.CustomOptions.{CoreTreesHaveNoCustom, CustomOf}

-- no place wants the `(` that a custom option begins with
abbrev IsPlain : List Mark → Type 0
IsPlain ms = any_for class.NameParenthesis ms ≡ false

true_not_false : true ≡ false → ⊥
true_not_false e = cc

left_false : (a b : Bool) → a || b ≡ false → a ≡ false
left_false false b e = refl
left_false true b e = e

right_false : (a b : Bool) → a || b ≡ false → b ≡ false
right_false false b e = e
right_false true b e = absurd (true_not_false e)

both_false : (a b : Bool) → a ≡ false → b ≡ false → a || b ≡ false
both_false false b e f = f
both_false true b e f = absurd (true_not_false e)

right_of : (a b : List Mark) → IsPlain (a ++ b) → IsPlain b
right_of [] b e = e
right_of (m ∷ a) b e = right_of a b (right_false (is_for class.NameParenthesis m.want) (any_for class.NameParenthesis (a ++ b)) e)

left_of : (a b : List Mark) → IsPlain (a ++ b) → IsPlain a
left_of [] b e = refl
left_of (m ∷ a) b e =
    let first = is_for class.NameParenthesis m.want in
    let rest = any_for class.NameParenthesis (a ++ b) in
    both_false first (any_for class.NameParenthesis a) (left_false first rest e) (left_of a b (right_false first rest e))

no_cons : {A : Type 0} (x : A) (xs : List A) → x ∷ xs ≡ [] → ⊥
no_cons x xs e = cc

both_none : (a b : List CustomOf) → a ≡ [] → b ≡ [] → a ++ b ≡ []
both_none [] b e f = f
both_none (c ∷ a) b e f = absurd (no_cons c a e)

-- plain places have no option
abbrev HaveNone : List Mark → List CustomOf → Type 0
HaveNone ms cs = IsPlain ms → cs ≡ []

none : (ms : List Mark) → HaveNone ms []
none ms e = refl

both : (a b : List Mark) (cs ds : List CustomOf) → HaveNone a cs → HaveNone b ds → HaveNone (a ++ b) (cs ++ ds)
both a b cs ds f g e = both_none cs ds (f (left_of a b e)) (g (right_of a b e))

custom : (message : Text) (c : Custom) → HaveNone (flat_custom c) (record { message = message; custom = c } ∷ [])
custom message c e = absurd (true_not_false e)

pub core_trees_have_no_custom : CoreTreesHaveNoCustom
core_trees_have_no_custom text tokens t r = of_tree HaveNone none both custom (codes "FileOptions") t (core_trees_are_plain text tokens t r)
