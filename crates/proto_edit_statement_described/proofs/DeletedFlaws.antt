-- A file without a flaw has none after a field is deleted and its number and name are reserved.
use Rattle.std.proofs.Common.{◌≡◌, ◌≢◌, ℕ, ℤ, ◌==◌, Bool, true, false, List, [], ◌∷◌, ◌++◌, map, flat_map, Option, None, refl, sym, ◌∙◌, ap, ap₂, subst, if◌then◌else◌, Contains, bytes_eq, eq-eqb}
use Rattle.proto_base.proofs.Common.{AllByRecursion, map-append, both_ways, false_from_ne_true, All-from_recursion, Contains-append_left, Contains-append_right, contains_head, contains_later, contains_map, word_from_same, flat_map-append}
use Rattle.proto_base.specs.declared.fault.FaultKind.{FaultKind}
use Rattle.proto_base.specs.declared.fault.FaultKind.TheVariants as kind
use Rattle.proto_tree.specs.declared.piece.Header.{Header}
use Rattle.proto_tree.specs.declared.piece.Header.TheVariants as header
use Rattle.proto_tree.specs.declared.piece.Statement.{Statement}
use Rattle.proto_tree.specs.declared.tree.Range.{Range}
use Rattle.proto_tree.specs.declared.tree.Field.{Field}
use Rattle.proto_tree.proofs.Common.{Move, move_header, move_range, move_tree, Tree, Block, joined_trees}
use Rattle.proto_ast.proofs.Common.{is_one_of, BlockOf, FieldOf, blocks_in, closed_ranges, enum_ranges, extension_words, fields_in, options_in, reserved_names, reserved_names_in, statement_options, statement_values, statements, Scene, meant_by, number_at, text, value}
use Rattle.proto_ast.specs.declared.options.Element.TheVariants as element
use Rattle.proto_desc_numbers.specs.declared.flaw.Flaw.{Flaw}
use Rattle.proto_desc_numbers.specs.declared.numbers.NumberAt.{NumberAt}
use Rattle.proto_ast.specs.declared.ranges.RangeAt.{RangeAt}
use Rattle.proto_desc_checks_laws.specs.Deleted.{range_of_one}
use Rattle.proto_desc_checks.proofs.Common.{bars_extend, field_flaws, option_flaws, allows_alias, block_flaws, first_value_flaws, enum_flaws, extension_flaws, flaws_in_blocks, flaws_of_extension, is_empty, json_clashes, message_flaws, name_flaws, value_option_flaws, with_reserved_name, reserved_again}
use Rattle.proto_desc_numbers.proofs.Common.{flaw_if, marked, field_number_flaws, broken_ranges, enum_range_of, is_field_number, is_value_number, least_value, most_value, number_of_field, number_of_value, outside, overlaps, range_of, repeated_numbers, reserved_numbers}
use Rattle.proto_desc_checks_laws.proofs.Common.{IsMoved, reindexed_flaw, statement_ranges_moved, statement_words_moved, maps_kept, maps_moved, move_block_of, move_field_of, move_option_of, statement_names_moved, statement_options_moved, blocks_moved, fields_moved, options_moved, empty_kept, Moves, block_moved, clashes_moved, each, field_moved, field_number_moved, field_numbers_moved, if_moved, move_number_at, move_range_at, names_moved, option_flaws_moved, range_moved}
use Rattle.proto_desc_checks_laws.proofs.DeletedFlaws.{nil_joined, nil_parts, deletions_keep_json_names, deletions_keep_names, deletions_keep_numbers}
use Rattle.proto_edit_statement_described.specs.Deletions.{Deeper, AtField, AtOneof, BehindBlock, BehindLeaf, Found, FurtherOn, InMessage, IsAmong, IsDeletedIn, IsDeletedRight, PastBlock, PastLeaf, FieldNamesDiffer, DeletionsBringNoFlaw, Reservation, Reserves, WrittenField, written_field, written_name, reserved}
use Rattle.proto_edit_statement_described.proofs.Parts.{IsWith, named_one, new_fields, no_ranges, no_words, nothing_with, numbered_one, new_read, old_fields, old_read, outer_fields, outer_statements}

-- ---- nothing in a list

pub map_nil : {A B : Type 0} (f : A → B) (xs : List A) → map f xs ≡ [] → xs ≡ []
map_nil f [] e = refl
map_nil f (x ∷ xs) e = absurd cc

-- nothing of what was moved, and of what is moved elsewhere
from_old : {g : Move} {xs ys : List Flaw} → Moves g xs ys → xs ≡ [] → ys ≡ []
from_old {g} {xs} {ys} m e = map_nil (reindexed_flaw g) ys (sym m.same ∙ e)

to_new : {g : Move} {xs ys : List Flaw} → Moves g xs ys → ys ≡ [] → xs ≡ []
to_new {g} {xs} {ys} m e = m.same ∙ ap (map (reindexed_flaw g)) e

over : {g k : Move} {xs ys zs : List Flaw} → Moves g xs ys → Moves k zs ys → xs ≡ [] → zs ≡ []
over a b e = to_new b (from_old a e)

-- one element less
less : {A B : Type 0} (f : A → List B) (front back : List A) (x : A) → flat_map f (front ++ x ∷ back) ≡ [] → flat_map f (front ++ back) ≡ []
less f front back x e =
    let p = nil_parts (flat_map f front) (flat_map f (x ∷ back)) (sym (flat_map-append f front (x ∷ back)) ∙ e) in
    let q = nil_parts (f x) (flat_map f back) p.1 in
    flat_map-append f front back ∙ nil_joined (flat_map f front) (flat_map f back) p.0 q.1

its_own : {A B : Type 0} (f : A → List B) (front back : List A) (x : A) → flat_map f (front ++ x ∷ back) ≡ [] → f x ≡ []
its_own f front back x e =
    let p = nil_parts (flat_map f front) (flat_map f (x ∷ back)) (sym (flat_map-append f front (x ∷ back)) ∙ e) in
    (nil_parts (f x) (flat_map f back) p.1).0

pub no_flaw : (b : Bool) (k : FaultKind) (t : ℕ) → flaw_if b k t ≡ [] → b ≡ false
no_flaw true k t e = absurd cc
no_flaw false k t e = refl

-- ---- what the flaws of a block are of

same_message : (scene : Scene) (t v : Tree) → statements t ≡ statements v → fields_in t ≡ fields_in v → message_flaws scene t ≡ message_flaws scene v
same_message scene t v e f = ap₂ (λ (ss : List Statement) (fs : List FieldOf).
    flat_map (field_flaws scene element.Field) fs
    ++ (field_number_flaws (map (range_of scene) (flat_map closed_ranges ss)) (map (number_of_field scene) fs)
    ++ (name_flaws scene (flat_map reserved_names ss) (map (λ x. x.name) fs)
    ++ (json_clashes scene fs
    ++ (flat_map (λ w. flaw_if scene.is_proto3 kind.NotInProto3 w) (flat_map extension_words ss)
    ++ option_flaws scene element.Message (flat_map statement_options ss)))))) e f

same_enum : (scene : Scene) (name : ℕ) (t v : Tree) → statements t ≡ statements v → enum_flaws scene name t ≡ enum_flaws scene name v
same_enum scene name t v e = ap (λ (ss : List Statement).
    flaw_if (is_empty (flat_map statement_values ss)) kind.EmptyEnum name
    ++ ((outside is_value_number (map (number_of_value scene) (flat_map statement_values ss))
    ++ (first_value_flaws scene (map (number_of_value scene) (flat_map statement_values ss))
    ++ ((if allows_alias scene (flat_map statement_options ss) then [] else marked kind.AliasNotAllowed (map (λ n. n.token) (map (number_of_value scene) (flat_map statement_values ss))) (repeated_numbers (map (number_of_value scene) (flat_map statement_values ss))))
    ++ (reserved_numbers (map (enum_range_of scene) (flat_map enum_ranges ss)) (map (number_of_value scene) (flat_map statement_values ss))
    ++ (broken_ranges least_value most_value (map (enum_range_of scene) (flat_map enum_ranges ss))
    ++ overlaps (map (enum_range_of scene) (flat_map enum_ranges ss)))))))
    ++ (name_flaws scene (flat_map reserved_names ss) (map (λ x. x.name) (flat_map statement_values ss))
    ++ (flat_map (value_option_flaws scene) (flat_map statement_values ss)
    ++ option_flaws scene element.Enum (flat_map statement_options ss))))) e

same_block : (scene : Scene) (h : Header) (t v : Tree) → statements t ≡ statements v → fields_in t ≡ fields_in v → block_flaws scene h t ≡ block_flaws scene h v
same_block scene (header.Message h) t v e f = same_message scene t v e f
same_block scene (header.Oneof h) t v e f = ap (λ (fs : List FieldOf). flaw_if (is_empty fs) kind.EmptyOneof h.name) f
same_block scene (header.Enum h) t v e f = same_enum scene h.name t v e
same_block scene (header.Service h) t v e f = ap (λ (ss : List Statement). option_flaws scene element.Service (flat_map statement_options ss)) e
same_block scene (header.Method h) t v e f = ap (λ (ss : List Statement). option_flaws scene element.Method (flat_map statement_options ss)) e
same_block scene (header.Extend x) t v e f = ap (λ (fs : List FieldOf). flaw_if (bars_extend scene.profile scene.is_proto3 (meant_by scene x.extendee)) kind.NotInProto3 x.keyword ++ (outside is_field_number (map (number_of_field scene) fs) ++ flat_map (flaws_of_extension scene) fs)) f

-- ---- names of fields

-- none has this name
abbrev HaveOtherNames : Scene → List ℕ → List FieldOf → Type 0
HaveOtherNames scene name fs = AllByRecursion (λ (f : FieldOf). bytes_eq name (text scene f.name) ≡ false) fs

-- ---- scenes

module _ (g k : Move) (middle old new : Scene) (is_old : IsMoved g middle old) (is_new : IsMoved k middle new) (aim : WrittenField) (res : Reservation) (reserving : Reserves old new aim res) (fresh : (i : ℕ) → (g i == written_name aim) ≡ false) where
  -- a block that is moved, and moved elsewhere
  block_over : (h : Header) (x : Tree) → block_flaws old (move_header g h) (move_tree g x) ≡ [] → block_flaws new (move_header k h) (move_tree k x) ≡ []
  block_over h x e = over (block_moved g middle old is_old h x) (block_moved k middle new is_new h x) e

  blocks_over : (x : Tree) → flaws_in_blocks old (move_tree g x) ≡ [] → flaws_in_blocks new (move_tree k x) ≡ []
  blocks_over x e =
      over (each g (move_block_of g) (λ b. block_flaws middle b.header b.within) (λ b. block_flaws old b.header b.within) (λ b. block_moved g middle old is_old b.header b.within) (blocks_in x) (blocks_moved g x))
      (each k (move_block_of k) (λ b. block_flaws middle b.header b.within) (λ b. block_flaws new b.header b.within) (λ b. block_moved k middle new is_new b.header b.within) (blocks_in x) (blocks_moved k x)) e

  blocks_append : (scene : Scene) (xs ys : List BlockOf) → flat_map (λ b. block_flaws scene b.header b.within) (xs ++ ys) ≡ flat_map (λ b. block_flaws scene b.header b.within) xs ++ flat_map (λ b. block_flaws scene b.header b.within) ys
  blocks_append scene xs ys = flat_map-append (λ b. block_flaws scene b.header b.within) xs ys

  -- the flaws of a block, of those in it, and of those behind it
  block_parts : (scene : Scene) (h : Header) (i : ℕ) (t : Tree) (j : ℕ) (rest : Tree) → flaws_in_blocks scene (Block h i t j rest) ≡ [] → (block_flaws scene h t ≡ []) × (flaws_in_blocks scene t ≡ []) × (flaws_in_blocks scene rest ≡ [])
  block_parts scene h i t j rest e =
      let p = nil_parts (block_flaws scene h t) (flat_map (λ b. block_flaws scene b.header b.within) (blocks_in t ++ blocks_in rest)) e in
      let q = nil_parts (flaws_in_blocks scene t) (flaws_in_blocks scene rest) (sym (blocks_append scene (blocks_in t) (blocks_in rest)) ∙ p.1) in
      (p.0, q.0, q.1)

  block_whole : (scene : Scene) (h : Header) (i : ℕ) (t : Tree) (j : ℕ) (rest : Tree) → block_flaws scene h t ≡ [] → flaws_in_blocks scene t ≡ [] → flaws_in_blocks scene rest ≡ [] → flaws_in_blocks scene (Block h i t j rest) ≡ []
  block_whole scene h i t j rest a b c =
      nil_joined (block_flaws scene h t) (flat_map (λ b. block_flaws scene b.header b.within) (blocks_in t ++ blocks_in rest)) a (blocks_append scene (blocks_in t) (blocks_in rest) ∙ nil_joined (flaws_in_blocks scene t) (flaws_in_blocks scene rest) b c)

  -- ---- a message

  module _ (x t u : Tree) (sw : IsDeletedRight g k aim res x t u) (others : HaveOtherNames middle (text old (written_name aim)) (fields_in x)) where
    fields_old : (o : Option ℕ) × IsWith (move_field_of g) (written_field o aim ∷ []) (fields_in x) (fields_in t)
    fields_old = old_fields g k aim res 0 x t u sw

    fields_new : fields_in u ≡ map (move_field_of k) (fields_in x)
    fields_new = new_fields g k aim res 0 x t u sw

    gone : FieldOf
    gone = written_field fields_old.0 aim

    front : List FieldOf
    front = fields_old.1.front

    back : List FieldOf
    back = fields_old.1.back

    stay : map (move_field_of g) (fields_in x) ≡ map (move_field_of g) front ++ map (move_field_of g) back
    unfolding front back
    stay = ap (map (move_field_of g)) fields_old.1.all ∙ map-append (move_field_of g) fields_old.1.front fields_old.1.back

    split : fields_in x ≡ front ++ back
    unfolding front back
    split = fields_old.1.all

    there : fields_in t ≡ map (move_field_of g) front ++ gone ∷ map (move_field_of g) back
    unfolding front back gone
    there = fields_old.1.is

    -- each field by itself
    fields_clean : flat_map (field_flaws old element.Field) (fields_in t) ≡ [] → flat_map (field_flaws new element.Field) (fields_in u) ≡ []
    fields_clean e =
        over (each g (move_field_of g) (field_flaws middle element.Field) (field_flaws old element.Field) (field_moved g middle old is_old element.Field) (fields_in x) refl)
        (each k (move_field_of k) (field_flaws middle element.Field) (field_flaws new element.Field) (field_moved k middle new is_new element.Field) (fields_in x) fields_new)
        (ap (flat_map (field_flaws old element.Field)) stay ∙ less (field_flaws old element.Field) (map (move_field_of g) front) (map (move_field_of g) back) gone (sym (ap (flat_map (field_flaws old element.Field)) there) ∙ e))

    -- the JSON names
    json_clean : json_clashes old (fields_in t) ≡ [] → json_clashes new (fields_in u) ≡ []
    json_clean e =
        over (clashes_moved g middle old is_old (fields_in x) refl) (clashes_moved k middle new is_new (fields_in x) fields_new)
        (ap (json_clashes old) stay ∙ deletions_keep_json_names old (map (move_field_of g) front) (map (move_field_of g) back) gone (sym (ap (json_clashes old) there) ∙ e))

    -- extensions and options
    words_old : flat_map extension_words (statements t) ≡ map g (flat_map extension_words (statements x))
    words_old = old_read g k aim res g extension_words (record { moves = statement_words_moved g }) (no_words aim).1 x t u sw

    options_old : options_in t ≡ map (move_option_of g) (options_in x)
    options_old = old_read g k aim res (move_option_of g) statement_options (record { moves = statement_options_moved g }) (no_words aim).2 x t u sw

    words_new : flat_map extension_words (statements u) ≡ map k (flat_map extension_words (statements x))
    words_new = nothing_with k _ _ (new_read g k aim res k extension_words (record { moves = statement_words_moved k }) x t u sw)

    options_new : options_in u ≡ map (move_option_of k) (options_in x)
    options_new = nothing_with (move_option_of k) _ _ (new_read g k aim res (move_option_of k) statement_options (record { moves = statement_options_moved k }) x t u sw)

    words_clean : extension_flaws old t ≡ [] → extension_flaws new u ≡ []
    words_clean e =
        over (each g g (λ w. flaw_if middle.is_proto3 kind.NotInProto3 w) (λ w. flaw_if old.is_proto3 kind.NotInProto3 w) (λ w. if_moved g kind.NotInProto3 w (sym is_old.version)) (flat_map extension_words (statements x)) words_old)
        (each k k (λ w. flaw_if middle.is_proto3 kind.NotInProto3 w) (λ w. flaw_if new.is_proto3 kind.NotInProto3 w) (λ w. if_moved k kind.NotInProto3 w (sym is_new.version)) (flat_map extension_words (statements x)) words_new) e

    options_clean : option_flaws old element.Message (options_in t) ≡ [] → option_flaws new element.Message (options_in u) ≡ []
    options_clean e = over (option_flaws_moved g middle old is_old element.Message (options_in x) options_old) (option_flaws_moved k middle new is_new element.Message (options_in x) options_new) e

    -- ---- numbers

    ranges_x : List (Range ℕ)
    ranges_x = flat_map closed_ranges (statements x)

    ranges_old : flat_map closed_ranges (statements t) ≡ map (move_range g g) (flat_map closed_ranges (statements x))
    ranges_old = old_read g k aim res (move_range g g) closed_ranges (record { moves = statement_ranges_moved g }) (no_ranges aim).2 x t u sw

    one_range : Range ℕ
    one_range = record { first = res.number; up_to = None }

    ranges_new : IsWith (move_range k k) (record { first = res.number; up_to = None } ∷ []) (flat_map closed_ranges (statements x)) (flat_map closed_ranges (statements u))
    ranges_new = new_read g k aim res (move_range k k) closed_ranges (record { moves = statement_ranges_moved k }) x t u sw

    -- ranges and numbers without their tokens
    bare_range : RangeAt → RangeAt
    bare_range = move_range_at (λ i. 0)

    bare_number : NumberAt → NumberAt
    bare_number = move_number_at (λ i. 0)

    numbers_clean : field_number_flaws (map (range_of old) (flat_map closed_ranges (statements t))) (map (number_of_field old) (fields_in t)) ≡ []
        → field_number_flaws (map (range_of new) (flat_map closed_ranges (statements u))) (map (number_of_field new) (fields_in u)) ≡ []
    unfolding one_range bare_range bare_number gone
    numbers_clean e =
        let r = ranges_new in
        let of_middle : (xs : List (Range ℕ)) → map (range_of old) (map (move_range g g) xs) ≡ map (move_range_at g) (map (range_of middle) xs) = λ xs. maps_moved (move_range g g) (move_range_at g) (range_of middle) (range_of old) (range_moved g middle old is_old) xs in
        let to_middle : (xs : List (Range ℕ)) → map (range_of new) (map (move_range k k) xs) ≡ map (move_range_at k) (map (range_of middle) xs) = λ xs. maps_moved (move_range k k) (move_range_at k) (range_of middle) (range_of new) (range_moved k middle new is_new) xs in
        let numbers_of : (fs : List FieldOf) → map (number_of_field old) (map (move_field_of g) fs) ≡ map (move_number_at g) (map (number_of_field middle) fs) = λ fs. maps_moved (move_field_of g) (move_number_at g) (number_of_field middle) (number_of_field old) (field_number_moved g middle old is_old) fs in
        let numbers_to : (fs : List FieldOf) → map (number_of_field new) (map (move_field_of k) fs) ≡ map (move_number_at k) (map (number_of_field middle) fs) = λ fs. maps_moved (move_field_of k) (move_number_at k) (number_of_field middle) (number_of_field new) (field_number_moved k middle new is_new) fs in
        let a : List RangeAt = map (move_range_at g) (map (range_of middle) r.front) in
        let b : List RangeAt = map (move_range_at g) (map (range_of middle) r.back) in
        let m : List NumberAt = map (move_number_at g) (map (number_of_field middle) front) in
        let n : List NumberAt = map (move_number_at g) (map (number_of_field middle) back) in
        let deleted : NumberAt = number_of_field old gone in
        let old_ranges : map (range_of old) (flat_map closed_ranges (statements t)) ≡ a ++ b =
        ap (map (range_of old)) (ranges_old ∙ ap (map (move_range g g)) r.all ∙ map-append (move_range g g) r.front r.back)
        ∙ map-append (range_of old) (map (move_range g g) r.front) (map (move_range g g) r.back) ∙ ap₂ (λ (y z : List RangeAt). y ++ z) (of_middle r.front) (of_middle r.back) in
        let old_numbers : map (number_of_field old) (fields_in t) ≡ m ++ deleted ∷ n =
        ap (map (number_of_field old)) there ∙ map-append (number_of_field old) (map (move_field_of g) front) (gone ∷ map (move_field_of g) back)
        ∙ ap₂ (λ (y z : List NumberAt). y ++ deleted ∷ z) (numbers_of front) (numbers_of back) in
        let kept = deletions_keep_numbers a b m n deleted 0 (sym (ap₂ field_number_flaws old_ranges old_numbers) ∙ e) in
        let one_old : RangeAt = range_of_one 0 deleted.number in
        let one_new : RangeAt = range_of new one_range in
        let a' : List RangeAt = map (move_range_at k) (map (range_of middle) r.front) in
        let b' : List RangeAt = map (move_range_at k) (map (range_of middle) r.back) in
        let new_ranges : map (range_of new) (flat_map closed_ranges (statements u)) ≡ a' ++ one_new ∷ b' =
        ap (map (range_of new)) r.is ∙ map-append (range_of new) (map (move_range k k) r.front) (one_range ∷ map (move_range k k) r.back)
        ∙ ap₂ (λ (y z : List RangeAt). y ++ one_new ∷ z) (to_middle r.front) (to_middle r.back) in
        let new_numbers : map (number_of_field new) (fields_in u) ≡ map (move_number_at k) (map (number_of_field middle) (fields_in x)) = ap (map (number_of_field new)) fields_new ∙ numbers_to (fields_in x) in
        let bare_all : (h : Move) (xs : List RangeAt) → map bare_range (map (move_range_at h) xs) ≡ map bare_range xs = λ h xs. maps_kept (move_range_at h) bare_range bare_range (λ y. refl) xs in
        let bare_each : (h : Move) (xs : List NumberAt) → map bare_number (map (move_number_at h) xs) ≡ map bare_number xs = λ h xs. maps_kept (move_number_at h) bare_number bare_number (λ y. refl) xs in
        let same_one : bare_range one_old ≡ bare_range one_new = ap (λ (z : ℤ). let y : RangeAt = record { token = 0; first = z; last = z } in y) (sym (reserving.number ∙ ap (number_at old) (sym (numbered_one fields_old.0 aim)))) in
        let same_ranges : map bare_range (a ++ one_old ∷ b) ≡ map bare_range (map (range_of new) (flat_map closed_ranges (statements u))) =
        map-append bare_range a (one_old ∷ b)
        ∙ ap₂ (λ (y z : List RangeAt). y ++ z) (bare_all g (map (range_of middle) r.front) ∙ sym (bare_all k (map (range_of middle) r.front))) (ap₂ (λ (y : RangeAt) (z : List RangeAt). y ∷ z) same_one (bare_all g (map (range_of middle) r.back) ∙ sym (bare_all k (map (range_of middle) r.back))))
        ∙ sym (map-append bare_range a' (one_new ∷ b')) ∙ ap (map bare_range) (sym new_ranges) in
        let whole : map (number_of_field middle) (fields_in x) ≡ map (number_of_field middle) front ++ map (number_of_field middle) back = ap (map (number_of_field middle)) split ∙ map-append (number_of_field middle) front back in
        let same_numbers : map bare_number (m ++ n) ≡ map bare_number (map (number_of_field new) (fields_in u)) =
        ap (map bare_number) (sym (map-append (move_number_at g) (map (number_of_field middle) front) (map (number_of_field middle) back)) ∙ ap (map (move_number_at g)) (sym whole))
        ∙ bare_each g (map (number_of_field middle) (fields_in x)) ∙ sym (bare_each k (map (number_of_field middle) (fields_in x))) ∙ ap (map bare_number) (sym new_numbers) in
        from_old (field_numbers_moved (λ i. 0) (map (range_of new) (flat_map closed_ranges (statements u))) (map (number_of_field new) (fields_in u)) refl refl)
        (sym (ap₂ field_number_flaws same_ranges same_numbers) ∙ to_new (field_numbers_moved (λ i. 0) (a ++ one_old ∷ b) (m ++ n) refl refl) kept)

    -- ---- names

    reserved_old : reserved_names_in t ≡ map g (reserved_names_in x)
    reserved_old = old_read g k aim res g reserved_names (record { moves = statement_names_moved g }) (no_words aim).0 x t u sw

    reserved_new : IsWith k (res.name ∷ []) (reserved_names_in x) (reserved_names_in u)
    reserved_new = new_read g k aim res k reserved_names (record { moves = statement_names_moved k }) x t u sw

    names_clean : name_flaws old (reserved_names_in t) (map (λ f. f.name) (fields_in t)) ≡ [] → name_flaws new (reserved_names_in u) (map (λ f. f.name) (fields_in u)) ≡ []
    unfolding gone
    names_clean e =
        let r = reserved_new in
        let name_in : FieldOf → ℕ = λ (f : FieldOf). f.name in
        let names : List ℕ = map name_in (fields_in x) in
        let old_names : map name_in (fields_in t) ≡ map name_in (map (move_field_of g) front) ++ gone.name ∷ map name_in (map (move_field_of g) back) = ap (map name_in) there ∙ map-append name_in (map (move_field_of g) front) (gone ∷ map (move_field_of g) back) in
        let moved_names : map g names ≡ map name_in (map (move_field_of g) front) ++ map name_in (map (move_field_of g) back) =
        sym (maps_moved (move_field_of g) g name_in name_in (λ f. refl) (fields_in x)) ∙ ap (map name_in) stay ∙ map-append name_in (map (move_field_of g) front) (map (move_field_of g) back) in
        let p = nil_parts (with_reserved_name old (reserved_names_in t) (map name_in (fields_in t))) (reserved_again old (reserved_names_in t)) e in
        let test : ℕ → List Flaw = λ i. flaw_if (is_one_of (map (value old) (reserved_names_in t)) (text old i)) kind.ReservedName i in
        let q = sym (ap (flat_map test) old_names) ∙ p.0 in
        let free : is_one_of (map (value old) (reserved_names_in t)) (text old gone.name) ≡ false = no_flaw (is_one_of (map (value old) (reserved_names_in t)) (text old gone.name)) kind.ReservedName gone.name (its_own test (map name_in (map (move_field_of g) front)) (map name_in (map (move_field_of g) back)) gone.name q) in
        let rest : with_reserved_name old (reserved_names_in t) (map g names) ≡ [] = ap (flat_map test) moved_names ∙ less test (map name_in (map (move_field_of g) front)) (map name_in (map (move_field_of g) back)) gone.name q in
        let clean : name_flaws new (map k (reserved_names_in x)) (map k names) ≡ [] =
        over (names_moved g middle old is_old (reserved_names_in x) names reserved_old refl) (names_moved k middle new is_new (reserved_names_in x) names refl refl)
        (nil_joined (with_reserved_name old (reserved_names_in t) (map g names)) (reserved_again old (reserved_names_in t)) rest p.1) in
        let parted : map k (reserved_names_in x) ≡ map k r.front ++ map k r.back = ap (map k) r.all ∙ map-append k r.front r.back in
        let values : map (value new) (map k (reserved_names_in x)) ≡ map (value old) (reserved_names_in t) =
        maps_kept k (value middle) (value new) is_new.strings (reserved_names_in x) ∙ sym (ap (map (value old)) reserved_old ∙ maps_kept g (value middle) (value old) is_old.strings (reserved_names_in x)) in
        let says : value new res.name ≡ text old gone.name = reserving.name ∙ ap (text old) (sym (named_one fields_old.0 aim)) in
        let not_yet : is_one_of (map (value new) (map k r.front ++ map k r.back)) (value new res.name) ≡ false =
        ap₂ is_one_of (ap (map (value new)) (sym parted) ∙ values) says ∙ free in
        let apart = all_apart names_word (fields_in x) others in
        ap₂ (name_flaws new) r.is (ap (map name_in) fields_new ∙ maps_moved (move_field_of k) k name_in name_in (λ f. refl) (fields_in x))
        ∙ deletions_keep_names new (map k r.front) (map k r.back) (map k names) res.name (ap (λ (z : List ℕ). name_flaws new z (map k names)) (sym parted) ∙ clean) not_yet
        (All-from_recursion (λ (i : ℕ). bytes_eq (value new res.name) (text new i) ≡ false) (map k names) apart)
      where
        names_word : value new res.name ≡ text old (written_name aim)
        names_word = reserving.name

        all_apart : value new res.name ≡ text old (written_name aim) → (fs : List FieldOf) → AllByRecursion (λ (f : FieldOf). bytes_eq (text old (written_name aim)) (text middle f.name) ≡ false) fs → AllByRecursion (λ (i : ℕ). bytes_eq (value new res.name) (text new i) ≡ false) (map k (map (λ (f : FieldOf). f.name) fs))
        all_apart same [] h = tt
        all_apart same (f ∷ fs) h = (ap₂ bytes_eq same (is_new.texts f.name) ∙ h.0, all_apart same fs h.1)

    message_clean : message_flaws old t ≡ [] → message_flaws new u ≡ []
    message_clean e =
        let a = nil_parts (flat_map (field_flaws old element.Field) (fields_in t)) _ e in
        let b = nil_parts (field_number_flaws (map (range_of old) (flat_map closed_ranges (statements t))) (map (number_of_field old) (fields_in t))) _ a.1 in
        let c = nil_parts (name_flaws old (reserved_names_in t) (map (λ f. f.name) (fields_in t))) _ b.1 in
        let d = nil_parts (json_clashes old (fields_in t)) _ c.1 in
        let f = nil_parts (extension_flaws old t) (option_flaws old element.Message (options_in t)) d.1 in
        nil_joined (flat_map (field_flaws new element.Field) (fields_in u)) _ (fields_clean a.0)
        (nil_joined (field_number_flaws (map (range_of new) (flat_map closed_ranges (statements u))) (map (number_of_field new) (fields_in u))) _ (numbers_clean b.0)
        (nil_joined (name_flaws new (reserved_names_in u) (map (λ f. f.name) (fields_in u))) _ (names_clean c.0)
        (nil_joined (json_clashes new (fields_in u)) _ (json_clean d.0)
        (nil_joined (extension_flaws new u) (option_flaws new element.Message (options_in u)) (words_clean f.0) (options_clean f.1)))))

  -- ---- blocks in a message

  among_blocks : (fd : Field) (x t : Tree) → IsAmong g fd x t → blocks_in t ≡ blocks_in (move_tree g x)
  among_blocks fd _ _ (Found rest) = refl
  among_blocks fd _ _ (FurtherOn a x t h) = among_blocks fd x t h

  swapped_blocks : (x t u : Tree) → IsDeletedRight g k aim res x t u → flaws_in_blocks old t ≡ [] → flaws_in_blocks new u ≡ []
  swapped_blocks _ _ _ (AtField rest) e = blocks_over rest e
  swapped_blocks _ _ _ (AtOneof h fd i x t j rest same some at) e =
      let p = block_parts old (move_header g (header.Oneof h)) (g i) t (g j) (move_tree g rest) e in
      block_whole new (move_header k (header.Oneof h)) (k i) (move_tree k x) (k j) (joined_trees (reserved res) (move_tree k rest))
      (ap (λ b. flaw_if b kind.EmptyOneof (k h.name)) (ap is_empty (fields_moved k 0 x) ∙ empty_kept (move_field_of k) (fields_in x) ∙ some))
      (blocks_over x (ap (flat_map (λ b. block_flaws old b.header b.within)) (sym (among_blocks fd x t at)) ∙ p.1))
      (blocks_over rest p.2)
  swapped_blocks _ _ _ (PastLeaf a x t u sw) e = swapped_blocks x t u sw e
  swapped_blocks _ _ _ (PastBlock h i within j x t u sw) e =
      let p = block_parts old (move_header g h) (g i) (move_tree g within) (g j) t e in
      block_whole new (move_header k h) (k i) (move_tree k within) (k j) u (block_over h within p.0) (blocks_over within p.1) (swapped_blocks x t u sw p.2)

  -- ---- the file

  others_in : (x t u : Tree) → IsDeletedRight g k aim res x t u → ((f h : FieldOf) → Contains (fields_in t) f → Contains (fields_in t) h → f.name ≢ h.name → text old f.name ≢ text old h.name)
      → HaveOtherNames middle (text old (written_name aim)) (fields_in x)
  others_in x t u sw apart =
      let fs = old_fields g k aim res 0 x t u sw in
      let f : FieldOf = written_field fs.0 aim in
      let front : List FieldOf = map (move_field_of g) fs.1.front in
      let back : List FieldOf = map (move_field_of g) fs.1.back in
      let among : (z : FieldOf) → Contains (front ++ f ∷ back) z → Contains (fields_in t) z = λ z c. subst (λ (hs : List FieldOf). Contains hs z) (sym fs.1.is) c in
      let own = among f (Contains-append_right front (f ∷ back) f (contains_head f back)) in
      let other : (z : FieldOf) → Contains (fields_in t) (move_field_of g z) → text old (written_name aim) ≡ text middle z.name → ⊥ =
      λ z c e. apart (move_field_of g z) f c own (λ q. both_ways (g z.name == written_name aim) (fresh z.name) (eq-eqb (g z.name) (written_name aim) (q ∙ named_one fs.0 aim)))
      (is_old.texts z.name ∙ sym e ∙ ap (text old) (sym (named_one fs.0 aim))) in
      subst (HaveOtherNames middle (text old (written_name aim))) (sym fs.1.all)
      (both (text old (written_name aim)) fs.1.front fs.1.back
      (all_other (text old (written_name aim)) fs.1.front (λ z c. other z (among (move_field_of g z) (Contains-append_left front (f ∷ back) (move_field_of g z) (contains_map (move_field_of g) fs.1.front z c)))))
      (all_other (text old (written_name aim)) fs.1.back (λ z c. other z (among (move_field_of g z) (Contains-append_right front (f ∷ back) (move_field_of g z) (contains_later f (move_field_of g z) back (contains_map (move_field_of g) fs.1.back z c)))))))
    where
      all_other : (name : List ℕ) (fs : List FieldOf) → ((z : FieldOf) → Contains fs z → name ≡ text middle z.name → ⊥) → HaveOtherNames middle name fs
      all_other name [] h = tt
      all_other name (z ∷ fs) h = (
        false_from_ne_true (bytes_eq name (text middle z.name)) (λ e. h z (contains_head z fs) (word_from_same name (text middle z.name) e)),
        all_other name fs (λ y c. h y (contains_later z y fs c)),
      )

      both : (name : List ℕ) (fs hs : List FieldOf) → HaveOtherNames middle name fs → HaveOtherNames middle name hs → HaveOtherNames middle name (fs ++ hs)
      both name [] hs a b = b
      both name (z ∷ fs) hs a b = (a.0, both name fs hs a.1 b)

  swapped_file : (x t u : Tree) → IsDeletedIn g k aim res x t u → FieldNamesDiffer old t → flaws_in_blocks old t ≡ [] → flaws_in_blocks new u ≡ []
  swapped_file _ _ _ (InMessage h i x t u j rest sw) apart e =
      let b : BlockOf = record { header = move_header g (header.Message h); within = t } in
      let own : (f hd : FieldOf) → Contains (fields_in t) f → Contains (fields_in t) hd → f.name ≢ hd.name → text old f.name ≢ text old hd.name =
      λ f hd. apart b (record { keyword = g h.keyword; name = g h.name }) f hd (contains_head b (blocks_in t ++ blocks_in (move_tree g rest))) refl in
      let p = block_parts old (move_header g (header.Message h)) (g i) t (g j) (move_tree g rest) e in
      block_whole new (move_header k (header.Message h)) (k i) u (k j) (move_tree k rest) (message_clean x t u sw (others_in x t u sw own) p.0) (swapped_blocks x t u sw p.1) (blocks_over rest p.2)
  swapped_file _ _ _ (Deeper h i x t u j rest sw) apart e =
      let b : BlockOf = record { header = move_header g (header.Message h); within = t } in
      let p = block_parts old (move_header g (header.Message h)) (g i) t (g j) (move_tree g rest) e in
      let ss = outer_statements g k aim res x t u sw in
      let fs = outer_fields g k aim res 0 x t u sw in
      block_whole new (move_header k (header.Message h)) (k i) u (k j) (move_tree k rest)
      (same_block new (move_header k (header.Message h)) u (move_tree k x) ss.1 fs.1 ∙ block_over (header.Message h) x (sym (same_block old (move_header g (header.Message h)) t (move_tree g x) ss.0 fs.0) ∙ p.0))
      (swapped_file x t u sw (λ c hd f z cc. apart c hd f z (contains_later b c (blocks_in t ++ blocks_in (move_tree g rest)) (Contains-append_left (blocks_in t) (blocks_in (move_tree g rest)) c cc))) p.1) (blocks_over rest p.2)
  swapped_file _ _ _ (BehindLeaf a x t u sw) apart e = swapped_file x t u sw apart e
  swapped_file _ _ _ (BehindBlock h i within j x t u sw) apart e =
      let b : BlockOf = record { header = move_header g h; within = move_tree g within } in
      let p = block_parts old (move_header g h) (g i) (move_tree g within) (g j) t e in
      block_whole new (move_header k h) (k i) (move_tree k within) (k j) u (block_over h within p.0) (blocks_over within p.1)
      (swapped_file x t u sw (λ c hd f z cc. apart c hd f z (contains_later b c (blocks_in (move_tree g within) ++ blocks_in t) (Contains-append_right (blocks_in (move_tree g within)) (blocks_in t) c cc))) p.2)

-- ---- the law

pub deletions_bring_no_flaw : DeletionsBringNoFlaw
deletions_bring_no_flaw g k middle old new aim res x t u is_old is_new reserving sw fresh apart e =
    let ss = outer_statements g k aim res x t u sw in
    let os_old : options_in t ≡ map (move_option_of g) (options_in x) = ap (flat_map statement_options) ss.0 ∙ options_moved g x in
    let os_new : options_in u ≡ map (move_option_of k) (options_in x) = ap (flat_map statement_options) ss.1 ∙ options_moved k x in
    let p = nil_parts (option_flaws old element.File (options_in t)) (flaws_in_blocks old t) e in
    nil_joined (option_flaws new element.File (options_in u)) (flaws_in_blocks new u)
    (over (option_flaws_moved g middle old is_old element.File (options_in x) os_old) (option_flaws_moved k middle new is_new element.File (options_in x) os_new) p.0)
    (swapped_file g k middle old new is_old is_new aim res reserving fresh x t u sw apart p.1)
