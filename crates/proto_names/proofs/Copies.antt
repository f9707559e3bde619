-- A copy of a link has what the link has.
use Rattle.std.proofs.Common.{◌≡◌, ◌<◌, List, [], ◌∷◌, length, get_or, map, sym, ◌∙◌, ap, subst, arith, cond, All}
use Rattle.proto_base.proofs.Common.{Vec, get_or-map, length-map}
use Rattle.proto_names_table.specs.Tables.{AreAlike}
use Rattle.proto_names_table.specs.declared.table.Table.{Table}
use Rattle.proto_names_table.proofs.Alike.{of_rows}
use Rattle.proto_names.specs.Linking.{name_of_row}

-- what holds of each list holds of each of the same lists
pub all_items : {X : Type 0} (P : List X → Type 0) (vs ws : List (Vec X)) → map (λ v. v.items) ws ≡ map (λ v. v.items) vs → All (λ v. P v.items) vs → All (λ v. P v.items) ws
all_items P vs ws same all k d l =
    let lv : k < length vs = omega (arith, l, length-map ws (λ v. v.items), ap length same, length-map vs (λ v. v.items)) in
    let e : (get_or ws k d).items ≡ (get_or vs k d).items = sym (get_or-map (λ v. v.items) ws k d [] l) ∙ ap (λ z. get_or z k []) same ∙ get_or-map (λ v. v.items) vs k d [] lv in
    subst P (sym e) (all k d lv)

-- tables that are alike have the same names
pub names_alike : (t t' : Table) → AreAlike t t' → map name_of_row t'.rows.items ≡ map name_of_row t.rows.items
names_alike t t' alike = of_rows t t' alike (λ s. record { text = s.0; kind = s.1.kind; files = cond s.4 (s.1.file ∷ s.3) []; token = s.1.token })
