-- Small workspaces, computed.
use Rattle.std.proofs.Common.{◌≡◌, ℕ, true, false, List, [], ◌∷◌, Some, None, refl}
use Rattle.proto_names_rules.specs.Common.{Kind, Package, Message, Entry, Service, Field, EntryField, Symbol, Import, Reference, Workspace, meaning, hit, hits_at, sees, Renaming, renamed, renamed_reference, is_captured, collides, ren, with_imports, import_of}
use Rattle.proto_names_rules.specs.declared.wants.Wants.TheVariants as wants

abbrev sym_of : List (List ℕ) → Kind → ℕ → Symbol
sym_of name kind file = record { name = name; kind = kind; file = file }

abbrev rel : ℕ → List (List ℕ) → List (List ℕ) → Reference
rel file scope words = record { file = file; scope = scope; is_absolute = false; wants = wants.Type; words = words }

abbrev p : List ℕ
p = 112 ∷ []

abbrev m : List ℕ
m = 77 ∷ []

abbrev n : List ℕ
n = 78 ∷ []

abbrev q : List ℕ
q = 81 ∷ []

abbrev x : List ℕ
x = 120 ∷ []

abbrev a : List ℕ
a = 97 ∷ []

abbrev b : List ℕ
b = 98 ∷ []

abbrev c : List ℕ
c = 99 ∷ []

abbrev s : List ℕ
s = 83 ∷ []

-- package p; message M {} message Q { message N {} M x = 1; }, M to N
abbrev inner_ref : Reference
inner_ref = rel 0 (p ∷ q ∷ []) (m ∷ [])

abbrev inner_space : Workspace
inner_space = record {
  files = 1;
  imports = [];
  references = inner_ref ∷ [];
  symbols = sym_of (p ∷ []) Package 0 ∷ sym_of (p ∷ m ∷ []) Message 0 ∷ sym_of (p ∷ q ∷ []) Message 0 ∷ sym_of (p ∷ q ∷ n ∷ []) Message 0 ∷ sym_of (p ∷ q ∷ x ∷ []) Field 0 ∷ [];
}

abbrev inner_edit : Renaming
inner_edit = record { parent = p ∷ []; old = m; new = n; entry = None }

inner_means : meaning inner_space inner_ref ≡ Some (p ∷ m ∷ [])
inner_means = refl

inner_captured : is_captured inner_edit inner_space inner_ref ≡ true
inner_captured = refl

inner_collides : collides inner_edit inner_space ≡ false
inner_collides = refl

-- what it would mean
inner_after : meaning (renamed inner_edit inner_space) (renamed_reference inner_edit inner_space inner_ref) ≡ Some (p ∷ q ∷ n ∷ [])
inner_after = refl

-- a.b with an import of a.c: c.X in a.b.A, and the service a.b.S becomes c
abbrev service_ref : Reference
service_ref = rel 0 (a ∷ b ∷ m ∷ []) (c ∷ x ∷ [])

abbrev service_space : Workspace
service_space = record {
  files = 2;
  imports = import_of 0 1 ∷ [];
  references = service_ref ∷ [];
  symbols = sym_of (a ∷ []) Package 0 ∷ sym_of (a ∷ b ∷ []) Package 0 ∷ sym_of (a ∷ b ∷ m ∷ []) Message 0 ∷ sym_of (a ∷ b ∷ s ∷ []) Service 0
      ∷ sym_of (a ∷ []) Package 1 ∷ sym_of (a ∷ c ∷ []) Package 1 ∷ sym_of (a ∷ c ∷ x ∷ []) Message 1 ∷ [];
}

abbrev service_edit : Renaming
service_edit = record { parent = a ∷ b ∷ []; old = s; new = c; entry = None }

service_hit : hit service_space service_ref ≡ Some 1
service_hit = refl

service_captured : is_captured service_edit service_space service_ref ≡ true
service_captured = refl

-- package a, import b.proto; A { b.X f }, and package a.b comes in
abbrev overtaken_ref : Reference
overtaken_ref = rel 0 (a ∷ m ∷ []) (b ∷ x ∷ [])

abbrev overtaken_space : Workspace
overtaken_space = record {
  files = 3;
  imports = import_of 0 1 ∷ [];
  references = overtaken_ref ∷ [];
  symbols = sym_of (a ∷ []) Package 0 ∷ sym_of (a ∷ m ∷ []) Message 0 ∷ sym_of (b ∷ []) Package 1 ∷ sym_of (b ∷ x ∷ []) Message 1 ∷ sym_of (a ∷ []) Package 2 ∷ sym_of (a ∷ b ∷ []) Package 2 ∷ [];
}

overtaken_hit : hit overtaken_space overtaken_ref ≡ Some 0
overtaken_hit = refl

overtaken_means : meaning overtaken_space overtaken_ref ≡ Some (b ∷ x ∷ [])
overtaken_means = refl

overtaken_now : hits_at (with_imports overtaken_space (import_of 0 2 ∷ import_of 0 1 ∷ [])) overtaken_ref 1 ≡ true
overtaken_now = refl

overtaken_lost : meaning (with_imports overtaken_space (import_of 0 2 ∷ import_of 0 1 ∷ [])) overtaken_ref ≡ None
overtaken_lost = refl

-- seen through a public import, and not without it
abbrev public_imports : List Import
public_imports = import_of 0 1 ∷ record { from = 1; to = 2; is_public = true } ∷ record { from = 2; to = 3; is_public = true } ∷ []

abbrev public_ref : Reference
public_ref = rel 0 (m ∷ []) (c ∷ [])

abbrev public_space : Workspace
public_space = record { files = 4; imports = public_imports; references = public_ref ∷ []; symbols = sym_of (m ∷ []) Message 0 ∷ sym_of (c ∷ []) Message 3 ∷ [] }

public_means : meaning public_space public_ref ≡ Some (c ∷ [])
public_means = refl

public_needed : sees (with_imports public_space (import_of 0 1 ∷ [])) 0 2 ≡ false
public_needed = refl

-- A field captures: message BarEntry {} message M { map<..> foo = 1; BarEntry x = 2; }, M.foo to bar. Here b is bar, n its entry's name
abbrev field_ref : Reference
field_ref = rel 0 (m ∷ []) (n ∷ [])

abbrev field_space : Workspace
field_space = record {
  files = 1;
  imports = [];
  references = field_ref ∷ [];
  symbols = sym_of (n ∷ []) Message 0 ∷ sym_of (m ∷ []) Message 0 ∷ sym_of (m ∷ a ∷ []) Field 0 ∷ sym_of (m ∷ q ∷ []) Entry 0 ∷ sym_of (m ∷ q ∷ (107 ∷ []) ∷ []) EntryField 0 ∷ sym_of (m ∷ q ∷ (118 ∷ []) ∷ []) EntryField 0 ∷ sym_of (m ∷ x ∷ []) Field 0 ∷ [];
}

abbrev field_edit : Renaming
field_edit = record { parent = m ∷ []; old = a; new = b; entry = Some (q, n) }

field_captured : is_captured field_edit field_space field_ref ≡ true
field_captured = refl

field_collides : collides field_edit field_space ≡ false
field_collides = refl

-- The field takes its own entry's name
abbrev own_edit : Renaming
own_edit = record { parent = m ∷ []; old = a; new = q; entry = Some (q, s) }

own_collides : collides own_edit field_space ≡ false
own_collides = refl

own_name : ren own_edit (m ∷ q ∷ (107 ∷ []) ∷ []) ≡ m ∷ s ∷ (107 ∷ []) ∷ []
own_name = refl
