-- JSON objects that are made member by member.
use Rattle.std.specs.Prelude.{◌≡◌, ℕ, Bool, [], ◌∷◌, Option, Some, None, codes, if◌then◌else◌}
use Rattle.serde_json.specs.Data.{Data, boolean, object, string, Members, no_members, put}
use Rattle.serde_json.specs.View.{members_view}
use Rattle.proto_base.specs.Texts.{Text}
use Rattle.proto_messages.specs.Results.{natural, object_of}
use Rattle.proto_messages.specs.declared.objects.Object.{Object}

-- the members that an object has, unless memory was refused
abbrev pub made : Object → Option Members
made o = if o.is_refused then None else Some (members_view o.members.entries)

-- an object has these members, unless memory was refused
pub record Has (members : Members) (made : Option Members) : Type 0 where
  pub has : (ms : Members) → made ≡ Some ms → ms ≡ members

-- an object is this data, unless memory was refused
pub record Is (value : Data) (made : Option Members) : Type 0 where
  pub is : (ms : Members) → made ≡ Some ms → object ms ≡ value

-- one member more
pub record Puts (key : Text) (value : Data) (old new : Option Members) : Type 0 where
  pub puts : (ms : Members) → Has ms old → Has (put key value ms) new

-- where an object had no member, it is this data
pub record Fills (value : Data) (old new : Option Members) : Type 0 where
  pub fills : Has no_members old → Is value new

-- the version of a document, where it is open
abbrev pub PutsVersion : Option ℕ → Option Members → Option Members → Type 0
PutsVersion None old new = new ≡ old
PutsVersion (Some n) old new = Puts (codes "version") (natural n) old new

-- an object of one truth value
abbrev pub flag_data : Text → Bool → Data
flag_data key is_set = object_of ((key, boolean is_set) ∷ [])

-- an object of one name
abbrev pub name_data : Text → Data
name_data name = object_of ((codes "name", string name) ∷ [])
