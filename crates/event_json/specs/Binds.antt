-- The object that says which module plays which role.
use Rattle.std.specs.Prelude.{ℕ, ◌&&◌, nat_le, List, [], ◌∷◌, Bool, true, Option, Some, None, is_some, unwrap_or, codes}
use Rattle.std.specs.Prelude.{Ok, Err, if◌then◌else◌}
use Rattle.serde_json.specs.Data.{Data, string, Members, no_members, member}
use Rattle.serde_json.specs.Events.{members_len}
use Rattle.serde_json.specs.Find.{as_object, as_str}
use Rattle.mtp_codes.specs.declared.limits.TheConstants.{MOST_BINDS}
use Rattle.mtp_json.specs.Form.{nested_if_there, refused_if}
use Rattle.mtp_json.specs.Leaf.{name}
use Rattle.mtp_json.specs.ReadResult.{Finding, ReadResult, ◌>>=◌, here, under}
use Rattle.mtp_json.specs.declared.fault.FaultKind.TheVariants.{WrongKind, OutOfRange, Repeated}
use Rattle.pol_events.specs.Bound.{PlainAllocation, shares_a_role}
use Rattle.pol_events.specs.ByRole.{by_role}
use Rattle.pol_events.specs.declared.event.Bind.{Bind}

-- every value is a text
abbrev pub are_texts : Members → Bool
are_texts no_members = true
are_texts (member role tag rest) = is_some (as_str tag) && are_texts rest

-- the members, where they are at most 64
abbrev pub few : Members → Finding Members
few members = if nat_le (members_len members) MOST_BINDS then Ok members else Err OutOfRange

-- members that were found, or none: each value has to be a text before their number is asked
abbrev pub few_texts : Option Members → Finding Members
few_texts None = Err WrongKind
few_texts (Some members) = if are_texts members then few members else Err WrongKind

-- a member as a bind: its key and its value are names
abbrev pub bind_of : List ℕ → Data → ReadResult Bind
bind_of key value =
    here (name (string key)) >>= λ role.
    here (name value) >>= λ tag.
    Ok (record { role = role; tag = tag })

-- each member as a bind
unfoldable pub each_bind : Members → ReadResult (List Bind)
each_bind no_members = Ok []
each_bind (member key value rest) =
    bind_of key value >>= λ bind.
    each_bind rest >>= λ binds.
    Ok (bind ∷ binds)

-- an object of at most 64 members, from role to tag
unfoldable pub binds_of : Data → ReadResult (List Bind)
binds_of value =
    here (few_texts (as_object value)) >>= λ members.
    each_bind members >>= λ binds.
    Ok (by_role binds)

-- the binds at a key, and none where the key is absent
abbrev pub binds_or_none : List ℕ → Data → ReadResult (List Bind)
binds_or_none key value =
    nested_if_there key binds_of value >>= λ found.
    Ok (unwrap_or found [])

-- what a start holds and watches, unless a role is both held and watched
abbrev pub allocation_from : PlainAllocation → ReadResult PlainAllocation
allocation_from binds =
    under (codes "watch") (refused_if (shares_a_role binds) Repeated) >>= λ _.
    Ok binds
