-- Which module plays which role, by the binds of a start.
use Rattle.std.specs.Prelude.{ℕ, ◌≡◌, Bool, false, List, ◌++◌, map, find, Option, Some, None, option_map, is_some}
use Rattle.std.specs.List.{Contains, list_any}
use Rattle.std.specs.Str.{bytes_eq}
use Rattle.mtp_codes.specs.Names.{same_name}
use Rattle.chart_core.specs.Trees.{PlainStep}
use Rattle.pol_events.specs.declared.event.Bind.{Bind}
use Rattle.pol_events.specs.declared.bound.Allocation.{Allocation}

-- the tag that is bound to the role
abbrev pub bound_tag : List Bind → List ℕ → Option (List ℕ)
bound_tag binds role = option_map (λ bind. bind.tag) (find (λ bind. bytes_eq bind.role role) binds)

-- which module plays which role of a batch: the batch holds the ones, and only watches the others
pub record PlainAllocation : Type 0 where
  pub held : List Bind
  pub watched : List Bind

-- what contracts see of an allocation
abbrev pub plain_allocation : Allocation → PlainAllocation
plain_allocation allocation = record { held = allocation.held.now; watched = allocation.watched.now }

-- all binds of an allocation: the held ones, then the watched ones
abbrev pub given : PlainAllocation → List Bind
given binds = binds.held ++ binds.watched

-- a role has a module that is held and one that is watched
abbrev pub shares_a_role : PlainAllocation → Bool
shares_a_role binds = list_any (λ bind. is_some (bound_tag binds.watched bind.role)) binds.held

-- the role that the tag is bound to
abbrev pub bound_role : List Bind → List ℕ → Option (List ℕ)
bound_role binds tag = option_map (λ bind. bind.role) (find (λ bind. bytes_eq bind.tag tag) binds)

-- the tags that are bound
abbrev pub tags_of : List Bind → List (List ℕ)
tags_of binds = map (λ bind. bind.tag) binds

-- each bind is found by its role and by its tag: no role is bound twice, and no tag
pub record ArePaired (binds : List Bind) : Type 0 where
  pub by_role : (bind : Bind) → Contains binds bind → bound_tag binds bind.role ≡ Some bind.tag
  pub by_tag : (bind : Bind) → Contains binds bind → bound_role binds bind.tag ≡ Some bind.role

-- there is a tag, and it is this one
abbrev pub is_tag : List ℕ → Option (List ℕ) → Bool
is_tag tag None = false
is_tag tag (Some other) = same_name other tag

-- the first of these steps whose role has the tag
abbrev pub step_on : List Bind → List ℕ → List PlainStep → Option PlainStep
step_on binds tag steps = find (λ step. is_tag tag (bound_tag binds step.role)) steps
