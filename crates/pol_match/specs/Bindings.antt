-- Bindings of a chart's roles to candidates, the least of them, and shortages.
use Rattle.std.specs.Prelude.{ℕ, ◌≡◌, ◌≢◌, ◌<◌, List, length, map, filter, Bool, ◌&&◌, IsTrue}
use Rattle.std.specs.Ordering.{nat_cmp}
use Rattle.std.specs.declared.cmp.Ordering.{Ordering}
use Rattle.std.specs.declared.cmp.Ordering.TheVariants.{Greater}
use Rattle.std.specs.List.{All, AllPairs, list_any}
use Rattle.std.specs.List.Sorted.{IsStrictlySortedBy}
use Rattle.std.specs.Cmp.Lexicographic.{slice_cmp}
use Rattle.mtp_codes.specs.Names.{same_name, is_among}
use Rattle.chart_core.specs.Roles.{PlainChart, role_names}
use Rattle.pol_events.specs.declared.event.Bind.{Bind}
use Rattle.pol_events.specs.Bound.{tags_of}
use Rattle.pol_match.specs.Fits.{PlainCandidate, fits_role}

-- names by their bytes
abbrev pub name_cmp : List ℕ → List ℕ → Ordering
name_cmp = slice_cmp nat_cmp

-- the tags of the candidates
abbrev pub tags_in : List PlainCandidate → List (List ℕ)
tags_in candidates = map (λ candidate. candidate.tag) candidates

-- the candidate of the bind's tag fits its role
abbrev pub is_bound_well : PlainChart → List PlainCandidate → Bind → Bool
is_bound_well chart candidates bind =
    list_any (λ candidate. same_name candidate.tag bind.tag && fits_role chart bind.role candidate) candidates

-- each role in order has a candidate that fits, and no candidate is bound twice
pub record IsBinding (chart : PlainChart) (candidates : List PlainCandidate) (binds : List Bind) : Type 0 where
  pub roles : map (λ bind. bind.role) binds ≡ role_names chart
  pub fit : All (λ bind. IsTrue (is_bound_well chart candidates bind)) binds
  pub once : AllPairs (λ one other. one.tag ≢ other.tag) binds

-- the binding whose tags are the least, tag by tag in byte order
pub record IsLeastBinding (chart : PlainChart) (candidates : List PlainCandidate) (binds : List Bind) : Type 0 where
  pub binding : IsBinding chart candidates binds
  pub least : (others : List Bind) → IsBinding chart candidates others
      → slice_cmp name_cmp (tags_of binds) (tags_of others) ≢ Greater

-- the chart has no binding to these candidates
abbrev pub HasNoBinding : PlainChart → List PlainCandidate → Type 0
HasNoBinding chart candidates = (binds : List Bind) → IsBinding chart candidates binds → ⊥

-- roles of the chart in its order, and the tags of all candidates that fit one of them, which are fewer
pub record IsShortage (chart : PlainChart) (candidates : List PlainCandidate) (roles tags : List (List ℕ)) : Type 0
  where
    pub roles_of : roles ≡ filter (is_among roles) (role_names chart)
    pub tags_of : tags ≡ tags_in
        (filter (λ candidate. list_any (λ role. fits_role chart role candidate) roles) candidates)
    pub fewer : length tags < length roles

-- the candidates are in byte order of their tags, which are distinct
abbrev pub AreInOrder : List PlainCandidate → Type 0
AreInOrder candidates = IsStrictlySortedBy name_cmp (tags_in candidates)
