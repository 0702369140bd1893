-- Bindings of a chart, and tags that are bound to its roles.
use Rattle.std.proofs.Common.{◌≡◌, ℕ, ◌<◌, List, [], map, length, get_or, arith, sym, ◌∙◌, ap, subst, ⊎_elim, nat_cmp}
use Rattle.std.proofs.lemmas.Bool.{cases_lt}
use Rattle.std.specs.List.{list_any}
use Rattle.std.specs.Cmp.Lexicographic.{slice_cmp}
use Rattle.std.proofs.lemmas.List.{get_or-map, length-map}
use Rattle.chart_core.specs.Roles.{PlainChart, role_names}
use Rattle.pol_events.specs.declared.event.Bind.{Bind}
use Rattle.pol_events.specs.Bound.{tags_of}
use Rattle.pol_match.specs.Fits.{PlainCandidate, fits_role, rows_for}
use Rattle.pol_match.specs.Bindings.{IsBinding, IsLeastBinding, HasNoBinding, AreInOrder}
use Rattle.pol_match.specs.Assignments.{IsLeastAssignment, HaveNone}
use Rattle.pol_match.proofs.Bridges.{AreBound, is_well, tags_at, none_bound, bound_by_assigned, least_bound}

-- a candidate and a bind to read past the end of a list
pub nobody : PlainCandidate
nobody = record {
  tag = [];
  description = record {
    type_name = [];
    version_text = [];
    version = (0, 0, 0, [], []);
    services = [];
    variables = [];
  };
  idle = [];
}

-- a bind to read past the end of a list
unbound : Bind
unbound = record { role = []; tag = [] }

-- the tag of a candidate
abbrev pub tag_of : PlainCandidate → List ℕ
tag_of candidate = candidate.tag

-- tags that are bound to the roles of the chart
abbrev pub AreBoundTo : PlainChart → List PlainCandidate → List (List ℕ) → Type 0
AreBoundTo chart candidates bound = AreBound tag_of (fits_role chart) candidates (role_names chart) bound

-- the role at a place of the chart is that of the bind at this place
role_at : (roles : List (List ℕ)) (binds : List Bind) (row : ℕ) (blank : Bind) → map (λ bind. bind.role) binds ≡ roles
    → row < length binds → get_or roles row [] ≡ (get_or binds row blank).role
role_at roles binds row blank same low = sym (ap (λ names. get_or names row []) same)
    ∙ get_or-map (λ bind. bind.role) binds row blank [] low

-- the tag at a place is that of the bind at this place
tag_at_row : (binds : List Bind) (row : ℕ) (blank : Bind) → row < length binds
    → get_or (tags_of binds) row [] ≡ (get_or binds row blank).tag
tag_at_row binds row blank low = get_or-map (λ bind. bind.tag) binds row blank [] low

-- there is a bind for each role
binds_long : (roles : List (List ℕ)) (binds : List Bind) → map (λ bind. bind.role) binds ≡ roles
    → length binds ≡ length roles
binds_long roles binds same = sym (length-map binds (λ bind. bind.role)) ∙ ap length same

-- the tags of a binding are bound to the roles of the chart
pub bound_by_binding : (chart : PlainChart) (candidates : List PlainCandidate) (binds : List Bind)
    → IsBinding chart candidates binds → AreBoundTo chart candidates (tags_of binds)
bound_by_binding chart candidates binds binding =
    record {
      long = length-map binds (λ bind. bind.tag) ∙ binds_long (role_names chart) binds binding.roles;
      well = λ row low.
          let inside : row < length binds = omega (arith, binds_long (role_names chart) binds binding.roles) in
          ap (λ role. list_any (is_well tag_of (fits_role chart) role (get_or (tags_of binds) row [])) candidates)
          (role_at (role_names chart) binds row unbound binding.roles inside)
          ∙ (ap (λ tag. list_any (is_well tag_of (fits_role chart) (get_or binds row unbound).role tag) candidates)
          (tag_at_row binds row unbound inside)
          ∙ binding.fit row unbound inside);
      once = λ i j low also alike.
          let inside : i < length binds = omega (arith, binds_long (role_names chart) binds binding.roles) in
          let within : j < length binds = omega (arith, binds_long (role_names chart) binds binding.roles) in
          let same = sym (tag_at_row binds i unbound inside) ∙ (alike ∙ tag_at_row binds j unbound within) in
          apart i j inside within same;
    }
  where
    apart : (i j : ℕ) → i < length binds → j < length binds
        → (get_or binds i unbound).tag ≡ (get_or binds j unbound).tag → i ≡ j
    apart i j low also same = ⊎_elim
        (λ less. absurd (binding.once i j unbound less also same))
        (λ more. ⊎_elim
        (λ less. absurd (binding.once j i unbound less low (sym same)))
        (λ least. omega arith)
        (cases_lt j i))
        (cases_lt i j)

-- binds of the roles in their order, whose tags are bound to them, are a binding
pub binding_by_bound : (chart : PlainChart) (candidates : List PlainCandidate) (binds : List Bind)
    → map (λ bind. bind.role) binds ≡ role_names chart → AreBoundTo chart candidates (tags_of binds)
    → IsBinding chart candidates binds
binding_by_bound chart candidates binds same are =
    record {
      roles = same;
      fit = λ k blank low.
          let inside : k < length (role_names chart) = omega (arith, binds_long (role_names chart) binds same) in
          sym (ap (λ role. list_any (is_well tag_of (fits_role chart) role (get_or (tags_of binds) k [])) candidates)
          (role_at (role_names chart) binds k blank same low)
          ∙ ap (λ tag. list_any (is_well tag_of (fits_role chart) (get_or binds k blank).role tag) candidates)
          (tag_at_row binds k blank low))
          ∙ are.well k inside;
      once = λ i j blank less low alike.
          let inside : j < length (role_names chart) = omega (arith, binds_long (role_names chart) binds same) in
          let one = are.once i j (omega arith) inside (tag_at_row binds i blank (omega arith)
          ∙ (alike ∙ sym (tag_at_row binds j blank low))) in
          omega arith;
    }

-- where the rows have no assignment, the chart has no binding
pub no_binding : (chart : PlainChart) (candidates : List PlainCandidate) → HaveNone (rows_for chart candidates)
    → HasNoBinding chart candidates
no_binding chart candidates none binds binding =
    none_bound tag_of (fits_role chart) candidates (role_names chart) (tags_of binds) nobody none
    (bound_by_binding chart candidates binds binding)

-- the least assignment makes the least binding
pub least_binding : (chart : PlainChart) (candidates : List PlainCandidate) (places : List ℕ) (binds : List Bind)
    → AreInOrder candidates → IsLeastAssignment (rows_for chart candidates) places
    → map (λ bind. bind.role) binds ≡ role_names chart → tags_of binds ≡ tags_at tag_of candidates places
    → IsLeastBinding chart candidates binds
least_binding chart candidates places binds sorted least same tags =
    record {
      binding = binding_by_bound chart candidates binds same
          (subst (AreBoundTo chart candidates) (sym tags) (bound_by_assigned tag_of (fits_role chart) candidates
          (role_names chart) places nobody sorted least.assignment));
      least = λ others binding greater.
          least_bound tag_of (fits_role chart) candidates (role_names chart) places (tags_of others) nobody sorted least
          (bound_by_binding chart candidates others binding)
          (sym (ap (λ names. slice_cmp (slice_cmp nat_cmp) names (tags_of others)) tags) ∙ greater);
    }
