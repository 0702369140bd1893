-- Binds in byte order of roles.
use Rattle.std.specs.Prelude.{List, [], ◌∷◌}
use Rattle.std.specs.Cmp.Lexicographic.{slice_cmp}
use Rattle.std.specs.Ordering.{match_ordering, nat_cmp}
use Rattle.pol_events.specs.declared.event.Bind.{Bind}

-- one more bind in its place by byte order of roles; of two binds of one role the later one stays
abbrev pub with_bind : Bind → List Bind → List Bind
with_bind bind [] = bind ∷ []
with_bind bind (next ∷ binds) =
    match_ordering (slice_cmp nat_cmp bind.role next.role) (bind ∷ next ∷ binds) (next ∷ binds)
    (next ∷ with_bind bind binds)

-- the binds in byte order of roles
abbrev pub by_role : List Bind → List Bind
by_role [] = []
by_role (bind ∷ binds) = with_bind bind (by_role binds)
