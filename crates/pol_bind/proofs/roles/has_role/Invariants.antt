-- No role so far has the name.
use Rattle.std.proofs.Common.{◌≡◌, drop}
use Rattle.mtp_codes.specs.Names.{is_among}
use Rattle.pol_bind.specs.Roles.{names_in}
use Rattle.pol_bind.proofs.roles.has_role.Given as goal

abbrev pub invariant-loop-role : goal.invariant-loop-role
invariant-loop-role l = is_among (names_in (drop l.role-index l.roles)) l.name ≡ is_among (names_in l.roles) l.name
