use Rattle.std.proofs.Common.{◌≡◌, ◌∙◌, false, map, refl, sym}
use Rattle.event_json.specs.Guarded.{is_desk_kind}
use Rattle.pol_policy.specs.Policies.{plain_group}
use Rattle.pol_rights.specs.Verdicts.{verdict_on_line}
use Rattle.pol_rights.proofs.plant_policy.PlantPolicy.verdict_on.Goals as goal

pub returns-in-Some : goal.returns-in-Some
unfolding verdict_on_line
returns-in-Some c =
    let other : is_desk_kind c.args.kind ≡ false = sym c.is_desk.ensures ∙ c.if-is_desk.false in
    let judged =
    c.judge.ensures (map plain_group c.args.self.now.commands.groups.items)
    (c.args.self.now.tabled c.in-Some.rules c.in-Some.is) in
    rw (other, c.in-Some.is, judged) refl
