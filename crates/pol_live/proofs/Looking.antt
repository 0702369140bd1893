-- What a module did that looked.
use Rattle.std.proofs.Common.{◌≡◌, inl, inr, ℕ, Bool, true, false, List, length, Option, Some, None, refl, sym, subst}
use Rattle.std.specs.Prelude.{if◌then◌else◌}
use Rattle.mtp_sim.specs.Ticks.{is_at_rest, is_pending, tick_report}
use Rattle.mtp_sim.specs.declared.report.SimReport.{SimReport}
use Rattle.pol_core.specs.declared.commands.Sent.{Sent}
use Rattle.pol_events.specs.declared.event.Entry.{Entry}
use Rattle.pol_site.specs.Sites.{PlainSite, PlainSiteModule}
use Rattle.pol_actors.specs.Turning.{decision_by, free_after, free_decides, made_after, made_decides, made_looked}
use Rattle.pol_actors.specs.Turning.{made_of, made_ticked, next_found}
use Rattle.pol_actors.specs.declared.simulation.Decision.TheVariants.{Looks, Rests}
use Rattle.pol_actors.specs.declared.simulation.Simulation.{Simulation}
use Rattle.pol_actors.specs.declared.unit.Unit.{Unit as Module}
use Rattle.pol_live.specs.Turns.{IsLook, took_command, ticked_in_vain}

-- a tick after which it looked gave nothing
in_vain : (report : Option SimReport) → decision_by report ≡ Looks → report ≡ None
in_vain None is = refl
in_vain (Some report) is = cc

-- it took a command, or its tick gave nothing
is_look : (found : Option Sent × ℕ) (made : Simulation) → made_decides found made ≡ Looks →
    IsLook found made (made_after found made)
is_look found made is = go (is_pending made.sim) refl is
  where
    rest : (still : Bool) → found.0 ≡ None →
        (if still then Rests else decision_by (tick_report made.sim)) ≡ Looks →
        IsLook found made
        (if still then made_looked None found.1 made else made_ticked (made_looked None found.1 made))
    rest true none e = cc
    rest false none e = ticked_in_vain (inr none) (in_vain (tick_report made.sim) e) refl

    free : (next : Option Sent) → found.0 ≡ next → is_pending made.sim ≡ false → free_decides next made ≡ Looks →
        IsLook found made (free_after next found.1 made)
    free None at calm e = rest (is_at_rest made.sim) at e
    free (Some sent) at calm e = took_command sent calm at refl

    go : (pending : Bool) → is_pending made.sim ≡ pending →
        (if pending then decision_by (tick_report made.sim) else free_decides found.0 made) ≡ Looks →
        IsLook found made (if pending then made_ticked made else free_after found.0 found.1 made)
    go true at e = ticked_in_vain (inl at) (in_vain (tick_report made.sim) e) refl
    go false at e = free found.0 refl at e

-- the same by the site, the entries and their number
pub look_of : (site held : PlainSite) (unit : PlainSiteModule) (entries same : List Entry) (count : ℕ) (own : Module)
    (turned : Simulation) → held ≡ site → same ≡ entries → count ≡ length same →
    turned ≡ made_after (next_found unit.tag (made_of held unit count own) same) (made_of held unit count own) →
    made_decides (next_found unit.tag (made_of held unit count own) same) (made_of held unit count own) ≡ Looks →
    IsLook (next_found unit.tag (made_of site unit (length entries) own) entries)
    (made_of site unit (length entries) own) turned
look_of site held unit entries same count own turned here alike counted turned_is is =
    subst (λ (each : PlainSite). IsLook (next_found unit.tag (made_of each unit (length entries) own) entries)
    (made_of each unit (length entries) own) turned) here
    (subst (λ (each : List Entry). IsLook (next_found unit.tag (made_of held unit (length each) own) each)
    (made_of held unit (length each) own) turned) alike
    (subst (λ (n : ℕ). IsLook (next_found unit.tag (made_of held unit n own) same) (made_of held unit n own) turned)
    counted
    (subst (λ (made : Simulation). IsLook (next_found unit.tag (made_of held unit count own) same)
    (made_of held unit count own) made)
    (sym turned_is)
    (is_look (next_found unit.tag (made_of held unit count own) same) (made_of held unit count own) is))))
