-- The new module doesn't cover its role in the holder, or else in a watcher.
use Rattle.std.proofs.Common.{◌∙◌, Option, sym, ap, map}
use Rattle.std.specs.Option.{option_or}
use Rattle.mtp_codes.specs.Faults.{first_of}
use Rattle.mtp_desc.specs.PlainDescription.{plain_description}
use Rattle.pol_events.specs.declared.answer.Rule.{Rule}
use Rattle.pol_table.specs.Rows.{watchers_of}
use Rattle.pol_core.specs.Exchanges.{lacks}
use Rattle.pol_core.proofs.Again.{held_back_same}
use Rattle.pol_core.proofs.exchanges.held_back.Goals as goal

pub returns-in-Some : goal.returns-in-Some
returns-in-Some c =
    λ history mirror batches.
    ap (λ (rule : Option Rule). option_or rule
    (first_of (map (lacks c.args.runs.now.entries c.args.tag (plain_description c.args.desc.now))
    (watchers_of c.args.tag c.args.modules.now)))) (sym c.in-Some.is ∙ c.held_back_by_holder.ensures)
    ∙ held_back_same history c.args.tag (plain_description c.args.desc.now) c.args.modules.now
    c.args.runs.now.entries mirror batches

pub returns-in-None : goal.returns-in-None
returns-in-None c =
    λ history mirror batches.
    c.held_back_by_watcher.ensures
    ∙ ap (λ (rule : Option Rule). option_or rule
    (first_of (map (lacks c.args.runs.now.entries c.args.tag (plain_description c.args.desc.now))
    (watchers_of c.args.tag c.args.modules.now)))) (sym c.in-None.is ∙ c.held_back_by_holder.ensures)
    ∙ held_back_same history c.args.tag (plain_description c.args.desc.now) c.args.modules.now
    c.args.runs.now.entries mirror batches
