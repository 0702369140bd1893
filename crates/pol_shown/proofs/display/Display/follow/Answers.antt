use Rattle.std.proofs.Common.{◌≡◌, ◌∙◌, ◌∷◌, sym, ap, subst}
use Rattle.pol_events.specs.Events.{plain_entry, plain_history}
use Rattle.pol_site.specs.PlainSite.{plain_site}
use Rattle.pol_shown.specs.Displays.{Shows}
use Rattle.pol_shown.specs.Followed.{before_newest}
use Rattle.pol_shown.proofs.Following.{shows_unchanged}
use Rattle.pol_events.proofs.Histories.{history_pushed}
use Rattle.pol_shown.proofs.display.Display.follow.Goals as goal

pub returns-in_default-accepted_tag-clause-shown :
    goal.returns-in_default-accepted_tag-clause-shown
returns-in_default-accepted_tag-clause-shown c =
    let site = plain_site c.args.site.now in
    let entry = c.in-Some.entry.now in
    let older = c.in-Some.older.now in
    let is : plain_history c.args.history.now ≡ plain_entry entry ∷ plain_history older =
    ap plain_history c.in-Some.ensures.cases.0 ∙ history_pushed older entry in
    let none = sym c.accepted_tag.ensures ∙ c.in_default-accepted_tag.is in
    let before = subst (λ history. Shows site (before_newest history) c.args.self.now) is c.requires.shown in
    subst (λ history. Shows site history c.args.self.now) (sym is)
    (shows_unchanged site (plain_entry entry) (plain_history older) c.args.self.now none before)
