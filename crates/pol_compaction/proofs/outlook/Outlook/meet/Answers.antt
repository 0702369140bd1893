-- An event that lasts is met by its own module, or by those that it reads.
use Rattle.std.proofs.Common.{[], refl, ◌∙◌, ap, sym}
use Rattle.std.specs.Option.{option_map_or}
use Rattle.std.proofs.lemmas.Result.{on_ok_weaker}
use Rattle.pol_events.specs.Bound.{given, plain_allocation}
use Rattle.pol_events.specs.Events.{plain_entry, plain_history}
use Rattle.pol_events.specs.Subjects.{subject_tag}
use Rattle.pol_compaction.specs.Ahead.{ahead_of}
use Rattle.pol_compaction.proofs.AllAhead.{ahead_binds, ahead_module, both_met, fate_none, no_tag}
use Rattle.pol_compaction.proofs.outlook.Outlook.meet.Goals as goal

pub returns-in-Module-clause-met : goal.returns-in-Module-clause-met
returns-in-Module-clause-met c =
    on_ok_weaker c.meet_of.result
    (λ met newer are. ahead_module (plain_history c.args.whole.now) (plain_entry c.args.entry.now)
    (sym c.if-not-is_lasting.ensures) c.args.self.now.modules.entries c.in-Module.tag c.in-Module.ensures
    c.meet_of.new.self.modules.entries met newer are)
    c.meet_of.ensures.met

pub returns-in_ok-meet_each-2 : goal.returns-in_ok-meet_each-2
returns-in_ok-meet_each-2 c =
    let whole = plain_history c.args.whole.now in
    let entry = plain_entry c.args.entry.now in
    let old = c.args.self.now.modules.entries in
    let read = c.in-Some.read in
    let none = ap subject_tag (sym c.subject.ensures) ∙ no_tag c.subject.result c.in_default.not-Module in
    let lasts = sym c.if-not-is_lasting.ensures in
    record {
      fate = fate_none whole entry lasts old none;
      met = ahead_binds whole entry lasts old none (given (plain_allocation read))
          c.meet_each-in-Some.new.self.modules.entries
          (ap (λ found. option_map_or (λ binds. given (plain_allocation binds)) found []) (sym c.in-Some.is)
          ∙ c.read_by.ensures)
          (λ other. both_met read.held.now read.watched.now other (ahead_of old other)
          (ahead_of c.meet_each.new.self.modules.entries other)
          (ahead_of c.meet_each-in-Some.new.self.modules.entries other) (c.in_ok-meet_each.ensures other)
          (c.in_ok-meet_each-2.ensures other));
    }

pub returns-in_default-read_by : goal.returns-in_default-read_by
returns-in_default-read_by c =
    let whole = plain_history c.args.whole.now in
    let entry = plain_entry c.args.entry.now in
    let old = c.args.self.now.modules.entries in
    let none = ap subject_tag (sym c.subject.ensures) ∙ no_tag c.subject.result c.in_default.not-Module in
    let lasts = sym c.if-not-is_lasting.ensures in
    record {
      fate = fate_none whole entry lasts old none;
      met = ahead_binds whole entry lasts old none [] old
          (ap (λ found. option_map_or (λ binds. given (plain_allocation binds)) found [])
          (sym c.in_default-read_by.is) ∙ c.read_by.ensures)
          (λ other. refl);
    }
