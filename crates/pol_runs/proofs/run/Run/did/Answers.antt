use Rattle.std.proofs.Common.{◌≡◌, ℕ, ◌∙◌, ◌∷◌, ◌++◌, [], sym, subst, ap, List}
use Rattle.chart_core.specs.Charts.{plain_chart}
use Rattle.chart_core.specs.Valid.{IsValid}
use Rattle.chart_core.specs.declared.chart.Chart.{Chart}
use Rattle.chart_core.specs.declared.entry.LogEntry.{LogEntry}
use Rattle.chart_core.specs.declared.next.Next.TheVariants.{Did}
use Rattle.chart_cursor.specs.Logs.{chart_entries}
use Rattle.chart_cursor.specs.Sights.{Sights}
use Rattle.pol_runs.specs.Holds.{HaveRoom, Moves}
use Rattle.pol_runs.specs.Logs.{Asks, Follows, asked_after}
use Rattle.pol_runs.specs.Runs.{PlainRun}
use Rattle.pol_runs.specs.contracts.run.Run.{the_view}
use Rattle.pol_runs.proofs.Doing.{ComesAfter, breaks_off, breaks_on, goes_further, holds_on, may_go, stops_on}
use Rattle.pol_runs.proofs.Grown.{asked_moves}
use Rattle.pol_runs.proofs.run.Run.did.Goals as goal

-- the entry comes next, whatever log the run stands for
abbrev ComesNext : LogEntry → Sights → PlainRun → Type 0
ComesNext entry seen run = (log : List LogEntry) (asked : List (List ℕ)) → Follows run log → Asks run asked
    → ComesAfter run seen entry log asked

-- the run stands for each log with the entry
abbrev Grows : LogEntry → PlainRun → PlainRun → Type 0
Grows entry new old = (log : List LogEntry) → Follows old log → Follows new (log ++ entry ∷ [])

pub invariant_of-self : goal.invariant_of-self
invariant_of-self c =
    let run = the_view c.self.inside in
    let sound = c.self.invariant in
    let same : c.deref.result.now ≡ run.chart = c.deref.ensures ∙ c.chart.ensures in
    let moves = subst (λ (chart : Chart). Moves (plain_chart chart) c.args.entry run.holds c.take.new.self) same
    c.take.ensures.moves in
    record {
      valid = sound.valid;
      paired = sound.paired;
      room = subst (λ (chart : Chart). HaveRoom (plain_chart chart) c.take.new.self) same c.take.ensures.room;
      log = sound.log ++ c.args.entry ∷ [];
      follows = holds_on run sound.log c.args.entry c.take.new.self moves sound.follows
          (sym c.is_hold.ensures ∙ c.if-is_hold.true);
      asked = asked_after (Did c.args.entry) sound.asked;
      asks = asked_moves (plain_chart run.chart) sound.asked c.args.entry run.holds c.take.new.self moves sound.asks;
    }

pub returns-then-is_hold-clause-log : goal.returns-then-is_hold-clause-log
returns-then-is_hold-clause-log c =
    let run = the_view c.self.inside in
    let same : c.deref.result.now ≡ run.chart = c.deref.ensures ∙ c.chart.ensures in
    let moves = subst (λ (chart : Chart). Moves (plain_chart chart) c.args.entry run.holds c.take.new.self) same
    c.take.ensures.moves in
    subst (Grows c.args.entry (record run { holds = c.take.new.self })) c.self.view_is (λ log follows.
    holds_on run log c.args.entry c.take.new.self moves follows (sym c.is_hold.ensures ∙ c.if-is_hold.true))

pub invariant_of-self-in-Broke : goal.invariant_of-self-in-Broke
invariant_of-self-in-Broke c =
    let run = the_view c.self.inside in
    let sound = c.self.invariant in
    let same : c.deref.result.now ≡ run.chart = c.deref.ensures ∙ c.chart.ensures in
    let moves = subst (λ (chart : Chart). Moves (plain_chart chart) c.args.entry run.holds c.take.new.self) same
    c.take.ensures.moves in
    record {
      valid = sound.valid;
      paired = sound.paired;
      room = subst (λ (chart : Chart). HaveRoom (plain_chart chart) c.take.new.self) same c.take.ensures.room;
      log = sound.log ++ c.args.entry ∷ [];
      follows = breaks_off run sound.log c.args.entry c.take.new.self moves sound.follows c.in-Broke.step
          c.in-Broke.state c.in-Running.is c.in-Broke.is;
      asked = asked_after (Did c.args.entry) sound.asked;
      asks = asked_moves (plain_chart run.chart) sound.asked c.args.entry run.holds c.take.new.self moves sound.asks;
    }

pub take-requires-in_default : goal.take-requires-in_default
take-requires-in_default c =
    let run = the_view c.self.inside in
    let said = subst (ComesNext c.args.entry c.requires.0) (sym c.self.view_is) c.requires.1 in
    let sound = c.self.invariant in (
      chart_entries sound.log,
      sound.follows.proceeds.marks,
      may_go run sound.log sound.asked c.requires.0 c.args.entry sound.valid sound.follows.proceeds
          (said sound.log sound.asked sound.follows sound.asks) (sym c.is_hold.ensures ∙ c.if-is_hold.false)
          c.in-Running.is c.in_default.not-Broke,
    )

pub invariant_of-self-in_default : goal.invariant_of-self-in_default
invariant_of-self-in_default c =
    let run = the_view c.self.inside in
    let said = subst (ComesNext c.args.entry c.requires.0) (sym c.self.view_is) c.requires.1 in
    let sound = c.self.invariant in
    let same : c.deref.result.now ≡ run.chart = c.deref.ensures ∙ c.chart.ensures in
    let moves = subst (λ (chart : Chart). Moves (plain_chart chart) c.args.entry run.holds c.take.new.self) same
    c.take.ensures.moves in
    let kept = sym c.take-in_default.ensures.chart in
    record {
      valid = subst (λ (chart : Chart). IsValid (plain_chart chart)) kept sound.valid;
      paired = sound.paired;
      room = subst (λ (chart : Chart). HaveRoom (plain_chart chart) c.take.new.self) (same ∙ kept)
          c.take.ensures.room;
      log = sound.log ++ c.args.entry ∷ [];
      follows = goes_further run sound.log c.args.entry c.take.new.self moves sound.follows sound.asked c.requires.0
          sound.valid (said sound.log sound.asked sound.follows sound.asks)
          (sym c.is_hold.ensures ∙ c.if-is_hold.false) c.take-in_default.new.self.chart
          c.take-in_default.new.self.marks c.in-Running.is c.in_default.not-Broke c.take-in_default.ensures.chart
          c.take-in_default.ensures.word;
      asked = asked_after (Did c.args.entry) sound.asked;
      asks = subst (λ (chart : Chart). Asks (record run { chart = chart; holds = c.take.new.self })
          (asked_after (Did c.args.entry) sound.asked)) kept
          (asked_moves (plain_chart run.chart) sound.asked c.args.entry run.holds c.take.new.self moves sound.asks);
    }

pub invariant_of-self-in-Breaking : goal.invariant_of-self-in-Breaking
invariant_of-self-in-Breaking c =
    let run = the_view c.self.inside in
    let said = subst (ComesNext c.args.entry c.requires.0) (sym c.self.view_is) c.requires.1 in
    let sound = c.self.invariant in
    let same : c.deref.result.now ≡ run.chart = c.deref.ensures ∙ c.chart.ensures in
    let moves = subst (λ (chart : Chart). Moves (plain_chart chart) c.args.entry run.holds c.take.new.self) same
    c.take.ensures.moves in
    record {
      valid = sound.valid;
      paired = sound.paired;
      room = subst (λ (chart : Chart). HaveRoom (plain_chart chart) c.take.new.self) same c.take.ensures.room;
      log = sound.log ++ c.args.entry ∷ [];
      follows = breaks_on run sound.log c.args.entry c.take.new.self moves sound.follows sound.asked c.requires.0
          sound.valid (said sound.log sound.asked sound.follows sound.asks)
          (sym c.is_hold.ensures ∙ c.if-is_hold.false) c.in-Breaking.from c.behind.result c.in-Breaking.is
          (c.behind.ensures (chart_entries sound.log) sound.follows.proceeds.marks);
      asked = asked_after (Did c.args.entry) sound.asked;
      asks = asked_moves (plain_chart run.chart) sound.asked c.args.entry run.holds c.take.new.self moves sound.asks;
    }

pub invariant_of-self-in-Stopping : goal.invariant_of-self-in-Stopping
invariant_of-self-in-Stopping c =
    let run = the_view c.self.inside in
    let said = subst (ComesNext c.args.entry c.requires.0) (sym c.self.view_is) c.requires.1 in
    let sound = c.self.invariant in
    let same : c.deref.result.now ≡ run.chart = c.deref.ensures ∙ c.chart.ensures in
    let moves = subst (λ (chart : Chart). Moves (plain_chart chart) c.args.entry run.holds c.take.new.self) same
    c.take.ensures.moves in
    record {
      valid = sound.valid;
      paired = sound.paired;
      room = subst (λ (chart : Chart). HaveRoom (plain_chart chart) c.take.new.self) same c.take.ensures.room;
      log = sound.log ++ c.args.entry ∷ [];
      follows = stops_on run sound.log c.args.entry c.take.new.self moves sound.follows sound.asked c.requires.0
          sound.valid (said sound.log sound.asked sound.follows sound.asks)
          (sym c.is_hold.ensures ∙ c.if-is_hold.false) c.in-Stopping.from c.behind-in-Stopping.result c.in-Stopping.is
          (c.behind-in-Stopping.ensures (chart_entries sound.log) sound.follows.proceeds.marks);
      asked = asked_after (Did c.args.entry) sound.asked;
      asks = asked_moves (plain_chart run.chart) sound.asked c.args.entry run.holds c.take.new.self moves sound.asks;
    }

pub returns-in-Broke-clause-log : goal.returns-in-Broke-clause-log
returns-in-Broke-clause-log c =
    let run = the_view c.self.inside in
    let same : c.deref.result.now ≡ run.chart = c.deref.ensures ∙ c.chart.ensures in
    let moves = subst (λ (chart : Chart). Moves (plain_chart chart) c.args.entry run.holds c.take.new.self) same
    c.take.ensures.moves in
    subst (Grows c.args.entry (record run { holds = c.take.new.self; course = _ })) c.self.view_is (λ log follows.
    breaks_off run log c.args.entry c.take.new.self moves follows c.in-Broke.step c.in-Broke.state c.in-Running.is
    c.in-Broke.is)

pub returns-in_default : goal.returns-in_default
returns-in_default c =
    let run = the_view c.self.inside in
    let said = subst (ComesNext c.args.entry c.requires.0) (sym c.self.view_is) c.requires.1 in
    let sound = c.self.invariant in
    let same : c.deref.result.now ≡ run.chart = c.deref.ensures ∙ c.chart.ensures in
    let moves = subst (λ (chart : Chart). Moves (plain_chart chart) c.args.entry run.holds c.take.new.self) same
    c.take.ensures.moves in
    let new : PlainRun = record run {
      chart = c.take-in_default.new.self.chart;
      marks = c.take-in_default.new.self.marks;
      holds = c.take.new.self;
    } in
    let AsksMore : PlainRun → Type 0 = λ old. (asked : List (List ℕ)) → Asks old asked
    → Asks new (asked_after (Did c.args.entry) asked) in
    record {
      log = subst (Grows c.args.entry new) c.self.view_is (λ log follows.
          goes_further run log c.args.entry c.take.new.self moves follows sound.asked c.requires.0 sound.valid
          (said log sound.asked follows sound.asks) (sym c.is_hold.ensures ∙ c.if-is_hold.false)
          c.take-in_default.new.self.chart c.take-in_default.new.self.marks c.in-Running.is c.in_default.not-Broke
          c.take-in_default.ensures.chart c.take-in_default.ensures.word);
      asked = subst AsksMore c.self.view_is (λ asked asks.
          subst (λ (chart : Chart). Asks (record new { chart = chart }) (asked_after (Did c.args.entry) asked))
          (sym c.take-in_default.ensures.chart)
          (asked_moves (plain_chart run.chart) asked c.args.entry run.holds c.take.new.self moves asks));
      same_batch = record {
        batch = ap (λ (run : PlainRun). run.batch) c.self.view_is;
        chart = c.take-in_default.ensures.chart ∙ ap (λ (run : PlainRun). run.chart) c.self.view_is;
        binds = ap (λ (run : PlainRun). run.binds) c.self.view_is;
        recipe = ap (λ (run : PlainRun). run.recipe) c.self.view_is;
        held = ap (λ (run : PlainRun). run.held) c.self.view_is;
      };
      freeze = ap (λ (run : PlainRun). run.freeze) c.self.view_is;
      outcome = ap (λ (run : PlainRun). run.outcome) c.self.view_is;
    }

pub returns-in-Breaking-clause-log : goal.returns-in-Breaking-clause-log
returns-in-Breaking-clause-log c =
    let run = the_view c.self.inside in
    let said = subst (ComesNext c.args.entry c.requires.0) (sym c.self.view_is) c.requires.1 in
    let sound = c.self.invariant in
    let same : c.deref.result.now ≡ run.chart = c.deref.ensures ∙ c.chart.ensures in
    let moves = subst (λ (chart : Chart). Moves (plain_chart chart) c.args.entry run.holds c.take.new.self) same
    c.take.ensures.moves in
    subst (Grows c.args.entry (record run { holds = c.take.new.self; course = _ })) c.self.view_is (λ log follows.
    breaks_on run log c.args.entry c.take.new.self moves follows sound.asked c.requires.0 sound.valid
    (said log sound.asked follows sound.asks) (sym c.is_hold.ensures ∙ c.if-is_hold.false) c.in-Breaking.from
    c.behind.result c.in-Breaking.is (c.behind.ensures (chart_entries log) follows.proceeds.marks))

pub returns-in-Stopping-clause-log : goal.returns-in-Stopping-clause-log
returns-in-Stopping-clause-log c =
    let run = the_view c.self.inside in
    let said = subst (ComesNext c.args.entry c.requires.0) (sym c.self.view_is) c.requires.1 in
    let sound = c.self.invariant in
    let same : c.deref.result.now ≡ run.chart = c.deref.ensures ∙ c.chart.ensures in
    let moves = subst (λ (chart : Chart). Moves (plain_chart chart) c.args.entry run.holds c.take.new.self) same
    c.take.ensures.moves in
    subst (Grows c.args.entry (record run { holds = c.take.new.self; course = _ })) c.self.view_is (λ log follows.
    stops_on run log c.args.entry c.take.new.self moves follows sound.asked c.requires.0 sound.valid
    (said log sound.asked follows sound.asks) (sym c.is_hold.ensures ∙ c.if-is_hold.false) c.in-Stopping.from
    c.behind-in-Stopping.result c.in-Stopping.is
    (c.behind-in-Stopping.ensures (chart_entries log) follows.proceeds.marks))
