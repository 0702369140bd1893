-- What the plant's calls find of a module, as the rules ask it.
use Rattle.std.proofs.Common.{◌≡◌, ℕ, List, [], ◌∷◌, map, Option, Some, None, refl, ap, sym, ◌∙◌}
use Rattle.std.specs.Prelude.{option_map, option_and_then, slice_get}
use Rattle.std.specs.Option.{option_or}
use Rattle.mtp_codes.specs.Faults.{first_of, unless}
use Rattle.mtp_codes.specs.declared.command.Command.{Command}
use Rattle.mtp_codes.specs.declared.state.State.{State}
use Rattle.mtp_codes.specs.declared.value.Value.{Value}
use Rattle.mtp_assembly.specs.declared.control.ServiceControl.{ServiceControl}
use Rattle.mtp_modes.specs.declared.view.ServiceView.{ServiceView}
use Rattle.mtp_desc.specs.Plain.{PlainDescription}
use Rattle.chart_core.specs.declared.entry.LogEntry.TheVariants.{Asked}
use Rattle.pol_events.specs.Refusals.{forbidden, in_exchange, no_service, no_variable, not_an_edge, report_rules}
use Rattle.pol_events.specs.Refusals.{value_misfit, variable_rules}
use Rattle.pol_events.specs.Views.{seen_with}
use Rattle.pol_events.specs.declared.answer.Answer.{Answer}
use Rattle.pol_events.specs.declared.answer.Answer.TheVariants.{Did}
use Rattle.pol_events.specs.declared.answer.Rule.{Rule}
use Rattle.pol_events.specs.declared.answer.Rule.TheVariants.{Held, Watched}
use Rattle.pol_history.specs.Answers.{first_rule}
use Rattle.pol_history.specs.Modules.{Docking, absent, docked, away, ticket_of}
use Rattle.pol_history.specs.Rules.{no_module, not_reported}
use Rattle.pol_core.specs.Calls.{module_sight}
use Rattle.pol_core.specs.Seats.{asked_answer}
use Rattle.pol_core.proofs.Away.{last_or}
use Rattle.pol_foresight.specs.Foreseen.{control_in, sight_asked}

-- of the batches that watch a module that isn't held the first tells
pub used_by : (holder : Option (List ℕ)) (watchers : List (List ℕ)) (found : Option (List ℕ)) → None ≡ holder →
    found ≡ slice_get watchers 0 →
    option_map Watched found
    ≡ first_of (option_and_then (λ batch. Some (Held batch)) holder
    ∷ first_of (map (λ batch. Some (Watched batch)) watchers) ∷ [])
used_by holder watchers found free is =
    ap (option_map Watched) is ∙ go watchers
    ∙ ap (λ holder. first_of (option_and_then (λ batch. Some (Held batch)) holder
    ∷ first_of (map (λ batch. Some (Watched batch)) watchers) ∷ [])) free
  where
    go : (watchers : List (List ℕ)) →
        option_map Watched (slice_get watchers 0)
        ≡ first_of (None ∷ first_of (map (λ batch. Some (Watched batch)) watchers) ∷ [])
    go [] = refl
    go (batch ∷ watchers) = refl

-- no rule is against the tag: its module is docked
abbrev pub NoneAgainst : List ℕ → Docking → Type 0
NoneAgainst tag docking = first_of (no_module tag docking ∷ in_exchange tag (ticket_of docking) ∷ []) ≡ None

-- what a service of a docked module reported last is seen
pub control_seen : (tag service : List ℕ) (docking : Docking) (description : Option PlainDescription)
    (control : Option ServiceControl) → NoneAgainst tag docking →
    control_in (module_sight docking (option_map (seen_with service description) control)) ≡ control
control_seen tag service absent description control none = absurd cc
control_seen tag service (away ticket) description control none = absurd cc
control_seen tag service (docked count) description None none = refl
control_seen tag service (docked count) description (Some control) none = refl

-- the rules of a report of a docked module that has the service
pub report_found : (tag service : List ℕ) (state : State) (docking : Docking) (description : Option PlainDescription)
    (control : Option ServiceControl) (found : Option Rule) → NoneAgainst tag docking →
    option_and_then (no_service service) description ≡ None → found ≡ not_an_edge state control →
    found ≡ first_of (no_module tag docking ∷ report_rules tag service state (ticket_of docking) description control)
report_found tag service state absent description control found none has is = absurd cc
report_found tag service state (away ticket) description control found none has is = absurd cc
report_found tag service state (docked count) description control found none has is =
    is ∙ sym (last_or (not_an_edge state control))
    ∙ ap (λ lacks. option_or lacks (option_or (not_an_edge state control) None)) (sym has)

-- the rules of a variable of a docked module
pub variable_found : (tag name : List ℕ) (value : Value) (docking : Docking) (description : Option PlainDescription)
    (described : PlainDescription) (found : Option Rule) → NoneAgainst tag docking →
    description ≡ Some described →
    found ≡ first_of (no_variable name described ∷ value_misfit name value described ∷ []) →
    found ≡ first_of (no_module tag docking ∷ variable_rules tag name value (ticket_of docking) description)
variable_found tag name value absent description described found none same is = absurd cc
variable_found tag name value (away ticket) description described found none same is = absurd cc
variable_found tag name value (docked count) description described found none same is =
    is
    ∙ ap (λ description. first_of (option_and_then (no_variable name) description
    ∷ option_and_then (value_misfit name value) description ∷ [])) (sym same)

-- the answer to a command to a service that a docked module has
pub desk_found : (tag service : List ℕ) (command : Command) (docking : Docking)
    (description : Option PlainDescription) (view : Option ServiceView) (answer : Answer) → NoneAgainst tag docking →
    option_and_then (no_service service) description ≡ None →
    answer ≡ asked_answer (sight_asked tag service command (module_sight docking view)) →
    answer ≡ first_rule (no_module tag docking ∷ in_exchange tag (ticket_of docking)
    ∷ option_and_then (no_service service) description ∷ not_reported tag service view
    ∷ option_and_then (forbidden command) view ∷ []) (Did (Asked tag service command))
desk_found tag service command absent description view answer none has is = absurd cc
desk_found tag service command (away ticket) description view answer none has is = absurd cc
desk_found tag service command (docked count) description view answer none has is =
    is ∙ go view
    ∙ ap (λ lacks. first_rule (lacks ∷ not_reported tag service view ∷ option_and_then (forbidden command) view ∷ [])
    (Did (Asked tag service command))) (sym has)
  where
    ruled : (rule : Option Rule) → asked_answer (unless rule (Asked tag service command))
        ≡ first_rule (rule ∷ []) (Did (Asked tag service command))
    ruled None = refl
    ruled (Some rule) = refl

    go : (view : Option ServiceView) →
        asked_answer (sight_asked tag service command (module_sight (docked count) view))
        ≡ first_rule (not_reported tag service view ∷ option_and_then (forbidden command) view ∷ [])
        (Did (Asked tag service command))
    go None = refl
    go (Some view) = ruled (forbidden command view)
