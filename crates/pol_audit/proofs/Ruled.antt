-- Rules by what is kept of a docking: not how often the module was docked.
use Rattle.std.proofs.Common.{◌≡◌, ℕ, List, not, ◌==◌, Some, None, refl}
use Rattle.mtp_codes.specs.Faults.{when}
use Rattle.pol_events.specs.declared.answer.Rule.TheVariants.{NoModule, InExchange, NotInExchange, WrongTicket}
use Rattle.pol_events.specs.declared.answer.Rule.TheVariants.{TagTaken}
use Rattle.pol_events.specs.Refusals.{in_exchange, wrong_ticket}
use Rattle.pol_history.specs.Modules as modules
use Rattle.pol_history.specs.Rules.{no_module, not_in_exchange, tag_taken}
use Rattle.pol_audit.specs.Dockings.{docking_seen}
use Rattle.pol_audit.specs.declared.modules.Docking.{Docking}
use Rattle.pol_audit.specs.declared.modules.Docking.TheVariants.{Absent, Docked, Away}

-- one value where nothing is there, one where a module is docked, and one for the ticket of a module that is away
abbrev by_docking : {A : Type 0} → A → A → (ℕ → A) → Docking → A
by_docking absent docked away Absent = absent
by_docking absent docked away Docked = docked
by_docking absent docked away (Away ticket) = away ticket

-- a tag is taken where its module is seen docked or away
pub taken_is : (docking : modules.Docking)
    → tag_taken docking ≡ by_docking None (Some TagTaken) (λ ticket. Some TagTaken) (docking_seen docking)
taken_is modules.absent = refl
taken_is (modules.docked count) = refl
taken_is (modules.away ticket) = refl

-- there is no module where none is seen docked or away
pub no_module_is : (tag : List ℕ) (docking : modules.Docking)
    → no_module tag docking ≡ by_docking (Some (NoModule tag)) None (λ ticket. None) (docking_seen docking)
no_module_is tag modules.absent = refl
no_module_is tag (modules.docked count) = refl
no_module_is tag (modules.away ticket) = refl

-- a module is in exchange where it is seen away, with the ticket of that exchange
pub in_exchange_is : (tag : List ℕ) (docking : modules.Docking)
    → in_exchange tag (modules.ticket_of docking)
    ≡ by_docking None None (λ ticket. Some (InExchange tag ticket)) (docking_seen docking)
in_exchange_is tag modules.absent = refl
in_exchange_is tag (modules.docked count) = refl
in_exchange_is tag (modules.away ticket) = refl

-- a module is not in exchange where it is seen docked
pub not_in_exchange_is : (docking : modules.Docking)
    → not_in_exchange docking ≡ by_docking None (Some NotInExchange) (λ ticket. None) (docking_seen docking)
not_in_exchange_is modules.absent = refl
not_in_exchange_is (modules.docked count) = refl
not_in_exchange_is (modules.away ticket) = refl

-- a ticket is wrong where the module is seen away with another one
pub wrong_ticket_is : (given : ℕ) (docking : modules.Docking)
    → wrong_ticket given (modules.ticket_of docking)
    ≡ by_docking None None (λ kept. when (not (kept == given)) (WrongTicket kept given)) (docking_seen docking)
wrong_ticket_is given modules.absent = refl
wrong_ticket_is given (modules.docked count) = refl
wrong_ticket_is given (modules.away ticket) = refl
