-- An operator's command is answered alike by two plants that are alike, unless the old one is full.
use Rattle.std.proofs.Common.{◌≡◌, ℕ, Bool, true, false, List, length, refl, sym, ◌∙◌, inl, inr}
use Rattle.mtp_codes.specs.declared.command.Command.{Command}
use Rattle.mtp_codes.specs.declared.limits.TheConstants.{LONGEST_HISTORY}
use Rattle.pol_events.specs.Events.{PlainEvent, desk}
use Rattle.pol_history.specs.Answers.{answer_of, first_rule, is_full, otherwise, rules}
use Rattle.pol_history.specs.Looking.{History, past}
use Rattle.pol_history.proofs.Accepted.{with_room}
use Rattle.pol_removal.proofs.Falling.{fewer_reach}
use Rattle.pol_compaction.specs.Alike.{AnswersAlike, IsSameModule}

module _ (gone : List (List ℕ)) (whole less : History) (alike : AnswersAlike gone whole less)
    (room : is_full whole ≡ false) where
  -- the shorter history isn't full where the whole one isn't
  pub less_room : is_full less ≡ false
  less_room = go (is_full less) refl
    where
      go : (full : Bool) → is_full less ≡ full → is_full less ≡ false
      go false is = is
      go true is =
          let reached = fewer_reach LONGEST_HISTORY (length less) (length whole) alike.running.fewer is in
          let clash : true ≡ false = sym reached ∙ room in cc

  -- so a command has the same answer
  pub command_same : (at : ℕ) (tag service : List ℕ) (command : Command) →
      answer_of less (desk at tag service command) ≡ answer_of whole (desk at tag service command)
  command_same at tag service command =
      with_room less event less_room ∙ go (alike.modules tag) ∙ sym (with_room whole event room)
    where
      event : PlainEvent
      event = desk at tag service command

      go : IsSameModule (past tag whole) (past tag less) →
          first_rule (rules less event) (otherwise less event) ≡ first_rule (rules whole event) (otherwise whole event)
      go (inl away) = rw (away.0, away.1) refl
      go (inr same) = rw (same.stands.docking, same.stands.description, same.control service) refl
