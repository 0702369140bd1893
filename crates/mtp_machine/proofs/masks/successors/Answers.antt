-- Each arm has the mask of its state.
use Rattle.std.proofs.Common.{ap, sym}
use Rattle.mtp_machine.specs.Machine.{is_edge}
use Rattle.mtp_machine.specs.Masks.{successor_mask}
use Rattle.mtp_machine.proofs.masks.successors.Goals as goal

pub returns-in-Stopped : goal.returns-in-Stopped
unfolding successor_mask is_edge
returns-in-Stopped c = sym (ap successor_mask c.in-Stopped.is)

pub returns-in-Starting : goal.returns-in-Starting
unfolding successor_mask is_edge
returns-in-Starting c = sym (ap successor_mask c.in-Starting.is)

pub returns-in-Idle : goal.returns-in-Idle
unfolding successor_mask is_edge
returns-in-Idle c = sym (ap successor_mask c.in-Idle.is)

pub returns-in-Paused : goal.returns-in-Paused
unfolding successor_mask is_edge
returns-in-Paused c = sym (ap successor_mask c.in-Paused.is)

pub returns-in-Execute : goal.returns-in-Execute
unfolding successor_mask is_edge
returns-in-Execute c = sym (ap successor_mask c.in-Execute.is)

pub returns-in-Stopping : goal.returns-in-Stopping
unfolding successor_mask is_edge
returns-in-Stopping c = sym (ap successor_mask c.in-Stopping.is)

pub returns-in-Aborting : goal.returns-in-Aborting
unfolding successor_mask is_edge
returns-in-Aborting c = sym (ap successor_mask c.in-Aborting.is)

pub returns-in-Aborted : goal.returns-in-Aborted
unfolding successor_mask is_edge
returns-in-Aborted c = sym (ap successor_mask c.in-Aborted.is)

pub returns-in-Holding : goal.returns-in-Holding
unfolding successor_mask is_edge
returns-in-Holding c = sym (ap successor_mask c.in-Holding.is)

pub returns-in-Held : goal.returns-in-Held
unfolding successor_mask is_edge
returns-in-Held c = sym (ap successor_mask c.in-Held.is)

pub returns-in-Unholding : goal.returns-in-Unholding
unfolding successor_mask is_edge
returns-in-Unholding c = sym (ap successor_mask c.in-Unholding.is)

pub returns-in-Pausing : goal.returns-in-Pausing
unfolding successor_mask is_edge
returns-in-Pausing c = sym (ap successor_mask c.in-Pausing.is)

pub returns-in-Resuming : goal.returns-in-Resuming
unfolding successor_mask is_edge
returns-in-Resuming c = sym (ap successor_mask c.in-Resuming.is)

pub returns-in-Resetting : goal.returns-in-Resetting
unfolding successor_mask is_edge
returns-in-Resetting c = sym (ap successor_mask c.in-Resetting.is)

pub returns-in-Completing : goal.returns-in-Completing
unfolding successor_mask is_edge
returns-in-Completing c = sym (ap successor_mask c.in-Completing.is)

pub returns-in-Completed : goal.returns-in-Completed
unfolding successor_mask is_edge
returns-in-Completed c = sym (ap successor_mask c.in-Completed.is)
