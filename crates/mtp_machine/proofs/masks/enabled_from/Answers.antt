-- Each arm has the mask of its state.
use Rattle.std.proofs.Common.{ap, sym}
use Rattle.mtp_machine.specs.Machine.{enabled_mask}
use Rattle.mtp_machine.proofs.masks.enabled_from.Goals as goal

pub returns-in-Stopped : goal.returns-in-Stopped
unfolding enabled_mask
returns-in-Stopped c = sym (ap enabled_mask c.in-Stopped.is)

pub returns-in-Starting : goal.returns-in-Starting
unfolding enabled_mask
returns-in-Starting c = sym (ap enabled_mask c.in-Starting.is)

pub returns-in-Idle : goal.returns-in-Idle
unfolding enabled_mask
returns-in-Idle c = sym (ap enabled_mask c.in-Idle.is)

pub returns-in-Paused : goal.returns-in-Paused
unfolding enabled_mask
returns-in-Paused c = sym (ap enabled_mask c.in-Paused.is)

pub returns-in-Execute : goal.returns-in-Execute
unfolding enabled_mask
returns-in-Execute c = sym (ap enabled_mask c.in-Execute.is)

pub returns-in-Stopping : goal.returns-in-Stopping
unfolding enabled_mask
returns-in-Stopping c = sym (ap enabled_mask c.in-Stopping.is)

pub returns-in-Aborting : goal.returns-in-Aborting
unfolding enabled_mask
returns-in-Aborting c = sym (ap enabled_mask c.in-Aborting.is)

pub returns-in-Aborted : goal.returns-in-Aborted
unfolding enabled_mask
returns-in-Aborted c = sym (ap enabled_mask c.in-Aborted.is)

pub returns-in-Holding : goal.returns-in-Holding
unfolding enabled_mask
returns-in-Holding c = sym (ap enabled_mask c.in-Holding.is)

pub returns-in-Held : goal.returns-in-Held
unfolding enabled_mask
returns-in-Held c = sym (ap enabled_mask c.in-Held.is)

pub returns-in-Unholding : goal.returns-in-Unholding
unfolding enabled_mask
returns-in-Unholding c = sym (ap enabled_mask c.in-Unholding.is)

pub returns-in-Pausing : goal.returns-in-Pausing
unfolding enabled_mask
returns-in-Pausing c = sym (ap enabled_mask c.in-Pausing.is)

pub returns-in-Resuming : goal.returns-in-Resuming
unfolding enabled_mask
returns-in-Resuming c = sym (ap enabled_mask c.in-Resuming.is)

pub returns-in-Resetting : goal.returns-in-Resetting
unfolding enabled_mask
returns-in-Resetting c = sym (ap enabled_mask c.in-Resetting.is)

pub returns-in-Completing : goal.returns-in-Completing
unfolding enabled_mask
returns-in-Completing c = sym (ap enabled_mask c.in-Completing.is)

pub returns-in-Completed : goal.returns-in-Completed
unfolding enabled_mask
returns-in-Completed c = sym (ap enabled_mask c.in-Completed.is)
