-- The run that is picked is one of this site, with this ledger.
use Rattle.pol_site.specs.PlainSite.{plain_site}
use Rattle.pol_live.proofs.run.run_in_turn.Given as goal

abbrev pub ghosts-run_by_turns-J-Job : goal.ghosts-run_by_turns-J-Job
ghosts-run_by_turns-J-Job g a = record { site = plain_site a.site }

abbrev pub ghosts-run_by_turns-J-Ledger : goal.ghosts-run_by_turns-J-Ledger
ghosts-run_by_turns-J-Ledger g a = record { name = a.blank.name; parts = a.blank.parts }
