-- The run that is picked is one of this site, with this ledger.
use Rattle.pol_site.specs.PlainSite.{plain_site}
use Rattle.pol_live.proofs.run.run_site.Given as goal

abbrev pub ghosts-run_by_threads-J-Job : goal.ghosts-run_by_threads-J-Job
ghosts-run_by_threads-J-Job g a = record { site = plain_site a.site }

abbrev pub ghosts-run_by_threads-J-Ledger : goal.ghosts-run_by_threads-J-Ledger
ghosts-run_by_threads-J-Ledger g a = record { name = a.blank.name; parts = a.blank.parts }
