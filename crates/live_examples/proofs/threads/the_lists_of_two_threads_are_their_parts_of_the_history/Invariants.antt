-- The run that is picked is one of this site, with this ledger.
use Rattle.pol_site.specs.PlainSite.{plain_site}
use Rattle.live_examples.proofs.threads.the_lists_of_two_threads_are_their_parts_of_the_history.Given as goal

abbrev pub ghosts-two_threads-J-Job : goal.ghosts-two_threads-J-Job
ghosts-two_threads-J-Job g a = record { site = plain_site a.site }

abbrev pub ghosts-two_threads-J-Ledger : goal.ghosts-two_threads-J-Ledger
ghosts-two_threads-J-Ledger g a = record { name = a.blank.name; parts = a.blank.parts }
