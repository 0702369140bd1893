-- Whose each event of the small site is.
use Rattle.std.specs.Prelude.{◌≡◌, codes, false, Some, None}
use Rattle.std.proofs.Common.{refl}
use Rattle.pol_events.specs.Events.{unplug, freeze, advance}
use Rattle.pol_site.specs.Actors.{owner_of}
use Rattle.pol_site.proofs.SampleSite.{site, tag, batch, known, plugged, idle, valued, started, sent, begun, ended}
use Rattle.pol_site.proofs.SampleSite.{ordered}

-- recipes, modules and exchanges are of the exchanger, which has the number 0
of_the_exchanger : (owner_of site known.event ≡ Some 0) × (owner_of site plugged.event ≡ Some 0)
of_the_exchanger = (refl, refl)

of_the_exchanger_too : (owner_of site begun.event ≡ Some 0) × (owner_of site ended.event ≡ Some 0)
of_the_exchanger_too = (refl, refl)

-- reports and values are of the module, starts and advances of the batch, commands of the desk
of_the_module : (owner_of site idle.event ≡ Some 1) × (owner_of site (valued 0).event ≡ Some 1)
of_the_module = (refl, refl)

of_the_batch : (owner_of site started.event ≡ Some 2) × (owner_of site sent.event ≡ Some 2)
of_the_batch = (refl, refl)

of_the_desk : owner_of site ordered.event ≡ Some 3
of_the_desk = refl

-- other kinds, and events of a batch that the site lacks, are of nobody
of_nobody : (owner_of site (unplug 20 tag) ≡ None) × (owner_of site (freeze 20 batch false) ≡ None)
of_nobody = (refl, refl)

of_no_batch : owner_of site (advance 20 (codes "bb")) ≡ None
of_no_batch = refl
