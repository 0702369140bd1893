-- What a site says.
use Rattle.pol_site.specs.Sites.{PlainSite}
use Rattle.pol_site.specs.Views.{site_form}
use Rattle.pol_site.specs.declared.site.Site.{Site}

-- a site as plain data
abbrev pub plain_site : Site → PlainSite
plain_site site =
    site_form site.modules.items site.recipes.items site.batches.items site.exchanges.items site.desk.items
