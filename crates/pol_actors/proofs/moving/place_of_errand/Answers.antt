use Rattle.std.proofs.Common.{◌∙◌, ap, sym}
use Rattle.std.specs.Prelude.{option_and_then, position}
use Rattle.std.specs.Str.{bytes_eq}
use Rattle.mtp_desc.proofs.Views.{position_map}
use Rattle.pol_site.specs.Sites.{PlainSiteModule}
use Rattle.pol_site.specs.PlainSite.{plain_site}
use Rattle.pol_site.specs.Views.{plain_module}
use Rattle.pol_site.specs.declared.parts.SiteModule.{SiteModule}
use Rattle.pol_actors.specs.Moved.{place_of_tag}
use Rattle.pol_actors.proofs.moving.place_of_errand.Goals as goal

pub returns : goal.returns
returns c =
    let tag = c.in_ok-tag.tag in
    let site = c.args.site.now in
    c.place_of.ensures ∙ ap (position (λ (unit : SiteModule). bytes_eq unit.tag tag)) c.deref.ensures.value
    ∙ sym (position_map plain_module (λ (unit : PlainSiteModule). bytes_eq unit.tag tag) site.modules.items)
    ∙ ap (option_and_then (place_of_tag (plain_site site))) (sym c.in_ok-tag.was ∙ c.tag.ensures)
