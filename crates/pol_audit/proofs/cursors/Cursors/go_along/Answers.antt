-- The cursor of the batch goes along in its place.
use Rattle.std.proofs.Common.{◌∙◌, ap, refl, subst, sym}
use Rattle.std.specs.Map.{lookup}
use Rattle.std.specs.Option.{option_copied_mut}
use Rattle.std.specs.Str.{bytes_eq}
use Rattle.pol_history.proofs.Names.{written}
use Rattle.pol_audit.specs.Followed.{AreFollowed}
use Rattle.pol_audit.specs.declared.cursors.Followed.{Followed}
use Rattle.pol_audit.proofs.Followed.{followed_grows, unfollowed_grows}
use Rattle.pol_audit.proofs.cursors.Cursors.go_along.Goals as goal

pub returns-in-Some : goal.returns-in-Some
returns-in-Some c = λ recipes before after followed grows.
    let named = c.args.self.now.followed.entries in
    let was = c.in-Some.followed.now in
    let own : Followed = record { recipe = was.recipe; cursor = c.go_along.new.self } in
    let found = sym c.get_mut.ensures.value ∙ ap option_copied_mut c.in-Some.is in
    followed_grows named _ c.args.batch c.args.did.now was own recipes before after found refl
    c.go_along.ensures.chart c.go_along.ensures.log
    (λ other. ap (lookup (bytes_eq other)) (c.get_mut.follows.holds own).0
    ∙ written c.args.batch other named was own found)
    followed grows

pub returns-in_default : goal.returns-in_default
returns-in_default c = λ recipes before after followed grows.
    subst (λ named. AreFollowed named.entries recipes after) (sym c.get_mut.follows.holds-at-none)
    (unfollowed_grows c.args.self.now.followed.entries c.args.batch c.args.did.now recipes before after
    (sym c.get_mut.ensures.value ∙ ap option_copied_mut c.in_default.is) followed grows)
