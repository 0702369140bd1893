-- Which steps a bound module plays: those of the role that its tag is bound to.
use Rattle.std.proofs.Common.{◌≡◌, ℕ, Bool, true, false, List, Option, Some, None, refl, ap, sym, ◌∙◌}
use Rattle.std.specs.Prelude.{find, option_map}
use Rattle.std.specs.List.{Contains}
use Rattle.std.specs.Str.{bytes_eq}
use Rattle.mtp_codes.specs.Names.{same_name}
use Rattle.mtp_codes.proofs.Names.{same_true, same_refl}
use Rattle.pol_events.specs.Bound.{bound_tag, bound_role, ArePaired, is_tag}
use Rattle.pol_events.specs.declared.event.Bind.{Bind}
use Rattle.pol_events.proofs.Lists.{found_member, none_found}
use Rattle.pol_events.proofs.Options.{no_image}

-- the bind by which a name is bound, looked up by one of its two names
found_bind : (key value : Bind → List ℕ) (binds : List Bind) (name bound : List ℕ) →
    option_map value (find (λ bind. bytes_eq (key bind) name) binds) ≡ Some bound →
    (bind : Bind) × Contains binds bind × (key bind ≡ name) × (value bind ≡ bound)
found_bind key value binds name bound is = go (find (λ bind. bytes_eq (key bind) name) binds) refl is
  where
    go : (found : Option Bind) → find (λ bind. bytes_eq (key bind) name) binds ≡ found →
        option_map value found ≡ Some bound →
        (bind : Bind) × Contains binds bind × (key bind ≡ name) × (value bind ≡ bound)
    go None looked is = cc
    go (Some bind) looked is =
        let member = found_member (λ bind. bytes_eq (key bind) name) binds bind looked in
        (bind, member.0, same_true (key bind) name member.1, cc)

-- the bind of a tag that plays a role
bind_of : (binds : List Bind) (tag role : List ℕ) → bound_role binds tag ≡ Some role →
    (bind : Bind) × Contains binds bind × (bind.tag ≡ tag) × (bind.role ≡ role)
bind_of binds tag role bound = found_bind (λ bind. bind.tag) (λ bind. bind.role) binds tag role bound

-- the bind of a role that has a tag
pub bind_for : (binds : List Bind) (role tag : List ℕ) → bound_tag binds role ≡ Some tag →
    (bind : Bind) × Contains binds bind × (bind.tag ≡ tag) × (bind.role ≡ role)
bind_for binds role tag bound =
    let (bind, inside, role_is, tag_is) = found_bind (λ bind. bind.role) (λ bind. bind.tag) binds role tag bound in
    (bind, inside, tag_is, role_is)

-- the tag of a role is that of a bind
pub bound_member : (binds : List Bind) (role tag : List ℕ) → bound_tag binds role ≡ Some tag →
    (bind : Bind) × Contains binds bind × (bind.tag ≡ tag)
bound_member binds role tag bound =
    let (bind, inside, tag_is, role_is) = bind_for binds role tag bound in (bind, inside, tag_is)

-- a role that has the tag is the one that the tag is bound to
role_is_bound : (binds : List Bind) (tag role other : List ℕ) → ArePaired binds → bound_role binds tag ≡ Some role →
    bound_tag binds other ≡ Some tag →
    other ≡ role
role_is_bound binds tag role other paired bound has =
    let (bind, inside, tag_is, role_is) = bind_for binds other tag has in
    let told : Some bind.role ≡ Some role = sym (paired.by_tag bind inside) ∙ ap (bound_role binds) tag_is ∙ bound in
    let same : bind.role ≡ role = cc in
    sym role_is ∙ same

-- and the other way round
tag_is_bound : (binds : List Bind) (tag role : List ℕ) → ArePaired binds → bound_role binds tag ≡ Some role →
    bound_tag binds role ≡ Some tag
tag_is_bound binds tag role paired bound =
    let (bind, inside, tag_is, role_is) = bind_of binds tag role bound in
    ap (bound_tag binds) (sym role_is) ∙ paired.by_role bind inside ∙ ap Some tag_is

-- where the tag is bound to a role, a step is on the module just where it is of the role
pub plays : (binds : List Bind) (tag role : List ℕ) → ArePaired binds → bound_role binds tag ≡ Some role →
    (other : List ℕ) →
    is_tag tag (bound_tag binds other) ≡ same_name other role
plays binds tag role paired bound other = ends (same_name other role) refl (bound_tag binds other) refl
  where
    ends : (same : Bool) → same_name other role ≡ same → (has : Option (List ℕ)) → bound_tag binds other ≡ has →
        is_tag tag has ≡ same
    ends true same has here =
        let one : other ≡ role = same_true other role same in
        let found : has ≡ Some tag = sym here ∙ ap (bound_tag binds) one ∙ tag_is_bound binds tag role paired bound in
        ap (is_tag tag) found ∙ same_refl tag
    ends false apart None here = refl
    ends false apart (Some has) here = differs (same_name has tag) refl
      where
        differs : (same : Bool) → same_name has tag ≡ same → same ≡ false
        differs false same = refl
        differs true same =
            let one : other ≡ role = role_is_bound binds tag role other paired bound
            (here ∙ ap Some (same_true has tag same)) in
            sym (same_refl role) ∙ ap (λ name. same_name name role) (sym one) ∙ apart

-- where the tag is bound to no role, no step is on the module
pub plays_none : (binds : List Bind) (tag : List ℕ) → bound_role binds tag ≡ None → (other : List ℕ) →
    is_tag tag (bound_tag binds other) ≡ false
plays_none binds tag none other = go (bound_tag binds other) refl
  where
    go : (has : Option (List ℕ)) → bound_tag binds other ≡ has → is_tag tag has ≡ false
    go None is = refl
    go (Some has) is = differs (same_name has tag) refl
      where
        differs : (same : Bool) → same_name has tag ≡ same → same ≡ false
        differs false same = refl
        differs true same =
            let (bind, inside, bind_tag) = bound_member binds other has is in
            sym (same_refl tag) ∙ ap (λ name. same_name name tag) (sym (bind_tag ∙ same_true has tag same))
            ∙ none_found (λ bind. bytes_eq bind.tag tag) binds bind
            (no_image (λ bind. bind.role) (find (λ bind. bytes_eq bind.tag tag) binds) none) inside
