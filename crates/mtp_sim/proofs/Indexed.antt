-- The index of a module's services by their names.
use Rattle.std.proofs.Common.{◌≡◌, ℕ, suc, zero, ◌+◌, ◌<◌, Bool, true, false, List, [], ◌∷◌, length, take, map, get_or}
use Rattle.std.proofs.Common.{Some, refl, ap, sym, ◌∙◌, true≢false, arith}
use Rattle.std.specs.Prelude.{◌||◌, slice_get, slice_set, position, option_map}
use Rattle.std.specs.List.{list_any}
use Rattle.std.specs.Str.{bytes_eq}
use Rattle.std.proofs.Math.Seq.{take-suc}
use Rattle.std.proofs.lemmas.Option.{same_Some, slice_get-get_or, slice_get-map, slice_get_within}
use Rattle.std.proofs.lemmas.Option.{get_or_from_slice_get}
use Rattle.std.proofs.lemmas.Slice.Eq.{bytes_eq-Decides}
use Rattle.std.proofs.lemmas.Bool.{or_parts}
use Rattle.indexmap.specs.IndexSet.{insert_key}
use Rattle.mtp_codes.specs.Repeats.{repeats_by}
use Rattle.mtp_codes.proofs.Repeats.{repeats_map}
use Rattle.mtp_desc.proofs.Views.{position_map}
use Rattle.mtp_desc.specs.Plain.{PlainDescription, PlainService, same_service}
use Rattle.mtp_desc.specs.PlainService.{plain_service}
use Rattle.mtp_desc.specs.declared.service.Service.{Service}
use Rattle.mtp_sim.specs.Sims.{first_service}
use Rattle.mtp_sim.specs.declared.service.SimService.{SimService}
use Rattle.mtp_codes.specs.declared.command.Command.{Command}
use Rattle.mtp_sim.specs.Commands.{service_took}
use Rattle.mtp_sim.specs.Kept.{IsIndexed}
use Rattle.mtp_sim.specs.Ticks.{is_untold, service_ticked}
use Rattle.mtp_sim.proofs.Edges.{firsts_next, name_taken, name_ticked, next_taken_at, next_ticked_at, none_at}

-- the names of services in their order
abbrev names : List Service → List (List ℕ)
names services = map (λ service. service.name) (map plain_service services)

-- two names are one, or aren't, either way round
turned : (one other : List ℕ) → bytes_eq one other ≡ bytes_eq other one
turned one other = go (bytes_eq one other) refl (bytes_eq other one) refl
  where
    go : (same : Bool) → bytes_eq one other ≡ same → (back : Bool) → bytes_eq other one ≡ back → same ≡ back
    go false is false was = refl
    go true is true was = refl
    go false is true was =
        let again : bytes_eq one other ≡ true = (bytes_eq-Decides one other).1
        (sym ((bytes_eq-Decides other one).0 was)) in
        absurd (true≢false (sym again ∙ is))
    go true is false was =
        let again : bytes_eq other one ≡ true = (bytes_eq-Decides other one).1 (sym ((bytes_eq-Decides one other).0 is))
        in
        absurd (true≢false (sym again ∙ was))

-- where no name is there twice, the one at a place isn't among those before it
fresh : (names : List (List ℕ)) (i : ℕ) (name : List ℕ) → slice_get names i ≡ Some name
    → repeats_by bytes_eq names ≡ false →
    list_any (bytes_eq name) (take i names) ≡ false
fresh [] i name at unlike = cc
fresh (first ∷ others) zero name at unlike = refl
fresh (first ∷ others) (suc i) name at unlike =
    let parts = or_parts (list_any (bytes_eq first) others) (repeats_by bytes_eq others) unlike in
    rw (turned name first, none_at (bytes_eq first) others i name parts.0 at, fresh others i name at parts.1) refl

-- the names of the first services are the first names
front_named : (services : List Service) (i : ℕ) → names (take i services) ≡ take i (names services)
front_named [] zero = refl
front_named [] (suc i) = refl
front_named (service ∷ others) zero = refl
front_named (service ∷ others) (suc i) = ap (λ rest. service.name ∷ rest) (front_named others i)

-- the name at a place is put behind those before it
pushed : (names : List (List ℕ)) (i : ℕ) (name : List ℕ) → slice_get names i ≡ Some name
    → repeats_by bytes_eq names ≡ false →
    insert_key bytes_eq (take i names) name ≡ take (i + 1) names
pushed names i name at unlike =
    let next : i + 1 ≡ suc i = omega arith in
    rw (
      next,
      fresh names i name at unlike,
      take-suc names i name (slice_get_within names i name at),
      get_or_from_slice_get names i name name at,
    ) refl

-- so is the name of the next service of a description, where no two services are of one name
pub next_named : (services : List Service) (i : ℕ) (service : Service)
    → repeats_by same_service (map plain_service services) ≡ false
    → i < length services → service ≡ get_or services i service →
    insert_key bytes_eq (names (take i services)) service.name ≡ names (take (i + 1) services)
next_named services i service unlike within is =
    let at : slice_get services i ≡ Some service = slice_get-get_or services i service within ∙ ap Some (sym is) in
    let named : slice_get (names services) i ≡ Some service.name =
    slice_get-map (λ form. form.name) (map plain_service services) i ∙ ap (option_map (λ form. form.name))
    (slice_get-map plain_service services i)
    ∙ ap (λ found. option_map (λ form. form.name) (option_map plain_service found)) at in
    let once : repeats_by bytes_eq (names services) ≡ false =
    repeats_map (λ form. form.name) bytes_eq (map plain_service services) ∙ unlike in
    rw (front_named services i, front_named services (i + 1)) (pushed (names services) i service.name named once)

-- the names of the services at first
pub first_named : (services : List PlainService) →
    map (λ service. service.name) (map (λ service. first_service service.name) services) ≡ map (λ service. service.name)
    services
first_named [] = refl
first_named (service ∷ others) = ap (λ rest. service.name ∷ rest) (first_named others)

-- a service that is put in place of one of its name leaves the names
pub named_set : (services : List SimService) (place : ℕ) (old new : SimService) → slice_get services place ≡ Some old
    → new.name ≡ old.name →
    map (λ service. service.name) (slice_set services place new) ≡ map (λ service. service.name) services
named_set [] place old new at same = refl
named_set (first ∷ others) zero old new at same =
    ap (λ name. name ∷ map (λ service. service.name) others)
    (same ∙ sym (ap (λ service. service.name) (same_Some first old at)))
named_set (first ∷ others) (suc place) old new at same =
    ap (λ rest. first.name ∷ rest) (named_set others place old new at same)

-- the place of a name is that of the service of this name
pub place_named : (services : List SimService) (name : List ℕ) →
    position (bytes_eq name) (map (λ service. service.name) services) ≡ position (λ service. bytes_eq service.name name)
    services
place_named services name =
    position_map (λ service. service.name) (bytes_eq name) services ∙
    (λ j. position (λ service. turned name service.name j) services)

-- a module at first keeps its index and its services
pub kept_first : (names : List (List ℕ)) (services : List PlainService)
    → names ≡ map (λ service. service.name) services →
    IsIndexed names (map (λ service. first_service service.name) services)
kept_first names services named = record { indexed = named ∙ sym (first_named services); next = firsts_next services }

-- so does a tick that looks at the service at a place
pub kept_ticked : (names : List (List ℕ)) (d : PlainDescription) (limit : ℕ) (services : List SimService) (place : ℕ)
    (s : SimService)
    → IsIndexed names services → slice_get services place ≡ Some s
    → IsIndexed names (slice_set services place (service_ticked d limit s))
kept_ticked names d limit services place s kept at =
    record {
      indexed = kept.indexed ∙ sym (named_set services place s (service_ticked d limit s) at (name_ticked d limit s));
      next = next_ticked_at d limit services place s kept.next at;
    }

-- and a command that the service at a place takes, where each state was reported
pub kept_taken : (names : List (List ℕ)) (d : PlainDescription) (services : List SimService) (place : ℕ)
    (s : SimService)
    (command : Command)
    (procedure : ℕ) (after : SimService) → list_any is_untold services ≡ false → IsIndexed names services
    → slice_get services place ≡ Some s
    → service_took d s command procedure ≡ Some after → IsIndexed names (slice_set services place after)
kept_taken names d services place s command procedure after calm kept at took =
    record {
      indexed = kept.indexed ∙ sym (named_set services place s after at (name_taken d s command procedure after took));
      next = next_taken_at d services place s command procedure after calm kept.next at took;
    }
