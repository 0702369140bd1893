-- The idle services of a description, one after the other.
use Rattle.std.proofs.Common.{◌≡◌, ◌<◌, ◌+◌, ℕ, Bool, true, false, cond, List, [], ◌∷◌, ◌++◌, length, map, get_or, drop}
use Rattle.std.proofs.Common.{refl, sym, ◌∙◌, ap, append_assoc, add-one}
use Rattle.std.specs.Prelude.{filter}
use Rattle.std.proofs.Math.Seq.{drop-cons}
use Rattle.mtp_desc.specs.PlainService.{plain_service}
use Rattle.mtp_desc.specs.declared.service.Service.{Service}
use Rattle.pol_history.specs.Looking.{History}
use Rattle.pol_find.specs.Candidates.{is_idle_at}

-- those of these services that are idle at the tag
abbrev pub idle_of : History → List ℕ → List Service → List (List ℕ)
idle_of history tag services =
    filter (is_idle_at history tag) (map (λ service. service.name) (map plain_service services))

-- one more service is looked at, and told where it is idle
pub idle_next : (history : History) (tag : List ℕ) (services : List Service) (at : ℕ) (service : Service)
    (before after total : List (List ℕ)) → at < length services → service ≡ get_or services at service →
    before ++ idle_of history tag (drop at services) ≡ total →
    after ≡ (cond (is_idle_at history tag service.name) (before ++ service.name ∷ []) before) →
    after ++ idle_of history tag (drop (at + 1) services) ≡ total
idle_next history tag services at service before after total low here all told =
    ap (λ done. done ++ idle_of history tag (drop (at + 1) services)) told
    ∙ go (is_idle_at history tag service.name)
    ∙ ap (λ left. before ++ idle_of history tag left) (sym cut)
    ∙ all
  where
    cut : drop at services ≡ service ∷ drop (at + 1) services
    cut = rw (add-one, drop-cons services at service low, ← here) refl

    go : (idle : Bool) →
        cond idle (before ++ service.name ∷ []) before ++ idle_of history tag (drop (at + 1) services)
        ≡ before ++ cond idle (service.name ∷ idle_of history tag (drop (at + 1) services))
        (idle_of history tag (drop (at + 1) services))
    go true = append_assoc before (service.name ∷ []) (idle_of history tag (drop (at + 1) services))
    go false = refl
