-- What the lists of seats are to the history that a run left.
use Rattle.std.specs.Prelude.{ℕ, suc, ◌≡◌, ◌≢◌, ◌<◌, ◌⊎◌, ◌==◌, ◌+◌, ◌++◌, true, List, [], ◌∷◌, length, nat_lt, Option}
use Rattle.std.specs.Prelude.{Some, None, slice_get, if◌then◌else◌}
use Rattle.std.specs.List.{AllByRecursion}
use Rattle.pol_events.specs.Events.{plain_history}
use Rattle.pol_events.specs.declared.answer.Answer.{Answer}
use Rattle.pol_events.specs.declared.event.Entry.{Entry}
use Rattle.pol_history.specs.Runs.{IsLegal, IsOrderly}
use Rattle.pol_site.specs.Commanded.{IsCommanded}
use Rattle.pol_site.specs.Following.{FollowsSite}
use Rattle.pol_site.specs.Sites.{PlainSite}
use Rattle.pol_actors.specs.Kept.{AreOwners}
use Rattle.pol_live.specs.Seats.{Seated}
use Rattle.pol_live.specs.declared.turned.Placed.{Placed}

-- ---- the history that a run left

-- the history is legal and orderly, follows the site, each change in it has its command, and these made its entries
pub record IsRun (site : PlainSite) (entries : List Entry) (makers : List ℕ) : Type 0 where
  pub legal : IsLegal (plain_history entries)
  pub orderly : IsOrderly (plain_history entries)
  pub follows : FollowsSite site (plain_history entries)
  pub commanded : IsCommanded (plain_history entries)
  pub owned : AreOwners site (plain_history entries) makers

-- ---- a list that is right

-- what an actor made of these entries, the oldest first, the first of which stands at this place, by their makers
abbrev pub made_from : ℕ → ℕ → List ℕ → List Entry → List Placed
made_from actor place [] entries = []
made_from actor place (maker ∷ makers) [] = []
made_from actor place (maker ∷ makers) (entry ∷ entries) =
    if maker == actor
    then record { place = place; answer = entry.answer } ∷ made_from actor (suc place) makers entries
    else made_from actor (suc place) makers entries

-- a seat's list is exactly its actor's part of the history
abbrev pub IsOwnPart : List ℕ → List Entry → Seated → Type 0
IsOwnPart makers entries seat = seat.list ≡ made_from seat.actor 0 makers entries

-- each seat's list is exactly its actor's part of the history
abbrev pub AreOwnParts : List ℕ → List Entry → List Seated → Type 0
AreOwnParts makers entries seats = AllByRecursion (IsOwnPart makers entries) seats

-- the list has some of what the actor made, in their order
abbrev pub IsPart : ℕ → ℕ → List ℕ → List Entry → List Placed → Type 0
IsPart actor place [] entries list = list ≡ []
IsPart actor place (maker ∷ makers) [] list = list ≡ []
IsPart actor place (maker ∷ makers) (entry ∷ entries) list =
    ((rest : List Placed) × (list ≡ record { place = place; answer = entry.answer } ∷ rest) × ((maker == actor) ≡ true)
    × IsPart actor (suc place) makers entries rest)
    ⊎ IsPart actor (suc place) makers entries list

-- each seat's list has some of what its actor made
abbrev pub AreParts : List ℕ → List Entry → List Seated → Type 0
AreParts makers entries seats =
    AllByRecursion (λ (seat : Seated). IsPart seat.actor 0 makers entries seat.list) seats

-- how many entries the seats made in all
abbrev pub made_in_all : List Seated → ℕ
made_in_all [] = 0
made_in_all (seat ∷ seats) = length seat.list + made_in_all seats

-- ---- a list that strayed

-- the least place that may come after these pairs
abbrev pub least_after : ℕ → List Placed → ℕ
least_after least [] = least
least_after least (placed ∷ list) = least_after (suc placed.place) list

-- the answer of an entry, if its maker is the actor
abbrev pub answer_by : ℕ → Option ℕ → Option Entry → Option Answer
answer_by actor maker None = None
answer_by actor None (Some entry) = None
answer_by actor (Some maker) (Some entry) = if maker == actor then Some entry.answer else None

-- the answer that the history has for an actor at a place, if that isn't below the least place that may come
abbrev pub kept_at : ℕ → List ℕ → List Entry → ℕ → ℕ → Option Answer
kept_at actor makers entries least place =
    if nat_lt place least then None else answer_by actor (slice_get makers place) (slice_get entries place)

-- an actor's list has a pair that the history doesn't have for it there, the first such pair
pub record IsStrayIn (makers : List ℕ) (entries : List Entry) (actor : ℕ) (list : List Placed) (place : ℕ)
    (kept : Option Answer) (given : Answer) : Type 0 where
  pub before : List Placed
  pub behind : List Placed
  pub listed : list ≡ before ++ record { place = place; answer = given } ∷ behind
  pub part : IsPart actor 0 makers entries before
  pub kept_is : kept ≡ kept_at actor makers entries (least_after 0 before) place
  pub differs : kept ≢ Some given

-- the list of an actor's seat has a pair that the history doesn't have for the actor there, the first such seat
pub record IsStray (makers : List ℕ) (entries : List Entry) (seats : List Seated) (actor place : ℕ)
    (kept : Option Answer) (given : Answer) : Type 0 where
  pub seat : Seated
  pub who : slice_get seats actor ≡ Some seat
  pub first :
      (earlier : ℕ) (each : Seated) → earlier < actor → slice_get seats earlier ≡ Some each →
      IsPart each.actor 0 makers entries each.list
  pub stray : IsStrayIn makers entries actor seat.list place kept given
