-- Whose an event is, and which actor has a number.
use Rattle.std.proofs.Common.{◌≡◌, ◌+◌, ℕ, suc, zero, Bool, true, false, cond, List, [], ◌∷◌, ◌++◌, length, map}
use Rattle.std.proofs.Common.{reverse, Some, None, refl, ap, sym, ◌∙◌, arith}
use Rattle.std.specs.Prelude.{nat_lt, option_map, position, slice_get}
use Rattle.std.specs.List.{list_any, position_or_len, AllByRecursion}
use Rattle.std.specs.Str.{bytes_eq}
use Rattle.std.proofs.lemmas.Bool.Decides.{nat_tests}
use Rattle.std.proofs.lemmas.List.{map-append, reverse-append}
use Rattle.std.proofs.lemmas.Option.{same_Some}
use Rattle.std.proofs.lemmas.Bool.{or_parts}
use Rattle.mtp_codes.proofs.Names.{same_true, same_refl}
use Rattle.mtp_codes.specs.Repeats.{repeats_by}
use Rattle.mtp_sim.proofs.Edges.{none_at}
use Rattle.pol_events.specs.Events.{PlainEntry}
use Rattle.pol_history.specs.Looking.{History}
use Rattle.pol_site.specs.Actors.{the_exchanger, a_module, a_batch, the_desk, actors, has_batch, has_tag, is_desk}
use Rattle.pol_site.specs.Actors.{is_exchanger, owner_of}
use Rattle.pol_site.specs.Sites.{PlainSite, PlainSiteModule, PlainSiteBatch}
use Rattle.pol_site.specs.Rules.{same_batch, same_tag}
use Rattle.pol_simulated.proofs.Places.{lt_true}
use Rattle.pol_actors.specs.Kept.{AreOwners}

-- ---- the place of the first item that passes

-- the first item
pub position_here : {A : Type 0} (test : A → Bool) (x : A) (xs : List A) → test x ≡ true →
    position test (x ∷ xs) ≡ Some 0
position_here test x xs is =
    rw is (ap (λ b. cond b (Some 0) None) (lt_true 0 (length (x ∷ xs)) (omega arith)))

-- a later one
pub position_later : {A : Type 0} (test : A → Bool) (x : A) (xs : List A) → test x ≡ false →
    position test (x ∷ xs) ≡ option_map suc (position test xs)
position_later {A} test x xs is =
    rw is (go (nat_lt (position_or_len test xs) (length xs)) refl)
  where
    more : (n m : ℕ) (b : Bool) → nat_lt n m ≡ b → nat_lt (1 + n) (suc m) ≡ b
    more n m true is = grind (arith, nat_tests)
    more n m false is = grind (arith, nat_tests)

    go : (b : Bool) → nat_lt (position_or_len test xs) (length xs) ≡ b →
        cond (nat_lt (1 + position_or_len test xs) (length (x ∷ xs))) (Some (1 + position_or_len test xs)) None
        ≡ option_map suc (cond b (Some (position_or_len test xs)) None)
    go b e =
        ap (λ c. cond c (Some (1 + position_or_len test xs)) None) (more (position_or_len test xs) (length xs) b e)
        ∙ by b
      where
        by : (b : Bool) → cond b (Some (1 + position_or_len test xs)) None
            ≡ option_map suc (cond b (Some (position_or_len test xs)) None)
        by true = ap Some (omega arith)
        by false = refl

-- behind items that don't pass
pub position_behind : {A B : Type 0} (test : B → Bool) (change : A → B) (xs : List A) (ys : List B) (place : ℕ) →
    ((item : A) → test (change item) ≡ false) → position test ys ≡ Some place →
    position test (map change xs ++ ys) ≡ Some (length xs + place)
position_behind test change [] ys place none at = at ∙ ap Some (omega arith)
position_behind test change (item ∷ xs) ys place none at =
    position_later test (change item) (map change xs ++ ys) (none item)
    ∙ ap (option_map suc) (position_behind test change xs ys place none at) ∙ ap Some (omega arith)

-- an item whose name no other item has
pub position_named : {A B : Type 0} (name_of : A → List ℕ) (test : B → Bool) (change : A → B) (xs : List A)
    (ys : List B) (place : ℕ) (item : A) →
    ((another : A) → test (change another) ≡ bytes_eq (name_of another) (name_of item)) →
    repeats_by (λ one other. bytes_eq (name_of one) (name_of other)) xs ≡ false → slice_get xs place ≡ Some item →
    position test (map change xs ++ ys) ≡ Some place
position_named name_of test change [] ys place item named unlike at = cc
position_named name_of test change (first ∷ others) ys zero item named unlike at =
    position_here test (change first) (map change others ++ ys)
    (named first ∙ ap (λ each. bytes_eq (name_of each) (name_of item)) (same_Some first item at)
    ∙ same_refl (name_of item))
position_named name_of test change (first ∷ others) ys (suc place) item named unlike at =
    let parts = or_parts (list_any (λ other. bytes_eq (name_of first) (name_of other)) others)
    (repeats_by (λ one other. bytes_eq (name_of one) (name_of other)) others) unlike in
    position_later test (change first) (map change others ++ ys)
    (named first ∙ none_at (λ other. bytes_eq (name_of first) (name_of other)) others place item parts.0 at)
    ∙ ap (option_map suc) (position_named name_of test change others ys place item named parts.1 at)

-- likewise in a list of such items alone
pub position_at : {A : Type 0} (name_of : A → List ℕ) (xs : List A) (place : ℕ) (x : A) (name : List ℕ) →
    repeats_by (λ one other. bytes_eq (name_of one) (name_of other)) xs ≡ false → slice_get xs place ≡ Some x →
    bytes_eq (name_of x) name ≡ true → position (λ each. bytes_eq (name_of each) name) xs ≡ Some place
position_at name_of [] place x name unlike at named = cc
position_at name_of (first ∷ others) zero x name unlike at named =
    position_here (λ each. bytes_eq (name_of each) name) first others
    (ap (λ each. bytes_eq (name_of each) name) (same_Some first x at) ∙ named)
position_at name_of (first ∷ others) (suc place) x name unlike at named =
    let parts = or_parts (list_any (λ other. bytes_eq (name_of first) (name_of other)) others)
    (repeats_by (λ one other. bytes_eq (name_of one) (name_of other)) others) unlike in
    position_later (λ each. bytes_eq (name_of each) name) first others
    (ap (bytes_eq (name_of first)) (sym (same_true (name_of x) name named))
    ∙ none_at (λ other. bytes_eq (name_of first) (name_of other)) others place x parts.0 at)
    ∙ ap (option_map suc) (position_at name_of others place x name parts.1 at named)

-- items at different places have different names
pub names_apart : {A : Type 0} (name_of : A → List ℕ) (xs : List A) (place other : ℕ) (x y : A) →
    repeats_by (λ one other. bytes_eq (name_of one) (name_of other)) xs ≡ false → slice_get xs place ≡ Some x →
    slice_get xs other ≡ Some y → (other ≡ place → ⊥) → bytes_eq (name_of x) (name_of y) ≡ false
names_apart name_of xs place other x y unlike at at' apart = go (bytes_eq (name_of x) (name_of y)) refl
  where
    go : (same : Bool) → bytes_eq (name_of x) (name_of y) ≡ same → same ≡ false
    go false is = refl
    go true is =
        let one = position_at name_of xs place x (name_of y) unlike at is in
        let two = position_at name_of xs other y (name_of y) unlike at' (same_refl (name_of y)) in
        absurd (apart (same_Some other place (sym two ∙ one)))

-- ---- owners

-- the exchanger's
pub owner_exchanger : (site : PlainSite) → position is_exchanger (actors site) ≡ Some 0
owner_exchanger site =
    position_here is_exchanger the_exchanger (map a_module site.modules ++
    (map a_batch site.batches ++ the_desk ∷ [])) refl

-- a module's
pub owner_module : (site : PlainSite) (place : ℕ) (unit : PlainSiteModule) → repeats_by same_tag site.modules ≡ false →
    slice_get site.modules place ≡ Some unit → position (has_tag unit.tag) (actors site) ≡ Some (suc place)
owner_module site place unit unlike at =
    position_later (has_tag unit.tag) the_exchanger
    (map a_module site.modules ++ (map a_batch site.batches ++ the_desk ∷ []))
    refl
    ∙ ap (option_map suc)
    (position_named (λ (each : PlainSiteModule). each.tag) (has_tag unit.tag) a_module site.modules
    (map a_batch site.batches ++ the_desk ∷ []) place unit (λ each. refl) unlike at)

-- a batch's
pub owner_batch : (site : PlainSite) (place : ℕ) (batch : PlainSiteBatch) → repeats_by same_batch site.batches ≡ false →
    slice_get site.batches place ≡ Some batch →
    position (has_batch batch.batch) (actors site) ≡ Some (suc (length site.modules + place))
owner_batch site place batch unlike at =
    position_later (has_batch batch.batch) the_exchanger
    (map a_module site.modules ++ (map a_batch site.batches ++ the_desk ∷ [])) refl
    ∙ ap (option_map suc) (position_behind (has_batch batch.batch) a_module site.modules
    (map a_batch site.batches ++ the_desk ∷ []) place (λ each. refl)
    (position_named (λ (each : PlainSiteBatch). each.batch) (has_batch batch.batch) a_batch site.batches
    (the_desk ∷ []) place batch (λ each. refl) unlike at))

-- the desk's
pub owner_desk : (site : PlainSite) →
    position is_desk (actors site) ≡ Some (suc (length site.modules + (length site.batches + 0)))
owner_desk site =
    position_later is_desk the_exchanger (map a_module site.modules ++ (map a_batch site.batches ++ the_desk ∷ [])) refl
    ∙ ap (option_map suc) (position_behind is_desk a_module site.modules (map a_batch site.batches ++ the_desk ∷ [])
    (length site.batches + 0) (λ each. refl)
    (position_behind is_desk a_batch site.batches (the_desk ∷ []) 0 (λ each. refl)
    (position_here is_desk the_desk [] refl)))

-- one more entry, with its owner
pub owned_more : (site : PlainSite) (older : History) (entry : PlainEntry) (by : List ℕ) (actor : ℕ) →
    owner_of site entry.event ≡ Some actor → AreOwners site older by → AreOwners site (entry ∷ older) (by ++ actor ∷ [])
owned_more site older entry by actor is owned =
    map-append Some by (actor ∷ [])
    ∙ (λ i. owned i ++ sym is i ∷ [])
    ∙ sym (map-append (λ (entry : PlainEntry). owner_of site entry.event) (reverse older) (entry ∷ []))
    ∙ ap (map (λ (entry : PlainEntry). owner_of site entry.event)) (sym (reverse-append (entry ∷ []) older))

-- ---- actors by their numbers

-- a module's number is one more than its place
pub actor_module : (site : PlainSite) (place : ℕ) (unit : PlainSiteModule) → slice_get site.modules place ≡ Some unit →
    slice_get (actors site) (suc place) ≡ Some (a_module unit)
actor_module site place unit at = front site.modules place at
  where
    front : (modules : List PlainSiteModule) (place : ℕ) → slice_get modules place ≡ Some unit →
        slice_get (map a_module modules ++ (map a_batch site.batches ++ the_desk ∷ [])) place ≡ Some (a_module unit)
    front [] place at = cc
    front (first ∷ others) zero at = ap Some (ap a_module (same_Some first unit at))
    front (first ∷ others) (suc place) at = front others place at

-- behind a list
behind : {A B : Type 0} (f : A → B) (xs : List A) (ys : List B) (place : ℕ) →
    slice_get (map f xs ++ ys) (length xs + place) ≡ slice_get ys place
behind f [] ys place = ap (slice_get ys) (omega arith)
behind f (x ∷ xs) ys place =
    let next : suc (length xs) + place ≡ suc (length xs + place) = omega arith in
    ap (slice_get (f x ∷ (map f xs ++ ys))) next ∙ behind f xs ys place

-- a batch's stands behind the modules'
pub actor_batch : (site : PlainSite) (place : ℕ) (batch : PlainSiteBatch) → slice_get site.batches place ≡ Some batch →
    slice_get (actors site) (suc (length site.modules + place)) ≡ Some (a_batch batch)
actor_batch site place batch at =
    behind a_module site.modules (map a_batch site.batches ++ the_desk ∷ []) place ∙ front site.batches place at
  where
    front : (batches : List PlainSiteBatch) (place : ℕ) → slice_get batches place ≡ Some batch →
        slice_get (map a_batch batches ++ the_desk ∷ []) place ≡ Some (a_batch batch)
    front [] place at = cc
    front (first ∷ others) zero at = ap Some (ap a_batch (same_Some first batch at))
    front (first ∷ others) (suc place) at = front others place at

-- the desk's is the last
pub actor_desk : (site : PlainSite) →
    slice_get (actors site) (suc (length site.modules + (length site.batches + 0))) ≡ Some the_desk
actor_desk site =
    behind a_module site.modules (map a_batch site.batches ++ the_desk ∷ []) (length site.batches + 0)
    ∙ behind a_batch site.batches (the_desk ∷ []) 0

-- what holds of the item at each place holds of all items
pub all_from : {A : Type 0} (P : A → Type 0) (xs : List A) →
    ((place : ℕ) (x : A) → slice_get xs place ≡ Some x → P x) → AllByRecursion P xs
all_from P [] each = tt
all_from P (x ∷ xs) each = (each 0 x refl, all_from P xs (λ place y at. each (suc place) y at))
