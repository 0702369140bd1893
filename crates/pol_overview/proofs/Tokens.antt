-- Tokens of what is told of a plant.
use Rattle.std.proofs.Common.{◌≡◌, ◌∙◌, ℕ, Bool, List, [], ◌∷◌, ◌++◌, ap, append_assoc, codes, refl}
use Rattle.json.specs.Token as token
use Rattle.json.specs.Token.{Token}
use Rattle.serde_json.specs.Data.{Data}
use Rattle.event_json.specs.Written.{whole}
use Rattle.pol_record.specs.Objects.{data_tokens}
use Rattle.pol_record.specs.Texts.{under_key}
use Rattle.pol_overview.specs.Batches.{back_tokens, closed_object, front_tokens, open_object}
use Rattle.pol_overview.specs.Modules.{control_object, module_object, service_object, variable_object}
use Rattle.pol_overview.specs.Overview.{plant_object}
use Rattle.pol_overview.specs.Steps.{active_object, unheld_object, waiting_object}

-- parts one after another behind other tokens, grouped from the front
abbrev onto : List Token → List (List Token) → List Token
onto old [] = old
onto old (part ∷ parts) = onto (old ++ part) parts

-- parts one after another in front of other tokens, grouped from the end
abbrev before : List (List Token) → List Token → List Token
before [] rest = rest
before (part ∷ parts) rest = part ++ before parts rest

-- parts may be grouped from either end
grouped : (old : List Token) (parts : List (List Token)) (last : List Token) →
    onto old parts ++ last ≡ old ++ before parts last
grouped old [] last = refl
grouped old (part ∷ parts) last = grouped (old ++ part) parts last ∙ append_assoc old part (before parts last)

-- tokens behind the last of some parts are behind all of them
behind : (parts : List (List Token)) (last rest : List Token) → before parts last ++ rest ≡ before parts (last ++ rest)
behind [] last rest = refl
behind (part ∷ parts) last rest =
    append_assoc part (before parts last) rest ∙ ap (λ tokens. part ++ tokens) (behind parts last rest)

-- a bracket, five fields and a bracket behind other tokens are the tokens of what a service reported
pub control_tokens : (old : List Token) (mask : ℕ) (mode : List ℕ) (procedure : ℕ) (origin : List ℕ) (state : ℕ) →
    ((((((old ++ token.begin_object ∷ [])
    ++ token.key (codes "CommandEn") ∷ data_tokens (whole mask))
    ++ token.key (codes "Mode") ∷ token.string mode ∷ [])
    ++ token.key (codes "ProcedureCur") ∷ data_tokens (whole procedure))
    ++ token.key (codes "Src") ∷ token.string origin ∷ [])
    ++ token.key (codes "StateCur") ∷ data_tokens (whole state))
    ++ token.end_object
    ∷ []
    ≡ old ++ data_tokens (control_object mask mode procedure origin state)
unfolding control_object
control_tokens old mask mode procedure origin state =
    grouped old ((token.begin_object ∷ []) ∷ (token.key (codes "CommandEn") ∷ data_tokens (whole mask))
    ∷ (token.key (codes "Mode") ∷ token.string mode ∷ [])
    ∷ (token.key (codes "ProcedureCur") ∷ data_tokens (whole procedure))
    ∷ (token.key (codes "Src") ∷ token.string origin ∷ []) ∷ (token.key (codes "StateCur") ∷ data_tokens (whole state))
    ∷ []) (token.end_object ∷ [])

-- so are those of a service
pub service_tokens : (old : List Token) (may : ℕ) (name : List ℕ) (view : Data) →
    (((((old ++ token.begin_object ∷ [])
    ++ token.key (codes "may") ∷ data_tokens (whole may))
    ++ token.key (codes "name") ∷ token.string name ∷ [])
    ++ token.key (codes "view") ∷ [])
    ++ data_tokens view)
    ++ token.end_object
    ∷ []
    ≡ old ++ data_tokens (service_object may name view)
unfolding service_object
service_tokens old may name view = simp append_assoc refl

-- those of a variable
pub variable_tokens : (old : List Token) (name : List ℕ) (value : Data) →
    ((((old ++ token.begin_object ∷ [])
    ++ token.key (codes "name") ∷ token.string name ∷ [])
    ++ token.key (codes "value") ∷ [])
    ++ data_tokens value)
    ++ token.end_object
    ∷ []
    ≡ old ++ data_tokens (variable_object name value)
unfolding variable_object
variable_tokens old name value = simp append_assoc refl

-- those of a module
pub module_tokens : (old : List Token) (holder services : Data) (tag : List ℕ) (ticket : Data) (kind : List ℕ)
    (values : Data) (version : List ℕ) (watchers : Data) →
    ((((((((((((((old ++ token.begin_object ∷ [])
    ++ token.key (codes "holder") ∷ [])
    ++ data_tokens holder)
    ++ token.key (codes "services") ∷ [])
    ++ data_tokens services)
    ++ token.key (codes "tag") ∷ token.string tag ∷ [])
    ++ token.key (codes "ticket") ∷ [])
    ++ data_tokens ticket)
    ++ token.key (codes "type") ∷ token.string kind ∷ [])
    ++ token.key (codes "values") ∷ [])
    ++ data_tokens values)
    ++ token.key (codes "version") ∷ token.string version ∷ [])
    ++ token.key (codes "watchers") ∷ [])
    ++ data_tokens watchers)
    ++ token.end_object
    ∷ []
    ≡ old ++ data_tokens (module_object holder services tag ticket kind values version watchers)
unfolding module_object
module_tokens old holder services tag ticket kind values version watchers = simp append_assoc refl

-- those of a batch that is closed
pub closed_tokens : (old : List Token) (batch : List ℕ) (held : Data) (outcome recipe : List ℕ) (watched : Data) →
    ((((((old ++ token.begin_object ∷ [])
    ++ token.key (codes "batch") ∷ token.string batch ∷ [])
    ++ token.key (codes "bind") ∷ data_tokens held)
    ++ token.key (codes "outcome") ∷ token.string outcome ∷ [])
    ++ token.key (codes "recipe") ∷ token.string recipe ∷ [])
    ++ token.key (codes "watch") ∷ data_tokens watched)
    ++ token.end_object
    ∷ []
    ≡ old ++ data_tokens (closed_object batch held outcome recipe watched)
unfolding closed_object
closed_tokens old batch held outcome recipe watched =
    grouped old ((token.begin_object ∷ []) ∷ (token.key (codes "batch") ∷ token.string batch ∷ [])
    ∷ (token.key (codes "bind") ∷ data_tokens held) ∷ (token.key (codes "outcome") ∷ token.string outcome ∷ [])
    ∷ (token.key (codes "recipe") ∷ token.string recipe ∷ []) ∷ (token.key (codes "watch") ∷ data_tokens watched) ∷ [])
    (token.end_object ∷ [])

-- those of an active step
pub active_tokens : (old : List Token) (service step tag : List ℕ) (view : Data) →
    ((((((old ++ token.begin_object ∷ [])
    ++ token.key (codes "service") ∷ token.string service ∷ [])
    ++ token.key (codes "step") ∷ token.string step ∷ [])
    ++ token.key (codes "tag") ∷ token.string tag ∷ [])
    ++ token.key (codes "view") ∷ [])
    ++ data_tokens view)
    ++ token.end_object
    ∷ []
    ≡ old ++ data_tokens (active_object service step tag view)
unfolding active_object
active_tokens old service step tag view = simp append_assoc refl

-- those of a step that a hold doesn't reach
pub unheld_tokens : (old : List Token) (by step tag : List ℕ) →
    ((((old ++ token.begin_object ∷ [])
    ++ token.key (codes "by") ∷ token.string by ∷ [])
    ++ token.key (codes "step") ∷ token.string step ∷ [])
    ++ token.key (codes "tag") ∷ token.string tag ∷ [])
    ++ token.end_object
    ∷ []
    ≡ old ++ data_tokens (unheld_object by step tag)
unfolding unheld_object
unheld_tokens old by step tag = simp append_assoc refl

-- those of an awaited node
pub waiting_tokens : (old : List Token) (node : ℕ) (obstacle : Data) →
    ((((old ++ token.begin_object ∷ [])
    ++ token.key (codes "node") ∷ data_tokens (whole node))
    ++ token.key (codes "obstacle") ∷ [])
    ++ data_tokens obstacle)
    ++ token.end_object
    ∷ []
    ≡ old ++ data_tokens (waiting_object node obstacle)
unfolding waiting_object
waiting_tokens old node obstacle = simp append_assoc refl

-- the first fields of a batch that is open, but for the last of them
abbrev front_parts : Data → List ℕ → Data → Data → List (List Token)
front_parts active batch held hold =
    (token.key (codes "active") ∷ []) ∷ data_tokens active
    ∷ (token.key (codes "batch") ∷ token.string batch ∷ []) ∷ (token.key (codes "bind") ∷ data_tokens held)
    ∷ (token.key (codes "hold") ∷ []) ∷ data_tokens hold ∷ (token.key (codes "next") ∷ []) ∷ []

-- the last fields of a batch that is open, but for the last of all
abbrev back_parts : List ℕ → Bool → Data → Data → List (List Token)
back_parts recipe stopping unheld waits =
    (token.key (codes "outcome") ∷ token.string (codes "Running") ∷ [])
    ∷ (token.key (codes "recipe") ∷ token.string recipe ∷ []) ∷ (token.key (codes "stopping") ∷ [])
    ∷ (token.boolean stopping ∷ []) ∷ (token.key (codes "unheld") ∷ []) ∷ data_tokens unheld
    ∷ (token.key (codes "waits") ∷ []) ∷ data_tokens waits ∷ []

-- the first fields of a batch that is open, one behind the other
pub front_grouped : (old : List Token) (active : Data) (batch : List ℕ) (held hold next : Data) →
    (((((((old ++ token.key (codes "active") ∷ [])
    ++ data_tokens active)
    ++ token.key (codes "batch") ∷ token.string batch ∷ [])
    ++ token.key (codes "bind") ∷ data_tokens held)
    ++ token.key (codes "hold") ∷ [])
    ++ data_tokens hold)
    ++ token.key (codes "next") ∷ [])
    ++ data_tokens next
    ≡ old ++ front_tokens active batch held hold next
front_grouped old active batch held hold next =
    grouped old (front_parts active batch held hold) (data_tokens next)

-- and its last ones
pub back_grouped : (old : List Token) (recipe : List ℕ) (stopping : Bool) (unheld waits watched : Data) →
    ((((((((old ++ token.key (codes "outcome") ∷ token.string (codes "Running") ∷ [])
    ++ token.key (codes "recipe") ∷ token.string recipe ∷ [])
    ++ token.key (codes "stopping") ∷ [])
    ++ token.boolean stopping ∷ [])
    ++ token.key (codes "unheld") ∷ [])
    ++ data_tokens unheld)
    ++ token.key (codes "waits") ∷ [])
    ++ data_tokens waits)
    ++ token.key (codes "watch") ∷ data_tokens watched
    ≡ old ++ back_tokens recipe stopping unheld waits watched
back_grouped old recipe stopping unheld waits watched =
    grouped old (back_parts recipe stopping unheld waits) (token.key (codes "watch") ∷ data_tokens watched)

-- a bracket, these fields and a bracket behind other tokens are the tokens of a batch that is open
pub open_tokens : (old : List Token) (active : Data) (batch : List ℕ) (held hold next : Data) (recipe : List ℕ)
    (stopping : Bool) (unheld waits watched : Data) →
    (((old ++ token.begin_object ∷ [])
    ++ front_tokens active batch held hold next)
    ++ back_tokens recipe stopping unheld waits watched)
    ++ token.end_object
    ∷ []
    ≡ old ++ data_tokens (open_object active batch held hold next recipe stopping unheld waits watched)
unfolding open_object
open_tokens old active batch held hold next recipe stopping unheld waits watched =
    let front = front_tokens active batch held hold next in
    let back = back_tokens recipe stopping unheld waits watched in
    grouped old ((token.begin_object ∷ []) ∷ front ∷ back ∷ []) (token.end_object ∷ [])
    ∙ ap (λ tokens. old ++ (token.begin_object ∷ (front ++ tokens)))
    (behind (back_parts recipe stopping unheld waits) (token.key (codes "watch") ∷ data_tokens watched)
    (token.end_object ∷ []))
    ∙ ap (λ tokens. old ++ (token.begin_object ∷ tokens))
    (behind (front_parts active batch held hold) (data_tokens next) _)

-- those of a plant, under its key
pub plant_tokens : (old : List Token) (batches : Data) (begun : List ℕ) (entries : ℕ) (modules near recipes : Data)
    (sum : List ℕ) →
    ((((((((((((((((old ++ token.begin_object ∷ [])
    ++ token.key (codes "plant") ∷ [])
    ++ token.begin_object ∷ [])
    ++ token.key (codes "batches") ∷ [])
    ++ data_tokens batches)
    ++ token.key (codes "begun") ∷ token.string begun ∷ [])
    ++ token.key (codes "entries") ∷ [])
    ++ data_tokens (whole entries))
    ++ token.key (codes "modules") ∷ [])
    ++ data_tokens modules)
    ++ token.key (codes "near") ∷ [])
    ++ data_tokens near)
    ++ token.key (codes "recipes") ∷ [])
    ++ data_tokens recipes)
    ++ token.key (codes "sum") ∷ token.string sum ∷ [])
    ++ token.end_object ∷ [])
    ++ token.end_object
    ∷ []
    ≡ old ++ data_tokens (under_key (codes "plant") (plant_object batches begun entries modules near recipes sum))
unfolding under_key plant_object
plant_tokens old batches begun entries modules near recipes sum = simp append_assoc refl
