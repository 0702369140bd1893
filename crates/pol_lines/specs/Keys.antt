-- The keys of flat members.
use Rattle.std.specs.Prelude.{◌≡◌, ℕ, List, [], ◌∷◌, ◌++◌, None, codes}
use Rattle.mtp_json.specs.Leaf.{meaning_of}
use Rattle.pol_lines.specs.declared.key.Key.{Key}
use Rattle.pol_lines.specs.declared.key.Key.TheVariants.{At, Ev, Tag, Name, Value, Service, Batch, By, Ticket}
use Rattle.pol_lines.specs.declared.key.Key.TheVariants.{StateCur, CommandEn, CommandOp, Mode, Src, ProcedureCur}
use Rattle.pol_lines.specs.declared.key.Key.TheVariants.{Role, TypeName, Version, Step, Procedure, Recipe, Kind, Min, Max}
use Rattle.pol_lines.specs.declared.key.Key.TheVariants.{Number, IsDefault, SelfCompleting, Test, Op}

-- the text of a key
abbrev pub key_text : Key → List ℕ
key_text At = codes "at"
key_text Ev = codes "ev"
key_text Tag = codes "tag"
key_text Name = codes "name"
key_text Value = codes "value"
key_text Service = codes "service"
key_text Batch = codes "batch"
key_text By = codes "by"
key_text Ticket = codes "ticket"
key_text StateCur = codes "StateCur"
key_text CommandEn = codes "CommandEn"
key_text CommandOp = codes "CommandOp"
key_text Mode = codes "Mode"
key_text Src = codes "Src"
key_text ProcedureCur = codes "ProcedureCur"
key_text Role = codes "role"
key_text TypeName = codes "type"
key_text Version = codes "version"
key_text Step = codes "step"
key_text Procedure = codes "procedure"
key_text Recipe = codes "recipe"
key_text Kind = codes "kind"
key_text Min = codes "min"
key_text Max = codes "max"
key_text Number = codes "number"
key_text IsDefault = codes "default"
key_text SelfCompleting = codes "self_completing"
key_text Test = codes "test"
key_text Op = codes "op"

-- a name as a line writes it in front of a value: in quotes, with a colon
abbrev pub quoted : List ℕ → List ℕ
quoted name = 34 ∷ (name ++ 34 ∷ 58 ∷ [])

-- a key as a line writes it
abbrev pub key_piece : Key → List ℕ
key_piece key = quoted (key_text key)

-- the keys with their texts
abbrev pub key_rows : List (List ℕ × Key)
key_rows =
    (key_text At, At) ∷ (key_text Ev, Ev) ∷ (key_text Tag, Tag) ∷ (key_text Name, Name) ∷ (key_text Value, Value)
    ∷ (key_text Service, Service) ∷ (key_text Batch, Batch) ∷ (key_text By, By) ∷ (key_text Ticket, Ticket)
    ∷ (key_text StateCur, StateCur)
    ∷ (key_text CommandEn, CommandEn) ∷ (key_text CommandOp, CommandOp) ∷ (key_text Mode, Mode) ∷ (key_text Src, Src)
    ∷ (key_text ProcedureCur, ProcedureCur) ∷ (key_text Role, Role) ∷ (key_text TypeName, TypeName) ∷
    (key_text Version, Version)
    ∷ (key_text Step, Step) ∷ (key_text Procedure, Procedure) ∷ (key_text Recipe, Recipe) ∷ (key_text Kind, Kind)
    ∷ (key_text Min, Min) ∷ (key_text Max, Max) ∷ (key_text Number, Number) ∷ (key_text IsDefault, IsDefault)
    ∷ (key_text SelfCompleting, SelfCompleting) ∷ (key_text Test, Test) ∷ (key_text Op, Op) ∷ []

-- a name that is no key of a flat member
abbrev pub IsNoKey : List ℕ → Type 0
IsNoKey name = meaning_of name key_rows ≡ None
