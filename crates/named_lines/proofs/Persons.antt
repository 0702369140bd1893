-- Whoever is said to give an event is whom `by` names.
use Rattle.std.proofs.Common.{◌≡◌, ℕ, Bool, List, true, false, Option, Some, None, Err, Ok, rules, refl}
use Rattle.std.specs.Prelude.{codes, IfOk, option_and_then, if◌then◌else◌}
use Rattle.serde_json.specs.Data.{Data}
use Rattle.serde_json.specs.Find.{as_str, get}
use Rattle.mtp_codes.specs.Names.{is_name}
use Rattle.mtp_json.specs.declared.fault.FaultKind.TheVariants.{OutOfRange}
use Rattle.mtp_json.specs.Form.{if_present, optional, present, required, some_found}
use Rattle.mtp_json.specs.Leaf.{name, name_in}
use Rattle.mtp_json.specs.Parse.{json_of}
use Rattle.mtp_json.specs.ReadResult.{Finding, ReadResult, ◌>>=◌, here, under}
use Rattle.chart_core.specs.declared.fault.ChartFault.{ChartFault}
use Rattle.chart_json.proofs.Told.{any_before, told_before}
use Rattle.pol_events.specs.Events.{PlainEvent}
use Rattle.event_json.specs.declared.kind.EventKind.{EventKind}
use Rattle.event_json.specs.Forms.{event_in}
use Rattle.event_json.specs.Guarded.{is_desk_kind}
use Rattle.event_json.specs.Lines.{fault_within, unless_faulty}
use Rattle.named_lines.specs.Lines.{found_at, value_at}
use Rattle.named_lines.specs.Named.{PlainNamed, given_by, named_in, named_of, of_named}
use Rattle.named_lines.specs.Named.{person_in, person_of, some_person}
use Rattle.named_lines.specs.Without.{without}

-- the text that is at a key, if there is one
abbrev text_of : Option Data → Option (List ℕ)
text_of found = option_and_then as_str found

-- who has to be named is the text
must_at : (found : Option Data) → IfOk (some_person (under (codes "by") (here (present name found))))
    (λ person. person ≡ text_of found)
must_at None = tt
must_at (Some value) = go (as_str value)
  where
    kept : (is : Bool) (bytes : List ℕ)
        → IfOk (some_person (under (codes "by") (here (if is then Ok bytes else Err OutOfRange))))
        (λ person. person ≡ Some bytes)
    kept true bytes = refl
    kept false bytes = tt

    go : (text : Option (List ℕ)) → IfOk (some_person (under (codes "by") (here (name_in text))))
        (λ person. person ≡ text)
    go None = tt
    go (Some bytes) = kept (is_name bytes) bytes

-- who may be named is the text, if there is one
may_at : (found : Option Data) → IfOk (under (codes "by") (here (if_present name found)))
    (λ person. person ≡ text_of found)
may_at None = refl
may_at (Some value) = go (as_str value)
  where
    kept : (is : Bool) (bytes : List ℕ)
        → IfOk (under (codes "by") (here (some_found (if is then Ok bytes else Err OutOfRange))))
        (λ person. person ≡ Some bytes)
    kept true bytes = refl
    kept false bytes = tt

    go : (text : Option (List ℕ)) → IfOk (under (codes "by") (here (some_found (name_in text))))
        (λ person. person ≡ text)
    go None = tt
    go (Some bytes) = kept (is_name bytes) bytes

-- the person is whom the value names at `by`
abbrev IsPerson : Data → Option (List ℕ) → Type 0
IsPerson value person = person ≡ text_of (get (codes "by") value)

-- who gives an event of this kind
person_named : (value : Data) (kind : EventKind) → IfOk (person_of value kind) (IsPerson value)
person_named value kind = go (is_desk_kind kind)
  where
    go : (is : Bool)
        → IfOk (if is then some_person (required (codes "by") name value) else optional (codes "by") name value)
        (IsPerson value)
    go true = must_at (get (codes "by") value)
    go false = may_at (get (codes "by") value)

-- who gives what a value says
giver_named : (value : Data) → IfOk (person_in value) (IsPerson value)
unfolding person_in
giver_named value = search (rules, person_named, any_before)

-- an event of this person
event_named : (value : Data) (read : ReadResult PlainEvent) (person : Option (List ℕ)) → IsPerson value person
    → IfOk (given_by person read) (λ named. IsPerson value named.person)
event_named value (Ok event) person is = is
event_named value (Err fault) person is = tt

-- what a value says
value_named : (value : Data) → IfOk (named_in value) (λ named. IsPerson value named.person)
unfolding named_in
value_named value =
    told_before (IsPerson value) (λ named. IsPerson value named.person) (person_in value)
    (λ person. given_by person (event_in (without (codes "by") value))) (giver_named value)
    (event_named value (event_in (without (codes "by") value)))

-- what was read and has no fault in its chart
valid_named : (value : Data) (found named : PlainNamed) (fault : Option ChartFault) → IsPerson value found.person
    → unless_faulty found fault ≡ Ok named → IsPerson value named.person
valid_named value found named None person is = let same : found ≡ named = cc in rw (← same) person
valid_named value found named (Some fault) person is = absurd cc

-- what was found of a line
found_named : (found : Finding Data) (named : PlainNamed) → of_named (here found >>= named_in) ≡ Ok named
    → named.person ≡ text_of (found_at (codes "by") found)
found_named (Err kind) named is = absurd cc
found_named (Ok value) named is = go (named_in value) (value_named value) is
  where
    go : (read : ReadResult PlainNamed) → IfOk read (λ named. IsPerson value named.person) → of_named read ≡ Ok named
        → IsPerson value named.person
    go (Ok found) person is = valid_named value found named (fault_within found.event) person is
    go (Err fault) person is = absurd cc

-- whoever is said to give an event is whom `by` names
pub line_named : (line : List ℕ) (named : PlainNamed) → named_of line ≡ Ok named
    → named.person ≡ text_of (value_at (codes "by") line)
unfolding named_of
line_named line named is = found_named (json_of line) named is
