-- What each question asks, or why a line is none: its first fault in reading order.
use Rattle.std.specs.Prelude.{◌≡◌, ℕ, List, Option, Bool, true, codes, Result, Ok, Err, is_some}
use Rattle.serde_json.specs.Data.{Data}
use Rattle.mtp_codes.specs.declared.limits.TheConstants.{LONGEST_HISTORY}
use Rattle.mtp_json.specs.Form.{required, optional, object_here, nothing_but}
use Rattle.mtp_json.specs.Leaf.{anything, count, name, word}
use Rattle.mtp_json.specs.Parse.{json_of}
use Rattle.mtp_json.specs.ReadResult.{ReadResult, ◌>>=◌, here}
use Rattle.mtp_json.specs.ReadsAs.{seen}
use Rattle.pol_events.specs.Orderly.{is_orderly}
use Rattle.event_json.specs.declared.fault.LineFault.{LineFault}
use Rattle.event_json.specs.declared.fault.LineFault.TheVariants.{Json}
use Rattle.event_json.specs.declared.fault.LineRefusal.{LineRefusal}
use Rattle.event_json.specs.Guarded.{is_desk}
use Rattle.event_json.specs.Lines.{TellsAs}
use Rattle.named_lines.specs.Named.{PlainNamed, named_in, of_named, plain_named}
use Rattle.question_lines.specs.declared.kind.AskKind.{AskKind}
use Rattle.question_lines.specs.declared.kind.AskKind.TheVariants as kind
use Rattle.question_lines.specs.declared.question.Question.{Question}
use Rattle.question_lines.specs.declared.question.Question.TheVariants.{Would, Plant, Bindings, Entries}
use Rattle.question_lines.specs.Words.{ask_words}

-- what a line asks: what an event would be answered, with who gives it, or its fault; what is in the plant, and what a
-- person may command there; how recipes could be bound; the entries from a place on, and how many at most
pub data PlainQuestion : Type 0 where
  would : (said : Result PlainNamed LineFault) → PlainQuestion
  plant : (person : Option (List ℕ)) → PlainQuestion
  bindings : PlainQuestion
  entries : (from : ℕ) (most : Option ℕ) → PlainQuestion

-- an event that is asked about is as a line says it: a recipe's chart is valid, a start's binds are in order
abbrev pub asks_orderly : PlainQuestion → Bool
asks_orderly (would (Ok named)) = is_orderly named.event
asks_orderly _ = true

-- a command of the desk that is asked about names a person
abbrev pub AsksNamed : PlainQuestion → Type 0
AsksNamed (would (Ok named)) = is_desk named.event ≡ true → is_some named.person ≡ true
AsksNamed _ = Unit {0}

-- what contracts see of a question
abbrev pub plain_question : Question → PlainQuestion
plain_question (Would said) = would (seen plain_named said)
plain_question (Plant person) = plant person
plain_question Bindings = bindings
plain_question (Entries from most) = entries from most

-- ---- the forms

-- what an event would be answered: a fault of the event is no fault of the question
unfoldable pub would_in : Data → ReadResult PlainQuestion
would_in value =
    required (codes "event") anything value >>= λ event.
    nothing_but (codes "ask event") value >>= λ _.
    Ok (would (of_named (named_in event)))

-- what is in the plant, and what a person may command there, or anybody
unfoldable pub plant_in : Data → ReadResult PlainQuestion
plant_in value =
    optional (codes "by") name value >>= λ person.
    nothing_but (codes "ask by") value >>= λ _.
    Ok (plant person)

-- how recipes could be bound
unfoldable pub bindings_in : Data → ReadResult PlainQuestion
bindings_in value =
    nothing_but (codes "ask") value >>= λ _.
    Ok bindings

-- the entries from a place on, at most so many
unfoldable pub entries_in : Data → ReadResult PlainQuestion
entries_in value =
    required (codes "from") (count 0 LONGEST_HISTORY) value >>= λ from.
    optional (codes "most") (count 0 LONGEST_HISTORY) value >>= λ most.
    nothing_but (codes "ask from most") value >>= λ _.
    Ok (entries from most)

-- a question of this kind
abbrev pub question_by : Data → AskKind → ReadResult PlainQuestion
question_by value kind.Would = would_in value
question_by value kind.Plant = plant_in value
question_by value kind.Bindings = bindings_in value
question_by value kind.Entries = entries_in value

-- a question: `ask` names its kind, and then come the fields of this kind
unfoldable pub question_in : Data → ReadResult PlainQuestion
question_in value =
    object_here value >>= λ _.
    required (codes "ask") (word ask_words) value >>= λ kind.
    question_by value kind

-- ---- lines

-- what the bytes of a line are read as
abbrev pub question_read_of : List ℕ → ReadResult PlainQuestion
question_read_of line = here (json_of line) >>= question_in

-- what was read, with its fault as a fault of the line
abbrev pub of_question : ReadResult PlainQuestion → Result PlainQuestion LineFault
of_question (Ok question) = Ok question
of_question (Err fault) = Err (Json fault)

-- what a line that isn't too long asks, or the line's first fault
unfoldable pub question_of : List ℕ → Result PlainQuestion LineFault
question_of line = of_question (question_read_of line)

-- the result is what the line asks
abbrev pub TellsQuestion : Result Question LineRefusal → Result PlainQuestion LineFault → Type 0
TellsQuestion result said = TellsAs plain_question result said
