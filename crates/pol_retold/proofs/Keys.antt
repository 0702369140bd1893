-- A text that begins with another key is no entry.
use Rattle.std.proofs.Common.{◌≡◌, [], ◌∷◌, ◌++◌, ℕ, List, Bool, true, false, true≢false, Option, Some, None, Ok, Err}
use Rattle.std.proofs.Common.{refl, sym, ◌∙◌, if◌then◌else◌, codes, Ordering, Less, Equal, Greater}
use Rattle.std.specs.Prelude.{option_and_then, option_map, ◌&&◌}
use Rattle.std.specs.Ordering.{match_ordering, nat_cmp}
use Rattle.std.specs.Cmp.Lexicographic.{slice_cmp}
use Rattle.std.specs.Result.{result_ok}
use Rattle.std.specs.Str.{is_utf8}
use Rattle.json.specs.Token as token
use Rattle.json.specs.Token.{Token}
use Rattle.json.specs.Lex.{tokens}
use Rattle.json.specs.Json as json
use Rattle.json.specs.Tree.{json_tokens}
use Rattle.json.proofs.Unique.Spelling.{value-json_tokens_back}
use Rattle.serde_json.specs.Data.{Data, object, Members, no_members, member, put}
use Rattle.serde_json.specs.Read.{max_depth, of_json, of_members, read}
use Rattle.mtp_json.specs.Form.{all_listed, is_listed, nested, nothing_but}
use Rattle.mtp_json.specs.Parse.{json_of, or_not_json}
use Rattle.mtp_json.specs.ReadResult.{ReadResult, ◌>>=◌, here}
use Rattle.mtp_json.specs.declared.fault.FaultKind.TheVariants.{NotJson, Unknown}
use Rattle.pol_events.specs.Events.{PlainEvent}
use Rattle.pol_events.specs.declared.answer.Answer.{Answer}
use Rattle.event_json.specs.Forms.{event_in}
use Rattle.pol_entries.specs.Answers.{answer_form}
use Rattle.pol_entries.specs.Entries.{entry_form, entry_of, of_line}

-- the keys of an entry
abbrev entry_keys : List ℕ
entry_keys = codes "answer event"

-- ---- members that have another key

-- a key that isn't listed stays so, behind or before one that is put among the members
put_other : (keys key : List ℕ) (value : Data) (members : Members) → all_listed keys members ≡ false
    → all_listed keys (put key value members) ≡ false
put_other keys key value no_members other = absurd (true≢false other)
put_other keys key value (member own inner rest) other =
    go (slice_cmp nat_cmp key own) refl (put_other keys key value rest)
  where
    false_behind : (listed : Bool) → (listed && false) ≡ false
    false_behind true = refl
    false_behind false = refl

    behind : (listed all later : Bool) → (listed && all) ≡ false → (all ≡ false → later ≡ false)
        → (listed && later) ≡ false
    behind true all later is further = further is
    behind false all later is further = refl

    go : (order : Ordering) → slice_cmp nat_cmp key own ≡ order
        → (all_listed keys rest ≡ false → all_listed keys (put key value rest) ≡ false)
        → all_listed keys (match_ordering order (member key value (member own inner rest)) (member own value rest)
        (member own inner (put key value rest))) ≡ false
    go Less is further = rw other (false_behind (is_listed keys key))
    go Equal is further = other
    go Greater is further =
        behind (is_listed keys own) (all_listed keys rest) (all_listed keys (put key value rest)) other further

-- a key that isn't listed stays among the members where further ones are read
read_other : (keys : List ℕ) (further : json.Members) (members found : Members) → all_listed keys members ≡ false
    → of_members further members ≡ Some found → all_listed keys found ≡ false
read_other keys json.no_members members found other is =
    let same : members ≡ found = cc in rw (← same) other
read_other keys (json.member key inner further) members found other is =
    go (of_json inner) is
    (λ value. read_other keys further (put key value members) found (put_other keys key value members other))
  where
    go : (value : Option Data) →
        option_and_then (λ value. of_members further (put key value members)) value ≡ Some found
        → ((value : Data) → of_members further (put key value members) ≡ Some found → all_listed keys found ≡ false)
        → all_listed keys found ≡ false
    go None is later = absurd cc
    go (Some value) is later = later value is

-- ---- what is read of a text that begins so

-- the text begins with an object whose first key is this
pub record Begins (key text : List ℕ) : Type 0 where
  pub behind : List Token
  pub is : tokens text ≡ token.begin_object ∷ token.key key ∷ behind

-- the value is an object that has a key that isn't listed
record HasOther (keys : List ℕ) (value : Data) : Type 0 where
  members : Members
  is : value ≡ object members
  other : all_listed keys members ≡ false

-- an object whose first key is another one has it
first_other : (keys key : List ℕ) (read : json.Json) (behind : List Token) (value : Data) → is_listed keys key ≡ false
    → token.begin_object ∷ token.key key ∷ behind ≡ json_tokens read ++ [] → of_json read ≡ Some value
    → HasOther keys value
first_other keys key json.null behind value other starts is = absurd cc
first_other keys key (json.boolean b) behind value other starts is = absurd cc
first_other keys key (json.number n) behind value other starts is = absurd cc
first_other keys key (json.string s) behind value other starts is = absurd cc
first_other keys key (json.array items) behind value other starts is = absurd cc
first_other keys key (json.object json.no_members) behind value other starts is = absurd cc
first_other keys key (json.object (json.member own inner rest)) behind value other starts is =
    let same : key ≡ own = cc in go (of_json inner) (rw (← same) other) is
  where
    found_in : (first : Data) (found : Option Members) → of_members rest (put own first no_members) ≡ found
        → is_listed keys own ≡ false → option_map object found ≡ Some value → HasOther keys value
    found_in first None read other is = absurd cc
    found_in first (Some members) read other is =
        let same : value ≡ object members = cc in
        record {
          members = members;
          is = same;
          other = read_other keys rest (member own first no_members) members (rw other refl) read;
        }

    go : (first : Option Data) → is_listed keys own ≡ false
        → option_map object (option_and_then (λ first. of_members rest (put own first no_members)) first) ≡ Some value
        → HasOther keys value
    go None other is = absurd cc
    go (Some first) other is = found_in first (of_members rest (put own first no_members)) refl other is

-- the value of a text that begins with another key has that key
reads_other : (keys key text : List ℕ) (value : Data) → is_listed keys key ≡ false → Begins key text
    → read text ≡ Some value → HasOther keys value
reads_other keys key text value other begins is =
    go (json.value max_depth (tokens text)) refl is
  where
    go : (found : Option (json.Json × List Token)) → json.value max_depth (tokens text) ≡ found
        → option_and_then of_json (option_and_then (λ pair. json.if_last pair.0 pair.1) found) ≡ Some value
        → HasOther keys value
    go None read is = absurd cc
    go (Some (whole, token ∷ more)) read is = absurd cc
    go (Some (whole, [])) read is =
        first_other keys key whole begins.behind value other
        (sym begins.is ∙ value-json_tokens_back max_depth (tokens text) [] whole read) is

-- ---- it is no entry

-- an object that has another key is none
form_other : (value : Data) → HasOther entry_keys value → result_ok (of_line (entry_form value)) ≡ None
unfolding entry_form
form_other value has =
    rw has.is
    (by (nested (codes "answer") answer_form (object has.members))
    (nested (codes "event") event_in (object has.members)))
  where
    refused : nothing_but entry_keys (object has.members) ≡ here (Err Unknown)
    refused = rw has.other refl

    by : (answer : ReadResult Answer) (event : ReadResult PlainEvent)
        → result_ok (of_line (answer >>= λ answer.
        event >>= λ event.
        nothing_but entry_keys (object has.members) >>= λ _.
        Ok (record { event = event; answer = answer }))) ≡ None
    by (Err fault) event = refl
    by (Ok answer) (Err fault) = refl
    by (Ok answer) (Ok event) = rw refused refl

-- a text that begins with another key is none
pub not_entry : (key text : List ℕ) → is_listed entry_keys key ≡ false → Begins key text
    → result_ok (entry_of text) ≡ None
unfolding entry_of json_of
not_entry key text other begins = go (is_utf8 text)
  where
    by : (found : Option Data) → read text ≡ found
        → result_ok (of_line (here (or_not_json found) >>= entry_form)) ≡ None
    by None is = refl
    by (Some value) is = form_other value (reads_other entry_keys key text value other begins is)

    go : (utf8 : Bool) →
        result_ok (of_line (here (if utf8 then or_not_json (read text) else Err NotJson) >>= entry_form))
        ≡ None
    go true = by (read text) refl
    go false = refl
