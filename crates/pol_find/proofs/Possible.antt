-- Of each recipe one thing can be told: its least binding to the candidates, or a shortage.
use Rattle.std.proofs.Common.{◌≡◌, ◌<◌, ◌≤◌, ℕ, zero, suc, true, Option, Some, None, List, [], ◌∷◌, ◌++◌, drop, get_or}
use Rattle.std.proofs.Common.{refl, length, sym, ◌∙◌, ap, arith, length-append}
use Rattle.std.specs.List.{cons_option}
use Rattle.std.proofs.lemmas.List.{get_or_default}
use Rattle.std.proofs.lemmas.List.Elements.{recursion_from_All}
use Rattle.serde_json.specs.Data.{Data}
use Rattle.serde_json.specs.Written.{compact_text}
use Rattle.chart_core.specs.Roles.{is_chart_form}
use Rattle.pol_events.specs.Events.{plain_entry}
use Rattle.pol_events.specs.declared.event.Entry.{Entry}
use Rattle.pol_history.specs.Looking.{History}
use Rattle.pol_history.specs.Runs.{IsLegal, IsOrderly}
use Rattle.pol_match.specs.Bindings.{AreInOrder}
use Rattle.pol_match.specs.Findings.{IsToldRightly}
use Rattle.pol_match.specs.Fits.{PlainCandidate}
use Rattle.pol_match.proofs.Told.{each_rightly}
use Rattle.pol_record.specs.Texts.{line_text}
use Rattle.pol_find.specs.Candidates.{candidates_of}
use Rattle.pol_find.specs.Found.{AreFound, FindingsAreOne, IsFound, Tells, TellsEach}
use Rattle.pol_find.specs.Lines.{bad_object, bad_text}
use Rattle.pol_find.specs.Recipes.{PlainRecipe, made_known, recipes_of}
use Rattle.pol_find.specs.Told.{AreToldRightly, told_of}
use Rattle.pol_find.specs.declared.candidates.Pool.TheVariants.{Free}
use Rattle.pol_find.proofs.Entries.{recipes_in}
use Rattle.pol_find.proofs.Free.{candidates_few, candidates_in_order}
use Rattle.pol_find.proofs.Listed.{is_listed}
use Rattle.pol_find.proofs.Written.{HasText}

-- ---- what is told is right

-- of each recipe of a history
pub all_rightly : (history : History) → IsLegal history → IsOrderly history →
    AreToldRightly (candidates_of history) (recipes_of history)
all_rightly history legal orderly =
    recursion_from_All (λ recipe. IsToldRightly recipe.chart (candidates_of history)) (recipes_of history)
    (λ at blank low. let recipe = get_or (recipes_of history) at blank in
    let is = is_listed history recipe legal orderly
    (at, low, get_or_default (recipes_of history) at recipe blank low) in
    each_rightly recipe.chart (candidates_of history) is.formed (candidates_few Free history legal)
    (candidates_in_order Free history))

-- what is right of each recipe is right of those behind an entry
pub rightly_behind : (candidates : List PlainCandidate) (entries : List Entry) (at : ℕ) →
    AreToldRightly candidates (recipes_in entries) → AreToldRightly candidates (recipes_in (drop at entries))
rightly_behind candidates [] zero right = right
rightly_behind candidates [] (suc at) right = right
rightly_behind candidates (entry ∷ entries) zero right = right
rightly_behind candidates (entry ∷ entries) (suc at) right =
    rightly_behind candidates entries at (behind (made_known (plain_entry entry)) right)
  where
    behind : (first : Option PlainRecipe) → AreToldRightly candidates (cons_option first (recipes_in entries)) →
        AreToldRightly candidates (recipes_in entries)
    behind None all = all
    behind (Some recipe) all = all.1

-- ---- what can be told

-- of a recipe
pub can_tell : (candidates : List PlainCandidate) (recipe : PlainRecipe) → is_chart_form recipe.chart ≡ true →
    length candidates ≤ 64 → AreInOrder candidates → HasText (Tells candidates recipe)
can_tell candidates recipe formed few sorted = (
  line_text (told_of candidates recipe),
  record { is = refl; right = each_rightly recipe.chart candidates formed few sorted },
)

-- of each of these recipes
pub can_tell_each : (candidates : List PlainCandidate) (recipes : List PlainRecipe) →
    AreToldRightly candidates recipes → HasText (TellsEach candidates recipes)
can_tell_each candidates [] right = ([], refl)
can_tell_each candidates (recipe ∷ recipes) right =
    let line = line_text (told_of candidates recipe) in
    let rest = can_tell_each candidates recipes right.1 in (
      line ++ rest.0,
      record {
        first = line;
        second = rest.0;
        one = record { is = refl; right = right.0 };
        other = rest.1;
        is = refl;
      },
    )

-- after a legal and orderly history
pub can_be_found : AreFound
can_be_found history bad legal orderly =
    let each = can_tell_each (candidates_of history) (recipes_of history) (all_rightly history legal orderly) in (
      each.0 ++ bad_text bad,
      record { first = each.0; second = bad_text bad; one = each.1; other = refl; is = refl },
    )

-- of each recipe there is one text alone
one_each : (candidates : List PlainCandidate) (recipes : List PlainRecipe) (one other : List ℕ) →
    TellsEach candidates recipes one → TellsEach candidates recipes other → one ≡ other
one_each candidates [] one other first second = first ∙ sym second
one_each candidates (recipe ∷ recipes) one other first second =
    first.is
    ∙ (ap (λ line. line ++ first.second) (first.one.is ∙ sym second.one.is)
    ∙ (ap (λ rest. second.first ++ rest) (one_each candidates recipes first.second second.second first.other
    second.other)
    ∙ sym second.is))

-- so there is one of all
pub one_found : FindingsAreOne
one_found history bad one other first second =
    first.is
    ∙ (ap (λ line. line ++ first.second)
    (one_each (candidates_of history) (recipes_of history) first.first second.first first.one second.one)
    ∙ (ap (λ rest. second.first ++ rest) (first.other ∙ sym second.other)
    ∙ sym second.is))

-- ---- no line is empty

-- a line ends in a line feed
some_line : (value : Data) → 0 < length (line_text value)
some_line value =
    let feed : List ℕ = 10 ∷ [] in rw (length-append (compact_text value) feed) (omega arith)

-- so what tells a recipe isn't empty
pub some_told : (candidates : List PlainCandidate) (recipe : PlainRecipe) (text : List ℕ) →
    Tells candidates recipe text → 0 < length text
some_told candidates recipe text tells = rw tells.is (some_line _)

-- nor is the last line
pub some_bad : (bad : ℕ) → 0 < length (bad_text bad)
some_bad bad = some_line (bad_object bad)

-- nor all that is found
pub some_found : (history : History) (bad : ℕ) (text : List ℕ) → IsFound history bad text → 0 < length text
some_found history bad text found =
    let last = some_bad bad in
    let size = ap length found.is in
    let sum = length-append found.first found.second in
    let same = ap length found.other in
    omega arith
