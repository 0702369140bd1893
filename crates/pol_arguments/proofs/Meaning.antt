-- The values that clap found, and the one task that they ask for.
use Rattle.std.proofs.Common.{◌≡◌, ℕ, Option, codes, sym, subst, ◌∙◌, ap}
use Rattle.std.proofs.lemmas.Option.{same_Some}
use Rattle.std.specs.Prelude.{List, Some, None, option_and_then}
use Rattle.clap.specs.Words.{Text, first_of, first_value, found_of, matches_of, rows_of}
use Rattle.clap.specs.declared.parser.matches.ArgMatches.{ArgMatches}
use Rattle.clap.proofs.WalkLemmas.{first_value-rows}
use Rattle.pol_arguments.specs.declared.JobForm.{JobForm}
use Rattle.pol_arguments.specs.declared.JobForm.TheVariants.{Alone, Seeded, Watched}
use Rattle.pol_arguments.specs.declared.SerialTask.TheVariants.{Demo}
use Rattle.pol_arguments.specs.declared.Task.{Task}
use Rattle.pol_arguments.specs.declared.Task.TheVariants.{Serial, Live}
use Rattle.pol_arguments.specs.Words.{pol, Asks, Gives, IsCount, IsSeed, Means, form_named, value_of}

-- the value that was found of one option is the first one of its rows
pub value_is : (words : List Text) (found : ArgMatches) (name : Text) (value : Option Text) →
    rows_of (found_of found) ≡ matches_of pol words →
    value ≡ first_value (found_of found) name → value ≡ value_of name words
value_is words found name value rows is =
    is ∙ (first_value-rows (found_of found) name ∙ ap (first_of name) rows)

-- one text says one seed
one_seed : (seed next : ℕ) (text : Text) → IsSeed seed text → IsSeed next text → seed ≡ next
one_seed seed next text given again = given.number ∙ sym again.number

-- and one number of watchers
one_count : (count next : ℕ) (text : Option Text) → IsCount count text → IsCount next text → count ≡ next
one_count count next None given again = given ∙ sym again
one_count count next (Some text) given again = given.number ∙ sym again.number

-- a job with its values is one task at most
one_given : (form : JobForm) (seed watchers : Option Text) (task other : Task) → Gives form seed watchers task →
    Gives form seed watchers other → task ≡ other
one_given (Alone job) None None task other given again = given ∙ sym again
one_given (Alone job) None (Some count) task other given again = absurd given
one_given (Alone job) (Some text) watchers task other given again = absurd given
one_given Seeded None watchers task other given again = absurd given
one_given Seeded (Some text) None task other given again =
    given.1 ∙ ap (λ number. Serial (Demo number)) (one_seed given.0 again.0 text given.2 again.2) ∙ sym again.1
one_given Seeded (Some text) (Some count) task other given again = absurd given
one_given Watched None watchers task other given again =
    given.1 ∙ ap (λ count. Live (record { watchers = count })) (one_count given.0 again.0 watchers given.2 again.2)
    ∙ sym again.1
one_given Watched (Some text) watchers task other given again = absurd given

-- where the watchers are no number, there is no plant
pub no_plant : (watchers : Option Text) → ((count : ℕ) → IsCount count watchers → ⊥) → (task : Task) →
    Gives Watched None watchers task → ⊥
no_plant watchers none task given = none given.0 given.2

-- the values that were found ask for what they give
pub asks : (words : List Text) (form : JobForm) (job seed watchers : Option Text) (task : Task) →
    job ≡ value_of (codes "job") words → seed ≡ value_of (codes "seed") words →
    watchers ≡ value_of (codes "watchers") words → Some form ≡ option_and_then form_named job →
    Gives form seed watchers task → Asks words task
asks words form job seed watchers task job_is seed_is watchers_is named given = record {
  form = form;
  named = ap (option_and_then form_named) (sym job_is) ∙ sym named;
  gives = subst (λ seed. Gives form seed (value_of (codes "watchers") words) task) seed_is
      (subst (λ watchers. Gives form seed watchers task) watchers_is given);
}

-- and for nothing where they name no job
pub unnamed : (words : List Text) (job : Option Text) (task : Task) → job ≡ value_of (codes "job") words →
    None ≡ option_and_then form_named job → Means words task → ⊥
unnamed words job task job_is none means =
    differ (none ∙ ap (option_and_then form_named) job_is ∙ means.1.named)
  where
    differ : {form : JobForm} → None ≡ Some form → ⊥
    differ is = cc

-- nor where they give none
pub ungiven : (words : List Text) (form : JobForm) (job seed watchers : Option Text) (task : Task) →
    job ≡ value_of (codes "job") words → seed ≡ value_of (codes "seed") words →
    watchers ≡ value_of (codes "watchers") words → Some form ≡ option_and_then form_named job →
    (Gives form seed watchers task → ⊥) → Means words task → ⊥
ungiven words form job seed watchers task job_is seed_is watchers_is named none means =
    let same = same_Some means.1.form form
    (sym means.1.named ∙ ap (option_and_then form_named) (sym job_is) ∙ sym named) in
    none (subst (λ form. Gives form seed watchers task) same
    (subst (λ seed. Gives means.1.form seed watchers task) (sym seed_is)
    (subst (λ watchers. Gives means.1.form (value_of (codes "seed") words) watchers task) (sym watchers_is)
    means.1.gives)))

-- words ask for one task at most
pub one_task : (words : List Text) (task other : Task) → Means words task → Means words other → task ≡ other
one_task words task other means also =
    let same = same_Some means.1.form also.1.form (sym means.1.named ∙ also.1.named) in
    one_given also.1.form (value_of (codes "seed") words) (value_of (codes "watchers") words) task other
    (subst (λ form. Gives form (value_of (codes "seed") words) (value_of (codes "watchers") words) task) same
    means.1.gives) also.1.gives
