-- Which steps run and which are held, as each entry of a log changes it.
use Rattle.std.specs.Prelude.{ℕ, List, [], ◌∷◌, ◌++◌, Option, Some, None}
use Rattle.chart_core.specs.declared.entry.LogEntry.{LogEntry}
use Rattle.chart_core.specs.declared.entry.LogEntry.TheVariants.{Start, Finish, Reset, End, Stop, Left, Hold, Unhold}
use Rattle.pol_history.specs.Modules.{tags_without}

-- the names of the steps that run, after one more entry
abbrev pub running_more : LogEntry → List (List ℕ) → List (List ℕ)
running_more (Start step tag service procedure) names = names ++ step ∷ []
running_more (Finish step tag service) names = names ++ step ∷ []
running_more (Reset step tag service) names = names ++ step ∷ []
running_more (End step) names = tags_without step names
running_more (Stop step tag service) names = tags_without step names
running_more (Left step state) names = tags_without step names
running_more _ names = names

-- the names of the steps that are held, after one more entry
abbrev pub held_more : LogEntry → List (List ℕ) → List (List ℕ)
held_more (Hold step tag service) names = names ++ step ∷ []
held_more (Start step tag service procedure) names = tags_without step names
held_more (Unhold step tag service) names = tags_without step names
held_more _ names = names

-- the names after one more entry, if there is one
abbrev pub after_entry : (LogEntry → List (List ℕ) → List (List ℕ)) → Option LogEntry → List (List ℕ) → List (List ℕ)
after_entry more None names = names
after_entry more (Some entry) names = more entry names
