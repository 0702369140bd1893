-- The line of a demo.
use Rattle.std.proofs.Common.{ℕ, ◌<◌, List, [], ◌∷◌, length, length-append, arith}
use Rattle.serde_json.specs.Written.{compact_text}
use Rattle.pol_history.specs.Runs.{history_after}
use Rattle.pol_demo.specs.Journal.{demo_events}
use Rattle.pol_demo.specs.Summary.{demo_output, summary_data, summary_of}

-- it isn't empty
pub some_output : (seed : ℕ) → 0 < length (demo_output seed)
some_output seed =
    let feed : List ℕ = 10 ∷ [] in
    rw (length-append (compact_text (summary_data (summary_of (history_after [] (demo_events seed)))))
    feed) (omega arith)
